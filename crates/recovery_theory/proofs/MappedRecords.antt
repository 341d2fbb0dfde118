-- Groups get and lose their pages; the records stay.
use Rattle.std.proofs.Common.{◌≡◌, ◌≢◌, ◌⊎◌, inl, inr, ℕ, suc, ◌+◌, ◌<◌, ◌≤◌, Bool, true, false, cond, eqb, leb, List, [], length, take, refl, ap, sym, subst, ◌∙◌, arith, None, eq-eqb, ne_eqb, leb-true, leb-false}
use Rattle.std.proofs.lemmas.Bool.{cases_eq, cases_Bool, both_ways}
use mathlib.Core.Path.{fun_ext}
use Rattle.sd_base.specs.Places.{first_key, group_of, keys_per_group, map_of_group, page_of_place, slot_of_key}
use Rattle.sd_base.specs.Shape.{pages_per_map}
use Rattle.log_record.specs.declared.record.LogRecord.{LogRecord}
use Rattle.recovery_theory.specs.Effect.{Transaction, of_slot, listed, left_of, open_updates, effect_of}
use Rattle.recovery_theory.specs.Effect.Effect.{Mapped}
use Rattle.recovery_theory.specs.History.{History, IsHistory, IsCut, logs_at, entry_at, image_at, image_now, entry_now}
use Rattle.recovery_theory.specs.Records.{HasRecords, Holds, UseKeepsRecords, FreeKeepsRecords}
use Rattle.recovery_theory.specs.Pages.{SlotValue, blank, entries_of, birth_of, is_used, entry_group}
use Rattle.recovery_theory.specs.Steps.{with_record, set_at, with_last_cut, logged}
use Rattle.sd_base.specs.declared.page_op.PageOp.{PageOp}
use Rattle.sd_base.specs.declared.page_op.PageOp.TheVariants.{MapUse, MapFree}
use Rattle.space_map.specs.declared.map_entry.MapEntry.{MapEntry}
use Rattle.space_map.specs.declared.map_entry.MapEntry.TheVariants.{Free, Used}
use Rattle.recovery_theory.proofs.Cuts.{set_at-same, set_at-other, with_record-other, with_last_cut-below, with_last_cut-above, with_last_cut-end, with_last_cut-off, LongCut, long_cut, below_legal, below_same, above_same, above_legal}
use Rattle.recovery_theory.proofs.PlaceFrees.{frees, open-map}
use Rattle.recovery_theory.proofs.OpenUpdates.{list_cases}
use Rattle.recovery_theory.proofs.PlaceUses.{uses}
use Rattle.space_map.specs.PageImage.{PageImage, ident_of, changed}

-- page x, which n guards, gets the entry e by a record of a map page
pub mapped_holds : (p : History) (n b m x : ℕ) (op : PageOp) (r : LogRecord) (e : MapEntry) (now : ℕ → PageImage) (last : ℕ → ℕ) (records : ℕ → SlotValue) → Holds p records → effect_of r ≡ Mapped m b op
    → IsHistory (logged p n r (set_at x e (entry_now p)) now last)
    → p.guard x ≡ n
    → ((cut : ℕ → ℕ) → IsCut p cut → (s : ℕ) (o : Transaction) → of_slot x s (open_updates p.devices.first (logs_at p cut) o) ≡ [])
    → ((cut : ℕ → ℕ) → IsCut p cut → cut n ≡ length (p.live n) → HasRecords p.devices.shape (entry_at p cut) p.settled records → HasRecords p.devices.shape (set_at x e (entry_at p cut)) p.settled records)
    → Holds (logged p n r (set_at x e (entry_now p)) now last) records
mapped_holds p n b m x op r e now last records holds is_map history g quiet turns = record {
  history = history;
  keys = λ cut is. keys cut (long_cut p n r cut is) (leb (cut n) (length (p.live n))) refl;
  pending = λ cut is y s o h. pending cut (long_cut p n r cut is) y s o h (leb (cut n) (length (p.live n))) refl;
}
  where
    entry : (cut : ℕ → ℕ) → length (p.live n) < cut n → (y : ℕ) → set_at x e (entry_at p (set_at n (length (p.live n)) cut)) y ≡ with_last_cut p n p.entry (set_at x e (entry_now p)) y (cut (p.guard y))
    entry cut lt y = was (cases_eq (p.guard y) n) (cases_eq y x) ∙ with_last_cut-above p n p.entry (set_at x e (entry_now p)) y cut lt
      where
        at_guard : p.guard y ≡ n → set_at n (length (p.live n)) cut (p.guard y) ≡ length (p.live (p.guard y))
        at_guard g = rw (g, set_at-same n (length (p.live n)) cut) refl

        was : (p.guard y ≡ n) ⊎ (p.guard y ≢ n) → (y ≡ x) ⊎ (y ≢ x) → set_at x e (entry_at p (set_at n (length (p.live n)) cut)) y ≡ cond (eqb (p.guard y) n) (set_at x e (entry_now p) y) (entry_at p (set_at n (length (p.live n)) cut) y)
        was (inl h) (inl z) = rw (eq-eqb (p.guard y) n h, eq-eqb y x z) refl
        was (inl h) (inr d) = rw (eq-eqb (p.guard y) n h, ne_eqb y x d) (ap (p.entry y) (at_guard h))
        was (inr h) (inl z) = absurd (h (ap p.guard z ∙ g))
        was (inr h) (inr d) = rw (ne_eqb (p.guard y) n h, ne_eqb y x d) refl

    now_same : (y : ℕ) → y ≢ x → entry_now p y ≡ with_last_cut p n p.entry (set_at x e (entry_now p)) y (length (with_record n r p.live (p.guard y)))
    now_same y d = go (cases_eq (p.guard y) n)
      where
        go : (p.guard y ≡ n) ⊎ (p.guard y ≢ n) → entry_now p y ≡ with_last_cut p n p.entry (set_at x e (entry_now p)) y (length (with_record n r p.live (p.guard y)))
        go (inl h) = sym (with_last_cut-end p n r p.entry (set_at x e (entry_now p)) y h ∙ set_at-other x e (entry_now p) y d)
        go (inr h) = ap (p.entry y) (ap (λ (l : List LogRecord). length l) (sym (with_record-other n r p.live (p.guard y) h))) ∙ sym (with_last_cut-off p n p.entry (set_at x e (entry_now p)) y (length (with_record n r p.live (p.guard y))) h)

    here : (cut : ℕ → ℕ) → set_at n (length (p.live n)) cut n ≡ length (p.live n)
    here cut = set_at-same n (length (p.live n)) cut

    keys : (cut : ℕ → ℕ) → LongCut p n r cut → (t : Bool) → leb (cut n) (length (p.live n)) ≡ t → HasRecords p.devices.shape (λ y. with_last_cut p n p.entry (set_at x e (entry_now p)) y (cut (p.guard y))) p.settled records
    keys cut c true h =
        let le : cut n ≤ length (p.live n) = leb-true (cut n) (length (p.live n)) h in
        subst (λ (f : ℕ → MapEntry). HasRecords p.devices.shape f p.settled records) (fun_ext (λ y. with_last_cut-below p n p.entry (set_at x e (entry_now p)) y cut le)) (holds.keys cut (below_legal p n r cut c le))
    keys cut c false h =
        let lt : length (p.live n) < cut n = leb-false (cut n) (length (p.live n)) h in
        let is : IsCut p (set_at n (length (p.live n)) cut) = above_legal p n r cut (holds.history.sound n) c in
        subst (λ (f : ℕ → MapEntry). HasRecords p.devices.shape f p.settled records) (fun_ext (entry cut lt))
        (turns (set_at n (length (p.live n)) cut) is (here cut) (holds.keys (set_at n (length (p.live n)) cut) is))

    pending : (cut : ℕ → ℕ) → LongCut p n r cut → (y s : ℕ) (o : Transaction) → of_slot y s (open_updates p.devices.first (λ k. take (cut k) (with_record n r p.live k)) o) ≢ [] → (t : Bool) → leb (cut n) (length (p.live n)) ≡ t
        → (with_last_cut p n p.entry (set_at x e (entry_now p)) y (cut (p.guard y)) ≡ with_last_cut p n p.entry (set_at x e (entry_now p)) y (length (with_record n r p.live (p.guard y)))) × ((is_used (with_last_cut p n p.entry (set_at x e (entry_now p)) y (length (with_record n r p.live (p.guard y))))) ≡ true)
    pending cut c y s o h true z =
        let le : cut n ≤ length (p.live n) = leb-true (cut n) (length (p.live n)) z in
        let is = below_legal p n r cut c le in
        let h' : of_slot y s (open_updates p.devices.first (logs_at p cut) o) ≢ [] = λ k. h (ap (λ l. of_slot y s (listed (left_of o.txn (p.devices.first o.node) l None))) (sym (below_same p n r cut le o.node)) ∙ k) in
        let d : y ≢ x = λ k. h' (ap (λ j. of_slot j s (open_updates p.devices.first (logs_at p cut) o)) k ∙ quiet cut is s o) in
        let old = holds.pending cut is y s o h' in
        (sym (with_last_cut-below p n p.entry (set_at x e (entry_now p)) y cut le) ∙ (old.0 ∙ now_same y d), ap is_used (sym (now_same y d)) ∙ old.1)
    pending cut c y s o h false z =
        let lt : length (p.live n) < cut n = leb-false (cut n) (length (p.live n)) z in
        let is : IsCut p (set_at n (length (p.live n)) cut) = above_legal p n r cut (holds.history.sound n) c in
        let h' : of_slot y s (open_updates p.devices.first (logs_at p (set_at n (length (p.live n)) cut)) o) ≢ [] =
        λ k. h (ap (λ l. of_slot y s (listed (left_of o.txn (p.devices.first o.node) l None))) (sym (above_same p n r cut lt o.node)) ∙ (ap (of_slot y s) (open-map p.devices.first n m b op r (logs_at p (set_at n (length (p.live n)) cut)) o is_map) ∙ k)) in
        let d : y ≢ x = λ k. h' (ap (λ j. of_slot j s (open_updates p.devices.first (logs_at p (set_at n (length (p.live n)) cut)) o)) k ∙ quiet (set_at n (length (p.live n)) cut) is s o) in
        let old = holds.pending (set_at n (length (p.live n)) cut) is y s o h' in
        (sym (entry cut lt y) ∙ (set_at-other x e (entry_at p (set_at n (length (p.live n)) cut)) y d ∙ (old.0 ∙ now_same y d)), ap is_used (sym (now_same y d)) ∙ old.1)

-- where the guard's log isn't cut, the entries of a map page are those at the end
pub map_entries : (p : History) (n m j : ℕ) (cut : ℕ → ℕ) → IsHistory p → IsCut p cut → p.guard m ≡ n → cut n ≡ length (p.live n) → m < p.devices.shape.maps → j < pages_per_map → entry_at p cut (page_of_place p.devices.shape m j) ≡ entry_now p (page_of_place p.devices.shape m j)
map_entries p n m j cut history is g c lt le =
    let end : ℕ → ℕ = λ k. length (p.live k) in
    let is_end : IsCut p end = λ k. (history.sound k, omega arith) in
    let a = (history.stands cut is).lives m j lt le in
    let b = (history.stands end is_end).lives m j lt le in
    let same : image_at p cut m ≡ image_now p m = ap (p.image m) (ap cut g ∙ (c ∙ ap (λ k. length (p.live k)) (sym g))) in
    a ∙ (ap (λ (i : PageImage). entries_of i j) same ∙ sym b)

-- nothing is left of a page that no group has
pub nothing_left : (p : History) (x : ℕ) (records : ℕ → SlotValue) → Holds p records → is_used (entry_now p x) ≡ false → (cut : ℕ → ℕ) → IsCut p cut → (s : ℕ) (o : Transaction) → of_slot x s (open_updates p.devices.first (logs_at p cut) o) ≡ []
nothing_left p x records holds free cut is s o = go (list_cases (of_slot x s (open_updates p.devices.first (logs_at p cut) o)))
  where
    go : (of_slot x s (open_updates p.devices.first (logs_at p cut) o) ≡ []) ⊎ (of_slot x s (open_updates p.devices.first (logs_at p cut) o) ≢ []) → of_slot x s (open_updates p.devices.first (logs_at p cut) o) ≡ []
    go (inl e) = e
    go (inr d) = absurd (both_ways (is_used (entry_now p x)) free (holds.pending cut is x s o d).1)

pub use_keeps : UseKeepsRecords
use_keeps p n m q g r records holds use_it may = mapped_holds p n (ident_of (image_now p m)) m (page_of_place p.devices.shape m q) (MapUse q g) r (Used g (birth_of (entry_now p (page_of_place p.devices.shape m q))))
    (set_at m (changed (MapUse q g) (image_now p m)) (image_now p)) (set_at (page_of_place p.devices.shape m q) (suc (length (p.live n))) (set_at m (suc (length (p.live n))) p.last)) records holds use_it.effect
    (uses p n m q g r holds.history use_it) use_it.guarded_page (nothing_left p (page_of_place p.devices.shape m q) records holds may.free) turns
  where
    page : ℕ → ℕ → ℕ
    page i j = page_of_place p.devices.shape i j

    x : ℕ
    x = page m q

    e : MapEntry
    e = Used g (birth_of (entry_now p (page m q)))

    turns : (cut : ℕ → ℕ) → IsCut p cut → cut n ≡ length (p.live n) → HasRecords p.devices.shape (entry_at p cut) p.settled records → HasRecords p.devices.shape (set_at (page m q) (Used g (birth_of (entry_now p (page m q)))) (entry_at p cut)) p.settled records
    turns cut is c k = record {
      home = λ i j lt le u. home' i j lt le u (cases_eq (page i j) x);
      once = λ i j l lt le ll u v h. once i j l lt le ll u v h (cases_eq (page i j) x) (cases_eq (page i l) x);
      value = λ i j s lt le ls u. value i j s lt le ls u (cases_eq (page i j) x);
      absent = λ key f. k.absent key (λ i j lt le u h. gone key f i j lt le u h (cases_eq (page i j) x));
      empty = λ i j s lt le u. empty i j s lt le u (cases_eq (page i j) x);
    }
      where
        B : ℕ → MapEntry
        B = entry_at p cut

        E : ℕ → MapEntry
        E = set_at x e (entry_at p cut)

        same : (j : ℕ) → j < pages_per_map → entry_at p cut (page m j) ≡ entry_now p (page m j)
        same j le = map_entries p n m j cut holds.history is use_it.guarded_map c use_it.is_map le

        was_free : is_used (entry_at p cut x) ≡ false
        was_free = ap is_used (same q use_it.in_map) ∙ may.free

        no_page : (i j : ℕ) → i < p.devices.shape.maps → j < pages_per_map → is_used (entry_at p cut (page i j)) ≡ true → entry_group (entry_at p cut (page i j)) ≢ g.0
        no_page i j lt le u h =
            let z : i ≡ m = sym (k.home i j lt le u) ∙ (ap (λ t. map_of_group p.devices.shape (record { 0 = t })) h ∙ may.home) in
            let u' : is_used (entry_at p cut (page m j)) ≡ true = subst (λ t. (is_used (entry_at p cut (page t j))) ≡ true) z u in
            let h' : entry_group (entry_at p cut (page m j)) ≡ g.0 = subst (λ t. (entry_group (entry_at p cut (page t j))) ≡ g.0) z h in
            may.none j le (ap is_used (sym (same j le)) ∙ u') (ap entry_group (sym (same j le)) ∙ h')

        home' : (i j : ℕ) → i < p.devices.shape.maps → j < pages_per_map → is_used (set_at x e (entry_at p cut) (page i j)) ≡ true → (page i j ≡ x) ⊎ (page i j ≢ x) → map_of_group p.devices.shape (record { 0 = entry_group (set_at x e (entry_at p cut) (page i j)) }) ≡ i
        home' i j lt le u (inl z) = let i' : i ≡ m = omega (arith, use_it.is_map, use_it.in_map) in rw (z, set_at-same x e (entry_at p cut)) (may.home ∙ sym i')
        home' i j lt le u (inr d) = rw (set_at-other x e (entry_at p cut) (page i j) d) (k.home i j lt le (rw (set_at-other x e (entry_at p cut) (page i j) d) at u))

        once : (i j l : ℕ) → i < p.devices.shape.maps → j < pages_per_map → l < pages_per_map → is_used (set_at x e (entry_at p cut) (page i j)) ≡ true → is_used (set_at x e (entry_at p cut) (page i l)) ≡ true → entry_group (set_at x e (entry_at p cut) (page i j)) ≡ entry_group (set_at x e (entry_at p cut) (page i l))
            → (page i j ≡ x) ⊎ (page i j ≢ x) → (page i l ≡ x) ⊎ (page i l ≢ x) → j ≡ l
        once i j l lt le ll u v h (inl z) (inl y) = omega (arith, use_it.is_map, use_it.in_map)
        once i j l lt le ll u v h (inl z) (inr y) =
            let v' = rw (set_at-other x e (entry_at p cut) (page i l) y) at v in
            let h' : g.0 ≡ entry_group (entry_at p cut (page i l)) = rw (z, set_at-same x e (entry_at p cut), set_at-other x e (entry_at p cut) (page i l) y) at h in
            absurd (no_page i l lt ll v' (sym h'))
        once i j l lt le ll u v h (inr z) (inl y) =
            let u' = rw (set_at-other x e (entry_at p cut) (page i j) z) at u in
            let h' : entry_group (entry_at p cut (page i j)) ≡ g.0 = rw (y, set_at-same x e (entry_at p cut), set_at-other x e (entry_at p cut) (page i j) z) at h in
            absurd (no_page i j lt le u' h')
        once i j l lt le ll u v h (inr z) (inr y) = k.once i j l lt le ll (rw (set_at-other x e (entry_at p cut) (page i j) z) at u) (rw (set_at-other x e (entry_at p cut) (page i l) y) at v)
            (rw (set_at-other x e (entry_at p cut) (page i j) z, set_at-other x e (entry_at p cut) (page i l) y) at h)

        value : (i j s : ℕ) → i < p.devices.shape.maps → j < pages_per_map → s < keys_per_group → is_used (set_at x e (entry_at p cut) (page i j)) ≡ true → (page i j ≡ x) ⊎ (page i j ≢ x)
            → records (first_key (entry_group (set_at x e (entry_at p cut) (page i j))) + s) ≡ p.settled (page i j) s
        value i j s lt le ls u (inl z) = rw (z, set_at-same x e (entry_at p cut))
            (k.absent (first_key g.0 + s) (λ a b la lb ub h. no_page a b la lb ub (h ∙ omega (arith, use_it.is_map, use_it.in_map))) ∙ sym (k.empty m q s use_it.is_map use_it.in_map was_free))
        value i j s lt le ls u (inr d) = rw (set_at-other x e (entry_at p cut) (page i j) d) (k.value i j s lt le ls (rw (set_at-other x e (entry_at p cut) (page i j) d) at u))

        gone : (key : ℕ) → ((i j : ℕ) → i < p.devices.shape.maps → j < pages_per_map → is_used (set_at x e (entry_at p cut) (page i j)) ≡ true → entry_group (set_at x e (entry_at p cut) (page i j)) ≢ (group_of key).0)
            → (i j : ℕ) → i < p.devices.shape.maps → j < pages_per_map → is_used (entry_at p cut (page i j)) ≡ true → entry_group (entry_at p cut (page i j)) ≡ (group_of key).0 → (page i j ≡ x) ⊎ (page i j ≢ x) → ⊥
        gone key f i j lt le u h (inl z) = both_ways (is_used (entry_at p cut x)) was_free (ap (λ t. (is_used (entry_at p cut t))) (sym z) ∙ u)
        gone key f i j lt le u h (inr d) = f i j lt le (rw (set_at-other x e (entry_at p cut) (page i j) d) u) (rw (set_at-other x e (entry_at p cut) (page i j) d) h)

        empty : (i j s : ℕ) → i < p.devices.shape.maps → j < pages_per_map → is_used (set_at x e (entry_at p cut) (page i j)) ≡ false → (page i j ≡ x) ⊎ (page i j ≢ x) → p.settled (page i j) s ≡ None
        empty i j s lt le u (inl z) = let u' : true ≡ false = rw (z, set_at-same x e (entry_at p cut)) at u in absurd cc
        empty i j s lt le u (inr d) = k.empty i j s lt le (rw (set_at-other x e (entry_at p cut) (page i j) d) at u)

pub free_keeps : FreeKeepsRecords
free_keeps p n m q r records holds free = mapped_holds p n (ident_of (image_now p m)) m (page_of_place p.devices.shape m q) (MapFree q (suc (ident_of (image_now p (page_of_place p.devices.shape m q))))) r (Free (suc (ident_of (image_now p (page_of_place p.devices.shape m q)))))
    (set_at (page_of_place p.devices.shape m q) (blank (page_of_place p.devices.shape m q) (suc (ident_of (image_now p (page_of_place p.devices.shape m q))))) (set_at m (changed (MapFree q (suc (ident_of (image_now p (page_of_place p.devices.shape m q))))) (image_now p m)) (image_now p)))
    (set_at (page_of_place p.devices.shape m q) (suc (length (p.live n))) (set_at m (suc (length (p.live n))) p.last)) records holds free.effect
    (frees p n m q r holds.history free) free.guarded_page quiet turns
  where
    page : ℕ → ℕ → ℕ
    page i j = page_of_place p.devices.shape i j

    x : ℕ
    x = page m q

    e : MapEntry
    e = Free (suc (ident_of (image_now p (page m q))))

    quiet : (cut : ℕ → ℕ) → IsCut p cut → (s : ℕ) (o : Transaction) → of_slot (page m q) s (open_updates p.devices.first (logs_at p cut) o) ≡ []
    quiet cut is s o = go (list_cases (of_slot (page m q) s (open_updates p.devices.first (logs_at p cut) o)))
      where
        go : (of_slot (page m q) s (open_updates p.devices.first (logs_at p cut) o) ≡ []) ⊎ (of_slot (page m q) s (open_updates p.devices.first (logs_at p cut) o) ≢ []) → of_slot (page m q) s (open_updates p.devices.first (logs_at p cut) o) ≡ []
        go (inl z) = z
        go (inr z) = let a = (holds.history.stands cut is).locks (page m q) s o z in let b = (free.empty s).1 in absurd cc

    turns : (cut : ℕ → ℕ) → IsCut p cut → cut n ≡ length (p.live n) → HasRecords p.devices.shape (entry_at p cut) p.settled records → HasRecords p.devices.shape (set_at (page m q) (Free (suc (ident_of (image_now p (page m q))))) (entry_at p cut)) p.settled records
    turns cut is c k = record {
      home = λ i j lt le u. let d = other i j u in rw (set_at-other x e (entry_at p cut) (page i j) d) (k.home i j lt le (rw (set_at-other x e (entry_at p cut) (page i j) d) at u));
      once = λ i j l lt le ll u v h. let d = other i j u in let f = other i l v in k.once i j l lt le ll (rw (set_at-other x e (entry_at p cut) (page i j) d) at u) (rw (set_at-other x e (entry_at p cut) (page i l) f) at v)
          (rw (set_at-other x e (entry_at p cut) (page i j) d, set_at-other x e (entry_at p cut) (page i l) f) at h);
      value = λ i j s lt le ls u. let d = other i j u in rw (set_at-other x e (entry_at p cut) (page i j) d) (k.value i j s lt le ls (rw (set_at-other x e (entry_at p cut) (page i j) d) at u));
      absent = λ key f. absent key f (cases_Bool (is_used (entry_at p cut x))) (cases_eq (entry_group (entry_at p cut x)) (group_of key).0);
      empty = λ i j s lt le u. empty i j s lt le u (cases_eq (page i j) x);
    }
      where
        other : (i j : ℕ) → is_used (set_at x e (entry_at p cut) (page i j)) ≡ true → page i j ≢ x
        other i j u z = let u' : false ≡ true = rw (z, set_at-same x e (entry_at p cut)) at u in absurd cc

        absent : (key : ℕ) → ((i j : ℕ) → i < p.devices.shape.maps → j < pages_per_map → is_used (set_at x e (entry_at p cut) (page i j)) ≡ true → entry_group (set_at x e (entry_at p cut) (page i j)) ≢ (group_of key).0)
            → (is_used (entry_at p cut x) ≡ true) ⊎ (is_used (entry_at p cut x) ≡ false) → (entry_group (entry_at p cut x) ≡ (group_of key).0) ⊎ (entry_group (entry_at p cut x) ≢ (group_of key).0) → records key ≡ None
        absent key f (inl u) (inl h) =
            let s : first_key (entry_group (entry_at p cut x)) + slot_of_key key ≡ key = omega (arith, free.is_map, free.in_map) in
            ap records (sym s) ∙ (k.value m q (slot_of_key key) free.is_map free.in_map (omega (arith, free.is_map, free.in_map)) u ∙ (free.empty (slot_of_key key)).0)
        absent key f (inr u) h = k.absent key (λ i j lt le v z. gone i j lt le v z (cases_eq (page i j) x))
          where
            gone : (i j : ℕ) → i < p.devices.shape.maps → j < pages_per_map → is_used (entry_at p cut (page i j)) ≡ true → entry_group (entry_at p cut (page i j)) ≡ (group_of key).0 → (page i j ≡ x) ⊎ (page i j ≢ x) → ⊥
            gone i j lt le v z (inl y) = both_ways (is_used (entry_at p cut x)) u (ap (λ t. (is_used (entry_at p cut t))) (sym y) ∙ v)
            gone i j lt le v z (inr d) = f i j lt le (rw (set_at-other x e (entry_at p cut) (page i j) d) v) (rw (set_at-other x e (entry_at p cut) (page i j) d) z)
        absent key f (inl u) (inr h) = k.absent key (λ i j lt le v z. gone i j lt le v z (cases_eq (page i j) x))
          where
            gone : (i j : ℕ) → i < p.devices.shape.maps → j < pages_per_map → is_used (entry_at p cut (page i j)) ≡ true → entry_group (entry_at p cut (page i j)) ≡ (group_of key).0 → (page i j ≡ x) ⊎ (page i j ≢ x) → ⊥
            gone i j lt le v z (inl y) = h (ap (λ t. (entry_group (entry_at p cut t))) (sym y) ∙ z)
            gone i j lt le v z (inr d) = f i j lt le (rw (set_at-other x e (entry_at p cut) (page i j) d) v) (rw (set_at-other x e (entry_at p cut) (page i j) d) z)

        empty : (i j s : ℕ) → i < p.devices.shape.maps → j < pages_per_map → is_used (set_at x e (entry_at p cut) (page i j)) ≡ false → (page i j ≡ x) ⊎ (page i j ≢ x) → p.settled (page i j) s ≡ None
        empty i j s lt le u (inl z) = ap (λ t. p.settled t s) z ∙ (free.empty s).0
        empty i j s lt le u (inr d) = k.empty i j s lt le (rw (set_at-other x e (entry_at p cut) (page i j) d) at u)
