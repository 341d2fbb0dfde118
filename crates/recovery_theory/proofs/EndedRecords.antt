-- A commit overlays the records with what its transaction wrote, and changes nothing else.
use Rattle.std.proofs.Common.{◌≡◌, ◌≢◌, ◌⊎◌, inl, inr, ℕ, zero, suc, ◌+◌, ◌<◌, ◌≤◌, ◌&&◌, Bool, true, false, eqb, List, [], ◌∷◌, length, refl, ap, sym, subst, ◌∙◌, arith, None, eq-eqb, eqb-true, mod-lt, take_all, length-append}
use Rattle.std.proofs.lemmas.Bool.{cases_eq, cases_lt, and_parts, both_ways, and_from}
use mathlib.Core.Path.{fun_ext}
use Rattle.sd_base.specs.Places.{first_key, group_of, keys_per_group, map_of_group, map_of_key, page_of_place, slot_of_key}
use Rattle.sd_base.specs.Shape.{pages_per_map}
use Rattle.log_record.specs.declared.record.LogRecord.{LogRecord}
use Rattle.recovery_theory.specs.Effect.{listed, left_of, Transaction, of_slot, open_updates, OpenUpdate}
use Rattle.recovery_theory.specs.History.{History, IsCut, logs_at, entry_at, entry_now}
use Rattle.recovery_theory.specs.Records.{HasRecords, EndOverlaysRecords, EndOfNothingKeepsRecords}
use Rattle.recovery_theory.specs.Pages.{SlotValue, is_used, entry_group}
use Rattle.recovery_theory.specs.Standing.{Devices, with_updates}
use Rattle.recovery_theory.specs.Steps.{with_record, set_at, ended}
use Rattle.space_map.specs.declared.map_entry.MapEntry.{MapEntry}
use Rattle.recovery_theory.proofs.Cuts.{set_at-same, set_at-other, with_record-same, with_record-other, entry_at-above, entry_now-above, LongCut, above_same, above_legal}
use Rattle.recovery_theory.proofs.Ends.{ends_history, end_closes}
use Rattle.recovery_theory.proofs.OpenUpdates.{transaction, transaction_cases, list_cases}

-- a search below a bound
pub search_below : (test : ℕ → Bool) (n : ℕ) → ((q : ℕ) × (q < n) × (test q ≡ true)) ⊎ ((q : ℕ) → q < n → test q ≡ false)
search_below test zero = inr (λ q lt. absurd (omega arith))
search_below test (suc n) = go (test n) refl (search_below test n)
  where
    go : (t : Bool) → test n ≡ t → ((q : ℕ) × (q < n) × (test q ≡ true)) ⊎ ((q : ℕ) → q < n → test q ≡ false) → ((q : ℕ) × (q < suc n) × (test q ≡ true)) ⊎ ((q : ℕ) → q < suc n → test q ≡ false)
    go true e h = inl (n, omega arith, e)
    go false e (inl (q, lt, h)) = inl (q, omega arith, h)
    go false e (inr h) = inr (λ q lt. pick q lt (cases_eq q n))
      where
        pick : (q : ℕ) → q < suc n → (q ≡ n) ⊎ (q ≢ n) → test q ≡ false
        pick q lt (inl z) = ap test z ∙ e
        pick q lt (inr d) = h q (omega arith)

module _ (w : Devices) (now at_cut : ℕ → MapEntry) (settled : ℕ → ℕ → SlotValue) (records after : ℕ → SlotValue) (writes : ℕ → ℕ → SlotValue → SlotValue) (idle : ℕ → ℕ → Type 0)
    (decides : (x s : ℕ) → (idle x s) ⊎ ((at_cut x ≡ now x) × (is_used (now x) ≡ true)))
    (quiet : (x s : ℕ) → idle x s → (v : SlotValue) → writes x s v ≡ v)
    (old : HasRecords w.shape at_cut settled records) (home_now : (m q : ℕ) → m < w.shape.maps → q < pages_per_map → is_used (now (page_of_place w.shape m q)) ≡ true → map_of_group w.shape (record { 0 = entry_group (now (page_of_place w.shape m q)) }) ≡ m)
    (there : (m q s : ℕ) → m < w.shape.maps → q < pages_per_map → s < keys_per_group → is_used (now (page_of_place w.shape m q)) ≡ true → after (first_key (entry_group (now (page_of_place w.shape m q))) + s) ≡ writes (page_of_place w.shape m q) s (records (first_key (entry_group (now (page_of_place w.shape m q))) + s)))
    (gone : (k : ℕ) → ((m q : ℕ) → m < w.shape.maps → q < pages_per_map → is_used (now (page_of_place w.shape m q)) ≡ true → entry_group (now (page_of_place w.shape m q)) ≢ (group_of k).0) → after k ≡ records k) where
  abbrev page : ℕ → ℕ → ℕ
  page m q = page_of_place w.shape m q

  -- the page that the group has at the end, if it has one
  look : (m g : ℕ) → m < w.shape.maps → map_of_group w.shape (record { 0 = g }) ≡ m → ((q : ℕ) × (q < pages_per_map) × (is_used (now (page m q)) ≡ true) × (entry_group (now (page m q)) ≡ g)) ⊎ ((k q : ℕ) → k < w.shape.maps → q < pages_per_map → is_used (now (page k q)) ≡ true → entry_group (now (page k q)) ≢ g)
  look m g lt h = go (search_below (λ q. (is_used (now (page m q))) && eqb (entry_group (now (page m q))) g) pages_per_map)
    where
      go : ((q : ℕ) × (q < pages_per_map) × (((is_used (now (page m q))) && eqb (entry_group (now (page m q))) g) ≡ true)) ⊎ ((q : ℕ) → q < pages_per_map → ((is_used (now (page m q))) && eqb (entry_group (now (page m q))) g) ≡ false)
          → ((q : ℕ) × (q < pages_per_map) × (is_used (now (page m q)) ≡ true) × (entry_group (now (page m q)) ≡ g)) ⊎ ((k q : ℕ) → k < w.shape.maps → q < pages_per_map → is_used (now (page k q)) ≡ true → entry_group (now (page k q)) ≢ g)
      go (inl (q, le, e)) = let b = and_parts (is_used (now (page m q))) (eqb (entry_group (now (page m q))) g) e in inl (q, le, b.0, eqb-true (entry_group (now (page m q))) g b.1)
      go (inr f) = inr (λ k q lt' le u e. let z : k ≡ m = sym (home_now k q lt' le u) ∙ (ap (λ j. map_of_group w.shape (record { 0 = j })) e ∙ h) in
          let u' : is_used (now (page m q)) ≡ true = subst (λ j. (is_used (now (page j q))) ≡ true) z u in
          let e' : entry_group (now (page m q)) ≡ g = subst (λ j. (entry_group (now (page j q))) ≡ g) z e in
          both_ways ((is_used (now (page m q))) && eqb (entry_group (now (page m q))) g) (f q le) (and_from (is_used (now (page m q))) (eqb (entry_group (now (page m q))) g) u' (eq-eqb (entry_group (now (page m q))) g e')))

  -- a key whose page at the cut isn't written by the transaction is what it was
  unwritten : (m g s : ℕ) → m < w.shape.maps → map_of_group w.shape (record { 0 = g }) ≡ m → s < keys_per_group → ((q : ℕ) → q < pages_per_map → is_used (at_cut (page m q)) ≡ true → entry_group (at_cut (page m q)) ≡ g → idle (page m q) s) → after (first_key g + s) ≡ records (first_key g + s)
  unwritten m g s lt h le off = go (look m g lt h)
    where
      go : ((q : ℕ) × (q < pages_per_map) × (is_used (now (page m q)) ≡ true) × (entry_group (now (page m q)) ≡ g)) ⊎ ((k q : ℕ) → k < w.shape.maps → q < pages_per_map → is_used (now (page k q)) ≡ true → entry_group (now (page k q)) ≢ g) → after (first_key g + s) ≡ records (first_key g + s)
      go (inr f) = gone (first_key g + s) (λ k q lt' le' u e. f k q lt' le' u (e ∙ omega arith))
      go (inl (q, lq, u, e)) = subst (λ j. after (first_key j + s) ≡ records (first_key j + s)) e (there m q s lt lq le u ∙ same (decides (page m q) s))
        where
          same : (idle (page m q) s) ⊎ ((at_cut (page m q) ≡ now (page m q)) × (is_used (now (page m q)) ≡ true)) → writes (page m q) s (records (first_key (entry_group (now (page m q))) + s)) ≡ records (first_key (entry_group (now (page m q))) + s)
          same (inl i) = quiet (page m q) s i (records (first_key (entry_group (now (page m q))) + s))
          same (inr (z, u')) = quiet (page m q) s (off q lq (ap is_used z ∙ u) (ap entry_group z ∙ e)) (records (first_key (entry_group (now (page m q))) + s))

  pub sealed_keys : HasRecords w.shape at_cut (λ x s. writes x s (settled x s)) after
  sealed_keys = record {
    home = old.home;
    once = old.once;
    value = λ m q s lt lq le u. value m q s lt lq le u (decides (page m q) s);
    absent = absent;
    empty = λ m q s lt lq u. empty m q s lt lq u (decides (page m q) s);
  }
    where
      value : (m q s : ℕ) → m < w.shape.maps → q < pages_per_map → s < keys_per_group → is_used (at_cut (page m q)) ≡ true → (idle (page m q) s) ⊎ ((at_cut (page m q) ≡ now (page m q)) × (is_used (now (page m q)) ≡ true))
          → after (first_key (entry_group (at_cut (page m q))) + s) ≡ writes (page m q) s (settled (page m q) s)
      value m q s lt lq le u (inr (z, u')) =
          let a = there m q s lt lq le u' in
          let b = old.value m q s lt lq le u in
          let a' : after (first_key (entry_group (at_cut (page m q))) + s) ≡ writes (page m q) s (records (first_key (entry_group (at_cut (page m q))) + s)) = rw z a in
          a' ∙ ap (writes (page m q) s) b
      value m q s lt lq le u (inl i) =
          unwritten m (entry_group (at_cut (page m q))) s lt (old.home m q lt lq u) le (λ r lr ur er. subst (λ j. idle (page m j) s) (old.once m q r lt lq lr u ur (sym er)) i)
          ∙ (old.value m q s lt lq le u ∙ sym (quiet (page m q) s i (settled (page m q) s)))

      absent : (k : ℕ) → ((m q : ℕ) → m < w.shape.maps → q < pages_per_map → is_used (at_cut (page m q)) ≡ true → entry_group (at_cut (page m q)) ≢ (group_of k).0) → after k ≡ None
      absent k none = go (cases_lt 0 w.shape.maps)
        where
          split : first_key (group_of k).0 + slot_of_key k ≡ k
          split = omega arith

          go : (0 < w.shape.maps) ⊎ (w.shape.maps ≤ 0) → after k ≡ None
          go (inl pos) =
              let lt : map_of_key w.shape k < w.shape.maps = mod-lt (group_of k).0 pos in
              let off : (q : ℕ) → q < pages_per_map → (is_used (at_cut (page (map_of_key w.shape k) q))) ≡ true → (entry_group (at_cut (page (map_of_key w.shape k) q))) ≡ (group_of k).0 → idle (page (map_of_key w.shape k) q) (slot_of_key k) = λ q lq u e. absurd (none (map_of_key w.shape k) q lt lq u e) in
              let same = unwritten (map_of_key w.shape k) (group_of k).0 (slot_of_key k) lt refl (omega arith) off in
              subst (λ j. after j ≡ records j) split same ∙ old.absent k none
          go (inr z) = gone k (λ m q lt le u e. absurd (omega arith)) ∙ old.absent k none

      empty : (m q s : ℕ) → m < w.shape.maps → q < pages_per_map → is_used (at_cut (page m q)) ≡ false → (idle (page m q) s) ⊎ ((at_cut (page m q) ≡ now (page m q)) × (is_used (now (page m q)) ≡ true)) → writes (page m q) s (settled (page m q) s) ≡ None
      empty m q s lt lq u (inl i) = quiet (page m q) s i (settled (page m q) s) ∙ old.empty m q s lt lq u
      empty m q s lt lq u (inr (z, u')) = absurd (both_ways (is_used (at_cut (page m q))) u (ap is_used z ∙ u'))

pub end_overlays : EndOverlaysRecords
end_overlays p n t r records after holds is_end_record over = record {
  history = ends_history p n t r holds.history is_end_record;
  keys = λ cut is. keys cut is;
  pending = λ cut is x s o h. pending cut is x s o h (transaction_cases o (transaction n t));
}
  where
    q : History
    q = ended p n t r

    up : (ℕ → ℕ) → ℕ → ℕ
    up cut = set_at n (length (p.live n)) cut

    K : ℕ → ℕ → List OpenUpdate
    K x s = of_slot x s (open_updates p.devices.first p.live (transaction n t))

    low : (cut : ℕ → ℕ) → IsCut (ended p n t r) cut → length (p.live n) < cut n
    low cut is = let h = rw (set_at-same n (suc (length (p.live n))) p.stable) at (is n).0 in omega arith

    long : (cut : ℕ → ℕ) → IsCut (ended p n t r) cut → LongCut p n r cut
    long cut is = record {
      low = let h = rw (set_at-same n (suc (length (p.live n))) p.stable) at (is n).0 in let s = holds.history.sound n in omega arith;
      high = let e = ap (λ (l : List LogRecord). length l) (with_record-same n r p.live) in let l = length-append (p.live n) (r ∷ []) in omega (arith, (is n).1);
      others = λ m d. (rw (set_at-other n (suc (length (p.live n))) p.stable m d) at (is m).0, let e = ap (λ (l : List LogRecord). length l) (with_record-other n r p.live m d) in omega (arith, (is m).1));
    }

    legal : (cut : ℕ → ℕ) → IsCut (ended p n t r) cut → IsCut p (set_at n (length (p.live n)) cut)
    legal cut is = above_legal p n r cut (holds.history.sound n) (long cut is)

    entry : (cut : ℕ → ℕ) → IsCut (ended p n t r) cut → (y : ℕ) → entry_at p (set_at n (length (p.live n)) cut) y ≡ entry_at (ended p n t r) cut y
    entry cut is y = entry_at-above p n cut (low cut is) y

    now : (y : ℕ) → entry_now p y ≡ entry_now (ended p n t r) y
    now y = entry_now-above p n r y

    here : (cut : ℕ → ℕ) → logs_at p (set_at n (length (p.live n)) cut) n ≡ p.live n
    here cut = rw (set_at-same n (length (p.live n)) cut) (take_all (length (p.live n)) (p.live n) (omega arith))

    mine : (cut : ℕ → ℕ) → open_updates p.devices.first (logs_at p (set_at n (length (p.live n)) cut)) (transaction n t) ≡ open_updates p.devices.first p.live (transaction n t)
    mine cut = ap (λ l. listed (left_of t (p.devices.first n) l None)) (here cut)

    opened : (cut : ℕ → ℕ) → IsCut (ended p n t r) cut → (o : Transaction) → open_updates p.devices.first (with_record n r (logs_at p (set_at n (length (p.live n)) cut))) o ≡ open_updates p.devices.first (logs_at (ended p n t r) cut) o
    opened cut is o = ap (λ l. listed (left_of o.txn (p.devices.first o.node) l None)) (above_same p n r cut (low cut is) o.node)

    decides : (cut : ℕ → ℕ) → IsCut (ended p n t r) cut → (x s : ℕ) → (K x s ≡ []) ⊎ ((entry_at p (set_at n (length (p.live n)) cut) x ≡ entry_now p x) × (is_used (entry_now p x) ≡ true))
    decides cut is x s = go (list_cases (K x s))
      where
        go : (K x s ≡ []) ⊎ (K x s ≢ []) → (K x s ≡ []) ⊎ ((entry_at p (set_at n (length (p.live n)) cut) x ≡ entry_now p x) × (is_used (entry_now p x) ≡ true))
        go (inl e) = inl e
        go (inr d) = inr (holds.pending (set_at n (length (p.live n)) cut) (legal cut is) x s (transaction n t) (λ e. d (ap (of_slot x s) (sym (mine cut)) ∙ e)))

    end : ℕ → ℕ
    end m = length (p.live m)

    is_end : IsCut p end
    is_end m = (holds.history.sound m, omega arith)

    keys : (cut : ℕ → ℕ) → IsCut (ended p n t r) cut → HasRecords p.devices.shape (entry_at (ended p n t r) cut) (λ x s. with_updates (K x s) (p.settled x s)) after
    keys cut is = subst (λ (e : ℕ → MapEntry). HasRecords p.devices.shape e (λ x s. with_updates (K x s) (p.settled x s)) after) (fun_ext (entry cut is))
        (sealed_keys p.devices (entry_now p) (entry_at p (set_at n (length (p.live n)) cut)) p.settled records after (λ x s v. with_updates (K x s) v) (λ x s. K x s ≡ [])
        (decides cut is) (λ x s e v. ap (λ us. with_updates us v) e) (holds.keys (set_at n (length (p.live n)) cut) (legal cut is)) (holds.keys end is_end).home over.there over.gone)

    gone : (logs : ℕ → List LogRecord) → open_updates p.devices.first (with_record n r logs) (transaction n t) ≡ []
    gone logs = (end_closes p.devices.first n t r is_end_record).here logs

    pending : (cut : ℕ → ℕ) → IsCut (ended p n t r) cut → (x s : ℕ) (o : Transaction) → of_slot x s (open_updates p.devices.first (logs_at (ended p n t r) cut) o) ≢ [] → (o ≡ transaction n t) ⊎ (o ≢ transaction n t)
        → (entry_at (ended p n t r) cut x ≡ entry_now (ended p n t r) x) × (is_used (entry_now (ended p n t r) x) ≡ true)
    pending cut is x s o h (inl e) = absurd (h (ap (of_slot x s) (sym (opened cut is o) ∙ (ap (open_updates p.devices.first (with_record n r (logs_at p (set_at n (length (p.live n)) cut)))) e
        ∙ gone (logs_at p (set_at n (length (p.live n)) cut))))))
    pending cut is x s o h (inr d) =
        let same : open_updates p.devices.first (logs_at (ended p n t r) cut) o ≡ open_updates p.devices.first (logs_at p (set_at n (length (p.live n)) cut)) o = sym (opened cut is o) ∙ (end_closes p.devices.first n t r is_end_record).there (logs_at p (set_at n (length (p.live n)) cut)) o d in
        let old = holds.pending (set_at n (length (p.live n)) cut) (legal cut is) x s o (λ e. h (ap (of_slot x s) same ∙ e)) in
        (sym (entry cut is x) ∙ (old.0 ∙ now x), ap is_used (sym (now x)) ∙ old.1)

pub end_keeps : EndOfNothingKeepsRecords
end_keeps p n t r records holds is none = end_overlays p n t r records records holds is (record {
  there = λ m q s lt le ls u. rw none refl;
  gone = λ k f. refl;
})
