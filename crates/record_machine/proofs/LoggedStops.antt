-- A node logs one record more, with one loose change more: each cut before it leaves what it left, and the last one leaves all.
use Rattle.std.proofs.Common.{◌≡◌, ◌≢◌, ◌⊎◌, inl, inr, ◌||◌, ◌+◌, ◌-◌, ◌<◌, ◌≤◌, ◌++◌, ◌∷◌, ℕ, zero, suc, true, false, List, [], length, take, drop, refl, ap, ap₂, sym, subst, ◌∙◌, arith, Option, take_all, length-append, count_by}
use Rattle.std.specs.List.{list_any}
use Rattle.std.proofs.lemmas.Bool.{cases_eq, cases_lt, cases_Bool}
use Rattle.std.proofs.lemmas.List.{take-append-le}
use Rattle.std.proofs.lemmas.List.Folds.{list_any-append}
use Rattle.sd_base.specs.Shape.{page_count}
use Rattle.log_record.specs.declared.record.LogRecord.{LogRecord}
use Rattle.space_map.specs.declared.map_entry.MapEntry.{MapEntry}
use Rattle.space_map.specs.Image.{MapImage}
use Rattle.space_map.specs.PageImage.{PageImage, ident_of, map_page}
use Rattle.record_locks.specs.Held.{mode_of}
use Rattle.recovery_theory.specs.Effect.{Transaction, step_on, steps_on}
use Rattle.recovery_theory.specs.History.{History, entry_now, image_now}
use Rattle.recovery_theory.specs.Pages.{is_used}
use Rattle.recovery_theory.specs.Steps.{IsPlaceToCut, logged, with_locks, with_record}
use Rattle.recovery_theory.proofs.Cuts.{with_last_cut-end, with_last_cut-low, with_last_cut-off, with_record-other, with_record-same}
use Rattle.recovery_theory.proofs.OpenUpdates.{steps_on-append}
use Rattle.record_machine.specs.Cuts.{MayStop, TakesBackTo, TellsLog, behind_cut, deeds_at, is_of_map, touches}
use Rattle.record_machine.specs.Machine.{Deed, Idle, LooseChange, Machine, put, writes_page}
use Rattle.record_machine.specs.Meaning.{first_record}
use Rattle.record_machine.specs.Parts.{is_of_page}
use Rattle.record_machine.specs.Stops.{entries_before, ident_before, pending_before, tail_before, with_entries, with_idents}
use Rattle.record_machine.proofs.Put.{put_same}
use Rattle.record_machine.proofs.StopPages.{nothing_behind}
use Rattle.record_machine.proofs.StopSteps.{idents_off}
use Rattle.record_machine.proofs.TakenBack.{entries_agree, entries_left, entries_push, ident_agrees, ident_push, neither, pending_agrees, pending_push, tail_agrees, tail_push}

pub drop_push : {A : Type 0} (k : ℕ) (xs : List A) (c : A) → k ≤ length xs → drop k (xs ++ c ∷ []) ≡ drop k xs ++ c ∷ []
drop_push zero xs c le = refl
drop_push (suc k) [] c le = absurd (omega arith)
drop_push (suc k) (x ∷ xs) c le = drop_push k xs c (omega arith)

-- the machine with one loose change more of node n, which has kept what is changed as it was
pub record MachineGrows (m m' : Machine) (n : ℕ) (c : LooseChange) : Type 0 where
  pub shape : m'.shape ≡ m.shape
  pub start : (j : ℕ) → first_record m' j ≡ first_record m j
  pub mode : (j : ℕ) → m'.mode j ≡ m.mode j
  pub loose_here : m'.loose n ≡ m.loose n ++ c ∷ []
  pub loose_other : (j : ℕ) → j ≢ n → m'.loose j ≡ m.loose j
  pub locks : m'.locks ≡ m.locks
  pub pending_other : (j : ℕ) → j ≢ n → m'.pending j ≡ m.pending j
  pub tail_other : (j : ℕ) → j ≢ n → m'.tail j ≡ m.tail j
  pub number : c.number ≡ m.tail n
  pub pending : c.pending ≡ m.pending n
  pub ident : (x : ℕ) → with_idents c.idents m'.ident x ≡ m.ident x
  pub entries : (x : ℕ) → with_entries c.entries m'.entries x ≡ m.entries x

-- what the record is to the pages that the change touches, and what the whole log tells then
pub record LogGrows (h h' : History) (m m' : Machine) (begun begun' : ℕ → ℕ → ℕ) (n : ℕ) (rec : LogRecord) (c : LooseChange) (entry : ℕ → MapEntry) (last : ℕ → ℕ) : Type 0 where
  pub touched : (x : ℕ) → touches x c ≡ true → (h.guard x ≡ n) × (length (h.live n) < last x)
  pub kept : (x k : ℕ) → touches x c ≡ false → last x ≤ k → (h.guard x ≢ n) ⊎ (k ≤ length (h.live n)) → h.last x ≤ k
  pub told : (j k : ℕ) (ds : List Deed) → IsPlaceToCut h j k → TellsLog m begun j (h.devices.first j) (take k (h.live j)) ds → TellsLog m' begun' j (h.devices.first j) (take k (h.live j)) ds
  pub now : TellsLog m' begun' n (h.devices.first n) (with_record n rec h.live n) (m'.pending n)
  pub tail : m'.tail n ≡ first_record m' n + length (with_record n rec h.live n)
  pub ident_is : (x : ℕ) → x < page_count m'.shape → m'.ident x ≡ ident_of (image_now h' x)
  pub entries_are : (x : ℕ) (map : MapImage) → x < m'.shape.maps → image_now h' x ≡ map_page map → m'.entries x ≡ map.entries
  pub writes : (x : ℕ) → count_by (writes_page x) (m.pending n) ≤ count_by (writes_page x) (m'.pending n) + length (step_on x rec)
  pub used : (x : ℕ) → is_used (entry_now h x) ≡ true → entry x ≡ entry_now h x
  pub at_work : m.mode n ≢ Idle

module _ (h : History) (m m' : Machine) (begun begun' : ℕ → ℕ → ℕ) (n : ℕ) (rec : LogRecord) (c : LooseChange) (entry : ℕ → MapEntry) (image : ℕ → PageImage) (last : ℕ → ℕ) (lock : ℕ → ℕ → Option Transaction)
    (was : MayStop h m begun) (sound : h.stable n ≤ length (h.live n)) (grows : MachineGrows m m' n c) (log : LogGrows h (with_locks (logged h n rec entry image last) lock) m m' begun begun' n rec c entry last) where
  abbrev h' : History
  h' = with_locks (logged h n rec entry image last) lock

  live_here : h'.live n ≡ h.live n ++ rec ∷ []
  live_here = with_record-same n rec h.live

  live_other : (j : ℕ) → j ≢ n → h'.live j ≡ h.live j
  live_other j d = with_record-other n rec h.live j d

  longer : length (h'.live n) ≡ length (h.live n) + 1
  longer = ap (λ (l : List LogRecord). length l) live_here ∙ length-append (h.live n) (rec ∷ [])

  same_ident : (x : ℕ) → touches x c ≡ false → m'.ident x ≡ m.ident x
  same_ident x not = sym (idents_off x c.idents m'.ident (neither (is_of_page x c) (is_of_map x c.entries) not).0) ∙ grows.ident x

  same_entries : (x : ℕ) → touches x c ≡ false → m'.entries x ≡ m.entries x
  same_entries x not = sym (entries_left x (c ∷ []) m'.entries (rw not refl)) ∙ grows.entries x

  not_own : (x : ℕ) → h.guard x ≢ n → touches x c ≡ false
  not_own x d = go (cases_Bool (touches x c))
    where
      go : (touches x c ≡ true) ⊎ (touches x c ≡ false) → touches x c ≡ false
      go (inl t) = absurd (d (log.touched x t).0)
      go (inr f) = f

  -- ---- another node

  back_other : (j : ℕ) → j ≢ n → (k : ℕ) → IsPlaceToCut h' j k → TakesBackTo h' m' begun' j k
  back_other j d k at = record {
    log = subst (λ l. TellsLog m' begun' j (h.devices.first j) (take k l) (deeds_at h' m' j k)) (sym (live_other j d))
        (subst (TellsLog m' begun' j (h.devices.first j) (take k (h.live j))) (sym deeds) (log.told j k (deeds_at h m j k) place b.log));
    tail = ap (λ l. tail_before j l m'.tail j) same ∙ (tail_agrees j (behind_cut h m j k) m'.tail m.tail (grows.tail_other j d) ∙ (b.tail ∙ ap (λ i. i + k) (sym (grows.start j))));
    ident = λ x lt g. ap (λ l. ident_before l m'.ident x) same ∙ (ident_agrees x (behind_cut h m j k) m'.ident m.ident (same_ident x (not_own x (λ e. d (sym g ∙ e)))) ∙ (b.ident x (subst (λ z. x < page_count z) grows.shape lt) g ∙ ap ident_of (sym (image_off x (λ e. d (sym g ∙ e))))));
    entries = λ x map lt g e. ap (λ l. entries_before l m'.entries x) same ∙ (entries_agree x (behind_cut h m j k) m'.entries m.entries (same_entries x (not_own x (λ e. d (sym g ∙ e)))) ∙ b.entries x map (subst (λ z. x < z.maps) grows.shape lt) g (sym (image_off x (λ e. d (sym g ∙ e))) ∙ e));
    others = λ x how. ap (list_any (touches x)) same ∙ b.others x (others x how (cases_eq (h.guard x) n));
    writes = λ x. (
        let one = ap (λ (ds : List Deed). count_by (writes_page x) ds) deeds in
        let two = ap (λ (ds : List Deed). count_by (writes_page x) ds) (grows.pending_other j d) in
        let three = ap (λ (l : List LogRecord). length (steps_on x (drop k l))) (live_other j d) in
        let old = b.writes x in
        omega (arith, one, two, three, old));
  }
    where
      place : IsPlaceToCut h j k
      place = record { low = at.low; high = subst (λ l. k ≤ length l) (live_other j d) at.high }

      b : TakesBackTo h m begun j k
      b = was.back j k place

      same : behind_cut h' m' j k ≡ behind_cut h m j k
      same = ap₂ (λ (l : List LooseChange) (r : List LogRecord). drop (length l - (length r - k)) l) (grows.loose_other j d) (live_other j d)

      deeds : deeds_at h' m' j k ≡ deeds_at h m j k
      deeds = ap (λ l. pending_before j l m'.pending j) same ∙ pending_agrees j (behind_cut h m j k) m'.pending m.pending (grows.pending_other j d)

      image_off : (x : ℕ) → h.guard x ≢ n → h'.image x k ≡ h.image x k
      image_off x g = with_last_cut-off h n h.image image x k g

      others : (x : ℕ) → (h.guard x ≢ j) ⊎ (last x ≤ k) → (h.guard x ≡ n) ⊎ (h.guard x ≢ n) → (h.guard x ≢ j) ⊎ (h.last x ≤ k)
      others x how (inl g) = inl (λ e. d (sym e ∙ g))
      others x (inl off) (inr g) = inl off
      others x (inr le) (inr g) = inr (log.kept x k (not_own x g) le (inl g))

  -- ---- the node, cut before the new record

  back_below : (k : ℕ) → IsPlaceToCut h' n k → k ≤ length (h.live n) → TakesBackTo h' m' begun' n k
  back_below k at le = record {
    log = subst (λ l. TellsLog m' begun' n (h.devices.first n) l (deeds_at h' m' n k)) (sym front) (subst (TellsLog m' begun' n (h.devices.first n) (take k (h.live n))) (sym deeds) (log.told n k (deeds_at h m n k) place b.log));
    tail = ap (λ l. tail_before n l m'.tail n) same ∙ (ap (λ f. f n) (tail_push n (behind_cut h m n k) c m'.tail) ∙ (tail_agrees n (behind_cut h m n k) (put n c.number m'.tail) m.tail (put_same n c.number m'.tail n refl ∙ grows.number) ∙ (b.tail ∙ ap (λ i. i + k) (sym (grows.start n)))));
    ident = λ x lt g. ap (λ l. ident_before l m'.ident x) same ∙ (ap (λ f. f x) (ident_push (behind_cut h m n k) c m'.ident) ∙ (ident_agrees x (behind_cut h m n k) (with_idents c.idents m'.ident) m.ident (grows.ident x) ∙ (b.ident x (subst (λ z. x < page_count z) grows.shape lt) g ∙ ap ident_of (sym (image_low x)))));
    entries = λ x map lt g e. ap (λ l. entries_before l m'.entries x) same ∙ (ap (λ f. f x) (entries_push (behind_cut h m n k) c m'.entries) ∙ (entries_agree x (behind_cut h m n k) (with_entries c.entries m'.entries) m.entries (grows.entries x) ∙ b.entries x map (subst (λ z. x < z.maps) grows.shape lt) g (sym (image_low x) ∙ e)));
    others = λ x how. ap (list_any (touches x)) same ∙ (list_any-append (touches x) (behind_cut h m n k) (c ∷ []) ∙ off x how (cases_Bool (touches x c)));
    writes = λ x. (
        let one = ap (λ (ds : List Deed). count_by (writes_page x) ds) deeds in
        let two = ap (λ (l : List LogRecord). length (steps_on x (drop k l))) live_here ∙ (ap (λ l. length (steps_on x l)) (drop_push k (h.live n) rec le) ∙ (ap (λ l. length l) (steps_on-append x (drop k (h.live n)) (rec ∷ [])) ∙ length-append (steps_on x (drop k (h.live n))) (steps_on x (rec ∷ [])))) in
        let three : length (steps_on x (rec ∷ [])) ≡ length (step_on x rec) + 0 = length-append (step_on x rec) [] in
        let old = b.writes x in
        let more = log.writes x in
        omega (arith, one, two, three, old, more));
  }
    where
      place : IsPlaceToCut h n k
      place = record { low = at.low; high = le }

      b : TakesBackTo h m begun n k
      b = was.back n k place

      front : take k (h'.live n) ≡ take k (h.live n)
      front = ap (take k) live_here ∙ take-append-le k (h.live n) (rec ∷ []) le

      same : behind_cut h' m' n k ≡ behind_cut h m n k ++ c ∷ []
      same = ap₂ (λ (l : List LooseChange) (r : List LogRecord). drop (length l - (length r - k)) l) grows.loose_here live_here
          ∙ (ap (λ i. drop i (m.loose n ++ c ∷ [])) (omega (arith, length-append (m.loose n) (c ∷ []), length-append (h.live n) (rec ∷ []), le)) ∙ drop_push (length (m.loose n) - (length (h.live n) - k)) (m.loose n) c (omega arith))

      deeds : deeds_at h' m' n k ≡ deeds_at h m n k
      deeds = ap (λ l. pending_before n l m'.pending n) same ∙ (ap (λ f. f n) (pending_push n (behind_cut h m n k) c m'.pending) ∙ pending_agrees n (behind_cut h m n k) (put n c.pending m'.pending) m.pending (put_same n c.pending m'.pending n refl ∙ grows.pending))

      image_low : (x : ℕ) → h'.image x k ≡ h.image x k
      image_low x = with_last_cut-low h n h.image image x k le

      off : (x : ℕ) → (h.guard x ≢ n) ⊎ (last x ≤ k) → (touches x c ≡ true) ⊎ (touches x c ≡ false) → (list_any (touches x) (behind_cut h m n k) || (touches x c || false)) ≡ false
      off x (inl g) (inl t) = absurd (g (log.touched x t).0)
      off x (inr l) (inl t) = let far = (log.touched x t).1 in absurd (omega (arith, far, l, le))
      off x (inl g) (inr f) = rw (f, b.others x (inl g)) refl
      off x (inr l) (inr f) = rw (f, b.others x (inr (log.kept x k f l (inr le)))) refl

  -- ---- the node, with all its records

  back_now : (k : ℕ) → k ≡ length (h'.live n) → TakesBackTo h' m' begun' n k
  back_now k is = subst (TakesBackTo h' m' begun' n) (sym is) (record {
    log = subst (λ l. TellsLog m' begun' n (h.devices.first n) l (deeds_at h' m' n (length (h'.live n)))) (sym (take_all (length (h'.live n)) (h'.live n) (omega arith)))
        (subst (TellsLog m' begun' n (h.devices.first n) (h'.live n)) (sym (ap (λ l. pending_before n l m'.pending n) nothing)) log.now);
    tail = ap (λ l. tail_before n l m'.tail n) nothing ∙ log.tail;
    ident = λ x lt g. ap (λ l. ident_before l m'.ident x) nothing ∙ (log.ident_is x lt ∙ ap (λ j. ident_of (h'.image x (length (h'.live j)))) g);
    entries = λ x map lt g e. ap (λ l. entries_before l m'.entries x) nothing ∙ log.entries_are x map lt (ap (λ j. h'.image x (length (h'.live j))) g ∙ e);
    others = λ x how. ap (list_any (touches x)) nothing;
    writes = λ x. (let e = ap (λ l. count_by (writes_page x) (pending_before n l m'.pending n)) nothing in omega (arith, e));
  })
    where
      nothing : behind_cut h' m' n (length (h'.live n)) ≡ []
      nothing = nothing_behind h' m' n

  used_now : (x k : ℕ) → IsPlaceToCut h' (h.guard x) k → is_used (h'.entry x k) ≡ true → h'.entry x k ≡ entry_now h' x
  used_now x k at used = go (cases_eq (h.guard x) n)
    where
      by : h.guard x ≡ n → (length (h.live n) < k) ⊎ (k ≤ length (h.live n)) → h'.entry x k ≡ entry_now h' x
      by g (inl far) =
          let high = subst (λ j. k ≤ length (h'.live j)) g at.high in
          let is : k ≡ length (h'.live n) = omega (arith, far, high, longer) in
          ap (h'.entry x) (is ∙ ap (λ j. length (h'.live j)) (sym g))
      by g (inr le) =
          let low = with_last_cut-low h n h.entry entry x k le in
          let old = was.used x k (record { low = at.low; high = subst (λ j. k ≤ length (h.live j)) (sym g) le }) (ap is_used (sym low) ∙ used) in
          let stays = log.used x (ap is_used (sym old) ∙ (ap is_used (sym low) ∙ used)) in
          low ∙ (old ∙ (sym stays ∙ sym (with_last_cut-end h n rec h.entry entry x g)))

      go : (h.guard x ≡ n) ⊎ (h.guard x ≢ n) → h'.entry x k ≡ entry_now h' x
      go (inl g) = by g (cases_lt (length (h.live n)) k)
      go (inr d) =
          let off = with_last_cut-off h n h.entry entry x k d in
          let live_is = live_other (h.guard x) d in
          off ∙ (was.used x k (record { low = at.low; high = subst (λ l. k ≤ length l) live_is at.high }) (ap is_used (sym off) ∙ used)
          ∙ (ap (λ (l : List LogRecord). h.entry x (length l)) (sym live_is) ∙ sym (with_last_cut-off h n h.entry entry x (length (h'.live (h.guard x))) d)))

  pub logged_stops : MayStop h' m' begun'
  logged_stops = record {
    enough = λ j. enough j (cases_eq j n);
    back = λ j k at. back j k at (cases_eq j n);
    used = used_now;
    resting = λ j rest. resting j (sym (grows.mode j) ∙ rest) (cases_eq j n);
    owners = λ key t mode had rest. was.owners key t mode (ap (λ l. mode_of l key t) (sym grows.locks) ∙ had) (sym (grows.mode t.node.0) ∙ rest);
    nodes = λ j used. (let z = was.nodes j (λ rest. used (grows.mode j ∙ rest)) in (z.0, subst (λ s. j ≤ s.nodes) (sym grows.shape) z.1));
  }
    where
      enough : (j : ℕ) → (j ≡ n) ⊎ (j ≢ n) → length (h'.live j) ≤ h.stable j + length (m'.loose j)
      enough j (inl e) = subst (λ j. length (h'.live j) ≤ h.stable j + length (m'.loose j)) (sym e) (let more = ap (λ (l : List LooseChange). length l) grows.loose_here ∙ length-append (m.loose n) (c ∷ []) in let old = was.enough n in omega (arith, longer, more, old))
      enough j (inr d) = rw (live_other j d, grows.loose_other j d) (was.enough j)

      back : (j k : ℕ) → IsPlaceToCut h' j k → (j ≡ n) ⊎ (j ≢ n) → TakesBackTo h' m' begun' j k
      back j k at (inr d) = back_other j d k at
      back j k at (inl e) = subst (λ j. IsPlaceToCut h' j k → TakesBackTo h' m' begun' j k) (sym e) (λ at. here at (cases_lt (length (h.live n)) k)) at
        where
          here : IsPlaceToCut h' n k → (length (h.live n) < k) ⊎ (k ≤ length (h.live n)) → TakesBackTo h' m' begun' n k
          here at (inl far) = back_now k (let high = at.high in omega (arith, far, high, longer))
          here at (inr le) = back_below k at le

      resting : (j : ℕ) → m.mode j ≡ Idle → (j ≡ n) ⊎ (j ≢ n) → m'.loose j ≡ []
      resting j rest (inl e) = absurd (log.at_work (ap m.mode (sym e) ∙ rest))
      resting j rest (inr d) = grows.loose_other j d ∙ was.resting j rest
