-- A record that changes a slot keeps what stands, where what is left of each slot does.
use Rattle.std.proofs.Common.{◌≡◌, ◌≢◌, ◌⊎◌, inl, inr, ℕ, ◌≤◌, List, [], ◌∷◌, ◌++◌, refl, ap, sym, subst, ◌∙◌, arith, Option, Some, eq-eqb, ne_eqb, true, false}
use Rattle.std.proofs.lemmas.Bool.{cases_eq, both_ways}
use Rattle.log_record.specs.declared.record.LogRecord.{LogRecord}
use Rattle.recovery_theory.specs.Chain.{RaisesLife}
use Rattle.recovery_theory.specs.Effect.{Transaction, steps_on, step_on, of_slot, open_updates, effect_of}
use Rattle.recovery_theory.specs.Effect.Effect.{Updated, Compensated, Mapped}
use Rattle.recovery_theory.specs.Pages.{in_life_from, place_of, slot_after, SlotValue, slots_of, entries_of, birth_of, is_used, IsImageOf, IsSlotChange, blank}
use Rattle.recovery_theory.specs.Standing.{Devices, Settles, PageChain, ChangeInOrder, InOrder, IsStanding, base_of}
use Rattle.recovery_theory.specs.Steps.{with_record, set_at}
use Rattle.sd_base.specs.declared.page_op.PageOp.{PageOp}
use Rattle.sd_base.specs.declared.page_op.PageOp.TheVariants.{Put, Append, Cut, MapUse, MapFree}
use Rattle.space_map.specs.declared.map_entry.MapEntry.{MapEntry}
use Rattle.recovery_theory.proofs.PageLaws.{ident-in_life_from, shaped-changed, slots-changed_same, slots-changed_other}
use Rattle.recovery_theory.proofs.Cuts.{with_record-same, with_record-other, set_at-same, set_at-other}
use Rattle.recovery_theory.proofs.ChainLaws.{grows_by, ident-disk, ident-image, past_image}
use Rattle.recovery_theory.proofs.OpenUpdates.{steps_on-append, steps_on-with_record, chained_ext, ordered_record, apart_record, gap_same, gap_step, rises_same, rises_step}
use Rattle.space_map.specs.PageImage.{changed, ident_of, PageImage}

-- a page is not below the identifier with which its life began
pub birth_le : (w : Devices) (logs : ℕ → List LogRecord) (entry : ℕ) (image : PageImage) (x guard : ℕ) → PageChain w logs entry image x guard → entry ≤ ident_of image
birth_le w logs entry image x guard p =
    let a = ident-in_life_from x entry (base_of w x) in
    let d = ident-disk (in_life_from x entry (base_of w x)) p.shown image (λ m. steps_on x (w.kept m)) (λ m. steps_on x (logs m)) guard p.chain in
    let f = ident-image (in_life_from x entry (base_of w x)) p.shown image (λ m. steps_on x (w.kept m)) (λ m. steps_on x (logs m)) guard p.chain in
    omega arith

-- the pages after a record of page x with operation op
pub pages_grow : (w : Devices) (logs : ℕ → List LogRecord) (guard : ℕ → ℕ) (entry : ℕ → MapEntry) (image : ℕ → PageImage) (n x : ℕ) (op : PageOp) (r : LogRecord)
    → ((y : ℕ) → PageChain w logs (birth_of (entry y)) (image y) y (guard y))
    → guard x ≡ n
    → step_on x r ≡ record { bsi = ident_of (image x); op = op } ∷ []
    → ((y : ℕ) → y ≢ x → step_on y r ≡ [])
    → RaisesLife (image x) op
    → (y : ℕ) → PageChain w (with_record n r logs) (birth_of (entry y)) (set_at x (changed op (image x)) image y) y (guard y)
pages_grow w logs guard entry image n x op r pages g here there raises y = go (cases_eq y x)
  where
    at_x : PageChain w (with_record n r logs) (birth_of (entry x)) (changed op (image x)) x (guard x)
    at_x =
        let p = pages x in
        let grown : steps_on x (with_record n r logs (guard x)) ≡ steps_on x (logs (guard x)) ++ record { bsi = ident_of (image x); op = op } ∷ [] =
        rw (g, with_record-same n r logs, steps_on-append x (logs n) (r ∷ []), here) refl in
        let same : (m : ℕ) → m ≢ guard x → steps_on x (with_record n r logs m) ≡ steps_on x (logs m) = λ m d. rw (with_record-other n r logs m (λ e. d (e ∙ sym g))) refl in
        record {
          shown = p.shown;
          disk = p.disk;
          chain = grows_by (in_life_from x (birth_of (entry x)) (base_of w x)) p.shown (image x) (λ m. steps_on x (w.kept m)) (λ m. steps_on x (logs m)) (λ m. steps_on x (with_record n r logs m)) (guard x) op p.chain grown same raises;
          gap = gap_step (birth_of (entry x)) w.kept x n r (record { bsi = ident_of (image x); op = op }) logs here (birth_le w logs (birth_of (entry x)) (image x) x (guard x) p) p.gap;
          rises = rises_step w.kept x n r (record { bsi = ident_of (image x); op = op }) logs here (past_image (in_life_from x (birth_of (entry x)) (base_of w x)) p.shown (image x) (λ m. steps_on x (w.kept m)) (λ m. steps_on x (logs m)) (guard x) p.chain (ident_of (image x)) (omega arith) n) p.rises;
        }

    go : (y ≡ x) ⊎ (y ≢ x) → PageChain w (with_record n r logs) (birth_of (entry y)) (set_at x (changed op (image x)) image y) y (guard y)
    go (inl e) = subst (λ z. PageChain w (with_record n r logs) (birth_of (entry z)) (set_at x (changed op (image x)) image z) z (guard z)) (sym e)
        (subst (λ i. PageChain w (with_record n r logs) (birth_of (entry x)) i x (guard x)) (sym (set_at-same x (changed op (image x)) image)) at_x)
    go (inr d) =
        let p = pages y in
        subst (λ i. PageChain w (with_record n r logs) (birth_of (entry y)) i y (guard y)) (sym (set_at-other x (changed op (image x)) image y d)) (record {
          shown = p.shown;
          disk = p.disk;
          chain = chained_ext (in_life_from y (birth_of (entry y)) (base_of w y)) p.shown (λ m. steps_on y (w.kept m)) (λ m. steps_on y (logs m)) (λ m. steps_on y (with_record n r logs m)) (image y) (guard y) (steps_on-with_record y n r logs (there y d)) p.chain;
          gap = gap_same (birth_of (entry y)) w.kept y n r logs (there y d) p.gap;
          rises = rises_same w.kept y n r logs (there y d) p.rises;
        })

-- a change of a slot is in order wherever it stands, and begins no life
pub slot_order : (w : Devices) (l : List LogRecord) (x : ℕ) (op : PageOp) → IsSlotChange op → ChangeInOrder w l x op
slot_order w l x (Put s v) h = tt
slot_order w l x (Append s v) h = tt
slot_order w l x (Cut s f v) h = tt
slot_order w l x (MapUse q g) h = absurd h
slot_order w l x (MapFree q i) h = absurd h

pub slot_raises : (i : PageImage) (op : PageOp) → IsSlotChange op → RaisesLife i op
slot_raises i (Put s v) h = tt
slot_raises i (Append s v) h = tt
slot_raises i (Cut s f v) h = tt
slot_raises i (MapUse q g) h = absurd h
slot_raises i (MapFree q k) h = absurd h

-- what a record does to the pages, if it changes page x so
pub record StepIs (r : LogRecord) (x b : ℕ) (op : PageOp) : Type 0 where
  pub here : step_on x r ≡ record { bsi = b; op = op } ∷ []
  pub there : (y : ℕ) → y ≢ x → step_on y r ≡ []
  pub in_order : (w : Devices) (l : List LogRecord) → ChangeInOrder w l x op → InOrder w l r

-- updates, compensations and changes of map pages do so
pub step_of_update : (r : LogRecord) (t x b : ℕ) (op back : PageOp) → effect_of r ≡ Updated t x b op back → StepIs r x b op
step_of_update r t x b op back e = record {
  here = rw (e, eq-eqb x x refl) refl;
  there = λ y d. rw (e, ne_eqb x y (λ q. d (sym q))) refl;
  in_order = λ w l h. rw e h;
}

pub step_of_compensation : (r : LogRecord) (t next x b : ℕ) (op : PageOp) → effect_of r ≡ Compensated t next x b op → StepIs r x b op
step_of_compensation r t next x b op e = record {
  here = rw (e, eq-eqb x x refl) refl;
  there = λ y d. rw (e, ne_eqb x y (λ q. d (sym q))) refl;
  in_order = λ w l h. rw e h;
}

pub step_of_map : (r : LogRecord) (x b : ℕ) (op : PageOp) → effect_of r ≡ Mapped x b op → StepIs r x b op
step_of_map r x b op e = record {
  here = rw (e, eq-eqb x x refl) refl;
  there = λ y d. rw (e, ne_eqb x y (λ q. d (sym q))) refl;
  in_order = λ w l h. rw e h;
}

module _ (w : Devices) (logs : ℕ → List LogRecord) (guard : ℕ → ℕ) (entry : ℕ → MapEntry) (image : ℕ → PageImage) (settled : ℕ → ℕ → SlotValue) (lock : ℕ → ℕ → Option Transaction)
    (n x : ℕ) (op : PageOp) (r : LogRecord)
    (st : IsStanding w logs guard entry image settled lock)
    (step : StepIs r x (ident_of (image x)) op)
    (guarded : guard x ≡ n)
    (is_data : w.shape.maps ≤ x)
    (used : is_used (entry x) ≡ true)
    (slot_op : IsSlotChange op) where
  abbrev image' : ℕ → PageImage
  image' = set_at x (changed op (image x)) image

  pub slot_here : slots_of (image' x) (place_of op) ≡ slot_after op (slots_of (image x) (place_of op))
  slot_here = rw (set_at-same x (changed op (image x)) image) (slots-changed_same w.shape x op (image x) (st.shaped x) is_data slot_op)

  pub slot_off : (y s : ℕ) → (x ≢ y) ⊎ (place_of op ≢ s) → slots_of (image' y) s ≡ slots_of (image y) s
  slot_off y s (inl d) = ap (λ (i : PageImage). slots_of i s) (set_at-other x (changed op (image x)) image y (λ e. d (sym e)))
  slot_off y s (inr d) = go (cases_eq y x)
    where
      go : (y ≡ x) ⊎ (y ≢ x) → slots_of (image' y) s ≡ slots_of (image y) s
      go (inl e) = rw (e, set_at-same x (changed op (image x)) image) (slots-changed_other op (image x) s (λ q. d (sym q)))
      go (inr e) = ap (λ (i : PageImage). slots_of i s) (set_at-other x (changed op (image x)) image y e)

  pub at_slot : (y s : ℕ) → ((y ≡ x) × (s ≡ place_of op)) ⊎ ((x ≢ y) ⊎ (place_of op ≢ s))
  at_slot y s = go (cases_eq y x) (cases_eq s (place_of op))
    where
      go : (y ≡ x) ⊎ (y ≢ x) → (s ≡ place_of op) ⊎ (s ≢ place_of op) → ((y ≡ x) × (s ≡ place_of op)) ⊎ ((x ≢ y) ⊎ (place_of op ≢ s))
      go (inl a) (inl b) = inl (a, b)
      go (inl a) (inr b) = inr (inr (λ e. b (sym e)))
      go (inr a) b = inr (inl (λ e. a (sym e)))

  pub slot_changed : ((y s : ℕ) → Settles w.first (with_record n r logs) (image' y) y s (settled y s))
      → ((y s : ℕ) (o : Transaction) → of_slot y s (open_updates w.first (with_record n r logs) o) ≢ [] → lock y s ≡ Some o)
      → IsStanding w (with_record n r logs) guard entry (set_at x (changed op (image x)) image) settled lock
  slot_changed slots locks = record {
    pages = pages_grow w logs guard entry image n x op r st.pages guarded step.here step.there (slot_raises (image x) op slot_op);
    shaped = λ y. shaped y (cases_eq y x);
    slots = slots;
    locks = locks;
    map_pages = st.map_pages;
    lives = λ m q lt le. st.lives m q lt le ∙ ap (λ (i : PageImage). entries_of i q) (sym (set_at-other x (changed op (image x)) image m (λ e. absurd (omega arith))));
    unused = λ y le free. unused y le free (cases_eq y x);
    ordered = ordered_record w n r logs st.ordered (step.in_order w (w.kept n ++ logs n) (slot_order w (w.kept n ++ logs n) x op slot_op));
    apart = apart_record w logs guard entry n r (λ y. touch y (cases_eq y x)) st.apart;
  }
    where
      shaped : (y : ℕ) → (y ≡ x) ⊎ (y ≢ x) → IsImageOf w.shape y (set_at x (changed op (image x)) image y)
      shaped y (inl e) = rw (e, set_at-same x (changed op (image x)) image) (shaped-changed w.shape x op (image x) (st.shaped x))
      shaped y (inr d) = rw (set_at-other x (changed op (image x)) image y d) (st.shaped y)

      unused : (y : ℕ) → w.shape.maps ≤ y → is_used (entry y) ≡ false → (y ≡ x) ⊎ (y ≢ x) → set_at x (changed op (image x)) image y ≡ blank y (birth_of (entry y))
      unused y le free (inl e) = absurd (both_ways (is_used (entry y)) free (ap (λ z. is_used (entry z)) e ∙ used))
      unused y le free (inr d) = set_at-other x (changed op (image x)) image y d ∙ st.unused y le free

      touch : (y : ℕ) → (y ≡ x) ⊎ (y ≢ x) → (step_on y r ≡ []) ⊎ (guard y ≡ n)
      touch y (inl e) = inr (ap guard e ∙ guarded)
      touch y (inr d) = inl (step.there y d)
