-- A compensation keeps what stands.
use Rattle.std.proofs.Common.{◌≡◌, ◌≢◌, ◌⊎◌, inl, inr, ℕ, ◌≤◌, true, List, [], ◌∷◌, refl, ap, sym, subst, ◌∙◌, Option, Some, None, eq-eqb, ne_eqb}
use Rattle.log_record.specs.declared.record.LogRecord.{LogRecord}
use Rattle.recovery_theory.specs.Effect.{OpenUpdate, Transaction, left_of, of_slot, open_updates, effect_of, down_to}
use Rattle.recovery_theory.specs.Effect.Effect.{Compensated}
use Rattle.recovery_theory.specs.Pages.{SlotValue, place_of, slots_of, is_used, IsSlotChange}
use Rattle.recovery_theory.specs.Standing.{Devices, Leads, SettlesBy, Settles, IsStanding}
use Rattle.recovery_theory.specs.Steps.{with_record, set_at, CompensationKeepsHistory}
use Rattle.space_map.specs.declared.map_entry.MapEntry.{MapEntry}
use Rattle.recovery_theory.proofs.Cuts.{changed_history}
use Rattle.recovery_theory.proofs.OpenUpdates.{transaction, transaction_cases, open-here, open-by}
use Rattle.recovery_theory.proofs.SlotChanges.{StepIs, step_of_compensation, slot_here, slot_off, at_slot, slot_changed}
use Rattle.recovery_theory.proofs.Updates.{of_slot-same, of_slot-other}
use Rattle.space_map.specs.PageImage.{changed, ident_of, PageImage}

module _ (w : Devices) (logs : ℕ → List LogRecord) (guard : ℕ → ℕ) (entry : ℕ → MapEntry) (image : ℕ → PageImage) (settled : ℕ → ℕ → SlotValue) (lock : ℕ → ℕ → Option Transaction)
    (n t x next : ℕ) (u : OpenUpdate) (us : List OpenUpdate) (r : LogRecord)
    (st : IsStanding w logs guard entry image settled lock)
    (is : effect_of r ≡ Compensated t next x (ident_of (image x)) u.back)
    (links : down_to next (u ∷ us) ≡ us)
    (guarded : guard x ≡ n)
    (is_data : w.shape.maps ≤ x)
    (used : is_used (entry x) ≡ true)
    (is_open : left_of t (w.first n) (logs n) None ≡ Some (u ∷ us))
    (page : u.page ≡ x)
    (slot_op : IsSlotChange u.back) where
  abbrev logs' : ℕ → List LogRecord
  logs' = with_record n r logs

  abbrev image' : ℕ → PageImage
  image' = set_at x (changed u.back (image x)) image

  step : StepIs r x (ident_of (image x)) u.back
  step = step_of_compensation r t next x (ident_of (image x)) u.back is

  open_was : open_updates w.first logs (transaction n t) ≡ u ∷ us
  open_was = rw is_open refl

  open_is : open_updates w.first logs' (transaction n t) ≡ us
  open_is = open-here w.first n r logs t ∙ rw (is, eq-eqb t t refl, is_open) links

  pub open_off : (o : Transaction) → o ≢ transaction n t → open_updates w.first logs' o ≡ open_updates w.first logs o
  open_off o d = open-by w.first n r logs o (λ k e. rw (is, ne_eqb t k (λ q. d (e ∙ ap (transaction n) (sym q)))) refl)

  pub kept_off : (y s : ℕ) → (x ≢ y) ⊎ (place_of u.back ≢ s) → (o : Transaction) → of_slot y s (open_updates w.first logs' o) ≡ of_slot y s (open_updates w.first logs o)
  kept_off y s d o = go (transaction_cases o (transaction n t)) d
    where
      go : (o ≡ transaction n t) ⊎ (o ≢ transaction n t) → (x ≢ y) ⊎ (place_of u.back ≢ s) → of_slot y s (open_updates w.first logs' o) ≡ of_slot y s (open_updates w.first logs o)
      go (inl e) (inl h) = rw (e, open_is, open_was) (sym (of_slot-other y s u us (inl (λ q. h (sym page ∙ q)))))
      go (inl e) (inr h) = rw (e, open_is, open_was) (sym (of_slot-other y s u us (inr h)))
      go (inr e) h = ap (of_slot y s) (open_off o e)

  owned_off : (y s : ℕ) → (x ≢ y) ⊎ (place_of u.back ≢ s) → Settles w.first logs' (image' y) y s (settled y s)
  owned_off y s d =
      let (o, c) = st.slots y s in (
        o,
        record {
          alone = λ p q. kept_off y s d p ∙ c.alone p q;
          value = rw (kept_off y s d o, slot_off w logs guard entry image settled lock n x u.back r st step guarded is_data used slot_op y s d) c.value;
        },
      )

  keep_was : of_slot x (place_of u.back) (open_updates w.first logs (transaction n t)) ≡ u ∷ of_slot x (place_of u.back) us
  keep_was = rw open_was (of_slot-same x (place_of u.back) u us page refl)

  owned_here : Settles w.first logs' (image' x) x (place_of u.back) (settled x (place_of u.back))
  owned_here = go (st.slots x (place_of u.back))
    where
      go : Settles w.first logs (image x) x (place_of u.back) (settled x (place_of u.back)) → Settles w.first logs' (image' x) x (place_of u.back) (settled x (place_of u.back))
      go (o, c) =
          let same : o ≡ transaction n t = is_it o c (transaction_cases o (transaction n t)) in
          let leads : Leads (of_slot x (place_of u.back) (open_updates w.first logs (transaction n t))) (settled x (place_of u.back)) (slots_of (image x) (place_of u.back)) =
          subst (λ k. Leads (of_slot x (place_of u.back) (open_updates w.first logs k)) (settled x (place_of u.back)) (slots_of (image x) (place_of u.back))) same c.value in
          let rest = (rw keep_was at leads).1 in (
            transaction n t,
            record {
              alone = λ p q. ap (of_slot x (place_of u.back)) (open_off p q) ∙ c.alone p (λ h. q (h ∙ same));
              value = rw (open_is, slot_here w logs guard entry image settled lock n x u.back r st step guarded is_data used slot_op) rest;
            },
          )
        where
          is_it : (o : Transaction) → SettlesBy w.first logs (image x) x (place_of u.back) (settled x (place_of u.back)) o → (o ≡ transaction n t) ⊎ (o ≢ transaction n t) → o ≡ transaction n t
          is_it o c (inl e) = e
          is_it o c (inr d) = let a = c.alone (transaction n t) (λ h. d (sym h)) in let k = keep_was in absurd cc

  compensation_slots : (y s : ℕ) → Settles w.first logs' (image' y) y s (settled y s)
  compensation_slots y s = go (at_slot w logs guard entry image settled lock n x u.back r st step guarded is_data used slot_op y s)
    where
      go : ((y ≡ x) × (s ≡ place_of u.back)) ⊎ ((x ≢ y) ⊎ (place_of u.back ≢ s)) → Settles w.first logs' (image' y) y s (settled y s)
      go (inl (a, c)) = rw (a, c) owned_here
      go (inr d) = owned_off y s d

  compensation_locks : (y s : ℕ) (o : Transaction) → of_slot y s (open_updates w.first logs' o) ≢ [] → lock y s ≡ Some o
  compensation_locks y s o h = go (at_slot w logs guard entry image settled lock n x u.back r st step guarded is_data used slot_op y s) (transaction_cases o (transaction n t))
    where
      go : ((y ≡ x) × (s ≡ place_of u.back)) ⊎ ((x ≢ y) ⊎ (place_of u.back ≢ s)) → (o ≡ transaction n t) ⊎ (o ≢ transaction n t) → lock y s ≡ Some o
      go (inl (a, c)) (inl e) = st.locks y s o (λ q. let k : of_slot y s (open_updates w.first logs o) ≡ u ∷ of_slot x (place_of u.back) us = rw (a, c, e) keep_was in absurd cc)
      go (inl (a, c)) (inr e) = st.locks y s o (λ q. h (ap (of_slot y s) (open_off o e) ∙ q))
      go (inr d) e = st.locks y s o (λ q. h (kept_off y s d o ∙ q))

  pub compensation_stands : IsStanding w (with_record n r logs) guard entry (set_at x (changed u.back (image x)) image) settled lock
  compensation_stands = slot_changed w logs guard entry image settled lock n x u.back r st step guarded is_data used slot_op compensation_slots compensation_locks

pub compensates : CompensationKeepsHistory
compensates p n t x next u us r history c used = changed_history p n r x u.back history c.guarded
    (λ logs was image l e f st. compensation_stands p.devices logs p.guard was image p.settled p.lock n t x next u us r st
    (rw f c.effect) c.next_is c.guarded c.is_data (rw e used) (rw l c.newest) c.page_is c.slot_change)
