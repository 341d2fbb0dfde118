-- An update keeps what stands.
use Rattle.std.proofs.Common.{◌≡◌, ◌≢◌, ◌⊎◌, inl, inr, ℕ, ◌+◌, ◌≤◌, ◌&&◌, Bool, true, false, cond, eqb, List, [], ◌∷◌, length, refl, ap, ap₂, sym, ◌∙◌, Option, Some, None, eq-eqb, ne_eqb, subst}
use Rattle.std.proofs.lemmas.Bool.{cases_eq}
use Rattle.log_record.specs.declared.record.LogRecord.{LogRecord}
use Rattle.recovery_theory.specs.Effect.{OpenUpdate, Transaction, left_of, of_slot, open_updates, effect_of}
use Rattle.recovery_theory.specs.Effect.Effect.{Updated}
use Rattle.recovery_theory.specs.Pages.{SlotValue, place_of, slot_after, slots_of, is_used, IsSlotChange}
use Rattle.recovery_theory.specs.Standing.{Devices, Leads, Settles, IsStanding}
use Rattle.recovery_theory.specs.Steps.{with_record, set_at, UpdateKeepsHistory}
use Rattle.sd_base.specs.declared.page_op.PageOp.{PageOp}
use Rattle.space_map.specs.declared.map_entry.MapEntry.{MapEntry}
use Rattle.recovery_theory.proofs.Cuts.{changed_history}
use Rattle.recovery_theory.proofs.OpenUpdates.{transaction, transaction_cases, open-elsewhere, open-here, owned_by_lock}
use Rattle.recovery_theory.proofs.SlotChanges.{StepIs, step_of_update, slot_here, slot_off, at_slot, slot_changed}
use Rattle.space_map.specs.PageImage.{changed, ident_of, PageImage}

-- the update that a record makes, as it is left to be taken back
abbrev pub open_update_of : Devices → (ℕ → List LogRecord) → ℕ → ℕ → PageOp → PageOp → OpenUpdate
open_update_of w logs n x op back = record { number = w.first n + length (logs n); page = x; update = op; back = back }

-- what an update does to what is left
pub open-update : (w : Devices) (logs : ℕ → List LogRecord) (n t x b : ℕ) (op back : PageOp) (r : LogRecord) (us : List OpenUpdate) → effect_of r ≡ Updated t x b op back
    → left_of t (w.first n) (logs n) None ≡ Some us
    → open_updates w.first (with_record n r logs) (transaction n t) ≡ open_update_of w logs n x op back ∷ open_updates w.first logs (transaction n t)
open-update w logs n t x b op back r us is e = open-here w.first n r logs t ∙ rw (is, eq-eqb t t refl, e) refl

-- and to what is left of another transaction
pub open-update_other : (w : Devices) (logs : ℕ → List LogRecord) (n t x b : ℕ) (op back : PageOp) (r : LogRecord) (o : Transaction) → effect_of r ≡ Updated t x b op back → o ≢ transaction n t
    → open_updates w.first (with_record n r logs) o ≡ open_updates w.first logs o
open-update_other w logs n t x b op back r o is d = go (cases_eq o.node n)
  where
    go : (o.node ≡ n) ⊎ (o.node ≢ n) → open_updates w.first (with_record n r logs) o ≡ open_updates w.first logs o
    go (inl e) =
        let o' : o ≡ transaction n o.txn = ap₂ transaction e refl in
        let ne : t ≢ o.txn = λ q. d (ap₂ transaction e (sym q)) in
        subst (λ z. open_updates w.first (with_record n r logs) z ≡ open_updates w.first logs z) (sym o')
        (open-here w.first n r logs o.txn ∙ rw (is, ne_eqb t o.txn ne) refl)
    go (inr e) = open-elsewhere w.first n r logs o e

-- an update of the slot, and one of another
pub of_slot-same : (x s : ℕ) (u : OpenUpdate) (us : List OpenUpdate) → u.page ≡ x → place_of u.back ≡ s → of_slot x s (u ∷ us) ≡ u ∷ of_slot x s us
of_slot-same x s u us a b = rw (eq-eqb u.page x a, eq-eqb (place_of u.back) s b) refl

pub of_slot-other : (x s : ℕ) (u : OpenUpdate) (us : List OpenUpdate) → (u.page ≢ x) ⊎ (place_of u.back ≢ s) → of_slot x s (u ∷ us) ≡ of_slot x s us
of_slot-other x s u us (inl d) = rw (ne_eqb u.page x d) refl
of_slot-other x s u us (inr d) = go (eqb u.page x)
  where
    go : (t : Bool) → cond (t && eqb (place_of u.back) s) (u ∷ of_slot x s us) (of_slot x s us) ≡ of_slot x s us
    go true = rw (ne_eqb (place_of u.back) s d) refl
    go false = refl

module _ (w : Devices) (logs : ℕ → List LogRecord) (guard : ℕ → ℕ) (entry : ℕ → MapEntry) (image : ℕ → PageImage) (settled : ℕ → ℕ → SlotValue) (lock : ℕ → ℕ → Option Transaction)
    (n t x : ℕ) (op back : PageOp) (r : LogRecord) (us : List OpenUpdate)
    (st : IsStanding w logs guard entry image settled lock)
    (is : effect_of r ≡ Updated t x (ident_of (image x)) op back)
    (guarded : guard x ≡ n)
    (is_data : w.shape.maps ≤ x)
    (used : is_used (entry x) ≡ true)
    (slot_op : IsSlotChange op)
    (place : place_of back ≡ place_of op)
    (inverse : slot_after back (slot_after op (slots_of (image x) (place_of op))) ≡ slots_of (image x) (place_of op))
    (locked : lock x (place_of op) ≡ Some (record { node = n; txn = t }))
    (is_open : left_of t (w.first n) (logs n) None ≡ Some us) where
  abbrev logs' : ℕ → List LogRecord
  logs' = with_record n r logs

  abbrev image' : ℕ → PageImage
  image' = set_at x (changed op (image x)) image

  step : StepIs r x (ident_of (image x)) op
  step = step_of_update r t x (ident_of (image x)) op back is

  more : open_updates w.first (with_record n r logs) (transaction n t) ≡ open_update_of w logs n x op back ∷ open_updates w.first logs (transaction n t)
  more = open-update w logs n t x (ident_of (image x)) op back r us is is_open

  other : (o : Transaction) → o ≢ transaction n t → open_updates w.first (with_record n r logs) o ≡ open_updates w.first logs o
  other o d = open-update_other w logs n t x (ident_of (image x)) op back r o is d

  kept_off : (y s : ℕ) → (x ≢ y) ⊎ (place_of op ≢ s) → (o : Transaction) → of_slot y s (open_updates w.first logs' o) ≡ of_slot y s (open_updates w.first logs o)
  kept_off y s d o = go (transaction_cases o (transaction n t)) d
    where
      go : (o ≡ transaction n t) ⊎ (o ≢ transaction n t) → (x ≢ y) ⊎ (place_of op ≢ s) → of_slot y s (open_updates w.first logs' o) ≡ of_slot y s (open_updates w.first logs o)
      go (inl e) (inl h) = rw (e, more) (of_slot-other y s (open_update_of w logs n x op back) (open_updates w.first logs (transaction n t)) (inl h))
      go (inl e) (inr h) = rw (e, more) (of_slot-other y s (open_update_of w logs n x op back) (open_updates w.first logs (transaction n t)) (inr (λ q. h (sym place ∙ q))))
      go (inr e) h = ap (of_slot y s) (other o e)

  owned_off : (y s : ℕ) → (x ≢ y) ⊎ (place_of op ≢ s) → Settles w.first logs' (image' y) y s (settled y s)
  owned_off y s d =
      let (o, c) = st.slots y s in (
        o,
        record {
          alone = λ p q. kept_off y s d p ∙ c.alone p q;
          value = rw (kept_off y s d o, slot_off w logs guard entry image settled lock n x op r st step guarded is_data used slot_op y s d) c.value;
        },
      )

  owned_here : Settles w.first logs' (image' x) x (place_of op) (settled x (place_of op))
  owned_here =
      let c = owned_by_lock w logs (image x) x (place_of op) (settled x (place_of op)) (transaction n t) (st.slots x (place_of op)) (λ p q. sym locked ∙ st.locks x (place_of op) p q) in
      let value : (slot_after op (slot_after back (slot_after op (slots_of (image x) (place_of op)))) ≡ slot_after op (slots_of (image x) (place_of op)))
      × Leads (of_slot x (place_of op) (open_updates w.first logs (transaction n t))) (settled x (place_of op)) (slot_after back (slot_after op (slots_of (image x) (place_of op)))) =
      (ap (slot_after op) inverse, rw inverse c.value) in (
        transaction n t,
        record {
          alone = λ p q. ap (of_slot x (place_of op)) (other p q) ∙ c.alone p q;
          value = rw (more, of_slot-same x (place_of op) (open_update_of w logs n x op back) (open_updates w.first logs (transaction n t)) refl place, slot_here w logs guard entry image settled lock n x op r st step guarded is_data used slot_op) value;
        },
      )

  update_slots : (y s : ℕ) → Settles w.first logs' (image' y) y s (settled y s)
  update_slots y s = go (at_slot w logs guard entry image settled lock n x op r st step guarded is_data used slot_op y s)
    where
      go : ((y ≡ x) × (s ≡ place_of op)) ⊎ ((x ≢ y) ⊎ (place_of op ≢ s)) → Settles w.first logs' (image' y) y s (settled y s)
      go (inl (a, b)) = rw (a, b) owned_here
      go (inr d) = owned_off y s d

  update_locks : (y s : ℕ) (o : Transaction) → of_slot y s (open_updates w.first logs' o) ≢ [] → lock y s ≡ Some o
  update_locks y s o h = go (at_slot w logs guard entry image settled lock n x op r st step guarded is_data used slot_op y s) (transaction_cases o (transaction n t))
    where
      go : ((y ≡ x) × (s ≡ place_of op)) ⊎ ((x ≢ y) ⊎ (place_of op ≢ s)) → (o ≡ transaction n t) ⊎ (o ≢ transaction n t) → lock y s ≡ Some o
      go (inl (a, b)) (inl e) = rw (a, b, e) locked
      go (inl (a, c)) (inr e) = st.locks y s o (λ q. h (ap (of_slot y s) (other o e) ∙ q))
      go (inr d) e = st.locks y s o (λ q. h (kept_off y s d o ∙ q))

  pub update_stands : IsStanding w (with_record n r logs) guard entry (set_at x (changed op (image x)) image) settled lock
  update_stands = slot_changed w logs guard entry image settled lock n x op r st step guarded is_data used slot_op update_slots update_locks

pub updates : UpdateKeepsHistory
updates p n t x op back r us history u = changed_history p n r x op history u.guarded
    (λ logs was image l e f st. update_stands p.devices logs p.guard was image p.settled p.lock n t x op back r us st
    (rw f u.effect) u.guarded u.is_data (rw e u.used) u.slot_change u.same_slot (rw f u.inverse) u.locked (rw l u.is_open))
