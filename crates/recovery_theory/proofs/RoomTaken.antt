-- The room that a record takes, with what it owes.
use Rattle.std.proofs.Common.{◌≡◌, ◌≢◌, ◌⊎◌, inl, inr, ℕ, suc, ◌+◌, ◌<◌, ◌≤◌, Bool, true, false, cond, eqb, List, [], ◌∷◌, ◌++◌, length, refl, ap, sym, ◌∙◌, arith, Option, Some, None, length-append, eq-eqb, ne_eqb, ltb}
use Rattle.std.proofs.lemmas.Bool.{cases_lt}
use Rattle.log_record.specs.declared.record.LogRecord.{LogRecord}
use Rattle.recovery_theory.specs.Effect.{Effect, OpenUpdate, down_to, effect_of, left_by_effect, left_of, taken_down_to, with_update}
use Rattle.recovery_theory.specs.Effect.Effect.{Begun, Updated, Ended, Compensated, Mapped}
use Rattle.recovery_theory.specs.Rules.{MapOwesNone, OwedIsPaid, OwesOneMore, debt_of, debts, owed_by}
use Rattle.recovery_theory.specs.Rules.IsOwed.{an_end, a_compensation}
use Rattle.recovery_theory.specs.Room.{RoomForMapChange, RoomForOneMore, RoomForOwed}
use Rattle.recovery_theory.proofs.BeginsAndLocks.{left_of-new}
use Rattle.recovery_theory.proofs.OpenUpdates.{left_of-append}
use Rattle.recovery_theory.proofs.Sums.{total_change, total_fall, total_more}

-- no more is left when updates are taken back
shorter : (next : ℕ) (us : List OpenUpdate) → length (down_to next us) ≤ length us
shorter next [] = omega arith
shorter next (u ∷ us) = go (ltb next u.number) (shorter next us)
  where
    go : (b : Bool) → length (down_to next us) ≤ length us → length (cond b (down_to next us) (u ∷ down_to next us)) ≤ length (u ∷ us)
    go true h = omega arith
    go false h = omega arith

-- what a record makes of the debt of a transaction
debt_grows : (u r : ℕ) (e : Effect) (s : Option (List OpenUpdate)) → debt_of (left_by_effect u r e s) ≤ 1 + debt_of s
debt_grows u r Begun s = go (eqb r u)
  where
    go : (b : Bool) → debt_of (cond b (Some []) s) ≤ 1 + debt_of s
    go true = omega arith
    go false = omega arith
debt_grows u r (Updated t page bsi op back) s = go (eqb t u) s
  where
    go : (b : Bool) (s : Option (List OpenUpdate)) → debt_of (cond b (with_update (record { number = r; page = page; update = op; back = back }) s) s) ≤ 1 + debt_of s
    go false s = omega arith
    go true None = omega arith
    go true (Some us) = omega arith
debt_grows u r (Ended t) s = go (eqb t u)
  where
    go : (b : Bool) → debt_of (cond b None s) ≤ 1 + debt_of s
    go true = omega arith
    go false = omega arith
debt_grows u r (Compensated t next page bsi op) s = go (eqb t u) s
  where
    go : (b : Bool) (s : Option (List OpenUpdate)) → debt_of (cond b (taken_down_to next s) s) ≤ 1 + debt_of s
    go false s = omega arith
    go true None = omega arith
    go true (Some us) = omega (arith, shorter next us)
debt_grows u r (Mapped page bsi op) s = omega arith

module _ (first : ℕ) (l : List LogRecord) (rec : LogRecord) where
  after : (u : ℕ) → left_of u first (l ++ rec ∷ []) None ≡ left_by_effect u (first + length l) (effect_of rec) (left_of u first l None)
  after u = left_of-append u first l rec None

  -- a transaction that the record isn't of
  other : (u : ℕ) → ((s : Option (List OpenUpdate)) → left_by_effect u (first + length l) (effect_of rec) s ≡ s) → debt_of (left_of u first (l ++ rec ∷ []) None) ≤ debt_of (left_of u first l None)
  other u same = rw (after u, same (left_of u first l None)) (omega arith)

  -- the debts of the shorter log, with one transaction more
  longer : debts (first + length (l ++ rec ∷ [])) first l ≡ owed_by first l
  longer =
      let e : first + length (l ++ rec ∷ []) ≡ 1 + (first + length l) = omega (arith, length-append l (rec ∷ [])) in
      ap (λ k. debts k first l) e ∙ total_more (λ u. debt_of (left_of u first l None)) 1 (first + length l) (λ u le. ap debt_of (left_of-new u first l le))

  pub owes : owed_by first (l ++ rec ∷ []) ≤ suc (owed_by first l)
  owes = by (effect_of rec) refl
    where
      but : (t : ℕ) → ((u : ℕ) → u ≢ t → (s : Option (List OpenUpdate)) → left_by_effect u (first + length l) (effect_of rec) s ≡ s) → owed_by first (l ++ rec ∷ []) ≤ suc (owed_by first l)
      but t same =
          let own : debt_of (left_of t first (l ++ rec ∷ []) None) ≤ 1 + debt_of (left_of t first l None) = rw (after t) (debt_grows t (first + length l) (effect_of rec) (left_of t first l None)) in
          let falls = total_fall (λ u. debt_of (left_of u first (l ++ rec ∷ []) None)) (λ u. debt_of (left_of u first l None)) t 1 (λ u d. other u (same u d)) own (first + length (l ++ rec ∷ [])) in
          omega (arith, longer)

      by : (e : Effect) → effect_of rec ≡ e → owed_by first (l ++ rec ∷ []) ≤ suc (owed_by first l)
      by Begun e = but (first + length l) (λ u d s. rw (e, ne_eqb (first + length l) u (λ z. d (sym z))) refl)
      by (Updated t page bsi op back) e = but t (λ u d s. rw (e, ne_eqb t u (λ z. d (sym z))) refl)
      by (Ended t) e = but t (λ u d s. rw (e, ne_eqb t u (λ z. d (sym z))) refl)
      by (Compensated t next page bsi op) e = but t (λ u d s. rw (e, ne_eqb t u (λ z. d (sym z))) refl)
      by (Mapped page bsi op) e = but 0 (λ u d s. rw e refl)

  -- a record that changes nothing of any transaction
  pub idle : ((u : ℕ) (s : Option (List OpenUpdate)) → left_by_effect u (first + length l) (effect_of rec) s ≡ s) → owed_by first (l ++ rec ∷ []) ≤ owed_by first l
  idle same =
      let own : debt_of (left_of 0 first (l ++ rec ∷ []) None) ≤ 0 + debt_of (left_of 0 first l None) = omega (arith, other 0 (same 0)) in
      let falls = total_fall (λ u. debt_of (left_of u first (l ++ rec ∷ []) None)) (λ u. debt_of (left_of u first l None)) 0 0 (λ u d. other u (same u)) own (first + length (l ++ rec ∷ [])) in
      omega (arith, longer)

  -- a record that lowers the debt of an open transaction, and leaves the others
  pub pays : (t : ℕ) (us : List OpenUpdate) → left_of t first l None ≡ Some us → ((u : ℕ) → u ≢ t → (s : Option (List OpenUpdate)) → left_by_effect u (first + length l) (effect_of rec) s ≡ s)
      → debt_of (left_by_effect t (first + length l) (effect_of rec) (Some us)) < debt_of (Some us) → owed_by first (l ++ rec ∷ []) < owed_by first l
  pays t us is same less =
      let own : 1 + debt_of (left_of t first (l ++ rec ∷ []) None) ≤ 0 + debt_of (left_of t first l None) = rw (after t, is) (omega (arith, less)) in
      let falls = (total_change (λ u. debt_of (left_of u first (l ++ rec ∷ []) None)) (λ u. debt_of (left_of u first l None)) t 0 1 (λ u d. other u (same u d)) own (first + length (l ++ rec ∷ []))).0
      (began (cases_lt t (first + length l))) in
      omega (arith, longer)
    where
      began : (t < first + length l) ⊎ (first + length l ≤ t) → t < first + length (l ++ rec ∷ [])
      began (inl lt) = omega (arith, length-append l (rec ∷ []))
      began (inr le) = let none : None ≡ Some us = sym (left_of-new t first l le) ∙ is in absurd cc

pub owes_one_more : OwesOneMore
owes_one_more first l rec = owes first l rec

pub map_owes_none : MapOwesNone
map_owes_none first page bsi op l rec e = idle first l rec (λ u s. rw e refl)

pub owed_is_paid : OwedIsPaid
owed_is_paid first t l rec (an_end us e is) = pays first l rec t us is (λ u d s. rw (e, ne_eqb t u (λ z. d (sym z))) refl) (rw (e, eq-eqb t t refl) (omega arith))
owed_is_paid first t l rec (a_compensation next page bsi op u us e is down) = pays first l rec t (u ∷ us) is (λ v d s. rw (e, ne_eqb t v (λ z. d (sym z))) refl) (rw (e, eq-eqb t t refl, down) (omega arith))

pub room_for_one_more : RoomForOneMore
room_for_one_more w n l rec room = let o = owes_one_more (w.first n) l rec in let m = length-append l (rec ∷ []) in record { room = omega (arith, room.room); last = omega (arith, room.last) }

pub room_for_map_change : RoomForMapChange
room_for_map_change w n page bsi op l rec e room = let o = map_owes_none (w.first n) page bsi op l rec e in let m = length-append l (rec ∷ []) in record { room = omega (arith, room.room); last = omega (arith, room.last) }

pub room_for_owed : RoomForOwed
room_for_owed w n t l rec owed room = let o = owed_is_paid (w.first n) t l rec owed in let m = length-append l (rec ∷ []) in record { room = omega (arith, room.room); last = omega (arith, room.last) }
