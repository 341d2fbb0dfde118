-- The last record of each open transaction stands where its seat says, also behind one record more; and what a record of it names.
use Rattle.std.specs.Prelude.{◌≡◌, ◌≢◌, ◌+◌, ◌<◌, ◌++◌, ◌∷◌, [], ℕ, suc, Bool, true, false, cond, List, Option, Some, None, IfSome, is_some, length, slice_index_or, slice_set, refl}
use Rattle.std.proofs.Common.{arith, inl, inr, ap, subst, sym, ◌∙◌, eqb-true, length-append}
use Rattle.std.proofs.lemmas.Bool.{cases_eq, cases_lt}
use Rattle.std.proofs.lemmas.List.{get_or_default, get_or-set_other, get_or-set_same, length-set}
use Rattle.log_record.specs.declared.record.LogRecord.{LogRecord}
use Rattle.compensation.specs.Finding.{record_before}
use Rattle.txn_core.specs.Seats.{OpenTxn, SeatsState, txn_in}
use Rattle.recovery_theory.specs.Effect.{OpenUpdate, effect_of, left_by, left_of}
use Rattle.recovery_theory.specs.Effect.{Effect}
use Rattle.recovery_theory.specs.Effect.Effect.{Begun, Updated, Ended, Compensated, Mapped}
use Rattle.recovery_theory.specs.Rules.{Follows, IsRuled, RuleOf, ends, has_ended, is_record_of, last_record_of}
use Rattle.recovery_theory.proofs.BeginsAndLocks.{left_of-new}
use Rattle.recovery_theory.proofs.LogMoves.{left_of-old}
use Rattle.store_nodes.specs.Tied.{AreLatest}

-- ---- one record more

pub last_pushed : (t first : ℕ) (recs : List LogRecord) (rec : LogRecord) (last : ℕ) → last_record_of t first (recs ++ rec ∷ []) last ≡ cond (is_record_of t (effect_of rec)) (first + length recs) (last_record_of t first recs last)
last_pushed t first [] rec last = ap (λ k. cond (is_record_of t (effect_of rec)) k last) (omega arith)
last_pushed t first (e ∷ recs) rec last =
    last_pushed t (suc first) recs rec (cond (is_record_of t (effect_of e)) first last)
    ∙ ap (λ k. cond (is_record_of t (effect_of rec)) k (last_record_of t (suc first) recs (cond (is_record_of t (effect_of e)) first last))) (omega arith)

-- of the transaction, or of another one
pub last_own : (t first : ℕ) (recs : List LogRecord) (rec : LogRecord) → is_record_of t (effect_of rec) ≡ true → last_record_of t first (recs ++ rec ∷ []) t ≡ first + length recs
last_own t first recs rec own = last_pushed t first recs rec t ∙ ap (λ b. cond b (first + length recs) (last_record_of t first recs t)) own

pub last_other : (t first : ℕ) (recs : List LogRecord) (rec : LogRecord) → is_record_of t (effect_of rec) ≡ false → last_record_of t first (recs ++ rec ∷ []) t ≡ last_record_of t first recs t
last_other t first recs rec other = last_pushed t first recs rec t ∙ ap (λ b. cond b (first + length recs) (last_record_of t first recs t)) other

-- a record of none of the transactions
pub latest_others : (first : ℕ) (recs : List LogRecord) (rec : LogRecord) (seats : SeatsState) → ((t : ℕ) → is_record_of t (effect_of rec) ≡ false) → AreLatest first recs seats → AreLatest first (recs ++ rec ∷ []) seats
latest_others first recs rec seats none was i d low = by (slice_index_or seats.seats i d) (was i d low)
  where
    by : (o : Option OpenTxn) → IfSome o (λ t. last_record_of t.begin first recs t.begin ≡ t.last) → IfSome o (λ t. last_record_of t.begin first (recs ++ rec ∷ []) t.begin ≡ t.last)
    by None is = is
    by (Some t) is = last_other t.begin first recs rec (none t.begin) ∙ is

-- a record of the transaction in one seat alone, which has this then
pub latest_set : (first : ℕ) (recs : List LogRecord) (rec : LogRecord) (seats after : SeatsState) (seat : ℕ) (o : Option OpenTxn) → length seats.seats ≡ 8 → after.seats ≡ slice_set seats.seats seat o → IfSome o (λ t. last_record_of t.begin first (recs ++ rec ∷ []) t.begin ≡ t.last)
    → ((k : ℕ) → k < 8 → k ≢ seat → IfSome (txn_in seats k) (λ t. is_record_of t.begin (effect_of rec) ≡ false)) → AreLatest first recs seats → AreLatest first (recs ++ rec ∷ []) after
latest_set first recs rec seats after seat o eight new own none was i d low =
    let long = ap length new ∙ length-set seats.seats seat o in
    let below : i < length seats.seats = omega (arith, low, long) in
    subst (λ u. IfSome u (λ t. last_record_of t.begin first (recs ++ rec ∷ []) t.begin ≡ t.last)) (sym (ap (λ os. slice_index_or os i d) new)) (elim (cases_eq seat i) [
      | inl here ↦ subst (λ k. IfSome (slice_index_or (slice_set seats.seats seat o) k d) (λ t. last_record_of t.begin first (recs ++ rec ∷ []) t.begin ≡ t.last)) here
          (subst (λ u. IfSome u (λ t. last_record_of t.begin first (recs ++ rec ∷ []) t.begin ≡ t.last)) (sym (get_or-set_same seats.seats seat o d (subst (λ k. k < length seats.seats) (sym here) below))) own)
      | inr far ↦ subst (λ u. IfSome u (λ t. last_record_of t.begin first (recs ++ rec ∷ []) t.begin ≡ t.last)) (sym (get_or-set_other seats.seats seat i o d (λ e. far (sym e))))
          (by (slice_index_or seats.seats i d) (was i d below) (subst (λ u. IfSome u (λ t. is_record_of t.begin (effect_of rec) ≡ false)) (get_or_default seats.seats i None d below) (none i (omega (arith, below, eight)) (λ e. far (sym e)))))
    ])
  where
    by : (u : Option OpenTxn) → IfSome u (λ t. last_record_of t.begin first recs t.begin ≡ t.last) → IfSome u (λ t. is_record_of t.begin (effect_of rec) ≡ false) → IfSome u (λ t. last_record_of t.begin first (recs ++ rec ∷ []) t.begin ≡ t.last)
    by None is other = is
    by (Some t) is other = last_other t.begin first recs rec other ∙ is

-- ---- what a record of an open transaction names

-- a transaction that has ended isn't open
ended_closed : (t first : ℕ) (before l : List LogRecord) (s : Option (List OpenUpdate)) → IsRuled first before l → has_ended t l ≡ true → left_of t (first + length before) l s ≡ None
ended_closed t first before [] s ruled ended = absurd cc
ended_closed t first before (rec ∷ l) s ruled ended = by (ends t (effect_of rec)) refl (λ rest. ended_closed t first (before ++ rec ∷ []) l (left_by t (first + length before) rec s) ruled.1 rest)
  where
    one_more : suc (first + length before) ≡ first + length (before ++ rec ∷ [])
    one_more = let long = length-append before (rec ∷ []) in omega (arith, long)

    end : (e : Effect) → effect_of rec ≡ e → RuleOf first before rec e → ends t e ≡ true → left_of t (suc (first + length before)) l (left_by t (first + length before) rec s) ≡ None
    end Begun is rule own = absurd cc
    end (Updated txn page bsi op back) is rule own = absurd cc
    end (Ended txn) is rule own =
        let same : txn ≡ t = eqb-true txn t own in
        let below = rule.below in
        let none : left_by t (first + length before) rec s ≡ None = rw (is, own) refl in
        ap (left_of t (suc (first + length before)) l) none ∙ left_of-old t (suc (first + length before)) l (omega (arith, same, below))
    end (Compensated txn next page bsi op) is rule own = absurd cc
    end (Mapped page bsi op) is rule own = absurd cc

    by : (b : Bool) → ends t (effect_of rec) ≡ b → (has_ended t l ≡ true → left_of t (first + length (before ++ rec ∷ [])) l (left_by t (first + length before) rec s) ≡ None) → left_of t (first + length before) (rec ∷ l) s ≡ None
    by true is rest = end (effect_of rec) refl ruled.0 is
    by false is rest = ap (λ k. left_of t k l (left_by t (first + length before) rec s)) one_more ∙ rest (rw is at ended)

-- a record that names an open transaction, and its last record, follows it
pub follows_open : (t first : ℕ) (recs : List LogRecord) (rec : LogRecord) (left : List OpenUpdate) → IsRuled first [] recs → left_of t first recs None ≡ Some left → record_before rec ≡ last_record_of t first recs t → Follows first recs t rec
follows_open t first recs rec left ruled going prev = record {
  below = elim (cases_lt t (first + length recs)) [
    | inl low ↦ low
    | inr high ↦ (let never : Some left ≡ None = sym going ∙ left_of-new t first recs high in absurd cc)
  ];
  going = by (has_ended t recs) refl;
  begun = λ low. ap is_some going;
  prev = λ low. prev;
}
  where
    by : (b : Bool) → has_ended t recs ≡ b → has_ended t recs ≡ false
    by false is = is
    by true is =
        let zero : first ≡ first + 0 = omega arith in
        let closed : left_of t (first + 0) recs None ≡ None = ended_closed t first [] recs None ruled is in
        let never : Some left ≡ None = sym going ∙ ap (λ k. left_of t k recs None) zero ∙ closed in absurd cc
