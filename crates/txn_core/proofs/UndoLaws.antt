-- The update that is to be taken back next, where the records tell the transaction.
use Rattle.std.specs.Prelude.{◌≡◌, ◌≢◌, ◌⊎◌, ◌≤◌, ◌<◌, ◌-◌, ◌*◌, ◌==◌, ◌++◌, ℕ, Bool, true, false, [], ◌∷◌, List, Option, Some, None, IfSome, is_some, length, nat_lt, not, if◌then◌else◌, refl}
use Rattle.std.proofs.Common.{arith, inl, inr, ap, subst, sym, ◌∙◌}
use Rattle.std.specs.Bool.{beq}
use Rattle.std.proofs.lemmas.Bool.{eqb-true, eq-eqb}
use Rattle.std.proofs.lemmas.Bool.Decides.{nat_tests}
use Rattle.log_record.specs.declared.record.LogRecord.{LogRecord}
use Rattle.log_record.specs.declared.record.LogRecord.TheVariants.{Begin, Set, Append, Commit, Abort, Restore, Cut, MapUse, MapFree}
use Rattle.log_record.specs.Record.{page_op_of}
use Rattle.compensation.specs.Left.{is_update_of, next_after, uncompensated}
use Rattle.compensation.specs.Finding.{newest, next_behind, next_to_undo, record_at}
use Rattle.txn_core.specs.Seats.{OpenTxn, SeatsState, txn_in}
use Rattle.txn_core.specs.Told.{AreTold, IsOpenIn, IsRecordOf, NamesEarlier}
use Rattle.txn_core.specs.Undo.{but_for, to_undo}
use Rattle.compensation.proofs.LogRecords.{at_place}
use Rattle.txn_core.proofs.SeatLaws.{busy_below}
use Rattle.txn_core.proofs.ToldLaws.{left_is_update, next_before_is, next_is_begin, next_is_none, next_is_update}
use Rattle.compensation.proofs.LeftLaws.{next_of_compensation, next_of_update}

-- what the option says
by_next : (t : ℕ) (o : Option ℕ) → but_for t o ≡ None → (o ≡ None) ⊎ (o ≡ Some t)
by_next t None e = inl refl
by_next t (Some n) e = by (n == t) refl e
  where
    by : (b : Bool) → (n == t) ≡ b → (if b then None else Some n) ≡ None → (Some n ≡ None) ⊎ (Some n ≡ Some t)
    by true is none = inr (ap Some (eqb-true n t is))
    by false is none = cc

not_it : (m t : ℕ) → (m == t) ≡ false → m ≡ t → ⊥
not_it m t is same = let yes : (m == t) ≡ true = eq-eqb m t same in cc

some_next : (t n : ℕ) (o : Option ℕ) → but_for t o ≡ Some n → (o ≡ Some n) × (n ≢ t)
some_next t n None e = cc
some_next t n (Some m) e = by (m == t) refl e
  where
    by : (b : Bool) → (m == t) ≡ b → (if b then None else Some m) ≡ Some n → (Some m ≡ Some n) × (n ≢ t)
    by true is none = cc
    by false is one = (one, λ same. not_it m t is (let e : m ≡ n = cc in e ∙ same))

none_left : (us : List ℕ) → newest us ≡ None → us ≡ []
none_left [] e = refl
none_left (u ∷ us) e = cc

-- nothing is left where the last record leads to the first one
pub nothing_left : (t : OpenTxn) (first : ℕ) (recs : List LogRecord) (rec : LogRecord) → NamesEarlier first recs → IsOpenIn first recs t → record_at first recs t.last ≡ Some rec → to_undo t rec ≡ None → uncompensated t.begin first recs ≡ []
nothing_left t first recs rec names was at none = none_left _ (elim (by_next t.begin (next_to_undo rec t.last) none) [
  | inl nothing ↦ next_is_none t first recs rec names was at nothing
  | inr begin ↦ next_is_begin t first recs rec names was at begin
])

-- else it leads to the newest that is left
pub newest_left : (t : OpenTxn) (first : ℕ) (recs : List LogRecord) (rec : LogRecord) (n : ℕ) → NamesEarlier first recs → IsOpenIn first recs t → record_at first recs t.last ≡ Some rec → to_undo t rec ≡ Some n → newest (uncompensated t.begin first recs) ≡ Some n
newest_left t first recs rec n names was at some = let is = some_next t.begin n (next_to_undo rec t.last) some in next_is_update t first recs rec n names was at is.0 is.1

-- the transaction of a seat is told
pub seat_told : (s : SeatsState) (start seat : ℕ) (t : OpenTxn) (recs : List LogRecord) → AreTold s start recs → txn_in s seat ≡ Some t → IsOpenIn (6 * start) recs t
seat_told s start seat t recs told is = subst (λ o. IfSome o (IsOpenIn (6 * start) recs)) is (told.each seat None (busy_below s seat t is))

-- and that is an update
pub newest_update : (t : OpenTxn) (first : ℕ) (recs : List LogRecord) (n : ℕ) (rec : LogRecord) → IsOpenIn first recs t → newest (uncompensated t.begin first recs) ≡ Some n → record_at first recs n ≡ Some rec → is_update_of t.begin rec ≡ true
newest_update t first recs n rec was new at = by (uncompensated t.begin first recs) refl new
  where
    by : (us : List ℕ) → uncompensated t.begin first recs ≡ us → newest us ≡ Some n → is_update_of t.begin rec ≡ true
    by [] e none = cc
    by (u ∷ us) e one =
        let is = left_is_update t first recs u us was e in
        let same : u ≡ n = cc in
        let both : Some is.0 ≡ Some rec = sym is.1 ∙ ap (record_at first recs) same ∙ at in
        let rec_is : is.0 ≡ rec = cc in
        subst (λ r. is_update_of t.begin r ≡ true) rec_is is.2

-- there is one exactly where something is left
pub left_told : (t : OpenTxn) (first : ℕ) (recs : List LogRecord) (rec : LogRecord) → NamesEarlier first recs → IsOpenIn first recs t → record_at first recs t.last ≡ Some rec → is_some (to_undo t rec) ≡ nat_lt 0 t.left
left_told t first recs rec names was at = by (to_undo t rec) refl
  where
    by : (o : Option ℕ) → to_undo t rec ≡ o → is_some o ≡ nat_lt 0 t.left
    by None none = let left : 0 ≡ t.left = sym (ap length (nothing_left t first recs rec names was at none)) ∙ was.count in ap (nat_lt 0) left
    by (Some n) some = sym (more (uncompensated t.begin first recs) (newest_left t first recs rec n names was at some) was.count)
      where
        more : (us : List ℕ) → newest us ≡ Some n → length us ≡ t.left → nat_lt 0 t.left ≡ true
        more [] new count = cc
        more (u ∷ us) new count = let some : 0 < t.left = omega (arith, count) in grind (arith, nat_tests)

pub not_both : (a b : Bool) → a ≡ b → not (beq a b) ≡ true → ⊥
not_both true true same differs = cc
not_both true false same differs = cc
not_both false true same differs = cc
not_both false false same differs = cc

-- it lies within the transaction
pub undo_within : (t : OpenTxn) (first : ℕ) (recs : List LogRecord) (rec : LogRecord) (n : ℕ) → IsOpenIn first recs t → record_at first recs t.last ≡ Some rec → to_undo t rec ≡ Some n → (t.begin < n) × (n ≤ t.last)
undo_within t first recs rec n was at some =
    let same : Some was.last_record ≡ Some rec = sym was.last ∙ at in
    let one : was.last_record ≡ rec = cc in
    let is = some_next t.begin n (next_to_undo rec t.last) some in
    elim (subst (IsRecordOf t.begin t.last) one was.own) [
      | inl begun ↦ let none : next_to_undo rec t.last ≡ None = ap (λ r. next_to_undo r t.last) begun.1 in absurd (never none is.0)
      | inr (later, inl update) ↦ let up = next_of_update t.begin t.last rec update in let n_is : n ≡ t.last = let e = is.0 in cc in (omega (arith, later, n_is), omega (arith, n_is))
      | inr (later, inr comp) ↦ by (next_after t.begin rec) refl comp is
    ]
  where
    never : next_to_undo rec t.last ≡ None → next_to_undo rec t.last ≡ Some n → ⊥
    never a b = cc

    by : (o : Option ℕ) → next_after t.begin rec ≡ o → next_after t.begin rec ≢ None → (next_to_undo rec t.last ≡ Some n) × (n ≢ t.begin) → (t.begin < n) × (n ≤ t.last)
    by None e comp is = absurd (comp e)
    by (Some next) e comp is =
        let told = next_of_compensation t.begin t.last next rec e in
        let place = at_place first recs t.last rec at in
        let n_is : n ≡ next = let f = is.0 in cc in
        elim (was.chained.compensation (t.last - first) next rec place.1 e) [
          | inl begin ↦ absurd (is.1 (n_is ∙ begin))
          | inr up ↦ (omega (arith, up.3, n_is), omega (arith, up.4, n_is, place.0))
        ]

-- ---- what is taken back after an update

-- the number that the update's record leads to, where it is in the seat's transaction
pub walk : (s : SeatsState) (start seat : ℕ) (t : OpenTxn) (recs : List LogRecord) (newer : List ℕ) (u : ℕ) (before : List ℕ) (rec : LogRecord) (next : ℕ) → AreTold s start recs → txn_in s seat ≡ Some t → uncompensated t.begin (6 * start) recs ≡ newer ++ u ∷ before → record_at (6 * start) recs u ≡ Some rec → next ≡ next_behind t.begin (6 * start) recs rec
    → ((next ≡ t.begin) × (before ≡ []))
    ⊎ ((update : LogRecord) × (record_at (6 * start) recs next ≡ Some update) × (is_update_of t.begin update ≡ true) × (t.begin < next) × (next < u) × (newest before ≡ Some next))
walk s start seat t recs newer u before rec next told busy left at is =
    subst (λ n. ((n ≡ t.begin) × (before ≡ [])) ⊎ ((update : LogRecord) × (record_at (6 * start) recs n ≡ Some update) × (is_update_of t.begin update ≡ true) × (t.begin < n) × (n < u) × (newest before ≡ Some n))) (sym is)
    (elim (next_before_is t (6 * start) recs newer u before rec told.names (seat_told s start seat t recs told busy) left at) [
      | inl begin ↦ inl (begin.0, none_left before begin.1)
      | inr up ↦ inr up
    ])

-- an update has a page
pub page_of_update : (t : ℕ) (rec : LogRecord) → is_update_of t rec ≡ true → page_op_of rec ≡ None → ⊥
page_of_update t Begin is none = cc
page_of_update t (Set txn prev page bsi slot before after) is none = cc
page_of_update t (Append txn prev page bsi slot present len bytes) is none = cc
page_of_update t (Commit txn prev) is none = cc
page_of_update t (Abort txn prev) is none = cc
page_of_update t (Restore txn prev next page bsi slot after) is none = cc
page_of_update t (Cut txn prev next page bsi slot present len) is none = cc
page_of_update t (MapUse page bsi place group) is none = cc
page_of_update t (MapFree page bsi place group ident) is none = cc
