-- What the records of a log tell of its open transactions, as the log grows.
use Rattle.std.proofs.Common.{◌≡◌, ◌≢◌, ◌+◌, ◌-◌, ◌≤◌, ◌<◌, ◌++◌, ℕ, zero, suc, Bool, true, false, List, [], ◌∷◌, All, Option, Some, None, length, refl, sym, ◌∙◌, ap, subst, arith, ◌⊎◌, inl, inr, option_and_then, unwrap_or}
use Rattle.std.specs.List.{list_any, slice_get}
use Rattle.std.proofs.lemmas.List.Elements.{All-append}
use Rattle.std.proofs.lemmas.Bool.{cases_eq}
use Rattle.log_record.specs.declared.record.LogRecord.{LogRecord}
use Rattle.log_record.specs.declared.record.LogRecord.TheVariants.{Begin}
use Rattle.log_record.specs.Fields.{fields_of}
use Rattle.compensation.specs.Left.{is_update_of, next_after, takes_back, uncompensated}
use Rattle.compensation.specs.Finding.{TellsLeft, left_at, newest, next_behind, next_to_undo, record_at, record_before}
use Rattle.compensation.proofs.LeftLaws.{compensation_not_update, here, left-other, left-update, next_of_compensation, next_of_update, update_not_compensation}
use Rattle.compensation.proofs.FindingLaws.{TellsLeft-update, TellsLeft-taken_back, TellsLeft-other, found-update, found-compensation, left-taken_back, left_at-begin, left_behind, update_left}
use Rattle.txn_core.specs.Seats.{OpenTxn}
use Rattle.txn_core.specs.Told.{IsChained, IsOpenIn, IsRecordOf, NamesEarlier}
use Rattle.compensation.proofs.LogRecords.{at_place, of_place, below_end, record_at-push, record_at-last, old_or_new, left_at-push, left_at-last, other_txn}

-- ---- no record names a transaction that begins behind it

-- the new record names no transaction that begins behind it either
pub names-push : (first : ℕ) (recs : List LogRecord) (rec : LogRecord) → NamesEarlier first recs → (fields_of rec).txn ≤ first + length recs → NamesEarlier first (recs ++ rec ∷ [])
names-push first recs x names low i rec at = elim (old_or_new recs x rec i at) as (λ _. (fields_of rec).txn ≤ first + i) [
  | inl h ↦ names i rec h.1
  | inr h ↦ subst (λ r. (fields_of r).txn ≤ first + i) h.1 (omega (arith, low, h.0))
]

-- before its first record there is no update of a transaction
none_before : (t first : ℕ) (recs : List LogRecord) → NamesEarlier first recs → record_at first recs t ≡ Some Begin → (i : ℕ) (rec : LogRecord) → slice_get recs i ≡ Some rec → first + i ≤ t → is_update_of t rec ≡ false
none_before t first recs names begun i rec at le = elim (cases_eq (first + i) t) [
  | inl this ↦
      let place : t - first ≡ i = omega (arith, this) in
      let same : Some Begin ≡ Some rec = sym (at_place first recs t Begin begun).1 ∙ ap (slice_get recs) place ∙ at in
      let one : Begin ≡ rec = cc in
      ap (is_update_of t) (sym one)
  | inr other ↦ let low = names i rec at in (other_txn t rec (λ e. omega (arith, low, e, other, le))).0
]

-- at the record that began it nothing was left
nothing_at_begin : (t first : ℕ) (recs : List LogRecord) → NamesEarlier first recs → record_at first recs t ≡ Some Begin → left_at t first recs t ≡ []
nothing_at_begin t first recs names begun = left_at-begin t first recs (none_before t first recs names begun)

-- ---- the records of a transaction lead to one another

-- the record with this number is one of the transaction, and lies before `end`
abbrev IsOwn : ℕ → ℕ → List LogRecord → ℕ → ℕ → Type 0
IsOwn t first recs r end = (rec : LogRecord) × (record_at first recs r ≡ Some rec) × IsRecordOf t r rec × (r < end)

-- this number is that of an update of the transaction before `end`, or of the record that began it
abbrev IsNext : ℕ → ℕ → List LogRecord → ℕ → ℕ → Type 0
IsNext t first recs next end = (next ≡ t) ⊎ ((update : LogRecord) × (record_at first recs next ≡ Some update) × (is_update_of t update ≡ true) × (t < next) × (next < end))

-- a record of the transaction stays one when one more is written
own-push : (t first : ℕ) (recs : List LogRecord) (x : LogRecord) (r end : ℕ) → IsOwn t first recs r end → IsOwn t first (recs ++ x ∷ []) r end
own-push t first recs x r end own = (own.0, record_at-push first recs x r own.0 own.1, own.2, own.3)

-- and so does what is next, also before a later end
next-push : (t first : ℕ) (recs : List LogRecord) (x : LogRecord) (next low high : ℕ) → low ≤ high → IsNext t first recs next low → IsNext t first (recs ++ x ∷ []) next high
next-push t first recs x next low high le (inl begin) = inl begin
next-push t first recs x next low high le (inr up) = inr (up.0, record_at-push first recs x next up.0 up.1, up.2, up.3, omega (arith, up.4, le))

-- the records go on leading to one another with a record that does so too
chained-push : (t first : ℕ) (recs : List LogRecord) (x : LogRecord) → IsChained t first recs
    → (is_update_of t x ≡ true → IsOwn t first recs (record_before x) (first + length recs))
    → ((next : ℕ) → next_after t x ≡ Some next → IsNext t first recs next (first + length recs))
    → IsChained t first (recs ++ x ∷ [])
chained-push t first recs x chained own next_is = record {
  begun = record_at-push first recs x t Begin chained.begun;
  update = updates;
  compensation = compensations;
}
  where
    updates : (i : ℕ) (rec : LogRecord) → slice_get (recs ++ x ∷ []) i ≡ Some rec → is_update_of t rec ≡ true → IsOwn t first (recs ++ x ∷ []) (record_before rec) (first + i)
    updates i rec at is = elim (old_or_new recs x rec i at) as (λ _. IsOwn t first (recs ++ x ∷ []) (record_before rec) (first + i)) [
      | inl h ↦ own-push t first recs x (record_before rec) (first + i) (chained.update i rec h.1 is)
      | inr h ↦
          let new : IsOwn t first (recs ++ x ∷ []) (record_before x) (first + length recs) = own-push t first recs x (record_before x) (first + length recs) (own (ap (is_update_of t) h.1 ∙ is)) in
          subst (λ n. IsOwn t first (recs ++ x ∷ []) (record_before rec) (first + n)) (sym h.0) (subst (λ r. IsOwn t first (recs ++ x ∷ []) (record_before r) (first + length recs)) h.1 new)
    ]

    compensations : (i next : ℕ) (rec : LogRecord) → slice_get (recs ++ x ∷ []) i ≡ Some rec → next_after t rec ≡ Some next → IsNext t first (recs ++ x ∷ []) next (first + i)
    compensations i next rec at is = elim (old_or_new recs x rec i at) as (λ _. IsNext t first (recs ++ x ∷ []) next (first + i)) [
      | inl h ↦ next-push t first recs x next (first + i) (first + i) (omega arith) (chained.compensation i next rec h.1 is)
      | inr h ↦ next-push t first recs x next (first + length recs) (first + i) (omega (arith, h.0)) (next_is next (ap (next_after t) h.1 ∙ is))
    ]

-- what is next behind an update is an update of the transaction, or the record that began it
next_behind_is : (t first : ℕ) (recs : List LogRecord) (update : LogRecord) (end : ℕ) → IsChained t first recs → IsOwn t first recs (record_before update) end → IsNext t first recs (next_behind t first recs update) end
next_behind_is t first recs update end chained own =
    subst (λ o. IsNext t first recs (unwrap_or (option_and_then (next_after t) o) (record_before update)) end) (sym own.1) (by (next_after t own.0) refl own.2)
  where
    by : (o : Option ℕ) → next_after t own.0 ≡ o → IsRecordOf t (record_before update) own.0 → IsNext t first recs (unwrap_or o (record_before update)) end
    by None e (inl begin) = inl begin.0
    by None e (inr later) = elim later.1 as (λ _. IsNext t first recs (record_before update) end) [
      | inl up ↦ inr (own.0, own.1, up, later.0, own.3)
      | inr comp ↦ absurd (comp e)
    ]
    by (Some next) e is =
        let place = at_place first recs (record_before update) own.0 own.1 in
        sooner next (first + (record_before update - first)) (let low = place.0 in let lt = own.3 in omega arith) (chained.compensation (record_before update - first) next own.0 place.1 e)
      where
        sooner : (next low : ℕ) → low ≤ end → IsNext t first recs next low → IsNext t first recs next end
        sooner next low le (inl begin) = inl begin
        sooner next low le (inr up) = inr (up.0, up.1, up.2, up.3, omega (arith, up.4, le))

-- ---- what is left are updates

-- the update of the transaction with this number stands in the list
abbrev IsUpdateAt : ℕ → ℕ → List LogRecord → ℕ → Type 0
IsUpdateAt t first recs u = (i : ℕ) × (rec : LogRecord) × (u ≡ first + i) × (slice_get recs i ≡ Some rec) × (is_update_of t rec ≡ true)

-- all that is left are updates of the transaction
left_are_updates : (t first : ℕ) (recs : List LogRecord) → All (IsUpdateAt t first recs) (uncompensated t first recs)
left_are_updates t first [] = λ k d lt. absurd (omega arith)
left_are_updates t first (r ∷ rs) =
    All-append (IsUpdateAt t first (r ∷ rs)) (uncompensated t (first + 1) rs) (here (is_update_of t r) (list_any (takes_back t first) rs) first)
    (λ k d lt. (
    let up = left_are_updates t (first + 1) rs k d lt in
    let number = up.2 in
    (suc up.0, up.1, omega arith, up.3, up.4)
    ))
    (own (is_update_of t r) (list_any (takes_back t first) rs) refl)
  where
    own : (b gone : Bool) → is_update_of t r ≡ b → All (IsUpdateAt t first (r ∷ rs)) (here b gone first)
    own true false is zero d lt = (0, r, omega arith, refl, is)
    own true false is (suc k) d lt = absurd (omega arith)
    own true true is k d lt = absurd (omega arith)
    own false gone is k d lt = absurd (omega arith)

-- the newest that is left is an update
newest_is_update : (t first : ℕ) (recs : List LogRecord) (u : ℕ) (rest : List ℕ) → uncompensated t first recs ≡ u ∷ rest → (update : LogRecord) × (record_at first recs u ≡ Some update) × (is_update_of t update ≡ true)
newest_is_update t first recs u rest left =
    let all : All (IsUpdateAt t first recs) (u ∷ rest) = subst (All (IsUpdateAt t first recs)) left (left_are_updates t first recs) in
    let up = all 0 u (omega arith) in
    let number = up.2 in
    let place : u - first ≡ up.0 = omega arith in
    (up.1, of_place first recs u up.1 (omega arith) (ap (slice_get recs) place ∙ up.3), up.4)

-- the same of an open transaction
pub left_is_update : (t : OpenTxn) (first : ℕ) (recs : List LogRecord) (u : ℕ) (rest : List ℕ) → IsOpenIn first recs t → uncompensated t.begin first recs ≡ u ∷ rest → (update : LogRecord) × (record_at first recs u ≡ Some update) × (is_update_of t.begin update ≡ true)
left_is_update t first recs u rest open_in left = newest_is_update t.begin first recs u rest left

-- ---- one more record

-- a transaction whose last record is the newest of the log
ends_here : (t first left : ℕ) (recs : List LogRecord) (x : LogRecord) → IsChained t first (recs ++ x ∷ []) → TellsLeft t first (recs ++ x ∷ []) → IsRecordOf t (first + length recs) x
    → length (uncompensated t first (recs ++ x ∷ [])) ≡ left → IsOpenIn first (recs ++ x ∷ []) (record { begin = t; last = first + length recs; left = left })
ends_here t first left recs x chained tells own count = record {
  chained = chained;
  tells = tells;
  last_record = x;
  last = record_at-last first recs x;
  own = own;
  now = left_at-last t first recs x;
  count = count;
}

-- a record that is none of the transaction leaves it as it was
pub open-other : (t : OpenTxn) (first : ℕ) (recs : List LogRecord) (rec : LogRecord) → is_update_of t.begin rec ≡ false → next_after t.begin rec ≡ None → IsOpenIn first recs t → IsOpenIn first (recs ++ rec ∷ []) t
open-other t first recs rec other none was =
    let left : uncompensated t.begin first (recs ++ rec ∷ []) ≡ uncompensated t.begin first recs = left-other t.begin first recs rec other none in
    record {
      chained = chained-push t.begin first recs rec was.chained (λ is. let never : true ≡ false = sym is ∙ other in cc) (λ next is. let never : None ≡ Some next = sym none ∙ is in cc);
      tells = TellsLeft-other t.begin first recs rec was.tells other none;
      last_record = was.last_record;
      last = record_at-push first recs rec t.last was.last_record was.last;
      own = was.own;
      now = left_at-push t.begin first recs rec t.last (below_end first recs t.last was.last_record was.last) ∙ was.now ∙ sym left;
      count = ap length left ∙ was.count;
    }

-- the record that begins a transaction opens it
pub open-begun : (first : ℕ) (recs : List LogRecord) → NamesEarlier first recs → IsOpenIn first (recs ++ Begin ∷ []) (record { begin = first + length recs; last = first + length recs; left = 0 })
open-begun first recs names = ends_here t first 0 recs Begin chained tells (inl (refl, refl)) (ap length nothing)
  where
    t : ℕ
    t = first + length recs

    -- no record is of it but this one
    alone : (i : ℕ) (rec : LogRecord) → slice_get (recs ++ Begin ∷ []) i ≡ Some rec → (is_update_of t rec ≡ false) × (next_after t rec ≡ None)
    alone i rec at = elim (old_or_new recs Begin rec i at) as (λ _. (is_update_of t rec ≡ false) × (next_after t rec ≡ None)) [
      | inl h ↦ let low = names i rec h.1 in other_txn t rec (λ e. omega (arith, low, e, h.0))
      | inr h ↦ (ap (is_update_of t) (sym h.1), ap (next_after t) (sym h.1))
    ]

    no_update : {X : Type 0} → (i : ℕ) (rec : LogRecord) → slice_get (recs ++ Begin ∷ []) i ≡ Some rec → is_update_of t rec ≡ true → X
    no_update i rec at is = let never : true ≡ false = sym is ∙ (alone i rec at).0 in cc

    no_compensation : {X : Type 0} → (i next : ℕ) (rec : LogRecord) → slice_get (recs ++ Begin ∷ []) i ≡ Some rec → next_after t rec ≡ Some next → X
    no_compensation i next rec at is = let never : Some next ≡ None = sym is ∙ (alone i rec at).1 in cc

    chained : IsChained t first (recs ++ Begin ∷ [])
    chained = record { begun = record_at-last first recs Begin; update = λ i rec at is. no_update i rec at is; compensation = λ i next rec at is. no_compensation i next rec at is }

    tells : TellsLeft t first (recs ++ Begin ∷ [])
    tells = record { update = λ i rec at is. no_update i rec at is; compensation = λ i next rec at is. no_compensation i next rec at is }

    nothing : uncompensated t first (recs ++ Begin ∷ []) ≡ []
    nothing = sym (left_at-last t first recs Begin) ∙ left_at-begin t first (recs ++ Begin ∷ []) (λ i rec at le. (alone i rec at).0)

-- an update that names the last record of its transaction is left too
pub open-updated : (t : OpenTxn) (first : ℕ) (recs : List LogRecord) (rec : LogRecord) → first ≤ t.begin → is_update_of t.begin rec ≡ true → record_before rec ≡ t.last → IsOpenIn first recs t
    → IsOpenIn first (recs ++ rec ∷ []) (record { begin = t.begin; last = first + length recs; left = t.left + 1 })
open-updated t first recs rec low is before was = ends_here t.begin first (t.left + 1) recs rec chained tells own count
  where
    last : record_at first recs (record_before rec) ≡ Some was.last_record
    last = ap (record_at first recs) before ∙ was.last

    chained : IsChained t.begin first (recs ++ rec ∷ [])
    chained =
        chained-push t.begin first recs rec was.chained
        (λ _. (was.last_record, last, subst (λ r. IsRecordOf t.begin r was.last_record) (sym before) was.own, below_end first recs (record_before rec) was.last_record last))
        (λ next is_next. let never : None ≡ Some next = sym (update_not_compensation t.begin rec is) ∙ is_next in cc)

    tells : TellsLeft t.begin first (recs ++ rec ∷ [])
    tells = TellsLeft-update t.begin first recs rec was.tells is (at_place first recs (record_before rec) was.last_record last).0 (below_end first recs (record_before rec) was.last_record last) (ap (left_at t.begin first recs) before ∙ was.now)

    own : IsRecordOf t.begin (first + length recs) rec
    own = inr (below_end first recs t.begin Begin was.chained.begun, inl is)

    count : length (uncompensated t.begin first (recs ++ rec ∷ [])) ≡ t.left + 1
    count = let old = was.count in ap length (left-update t.begin first recs rec is) ∙ omega (arith, old)

-- a compensation of the newest that is left takes that back
pub open-taken_back : (t : OpenTxn) (first : ℕ) (recs : List LogRecord) (u : ℕ) (rest : List ℕ) (update rec : LogRecord) → first ≤ t.begin → uncompensated t.begin first recs ≡ u ∷ rest → record_at first recs u ≡ Some update
    → next_after t.begin rec ≡ Some (next_behind t.begin first recs update) → NamesEarlier first recs → IsOpenIn first recs t → IsOpenIn first (recs ++ rec ∷ []) (record { begin = t.begin; last = first + length recs; left = t.left - 1 })
open-taken_back t first recs u rest update rec low left at is names was = ends_here t.begin first (t.left - 1) recs rec chained tells own count
  where
    is_update : is_update_of t.begin update ≡ true
    is_update =
        let up = newest_is_update t.begin first recs u rest left in
        let same : Some up.0 ≡ Some update = sym up.1 ∙ at in
        let one : up.0 ≡ update = cc in
        ap (is_update_of t.begin) (sym one) ∙ up.2

    -- the record before the update is one of the transaction
    before : IsOwn t.begin first recs (record_before update) (first + length recs)
    before =
        let place = at_place first recs u update at in
        let old = was.chained.update (u - first) update place.1 is_update in
        (old.0, old.1, old.2, below_end first recs (record_before update) old.0 old.1)

    chained : IsChained t.begin first (recs ++ rec ∷ [])
    chained =
        chained-push t.begin first recs rec was.chained
        (λ is_update. let never : true ≡ false = sym is_update ∙ compensation_not_update t.begin (next_behind t.begin first recs update) rec is in cc)
        (λ next is_next.
        let same : Some (next_behind t.begin first recs update) ≡ Some next = sym is ∙ is_next in
        let one : next_behind t.begin first recs update ≡ next = cc in
        subst (λ n. IsNext t.begin first recs n (first + length recs)) one (next_behind_is t.begin first recs update (first + length recs) was.chained before))

    tells : TellsLeft t.begin first (recs ++ rec ∷ [])
    tells = TellsLeft-taken_back t.begin first recs u rest update rec was.tells left at is

    own : IsRecordOf t.begin (first + length recs) rec
    own = inr (below_end first recs t.begin Begin was.chained.begun, inr (λ none. let never : None ≡ Some (next_behind t.begin first recs update) = sym none ∙ is in cc))

    count : length (uncompensated t.begin first (recs ++ rec ∷ [])) ≡ t.left - 1
    count =
        let old : length (u ∷ rest) ≡ t.left = ap length (sym left) ∙ was.count in
        ap length (left-taken_back t.begin first recs u rest update rec was.tells left at is) ∙ omega (arith, old)

-- ---- what is next

-- what was left at an update begins with it
found_at : (t first : ℕ) (recs : List LogRecord) (r : ℕ) (rec : LogRecord) → TellsLeft t first recs → record_at first recs r ≡ Some rec → is_update_of t rec ≡ true → newest (left_at t first recs r) ≡ Some r
found_at t first recs r rec tells at is =
    let place = at_place first recs r rec at in
    let number : first + (r - first) ≡ r = (let le = place.0 in omega arith) in
    ap (λ n. newest (left_at t first recs n)) (sym number) ∙ ap newest (found-update t first recs (r - first) rec tells place.1 is) ∙ ap Some number

-- at a compensation the same was left as at what it says is next
found_next : (t first : ℕ) (recs : List LogRecord) (r next : ℕ) (rec : LogRecord) → TellsLeft t first recs → record_at first recs r ≡ Some rec → next_after t rec ≡ Some next → left_at t first recs r ≡ left_at t first recs next
found_next t first recs r next rec tells at is =
    let place = at_place first recs r rec at in
    let number : first + (r - first) ≡ r = (let le = place.0 in omega arith) in
    ap (left_at t first recs) (sym number) ∙ found-compensation t first recs (r - first) next rec tells place.1 is

-- what a record of the transaction says is next is the newest that was left at it
abbrev IsToldNext : ℕ → Option ℕ → Option ℕ → Type 0
IsToldNext t next new = ((next ≡ None) × (new ≡ None)) ⊎ ((next ≡ Some t) × (new ≡ None)) ⊎ ((n : ℕ) × (next ≡ Some n) × (n ≢ t) × (new ≡ Some n))

-- each kind of record of the transaction tells it
told_next : (t first : ℕ) (recs : List LogRecord) (r : ℕ) (rec : LogRecord) → NamesEarlier first recs → IsChained t first recs → TellsLeft t first recs → record_at first recs r ≡ Some rec → IsRecordOf t r rec
    → IsToldNext t (next_to_undo rec r) (newest (left_at t first recs r))
told_next t first recs r rec names chained tells at (inl begin) = inl (ap (λ rec. next_to_undo rec r) begin.1, ap (λ n. newest (left_at t first recs n)) begin.0 ∙ ap newest (nothing_at_begin t first recs names chained.begun))
told_next t first recs r rec names chained tells at (inr later) = elim later.1 as (λ _. IsToldNext t (next_to_undo rec r) (newest (left_at t first recs r))) [
  | inl up ↦ inr (inr (r, next_of_update t r rec up, (λ e. (let lt = later.0 in omega (arith, e))), found_at t first recs r rec tells at up))
  | inr comp ↦ by (next_after t rec) refl comp
]
  where
    from : (next : ℕ) → next_after t rec ≡ Some next → IsNext t first recs next (first + (r - first)) → IsToldNext t (next_to_undo rec r) (newest (left_at t first recs r))
    from next e (inl begin) = inr (inl (
      next_of_compensation t r next rec e ∙ ap Some begin,
      ap newest (found_next t first recs r next rec tells at e ∙ ap (left_at t first recs) begin ∙ nothing_at_begin t first recs names chained.begun),
    ))
    from next e (inr up) = inr (inr (
      next,
      next_of_compensation t r next rec e,
      (λ same. (let lt = up.3 in omega (arith, same))),
      ap newest (found_next t first recs r next rec tells at e) ∙ found_at t first recs next up.0 tells up.1 up.2,
    ))

    by : (o : Option ℕ) → next_after t rec ≡ o → next_after t rec ≢ None → IsToldNext t (next_to_undo rec r) (newest (left_at t first recs r))
    by None e some = absurd (some e)
    by (Some next) e some = from next e (chained.compensation (r - first) next rec (at_place first recs r rec at).1 e)

-- so does the last record of an open transaction, of all that is left
last_tells : (t : OpenTxn) (first : ℕ) (recs : List LogRecord) (rec : LogRecord) → NamesEarlier first recs → IsOpenIn first recs t → record_at first recs t.last ≡ Some rec
    → IsToldNext t.begin (next_to_undo rec t.last) (newest (uncompensated t.begin first recs))
last_tells t first recs rec names was at =
    let same : Some was.last_record ≡ Some rec = sym was.last ∙ at in
    let one : was.last_record ≡ rec = cc in
    subst (λ us. IsToldNext t.begin (next_to_undo rec t.last) (newest us)) was.now (told_next t.begin first recs t.last rec names was.chained was.tells at (subst (IsRecordOf t.begin t.last) one was.own))

-- a next record that isn't the one that began the transaction is the newest that is left
pub next_is_update : (t : OpenTxn) (first : ℕ) (recs : List LogRecord) (rec : LogRecord) (n : ℕ) → NamesEarlier first recs → IsOpenIn first recs t → record_at first recs t.last ≡ Some rec → next_to_undo rec t.last ≡ Some n → n ≢ t.begin
    → newest (uncompensated t.begin first recs) ≡ Some n
next_is_update t first recs rec n names was at is other = by (last_tells t first recs rec names was at)
  where
    by : IsToldNext t.begin (next_to_undo rec t.last) (newest (uncompensated t.begin first recs)) → newest (uncompensated t.begin first recs) ≡ Some n
    by (inl none) = let never : None ≡ Some n = sym none.0 ∙ is in cc
    by (inr (inl begin)) = let same : Some t.begin ≡ Some n = sym begin.0 ∙ is in let one : n ≡ t.begin = cc in absurd (other one)
    by (inr (inr up)) = up.3 ∙ sym up.1 ∙ is

-- where the next record is the one that began it, nothing is left
pub next_is_begin : (t : OpenTxn) (first : ℕ) (recs : List LogRecord) (rec : LogRecord) → NamesEarlier first recs → IsOpenIn first recs t → record_at first recs t.last ≡ Some rec → next_to_undo rec t.last ≡ Some t.begin
    → newest (uncompensated t.begin first recs) ≡ None
next_is_begin t first recs rec names was at is = by (last_tells t first recs rec names was at)
  where
    by : IsToldNext t.begin (next_to_undo rec t.last) (newest (uncompensated t.begin first recs)) → newest (uncompensated t.begin first recs) ≡ None
    by (inl none) = none.1
    by (inr (inl begin)) = begin.1
    by (inr (inr up)) = let same : Some up.0 ≡ Some t.begin = sym up.1 ∙ is in let one : up.0 ≡ t.begin = cc in absurd (up.2 one)

-- where there is no next record, nothing is left
pub next_is_none : (t : OpenTxn) (first : ℕ) (recs : List LogRecord) (rec : LogRecord) → NamesEarlier first recs → IsOpenIn first recs t → record_at first recs t.last ≡ Some rec → next_to_undo rec t.last ≡ None
    → newest (uncompensated t.begin first recs) ≡ None
next_is_none t first recs rec names was at is = by (last_tells t first recs rec names was at)
  where
    by : IsToldNext t.begin (next_to_undo rec t.last) (newest (uncompensated t.begin first recs)) → newest (uncompensated t.begin first recs) ≡ None
    by (inl none) = none.1
    by (inr (inl begin)) = begin.1
    by (inr (inr up)) = let never : None ≡ Some up.0 = sym is ∙ up.1 in cc

-- behind an update that is left there comes the newest that is left before it, or where none is, the record that began the
-- transaction
pub next_before_is : (t : OpenTxn) (first : ℕ) (recs : List LogRecord) (newer : List ℕ) (u : ℕ) (before : List ℕ) (rec : LogRecord) → NamesEarlier first recs → IsOpenIn first recs t → uncompensated t.begin first recs ≡ newer ++ u ∷ before → record_at first recs u ≡ Some rec
    → ((next_behind t.begin first recs rec ≡ t.begin) × (newest before ≡ None))
    ⊎ ((update : LogRecord) × (record_at first recs (next_behind t.begin first recs rec) ≡ Some update) × (is_update_of t.begin update ≡ true) × (t.begin < next_behind t.begin first recs rec) × (next_behind t.begin first recs rec < u) × (newest before ≡ Some (next_behind t.begin first recs rec)))
next_before_is t first recs newer u before rec names was left at = by (next_behind_is t.begin first recs rec u was.chained own)
  where
    next : ℕ
    next = next_behind t.begin first recs rec

    own : IsOwn t.begin first recs (record_before rec) u
    own =
        let place = at_place first recs u rec at in
        let old = was.chained.update (u - first) rec place.1 (update_left t.begin first recs newer u before rec left at) in
        let sooner = old.3 in
        (old.0, old.1, old.2, omega (arith, sooner, place.0))

    kept : left_at t.begin first recs next ≡ before
    kept = left_behind t.begin first recs newer u before rec was.tells left at

    by : IsNext t.begin first recs next u
        → ((next ≡ t.begin) × (newest before ≡ None)) ⊎ ((update : LogRecord) × (record_at first recs next ≡ Some update) × (is_update_of t.begin update ≡ true) × (t.begin < next) × (next < u) × (newest before ≡ Some next))
    by (inl begin) = inl (begin, ap newest (sym kept ∙ ap (left_at t.begin first recs) begin ∙ nothing_at_begin t.begin first recs names was.chained.begun))
    by (inr up) = inr (up.0, up.1, up.2, up.3, up.4, ap newest (sym kept) ∙ found_at t.begin first recs next up.0 was.tells up.1 up.2)
