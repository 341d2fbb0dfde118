-- What all seats come to: the sum of what they owe, and the least number that they begin with.
use Rattle.std.specs.Prelude.{◌≡◌, ◌*◌, ◌^◌, ◌≤◌, ◌<◌, ◌⊎◌, ℕ, suc, List, [], ◌∷◌, Option, Some, None, IfSome, IfNone, All, Any, min, fold, filter_map, option_map, map, length, refl}
use Rattle.std.specs.List.{reduce, sum_by}
use Rattle.std.proofs.Common.{arith, ap, sym, inl, inr, ◌∙◌}
use Rattle.std.proofs.lemmas.Bool.{cases_lt}
use Rattle.std.proofs.lemmas.List.Elements.{All-cons}
use Rattle.std.proofs.lemmas.List.Sums.{sum_by-le}
use Rattle.txn_core.specs.declared.seats.Open.{Open}
use Rattle.txn_core.specs.Seats.{IsFirstOpen, OpenTxn, SeatsState, owed_in}
use Rattle.txn_core.specs.Shown.{shown}

-- what eight seats owe fits in 64 bits
pub owed_fits : (seats : List (Option Open)) → length seats ≡ 8 → All (λ o. owed_in (option_map shown o) ≤ 6 * 2 ^ 56) seats → sum_by (λ o. owed_in (option_map shown o)) seats < 18446744073709551616
owed_fits seats eight most = omega (arith, eight, times, sum)
  where
    sum : sum_by (λ o. owed_in (option_map shown o)) seats ≤ length seats * (6 * 2 ^ 56)
    sum = sum_by-le (λ o. owed_in (option_map shown o)) (6 * 2 ^ 56) seats most

    times : length seats * (6 * 2 ^ 56) ≡ 8 * (6 * 2 ^ 56)
    times = ap (λ n. n * (6 * 2 ^ 56)) eight

-- an element of which P holds, alone or among the others
any_here : {X : Type 0} (P : X → Type 0) (x : X) (xs : List X) → P x → Any P (x ∷ xs)
any_here P x xs here = (0, x, omega arith, refl, here)

any_there : {X : Type 0} (P : X → Type 0) (x : X) (xs : List X) → Any P xs → Any P (x ∷ xs)
any_there P x xs (i, y, below, is, there) = (suc i, y, omega (arith, below), is, there)

-- the number that a seat begins with
abbrev pub begin_of : Option OpenTxn → Option ℕ
begin_of o = option_map (λ t. t.begin) o

-- the least of a number and of those that these seats begin with
record IsLeastFrom (start : ℕ) (seats : List (Option OpenTxn)) (least : ℕ) : Type 0 where
  below : least ≤ start
  all : All (λ o. IfSome o (λ t. least ≤ t.begin)) seats
  there : (least ≡ start) ⊎ Any (λ o. begin_of o ≡ Some least) seats

least_from : (seats : List (Option OpenTxn)) (start : ℕ) → IsLeastFrom start seats (fold min start (filter_map begin_of seats))
least_from [] start = record { below = omega arith; all = λ i d h. absurd (omega (arith, h)); there = inl refl }
least_from (None ∷ seats) start =
    let from = least_from seats start in
    let least = fold min start (filter_map begin_of seats) in
    record {
      below = from.below;
      all = All-cons (λ o. IfSome o (λ t. least ≤ t.begin)) None seats tt from.all;
      there = elim from.there [ inl same ↦ inl same | inr there ↦ inr (any_there (λ o. begin_of o ≡ Some least) None seats there) ];
    }
least_from (Some t ∷ seats) start =
    let from = least_from seats (min start t.begin) in
    let least = fold min (min start t.begin) (filter_map begin_of seats) in
    record {
      below = omega (arith, from.below);
      all = All-cons (λ o. IfSome o (λ u. least ≤ u.begin)) (Some t) seats (omega (arith, from.below)) from.all;
      there = elim from.there [
        | inl same ↦ elim (cases_lt start t.begin) [ inl less ↦ inl (omega (arith, same, less)) | inr more ↦ inr (any_here (λ o. begin_of o ≡ Some least) (Some t) seats (ap Some (omega (arith, same, more)))) ]
        | inr there ↦ inr (any_there (λ o. begin_of o ≡ Some least) (Some t) seats there)
      ];
    }

-- the least number that seats begin with: a transaction has it, and no other has a lesser one
pub record IsLeastBegin (seats : List (Option OpenTxn)) (least : ℕ) : Type 0 where
  pub there : Any (λ o. begin_of o ≡ Some least) seats
  pub all : All (λ o. IfSome o (λ t. least ≤ t.begin)) seats

-- the least of all numbers, and where there is none
least_is : (seats : List (Option OpenTxn)) (result : Option ℕ) → result ≡ reduce min (filter_map begin_of seats)
    → IfSome result (IsLeastBegin seats) × IfNone result (All (λ o. o ≡ None) seats)
least_is [] result e = rw e (tt, λ i d h. absurd (omega (arith, h)))
least_is (None ∷ seats) result e = more result (least_is seats result e)
  where
    more : (r : Option ℕ) → IfSome r (IsLeastBegin seats) × IfNone r (All (λ o. o ≡ None) seats) → IfSome r (IsLeastBegin (None ∷ seats)) × IfNone r (All (λ o. o ≡ None) (None ∷ seats))
    more None rest = (tt, All-cons (λ o. o ≡ None) None seats refl rest.1)
    more (Some least) rest = (
      record {
        there = any_there (λ o. begin_of o ≡ Some least) None seats rest.0.there;
        all = All-cons (λ o. IfSome o (λ t. least ≤ t.begin)) None seats tt rest.0.all;
      },
      tt,
    )
least_is (Some t ∷ seats) result e =
    let from = least_from seats t.begin in
    let least = fold min t.begin (filter_map begin_of seats) in
    rw e (
      record {
        there = elim from.there [ inl same ↦ any_here (λ o. begin_of o ≡ Some least) (Some t) seats (ap Some (sym same)) | inr there ↦ any_there (λ o. begin_of o ≡ Some least) (Some t) seats there ];
        all = All-cons (λ o. IfSome o (λ u. least ≤ u.begin)) (Some t) seats from.below from.all;
      },
      tt,
    )

-- the numbers that the seats begin with are those of their model
begins_shown : (seats : List (Option Open)) → filter_map (option_map (λ o. o.begin)) seats ≡ filter_map begin_of (map (option_map shown) seats)
begins_shown [] = refl
begins_shown (None ∷ seats) = begins_shown seats
begins_shown (Some o ∷ seats) = ap (λ ns. o.begin ∷ ns) (begins_shown seats)

-- the least number that an open transaction begins with, and where none is open
pub first_is : (s : SeatsState) (seats : List (Option Open)) (result : Option ℕ) → s.seats ≡ map (option_map shown) seats → result ≡ reduce min (filter_map (option_map (λ o. o.begin)) seats)
    → IfSome result (IsFirstOpen s) × IfNone result (All (λ o. o ≡ None) s.seats)
first_is s seats result same e = by result (least_is s.seats result (e ∙ ap (reduce min) (begins_shown seats ∙ ap (filter_map begin_of) (sym same))))
  where
    by : (r : Option ℕ) → IfSome r (IsLeastBegin s.seats) × IfNone r (All (λ o. o ≡ None) s.seats) → IfSome r (IsFirstOpen s) × IfNone r (All (λ o. o ≡ None) s.seats)
    by None is = is
    by (Some n) is = (record { some = is.0.there; least = is.0.all }, tt)
