-- Places of a list that are made empty, one after another.
use Rattle.std.proofs.Common.{◌≡◌, ◌≢◌, ◌<◌, ◌+◌, ℕ, zero, suc, true, cond, List, [], ◌∷◌, All, AllPairs, Option, Some, None, IsSome, is_some, is_none, fold, count_by, length, set, get_or, refl, sym, ◌∙◌, ap, arith}
use Rattle.std.proofs.lemmas.List.{get_or-set_other, length-set, set_comm}
use Rattle.std.proofs.lemmas.List.Elements.{All-head, All-tail}
use Rattle.std.proofs.lemmas.List.Sums.{sum_by-set}

module _ {X : Type 0} where
  -- the places of these numbers are empty
  abbrev pub blanked : List (Option X) → List ℕ → List (Option X)
  blanked xs ns = fold (λ ys n. set ys n None) xs ns

  pub length-blanked : (xs : List (Option X)) (ns : List ℕ) → length (blanked xs ns) ≡ length xs
  length-blanked xs [] = refl
  length-blanked xs (n ∷ ns) = length-blanked (set xs n None) ns ∙ length-set xs n None

  -- the other places stay
  pub get_or-blanked_other : (xs : List (Option X)) (ns : List ℕ) (k : ℕ) (d : Option X) → All (λ n. k ≢ n) ns → get_or (blanked xs ns) k d ≡ get_or xs k d
  get_or-blanked_other xs [] k d apart = refl
  get_or-blanked_other xs (n ∷ ns) k d apart =
      get_or-blanked_other (set xs n None) ns k d (All-tail (λ m. k ≢ m) n ns apart)
      ∙ get_or-set_other xs n k None d (All-head (λ m. k ≢ m) n ns apart)

  set_none : (xs : List (Option X)) (n k : ℕ) → get_or xs k None ≡ None → get_or (set xs n None) k None ≡ None
  set_none [] n k none = refl
  set_none (x ∷ xs) zero zero none = refl
  set_none (x ∷ xs) zero (suc k) none = none
  set_none (x ∷ xs) (suc n) zero none = none
  set_none (x ∷ xs) (suc n) (suc k) none = set_none xs n k none

  pub set_here : (xs : List (Option X)) (n : ℕ) → get_or (set xs n None) n None ≡ None
  set_here [] n = refl
  set_here (x ∷ xs) zero = refl
  set_here (x ∷ xs) (suc n) = set_here xs n

  abbrev one_if_none : Option X → ℕ
  one_if_none o = cond (is_none o) 1 0

  is_not_none : (o : Option X) → IsSome o → one_if_none o ≡ 0
  is_not_none None some = let no : IsSome {T = X} None = some in cc
  is_not_none (Some x) some = refl

  -- an empty place stays empty
  blanked-none : (xs : List (Option X)) (ns : List ℕ) (k : ℕ) → get_or xs k None ≡ None → get_or (blanked xs ns) k None ≡ None
  blanked-none xs [] k none = none
  blanked-none xs (n ∷ ns) k none = blanked-none (set xs n None) ns k (set_none xs n k none)

  -- a place of one of these numbers is empty
  pub get_or-blanked : (xs : List (Option X)) (ns : List ℕ) (i : ℕ) (d : ℕ) → i < length ns → get_or (blanked xs ns) (get_or ns i d) None ≡ None
  get_or-blanked xs [] i d lt = absurd (omega arith)
  get_or-blanked xs (n ∷ ns) zero d lt = blanked-none (set xs n None) ns n (set_here xs n)
  get_or-blanked xs (n ∷ ns) (suc i) d lt = get_or-blanked (set xs n None) ns i d (omega arith)

  -- a place that holds something has none of these numbers
  pub apart-from_IsSome : (xs : List (Option X)) (ns : List ℕ) (k : ℕ) → IsSome (get_or (blanked xs ns) k None) → All (λ n. k ≢ n) ns
  apart-from_IsSome xs ns k some = λ i d lt same.
      let none : get_or (blanked xs ns) k None ≡ None = ap (λ n. get_or (blanked xs ns) n None) same ∙ get_or-blanked xs ns i d lt in
      let no : is_some {T = X} None ≡ true = sym (ap is_some none) ∙ some in
      cc

  -- a place that held something becomes empty
  pub count_by-set_none : (xs : List (Option X)) (n : ℕ) → n < length xs → IsSome (get_or xs n None) → count_by is_none (set xs n None) ≡ count_by is_none xs + 1
  count_by-set_none xs n lt some =
      let here : one_if_none (get_or xs n None) ≡ 0 = is_not_none (get_or xs n None) some in
      omega (arith, sum_by-set one_if_none xs n None None lt, here)

  -- each number makes one more place empty
  pub count_by-blanked : (xs : List (Option X)) (ns : List ℕ) → All (λ n. n < length xs) ns → All (λ n. IsSome (get_or xs n None)) ns → AllPairs (λ n m. n ≢ m) ns → count_by is_none (blanked xs ns) ≡ count_by is_none xs + length ns
  count_by-blanked xs [] within held apart = omega arith
  count_by-blanked xs (n ∷ ns) within held apart =
      let lt : n < length xs = All-head (λ m. m < length xs) n ns within in
      let one : count_by is_none (set xs n None) ≡ count_by is_none xs + 1 = count_by-set_none xs n lt (All-head (λ m. IsSome (get_or xs m None)) n ns held) in
      let others : All (λ m. m < length (set xs n None)) ns = λ i d at. omega (arith, length-set xs n None, All-tail (λ m. m < length xs) n ns within i d at) in
      let still : All (λ m. IsSome (get_or (set xs n None) m None)) ns = λ i d at.
      ap is_some (get_or-set_other xs n (get_or ns i d) None None (λ same. apart 0 (suc i) d (omega arith) (omega arith) (sym same)))
      ∙ All-tail (λ m. IsSome (get_or xs m None)) n ns held i d at in
      let rest : count_by is_none (blanked (set xs n None) ns) ≡ count_by is_none (set xs n None) + length ns =
      count_by-blanked (set xs n None) ns others still (λ i j d before at. apart (suc i) (suc j) d (omega arith) (omega arith)) in
      omega (arith, rest, one)

  -- an element put at another place
  pub set-blanked : (xs : List (Option X)) (ns : List ℕ) (k : ℕ) (y : Option X) → All (λ n. k ≢ n) ns → blanked (set xs k y) ns ≡ set (blanked xs ns) k y
  set-blanked xs [] k y apart = refl
  set-blanked xs (n ∷ ns) k y apart =
      ap (λ ys. blanked ys ns) (set_comm xs k n y None (All-head (λ m. k ≢ m) n ns apart))
      ∙ set-blanked (set xs n None) ns k y (All-tail (λ m. k ≢ m) n ns apart)
