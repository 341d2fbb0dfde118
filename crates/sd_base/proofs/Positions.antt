-- Where the first element stands that passes a test.
use Rattle.std.specs.Prelude.{◌≡◌, ◌<◌, ◌≤◌, ℕ, suc, Bool, true, false, List, [], ◌∷◌, Some, None, All, length, refl}
use Rattle.std.specs.List.{slice_get, find, position, position_or_len}
use Rattle.std.proofs.Common.{arith, nat_lt, cond, ap, subst, ◌∙◌}
use Rattle.std.proofs.lemmas.Bool.Decides.{nat_tests}
use Rattle.std.proofs.lemmas.List.Folds.{find_at}
use Rattle.std.proofs.lemmas.Option.{slice_get_past}

-- where there is a place, it is below the end, and what is found stands there
pub placed : {X : Type 0} (test : X → Bool) (xs : List X) (i : ℕ) → position test xs ≡ Some i → (i < length xs) × (find test xs ≡ slice_get xs i)
placed test xs i e = by (nat_lt (position_or_len test xs) (length xs)) refl e
  where
    by : (b : Bool) → nat_lt (position_or_len test xs) (length xs) ≡ b → cond b (Some (position_or_len test xs)) None ≡ Some i → (i < length xs) × (find test xs ≡ slice_get xs i)
    by true lt e =
        let is : position_or_len test xs ≡ i = cc in
        let below : position_or_len test xs < length xs = grind (arith, nat_tests) in
        (subst (λ n. n < length xs) is below, find_at test xs ∙ ap (slice_get xs) is)
    by false lt e = cc

-- where there is none, none is found
pub not_placed : {X : Type 0} (test : X → Bool) (xs : List X) → position test xs ≡ None → find test xs ≡ None
not_placed test xs none = find_at test xs ∙ slice_get_past xs (position_or_len test xs) (by (nat_lt (position_or_len test xs) (length xs)) refl none)
  where
    by : (b : Bool) → nat_lt (position_or_len test xs) (length xs) ≡ b → cond b (Some (position_or_len test xs)) None ≡ None → length xs ≤ position_or_len test xs
    by true e never = cc
    by false e none = grind (arith, nat_tests)

-- what holds of all holds of the one that is found
pub find_all : {X : Type 0} (P : X → Type 0) (test : X → Bool) (xs : List X) (x : X) → find test xs ≡ Some x → All P xs → P x
find_all P test [] x is all = absurd (let never : None ≡ Some x = is in cc)
find_all P test (y ∷ ys) x is all = by (test y) refl is (λ on. find_all P test ys x on (λ k d below. all (suc k) d (omega (arith, below))))
  where
    by : (b : Bool) → test y ≡ b → find test (y ∷ ys) ≡ Some x → (find test ys ≡ Some x → P x) → P x
    by true is_it this later = let same : y ≡ x = cc in subst P same (all 0 y (omega arith))
    by false other rest later = later (let on : find test ys ≡ Some x = cc in on)
