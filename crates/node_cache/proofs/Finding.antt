-- What is found in a list, and where.
use Rattle.std.specs.Prelude.{◌≡◌, ◌<◌, ℕ, zero, suc, Bool, true, false, List, [], ◌∷◌, Option, Some, None, is_some, length, slice_index_or, All, refl}
use Rattle.std.specs.List.{slice_get, find, position}
use Rattle.std.proofs.Common.{arith, ap, sym, subst, ◌∙◌}
use Rattle.sd_base.proofs.Positions.{placed, not_placed}

-- what has a place is there
there : {X : Type 0} (xs : List X) (i : ℕ) → i < length xs → is_some (slice_get xs i) ≡ true
there [] i lt = absurd (omega (arith, lt))
there (x ∷ xs) zero lt = refl
there (x ∷ xs) (suc i) lt = there xs i (omega (arith, lt))

pub is_placed : {X : Type 0} (test : X → Bool) (xs : List X) (o : Option ℕ) → o ≡ position test xs → is_some o ≡ is_some (find test xs)
is_placed test xs None e = ap is_some (sym (not_placed test xs (sym e)))
is_placed test xs (Some i) e = let at = placed test xs i (sym e) in sym (ap is_some at.1 ∙ there xs i at.0)

-- what stands at a place is one of the list
pub got : {X : Type 0} (xs : List X) (i : ℕ) (x : X) → slice_get xs i ≡ Some x → (i < length xs) × (slice_index_or xs i x ≡ x)
got [] i x e = cc
got (y ∷ ys) zero x e = let same : y ≡ x = cc in (omega arith, same)
got (y ∷ ys) (suc i) x e = let rest = got ys i x e in (omega (arith, rest.0), rest.1)

pub all_at : {X : Type 0} (P : X → Type 0) (xs : List X) (i : ℕ) (x : X) → All P xs → slice_get xs i ≡ Some x → P x
all_at P xs i x all e = let at = got xs i x e in subst P at.1 (all i x at.0)

-- where an element passes, one is found
pub some_found : {X : Type 0} (test : X → Bool) (xs : List X) (i : ℕ) (d : X) → i < length xs → test (slice_index_or xs i d) ≡ true → is_some (find test xs) ≡ true
some_found test [] i d h t = absurd (omega (arith, h))
some_found test (x ∷ xs) zero d h t = rw t refl
some_found test (x ∷ xs) (suc i) d h t = by (test x) refl (some_found test xs i d (omega (arith, h)) t)
  where
    by : (b : Bool) → test x ≡ b → is_some (find test xs) ≡ true → is_some (find test (x ∷ xs)) ≡ true
    by true e rest = rw e refl
    by false e rest = rw e rest
