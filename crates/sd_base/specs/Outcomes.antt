-- Whether a stop may leave something in a block, as a test that computes.
use Rattle.std.specs.Prelude.{◌≡◌, ◌⊎◌, ◌||◌, ℕ, Bool, true, false, List, [], ◌∷◌, Option, Some, None, refl}
use Rattle.std.specs.Str.{bytes_eq}
use Rattle.std.proofs.Common.{inl, inr, ap, sym, ◌∙◌}
use Rattle.std.proofs.lemmas.Slice.Eq.{bytes_eq-Decides}

-- both are lost, or both have this content
abbrev pub same : Option (List ℕ) → Option (List ℕ) → Bool
same None None = true
same (Some x) (Some y) = bytes_eq x y
same None (Some y) = false
same (Some x) None = false

-- o is one of these
unfoldable pub among : List (Option (List ℕ)) → Option (List ℕ) → Bool
among [] o = false
among (x ∷ xs) o = same x o || among xs o

pub same-true : (x o : Option (List ℕ)) → same x o ≡ true → o ≡ x
same-true None None h = refl
same-true (Some x) (Some y) h = ap Some (sym ((bytes_eq-Decides x y).0 h))
same-true None (Some y) h = cc
same-true (Some x) None h = cc

pub same-refl : (x : Option (List ℕ)) → same x x ≡ true
same-refl None = refl
same-refl (Some x) = (bytes_eq-Decides x x).1 refl

-- the one of one is that
pub among-one : (x o : Option (List ℕ)) → among (x ∷ []) o ≡ true → o ≡ x
unfolding among
among-one x o h = same-true x o (or_left (same x o) h)
  where
    or_left : (b : Bool) → (b || false) ≡ true → b ≡ true
    or_left true e = refl
    or_left false e = e

-- one of more is the first or one of the rest
pub among-more : (x : Option (List ℕ)) (xs : List (Option (List ℕ))) (o : Option (List ℕ)) → among (x ∷ xs) o ≡ true → (o ≡ x) ⊎ (among xs o ≡ true)
unfolding among
among-more x xs o h = either (same x o) refl h
  where
    either : (b : Bool) → same x o ≡ b → (b || among xs o) ≡ true → (o ≡ x) ⊎ (among xs o ≡ true)
    either true e _ = inl (same-true x o e)
    either false e rest = inr rest

pub among-first : (x : Option (List ℕ)) (xs : List (Option (List ℕ))) → among (x ∷ xs) x ≡ true
unfolding among
among-first x xs = ap (λ b. b || among xs x) (same-refl x)

pub among-here : (x : Option (List ℕ)) (xs : List (Option (List ℕ))) (o : Option (List ℕ)) → o ≡ x → among (x ∷ xs) o ≡ true
among-here x xs o e = ap (among (x ∷ xs)) e ∙ among-first x xs

pub among-there : (x : Option (List ℕ)) (xs : List (Option (List ℕ))) (o : Option (List ℕ)) → among xs o ≡ true → among (x ∷ xs) o ≡ true
unfolding among
among-there x xs o h = either (same x o)
  where
    either : (b : Bool) → (b || among xs o) ≡ true
    either true = refl
    either false = h
