-- Words with one space between.
use Rattle.std.proofs.Common.{◌≡◌, ◌+◌, ◌<◌, ◌∙◌, ℕ, List, [], ◌∷◌, ◌++◌, length, get_or, take, map, decimal, sym, ap, refl, append_assoc}
use Rattle.std.proofs.lemmas.List.{take_more, map-append}
use Rattle.script_text.specs.Words.{spaced}

-- one more word
pub spaced-push : (w : List ℕ) (ws : List (List ℕ)) (x : List ℕ) → spaced (w ∷ ws ++ x ∷ []) ≡ spaced (w ∷ ws) ++ 32 ∷ x
spaced-push w [] x = refl
spaced-push w (v ∷ ws) x = ap (λ xs. w ++ 32 ∷ xs) (spaced-push v ws x) ∙ sym (append_assoc w (32 ∷ spaced (v ∷ ws)) (32 ∷ x))

-- one more number
pub spaced-number : (w : List ℕ) (numbers : List ℕ) (i : ℕ) → i < length numbers → spaced (w ∷ map decimal (take (i + 1) numbers)) ≡ (spaced (w ∷ map decimal (take i numbers)) ++ 32 ∷ []) ++ decimal (get_or numbers i 0)
spaced-number w numbers i lt =
    ap (λ ns. spaced (w ∷ map decimal ns)) (take_more numbers i 0 lt)
    ∙ ap (λ ws. spaced (w ∷ ws)) (map-append decimal (take i numbers) (get_or numbers i 0 ∷ []))
    ∙ spaced-push w (map decimal (take i numbers)) (decimal (get_or numbers i 0))
    ∙ sym (append_assoc (spaced (w ∷ map decimal (take i numbers))) (32 ∷ []) (decimal (get_or numbers i 0)))
