-- Bytes put over, within, behind and beside other bytes.
use Rattle.std.proofs.Common.{◌≡◌, ◌≤◌, ◌+◌, ℕ, List, ◌++◌, length, take, drop, ◌∙◌, ap, sym, refl, arith, rules}
use Rattle.std.proofs.lemmas.List.{same_lists, places, append_assoc, drop-drop, drop_at, take-append-drop}
use Rattle.sd_base.specs.Text.{put}

-- bytes put over as many others leave nothing of those
pub put-put : (at : ℕ) (xs ys text : List ℕ) → length xs ≡ length ys → at + length xs ≤ length text → put at ys (put at xs text) ≡ put at ys text
unfolding put
put-put at xs ys text same le = same_lists _ _ (search (rules, places)) (λ k d h. grind (arith, places))

-- bytes put within others
pub put-within : (at i : ℕ) (ys xs text : List ℕ) → i + length ys ≤ length xs → at + length xs ≤ length text → put (at + i) ys (put at xs text) ≡ put at (put i ys xs) text
unfolding put
put-within at i ys xs text le le' = same_lists _ _ (search (rules, places)) (λ k d h. grind (arith, places))

-- bytes put at two places that are apart
pub put_comm : (i j : ℕ) (xs ys text : List ℕ) → i + length xs ≤ j → j + length ys ≤ length text → put j ys (put i xs text) ≡ put i xs (put j ys text)
unfolding put
put_comm i j xs ys text le le' = same_lists _ _ (search (rules, places)) (λ k d h. grind (arith, places))

-- bytes put behind others
pub put-behind : (at : ℕ) (xs ys text : List ℕ) → at + length xs + length ys ≤ length text → put (at + length xs) ys (put at xs text) ≡ put at (xs ++ ys) text
unfolding put
put-behind at xs ys text le = same_lists _ _ (search (rules, places)) (λ k d h. grind (arith, places))

-- bytes put where they stand already
pub put_same : (at : ℕ) (bytes rest text : List ℕ) → drop at text ≡ bytes ++ rest → put at bytes text ≡ text
unfolding put
put_same at bytes rest text e =
    let behind : drop (at + length bytes) text ≡ rest = sym (drop-drop (length bytes) at text) ∙ ap (drop (length bytes)) e ∙ drop_at bytes rest (length bytes) refl in
    ap (λ tail. take at text ++ bytes ++ tail) behind
    ∙ append_assoc (take at text) bytes rest
    ∙ ap (λ tail. take at text ++ tail) (sym e)
    ∙ take-append-drop at text

-- bytes put into the second of two texts
pub put-append_right : (at n : ℕ) (ys xs text : List ℕ) → n ≡ length xs + at → at + length ys ≤ length text → put n ys (xs ++ text) ≡ xs ++ put at ys text
unfolding put
put-append_right at n ys xs text e le = same_lists _ _ (search (rules, places)) (λ k d h. grind (arith, places))

-- a text from the place on at which bytes were put
pub drop-put : (at : ℕ) (bytes text : List ℕ) → at + length bytes ≤ length text → drop at (put at bytes text) ≡ bytes ++ drop (at + length bytes) text
unfolding put
drop-put at bytes text le = same_lists _ _ (search (rules, places)) (λ k d h. grind (arith, places))

-- a text from a place on that is behind the bytes that were put
pub drop-put_before : (at n : ℕ) (bytes text : List ℕ) → at + length bytes ≤ n → at + length bytes ≤ length text → drop n (put at bytes text) ≡ drop n text
unfolding put
drop-put_before at n bytes text le le' = same_lists _ _ (search (rules, places)) (λ k d h. grind (arith, places))
