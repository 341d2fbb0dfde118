-- The records of the blocks of a log, six to a block.
use Rattle.std.proofs.Common.{◌≡◌, ◌≤◌, ◌<◌, ◌+◌, ◌-◌, ◌*◌, ◌/◌, ◌%◌, ℕ, List, [], ◌∷◌, ◌++◌, length, take, drop, get_or, min, refl, ◌∙◌, ap, arith, rules}
use Rattle.std.proofs.lemmas.List.{same_lists, places, drop-drop, length-take, length-drop, get_or-take, get_or-drop}
use Rattle.std.proofs.lemmas.List.Elements.{All-take, All-drop}
use Rattle.private_log.specs.LogBlock.{AreRecords, six}

length-part : (n m : ℕ) (xs : List (List ℕ)) → length (take n (drop m xs)) ≡ min n (length xs - m)
length-part n m xs = simp (length-take, length-drop) refl

pub length-six : (k : ℕ) (xs : List (List ℕ)) → length (six k xs) ≡ min 6 (length xs - 6 * k)
length-six k xs = length-part 6 (6 * k) xs

part-take : (n m k : ℕ) (xs : List (List ℕ)) → m + n ≤ k → take n (drop m (take k xs)) ≡ take n (drop m xs)
part-take n m k xs le = same_lists _ _ (search (rules, places)) (λ i d h. grind (arith, places))

part-push : (n m : ℕ) (xs : List (List ℕ)) (y : List ℕ) → m ≤ length xs → length xs < m + n → take n (drop m (xs ++ y ∷ [])) ≡ take n (drop m xs) ++ y ∷ []
part-push n m xs y le lt = same_lists _ _ (search (rules, places)) (λ i d h. grind (arith, places))

part-append : (n m : ℕ) (xs ys : List (List ℕ)) → m + n ≤ length xs → take n (drop m (xs ++ ys)) ≡ take n (drop m xs)
part-append n m xs ys le = same_lists _ _ (search (rules, places)) (λ i d h. grind (arith, places))

-- a front of the records has the same whole blocks
pub six-take : (k m : ℕ) (xs : List (List ℕ)) → 6 * k + 6 ≤ m → six k (take m xs) ≡ six k xs
six-take k m xs le = part-take 6 (6 * k) m xs le

-- the blocks of the records behind the first d blocks
pub six-drop : (k d : ℕ) (xs : List (List ℕ)) → six k (drop (6 * d) xs) ≡ six (d + k) xs
six-drop k d xs = ap (take 6) (drop-drop (6 * k) (6 * d) xs ∙ ap (λ n. drop n xs) (omega arith))

-- one more record in the last block
pub six-push : (k : ℕ) (xs : List (List ℕ)) (y : List ℕ) → 6 * k ≤ length xs → length xs < 6 * k + 6 → six k (xs ++ y ∷ []) ≡ six k xs ++ y ∷ []
six-push k xs y le lt = part-push 6 (6 * k) xs y le lt

-- records behind a block leave it
pub six-append : (k : ℕ) (xs ys : List (List ℕ)) → 6 * k + 6 ≤ length xs → six k (xs ++ ys) ≡ six k xs
six-append k xs ys le = part-append 6 (6 * k) xs ys le

pub AreRecords-take : (n : ℕ) (xs : List (List ℕ)) → AreRecords xs → AreRecords (take n xs)
AreRecords-take n xs h = All-take (λ (x : List ℕ). length x ≡ 672) n xs h

pub AreRecords-drop : (n : ℕ) (xs : List (List ℕ)) → AreRecords xs → AreRecords (drop n xs)
AreRecords-drop n xs h = All-drop (λ (x : List ℕ). length x ≡ 672) n xs h

pub AreRecords-six : (k : ℕ) (xs : List (List ℕ)) → AreRecords xs → AreRecords (six k xs)
AreRecords-six k xs h = AreRecords-take 6 (drop (6 * k) xs) (AreRecords-drop (6 * k) xs h)

-- a record is one of its six
pub in_six : (i : ℕ) (xs : List (List ℕ)) (d : List ℕ) → get_or (six (i / 6) xs) (i % 6) d ≡ get_or xs i d
in_six i xs d = get_or-take 6 (drop (6 * (i / 6)) xs) (i % 6) d (omega arith) ∙ (get_or-drop (6 * (i / 6)) xs (i % 6) d ∙ ap (λ n. get_or xs n d) (omega arith))
