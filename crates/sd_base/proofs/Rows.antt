-- Rows of one size, joined end to end.
use Rattle.std.proofs.Common.{◌≡◌, ◌≤◌, ◌<◌, ◌+◌, ◌*◌, ℕ, zero, suc, List, [], ◌∷◌, ◌++◌, length, take, drop, set, get_or, ◌∙◌, ap, sym, arith, add-one}
use Rattle.std.specs.List.{flat_map, All}
use Rattle.std.proofs.lemmas.List.{length-append, length-take-le, drop_at}
use Rattle.std.proofs.lemmas.List.Elements.{All-head, All-tail, All-take}
use Rattle.std.proofs.Math.Nat.{mul-suc, mul-le-mul_left}
use Rattle.std.proofs.Math.Seq.{drop-append-add}
use Rattle.sd_base.specs.Text.{put}
use Rattle.sd_base.proofs.PutLaws.{put-append_right}

-- bytes put over as many others in front of a text
put-front : (xs ys text : List ℕ) → length xs ≡ length ys → put 0 ys (xs ++ text) ≡ ys ++ text
unfolding put
put-front xs ys text e = ap (λ tail. ys ++ tail) (drop_at xs text (0 + length ys) (omega arith))

module _ {X : Type 0} (f : X → List ℕ) (size : ℕ) where
  -- the elements whose row has the size
  abbrev pub IsRow : X → Type 0
  IsRow x = length (f x) ≡ size

  pub length-rows : (xs : List X) → All IsRow xs → length (flat_map f xs) ≡ size * length xs
  length-rows [] h = omega arith
  length-rows (x ∷ xs) h =
      length-append (f x) (flat_map f xs)
      ∙ (let here : length (f x) ≡ size = All-head IsRow x xs h in
      let rest : length (flat_map f xs) ≡ size * length xs = length-rows xs (All-tail IsRow x xs h) in
      let more : size * suc (length xs) ≡ size * length xs + size = mul-suc size (length xs) in
      omega arith)

  -- the first rows end where the next begins
  pub length-rows_before : (xs : List X) (i : ℕ) → i ≤ length xs → All IsRow xs → length (flat_map f (take i xs)) ≡ size * i
  length-rows_before xs i le h =
      length-rows (take i xs) (All-take IsRow i xs h) ∙ ap (λ n. size * n) (length-take-le i xs le)

  next : (i : ℕ) (x : X) → IsRow x → size * suc i ≡ length (f x) + size * i
  next i x here = let more : size * suc i ≡ size * i + size = mul-suc size i in omega arith

  next_but_one : (i : ℕ) (x : X) → IsRow x → size * (suc i + 1) ≡ length (f x) + size * (i + 1)
  next_but_one i x here = ap (λ n. size * n) (add-one (suc i)) ∙ next (suc i) x here ∙ ap (λ n. length (f x) + size * n) (sym (add-one i))

  -- behind the first rows stand the next row and the others
  pub drop-rows : (xs : List X) (i : ℕ) (d : X) → i < length xs → All IsRow xs → drop (size * i) (flat_map f xs) ≡ f (get_or xs i d) ++ drop (size * (i + 1)) (flat_map f xs)
  drop-rows [] i d lt h = absurd (omega arith)
  drop-rows (x ∷ xs) zero d lt h =
      let here : length (f x) ≡ size = All-head IsRow x xs h in
      let none : size * 0 ≡ 0 = omega arith in
      let one : length (f x) ≡ size * 1 = omega arith in
      ap (λ n. drop n (f x ++ flat_map f xs)) none
      ∙ ap (λ tail. f x ++ tail) (sym (drop_at (f x) (flat_map f xs) (size * 1) one))
  drop-rows (x ∷ xs) (suc i) d lt h =
      let here : length (f x) ≡ size = All-head IsRow x xs h in
      ap (λ n. drop n (f x ++ flat_map f xs)) (next i x here)
      ∙ drop-append-add (f x) (flat_map f xs) (size * i)
      ∙ drop-rows xs i d (omega arith) (All-tail IsRow x xs h)
      ∙ ap (λ tail. f (get_or xs i d) ++ tail) (sym (ap (λ n. drop n (f x ++ flat_map f xs)) (next_but_one i x here) ∙ drop-append-add (f x) (flat_map f xs) (size * (i + 1))))

  -- a row put over the row of its place
  pub put-rows : (xs : List X) (i : ℕ) (y : X) → i < length xs → All IsRow xs → IsRow y → put (size * i) (f y) (flat_map f xs) ≡ flat_map f (set xs i y)
  put-rows [] i y lt h k = absurd (omega arith)
  put-rows (x ∷ xs) zero y lt h k =
      let here : length (f x) ≡ size = All-head IsRow x xs h in
      let none : size * 0 ≡ 0 = omega arith in
      ap (λ n. put n (f y) (f x ++ flat_map f xs)) none ∙ put-front (f x) (f y) (flat_map f xs) (omega arith)
  put-rows (x ∷ xs) (suc i) y lt h k =
      let here : length (f x) ≡ size = All-head IsRow x xs h in
      let others : All IsRow xs = All-tail IsRow x xs h in
      let long : length (flat_map f xs) ≡ size * length xs = length-rows xs others in
      let room : size * suc i ≤ size * length xs = mul-le-mul_left size (omega arith) in
      let more : size * suc i ≡ size * i + size = mul-suc size i in
      put-append_right (size * i) (size * suc i) (f y) (f x) (flat_map f xs) (omega arith) (omega arith)
      ∙ ap (λ tail. f x ++ tail) (put-rows xs i y (omega arith) others k)
