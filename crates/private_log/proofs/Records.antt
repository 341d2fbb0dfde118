-- Texts of one length, joined.
use Rattle.std.proofs.Common.{◌≡◌, ◌≤◌, ◌<◌, ◌+◌, ◌*◌, ℕ, zero, suc, List, [], ◌∷◌, ◌++◌, length, take, drop, get_or, refl, sym, ◌∙◌, ap, arith}
use Rattle.std.specs.List.{All, concat}
use Rattle.std.proofs.lemmas.List.{length-append, length-take-le, length-drop, take-append-drop, take_at, drop_at, drop-drop, append_assoc, nil_from_length}
use Rattle.std.proofs.lemmas.List.Elements.{All-nil, All-cons, All-head, All-tail}

-- each text has this length
abbrev pub AreLong : ℕ → List (List ℕ) → Type 0
AreLong size xs = All (λ x. length x ≡ size) xs

pub length-concat : (size : ℕ) (xs : List (List ℕ)) → AreLong size xs → length (concat xs) ≡ size * length xs
length-concat size [] h = omega arith
length-concat size (x ∷ xs) h =
    let one : length x ≡ size = All-head (λ (y : List ℕ). length y ≡ size) x xs h in
    let rest : length (concat xs) ≡ size * length xs = length-concat size xs (All-tail (λ (y : List ℕ). length y ≡ size) x xs h) in
    length-append x (concat xs) ∙ omega arith

-- joined texts of one length are told apart
pub concat-one : (size : ℕ) (xs ys : List (List ℕ)) → AreLong size xs → AreLong size ys → length xs ≡ length ys → concat xs ≡ concat ys → xs ≡ ys
concat-one size [] [] h k e same = refl
concat-one size [] (y ∷ ys) h k e same = cc
concat-one size (x ∷ xs) [] h k e same = cc
concat-one size (x ∷ xs) (y ∷ ys) h k e same =
    let one : length x ≡ length y = All-head (λ (z : List ℕ). length z ≡ size) x xs h ∙ sym (All-head (λ (z : List ℕ). length z ≡ size) y ys k) in
    let front : x ≡ y = sym (take_at x (concat xs) (length x) refl) ∙ (ap (take (length x)) same ∙ take_at y (concat ys) (length x) (sym one)) in
    let back : concat xs ≡ concat ys = sym (drop_at x (concat xs) (length x) refl) ∙ (ap (drop (length x)) same ∙ drop_at y (concat ys) (length x) (sym one)) in
    let rest : xs ≡ ys = concat-one size xs ys (All-tail (λ (z : List ℕ). length z ≡ size) x xs h) (All-tail (λ (z : List ℕ). length z ≡ size) y ys k) (omega (arith, e)) back in
    cc

-- a text of joined ones
pub concat-at : (size i : ℕ) (xs : List (List ℕ)) (rest : List ℕ) → AreLong size xs → i < length xs → take size (drop (size * i) (concat xs ++ rest)) ≡ get_or xs i []
concat-at size i [] rest h lt = absurd (omega arith)
concat-at size zero (x ∷ xs) rest h lt =
    let one : length x ≡ size = All-head (λ (y : List ℕ). length y ≡ size) x xs h in
    let none : size * 0 ≡ 0 = omega arith in
    ap (λ n. take size (drop n (x ++ concat xs ++ rest))) none ∙ (ap (take size) (append_assoc x (concat xs) rest) ∙ take_at x (concat xs ++ rest) size one)
concat-at size (suc i) (x ∷ xs) rest h lt =
    let one : length x ≡ size = All-head (λ (y : List ℕ). length y ≡ size) x xs h in
    let more : size * suc i ≡ size + size * i = omega arith in
    ap (λ n. take size (drop n (x ++ concat xs ++ rest))) more
    ∙ (ap (take size) (sym (drop-drop (size * i) size (x ++ concat xs ++ rest)) ∙ ap (drop (size * i)) (ap (drop size) (append_assoc x (concat xs) rest) ∙ drop_at x (concat xs ++ rest) size one))
    ∙ concat-at size i xs rest (All-tail (λ (y : List ℕ). length y ≡ size) x xs h) (omega (arith, lt)))

-- bytes as joined texts
pub record Parts (size n : ℕ) (bytes : List ℕ) : Type 0 where
  pub texts : List (List ℕ)
  pub long : AreLong size texts
  pub count : length texts ≡ n
  pub joined : concat texts ≡ bytes

pub parts_of : (size n : ℕ) (bytes : List ℕ) → length bytes ≡ size * n → Parts size n bytes
parts_of size zero bytes e =
    record { texts = []; long = All-nil (λ (y : List ℕ). length y ≡ size); count = refl; joined = sym (nil_from_length bytes (omega (arith, e))) }
parts_of size (suc n) bytes e =
    let fits : size ≤ length bytes = omega (arith, e) in
    let p = parts_of size n (drop size bytes) (length-drop size bytes ∙ omega (arith, e)) in
    record {
      texts = take size bytes ∷ p.texts;
      long = All-cons (λ (y : List ℕ). length y ≡ size) (take size bytes) p.texts (length-take-le size bytes fits) p.long;
      count = ap suc p.count;
      joined = ap (λ rest. take size bytes ++ rest) p.joined ∙ take-append-drop size bytes;
    }
