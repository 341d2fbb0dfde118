-- The spelling of values.
use Rattle.std.proofs.Common.{◌≡◌, ◌*◌, ◌/◌, ◌%◌, ◌≤◌, ◌<◌, ◌∙◌, ℕ, suc, Bool, true, false, cond, List, [], ◌∷◌, ◌++◌, length, get_or, sym, ap, refl, arith}
use Rattle.std.proofs.lemmas.Bool.{false≢true}
use Rattle.std.proofs.lemmas.Bool.Decides.{nat_tests}
use Rattle.std.proofs.lemmas.List.{length-append, append_assoc, append-nil, flat_map_more, get_or_at}
use Rattle.script_text.specs.Spelling.{is_plain, hex_digit, escaped_byte, spelled_byte, spelled, AreBytes}

-- a byte takes from one to four places
length-spelled_byte_by : (p : Bool) (b : ℕ) → (1 ≤ length (cond p (b ∷ []) (escaped_byte b))) × (length (cond p (b ∷ []) (escaped_byte b)) ≤ 4)
length-spelled_byte_by true b = (omega arith, omega arith)
length-spelled_byte_by false b = (omega arith, omega arith)

pub length-spelled_byte : (b : ℕ) → (1 ≤ length (spelled_byte b)) × (length (spelled_byte b) ≤ 4)
length-spelled_byte b = length-spelled_byte_by (is_plain b) b

pub length-spelled-le : (v : List ℕ) → length (spelled v) ≤ 4 * length v
length-spelled-le [] = omega arith
length-spelled-le (b ∷ v) = omega (arith, length-append (spelled_byte b) (spelled v), (length-spelled_byte b).1, length-spelled-le v)

-- one more byte
pub spelled-push : (v : List ℕ) (b : ℕ) → spelled (v ++ b ∷ []) ≡ spelled v ++ spelled_byte b
spelled-push v b = sym (flat_map_more spelled_byte [] v b)

-- by what the byte is
pub spelled_byte-plain : (b : ℕ) → is_plain b ≡ true → spelled_byte b ≡ b ∷ []
spelled_byte-plain b plain = rw plain refl

pub spelled_byte-escaped : (b : ℕ) → is_plain b ≡ false → spelled_byte b ≡ escaped_byte b
spelled_byte-escaped b escaped = rw escaped refl

-- a backslash doesn't stand for itself
pub backslash_is_not_plain : (b : ℕ) → b ≡ 92 → is_plain b ≡ true → ⊥
backslash_is_not_plain b e plain = false≢true (sym (ap is_plain e) ∙ plain)

pub hex_digit-injective : (m n : ℕ) → m < 16 → n < 16 → hex_digit m ≡ hex_digit n → m ≡ n
hex_digit-injective m n lm ln e = grind (arith, nat_tests)

-- a byte is known by its two digits
pub escaped-injective : (b c : ℕ) → b < 256 → c < 256 → hex_digit (b / 16) ≡ hex_digit (c / 16) → hex_digit (b % 16) ≡ hex_digit (c % 16) → b ≡ c
escaped-injective b c lb lc high low =
    let h : b / 16 ≡ c / 16 = hex_digit-injective (b / 16) (c / 16) (omega arith) (omega arith) high in
    let l : b % 16 ≡ c % 16 = hex_digit-injective (b % 16) (c % 16) (omega arith) (omega arith) low in
    omega arith

-- the first byte of a text, and what stands behind its spelling
heads_by : (p q : Bool) (b c : ℕ) (xs ys : List ℕ) → b < 256 → c < 256 → is_plain b ≡ p → is_plain c ≡ q → cond p (b ∷ []) (escaped_byte b) ++ xs ≡ cond q (c ∷ []) (escaped_byte c) ++ ys → (b ≡ c) × (xs ≡ ys)
heads_by true true b c xs ys lb lc pb pc e = (cc, cc)
heads_by true false b c xs ys lb lc pb pc e = let h : b ≡ 92 = cc in absurd (backslash_is_not_plain b h pb)
heads_by false true b c xs ys lb lc pb pc e = let h : c ≡ 92 = cc in absurd (backslash_is_not_plain c h pc)
heads_by false false b c xs ys lb lc pb pc e =
    let high : hex_digit (b / 16) ≡ hex_digit (c / 16) = cc in
    let low : hex_digit (b % 16) ≡ hex_digit (c % 16) = cc in
    (escaped-injective b c lb lc high low, cc)

pub spelled_byte-heads : (b c : ℕ) (xs ys : List ℕ) → b < 256 → c < 256 → spelled_byte b ++ xs ≡ spelled_byte c ++ ys → (b ≡ c) × (xs ≡ ys)
spelled_byte-heads b c xs ys lb lc e = heads_by (is_plain b) (is_plain c) b c xs ys lb lc refl refl e

-- no spelling is empty
spelled-nonempty : (b : ℕ) (v : List ℕ) → spelled (b ∷ v) ≡ [] → ⊥
spelled-nonempty b v e = absurd (omega (arith, ap length e, length-append (spelled_byte b) (spelled v), (length-spelled_byte b).0))

tail_bytes : (b : ℕ) (v : List ℕ) → AreBytes (b ∷ v) → AreBytes v
tail_bytes b v h k d lt = h (suc k) d (omega arith)

-- two values with one spelling are one
pub spelled-injective : (v w : List ℕ) → AreBytes v → AreBytes w → spelled v ≡ spelled w → v ≡ w
spelled-injective [] [] hv hw e = refl
spelled-injective [] (c ∷ w) hv hw e = absurd (spelled-nonempty c w (sym e))
spelled-injective (b ∷ v) [] hv hw e = absurd (spelled-nonempty b v e)
spelled-injective (b ∷ v) (c ∷ w) hv hw e =
    let heads = spelled_byte-heads b c (spelled v) (spelled w) (hv 0 0 (omega arith)) (hw 0 0 (omega arith)) e in
    let tails = spelled-injective v w (tail_bytes b v hv) (tail_bytes c w hw) heads.1 in
    let first : b ≡ c = heads.0 in cc

-- Reading goes on: of a text that spells v, the bytes are read, and w is left to be read.
module _ (v bytes w rest : List ℕ) (h : AreBytes v) (v_is : v ≡ bytes ++ w) (rest_is : rest ≡ spelled w) where
  pub next_byte : 0 < length rest → (b : ℕ) × (more : List ℕ) × (b < 256) × (v ≡ (bytes ++ b ∷ []) ++ more) × (rest ≡ spelled_byte b ++ spelled more)
  next_byte some = split w refl
    where
      split : (u : List ℕ) → w ≡ u → (b : ℕ) × (more : List ℕ) × (b < 256) × (v ≡ (bytes ++ b ∷ []) ++ more) × (rest ≡ spelled_byte b ++ spelled more)
      split [] e = absurd (omega (arith, ap length (rest_is ∙ ap spelled e)))
      split (b ∷ more) e =
          let whole : v ≡ bytes ++ (b ∷ more) = v_is ∙ ap (λ xs. bytes ++ xs) e in
          let at : get_or v (length bytes) 0 ≡ b = ap (λ xs. get_or xs (length bytes) 0) whole ∙ get_or_at bytes b more 0 (length bytes) refl in
          let byte : get_or v (length bytes) 0 < 256 = h (length bytes) 0 (omega (arith, ap length whole, length-append bytes (b ∷ more))) in
          (b, more, omega (arith, at), whole ∙ sym (append_assoc bytes (b ∷ []) more), rest_is ∙ ap spelled e)

  pub no_byte : rest ≡ [] → v ≡ bytes
  no_byte none = split w refl
    where
      split : (u : List ℕ) → w ≡ u → v ≡ bytes
      split [] e = v_is ∙ ap (λ xs. bytes ++ xs) e ∙ append-nil bytes
      split (b ∷ more) e = absurd (spelled-nonempty b more (sym (ap spelled e) ∙ sym rest_is ∙ none))
