-- How the bytes of a value are spelled, in a line and in a reply.
use Rattle.std.specs.Prelude.{◌≡◌, ◌+◌, ◌/◌, ◌%◌, ◌≤◌, ◌<◌, ◌&&◌, ◌==◌, ℕ, Bool, not, List, [], ◌∷◌, length, take, All, nat_le, nat_lt, if◌then◌else◌}
use Rattle.std.specs.List.{flat_map}

-- a byte that stands for itself: printable, and no backslash
abbrev pub is_plain : ℕ → Bool
is_plain b = nat_le 32 b && nat_le b 126 && not (b == 92)

-- the lower-case hexadecimal digit of a number below 16
abbrev pub hex_digit : ℕ → ℕ
hex_digit n = if nat_lt n 10 then 48 + n else (87 + n)

-- a byte that doesn't stand for itself is a backslash, an x and two digits
abbrev pub escaped_byte : ℕ → List ℕ
escaped_byte b = 92 ∷ 120 ∷ hex_digit (b / 16) ∷ hex_digit (b % 16) ∷ []

-- the one spelling of a byte
abbrev pub spelled_byte : ℕ → List ℕ
spelled_byte b = if is_plain b then (b ∷ []) else escaped_byte b

-- the one spelling of a value
abbrev pub spelled : List ℕ → List ℕ
spelled value = flat_map spelled_byte value

-- these numbers are bytes
abbrev pub AreBytes : List ℕ → Type 0
AreBytes value = All (λ b. b < 256) value

-- a value of a record: at most 248 bytes
pub record IsValue (value : List ℕ) : Type 0 where
  pub short : length value ≤ 248
  pub bytes : AreBytes value

-- the text begins with the spelling of this byte, which is so long
pub record SpellsByte (text : List ℕ) (b len : ℕ) : Type 0 where
  pub byte : b < 256
  pub len_is : len ≡ length (spelled_byte b)
  pub within : len ≤ length text
  pub front : take len text ≡ spelled_byte b
