-- Texts of fields: bytes and numbers at stated places of a block, and zeros between them.
use Rattle.std.specs.Prelude.{ℕ, ◌+◌, List, [], ◌∷◌, ◌++◌, length, take, drop, replicate}
use Rattle.byteorder.specs.Endian.{big_bytes, big_number}

-- the text with these bytes at this place
unfoldable pub put : ℕ → List ℕ → List ℕ → List ℕ
put at bytes text = take at text ++ bytes ++ drop (at + length bytes) text

-- what stands at a place of a text
pub record Field : Type 0 where
  pub place : ℕ
  pub bytes : List ℕ

-- these bytes at this place
abbrev pub bytes_field : ℕ → List ℕ → Field
bytes_field at bytes = record { place = at; bytes = bytes }

-- the number x in n bytes at this place, the highest byte first
abbrev pub number_field : ℕ → ℕ → ℕ → Field
number_field at n x = record { place = at; bytes = big_bytes n x }

-- the text with these fields
abbrev pub with_fields : List ℕ → List Field → List ℕ
with_fields text [] = text
with_fields text (f ∷ fs) = with_fields (put f.place f.bytes text) fs

abbrev pub zero_block : List ℕ
zero_block = replicate 4096 0

-- the block with these fields and zeros
abbrev pub block_text : List Field → List ℕ
block_text fs = with_fields zero_block fs

-- the number in n bytes at this place
abbrev pub number_at : ℕ → ℕ → List ℕ → ℕ
number_at n at text = big_number n (drop at text)

-- the n bytes at this place
abbrev pub bytes_at : ℕ → ℕ → List ℕ → List ℕ
bytes_at n at text = take n (drop at text)
