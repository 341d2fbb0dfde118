-- The text of a log block.
use Rattle.std.specs.Prelude.{◌≡◌, ◌≤◌, ◌<◌, ◌*◌, ◌^◌, ℕ, List, [], ◌∷◌, length, take, drop, codes}
use Rattle.std.specs.List.{All, concat}
use Rattle.sd_base.specs.Text.{bytes_field, number_field, block_text}

-- what stands in front of the records of a log block
unfoldable pub log_header : ℕ → ℕ → ℕ → List ℕ
log_header node number count = block_text (
    bytes_field 0 (codes "SDLOGBLK") ∷
    bytes_field 8 (node ∷ count ∷ []) ∷
    number_field 16 8 number ∷ [])

-- the block of a node's log with this number and these records
unfoldable pub log_block : ℕ → ℕ → List (List ℕ) → List ℕ
log_block node number records = block_text (
    bytes_field 0 (codes "SDLOGBLK") ∷
    bytes_field 8 (node ∷ length records ∷ []) ∷
    number_field 16 8 number ∷
    bytes_field 64 (concat records) ∷ [])

-- records of a log are texts of 672 bytes
abbrev pub AreRecords : List (List ℕ) → Type 0
AreRecords xs = All (λ x. length x ≡ 672) xs

-- a log block has from one to six records, and a number below 2^56
pub record FitsBlock (number : ℕ) (records : List (List ℕ)) : Type 0 where
  pub some : 1 ≤ length records
  pub most : length records ≤ 6
  pub texts : AreRecords records
  pub below : number < 2 ^ 56

-- the records of the block k of a log, where the first one is block 0: the k-th six of them
abbrev pub six : ℕ → List (List ℕ) → List (List ℕ)
six k xs = take 6 (drop (6 * k) xs)
