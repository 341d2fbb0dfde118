-- Blocks that have a place for their content once they are written.
use Rattle.std.specs.Prelude.{◌≡◌, ◌<◌, ◌≤◌, ℕ, List, Option, Some, None, length, map, count_by, is_some, replicate, slice_index_or}

-- what a block holds that was never written
unfoldable pub zero_block : List ℕ
zero_block = replicate 4096 0

-- what a block of this place holds
abbrev pub content_at : List (List ℕ) → Option ℕ → List ℕ
content_at contents None = zero_block
content_at contents (Some place) = slice_index_or contents place zero_block

-- what each block holds
abbrev pub laid_out : List (Option ℕ) → List (List ℕ) → List (List ℕ)
laid_out places contents = map (content_at contents) places

-- Each place holds the content of one block, and there is room for the blocks that have none.
pub record IsLaid (places : List (Option ℕ)) (contents : List (List ℕ)) (capacity : ℕ) : Type 0 where
  pub within : (i place : ℕ) → slice_index_or places i None ≡ Some place → place < length contents
  pub apart : (i j place : ℕ) → slice_index_or places i None ≡ Some place → slice_index_or places j None ≡ Some place → i ≡ j
  pub counted : length contents ≡ count_by is_some places
  pub room : length places ≤ capacity
