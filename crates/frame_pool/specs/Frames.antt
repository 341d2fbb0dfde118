-- The frames of a pool: for each its bytes if it is out, and nothing if it is free.
use Rattle.std.specs.Prelude.{◌≢◌, ◌<◌, ◌≤◌, ◌^◌, ℕ, List, All, AllPairs, Option, Some, None, IsSome, is_none, map, fold, count_by, length, slice_index_or, slice_set}

-- what frame k holds, if it is out
abbrev pub frame_at : List (Option (List ℕ)) → ℕ → Option (List ℕ)
frame_at frames k = slice_index_or frames k None

-- frame k is out
abbrev pub IsOut : List (Option (List ℕ)) → ℕ → Type 0
IsOut frames k = IsSome (frame_at frames k)

-- how many frames are free
abbrev pub free_count : List (Option (List ℕ)) → ℕ
free_count frames = count_by is_none frames

-- the frames over these blocks, of which those of these numbers are free
abbrev pub shown : List (List ℕ) → List ℕ → List (Option (List ℕ))
shown blocks free = fold (λ frames n. slice_set frames n None) (map Some blocks) free

-- The free numbers are numbers of frames, none stands twice, and there is room for all.
pub record IsPool (blocks : List (List ℕ)) (free : List ℕ) (capacity : ℕ) : Type 0 where
  pub within : All (λ n. n < length blocks) free
  pub apart : AllPairs (λ n m. n ≢ m) free
  pub room : length blocks ≤ capacity
  pub few : length blocks < 2 ^ 16
