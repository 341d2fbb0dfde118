-- What the blocks of a device in memory are, by their cells and their copies.
use Rattle.std.specs.Prelude.{ℕ, ◌+◌, ◌*◌, ◌%◌, Bool, true, false, List, [], ◌∷◌, Option, Some, None, slice_index_or, nat_lt}
use Rattle.sd_base.specs.Disk.{BlockState}
use Rattle.disk_model.specs.Lazy.{zero_block}
use Rattle.disk_model.specs.declared.cell.Mark.{Mark}
use Rattle.disk_model.specs.declared.cell.Mark.TheVariants.{Covered, Lost, Waiting}
use Rattle.disk_model.specs.declared.cell.Cell.{Cell}
use Rattle.disk_model.specs.declared.port.Port.{Port}

-- the port that has written the block and has not covered it
abbrev pub writer_of : Mark → Option ℕ
writer_of Covered = None
writer_of Lost = None
writer_of (Waiting port was_lost bit) = Some port

-- what the block holds, where this is its current copy
abbrev pub current_of : Mark → List ℕ → Option (List ℕ)
current_of Covered now = Some now
current_of Lost now = None
current_of (Waiting port was_lost bit) now = Some now

-- a content that was there, or none where the block was lost
abbrev pub kept_content : Bool → List ℕ → Option (List ℕ)
kept_content true before = None
kept_content false before = Some before

-- what the block held before its first uncovered write, where these are its current and its other copy
abbrev pub stood_of : Mark → List ℕ → List ℕ → Option (List ℕ)
stood_of Covered now before = Some now
stood_of Lost now before = None
stood_of (Waiting port was_lost bit) now before = kept_content was_lost before

-- what a stop may leave of the block
abbrev pub outcomes_of : Mark → List ℕ → List ℕ → List (Option (List ℕ))
outcomes_of Covered now before = Some now ∷ []
outcomes_of Lost now before = None ∷ []
outcomes_of (Waiting port was_lost bit) now before = Some now ∷ kept_content was_lost before ∷ []

-- the bit of `picks` that a block that waits belongs to
abbrev pub bit_of : Mark → ℕ
bit_of Covered = 0
bit_of Lost = 0
bit_of (Waiting port was_lost bit) = bit % 64

-- A block, and what `stop` takes into account: what stood before its first uncovered write, and its bit.
pub record BlockView : Type 0 where
  pub state : BlockState
  pub stood : Option (List ℕ)
  pub bit : ℕ

-- a block, by its mark, its current copy and its other copy
abbrev pub view_of : Mark → List ℕ → List ℕ → BlockView
view_of mark now before = record {
  state = record { current = current_of mark now; outcomes = outcomes_of mark now before; writer = writer_of mark };
  stood = stood_of mark now before;
  bit = bit_of mark;
}

-- the current one of the two copies
abbrev pub current_copy : Bool → List ℕ → List ℕ → List ℕ
current_copy false one two = one
current_copy true one two = two

-- the one that is not current
abbrev pub other_copy : Bool → List ℕ → List ℕ → List ℕ
other_copy false one two = two
other_copy true one two = one

-- a block, by its cell and its two copies
abbrev pub cell_view : Cell → List ℕ → List ℕ → BlockView
cell_view cell one two = view_of cell.mark (current_copy cell.second one two) (other_copy cell.second one two)

-- where a copy of block k stands
abbrev pub place_of : ℕ → Bool → ℕ
place_of k false = 2 * k
place_of k true = 2 * k + 1

-- what is known of block k; past the end it is covered
abbrev pub cell_at : List Cell → ℕ → Cell
cell_at cells k = slice_index_or cells k record { mark = Covered; second = false }

-- one of the two copies of block k
abbrev pub copy_at : List (List ℕ) → ℕ → Bool → List ℕ
copy_at copies k second = slice_index_or copies (place_of k second) zero_block

-- block k, as a stop sees it
abbrev pub view_at : List Cell → List (List ℕ) → ℕ → BlockView
view_at cells copies k = cell_view (cell_at cells k) (copy_at copies k false) (copy_at copies k true)

-- block k, as a device means it
abbrev pub block_at : List Cell → List (List ℕ) → ℕ → BlockState
block_at cells copies k = (view_at cells copies k).state

-- what block k held before its first uncovered write
abbrev pub stood_at : List Cell → List (List ℕ) → ℕ → Option (List ℕ)
stood_at cells copies k = (view_at cells copies k).stood

-- the bit of `picks` that block k belongs to
abbrev pub bit_at : List Cell → ℕ → ℕ
bit_at cells k = bit_of (cell_at cells k).mark

-- the port for which block k waits
abbrev pub waiter_at : List Cell → ℕ → Option ℕ
waiter_at cells k = writer_of (cell_at cells k).mark

-- port n; past the end it reaches no block
abbrev pub port_at : List Port → ℕ → Port
port_at ports n = slice_index_or ports n record { live = false; first = 0; end = 0; next_bit = 0 }

-- port n may be used
abbrev pub live_at : List Port → ℕ → Bool
live_at ports n = (port_at ports n).live

-- the bit of the next block that port n leaves uncovered
abbrev pub next_at : List Port → ℕ → ℕ
next_at ports n = (port_at ports n).next_bit % 64

-- block k is one of the device
abbrev pub is_below : ℕ → ℕ → Bool
is_below size k = nat_lt k size

-- a count that never rises
abbrev pub zero_count : ℕ → ℕ
zero_count n = 0
