-- What a write, a barrier and a stop do to one block.
use Rattle.std.specs.Prelude.{◌≡◌, ◌≢◌, ◌⊎◌, ◌<◌, ◌≤◌, ◌%◌, ℕ, Bool, true, false, List, Option, Some, None, IsBitSet}
use Rattle.sd_base.specs.Outcomes.{among}
use Rattle.disk_model.specs.Memory.{BlockView, cell_view, waiter_at}
use Rattle.disk_model.specs.declared.cell.Cell.{Cell}

-- The content is there, and each outcome is it or one that the block had. What stood before the
-- first uncovered write stays, and only the first such write gives the block a bit.
pub record WritesBlock (port : ℕ) (content : List ℕ) (bit : ℕ) (is_first : Bool) (old new : BlockView) : Type 0 where
  pub current : new.state.current ≡ Some content
  pub writer : new.state.writer ≡ Some port
  pub outcomes : (o : Option (List ℕ)) → among new.state.outcomes o ≡ true → (among old.state.outcomes o ≡ true) ⊎ (o ≡ Some content)
  pub stood : new.stood ≡ old.stood
  pub first : old.state.writer ≡ None → (is_first ≡ true) × (new.bit ≡ bit)
  pub again : old.state.writer ≡ Some port → (is_first ≡ false) × (new.bit ≡ old.bit)

-- Each outcome is one that it had, and what the port had written has one outcome and no writer.
pub record SettlesBlock (port : ℕ) (old new : BlockView) : Type 0 where
  pub outcomes : (o : Option (List ℕ)) → among new.state.outcomes o ≡ true → among old.state.outcomes o ≡ true
  pub one : old.state.writer ≡ Some port → (o : Option (List ℕ)) → among new.state.outcomes o ≡ true → o ≡ new.state.current
  pub writer : old.state.writer ≡ Some port → new.state.writer ≡ None
  pub foreign : old.state.writer ≢ Some port → new ≡ old

-- What is current stays, and what the port had written has no writer.
pub record CoversBlock (port : ℕ) (old new : BlockView) : Type 0 where
  pub current : new.state.current ≡ old.state.current
  pub settles : SettlesBlock port old new

-- What the port had written holds what is current where its bit is set, and else what stood before.
pub record StopsBlock (port picks : ℕ) (old new : BlockView) : Type 0 where
  pub settles : SettlesBlock port old new
  pub kept : old.state.writer ≡ Some port → IsBitSet picks old.bit → new.state.current ≡ old.state.current
  pub back : old.state.writer ≡ Some port → ¬ IsBitSet picks old.bit → new.state.current ≡ old.stood

-- the first copy after a content was put in one of the two
abbrev pub one_after : Bool → List ℕ → List ℕ → List ℕ
one_after false content one = content
one_after true content one = one

-- the second copy after that
abbrev pub two_after : Bool → List ℕ → List ℕ → List ℕ
two_after false content two = two
two_after true content two = content

-- whatever is in the copies, a content that is put in the current one is written
abbrev pub WritesCell : ℕ → ℕ → Bool → Cell → Cell → Type 0
WritesCell port bit is_first old new =
    (content one two : List ℕ) → WritesBlock port content (bit % 64) is_first (cell_view old one two) (cell_view new (one_after new.second content one) (two_after new.second content two))

-- whatever is in the copies, the block is covered
abbrev pub CoversCell : ℕ → Cell → Cell → Type 0
CoversCell port old new = (one two : List ℕ) → CoversBlock port (cell_view old one two) (cell_view new one two)

-- whatever is in the copies, the block is settled by the picks
abbrev pub StopsCell : ℕ → ℕ → Cell → Cell → Type 0
StopsCell port picks old new = (one two : List ℕ) → StopsBlock port picks (cell_view old one two) (cell_view new one two)

-- each block that waits for the port lies in this range
abbrev pub IsWithin : List Cell → ℕ → ℕ → ℕ → Type 0
IsWithin cells port first end = (k : ℕ) → waiter_at cells k ≡ Some port → (first ≤ k) × (k < end)

-- the blocks below n are done, the others are as they were
pub record DoneBelow (R : BlockView → BlockView → Type 0) (n : ℕ) (old now : ℕ → BlockView) : Type 0 where
  pub below : (k : ℕ) → k < n → R (old k) (now k)
  pub rest : (k : ℕ) → n ≤ k → now k ≡ old k
