-- What `picks` of a stop means, and how calls count the uncovered blocks of a port.
use Rattle.std.specs.Prelude.{◌≡◌, ◌≢◌, ◌+◌, ◌%◌, ℕ, List, Option, Some, None, IsBitSet}
use Rattle.sd_base.specs.Disk.{BlockState}

-- what a stop takes into account
pub record Picks : Type 0 where
  -- what each block held before its first uncovered write, None where it was lost
  pub stood : ℕ → Option (List ℕ)
  -- the bit of each block that waits for a port
  pub bit : ℕ → ℕ
  -- for each port, the bit of the next block that it leaves uncovered
  pub next : ℕ → ℕ

-- nothing of it has changed
pub record KeepsPicks (old new : Picks) : Type 0 where
  pub stood : (k : ℕ) → new.stood k ≡ old.stood k
  pub bit : (k : ℕ) → new.bit k ≡ old.bit k
  pub next : (n : ℕ) → new.next n ≡ old.next n

-- The port has written the block. What stands before an uncovered write is what was current at the
-- first one, and that one gives the block its bit.
pub record WritesPicks (n at : ℕ) (block : ℕ → BlockState) (old new : Picks) : Type 0 where
  pub stood : (k : ℕ) → new.stood k ≡ old.stood k
  pub stands : (block at).writer ≡ None → new.stood at ≡ (block at).current
  pub first_bit : (block at).writer ≡ None → new.bit at ≡ old.next n
  pub first_next : (block at).writer ≡ None → new.next n ≡ (old.next n + 1) % 64
  pub again_bit : (block at).writer ≡ Some n → new.bit at ≡ old.bit at
  pub again_next : (block at).writer ≡ Some n → new.next n ≡ old.next n
  pub other_bits : (k : ℕ) → k ≢ at → new.bit k ≡ old.bit k
  pub other_ports : (m : ℕ) → m ≢ n → new.next m ≡ old.next m

-- none of the port's blocks is uncovered
pub record EndsPicks (n : ℕ) (block : ℕ → BlockState) (old new : Picks) : Type 0 where
  pub next : new.next n ≡ 0
  pub stood : (k : ℕ) → (block k).writer ≢ Some n → new.stood k ≡ old.stood k
  pub bit : (k : ℕ) → (block k).writer ≢ Some n → new.bit k ≡ old.bit k
  pub other_ports : (m : ℕ) → m ≢ n → new.next m ≡ old.next m

-- no block but this one stands otherwise, and no count has changed
pub record LosesPicks (at : ℕ) (old new : Picks) : Type 0 where
  pub stood : (k : ℕ) → k ≢ at → new.stood k ≡ old.stood k
  pub bit : (k : ℕ) → k ≢ at → new.bit k ≡ old.bit k
  pub next : (n : ℕ) → new.next n ≡ old.next n

-- a block that the port had written holds what was current where its bit of `picks` is set, and else
-- what stood before
pub record FollowsPicks (n picks : ℕ) (waiting : Picks) (old new : ℕ → BlockState) : Type 0 where
  pub kept : (k : ℕ) → (old k).writer ≡ Some n → IsBitSet picks (waiting.bit k) → (new k).current ≡ (old k).current
  pub back : (k : ℕ) → (old k).writer ≡ Some n → ¬ IsBitSet picks (waiting.bit k) → (new k).current ≡ waiting.stood k

-- each block that the port had written holds what stood before
abbrev pub GivesBack : ℕ → Picks → (ℕ → BlockState) → (ℕ → BlockState) → Type 0
GivesBack n waiting old new = (k : ℕ) → (old k).writer ≡ Some n → (new k).current ≡ waiting.stood k

-- each block that the port had written holds what was current
abbrev pub KeepsCurrent : ℕ → (ℕ → BlockState) → (ℕ → BlockState) → Type 0
KeepsCurrent n old new = (k : ℕ) → (old k).writer ≡ Some n → (new k).current ≡ (old k).current
