-- What a device of blocks means.
use Rattle.std.specs.Prelude.{◌≡◌, ◌⊎◌, ◌+◌, ◌-◌, ◌≤◌, ◌^◌, ℕ, Bool, true, List, Option, Some, None, min}
use Rattle.std.proofs.Common.{arith}
use Rattle.sd_base.specs.Outcomes.{among}

-- A block: its content, or None where it is lost; what a stop may leave of it, again None for lost;
-- and the port that has written it and has not covered it.
pub record BlockState : Type 0 where
  pub current : Option (List ℕ)
  pub outcomes : List (Option (List ℕ))
  pub writer : Option ℕ

-- The name, size and reach of a device that another one stands on.
pub data Extent : Type 0 where
  extent : ℕ → ℕ → (ℕ → Bool) → Extent

-- A device.
pub record DiskState : Type 0 where
  -- which device it is, where it is lent
  pub name : ℕ
  -- what `blocks` answers
  pub size : ℕ
  -- the blocks that may be named
  pub reach : ℕ → Bool
  -- the devices that it stands on
  pub below : List Extent
  pub block : ℕ → BlockState
  -- the ports that may be used
  pub live : ℕ → Bool
  -- how often each port has failed, and how often it was stopped in a call
  pub faults : ℕ → ℕ
  pub cuts : ℕ → ℕ
  -- how often the device was ordered to lose a block, or to stop or fail a port later on
  pub orders : ℕ

-- a stop may leave this in block k
abbrev pub MayHold : (ℕ → BlockState) → ℕ → Option (List ℕ) → Type 0
MayHold b k o = among (b k).outcomes o ≡ true

-- the blocks of a settled device: each holds one of its outcomes
abbrev pub IsOutcome : (ℕ → BlockState) → (ℕ → Option (List ℕ)) → Type 0
IsOutcome b image = (k : ℕ) → MayHold b k (image k)

-- block k holds this, whatever a stop leaves
abbrev pub Holds : (ℕ → BlockState) → ℕ → Option (List ℕ) → Type 0
Holds b k c = (o : Option (List ℕ)) → MayHold b k o → o ≡ c

-- block k has one outcome, the current one, and no writer
pub record IsCovered (b : ℕ → BlockState) (k : ℕ) : Type 0 where
  pub outcomes : Holds b k (b k).current
  pub writer : (b k).writer ≡ None

-- port n is one of the sixteen
abbrev pub IsPort : ℕ → Type 0
IsPort n = (1 ≤ n) × (n ≤ 16)

-- no other port than n has an uncovered write to the block
abbrev pub IsFreeFor : ℕ → BlockState → Type 0
IsFreeFor n b = (b.writer ≡ Some n) ⊎ (b.writer ≡ None)

-- what holds of each block of each device
pub record IsLawful (b : ℕ → BlockState) (k : ℕ) : Type 0 where
  pub current : MayHold b k (b k).current
  pub lost_alone : (b k).current ≡ None → Holds b k None
  pub covered : (b k).writer ≡ None → Holds b k (b k).current
  pub port : (n : ℕ) → (b k).writer ≡ Some n → IsPort n

-- a count rose, or stood at its end already
abbrev pub Rose : ℕ → ℕ → Type 0
Rose before now = min (before + 1) (2 ^ 64 - 1) ≤ now

pub Rose-after : (a b c : ℕ) → a ≤ b → Rose b c → Rose a c
Rose-after a b c p q = omega arith

pub Rose-before : (a b c : ℕ) → Rose a b → b ≤ c → Rose a c
Rose-before a b c p q = omega arith
