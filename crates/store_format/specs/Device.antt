-- What a format asks of a device, and what it says of one.
use Rattle.std.specs.Prelude.{◌≡◌, ◌≢◌, ℕ, false, List, Option, None}
use Rattle.sd_base.specs.Disk.{BlockState, DiskState, IsFreeFor, IsPort, MayHold}
use Rattle.sd_base.specs.Calls.{Narrows}
use Rattle.sd_base.specs.Faults.{Grew}

-- no other port than 1 has an uncovered write
abbrev pub IsFreeForOne : (ℕ → BlockState) → Type 0
IsFreeForOne b = (k : ℕ) → IsFreeFor 1 (b k)

-- no block has an uncovered write
abbrev pub IsAllCovered : (ℕ → BlockState) → Type 0
IsAllCovered b = (k : ℕ) → (b k).writer ≡ None

-- no port may be used
abbrev pub IsIdle : DiskState → Type 0
IsIdle d = (p : ℕ) → IsPort p → d.live p ≡ false

-- The ports were stopped, and of them port 1 alone may be used again: the device's extent has not changed, no count has
-- fallen, and no other port may be used.
pub record TakesOver (old new : DiskState) : Type 0 where
  pub name : new.name ≡ old.name
  pub size : new.size ≡ old.size
  pub reach : new.reach ≡ old.reach
  pub below : new.below ≡ old.below
  pub orders : new.orders ≡ old.orders
  pub grew : Grew old new
  pub others : (p : ℕ) → IsPort p → p ≢ 1 → new.live p ≡ false

-- no block has a new outcome, and none has an uncovered write
pub record ComesToRest (old new : ℕ → BlockState) : Type 0 where
  pub outcomes : Narrows old new
  pub quiet : IsAllCovered new

-- block k has no new outcome
abbrev pub NarrowsAt : ℕ → (ℕ → BlockState) → (ℕ → BlockState) → Type 0
NarrowsAt k old new = (o : Option (List ℕ)) → MayHold new k o → MayHold old k o
