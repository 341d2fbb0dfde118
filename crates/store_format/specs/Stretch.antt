-- What writing a stretch of blocks leaves of a device: the blocks from `first` up to `end`, and not `end` itself.
use Rattle.std.specs.Prelude.{◌≡◌, ◌≢◌, ◌⊎◌, ◌≤◌, ◌<◌, ℕ, List, Some}
use Rattle.sd_base.specs.Disk.{BlockState, Holds}
use Rattle.store_format.specs.Device.{IsFreeForOne, IsAllCovered}

-- block k isn't in the stretch
abbrev pub IsOutside : ℕ → ℕ → ℕ → Type 0
IsOutside first end k = (k < first) ⊎ (end ≤ k)

-- the blocks outside stay, but for those that port 1 had written and not covered
abbrev pub KeepsOutside : ℕ → ℕ → (ℕ → BlockState) → (ℕ → BlockState) → Type 0
KeepsOutside first end old new = (k : ℕ) → IsOutside first end k → (old k).writer ≢ Some 1 → new k ≡ old k

-- each block of the stretch was written: block k with the text of k
pub record Fills (first end : ℕ) (text : ℕ → List ℕ) (old new : ℕ → BlockState) : Type 0 where
  pub within : (k : ℕ) → first ≤ k → k < end → (new k).current ≡ Some (text k)
  pub contents : (k : ℕ) → IsOutside first end k → (new k).current ≡ (old k).current
  pub outside : KeepsOutside first end old new
  pub free : IsFreeForOne new

-- port 1 stopped while the stretch was written
pub record CutsFill (first end : ℕ) (old new : ℕ → BlockState) : Type 0 where
  pub outside : KeepsOutside first end old new
  pub quiet : IsAllCovered new

-- each block of the stretch was written and covered, on a device that had no uncovered write
pub record Lays (first end : ℕ) (text : ℕ → List ℕ) (old new : ℕ → BlockState) : Type 0 where
  pub within : (k : ℕ) → first ≤ k → k < end → Holds new k (Some (text k))
  pub outside : (k : ℕ) → IsOutside first end k → new k ≡ old k
  pub quiet : IsAllCovered new
