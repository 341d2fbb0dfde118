-- A device that was made.
use Rattle.std.specs.Prelude.{◌≡◌, ◌<◌, ℕ, false, [], ◌∷◌, Some, None, replicate, nat_lt}
use Rattle.sd_base.specs.Disk.{DiskState}

-- a device of zero blocks that no port uses
pub record IsBlank (blocks : ℕ) (s : DiskState) : Type 0 where
  pub size : s.size ≡ blocks
  pub reach : (k : ℕ) → s.reach k ≡ nat_lt k blocks
  pub block : (k : ℕ) → k < blocks → s.block k ≡ record { current = Some (replicate 4096 0); outcomes = Some (replicate 4096 0) ∷ []; writer = None }
  pub writer : (k : ℕ) → (s.block k).writer ≡ None
  pub live : (n : ℕ) → s.live n ≡ false
  pub faults : (n : ℕ) → s.faults n ≡ 0
  pub cuts : (n : ℕ) → s.cuts n ≡ 0
  pub orders : s.orders ≡ 0
