-- What the trials of a log need of its device.
use Rattle.std.specs.Prelude.{◌≡◌, ℕ, Bool, true, IsTrue}
use Rattle.sd_base.specs.Disk.{DiskState, IsFreeFor}
use Rattle.private_log.specs.Frames.{IsInReach}
use Rattle.private_log.specs.Log.{LogState, region}

-- no other port than 1 has an uncovered write
abbrev pub IsFreeForOne : Bool → DiskState → Type 0
IsFreeForOne told d = IsTrue told → (k : ℕ) → IsFreeFor 1 (d.block k)

-- port 1 of the device may be used on the log
pub record IsReady (l : LogState) (d : DiskState) : Type 0 where
  pub live : d.live 1 ≡ true
  pub reach : IsInReach (region l) d.reach
