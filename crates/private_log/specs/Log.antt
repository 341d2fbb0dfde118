-- The log of a node, as its user sees it.
use Rattle.std.specs.Prelude.{◌≡◌, ◌⊎◌, ◌+◌, ◌-◌, ◌*◌, ◌/◌, ◌≤◌, ◌<◌, ◌^◌, ℕ, List, min, max, length, take}
use Rattle.sd_base.specs.Disk.{BlockState}
use Rattle.sd_base.specs.Anchors.{IsAnchorNumber}
use Rattle.sd_base.specs.Shape.{IsShape}
use Rattle.sd_base.specs.declared.shape.Shape.{Shape}
use Rattle.sd_base.specs.declared.device.NodeId.{NodeId}
use Rattle.private_log.specs.LogBlock.{log_block, six}
use Rattle.private_log.specs.Content.{Region, region_of, place}
use Rattle.private_log.specs.Spread.{FitsLog, IsSpread}

-- A log: whose it is, the block number that it starts with, the number of the next record, and the number below which
-- all records are stable.
pub record LogState : Type 0 where
  pub shape : Shape
  pub node : NodeId
  pub start : ℕ
  pub tail : ℕ
  pub stable : ℕ
  -- the block in which the next record goes, as far as it is filled
  pub block : List ℕ

-- the region of a log
abbrev pub region : LogState → Region
region l = region_of l.shape l.node.0

-- the block in which the last record of a log stands
abbrev pub tail_place : LogState → ℕ
tail_place l = place (region l) ((l.tail - 1) / 6)

-- the block into which the next record goes
abbrev pub next_place : LogState → ℕ
next_place l = place (region l) (l.tail / 6)

-- how many records there are
abbrev pub used : LogState → ℕ
used l = l.tail - 6 * l.start

-- how many more there is room for
abbrev pub space : LogState → ℕ
space l = min (6 * l.shape.ring - used l) (6 * 2 ^ 56 - l.tail)

-- the records below this number are written: those that are stable, and each block that is full
abbrev pub written : LogState → ℕ
written l = max l.stable (6 * (l.tail / 6))

-- what the numbers of each log are
pub record IsLog (l : LogState) : Type 0 where
  pub shape : IsShape l.shape
  pub node : (1 ≤ l.node.0) × (l.node.0 ≤ l.shape.nodes)
  pub start : IsAnchorNumber l.start
  pub low : 6 * l.start ≤ l.stable
  pub stable : l.stable ≤ l.tail
  pub room : l.tail ≤ 6 * l.start + 6 * l.shape.ring
  pub last : l.tail ≤ 6 * 2 ^ 56
  pub block : length l.block ≡ 4096

-- a log is still that of its node, with its start
pub record SameLog (old new : LogState) : Type 0 where
  pub shape : new.shape ≡ old.shape
  pub node : new.node ≡ old.node
  pub start : new.start ≡ old.start

-- all records of the log are written
pub record IsWritten (l : LogState) (b : ℕ → BlockState) (xs : List (List ℕ)) : Type 0 where
  pub sure : ℕ
  pub tail : l.tail ≡ 6 * l.start + length xs
  pub stable : l.stable ≡ 6 * l.start + sure
  pub spread : IsSpread (region l) l.start sure b xs

-- the last block of the log is in memory, and each one before it is written
pub record IsLoaded (l : LogState) (b : ℕ → BlockState) (xs : List (List ℕ)) : Type 0 where
  pub sure : ℕ
  -- the last block, and how many records are written
  pub last : ℕ
  pub count : ℕ
  pub some : 6 * last < length xs
  pub most : length xs ≤ 6 * last + 6
  pub tail : l.tail ≡ 6 * l.start + length xs
  pub stable : l.stable ≡ 6 * l.start + sure
  pub fits : FitsLog (region l) l.start xs
  pub block : l.block ≡ log_block l.node.0 (l.start + last) (six last xs)
  pub count_is : count ≡ max sure (6 * last)
  pub spread : IsSpread (region l) l.start sure b (take count xs)

-- The log has these records, and the device is as it left it: whatever a stop leaves of the region, it is a front of
-- them with all that are stable. The records of a block that isn't full may be in memory alone.
abbrev pub IsLogOn : LogState → (ℕ → BlockState) → List (List ℕ) → Type 0
IsLogOn l b xs = ((k : ℕ) × (length xs ≡ 6 * k) × IsWritten l b xs) ⊎ ((h : IsLoaded l b xs) × (length xs < 6 * h.last + 6))
