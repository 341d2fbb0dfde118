-- What the calls that read a log say of its blocks.
use Rattle.std.specs.Prelude.{◌≡◌, ◌≢◌, ◌⊎◌, ◌+◌, ◌*◌, ◌≤◌, ◌<◌, ℕ, ⊤, false, List, Option, Some, None, length}
use Rattle.sd_base.specs.Disk.{BlockState}
use Rattle.sd_base.specs.Anchors.{anchor_text, IsAnchorNumber}
use Rattle.sd_base.specs.declared.fault.DevFault.{DevFault}
use Rattle.sd_base.specs.declared.fault.DevFault.TheVariants.{Stopped, Failed, Lost, Damaged}
use Rattle.private_log.specs.LogBlock.{log_block, FitsBlock, six}
use Rattle.private_log.specs.Content.{Region, place, IsLegal, LogContent}

-- what each block of a device holds now
abbrev pub contents : (ℕ → BlockState) → ℕ → Option (List ℕ)
contents b k = (b k).current

-- a block of the region
abbrev pub IsInRegion : Region → ℕ → Type 0
IsInRegion g at = (g.anchor ≤ at) × (at ≤ g.anchor + g.ring)

-- why a call that reads a log gives up: its port stopped or failed, or a block of the region is lost or damaged
abbrev pub IsLogFault : Region → ℕ → DevFault → Type 0
IsLogFault g port (Stopped n) = n.0 ≡ port
IsLogFault g port (Failed n) = n.0 ≡ port
IsLogFault g port (Lost at) = IsInRegion g at.0
IsLogFault g port (Damaged at) = IsInRegion g at.0

-- what isn't the anchor of this node
abbrev pub IsNoAnchor : Region → Option (List ℕ) → Type 0
IsNoAnchor g content = (number : ℕ) → IsAnchorNumber number → content ≢ Some (anchor_text false g.node number)

-- a block of the region with a content that may not stand at its place
abbrev pub IsBroken : Region → (ℕ → Option (List ℕ)) → ℕ → Type 0
IsBroken g image at = ((at ≡ g.anchor) × IsNoAnchor g (image at)) ⊎ ((number : ℕ) × (at ≡ place g number) × ¬ (IsLegal g number (image at)))

-- a block that is said to be lost is, and one that is said to be damaged may not stand at its place
abbrev pub IsTold : Region → (ℕ → Option (List ℕ)) → DevFault → Type 0
IsTold g image (Stopped n) = ⊤
IsTold g image (Failed n) = ⊤
IsTold g image (Lost at) = image at.0 ≡ None
IsTold g image (Damaged at) = IsBroken g image at.0

-- what isn't the log block of this node with this number, or has no such record
abbrev pub HasNoRecord : Region → ℕ → ℕ → Option (List ℕ) → Type 0
HasNoRecord g number i content = (records : List (List ℕ)) → FitsBlock number records → i < length records → content ≢ Some (log_block g.node number records)

-- the same of the block of one record
abbrev pub IsToldOf : Region → ℕ → ℕ → (ℕ → Option (List ℕ)) → DevFault → Type 0
IsToldOf g number i image (Stopped n) = ⊤
IsToldOf g number i image (Failed n) = ⊤
IsToldOf g number i image (Lost at) = (at.0 ≡ place g number) × (image at.0 ≡ None)
IsToldOf g number i image (Damaged at) = (at.0 ≡ place g number) × HasNoRecord g number i (image at.0)

-- The log that stands in an image, read: its records, the number of the next one, and the last block as far as it is
-- filled.
pub record ReadsLog (g : Region) (image : ℕ → Option (List ℕ)) (start tail : ℕ) (block : List ℕ) : Type 0 where
  pub records : List (List ℕ)
  pub content : LogContent g image start records
  pub tail_is : tail ≡ 6 * start + length records
  pub last : (k : ℕ) → 6 * k < length records → length records < 6 * k + 6 → block ≡ log_block g.node (start + k) (six k records)
