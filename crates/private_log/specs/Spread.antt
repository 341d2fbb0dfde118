-- What a stop may leave of the log of a node.
use Rattle.std.specs.Prelude.{◌≡◌, ◌+◌, ◌*◌, ◌/◌, ◌≤◌, ◌<◌, ◌^◌, ℕ, false, List, Option, Some, None, length, take}
use Rattle.sd_base.specs.Disk.{BlockState, MayHold, Holds, IsFreeFor}
use Rattle.sd_base.specs.Anchors.{anchor_text, IsAnchorNumber}
use Rattle.private_log.specs.LogBlock.{log_block, AreRecords, six}
use Rattle.private_log.specs.Content.{Region, place, IsStale}

-- what the block k of a log with these records holds: its six of them, or something stale behind the end
pub record ShowsBlock (g : Region) (start : ℕ) (xs : List (List ℕ)) (k : ℕ) (content : Option (List ℕ)) : Type 0 where
  pub there : 6 * k < length xs → content ≡ Some (log_block g.node (start + k) (six k xs))
  pub stale : length xs ≤ 6 * k → IsStale g start (start + k) content

-- the same of a front of the records, with at least the first `sure` of them
pub record ShowsCut (g : Region) (start sure : ℕ) (xs : List (List ℕ)) (k : ℕ) (content : Option (List ℕ)) : Type 0 where
  pub count : ℕ
  pub low : sure ≤ count
  pub high : count ≤ length xs
  pub shows : ShowsBlock g start (take count xs) k content

-- records that a log with this start may have
pub record FitsLog (g : Region) (start : ℕ) (xs : List (List ℕ)) : Type 0 where
  pub number : IsAnchorNumber start
  pub texts : AreRecords xs
  pub room : length xs ≤ 6 * g.ring
  pub last : 6 * start + length xs ≤ 6 * 2 ^ 56

-- whatever a stop leaves of a block of the ring shows a front
abbrev pub AreCuts : Region → ℕ → ℕ → (ℕ → BlockState) → List (List ℕ) → Type 0
AreCuts g start sure b xs = (k : ℕ) → k < g.ring → (o : Option (List ℕ)) → MayHold b (place g (start + k)) o → ShowsCut g start sure xs k o

-- The ring of a log holds these records, of which a stop leaves at least the first `sure`. Only the block behind those
-- isn't sure.
pub record IsRing (g : Region) (start sure : ℕ) (b : ℕ → BlockState) (xs : List (List ℕ)) : Type 0 where
  pub fits : FitsLog g start xs
  pub low : sure ≤ length xs
  pub near : length xs ≤ 6 * (sure / 6) + 6
  pub blocks : AreCuts g start sure b xs
  pub current : (k : ℕ) → k < g.ring → ShowsBlock g start xs k (b (place g (start + k))).current

-- The same of the log of a node, whose start its anchor has.
pub record IsSpread (g : Region) (start sure : ℕ) (b : ℕ → BlockState) (xs : List (List ℕ)) : Type 0 where
  pub anchor : Holds b g.anchor (Some (anchor_text false g.node start))
  pub ring : IsRing g start sure b xs

-- the device holds a front of these records, with all those whose number is below `stable`, whatever a stop leaves
pub record IsCutLog (g : Region) (start stable : ℕ) (b : ℕ → BlockState) (xs : List (List ℕ)) : Type 0 where
  pub count : ℕ
  pub low : stable ≤ 6 * start + count
  pub high : count ≤ length xs
  pub log : IsSpread g start count b (take count xs)

-- no other port than n has an uncovered write to the region
abbrev pub IsFreeRegion : Region → ℕ → (ℕ → BlockState) → Type 0
IsFreeRegion g n b = (i : ℕ) → i ≤ g.ring → IsFreeFor n (b (g.anchor + i))

-- no block of the region has an uncovered write
abbrev pub IsStill : Region → (ℕ → BlockState) → Type 0
IsStill g b = (i : ℕ) → i ≤ g.ring → (b (g.anchor + i)).writer ≡ None

-- no block of the region has a new outcome
abbrev pub NarrowsRegion : Region → (ℕ → BlockState) → (ℕ → BlockState) → Type 0
NarrowsRegion g old new = (i : ℕ) (o : Option (List ℕ)) → i ≤ g.ring → MayHold new (g.anchor + i) o → MayHold old (g.anchor + i) o

-- each block of the region has the content that it had
abbrev pub KeepsRegion : Region → (ℕ → BlockState) → (ℕ → BlockState) → Type 0
KeepsRegion g old new = (i : ℕ) → i ≤ g.ring → (new (g.anchor + i)).current ≡ (old (g.anchor + i)).current
