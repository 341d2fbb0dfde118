-- What an image of a device holds as the log of a node.
use Rattle.std.specs.Prelude.{◌≡◌, ◌≢◌, ◌⊎◌, ◌+◌, ◌*◌, ◌%◌, ◌≤◌, ◌<◌, ◌^◌, ℕ, false, List, Option, Some, length, take}
use Rattle.sd_base.specs.Text.{zero_block}
use Rattle.sd_base.specs.Anchors.{anchor_text, IsAnchorNumber}
use Rattle.sd_base.specs.Shape.{anchor_place}
use Rattle.sd_base.specs.declared.shape.Shape.{Shape}
use Rattle.private_log.specs.LogBlock.{log_block, AreRecords, FitsBlock, six}

-- Where the log of a node lies: the block of its anchor, and behind it a ring of so many blocks.
pub record Region : Type 0 where
  pub node : ℕ
  pub anchor : ℕ
  pub ring : ℕ

-- the region of a node in a store of this shape
abbrev pub region_of : Shape → ℕ → Region
region_of s n = record { node = n; anchor = anchor_place false s n; ring = s.ring }

-- the block in which the log block of this number stands
abbrev pub place : Region → ℕ → ℕ
place g number = g.anchor + 1 + number % g.ring

-- a log block of this node stands here, whose number shares its place with the number that is given
pub record HoldsBlock (g : Region) (number : ℕ) (content : Option (List ℕ)) : Type 0 where
  pub held : ℕ
  pub records : List (List ℕ)
  pub fits : FitsBlock held records
  pub shares : held % g.ring ≡ number % g.ring
  pub text : content ≡ Some (log_block g.node held records)

-- what may stand at the place of this number: zeros, or a log block whose number shares the place
abbrev pub IsLegal : Region → ℕ → Option (List ℕ) → Type 0
IsLegal g number content = (content ≡ Some zero_block) ⊎ HoldsBlock g number content

-- a log doesn't go on here: zeros, or a log block with another number
abbrev pub Ends : Region → ℕ → Option (List ℕ) → Type 0
Ends g number content = (content ≡ Some zero_block) ⊎ ((h : HoldsBlock g number content) × (h.held ≢ number))

-- so many records of the log block with this number are in these bytes: none where a log doesn't go on
abbrev pub CountsRecords : Region → ℕ → ℕ → List ℕ → Type 0
CountsRecords g number count bytes =
    ((count ≡ 0) × Ends g number (Some bytes))
    ⊎ ((records : List (List ℕ)) × FitsBlock number records × (length records ≡ count) × (bytes ≡ log_block g.node number records))

-- what a log that starts with this block number may have behind its end: zeros, or a block from before its start.
-- A block that is still to come would be read as soon as the log reached it.
abbrev pub IsStale : Region → ℕ → ℕ → Option (List ℕ) → Type 0
IsStale g start number content = (content ≡ Some zero_block) ⊎ ((h : HoldsBlock g number content) × (h.held < start))

-- The log that an image holds: its start is the number in the anchor. The blocks from there on have its records, six to
-- a block, and it ends within the first block that has fewer, before the first one that isn't its next, or after a
-- whole ring.
pub record LogContent (g : Region) (image : ℕ → Option (List ℕ)) (start : ℕ) (xs : List (List ℕ)) : Type 0 where
  pub number : IsAnchorNumber start
  pub anchor : image g.anchor ≡ Some (anchor_text false g.node start)
  pub texts : AreRecords xs
  pub room : length xs ≤ 6 * g.ring
  pub last : 6 * start + length xs ≤ 6 * 2 ^ 56
  pub blocks : (k : ℕ) → 6 * k < length xs → image (place g (start + k)) ≡ Some (log_block g.node (start + k) (six k xs))
  pub ends : (k : ℕ) → k < g.ring → length xs ≡ 6 * k → Ends g (start + k) (image (place g (start + k)))

-- no block of the ring outside the log has a number that is still to come
abbrev pub HasNoFuture : Region → (ℕ → Option (List ℕ)) → ℕ → List (List ℕ) → Type 0
HasNoFuture g image start xs = (k : ℕ) → k < g.ring → length xs ≤ 6 * k → IsStale g start (start + k) (image (place g (start + k)))

-- the image holds a front of these records, with all those whose number is below `stable`, and nothing still to come
pub record HoldsFront (g : Region) (start stable : ℕ) (xs : List (List ℕ)) (image : ℕ → Option (List ℕ)) : Type 0 where
  pub count : ℕ
  pub low : stable ≤ 6 * start + count
  pub high : count ≤ length xs
  pub content : LogContent g image start (take count xs)
  pub clean : HasNoFuture g image start (take count xs)
