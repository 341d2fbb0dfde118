-- What calls that read and write pages alone leave of the blocks of a device.
use Rattle.std.specs.Prelude.{◌≡◌, ◌≢◌, ◌⊎◌, ◌<◌, ℕ, Bool, true, List, Option, Some, None, IsTrue}
use Rattle.sd_base.specs.Disk.{BlockState, DiskState, IsPort, MayHold}
use Rattle.sd_base.specs.Calls.{Keeps}
use Rattle.sd_base.specs.Shape.{IsShape, page_count}
use Rattle.sd_base.specs.declared.names.PageNo.{PageNo}
use Rattle.sd_base.specs.declared.shape.Shape.{Shape}
use Rattle.state_ids.specs.PageImage.{PageImage}
use Rattle.state_ids.specs.Blocks.{HoldsPage, page_place}

-- the block of each page may be named
abbrev pub AreInReach : Shape → (ℕ → Bool) → Type 0
AreInReach s reach = (x : PageNo) → x.0 < page_count s → reach (page_place s x) ≡ true

-- no page's block has an uncovered write
abbrev pub AreStill : Shape → (ℕ → BlockState) → Type 0
AreStill s b = (x : PageNo) → x.0 < page_count s → (b (page_place s x)).writer ≡ None

-- the block of no page of the store
abbrev pub IsBeside : Shape → ℕ → Type 0
IsBeside s k = (x : PageNo) → x.0 < page_count s → k ≢ page_place s x

-- The port was used alone, and on pages: each other block that it had not written stays.
pub record UsesPages (s : Shape) (n : ℕ) (told : Bool) (old new : DiskState) : Type 0 where
  pub keeps : Keeps n old new
  pub beside : IsTrue told → (k : ℕ) → IsBeside s k → (old.block k).writer ≢ Some n → new.block k ≡ old.block k

-- Each other block has the content that it had, and a block that held its page holds it.
pub record KeepsPages (s : Shape) (old new : ℕ → BlockState) : Type 0 where
  pub beside : (k : ℕ) → IsBeside s k → (new k).current ≡ (old k).current
  pub pages : (x : PageNo) (i : PageImage) → x.0 < page_count s → HoldsPage s x i (old (page_place s x)).current → (j : PageImage) × HoldsPage s x j (new (page_place s x)).current

-- no block has a new outcome, but that of a page the page's image
abbrev pub NarrowsToImages : Shape → (ℕ → PageImage) → (ℕ → BlockState) → (ℕ → BlockState) → Type 0
NarrowsToImages s images old new =
    (k : ℕ) (o : Option (List ℕ)) → MayHold new k o → MayHold old k o ⊎ ((x : PageNo) × (x.0 < page_count s) × (k ≡ page_place s x) × HoldsPage s x (images x.0) o)

-- Pages can be read and written through the port, which has no uncovered write to one.
pub record IsReady (told : Bool) (s : Shape) (n : ℕ) (d : DiskState) : Type 0 where
  pub shape : IsShape s
  pub port : IsPort n
  pub live : d.live n ≡ true
  pub reach : AreInReach s d.reach
  pub still : IsTrue told → AreStill s d.block
