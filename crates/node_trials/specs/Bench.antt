-- What a caller of a cache carries from one call to the next.
use Rattle.std.specs.Prelude.{◌≡◌, ◌+◌, ◌≤◌, ◌<◌, ℕ, Bool, true, false, IsTrue, List, Option, Some, None, length}
use Rattle.sd_base.specs.Disk.{DiskState, IsFreeFor}
use Rattle.sd_base.specs.Shape.{disk_need, page_count}
use Rattle.sd_base.specs.declared.shape.Shape.{Shape}
use Rattle.sd_base.specs.declared.names.PageNo.{PageNo}
use Rattle.frame_pool.specs.Frames.{frame_at, free_count}
use Rattle.page_owner.specs.declared.owners.Own.{Own}
use Rattle.state_ids.specs.PageImage.{PageImage, page_of}
use Rattle.state_ids.specs.Held.{Shows}
use Rattle.state_ids.specs.Blocks.{IsOfKind}
use Rattle.node_cache.specs.Cache.{CachedPage, CacheState, AreOut, AreOwned, AreShown, IsOfStore, IsTiedToLog, page_at}

-- each block of the store may be named
abbrev pub IsWhole : Shape → DiskState → Type 0
IsWhole s d = (k : ℕ) → k < disk_need s → d.reach k ≡ true

-- Port n may be used on the whole store, and no block has an uncovered write.
pub record IsReadyDevice (s : Shape) (n : ℕ) (told : Bool) (d : DiskState) : Type 0 where
  pub live : d.live n ≡ true
  pub whole : IsWhole s d
  pub quiet : IsTrue told → (k : ℕ) → (d.block k).writer ≡ None

-- All is as the calls of a cache ask: the cache is of the store and of its node alone, it has what the table of owners
-- says, its frames are out and show its pages, and there are enough of them; its port may be used on the whole store,
-- and no other port has an uncovered write.
pub record IsReady (s : Shape) (told : Bool) (d : DiskState) (pool : List (Option (List ℕ))) (owners : List Own) (c : CacheState) : Type 0 where
  pub store : IsOfStore s c
  pub log_tie : IsTiedToLog c
  pub out : AreOut pool c
  pub shown : AreShown s pool c
  pub owned : AreOwned owners c
  pub table : page_count s ≤ length owners
  pub frames : 16 ≤ free_count pool + length c.pages
  pub live : d.live c.node.0 ≡ true
  pub whole : IsWhole s d
  pub free : IsTrue told → (k : ℕ) → IsFreeFor c.node.0 (d.block k)

-- The node's port has stopped: nothing is left to do but to end the cache.
pub record IsBroken (s : Shape) (d : DiskState) (pool : List (Option (List ℕ))) (owners : List Own) (c : CacheState) : Type 0 where
  pub stopped : d.live c.node.0 ≡ false
  pub out : AreOut pool c
  pub owned : AreOwned owners c
  pub table : page_count s ≤ length owners
  pub whole : IsWhole s d

-- This is what the frame of the cached page x holds, which is a page of the kind that its number says.
pub record IsViewed (s : Shape) (pool : List (Option (List ℕ))) (pages : List CachedPage) (x : PageNo) (bytes : List ℕ) : Type 0 where
  pub page : CachedPage
  pub there : page_at x pages ≡ Some page
  pub image : PageImage
  pub shows : Shows pool page.frame image
  pub number : page_of image ≡ x
  pub kind : IsOfKind s image
  pub held : frame_at pool page.frame ≡ Some bytes
