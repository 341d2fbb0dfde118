-- The frames of a redo, and which pages are in them.
use Rattle.std.specs.Prelude.{◌≡◌, ◌≢◌, ◌≤◌, ◌<◌, ℕ, Bool, true, false, ◌==◌, ◌||◌, List, Option, Some, None, IsSome, length, slice_index_or, unwrap_or}
use Rattle.sd_base.specs.Disk.{BlockState}
use Rattle.sd_base.specs.Shape.{page_count}
use Rattle.sd_base.specs.declared.names.PageNo.{PageNo}
use Rattle.sd_base.specs.declared.shape.Shape.{Shape}
use Rattle.frame_pool.specs.Frames.{IsOut, frame_at}
use Rattle.state_ids.specs.PageImage.{PageImage, page_of}
use Rattle.state_ids.specs.Held.{Shows}
use Rattle.state_ids.specs.Blocks.{HoldsPage, IsOfKind, ShowsPage, page_place}
use Rattle.one_log_redo.specs.declared.copies.Copied.{Copied}

-- the frame at a place
abbrev pub frame_of : List (Option ℕ) → ℕ → ℕ
frame_of frames k = unwrap_or (slice_index_or frames k None) 0

-- the page at a place
abbrev pub copy_at : List (Option Copied) → ℕ → Option Copied
copy_at copies k = slice_index_or copies k None

-- the page is at this place
abbrev pub is_of : PageNo → Option Copied → Bool
is_of x None = false
is_of x (Some c) = c.page.0 == x.0

-- none of the first `count` places has this frame
abbrev pub IsElsewhere : List (Option ℕ) → ℕ → ℕ → Type 0
IsElsewhere frames count f = (k : ℕ) → k < count → f ≢ frame_of frames k

-- The first `count` places have frames that are out, each another one, and the other places have none.
pub record AreLent (pool : List (Option (List ℕ))) (frames : List (Option ℕ)) (count : ℕ) : Type 0 where
  pub few : count ≤ 16
  pub some : (k : ℕ) → k < count → IsSome (slice_index_or frames k None)
  pub none : (k : ℕ) → count ≤ k → slice_index_or frames k None ≡ None
  pub out : (k : ℕ) → k < count → IsOut pool (frame_of frames k)
  pub apart : (j k : ℕ) → j < count → k < count → frame_of frames j ≡ frame_of frames k → j ≡ k

-- nothing of the pool has changed but what these frames hold
pub record KeepsOthers (frames : List (Option ℕ)) (count : ℕ) (old new : List (Option (List ℕ))) : Type 0 where
  pub size : length new ≡ length old
  pub others : (f : ℕ) → IsElsewhere frames count f → frame_at new f ≡ frame_at old f

-- these frames, which were free, have come out of the pool, and nothing else of it has changed
pub record TakesFrames (frames : List (Option ℕ)) (count : ℕ) (old new : List (Option (List ℕ))) : Type 0 where
  pub kept : KeepsOthers frames count old new
  pub free : (k : ℕ) → k < count → frame_at old (frame_of frames k) ≡ None

-- Each place that has a page has a frame that holds it, and no page is at two places.
pub record AreCopies (s : Shape) (pool : List (Option (List ℕ))) (frames : List (Option ℕ)) (count : ℕ) (copies : List (Option Copied)) : Type 0 where
  pub within : (k : ℕ) (c : Copied) → copy_at copies k ≡ Some c → k < count
  pub pages : (k : ℕ) (c : Copied) → copy_at copies k ≡ Some c → c.page.0 < page_count s
  pub shows : (k : ℕ) (c : Copied) → copy_at copies k ≡ Some c → ShowsPage s c.page pool (frame_of frames k)
  pub once : (j k : ℕ) (c d : Copied) → copy_at copies j ≡ Some c → copy_at copies k ≡ Some d → c.page ≡ d.page → j ≡ k

-- the copy with changes, if they were made
abbrev pub noted : Bool → Copied → Copied
noted made c = record c { changed = c.changed || made }

-- the page is at no place
abbrev pub IsNowhere : PageNo → List (Option Copied) → Type 0
IsNowhere x copies = (k : ℕ) (c : Copied) → copy_at copies k ≡ Some c → c.page ≢ x

-- the page is at this place
abbrev pub IsAt : PageNo → ℕ → List (Option Copied) → Type 0
IsAt x k copies = (c : Copied) × (copy_at copies k ≡ Some c) × (c.page ≡ x)

-- each of the first `count` places has a page
abbrev pub IsFilled : ℕ → List (Option Copied) → Type 0
IsFilled count copies = (k : ℕ) → k < count → IsSome (copy_at copies k)

-- of the first n places the one with the page that came first, other than the page `keep`, or that they have no other page
abbrev pub ComesFirst : List (Option Copied) → PageNo → ℕ → Option ℕ → Type 0
ComesFirst copies keep n None = (k : ℕ) (d : Copied) → k < n → copy_at copies k ≡ Some d → d.page ≡ keep
ComesFirst copies keep n (Some j) = (c : Copied) × (copy_at copies j ≡ Some c) × (c.page ≢ keep) × ((k : ℕ) (d : Copied) → k < n → copy_at copies k ≡ Some d → d.page ≢ keep → c.since ≤ d.since)

-- the page has no changes that its block hasn't
abbrev pub IsUnchanged : PageNo → List (Option Copied) → Type 0
IsUnchanged x copies = (k : ℕ) (c : Copied) → copy_at copies k ≡ Some c → c.page ≡ x → c.changed ≡ false

-- this frame holds this image of the page x
pub record ShowsAs (s : Shape) (x : PageNo) (pool : List (Option (List ℕ))) (frame : ℕ) (image : PageImage) : Type 0 where
  pub shows : Shows pool frame image
  pub page : page_of image ≡ x
  pub kind : IsOfKind s image

-- These are the images of the pages: that of a page in a frame is in the frame, and that of each page without changes in its
-- block, if the block holds the page.
pub record HaveImages (s : Shape) (pool : List (Option (List ℕ))) (frames : List (Option ℕ)) (copies : List (Option Copied)) (b : ℕ → BlockState) (images : ℕ → PageImage) : Type 0 where
  pub shown : (k : ℕ) (c : Copied) → copy_at copies k ≡ Some c → ShowsAs s c.page pool (frame_of frames k) (images c.page.0)
  pub stored : (x : PageNo) (i : PageImage) → x.0 < page_count s → IsUnchanged x copies → HoldsPage s x i (b (page_place s x)).current → images x.0 ≡ i
