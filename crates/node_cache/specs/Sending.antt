-- How the changed pages of a cache are written together: in rising order of their numbers, and covered by one barrier.
use Rattle.std.specs.Prelude.{◌≡◌, ◌≢◌, ◌⊎◌, ◌<◌, ◌≤◌, ℕ, List, Option, Some, None, All, Any}
use Rattle.std.specs.List.{slice_get}
use Rattle.sd_base.specs.Disk.{BlockState}
use Rattle.sd_base.specs.declared.shape.Shape.{Shape}
use Rattle.frame_pool.specs.Frames.{frame_at}
use Rattle.state_ids.specs.Batch.{sent_at}
use Rattle.state_ids.specs.Blocks.{page_place}
use Rattle.state_ids.specs.declared.held.WrittenPage.{WrittenPage}
use Rattle.node_cache.specs.Cache.{CachedPage, Changes}
use Rattle.node_cache.specs.Places.{between}
use Rattle.node_cache.specs.Writes.{IsBlockOf}

-- the page as it is sent: with all its changes
abbrev pub sent_as : CachedPage → Changes → WrittenPage
sent_as p c = record { page = p.ticket.page; node = p.ticket.node; last = c.last }

-- the page was sent as it is, if it has changes
abbrev pub IsSent : List WrittenPage → CachedPage → Type 0
IsSent sent p = (c : Changes) → p.changes ≡ Some c → sent_at p.ticket.page sent ≡ Some (sent_as p c)

-- each page that was sent has a greater number than those before it
abbrev pub Rises : WrittenPage → WrittenPage → Type 0
Rises v w = v.page.0 < w.page.0

-- the page has changes, and its number is this one or a greater one
abbrev pub Waits : ℕ → CachedPage → Type 0
Waits least p = (p.changes ≢ None) × (least ≤ p.ticket.page.0)

-- of the pages that wait the one with the least number
pub record IsNext (least : ℕ) (pages : List CachedPage) (p : CachedPage) : Type 0 where
  pub waits : Waits least p
  pub first : All (λ q. Waits least q → p.ticket.page.0 ≤ q.ticket.page.0) pages

-- where it stands from one place to another, or that none waits there
abbrev pub IsNextPlace : ℕ → ℕ → ℕ → List CachedPage → Option ℕ → Type 0
IsNextPlace least from to pages None = All (λ p. ¬ (Waits least p)) (between from to pages)
IsNextPlace least from to pages (Some i) = (from ≤ i) × (i < to) × ((p : CachedPage) → slice_get pages i ≡ Some p → IsNext least (between from to pages) p)

-- no block has a new writer, but for the port at the blocks of changed pages
abbrev pub NoNewWriterButPages : Shape → List CachedPage → ℕ → (ℕ → BlockState) → (ℕ → BlockState) → Type 0
NoNewWriterButPages s pages n old new = (k : ℕ) → ((new k).writer ≡ (old k).writer) ⊎ ((new k).writer ≡ None) ⊎ (Any (IsBlockOf s k) pages × ((new k).writer ≡ Some n))

-- the block of the page holds now what its frame does
abbrev pub IsPlaced : Shape → List (Option (List ℕ)) → (ℕ → BlockState) → CachedPage → Type 0
IsPlaced s pool b p = (b (page_place s p.ticket.page)).current ≡ frame_at pool p.frame
