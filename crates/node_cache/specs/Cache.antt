-- The cache of a node, as its user sees it.
use Rattle.std.specs.Prelude.{◌≡◌, ◌≢◌, ◌↔◌, ◌⊎◌, ◌==◌, ◌<◌, ◌≤◌, ◌*◌, ⊤, ℕ, Bool, List, Option, Some, None, All, Any, AllPairs, IsTrue, is_some, option_and_then, length, map, if◌then◌else◌}
use Rattle.std.specs.List.{find, position}
use Rattle.sd_base.specs.Disk.{BlockState, MayHold, IsPort}
use Rattle.sd_base.specs.Shape.{IsShape, page_count}
use Rattle.sd_base.specs.declared.device.NodeId.{NodeId}
use Rattle.sd_base.specs.declared.names.PageNo.{PageNo}
use Rattle.sd_base.specs.declared.page_op.PageOp.{PageOp}
use Rattle.sd_base.specs.declared.shape.Shape.{Shape}
use Rattle.frame_pool.specs.Frames.{IsOut}
use Rattle.space_map.specs.declared.map_entry.MapEntry.{MapEntry}
use Rattle.private_log.specs.Log.{LogState}
use Rattle.page_owner.specs.declared.owners.Own.{Own}
use Rattle.page_owner.specs.declared.owners.Own.TheVariants.{Out}
use Rattle.page_owner.specs.Owners.{Grant, owner_of}
use Rattle.state_ids.specs.PageImage.{PageImage, page_of, ident_of, is_map, is_map_op, in_life}
use Rattle.state_ids.specs.Held.{Shows}
use Rattle.state_ids.specs.Blocks.{HoldsPage, ShowsPage, page_place}

-- The log records of a page that its block hasn't: the number of the first one, and of the last one.
pub record Changes : Type 0 where
  pub first : ℕ
  pub last : ℕ

-- A cached page: its ticket, the frame that holds it, the map entry with which it came in, and its changes since its
-- block was last written, if it has any.
pub record CachedPage : Type 0 where
  pub ticket : Grant
  pub frame : ℕ
  pub entry : Option MapEntry
  pub changes : Option Changes

-- A cache: the log of its node, and its pages in the order in which they came in.
pub record CacheState : Type 0 where
  pub log : LogState
  pub node : NodeId
  pub pages : List CachedPage

-- the page with one more change, whose record has this number
abbrev pub with_change : ℕ → Option Changes → Option Changes
with_change number None = Some (record { first = number; last = number })
with_change number (Some c) = Some (record { first = c.first; last = number })

abbrev pub changed_by : ℕ → CachedPage → CachedPage
changed_by number p = record { ticket = p.ticket; frame = p.frame; entry = p.entry; changes = with_change number p.changes }

-- the page after its block was written
abbrev pub written_back : CachedPage → CachedPage
written_back p = record { ticket = p.ticket; frame = p.frame; entry = p.entry; changes = None }

-- the pages are the same, but for their changes
abbrev pub SamePages : List CachedPage → List CachedPage → Type 0
SamePages old new = map written_back new ≡ map written_back old

-- the number of the first record that the page's block hasn't
abbrev pub first_change : CachedPage → Option ℕ
first_change p = first_of p.changes
  where
    first_of : Option Changes → Option ℕ
    first_of None = None
    first_of (Some c) = Some c.first

-- the log records of these changes are stable, where the log is stable below this number
abbrev pub IsStableTo : ℕ → Option Changes → Type 0
IsStableTo stable None = ⊤
IsStableTo stable (Some c) = c.last < stable

-- whether this is the page x
abbrev pub is_page : PageNo → CachedPage → Bool
is_page x p = p.ticket.page.0 == x.0

-- the cached page x, if it is cached
abbrev pub page_at : PageNo → List CachedPage → Option CachedPage
page_at x pages = find (is_page x) pages

-- its place in the order in which the pages came in
abbrev pub place_of : PageNo → List CachedPage → Option ℕ
place_of x pages = position (is_page x) pages

-- the pages with something done to the page x
abbrev pub with_page : PageNo → (CachedPage → CachedPage) → List CachedPage → List CachedPage
with_page x f pages = map (λ p. if is_page x p then f p else p) pages

-- whether a page has changes that its block hasn't
abbrev pub has_changes : CachedPage → Bool
has_changes p = is_some p.changes

-- whether the page x is cached, and whether it has changes that its block hasn't
abbrev pub is_cached : PageNo → CacheState → Bool
is_cached x c = is_some (page_at x c.pages)

abbrev pub is_changed : PageNo → CacheState → Bool
is_changed x c = is_some (option_and_then first_change (page_at x c.pages))

-- this is the least number of a record that a page's block hasn't
pub record IsLeastChange (pages : List CachedPage) (number : ℕ) : Type 0 where
  pub some : Any (λ p. first_change p ≡ Some number) pages
  pub least : All (λ p. (other : ℕ) → first_change p ≡ Some other → number ≤ other) pages

-- What each cache is: its node has a port, and it has at most 16 pages, each with a ticket of the node, each page once
-- and each frame once.
pub record IsCache (node : NodeId) (pages : List CachedPage) : Type 0 where
  pub port : IsPort node.0
  pub few : length pages ≤ 16
  pub own : All (λ p. p.ticket.node ≡ node) pages
  pub once : AllPairs (λ p q. p.ticket.page ≢ q.ticket.page) pages
  pub apart : AllPairs (λ p q. p.frame ≢ q.frame) pages

-- a change fits a cached page x: the page has this identifier, and is of the kind that the change is for
pub record FitsCached (pool : List (Option (List ℕ))) (pages : List CachedPage) (x : PageNo) (before : ℕ) (op : PageOp) : Type 0 where
  pub page : CachedPage
  pub there : page_at x pages ≡ Some page
  pub image : PageImage
  pub shows : Shows pool page.frame image
  pub number : page_of image ≡ x
  pub ident : ident_of image ≡ before
  pub kind : is_map image ≡ is_map_op op

-- the frames of the pages are out in this pool
abbrev pub AreOut : List (Option (List ℕ)) → CacheState → Type 0
AreOut pool c = All (λ p. IsOut pool p.frame) c.pages

-- the pages are those that are out at the node in this table
abbrev pub AreOwned : List Own → CacheState → Type 0
AreOwned owners c = (x : PageNo) → (owner_of owners x.0 ≡ Out c.node) ↔ IsTrue (is_cached x c)

-- the records of these changes stand in the log
abbrev pub IsInLog : LogState → Option Changes → Type 0
IsInLog log None = ⊤
IsInLog log (Some c) = (6 * log.start ≤ c.first) × (c.first ≤ c.last) × (c.last < log.tail)

-- The tie of a cache to its log: it is the node's, and the records of the changes stand in it.
pub record IsTiedToLog (c : CacheState) : Type 0 where
  pub node : c.log.node ≡ c.node
  pub changes : All (λ p. IsInLog c.log p.changes) c.pages

-- the cache is of a store of this shape: its log is, and its node and its pages are among those of the store
pub record IsOfStore (s : Shape) (c : CacheState) : Type 0 where
  pub valid : IsShape s
  pub shape : c.log.shape ≡ s
  pub node : (1 ≤ c.node.0) × (c.node.0 ≤ s.nodes)
  pub pages : All (λ p. p.ticket.page.0 < page_count s) c.pages

-- each frame shows its page
abbrev pub AreShown : Shape → List (Option (List ℕ)) → CacheState → Type 0
AreShown s pool c = All (λ p. ShowsPage s p.ticket.page pool p.frame) c.pages

-- what the frame shows is of the life that the entry says with which the page came in
abbrev pub IsInLife : List (Option (List ℕ)) → CachedPage → Type 0
IsInLife pool p = (image : PageImage) → Shows pool p.frame image → page_of image ≡ p.ticket.page → in_life p.entry image ≡ image

-- whatever a stop leaves of the page's block, it is what the page stands for under the entry with which it came in, or it
-- is lost
abbrev pub StandsFor : Shape → List (Option (List ℕ)) → CachedPage → (ℕ → BlockState) → Type 0
StandsFor s pool p b = (o : Option (List ℕ)) → MayHold b (page_place s p.ticket.page) o
    → (o ≡ None) ⊎ ((image : PageImage) × HoldsPage s p.ticket.page image o × Shows pool p.frame (in_life p.entry image))

-- The tie of a cache to the device: each page is shown in its life, and each page that has no changes is what its block
-- stands for.
pub record IsTiedToDisk (s : Shape) (pool : List (Option (List ℕ))) (c : CacheState) (b : ℕ → BlockState) : Type 0 where
  pub shown : AreShown s pool c
  pub life : All (IsInLife pool) c.pages
  pub clean : All (λ p. p.changes ≡ None → StandsFor s pool p b) c.pages
