-- How a page comes into a cache: which page makes room for it, and what it brings.
use Rattle.std.specs.Prelude.{◌≡◌, ◌⊎◌, ◌<◌, ◌≤◌, ◌==◌, ◌&&◌, ◌++◌, ℕ, Bool, not, nat_le, nat_lt, List, [], ◌∷◌, Option, Some, None, fold, length, slice_set, if◌then◌else◌}
use Rattle.std.specs.List.{find, position, remove, slice_get}
use Rattle.sd_base.specs.Places.{map_of_data, map_of_page, place_of_page}
use Rattle.sd_base.specs.declared.device.NodeId.{NodeId}
use Rattle.sd_base.specs.declared.names.PageNo.{PageNo}
use Rattle.sd_base.specs.declared.shape.Shape.{Shape}
use Rattle.frame_pool.specs.Frames.{frame_at}
use Rattle.space_map.specs.declared.map_entry.MapEntry.{MapEntry}
use Rattle.space_map.specs.Image.{MapImage}
use Rattle.page_owner.specs.declared.owners.Own.{Own}
use Rattle.page_owner.specs.declared.owners.Own.TheVariants.{Nobody, Parked, Out}
use Rattle.state_ids.specs.PageImage.{map_page}
use Rattle.state_ids.specs.Held.{Shows}
use Rattle.state_ids.specs.Blocks.{ShowsPage}
use Rattle.node_cache.specs.Cache.{CachedPage, CacheState, page_at, place_of}

-- whether x is a data page, and m the map page that has its entry
abbrev pub is_map_of : Shape → PageNo → PageNo → Bool
is_map_of s m x = nat_le s.maps x.0 && m.0 == (map_of_page s x).0

-- The entry of a page: that of a data page stands in its map page, which is cached; a map page has none.
pub record IsEntryOf (s : Shape) (pool : List (Option (List ℕ))) (c : CacheState) (x : PageNo) (e : Option MapEntry) : Type 0 where
  pub none : x.0 < s.maps → e ≡ None
  pub some : s.maps ≤ x.0 → (p : CachedPage) × (m : MapImage) × (page_at (map_of_data s x) c.pages ≡ Some p) × Shows pool p.frame (map_page m) × (e ≡ slice_get m.entries (place_of_page s x))

-- whether a cached page may make room for x: it isn't the map page of x
abbrev pub may_go : Shape → PageNo → CachedPage → Bool
may_go s x p = not (is_map_of s p.ticket.page x)

-- The page that makes room for x, if one has to: of 16 pages the one that came in first and may go.
abbrev pub leaving : Shape → PageNo → List CachedPage → List CachedPage
leaving s x pages = if nat_lt (length pages) 16 then [] else first_of (find (may_go s x) pages)
  where
    first_of : Option CachedPage → List CachedPage
    first_of None = []
    first_of (Some p) = p ∷ []

-- and those that stay
abbrev pub staying : Shape → PageNo → List CachedPage → List CachedPage
staying s x pages = if nat_lt (length pages) 16 then pages else without (position (may_go s x) pages)
  where
    without : Option ℕ → List CachedPage
    without None = pages
    without (Some i) = remove pages i

-- the pages without the page x
abbrev pub without_page : PageNo → List CachedPage → List CachedPage
without_page x pages = without (place_of x pages)
  where
    without : Option ℕ → List CachedPage
    without None = pages
    without (Some i) = remove pages i

-- the frames of these pages are free
abbrev pub freed : List CachedPage → List (Option (List ℕ)) → List (Option (List ℕ))
freed pages pool = fold (λ frames p. slice_set frames p.frame None) pool pages

-- these pages are parked
abbrev pub parked : List CachedPage → List Own → List Own
parked pages owners = fold (λ owns p. slice_set owns p.ticket.page.0 (Parked p.ticket.node)) owners pages

-- whose a page is after a node has given up its pages: what was out at the node is parked there, all else is as it was
abbrev pub given_up : NodeId → Own → Own
given_up n Nobody = Nobody
given_up n (Parked m) = Parked m
given_up n (Out m) = if m.0 == n.0 then Parked m else Out m

-- a node may have the page: it is nobody's, or the node's
abbrev pub IsOpenTo : NodeId → Own → Type 0
IsOpenTo n own = (own ≡ Nobody) ⊎ (own ≡ Parked n) ⊎ (own ≡ Out n)

-- the node has the page
abbrev pub IsHeldBy : NodeId → Own → Type 0
IsHeldBy n own = (own ≡ Parked n) ⊎ (own ≡ Out n)

-- The page x came in behind those that stayed, unchanged, in a frame that was free, and no other frame was written.
pub record Arrived (s : Shape) (x : PageNo) (e : Option MapEntry) (stayed : List CachedPage) (old : List (Option (List ℕ))) (c : CacheState) (new : List (Option (List ℕ))) : Type 0 where
  pub frame : ℕ
  pub last : c.pages ≡ stayed ++ record { ticket = record { page = x; node = c.node }; frame = frame; entry = e; changes = None } ∷ []
  pub free : frame_at old frame ≡ None
  pub others : new ≡ slice_set old frame (frame_at new frame)
  pub shows : ShowsPage s x new frame

-- The page x didn't come in, and is parked: these pages left, and those stayed.
pub record Missed (x : PageNo) (left stayed : List CachedPage) (old : List (Option (List ℕ))) (owners : List Own) (c : CacheState) (new : List (Option (List ℕ))) (owners' : List Own) : Type 0 where
  pub pages : c.pages ≡ stayed
  pub pool : new ≡ freed left old
  pub parks : owners' ≡ parked left (slice_set owners x.0 (Parked c.node))
