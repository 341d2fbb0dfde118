-- Which blocks of the devices a call of a node leaves as they are.
use Rattle.std.specs.Prelude.{◌≡◌, ◌≢◌, ◌⊎◌, ◌+◌, ◌%◌, ◌≤◌, ◌<◌, ℕ, List, Option, length}
use Rattle.sd_base.specs.Disk.{BlockState, MayHold}
use Rattle.sd_base.specs.Places.{map_of_data}
use Rattle.sd_base.specs.Shape.{page_count}
use Rattle.sd_base.specs.declared.device.NodeId.{NodeId}
use Rattle.sd_base.specs.declared.names.PageNo.{PageNo}
use Rattle.sd_base.specs.declared.shape.Shape.{Shape}
use Rattle.page_owner.specs.Owners.{owner_of}
use Rattle.private_log.specs.Content.{place, region_of}
use Rattle.state_ids.specs.Blocks.{page_place}
use Rattle.node_cache.specs.Room.{IsOpenTo}
use Rattle.store_nodes.specs.declared.store.Store.{Store}
use Rattle.store_nodes.specs.Nodes.{OnUp, node_at}
use Rattle.store_nodes.specs.Pages.{HasCached}
use Rattle.store_nodes.specs.Shows.{holder}

-- each block that isn't one of the ring of node n's log has the content that it had
abbrev pub KeepsAllButLog : ℕ → Shape → (ℕ → BlockState) → (ℕ → BlockState) → Type 0
KeepsAllButLog n s old new = (k : ℕ) → ((number : ℕ) → k ≢ place (region_of s n) number) → (new k).current ≡ (old k).current

-- no block but those of the ring has a new outcome
abbrev pub NarrowsToRing : ℕ → Shape → (ℕ → BlockState) → (ℕ → BlockState) → Type 0
NarrowsToRing n s old new = (k : ℕ) (o : Option (List ℕ)) → ((number : ℕ) → k ≢ place (region_of s n) number) → MayHold new k o → MayHold old k o

-- so many more records fill no block of the node's log: the one into which the next record goes has room for more
abbrev pub FillsNoBlock : Store → ℕ → ℕ → Type 0
FillsNoBlock c n count = OnUp (node_at c.nodes n) (λ d seats. d.log.tail % 6 + count < 6)

-- ---- pages that are written to make room

-- the node's cache has as many pages as it may
abbrev pub IsFull : Store → ℕ → Type 0
IsFull c n = OnUp (node_at c.nodes n) (λ d seats. length d.pages ≡ 16)

-- the block of the page has the content that it had
abbrev pub KeepsPage : Shape → PageNo → (ℕ → BlockState) → (ℕ → BlockState) → Type 0
KeepsPage s y old new = (new (page_place s y)).current ≡ (old (page_place s y)).current

-- The page x was fetched by node n: it came into its cache alone, and a page whose block has changed made room for it.
-- That one isn't the map page of x.
pub record MadeRoom (n : ℕ) (x : PageNo) (c d : Store) (old new : ℕ → BlockState) : Type 0 where
  pub came : (y : PageNo) → HasCached d n y → (y ≡ x) ⊎ HasCached c n y
  pub full : IsFull c n → IsFull d n
  pub room : (y : PageNo) → y.0 < page_count c.shape → KeepsPage c.shape y old new ⊎ (HasCached c n y × IsFull d n × (c.shape.maps ≤ x.0 → y ≢ map_of_data c.shape x))

-- The same, where another node may have had to give up the page, and has written it then.
pub record TookPage (n : NodeId) (x : PageNo) (c d : Store) (old new : ℕ → BlockState) : Type 0 where
  pub came : (y : PageNo) → HasCached d n.0 y → (y ≡ x) ⊎ HasCached c n.0 y
  pub full : IsFull c n.0 → IsFull d n.0
  pub room : (y : PageNo) → y.0 < page_count c.shape → KeepsPage c.shape y old new ⊎ (HasCached c n.0 y × IsFull d n.0 × (c.shape.maps ≤ x.0 → y ≢ map_of_data c.shape x)) ⊎ ((y ≡ x) × ¬ (IsOpenTo n (owner_of c.shared.owners x.0)))

-- each page but this one is held by the node that held it, or by none as before
abbrev pub KeepsHoldersBut : PageNo → Store → Store → Type 0
KeepsHoldersBut x c d = (y : PageNo) → y ≢ x → holder (owner_of d.shared.owners y.0) ≡ holder (owner_of c.shared.owners y.0)

-- no page comes into the node's cache or goes, and no page's block changes
pub record KeepsCache (n : ℕ) (c d : Store) (old new : ℕ → BlockState) : Type 0 where
  pub cached : (y : PageNo) → HasCached d n y → HasCached c n y
  pub still : (y : PageNo) → HasCached c n y → HasCached d n y
  pub full : IsFull c n → IsFull d n
  pub pages : (y : PageNo) → y.0 < page_count c.shape → KeepsPage c.shape y old new
