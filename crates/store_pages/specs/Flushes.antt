-- What a flush of a node leaves of the blocks of the disk.
use Rattle.std.specs.Prelude.{◌≡◌, ◌≢◌, ℕ, Bool, true, false, List, Option, All}
use Rattle.sd_base.specs.Disk.{BlockState, MayHold}
use Rattle.sd_base.specs.declared.names.PageNo.{PageNo}
use Rattle.private_log.specs.Content.{place, region_of}
use Rattle.state_ids.specs.Blocks.{page_place}
use Rattle.node_cache.specs.Cache.{is_changed}
use Rattle.node_cache.specs.Writes.{HoldsPages}
use Rattle.store_nodes.specs.declared.node.Node.{Node}
use Rattle.store_nodes.specs.declared.node.Node.TheVariants.{Idle, Up, Down}
use Rattle.store_nodes.specs.declared.store.Store.{Store}
use Rattle.store_nodes.specs.Footprint.{KeepsPage}
use Rattle.store_nodes.specs.Nodes.{IsPlace, OnUp, node_at, pages_of}

-- the node has changes of the page that its block hasn't
abbrev pub has_changed : Node → PageNo → Bool
has_changed Idle x = false
has_changed (Up c seats) x = is_changed x c
has_changed Down x = false

-- The block is neither one of the ring of node n's log, nor that of a page which the node has changed.
pub record IsApart (c : Store) (n k : ℕ) : Type 0 where
  pub log : (number : ℕ) → k ≢ place (region_of c.shape n) number
  pub pages : (x : PageNo) → has_changed (node_at c.nodes n) x ≡ true → k ≢ page_place c.shape x

-- no such block has a new outcome, or another content
abbrev pub NarrowsToChanged : ℕ → Store → (ℕ → BlockState) → (ℕ → BlockState) → Type 0
NarrowsToChanged n c old new = (k : ℕ) (o : Option (List ℕ)) → IsApart c n k → MayHold new k o → MayHold old k o

abbrev pub KeepsAllButChanged : ℕ → Store → (ℕ → BlockState) → (ℕ → BlockState) → Type 0
KeepsAllButChanged n c old new = (k : ℕ) → IsApart c n k → (new k).current ≡ (old k).current

-- no block of a page that another node has cached has a new outcome, or another content
abbrev pub NarrowsNoOthers : ℕ → Store → (ℕ → BlockState) → (ℕ → BlockState) → Type 0
NarrowsNoOthers n c old new = (m : ℕ) → IsPlace m → m ≢ n → All (λ q. (o : Option (List ℕ)) → MayHold new (page_place c.shape q.ticket.page) o → MayHold old (page_place c.shape q.ticket.page) o) (pages_of (node_at c.nodes m))

abbrev pub KeepsOthers : ℕ → Store → (ℕ → BlockState) → (ℕ → BlockState) → Type 0
KeepsOthers n c old new = (m : ℕ) → IsPlace m → m ≢ n → All (λ q. KeepsPage c.shape q.ticket.page old new) (pages_of (node_at c.nodes m))

-- the block of each page that the node had changed holds what the page's frame did
abbrev pub HoldsChanged : ℕ → Store → (ℕ → BlockState) → Type 0
HoldsChanged n c new = OnUp (node_at c.nodes n) (λ d seats. HoldsPages c.shape c.shared.pool d.pages new)
