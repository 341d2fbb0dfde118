-- A store that is open: its eight nodes, and what each store is.
use Rattle.std.specs.Prelude.{◌≡◌, ◌≢◌, ◌⊎◌, ◌+◌, ◌-◌, ◌*◌, ◌≤◌, ⊤, ℕ, Bool, true, false, List, [], Option, All, length, slice_index_or, slice_set}
use Rattle.std.specs.List.{list_any, sum_by}
use Rattle.sd_base.specs.Shape.{IsShape, page_count}
use Rattle.sd_base.specs.declared.device.NodeId.{NodeId}
use Rattle.sd_base.specs.declared.shape.Shape.{Shape}
use Rattle.frame_pool.specs.Frames.{frame_at, free_count}
use Rattle.page_owner.specs.declared.owners.Own.{Own}
use Rattle.page_owner.specs.declared.owners.Own.TheVariants.{Out, Parked}
use Rattle.page_owner.specs.Owners.{owner_of}
use Rattle.node_cache.specs.Cache.{AreOut, AreOwned, AreShown, CachedPage, CacheState, IsCache, IsOfStore, IsTiedToLog}
use Rattle.txn_core.specs.Seats.{AreTied, SeatsState}
use Rattle.store_nodes.specs.declared.node.Node.{Node}
use Rattle.store_nodes.specs.declared.node.Node.TheVariants.{Idle, Up, Down}
use Rattle.store_nodes.specs.declared.store.Store.{Store}

-- ---- the eight nodes

-- the number of a node
abbrev pub IsPlace : ℕ → Type 0
IsPlace n = (1 ≤ n) × (n ≤ 8)

-- the node of a number, and the nodes with another one in its place
abbrev pub node_at : List Node → ℕ → Node
node_at nodes n = slice_index_or nodes (n - 1) Idle

abbrev pub with_node : List Node → ℕ → Node → List Node
with_node nodes n node = slice_set nodes (n - 1) node

abbrev pub is_up : Node → Bool
is_up Idle = false
is_up (Up c seats) = true
is_up Down = false

abbrev pub any_up : List Node → Bool
any_up nodes = list_any is_up nodes

-- what holds of a node that is up
abbrev pub OnUp : Node → (CacheState → SeatsState → Type 0) → Type 0
OnUp Idle P = ⊤
OnUp (Up c seats) P = P c seats
OnUp Down P = ⊤

-- all nodes but this one are as they were
abbrev pub OthersStay : ℕ → List Node → List Node → Type 0
OthersStay n old new = (m : ℕ) → IsPlace m → m ≢ n → node_at new m ≡ node_at old m

-- ---- their pages

-- the pages that a node has cached, and how many there are
abbrev pub pages_of : Node → List CachedPage
pages_of Idle = []
pages_of (Up c seats) = c.pages
pages_of Down = []

abbrev pub count_of : Node → ℕ
count_of node = length (pages_of node)

abbrev pub cached : List Node → ℕ
cached nodes = sum_by count_of nodes

-- no frame has a page of both
abbrev pub AreApart : List CachedPage → List CachedPage → Type 0
AreApart ps qs = All (λ p. All (λ q. p.frame ≢ q.frame) qs) ps

-- each frame of these pages holds what it held
abbrev pub KeepsFramesOf : List CachedPage → List (Option (List ℕ)) → List (Option (List ℕ)) → Type 0
KeepsFramesOf ps old new = All (λ p. frame_at new p.frame ≡ frame_at old p.frame) ps

-- and so do those of all nodes but this one
abbrev pub KeepsFramesBut : ℕ → List Node → List (Option (List ℕ)) → List (Option (List ℕ)) → Type 0
KeepsFramesBut n nodes old new = (m : ℕ) → IsPlace m → m ≢ n → KeepsFramesOf (pages_of (node_at nodes m)) old new

-- ---- what each node is

-- the node has the page
abbrev pub IsHeldBy : NodeId → Own → Type 0
IsHeldBy n own = (own ≡ Parked n) ⊎ (own ≡ Out n)

-- A node that isn't in use holds no page.
abbrev pub IsAtRest : List Own → ℕ → Type 0
IsAtRest owners n = (x : ℕ) → ¬ (IsHeldBy (record { 0 = n }) (owner_of owners x))

-- One that is up: its cache is of the store, has what the table of owners says, and shows its pages; its log has room
-- for what its transactions owe, and it has eight seats.
pub record IsAtWork (s : Shape) (pool : List (Option (List ℕ))) (owners : List Own) (n : ℕ) (c : CacheState) (seats : SeatsState) : Type 0 where
  pub number : c.node.0 ≡ n
  pub cache : IsCache c.node c.pages
  pub store : IsOfStore s c
  pub shown : AreShown s pool c
  pub owned : AreOwned owners c
  pub log_tie : IsTiedToLog c
  pub tie : AreTied seats c
  pub eight : length seats.seats ≡ 8

-- One that is down: it is a node of the store, and has no ticket.
pub record IsStopped (s : Shape) (owners : List Own) (n : ℕ) : Type 0 where
  pub known : n ≤ s.nodes
  pub none : (x : ℕ) → owner_of owners x ≢ Out (record { 0 = n })

abbrev pub IsNode : Shape → List (Option (List ℕ)) → List Own → ℕ → Node → Type 0
IsNode s pool owners n Idle = IsAtRest owners n
IsNode s pool owners n (Up c seats) = IsAtWork s pool owners n c seats
IsNode s pool owners n Down = IsStopped s owners n

-- ---- what each store is

-- What the nodes share: no two have a frame, there are frames enough for all, and no other node holds a page.
pub record AreShared (s : Shape) (pool : List (Option (List ℕ))) (owners : List Own) (nodes : List Node) : Type 0 where
  pub shape : IsShape s
  pub table : page_count s ≤ length owners
  pub eight : length nodes ≡ 8
  pub frames : 16 * s.nodes ≤ free_count pool + cached nodes
  pub apart : (n m : ℕ) → IsPlace n → IsPlace m → n ≢ m → AreApart (pages_of (node_at nodes n)) (pages_of (node_at nodes m))
  pub holders : (x : ℕ) (m : NodeId) → IsHeldBy m (owner_of owners x) → IsPlace m.0

pub record IsStoreOf (s : Shape) (pool : List (Option (List ℕ))) (owners : List Own) (nodes : List Node) : Type 0 where
  pub shared : AreShared s pool owners nodes
  pub is : (n : ℕ) → IsPlace n → IsNode s pool owners n (node_at nodes n)

abbrev pub IsStore : Store → Type 0
IsStore c = IsStoreOf c.shape c.shared.pool c.shared.owners c.nodes

-- ---- a node that is about to halt

-- its cache can be ended: its frames are out, and it has what the table of owners says
pub record CanEnd (s : Shape) (pool : List (Option (List ℕ))) (owners : List Own) (n : ℕ) (c : CacheState) : Type 0 where
  pub number : c.node.0 ≡ n
  pub known : n ≤ s.nodes
  pub cache : IsCache c.node c.pages
  pub out : AreOut pool c
  pub owned : AreOwned owners c

abbrev pub CanHalt : Shape → List (Option (List ℕ)) → List Own → ℕ → Node → Type 0
CanHalt s pool owners n Idle = IsStopped s owners n
CanHalt s pool owners n (Up c seats) = CanEnd s pool owners n c
CanHalt s pool owners n Down = IsStopped s owners n

-- a store of which this node can be halted, and all others are as they are to be
pub record IsStoreButOf (n : ℕ) (s : Shape) (pool : List (Option (List ℕ))) (owners : List Own) (nodes : List Node) : Type 0 where
  pub shared : AreShared s pool owners nodes
  pub ends : CanHalt s pool owners n (node_at nodes n)
  pub others : (m : ℕ) → IsPlace m → m ≢ n → IsNode s pool owners m (node_at nodes m)

abbrev pub IsStoreBut : ℕ → Store → Type 0
IsStoreBut n c = IsStoreButOf n c.shape c.shared.pool c.shared.owners c.nodes
