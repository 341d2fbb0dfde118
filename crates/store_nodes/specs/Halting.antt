-- What is left of a store where a node has halted.
use Rattle.std.specs.Prelude.{◌≡◌, ℕ, true, false}
use Rattle.std.specs.FinMap.{empty}
use Rattle.sd_base.specs.Disk.{DiskState}
use Rattle.sd_base.specs.declared.device.NodeId.{NodeId}
use Rattle.page_owner.specs.declared.owners.Own.TheVariants.{Nobody}
use Rattle.page_owner.specs.Owners.{owner_of}
use Rattle.record_locks.specs.Held.{without_reads_of}
use Rattle.node_cache.specs.Room.{freed, given_up}
use Rattle.store_nodes.specs.declared.node.Node.TheVariants.{Down}
use Rattle.store_nodes.specs.declared.store.Store.{Store}
use Rattle.store_nodes.specs.Nodes.{any_up, node_at, pages_of, with_node}

-- What the nodes share, where another node is up: the locks to write of the node that halted stay, and its pages are its
-- own still.
pub record KeepsTables (n : NodeId) (old new : Store) : Type 0 where
  pub locks : new.shared.locks ≡ without_reads_of n old.shared.locks
  pub owners : (x : ℕ) → owner_of new.shared.owners x ≡ given_up n (owner_of old.shared.owners x)
  pub reopening : new.shared.reopening ≡ old.shared.reopening

-- Where none is, both tables are lost, and the store is to be reopened.
pub record LosesTables (new : Store) : Type 0 where
  pub locks : new.shared.locks ≡ empty
  pub owners : (x : ℕ) → owner_of new.shared.owners x ≡ Nobody
  pub reopening : new.shared.reopening ≡ true

-- The node is down, its frames are free, and both its ports are stopped.
pub record Halts (n : NodeId) (old new : Store) (disk vault : DiskState) : Type 0 where
  pub nodes : new.nodes ≡ with_node old.nodes n.0 Down
  pub pool : new.shared.pool ≡ freed (pages_of (node_at old.nodes n.0)) old.shared.pool
  pub kept : any_up new.nodes ≡ true → KeepsTables n old new
  pub lost : any_up new.nodes ≡ false → LosesTables new
  pub port : disk.live n.0 ≡ false
  pub vault_port : vault.live n.0 ≡ false
