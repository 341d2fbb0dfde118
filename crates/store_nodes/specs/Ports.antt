-- What a store asks of its devices, and what a call of one node leaves of the store and of them.
use Rattle.std.specs.Prelude.{◌≡◌, ◌≢◌, ◌⊎◌, ◌<◌, ◌-◌, ⊤, ℕ, Bool, true, false, List, Option, Some, Result, Ok, Err, nat_le, if◌then◌else◌}
use Rattle.sd_base.specs.Calls.{Keeps}
use Rattle.sd_base.specs.Disk.{BlockState, DiskState, MayHold, Rose}
use Rattle.sd_base.specs.Faults.{Grew}
use Rattle.sd_base.specs.Shape.{disk_need, page_count}
use Rattle.sd_base.specs.declared.fault.DevFault.{DevFault}
use Rattle.sd_base.specs.declared.fault.DevFault.TheVariants.{Damaged, Failed, Lost, Stopped}
use Rattle.sd_base.specs.declared.names.PageNo.{PageNo}
use Rattle.sd_base.specs.declared.shape.Shape.{Shape}
use Rattle.private_log.specs.Content.{place, region_of}
use Rattle.private_log.specs.Reading.{IsInRegion}
use Rattle.state_ids.specs.Blocks.{page_place}
use Rattle.script_text.specs.declared.reply.Reply.{Reply}
use Rattle.script_text.specs.declared.reply.Reply.TheVariants as says
use Rattle.store_nodes.specs.declared.node.Node.{Node}
use Rattle.store_nodes.specs.declared.node.Node.TheVariants.{Idle, Up, Down}
use Rattle.store_nodes.specs.declared.store.Store.{Store}
use Rattle.store_nodes.specs.Nodes.{IsPlace, IsStore, KeepsFramesBut, OthersStay, is_up, node_at}
use Rattle.store_nodes.specs.Pages.{KeepsSeats}

-- ---- what a store asks of its devices

-- the port of a node may be used exactly where the node is up
abbrev pub AreLive : List Node → DiskState → Type 0
AreLive nodes d = (n : ℕ) → IsPlace n → d.live n ≡ is_up (node_at nodes n)

-- The disk has the blocks of the store, and the live ports of both devices are those of the nodes that are up.
pub record IsServedOf (s : Shape) (nodes : List Node) (disk vault : DiskState) : Type 0 where
  pub whole : (k : ℕ) → k < disk_need s → disk.reach k ≡ true
  pub live : AreLive nodes disk
  pub vault_live : AreLive nodes vault

abbrev pub IsServed : Store → DiskState → DiskState → Type 0
IsServed c disk vault = IsServedOf c.shape c.nodes disk vault

-- an uncovered write of a block is one of a node that is up, to its own log
pub record IsOwnWrite (s : Shape) (nodes : List Node) (k n : ℕ) : Type 0 where
  pub number : IsPlace n
  pub up : is_up (node_at nodes n) ≡ true
  pub log : IsInRegion (region_of s n) k

abbrev pub IsQuietOf : Shape → List Node → (ℕ → BlockState) → Type 0
IsQuietOf s nodes b = (k n : ℕ) → (b k).writer ≡ Some n → IsOwnWrite s nodes k n

abbrev pub IsQuiet : Store → (ℕ → BlockState) → Type 0
IsQuiet c b = IsQuietOf c.shape c.nodes b

-- both, where this node is about to halt: nothing is said of its ports and its writes
abbrev pub AreLiveBut : ℕ → List Node → DiskState → Type 0
AreLiveBut n nodes d = (m : ℕ) → IsPlace m → m ≢ n → d.live m ≡ is_up (node_at nodes m)

pub record IsServedButOf (n : ℕ) (s : Shape) (nodes : List Node) (disk vault : DiskState) : Type 0 where
  pub whole : (k : ℕ) → k < disk_need s → disk.reach k ≡ true
  pub live : AreLiveBut n nodes disk
  pub vault_live : AreLiveBut n nodes vault

abbrev pub IsServedBut : ℕ → Store → DiskState → DiskState → Type 0
IsServedBut n c disk vault = IsServedButOf n c.shape c.nodes disk vault

abbrev pub IsQuietButOf : ℕ → Shape → List Node → (ℕ → BlockState) → Type 0
IsQuietButOf n s nodes b = (k m : ℕ) → (b k).writer ≡ Some m → m ≢ n → IsOwnWrite s nodes k m

abbrev pub IsQuietBut : ℕ → Store → (ℕ → BlockState) → Type 0
IsQuietBut n c b = IsQuietButOf n c.shape c.nodes b

-- What each call asks of the store and its devices, and leaves again: the store is whole, and its devices serve it.
pub record IsReady (c : Store) (disk vault : DiskState) : Type 0 where
  pub is : IsStore c
  pub served : IsServed c disk vault

-- ---- what a call of one node leaves

-- No block has a new outcome that is neither a page of the store nor of the ring of node n's log.
abbrev pub NarrowsBesides : ℕ → Shape → (ℕ → BlockState) → (ℕ → BlockState) → Type 0
NarrowsBesides n s old new = (k : ℕ) (o : Option (List ℕ)) → ((x : PageNo) → x.0 < page_count s → k ≢ page_place s x) → ((number : ℕ) → k ≢ place (region_of s n) number) → MayHold new k o → MayHold old k o

-- Whatever the devices hold: the store is ready still and has its shape, no ports but the node's changed, and the other
-- nodes are as they were, with what is in their frames.
pub record Works (n : ℕ) (old new : Store) (disk disk' vault vault' : DiskState) : Type 0 where
  pub ready : IsReady new disk' vault'
  pub shape : new.shape ≡ old.shape
  pub keeps : Keeps n disk disk'
  pub vault_keeps : Keeps n vault vault'
  pub others : OthersStay n old.nodes new.nodes
  pub frames : KeepsFramesBut n old.nodes old.shared.pool new.shared.pool

-- Of the disk's blocks: each uncovered write is one of a node that is up, to its own log, and no block has a new outcome
-- but pages and those of the ring of the node's log.
pub record Writes (n : ℕ) (old new : Store) (b b' : ℕ → BlockState) : Type 0 where
  pub quiet : IsQuiet new b'
  pub besides : NarrowsBesides n old.shape b b'

-- ---- what a call of one node leaves, in which others may have to give up pages

-- the node works in a call of node n: it is n, or was up
abbrev pub IsWorker : ℕ → List Node → ℕ → Type 0
IsWorker n nodes m = (m ≡ n) ⊎ (IsPlace m × (is_up (node_at nodes m) ≡ true))

-- No port has changed but those of the nodes that work in it, and no count has fallen.
pub record KeepsPorts (n : ℕ) (nodes : List Node) (old new : DiskState) : Type 0 where
  pub name : new.name ≡ old.name
  pub size : new.size ≡ old.size
  pub reach : new.reach ≡ old.reach
  pub below : new.below ≡ old.below
  pub orders : new.orders ≡ old.orders
  pub live : (m : ℕ) → ¬ (IsWorker n nodes m) → new.live m ≡ old.live m
  pub faults : (m : ℕ) → ¬ (IsWorker n nodes m) → new.faults m ≡ old.faults m
  pub cuts : (m : ℕ) → ¬ (IsWorker n nodes m) → new.cuts m ≡ old.cuts m
  pub grew : Grew old new

-- Another node: one that isn't up is as it was, and one that is up stays up with the transactions that it had, or is down
-- where the reply says that it stopped.
abbrev pub StaysOrStops : Type 0 → Node → Node → Type 0
StaysOrStops says Idle new = new ≡ Idle
StaysOrStops says (Up c before) new = KeepsSeats (Up c before) new ⊎ (says × (new ≡ Down))
StaysOrStops says Down new = new ≡ Down

-- Whatever the devices hold, where the reply says of these nodes that they stopped: the store is ready still and has its
-- shape, no ports have changed but those of node n and of nodes that were up, and each other node has its transactions
-- still, or is down if the reply says so.
pub record WorksWith (n : ℕ) (says : ℕ → Type 0) (old new : Store) (disk disk' vault vault' : DiskState) : Type 0 where
  pub ready : IsReady new disk' vault'
  pub shape : new.shape ≡ old.shape
  pub keeps : KeepsPorts n old.nodes disk disk'
  pub vault_keeps : KeepsPorts n old.nodes vault vault'
  pub others : (m : ℕ) → IsPlace m → m ≢ n → StaysOrStops (says m) (node_at old.nodes m) (node_at new.nodes m)

-- No block has a new outcome that is neither a page of the store nor of the ring of a node that works in it.
abbrev pub NarrowsWith : ℕ → List Node → Shape → (ℕ → BlockState) → (ℕ → BlockState) → Type 0
NarrowsWith n nodes s old new = (k : ℕ) (o : Option (List ℕ)) → ((x : PageNo) → x.0 < page_count s → k ≢ page_place s x) → ((m number : ℕ) → IsWorker n nodes m → k ≢ place (region_of s m) number) → MayHold new k o → MayHold old k o

-- Of the disk's blocks: each uncovered write is one of a node that is up, to its own log, and no block has a new outcome
-- but pages and those of the rings of the nodes that work in it.
pub record WritesWith (n : ℕ) (old new : Store) (b b' : ℕ → BlockState) : Type 0 where
  pub quiet : IsQuiet new b'
  pub besides : NarrowsWith n old.nodes old.shape b b'

-- ---- replies

-- why a command is answered so: where the reply says that a node stopped, the count of its port rose. `NoMore` is no
-- answer to a command
abbrev pub HasCause : Reply → DiskState → DiskState → Type 0
HasCause (says.Stopped n) old new = Rose (old.cuts n.0) (new.cuts n.0)
HasCause (says.Fault n) old new = Rose (old.faults n.0) (new.faults n.0)
HasCause says.NoMore old new = ⊥
HasCause reply old new = ⊤

-- the reply says that a node stopped
abbrev pub says_stop : Reply → Bool
says_stop (says.Stopped n) = true
says_stop (says.Fault n) = true
says_stop reply = false

-- it says that this node stopped
abbrev pub IsStopReply : ℕ → Reply → Type 0
IsStopReply n (says.Stopped m) = m.0 ≡ n
IsStopReply n (says.Fault m) = m.0 ≡ n
IsStopReply n reply = ⊥

-- the result says so; one that was done says of no node that it stopped
abbrev pub SaysStopOf : {T : Type 0} → Result T Reply → ℕ → Type 0
SaysStopOf (Ok value) n = ⊥
SaysStopOf (Err why) n = IsStopReply n why

-- what a fault of a device call is answered, where the pages begin at this block
abbrev pub reply_to : ℕ → DevFault → Reply
reply_to first (Stopped n) = says.Stopped n
reply_to first (Failed n) = says.Fault n
reply_to first (Lost at) = if nat_le first at.0 then says.LostPage (record { 0 = at.0 - first }) else says.DamagedDisk at
reply_to first (Damaged at) = says.DamagedDisk at

-- what holds where it was done, or refused, and no node stopped
abbrev pub UnlessStop : {T : Type 0} → Result T Reply → Type 0 → Type 0
UnlessStop (Ok value) P = P
UnlessStop (Err why) P = says_stop why ≡ false → P
