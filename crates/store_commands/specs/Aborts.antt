-- What an abort leaves, and why it isn't done, whatever its devices hold.
use Rattle.std.specs.Prelude.{◌≡◌, ◌⊎◌, ◌*◌, ◌<◌, ◌∷◌, [], ⊤, ℕ, Bool, true, List, Some, Result, All, reverse, IfErr, IfSome, IsTrue, OnOk}
use Rattle.sd_base.specs.Calls.{Narrows}
use Rattle.sd_base.specs.Disk.{BlockState, DiskState}
use Rattle.sd_base.specs.Places.{map_of_data}
use Rattle.sd_base.specs.Shape.{page_count}
use Rattle.sd_base.specs.declared.names.PageNo.{PageNo}
use Rattle.sd_base.specs.declared.names.TxnId.{TxnId}
use Rattle.sd_base.specs.declared.shape.Shape.{Shape}
use Rattle.log_record.specs.declared.record.LogRecord.{LogRecord}
use Rattle.private_log.specs.Content.{region_of}
use Rattle.private_log.specs.Reading.{IsInRegion, contents}
use Rattle.state_ids.specs.Blocks.{page_place}
use Rattle.script_text.specs.declared.reply.Reply.{Reply}
use Rattle.script_text.specs.declared.reply.Reply.TheVariants as says
use Rattle.txn_core.specs.Seats.{OpenTxn, txn_in}
use Rattle.txn_core.specs.Told.{AreTold, HasRecords}
use Rattle.record_machine.specs.Machine.{Machine, writes_of}
use Rattle.record_machine.specs.Parts.{Part, Take}
use Rattle.store_nodes.specs.declared.node.Node.TheVariants.{Down}
use Rattle.store_nodes.specs.declared.store.Store.{Store}
use Rattle.store_nodes.specs.Causes.{IsLogReply, IsToldOfPages}
use Rattle.store_nodes.specs.Known.{held_in}
use Rattle.store_nodes.specs.Nodes.{OnUp, is_up, node_at}
use Rattle.store_nodes.specs.Pages.{has_txn}
use Rattle.store_nodes.specs.Ports.{HasCause, IsStopReply, IsWorker, SaysStopOf, UnlessStop, WorksWith, WritesWith}
use Rattle.store_pages.specs.Holders.{held_left}
use Rattle.store_pages.specs.Updates.{HasNoRoomFor}

-- ---- why it isn't done

-- Node n or another one that was up stopped, of which HasCause says the rest; a node that is down has a page of the store,
-- or one is lost or its block is damaged, or a block of the node's log is.
abbrev pub IsAbortFault : Store → ℕ → Reply → Type 0
IsAbortFault c n (says.Stopped m) = IsWorker n c.nodes m.0
IsAbortFault c n (says.Fault m) = IsWorker n c.nodes m.0
IsAbortFault c n (says.Held x h) = (x.0 < page_count c.shape) × (held_in c x ≡ Some (says.Held x h))
IsAbortFault c n (says.LostPage x) = x.0 < page_count c.shape
IsAbortFault c n (says.DamagedDisk at) = IsInRegion (region_of c.shape n) at.0 ⊎ ((x : PageNo) × (x.0 < page_count c.shape) × (at.0 ≡ page_place c.shape x))
IsAbortFault c n reply = ⊥

-- A page that is said to be lost is. A block that is said to be damaged is one of the log, or holds something but no image
-- of its page, or is that of a page which hasn't room for what is to be taken back.
abbrev pub IsToldOfAbort : Store → (ℕ → BlockState) → TxnId → Reply → Type 0
IsToldOfAbort c b t (says.LostPage x) = IsToldOfPages c.shape (contents b) (says.LostPage x)
IsToldOfAbort c b t (says.DamagedDisk at) = IsInRegion (region_of c.shape t.node.0) at.0 ⊎ IsToldOfPages c.shape (contents b) (says.DamagedDisk at) ⊎ ((x : PageNo) × (at.0 ≡ page_place c.shape x) × HasNoRoomFor c b t x)
IsToldOfAbort c b t reply = ⊤

-- The log of the transaction's node tells its updates. Where nodes that are down have pages of them, it is answered for the
-- first of these, and nothing has changed; or else the log isn't read to its end.
abbrev pub RefusesHeld : Store → Store → (ℕ → BlockState) → (ℕ → BlockState) → TxnId → Reply → Type 0
RefusesHeld old new b b' t reply = OnUp (node_at old.nodes t.node.0) (λ k seats. (recs : List LogRecord) (u : OpenTxn) → txn_in seats t.seat ≡ Some u → HasRecords k.log b recs → AreTold seats k.log.start recs
    → IfSome (held_left old u.begin (6 * k.log.start) recs) (λ why. ((reply ≡ why) × (new ≡ old) × (b' ≡ b)) ⊎ IsLogReply t.node.0 (region_of old.shape t.node.0) reply))

-- ---- what it leaves where it isn't done

-- no lock has changed, and the transaction is open still
pub record KeepsOpen (t : TxnId) (old new : Store) : Type 0 where
  pub locks : new.shared.locks ≡ old.shared.locks
  pub reopening : new.shared.reopening ≡ old.shared.reopening
  pub busy : has_txn (node_at new.nodes t.node.0) t ≡ true

-- ---- its parts

-- the node takes a data page, behind the map page that has its entry
abbrev pub takes_page : Shape → ℕ → PageNo → List Part
takes_page s n x = Take (map_of_data s x).0 n ∷ Take x.0 n ∷ []

-- the node holds both
abbrev pub HoldsBoth : Machine → ℕ → PageNo → Type 0
HoldsBoth m n x = (m.hold (map_of_data m.shape x).0 ≡ Some n) × (m.hold x.0 ≡ Some n)

-- it holds the pages of all that the transaction has written
abbrev pub HoldsWritten : Machine → TxnId → Type 0
HoldsWritten m t = All (λ d. IfSome d.write (λ w. HoldsBoth m t.node.0 (record { 0 = w.page }))) (reverse (writes_of m t))

-- What each part leaves of the store and its devices: other nodes may have had to give up pages in it, a node that is said
-- to have stopped has, for a cause, and is down then, and pages that nodes have which are down are the same.
pub record Leaves {T : Type 0} (told vault_told : Bool) (n : ℕ) (r : Result T Reply) (old new : Store) (disk disk' vault vault' : DiskState) : Type 0 where
  pub works : WorksWith n (SaysStopOf r) old new disk disk' vault vault'
  pub writes : IsTrue told → WritesWith n old new disk.block disk'.block
  pub vault_outcomes : IsTrue vault_told → Narrows vault.block vault'.block
  pub cause : IfErr r (λ why. HasCause why disk disk')
  pub down : IfErr r (λ why. (h : ℕ) → IsStopReply h why → node_at new.nodes h ≡ Down)
  pub up : OnOk r (is_up (node_at new.nodes n) ≡ true)
  pub holders : UnlessStop r ((y : PageNo) → held_in new y ≡ held_in old y)
