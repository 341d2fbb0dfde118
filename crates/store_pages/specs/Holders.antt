-- The pages of a transaction's updates that nodes have which are down.
use Rattle.std.specs.Prelude.{◌≡◌, ◌⊎◌, ◌*◌, ◌∷◌, ◌<◌, [], ℕ, List, Option, Some, None, Result, Ok, Err, option_and_then}
use Rattle.sd_base.specs.Disk.{BlockState}
use Rattle.sd_base.specs.Places.{map_of_data}
use Rattle.sd_base.specs.Shape.{page_count}
use Rattle.sd_base.specs.declared.names.PageNo.{PageNo}
use Rattle.sd_base.specs.declared.names.TxnId.{TxnId}
use Rattle.sd_base.specs.declared.page_op.PageOp.{PageOp}
use Rattle.log_record.specs.declared.record.LogRecord.{LogRecord}
use Rattle.log_record.specs.Record.{page_op_of}
use Rattle.private_log.specs.Content.{Region, region_of}
use Rattle.compensation.specs.Left.{uncompensated}
use Rattle.compensation.specs.Finding.{record_at}
use Rattle.script_text.specs.declared.reply.Reply.{Reply}
use Rattle.script_text.specs.declared.reply.Reply.TheVariants as says
use Rattle.txn_core.specs.Seats.{OpenTxn, txn_in}
use Rattle.txn_core.specs.Told.{AreTold, HasRecords}
use Rattle.record_machine.specs.Commands.{first_of}
use Rattle.store_nodes.specs.declared.store.Store.{Store}
use Rattle.store_nodes.specs.Causes.{IsLogReply}
use Rattle.store_nodes.specs.Known.{checked, held_in}
use Rattle.store_nodes.specs.Nodes.{OnUp, node_at}

-- a node that is down has the map page with the entry of a data page, or has that page: the first of the two
abbrev pub held_both : Store → PageNo → Option Reply
held_both c x = first_of (held_in c (map_of_data c.shape x) ∷ held_in c x ∷ [])

-- so it is of the page that the record with this number changes
abbrev pub held_op : Store → Option (PageNo × ℕ × PageOp) → Option Reply
held_op c None = None
held_op c (Some o) = held_both c o.0

abbrev pub held_at : Store → ℕ → List LogRecord → ℕ → Option Reply
held_at c first recs number = held_op c (option_and_then page_op_of (record_at first recs number))

-- the first page of all these records', in this order, that a node has which is down
abbrev pub held_among : Store → ℕ → List LogRecord → List ℕ → Option Reply
held_among c first recs [] = None
held_among c first recs (number ∷ more) = first_of (held_at c first recs number ∷ held_among c first recs more ∷ [])

-- and of all updates that are left of a transaction, the newest first
abbrev pub held_left : Store → ℕ → ℕ → List LogRecord → Option Reply
held_left c t first recs = held_among c first recs (uncompensated t first recs)

-- ---- what is answered

-- a log wasn't read to its end
abbrev pub ReadsNot : ℕ → Region → Result (Unit {0}) Reply → Type 0
ReadsNot n g (Ok x) = ⊥
ReadsNot n g (Err why) = IsLogReply n g why

-- The log of the transaction's node tells its updates: the first of their pages that a node has which is down is answered, if
-- there is one. Or the log isn't read to its end.
abbrev pub TestsHolders : Store → (ℕ → BlockState) → TxnId → Result (Unit {0}) Reply → Type 0
TestsHolders c b t r = OnUp (node_at c.nodes t.node.0) (λ k seats. (recs : List LogRecord) (u : OpenTxn) → txn_in seats t.seat ≡ Some u → HasRecords k.log b recs → AreTold seats k.log.start recs
    → (r ≡ checked (held_left c u.begin (6 * k.log.start) recs)) ⊎ ReadsNot t.node.0 (region_of c.shape t.node.0) r)

-- no node that is down has one of these pages
abbrev pub AreFree : Store → (ℕ → BlockState) → TxnId → Type 0
AreFree c b t = OnUp (node_at c.nodes t.node.0) (λ k seats. (recs : List LogRecord) (u : OpenTxn) → txn_in seats t.seat ≡ Some u → HasRecords k.log b recs → AreTold seats k.log.start recs → held_left c u.begin (6 * k.log.start) recs ≡ None)

-- why it isn't done: a node that is down has a page of the store, or a log isn't read to its end
abbrev pub IsHolderReply : Store → ℕ → Reply → Type 0
IsHolderReply c n (says.Held x h) = (x.0 < page_count c.shape) × (held_in c x ≡ Some (says.Held x h))
IsHolderReply c n reply = IsLogReply n (region_of c.shape n) reply
