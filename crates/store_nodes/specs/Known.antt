-- What a command is refused for by what is in memory.
use Rattle.std.specs.Prelude.{◌∷◌, [], ◌-◌, ◌*◌, ℕ, Bool, true, false, not, nat_lt, option_map, Option, Some, None, Result, Ok, Err, if◌then◌else◌}
use Rattle.std.specs.List.{find, range_with_len}
use Rattle.sd_base.specs.declared.device.NodeId.{NodeId}
use Rattle.sd_base.specs.declared.names.Key.{Key}
use Rattle.sd_base.specs.declared.names.TxnId.{TxnId}
use Rattle.sd_base.specs.declared.names.PageNo.{PageNo}
use Rattle.page_owner.specs.declared.owners.Own.{Own}
use Rattle.page_owner.specs.declared.owners.Own.TheVariants.{Nobody, Out, Parked}
use Rattle.page_owner.specs.Owners.{owner_of}
use Rattle.record_locks.specs.declared.mode.Mode.{Mode}
use Rattle.record_locks.specs.declared.mode.Mode.TheVariants as locks
use Rattle.record_locks.specs.Answer.{lock_answer}
use Rattle.record_locks.specs.Held.{least_where}
use Rattle.script_text.specs.declared.command.Command.{Command}
use Rattle.script_text.specs.declared.command.Command.TheVariants as asks
use Rattle.script_text.specs.declared.reply.Reply.{Reply}
use Rattle.script_text.specs.declared.reply.Reply.TheVariants as says
use Rattle.txn_core.specs.Seats.{owed}
use Rattle.record_machine.specs.Commands.{first_of, lock_refusal, where_so}
use Rattle.store_nodes.specs.declared.node.Node.{Node}
use Rattle.store_nodes.specs.declared.node.Node.TheVariants.{Idle, Up, Down}
use Rattle.store_nodes.specs.declared.store.Store.{Store}
use Rattle.store_nodes.specs.Nodes.{is_up, node_at}
use Rattle.store_nodes.specs.Pages.{has_txn, room_in}

-- a test, of which this is the refusal if there is one
abbrev pub checked : Option Reply → Result (Unit {0}) Reply
checked None = Ok tt
checked (Some why) = Err why

abbrev pub is_idle : Node → Bool
is_idle Idle = true
is_idle (Up c seats) = false
is_idle Down = false

abbrev pub is_down : Node → Bool
is_down Idle = false
is_down (Up c seats) = false
is_down Down = true

-- the store has no such node; the node isn't idle, or isn't up
abbrev pub no_node : Store → NodeId → Option Reply
no_node c n = where_so (nat_lt c.shape.nodes n.0) (says.NoNode n)

abbrev pub not_idle : Store → NodeId → Option Reply
not_idle c n = where_so (not (is_idle (node_at c.nodes n.0))) (says.NotIdle n)

abbrev pub not_up : Store → NodeId → Option Reply
not_up c n = where_so (not (is_up (node_at c.nodes n.0))) (says.NotUp n)

-- the transaction is open, or isn't
abbrev pub busy : Store → TxnId → Option Reply
busy c t = where_so (has_txn (node_at c.nodes t.node.0) t) (says.Busy t)

abbrev pub no_txn : Store → TxnId → Option Reply
no_txn c t = where_so (not (has_txn (node_at c.nodes t.node.0) t)) (says.NotTxn t)

-- the lock can't be had
abbrev pub no_lock : Store → Key → TxnId → Mode → Option Reply
no_lock c key t mode = lock_refusal (lock_answer c.shared.locks key t mode)

-- a transaction has a lock: the least one that has
abbrev pub any_lock : Store → Option Reply
any_lock c = option_map says.Busy (least_where (λ l mode. true) c.shared.locks)

-- the first node of the store that is down
abbrev pub first_down : Store → Option NodeId
first_down c = option_map (λ n. record { 0 = n }) (find (λ n. is_down (node_at c.nodes n)) (range_with_len 1 c.shape.nodes))

-- all nodes had stopped, and not all of them are recovered yet: the first one that isn't
abbrev pub reopening : Store → Option Reply
reopening c = if c.shared.reopening then option_map says.Reopening (first_down c) else None

-- a node that is down has the page
abbrev pub held_by : Store → PageNo → Own → Option Reply
held_by c x Nobody = None
held_by c x (Parked h) = where_so (not (is_up (node_at c.nodes h.0))) (says.Held x h)
held_by c x (Out h) = where_so (not (is_up (node_at c.nodes h.0))) (says.Held x h)

abbrev pub held_in : Store → PageNo → Option Reply
held_in c x = held_by c x (owner_of c.shared.owners x.0)

-- the log of the node has no room for so many records
abbrev pub no_room : Store → NodeId → ℕ → Option Reply
no_room c n need = where_so (nat_lt (room_in (node_at c.nodes n.0)) need) (says.LogFull need (room_in (node_at c.nodes n.0)))

-- why a command is refused before the disk is read, if it is: the first of these reasons that there is
abbrev pub known : Store → Command → Option Reply
known c (asks.Format s) = Some says.Formatted
known c (asks.Start n) = first_of (no_node c n ∷ not_idle c n ∷ [])
known c (asks.Begin t) = first_of (no_node c t.node ∷ not_up c t.node ∷ busy c t ∷ reopening c ∷ no_room c t.node 2 ∷ [])
known c (asks.Get t key) = first_of (no_node c t.node ∷ not_up c t.node ∷ no_txn c t ∷ no_lock c key t locks.Read ∷ [])
known c (asks.Put t key value) = first_of (no_node c t.node ∷ not_up c t.node ∷ no_txn c t ∷ no_lock c key t locks.Write ∷ [])
known c (asks.Commit t) = first_of (no_node c t.node ∷ not_up c t.node ∷ no_txn c t ∷ [])
known c asks.Bad = Some says.Bad
known c (asks.Append t key bytes) = first_of (no_node c t.node ∷ not_up c t.node ∷ no_txn c t ∷ no_lock c key t locks.Write ∷ [])
known c (asks.Del t key) = first_of (no_node c t.node ∷ not_up c t.node ∷ no_txn c t ∷ no_lock c key t locks.Write ∷ [])
known c (asks.Flush n) = first_of (no_node c n ∷ not_up c n ∷ [])
known c (asks.Stat n) = no_node c n
known c (asks.Abort t) = first_of (no_node c t.node ∷ not_up c t.node ∷ no_txn c t ∷ [])
known c (asks.Dump n) = first_of (no_node c n ∷ not_up c n ∷ any_lock c ∷ reopening c ∷ [])

-- what is told of a node: of one that is up how many records its log has, how many its transactions may still need, and
-- how many more there is room for
abbrev pub state_of : Node → Reply
state_of Idle = says.StatIdle
state_of (Up c seats) = says.StatUp (c.log.tail - 6 * c.log.start) (owed seats) (room_in (Up c seats))
state_of Down = says.StatDown
