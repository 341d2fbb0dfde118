-- What each command is answered, whatever its devices hold, and what the blocks hold that an answer names.
use Rattle.std.specs.Prelude.{◌≡◌, ◌⊎◌, ◌≤◌, ⊤, ℕ, List, Option, None, Some, Result, Ok, Err}
use Rattle.sd_base.specs.Disk.{BlockState}
use Rattle.sd_base.specs.declared.names.Key.{Key}
use Rattle.private_log.specs.Content.{region_of}
use Rattle.private_log.specs.Reading.{contents}
use Rattle.script_text.specs.declared.command.Command.{Command}
use Rattle.script_text.specs.declared.command.Command.TheVariants as asks
use Rattle.script_text.specs.declared.reply.Reply.{Reply}
use Rattle.script_text.specs.declared.reply.Reply.TheVariants as says
use Rattle.txn_core.specs.declared.change.Change.TheVariants.{Put, Append, Delete}
use Rattle.record_machine.specs.Commands.{TellsFlush}
use Rattle.record_machine.specs.Steps.{worker}
use Rattle.store_nodes.specs.declared.store.Store.{Store}
use Rattle.store_nodes.specs.Causes.{IsLogReply, IsToldDamaged, IsToldOfPages}
use Rattle.store_nodes.specs.Known.{state_of}
use Rattle.store_nodes.specs.Nodes.{node_at}
use Rattle.store_nodes.specs.Pages.{KeepsWork}
use Rattle.store_nodes.specs.Ports.{IsStopReply}
use Rattle.store_commands.specs.Aborts.{IsAbortFault, IsToldOfAbort, KeepsOpen}
use Rattle.store_commands.specs.Answering.{reply_found}
use Rattle.store_commands.specs.Dumps.{IsDumpFault}
use Rattle.store_commands.specs.Faults.{IsFaultFor, IsWriteReason}
use Rattle.store_commands.specs.Reasons.{IsFoundIn}

-- the reply to a command that writes the changed pages
abbrev pub reply_flushed : Result ℕ Reply → Reply
reply_flushed (Ok count) = says.Flushed count
reply_flushed (Err why) = why

-- What is answered to a command that isn't refused before the disk is read, by the store before the command and as it
-- leaves it: that it is done, with the record where one is asked for, or why it isn't.
abbrev pub IsAnswer : Store → Store → Command → Reply → Type 0
IsAnswer old new (asks.Start n) reply = (reply ≡ says.Fine) ⊎ IsLogReply n.0 (region_of old.shape n.0) reply
IsAnswer old new (asks.Begin t) reply = (reply ≡ says.Fine) ⊎ IsStopReply t.node.0 reply
IsAnswer old new (asks.Get t key) reply = ((found : Option (List ℕ)) × (reply ≡ reply_found (Ok found)) × IsFoundIn new t.node.0 key found) ⊎ IsFaultFor old t.node.0 key reply
IsAnswer old new (asks.Put t key value) reply = (reply ≡ says.Fine) ⊎ IsWriteReason old new t.node.0 key (Put value) reply
IsAnswer old new (asks.Append t key bytes) reply = (reply ≡ says.Fine) ⊎ IsWriteReason old new t.node.0 key (Append bytes) reply
IsAnswer old new (asks.Del t key) reply = (reply ≡ says.Fine) ⊎ ((reply ≡ says.Absent) × IsFoundIn new t.node.0 key None) ⊎ IsWriteReason old new t.node.0 key Delete reply
IsAnswer old new (asks.Commit t) reply = (reply ≡ says.Fine) ⊎ IsStopReply t.node.0 reply
IsAnswer old new (asks.Abort t) reply = (reply ≡ says.Fine) ⊎ IsAbortFault old t.node.0 reply
IsAnswer old new (asks.Flush n) reply = TellsFlush reply ⊎ IsStopReply n.0 reply
IsAnswer old new (asks.Stat n) reply = reply ≡ state_of (node_at new.nodes n.0)
IsAnswer old new command reply = ⊥

-- What the blocks hold of which the answer says that they are lost or damaged: those of the node's log, at a start; in an
-- abort, those too or of pages; else of pages.
abbrev pub IsToldIn : Store → (ℕ → BlockState) → Command → Reply → Type 0
IsToldIn c b (asks.Start n) reply = IsToldDamaged (region_of c.shape n.0) (contents b) reply
IsToldIn c b (asks.Abort t) reply = IsToldOfAbort c b t reply
IsToldIn c b command reply = IsToldOfPages c.shape (contents b) reply

-- A command that is refused leaves all locks, and the transactions of its node. Of an abort, which may have taken some
-- changes back by then, that is said where the devices show what they are to show; else its transaction is open still.
abbrev pub LeavesOpen : Command → Store → Store → Type 0
LeavesOpen (asks.Abort t) old new = KeepsOpen t old new
LeavesOpen command old new = KeepsWork (worker command) old new

-- The next record that node n is asked for, from a key on: it is found in what the node has in memory, or there is none, or
-- a page of the store couldn't be taken.
abbrev pub IsRowAnswer : Store → Store → ℕ → ℕ → Reply → Type 0
IsRowAnswer old new n first (says.Row key value) = (first ≤ key.0) × IsFoundIn new n key (Some value)
IsRowAnswer old new n first says.NoMore = ⊤
IsRowAnswer old new n first reply = IsDumpFault old n reply
