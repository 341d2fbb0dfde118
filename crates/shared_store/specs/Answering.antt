-- How a command is answered: what the store and its disk show, and what the sink takes.
use Rattle.std.specs.Prelude.{◌≡◌, ◌≤◌, ◌++◌, ⊤, ℕ, List, Bool, true, false}
use Rattle.sd_base.specs.declared.device.NodeId.{NodeId}
use Rattle.script_text.specs.declared.command.Command.{Command}
use Rattle.script_text.specs.declared.reply.Reply.{Reply}
use Rattle.script_text.specs.declared.reply.Reply.TheVariants as says
use Rattle.record_machine.specs.Machine.{Machine}
use Rattle.record_machine.specs.Steps.{RowOrStop}
use Rattle.store_nodes.specs.Ports.{says_stop}
use Rattle.shared_store.specs.Causes.{AreCounted}
use Rattle.shared_store.specs.Devices.{Devices}
use Rattle.shared_store.specs.Output.{IsPart}
use Rattle.shared_store.specs.Store.{Shows}
use Rattle.shared_store.specs.StoreState.{Answered, StoreState, shut, opened, stopped}
use Rattle.shared_store.specs.Transcript.{replies_text}
use Rattle.shared_store.specs.declared.store.Store.{Store}

-- ---- a row of a dump

-- from this machine the next record, from a key on, may be answered so where it is asked for
abbrev pub NextOpen : Bool → Machine → NodeId → ℕ → Reply → (StoreState → Type 0) → Type 0
NextOpen true m n first reply S = S stopped
NextOpen false m n first reply S = RowOrStop m n first reply (λ next. S (opened next))

-- and from this state of a store, which goes on to a state of S
abbrev pub NextAnswered : StoreState → NodeId → ℕ → Reply → (StoreState → Type 0) → Type 0
NextAnswered (shut seal) n first reply S = (reply ≡ says.Closed) × S (shut seal)
NextAnswered (opened m) n first reply S = NextOpen (says_stop reply) m n first reply S
NextAnswered stopped n first reply S = S stopped

-- a row's key is this one or a later one
abbrev pub IsRowFrom : ℕ → Reply → Type 0
IsRowFrom first (says.Row key value) = first ≤ key.0
IsRowFrom first reply = ⊤

-- the last reply to a dump with so many rows, where this one was given to the question for a further row
abbrev pub end_of_dump : Reply → ℕ → Reply
end_of_dump says.NoMore count = says.EndDump count
end_of_dump reply count = reply

-- ---- a command

-- The sink took these replies to a command: whatever state the store and its disk showed, from there it may be answered
-- so, and the store go on to what they show now.
pub record Sends (command : Command) (was is : Store) (old now : Devices) (before taken : List ℕ) : Type 0 where
  pub replies : List Reply
  pub answered : (state : StoreState) → Shows was old.disk state → Answered old.disk.size old.vault.size state command replies (Shows is now.disk)
  pub printed : taken ≡ before ++ replies_text replies
  pub counted : AreCounted replies old now

-- The sink failed: it took a front of replies with which the command may be answered from this state.
pub record SendsPart (state : StoreState) (command : Command) (is : Store) (old now : Devices) (before taken : List ℕ) : Type 0 where
  pub replies : List Reply
  pub answered : Answered old.disk.size old.vault.size state command replies (Shows is now.disk)
  pub part : IsPart before (replies_text replies) taken
  pub counted : AreCounted replies old now
