-- What the store is to its user, and what each line may be answered.
use Rattle.std.specs.Prelude.{◌≡◌, ◌≢◌, ◌⊎◌, ◌≤◌, ◌<◌, ◌++◌, ⊤, ℕ, Bool, true, false, List, [], ◌∷◌, Option, Some, None, map}
use Rattle.sd_base.specs.declared.device.NodeId.{NodeId}
use Rattle.sd_base.specs.Shape.{disk_need, vault_need}
use Rattle.sd_base.specs.declared.shape.Shape.{Shape}
use Rattle.script_text.specs.Command.{Means}
use Rattle.script_text.specs.declared.command.Command.{Command}
use Rattle.script_text.specs.declared.command.Command.TheVariants as asks
use Rattle.script_text.specs.declared.reply.Reply.{Reply}
use Rattle.script_text.specs.declared.reply.Reply.TheVariants as says
use Rattle.record_machine.specs.Machine.{Machine, formatted}
use Rattle.record_machine.specs.Rows.{AreRows, Row, dumped_by, row_reply}
use Rattle.record_machine.specs.Steps.{DumpOrStop, StepOrStop}
use Rattle.store_nodes.specs.Ports.{says_stop}

-- What is known of block 0 of the disk while no store is open: it is a disk super, or none, or nobody can say.
pub data Seal : Type 0 where
  Sealed : Seal
  Blank : Seal
  Unsure : Seal

-- The state: no store is open; or one is, and is this machine; or one is of which nothing is known, since a node of it stopped.
pub data StoreState : Type 0 where
  shut : Seal → StoreState
  opened : Machine → StoreState
  stopped : StoreState

-- it is known what the store is: no node of it has stopped
abbrev pub IsKnown : StoreState → Type 0
IsKnown (shut seal) = ⊤
IsKnown (opened m) = ⊤
IsKnown stopped = ⊥

-- ---- no store is open. The two numbers are the blocks that the disk and the vault have

-- what a `format` may be answered
abbrev pub AnswersFormat : ℕ → ℕ → Seal → Shape → Reply → Type 0
AnswersFormat disk vault seal s says.Fine = (seal ≢ Sealed) × (disk_need s ≤ disk) × (vault_need s ≤ vault)
AnswersFormat disk vault seal s says.Formatted = (seal ≢ Blank) × (0 < disk)
AnswersFormat disk vault seal s (says.SmallDisk need have) = (seal ≢ Sealed) × (disk < disk_need s) × (need ≡ disk_need s) × (have ≡ disk)
AnswersFormat disk vault seal s (says.SmallVault need have) = (seal ≢ Sealed) × (disk_need s ≤ disk) × (vault < vault_need s) × (need ≡ vault_need s) × (have ≡ vault)
AnswersFormat disk vault seal s says.NoMem = (seal ≢ Sealed) × (disk_need s ≤ disk) × (vault_need s ≤ vault)
AnswersFormat disk vault seal s (says.Stopped n) = n.0 ≡ 1
AnswersFormat disk vault seal s (says.Fault n) = n.0 ≡ 1
AnswersFormat disk vault seal s reply = ⊥

-- what is known of block 0 after a `format` in which its port stopped
abbrev pub after_cut : Seal → Seal
after_cut Sealed = Sealed
after_cut Blank = Unsure
after_cut Unsure = Unsure

-- the state after a `format`
abbrev pub after_format : Seal → Shape → Reply → StoreState
after_format seal s says.Fine = opened (formatted s)
after_format seal s says.Formatted = shut Sealed
after_format seal s (says.Stopped n) = shut (after_cut seal)
after_format seal s (says.Fault n) = shut (after_cut seal)
after_format seal s reply = shut Blank

-- what a command may be answered that gets one reply, as each but a dump does
abbrev pub AnswersShut : ℕ → ℕ → Seal → Command → Reply → Type 0
AnswersShut disk vault seal (asks.Format s) reply = AnswersFormat disk vault seal s reply
AnswersShut disk vault seal (asks.Start n) reply = reply ≡ says.Closed
AnswersShut disk vault seal (asks.Begin t) reply = reply ≡ says.Closed
AnswersShut disk vault seal (asks.Get t key) reply = reply ≡ says.Closed
AnswersShut disk vault seal (asks.Put t key value) reply = reply ≡ says.Closed
AnswersShut disk vault seal (asks.Append t key bytes) reply = reply ≡ says.Closed
AnswersShut disk vault seal (asks.Del t key) reply = reply ≡ says.Closed
AnswersShut disk vault seal (asks.Commit t) reply = reply ≡ says.Closed
AnswersShut disk vault seal (asks.Abort t) reply = reply ≡ says.Closed
AnswersShut disk vault seal (asks.Flush n) reply = reply ≡ says.Closed
AnswersShut disk vault seal (asks.Dump n) reply = ⊥
AnswersShut disk vault seal (asks.Stat n) reply = reply ≡ says.Closed
AnswersShut disk vault seal asks.Bad reply = reply ≡ says.Bad

-- and the state after it
abbrev pub after_shut : Seal → Command → Reply → StoreState
after_shut seal (asks.Format s) reply = after_format seal s reply
after_shut seal command reply = shut seal

-- ---- a store is open

-- the commands in which a node may stop: those that may call a device
abbrev pub MayStop : Command → Type 0
MayStop (asks.Start n) = ⊤
MayStop (asks.Begin t) = ⊤
MayStop (asks.Get t key) = ⊤
MayStop (asks.Put t key value) = ⊤
MayStop (asks.Append t key bytes) = ⊤
MayStop (asks.Del t key) = ⊤
MayStop (asks.Commit t) = ⊤
MayStop (asks.Abort t) = ⊤
MayStop (asks.Flush n) = ⊤
MayStop command = ⊥

-- what a command may be answered, with the states after it: where no node stopped, what the machine answers
abbrev pub AnswersOpen : Bool → Machine → Command → Reply → (StoreState → Type 0) → Type 0
AnswersOpen true m command reply S = MayStop command × S stopped
AnswersOpen false m command reply S = StepOrStop m command reply (λ next. S (opened next))

-- once a node has stopped, the commands that get one reply and ask no node for anything are answered as before, and nothing is
-- said of the others
abbrev pub AnswersStopped : Command → Reply → Type 0
AnswersStopped (asks.Format s) reply = reply ≡ says.Formatted
AnswersStopped (asks.Start n) reply = ⊤
AnswersStopped (asks.Begin t) reply = ⊤
AnswersStopped (asks.Get t key) reply = ⊤
AnswersStopped (asks.Put t key value) reply = ⊤
AnswersStopped (asks.Append t key bytes) reply = ⊤
AnswersStopped (asks.Del t key) reply = ⊤
AnswersStopped (asks.Commit t) reply = ⊤
AnswersStopped (asks.Abort t) reply = ⊤
AnswersStopped (asks.Flush n) reply = ⊤
AnswersStopped (asks.Dump n) reply = ⊥
AnswersStopped (asks.Stat n) reply = ⊤
AnswersStopped asks.Bad reply = reply ≡ says.Bad

-- ---- a line

-- from this state a command that gets one reply may be answered so, and the store go on to a state of S
abbrev pub AnsweredOnce : ℕ → ℕ → StoreState → Command → Reply → (StoreState → Type 0) → Type 0
AnsweredOnce disk vault (shut seal) command reply S = AnswersShut disk vault seal command reply × S (after_shut seal command reply)
AnsweredOnce disk vault (opened m) command reply S = AnswersOpen (says_stop reply) m command reply S
AnsweredOnce disk vault stopped command reply S = AnswersStopped command reply × S stopped

-- In a dump a node stopped, behind some of the rows.
pub record StopsDump (m : Machine) (replies : List Reply) : Type 0 where
  pub end : ℕ
  pub rows : List Row
  pub are : AreRows m end rows
  pub last : Reply
  pub stops : says_stop last ≡ true
  pub said : replies ≡ map row_reply rows ++ last ∷ []

-- rows, and one reply that ends them
abbrev pub AreDumped : List Reply → Type 0
AreDumped replies = (rows : List Row) × (last : Reply) × (replies ≡ map row_reply rows ++ last ∷ [])

-- From this state a dump may be answered with these replies, and the store go on to a state of S: where no node stopped,
-- with what the machine answers. Once one has stopped nothing is said of the rows.
abbrev pub AnswersDump : StoreState → NodeId → List Reply → (StoreState → Type 0) → Type 0
AnswersDump (shut seal) n replies S = (replies ≡ says.Closed ∷ []) × S (shut seal)
AnswersDump (opened m) n replies S = DumpOrStop m n replies (λ next. S (opened next)) ⊎ (StopsDump m replies × S stopped)
AnswersDump stopped n replies S = AreDumped replies × S stopped

-- from this state the command may be answered with these replies, and the store go on to a state of S
abbrev pub Answered : ℕ → ℕ → StoreState → Command → List Reply → (StoreState → Type 0) → Type 0
Answered disk vault state command replies S = by (dumped_by command)
  where
    by : Option NodeId → Type 0
    by None = (reply : Reply) × (replies ≡ reply ∷ []) × AnsweredOnce disk vault state command reply S
    by (Some n) = AnswersDump state n replies S

-- ---- a run

-- From this state the lines may be answered with these replies, a list of them for each line, one line after another, and
-- the store end in a state of S.
abbrev pub Run : ℕ → ℕ → StoreState → List (List ℕ) → List (List Reply) → (StoreState → Type 0) → Type 0
Run disk vault state [] [] S = S state
Run disk vault state (line ∷ lines) (said ∷ replies) S =
    (command : Command) × Means line command × Answered disk vault state command said (λ next. Run disk vault next lines replies S)
Run disk vault state [] (said ∷ replies) S = ⊥
Run disk vault state (line ∷ lines) [] S = ⊥
