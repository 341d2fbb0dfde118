-- What a part of a command answers.
use Rattle.std.specs.Prelude.{◌≡◌, ◌++◌, ◌∷◌, [], ℕ, Bool, true, false, List, Option, Some, None, Result, Ok, Err}
use Rattle.sd_base.specs.declared.names.Key.{Key}
use Rattle.sd_base.specs.declared.names.TxnId.{TxnId}
use Rattle.record_locks.specs.declared.mode.Mode.TheVariants.{Write}
use Rattle.script_text.specs.declared.reply.Reply.{Reply}
use Rattle.script_text.specs.declared.reply.Reply.TheVariants.{Absent, Fine, Found}
use Rattle.record_machine.specs.Commands.{uses, writes}
use Rattle.record_machine.specs.Machine.{Machine, new_home}
use Rattle.record_machine.specs.Parts.{Lock, Part, Take}

-- it is refused for this, if it is for anything, and the one holds then; else it gives this, and the other one does
abbrev pub AnswersWith : {T : Type 0} → T → Option Reply → Result T Reply → Type 0 → Type 0 → Type 0
AnswersWith value None r done stayed = (r ≡ Ok value) × done
AnswersWith value (Some why) r done stayed = (r ≡ Err why) × stayed

abbrev pub Answers : Option Reply → Result (Unit {0}) Reply → Type 0 → Type 0 → Type 0
Answers why r done stayed = AnswersWith tt why r done stayed

-- the reply to a command of which nothing is asked but that it is done, and to one that asks for a record
abbrev pub reply_of : Result (Unit {0}) Reply → Reply
reply_of (Ok x) = Fine
reply_of (Err why) = why

abbrev pub reply_found : Result (Option (List ℕ)) Reply → Reply
reply_found (Ok None) = Absent
reply_found (Ok (Some value)) = Found value
reply_found (Err why) = why

-- to one that deletes a record, of which is told whether there was one
abbrev pub reply_deleted : Result Bool Reply → Reply
reply_deleted (Ok true) = Fine
reply_deleted (Ok false) = Absent
reply_deleted (Err why) = why

-- a group that has no page gets this one: the node takes it, and then the place comes into use and the record is written
abbrev pub new_takes : ℕ → Option ℕ → List Part
new_takes n None = []
new_takes n (Some x) = Take x n ∷ []

abbrev pub new_parts : Machine → TxnId → Key → Option (List ℕ) → List Part
new_parts m t key value = new_takes t.node.0 (new_home m key.0) ++ uses m t.node.0 key.0 ++ Lock key t Write ∷ writes t key.0 value (new_home m key.0)
