-- The commands on a record: which one, the page that it comes to stand in, and whether it was done; and which commands take pages.
use Rattle.std.specs.Prelude.{◌≡◌, ◌<◌, ℕ, Bool, true, false, Option, Some, None}
use Rattle.sd_base.specs.Shape.{page_count}
use Rattle.sd_base.specs.declared.names.Key.{Key}
use Rattle.script_text.specs.declared.command.Command.{Command}
use Rattle.script_text.specs.declared.command.Command.TheVariants as asks
use Rattle.script_text.specs.declared.reply.Reply.{Reply}
use Rattle.script_text.specs.declared.reply.Reply.TheVariants as says
use Rattle.record_machine.specs.Commands.{target}
use Rattle.record_machine.specs.Machine.{Machine, home}

-- the key of the record that the command reads or writes, if it does that to one
abbrev pub key_of : Command → Option Key
key_of (asks.Get t key) = Some key
key_of (asks.Put t key value) = Some key
key_of (asks.Append t key bytes) = Some key
key_of (asks.Del t key) = Some key
key_of command = None

-- the page that its group has after the command: what is written gets a page where there is none
abbrev pub page_then : Machine → Command → Option ℕ
page_then m (asks.Get t key) = home m key.0
page_then m (asks.Put t key value) = target m key.0
page_then m (asks.Append t key bytes) = target m key.0
page_then m (asks.Del t key) = home m key.0
page_then m command = None

-- the reply says that it was done
abbrev pub says_done : Reply → Bool
says_done says.Fine = true
says_done (says.Found value) = true
says_done says.Absent = true
says_done reply = false

-- the reply says that it was refused once pages were taken, or that a page of it couldn't be taken
abbrev pub is_refusal : Reply → Bool
is_refusal (says.Held x h) = true
is_refusal (says.LostPage x) = true
is_refusal (says.DamagedDisk at) = true
is_refusal (says.Limit x) = true
is_refusal (says.NoSpace x) = true
is_refusal (says.TooLong len) = true
is_refusal (says.LogFull need room) = true
is_refusal reply = false

-- the command takes pages
abbrev pub takes_pages : Command → Bool
takes_pages (asks.Get t key) = true
takes_pages (asks.Put t key value) = true
takes_pages (asks.Append t key bytes) = true
takes_pages (asks.Del t key) = true
takes_pages (asks.Abort t) = true
takes_pages (asks.Dump n) = true
takes_pages command = false

-- no page of the store is lost
abbrev pub AreAllThere : Machine → Type 0
AreAllThere m = (x : ℕ) → x < page_count m.shape → m.gone x ≡ false
