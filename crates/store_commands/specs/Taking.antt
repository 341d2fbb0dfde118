-- What a command leaves of the machine where a node that is down holds a page which it takes.
use Rattle.std.specs.Prelude.{◌≡◌, ℕ, List, Option, Some, None, Result, Err, take}
use Rattle.script_text.specs.declared.reply.Reply.{Reply}
use Rattle.record_machine.specs.Machine.{Machine}
use Rattle.record_machine.specs.Parts.{Part, dos}
use Rattle.record_machine.specs.Steps.{held}

-- Some of these parts were done, in their order, none of which takes a page from a node that is down.
pub record HasSome (m : Machine) (ps : List Part) (S : Machine → Type 0) : Type 0 where
  pub count : ℕ
  pub free : held m (take count ps) ≡ None
  pub after : S (dos (take count ps) m)

-- This is answered, if it is anything, and some of these parts were done; else that holds.
abbrev pub WhereHeld : {T : Type 0} → Option Reply → Machine → List Part → Result T Reply → (Machine → Type 0) → Type 0 → Type 0
WhereHeld None m ps r S P = P
WhereHeld (Some why) m ps r S P = (r ≡ Err why) × HasSome m ps S

-- A node that is down holds a page that one of these parts takes: that is answered, and some of them were done. Or none
-- does, and this holds.
abbrev pub UnlessHeld : {T : Type 0} → Machine → List Part → Result T Reply → (Machine → Type 0) → Type 0 → Type 0
UnlessHeld m ps r S P = WhereHeld (held m ps) m ps r S P
