-- What a change asks of a record, and where a record goes whose group has no page.
use Rattle.std.specs.Prelude.{◌≡◌, ◌^◌, ◌≤◌, ⊤, ℕ, true, nat_le, List, Option, Some, None, Result, Ok, Err, is_some, length, if◌then◌else◌}
use Rattle.std.specs.List.{position}
use Rattle.sd_base.specs.declared.names.PageNo.{PageNo}
use Rattle.space_map.specs.Entry.{is_free}
use Rattle.space_map.specs.Image.{MapImage}
use Rattle.script_text.specs.declared.reply.Reply.{Reply}
use Rattle.script_text.specs.declared.reply.Reply.TheVariants.{Limit, NoSpace}
use Rattle.record_machine.specs.Commands.{too_long}
use Rattle.txn_core.specs.declared.change.Change.{Change}
use Rattle.txn_core.specs.declared.change.Change.TheVariants.{Put, Append, Delete}

-- the change may be asked of this record: a value of its own isn't too long, and what is deleted is there
abbrev pub Suits : Change → Option (List ℕ) → Type 0
Suits (Put value) v = length value ≤ 248
Suits (Append bytes) v = ⊤
Suits Delete v = is_some v ≡ true

-- the record would be too long after the change
abbrev pub length_refusal : Change → Option (List ℕ) → Option Reply
length_refusal (Put value) v = None
length_refusal (Append bytes) v = too_long v bytes
length_refusal Delete v = None

-- why a map page has no place for a group, where all its places are used: it is at its limit, or else it is full
abbrev pub why_full : PageNo → MapImage → Reply
why_full map image = if nat_le (2 ^ 63) image.ident then Limit map else NoSpace map

-- the place of a map page that a group may get which has none, or why there is none
abbrev pub place_or : Reply → Option ℕ → Result ℕ Reply
place_or why None = Err why
place_or why (Some place) = Ok place

abbrev pub new_place : PageNo → MapImage → Result ℕ Reply
new_place map image = place_or (why_full map image) (position is_free image.entries)
