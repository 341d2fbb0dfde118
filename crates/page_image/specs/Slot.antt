-- What is read of the text of a slot.
use Rattle.std.specs.Prelude.{ℕ, ◌==◌, List, take, drop, min, slice_index, Option, Some, None, if◌then◌else◌}
pub use Rattle.sd_base.specs.Slot.{slot_text, FitsSlot}

-- what is read where a slot begins, whatever stands there
abbrev pub slot_of_text : List ℕ → Option (List ℕ)
slot_of_text text = if slice_index text 0 == 0 then None else Some (take (min (slice_index text 1) 248) (drop 4 text))
