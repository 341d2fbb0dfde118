-- The length of the text of a slot.
use Rattle.std.proofs.Common.{◌≡◌, ℕ, Option, Some, None, List, length, refl, arith}
use Rattle.std.proofs.lemmas.List.{length-append, length-replicate}
use Rattle.sd_base.specs.Slot.{slot_text, FitsSlot}

pub length-slot_text : (content : Option (List ℕ)) → FitsSlot content → length (slot_text content) ≡ 252
length-slot_text None fits = refl
length-slot_text (Some value) fits = simp (length-append, length-replicate) (omega arith)
