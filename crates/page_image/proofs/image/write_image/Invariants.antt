use Rattle.std.proofs.Common.{◌≡◌, take}
use Rattle.std.specs.List.{flat_map}
use Rattle.sd_base.specs.Page.{page_text}
use Rattle.page_image.specs.Slot.{slot_text}
use Rattle.page_image.proofs.image.write_image.Given as goal

-- the header stands, and the slots before this one
abbrev pub invariant-loop-i : goal.invariant-loop-i
invariant-loop-i l = l.out ≡ page_text 2 l.v.page.0 l.v.ident (flat_map slot_text (take l.i l.v.slots))
