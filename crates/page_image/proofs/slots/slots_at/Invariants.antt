use Rattle.std.proofs.Common.{◌≡◌, ◌+◌, ◌*◌, ◌<◌, ℕ, None, drop, get_or}
use Rattle.page_image.specs.Slot.{slot_of_text}
use Rattle.page_image.proofs.slots.slots_at.Given as goal

abbrev pub invariant-loop-i : goal.invariant-loop-i
invariant-loop-i l = (k : ℕ) → k < l.i → get_or l.slots k None ≡ slot_of_text (drop (64 + 252 * k) l.b)
