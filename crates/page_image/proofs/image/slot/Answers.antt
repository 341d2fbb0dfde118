use Rattle.std.proofs.Common.{◌+◌, ◌*◌, drop, ◌∙◌, ap, arith}
use Rattle.page_image.specs.Slot.{slot_of_text}
use Rattle.page_image.proofs.ImageLaws.{slot-read}
use Rattle.page_image.proofs.image.slot.Goals as goal

pub returns : goal.returns
returns c = λ v t. c.slot_at.ensures ∙ ap (λ b. slot_of_text (drop (64 + 252 * c.args.i) b)) t.text ∙ slot-read v c.args.i t.image (omega (arith, c.requires.place))
