use Rattle.page_image.proofs.SlotLaws.{slot_text-put}
use Rattle.page_image.proofs.slots.present_bytes.Goals as goal

pub returns-clause-text : goal.returns-clause-text
returns-clause-text c = let made = slot_text-put c.args.value.now in cc
