use Rattle.std.proofs.Common.{◌∙◌, ◌+◌, ◌*◌, ap}
use Rattle.sd_base.specs.Text.{bytes_at}
use Rattle.private_log.proofs.Blocks.{log_block-record}
use Rattle.private_log.proofs.block.copy_record.Goals as goal

pub returns : goal.returns
returns c = λ node number records f lt is. c.copy_from_slice.ensures.after ∙ (c.part-record.ensures.bytes ∙ (ap (bytes_at 672 (64 + 672 * c.args.place)) is ∙ log_block-record node number c.args.place records f lt))
