use Rattle.std.proofs.Common.{◌∙◌}
use Rattle.private_log.proofs.Blocks.{log_block-none}
use Rattle.private_log.proofs.block.begin_block.Goals as goal

pub returns : goal.returns
returns c = c.write_header.ensures ∙ log_block-none _ _
