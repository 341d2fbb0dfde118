use Rattle.private_log.specs.LogBlock.{log_header}
use Rattle.private_log.proofs.block.write_header.Goals as goal

pub returns : goal.returns
unfolding log_header
returns c = cc
