use Rattle.sd_base.specs.Supers.{super_text}
use Rattle.sd_base.proofs.supers.write_super.Goals as goal

pub returns : goal.returns
unfolding super_text
returns c = cc
