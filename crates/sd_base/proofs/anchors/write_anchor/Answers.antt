use Rattle.sd_base.specs.Anchors.{anchor_text}
use Rattle.sd_base.proofs.anchors.write_anchor.Goals as goal

pub returns : goal.returns
unfolding anchor_text
returns c = cc
