use Rattle.disk_model.proofs.Laid.{laid_out-blank}
use Rattle.disk_model.proofs.lazy.LazyBlocks.new.Goals as goal

pub returns : goal.returns
returns c = rw (c.in_ok-places.ensures) (laid_out-blank _ _)
