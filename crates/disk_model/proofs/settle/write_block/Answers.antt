use Rattle.std.proofs.Common.{◌%◌}
use Rattle.disk_model.specs.Settling.{WritesBlock}
use Rattle.disk_model.proofs.BlockSteps.{writes_at}
use Rattle.disk_model.proofs.settle.write_block.Goals as goal

pub returns-clause-here : goal.returns-clause-here
returns-clause-here c =
    rw (c.set.ensures, c.place-place.ensures)
    (writes_at (WritesBlock c.args.port c.args.content.now (c.args.bit % 64) c.take-is_first.result) _ c.args.copies.now c.args.at.0 c.index_mut-cell.result.now c.take-is_first.new.self
    c.args.content.now c.requires.cells c.requires.copies c.index_mut-cell.ensures.value (c.take-is_first.ensures c.args.content.now))
