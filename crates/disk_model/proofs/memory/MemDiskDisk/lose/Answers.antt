use Rattle.std.proofs.Common.{◌<◌, rules, ap, length, length-set}
use Rattle.disk_model.specs.Memory.{writer_of}
use Rattle.disk_model.specs.declared.cell.Cell.{Cell}
use Rattle.disk_model.proofs.BlockSteps.{loses_at, cell_at-set_same}
use Rattle.disk_model.proofs.Reaching.{IsReached-lose}
use Rattle.disk_model.specs.MemState.{mem_state}
use Rattle.disk_model.proofs.memory.MemDiskDisk.lose.Goals as goal

pub invariant_of-self-clause-reached : goal.invariant_of-self-clause-reached
unfolding mem_state
invariant_of-self-clause-reached c =
    let lt : c.args.at.0 < length c.args.self.now.cells.items = search rules in
    IsReached-lose _ _ c.args.at.0 _ c.args.self.now.reached lt
    (ap (λ (cell : Cell). writer_of cell.mark) (cell_at-set_same c.args.self.now.cells.items c.args.at.0 _ lt)) (length-set _ _ _)

pub returns-clause-blocks : goal.returns-clause-blocks
unfolding mem_state
returns-clause-blocks c =
    let lt : c.args.at.0 < length c.args.self.now.cells.items = search rules in
    loses_at _ c.args.self.now.copies c.args.at.0 _ lt
