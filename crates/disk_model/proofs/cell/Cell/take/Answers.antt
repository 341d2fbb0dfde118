use Rattle.disk_model.proofs.CellSteps.{writes_current_at, writes_covered_at, writes_lost_at}
use Rattle.disk_model.proofs.cell.Cell.take.Goals as goal
use Rattle.disk_model.proofs.cell.Cell.take.Goals.{in-Lost, in-Covered}

pub returns-in-Waiting : goal.returns-in-Waiting
returns-in-Waiting c = λ content one two.
    writes_current_at _ _ _ _ _ _ _ content one two c.in-Waiting.is c.requires

pub returns : goal.returns
returns c = λ content one two. elim c.match-self.branch [
  | in-Lost w ↦ writes_lost_at _ _ _ c.args.bit _ content one two w.in-Lost.is w.was_lost-is
  | in-Covered w ↦ writes_covered_at _ _ _ c.args.bit _ content one two w.in-Covered.is w.was_lost-is
]
