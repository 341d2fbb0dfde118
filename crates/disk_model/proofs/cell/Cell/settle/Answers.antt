use Rattle.disk_model.proofs.CellSteps.{stops_now_at, stops_back_at, stops_lost_at}
use Rattle.disk_model.proofs.cell.Cell.settle.Goals as goal

pub returns-then-picks-bit-eq1 : goal.returns-then-picks-bit-eq1
returns-then-picks-bit-eq1 c = λ one two.
    stops_now_at _ _ _ _ c.args.picks _ _ one two c.in-Waiting.is c.if-writer-port.true c.if-picks-bit-eq1.true

pub returns-then-was_lost : goal.returns-then-was_lost
returns-then-was_lost c = λ one two.
    stops_lost_at _ _ _ _ c.args.picks _ _ one two c.in-Waiting.is c.if-writer-port.true c.if-picks-bit-eq1.false c.if-was_lost.true

pub returns-else-was_lost : goal.returns-else-was_lost
returns-else-was_lost c = λ one two.
    stops_back_at _ _ _ _ c.args.picks _ _ one two c.in-Waiting.is c.if-writer-port.true c.if-picks-bit-eq1.false c.if-was_lost.false
