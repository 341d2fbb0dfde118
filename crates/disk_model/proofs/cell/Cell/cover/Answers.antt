use Rattle.disk_model.proofs.CellSteps.{covers_at}
use Rattle.disk_model.proofs.cell.Cell.cover.Goals as goal

pub returns-then-writer-port : goal.returns-then-writer-port
returns-then-writer-port c = λ one two. covers_at _ _ _ _ _ _ one two c.in-Waiting.is c.if-writer-port.true
