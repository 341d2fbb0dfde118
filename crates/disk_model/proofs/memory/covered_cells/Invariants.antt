use Rattle.std.proofs.Common.{◌≡◌, false, replicate}
use Rattle.disk_model.specs.declared.cell.Mark.TheVariants.{Covered}
use Rattle.disk_model.proofs.memory.covered_cells.Given as goal

abbrev pub invariant-loop : goal.invariant-loop
invariant-loop l = l.cells.items ≡ replicate l.counter record { mark = Covered; second = false }
