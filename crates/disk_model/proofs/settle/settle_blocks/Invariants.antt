use Rattle.std.proofs.Common.{◌≡◌, length, List, ℕ}
use Rattle.disk_model.specs.Memory.{view_at}
use Rattle.disk_model.specs.Settling.{StopsBlock, DoneBelow}
use Rattle.disk_model.proofs.settle.settle_blocks.Given as goal

abbrev pub invariant-loop-k : goal.invariant-loop-k
invariant-loop-k l = record {
  len : length l.cells.items ≡ length l.initial.cells.items;
  done : (copies : List (List ℕ)) → DoneBelow (StopsBlock l.port l.picks) l.k (view_at l.initial.cells.items copies) (view_at l.cells.items copies);
}
