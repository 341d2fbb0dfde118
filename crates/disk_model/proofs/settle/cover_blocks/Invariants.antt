use Rattle.std.proofs.Common.{◌≡◌, length, List, ℕ}
use Rattle.disk_model.specs.Memory.{view_at}
use Rattle.disk_model.specs.Settling.{CoversBlock, DoneBelow}
use Rattle.disk_model.proofs.settle.cover_blocks.Given as goal

abbrev pub invariant-loop-k : goal.invariant-loop-k
invariant-loop-k l = record {
  len : length l.cells.items ≡ length l.initial.cells.items;
  done : (copies : List (List ℕ)) → DoneBelow (CoversBlock l.port) l.k (view_at l.initial.cells.items copies) (view_at l.cells.items copies);
}
