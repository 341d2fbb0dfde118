use Rattle.std.proofs.Common.{◌≡◌, ◌+◌}
use Rattle.frame_pool.specs.Frames.{free_count}
use Rattle.one_log_redo.specs.Copies.{AreLent, TakesFrames}
use Rattle.one_log_redo.proofs.frames.Lent.take.Given as goal

abbrev pub invariant-loop-k : goal.invariant-loop-k
invariant-loop-k l = record {
  lent : AreLent l.pool l.frames l.k;
  taken : TakesFrames l.frames l.k l.initial.pool l.pool;
  counted : free_count l.pool + l.k ≡ free_count l.initial.pool;
}
