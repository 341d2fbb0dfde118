use Rattle.std.proofs.Common.{◌≡◌, true}
use Rattle.private_log.specs.Frames.{IsInReach}
use Rattle.private_log.specs.Log.{region}
use Rattle.store_trials.proofs.log_tests.reads_same.Given as goal

abbrev pub invariant-loop-r : goal.invariant-loop-r
invariant-loop-r g l = record {
  live : (g.D.Disk.state l.disk).live 1 ≡ true;
  reach : IsInReach (region l.log) (g.D.Disk.state l.disk).reach;
}
