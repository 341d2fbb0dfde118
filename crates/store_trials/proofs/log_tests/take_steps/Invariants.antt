use Rattle.std.proofs.Common.{◌≡◌}
use Rattle.store_trials.specs.LogTrial.{IsReady, IsFreeForOne}
use Rattle.store_trials.proofs.log_tests.take_steps.Given as goal

abbrev pub invariant-loop-step : goal.invariant-loop-step
invariant-loop-step g l = record {
  ready : IsReady l.log (g.D.Disk.state l.disk);
  free : IsFreeForOne g.D.Disk.told (g.D.Disk.state l.disk);
  size : (g.D.Disk.state l.disk).size ≡ (g.D.Disk.state l.initial.disk).size;
}
