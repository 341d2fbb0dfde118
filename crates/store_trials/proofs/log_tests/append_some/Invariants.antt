use Rattle.std.proofs.Common.{◌≡◌}
use Rattle.store_trials.specs.LogTrial.{IsReady, IsFreeForOne}
use Rattle.store_trials.proofs.log_tests.append_some.Given as goal

abbrev pub invariant-loop : goal.invariant-loop
invariant-loop g l = record {
  ready : IsReady l.log (g.D.Disk.state l.disk);
  free : IsFreeForOne g.D.Disk.told (g.D.Disk.state l.disk);
  size : (g.D.Disk.state l.disk).size ≡ (g.D.Disk.state l.initial.disk).size;
}
