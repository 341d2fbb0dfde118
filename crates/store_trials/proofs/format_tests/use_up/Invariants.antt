use Rattle.std.proofs.Common.{◌≡◌, IsTrue}
use Rattle.store_format.specs.Device.{IsFreeForOne}
use Rattle.store_trials.proofs.format_tests.use_up.Given as goal

abbrev pub invariant-loop-at : goal.invariant-loop-at
invariant-loop-at g l = record {
  size : (g.D.Disk.state l.disk).size ≡ l.at-end;
  free : IsTrue g.D.Disk.told → IsFreeForOne (g.D.Disk.state l.disk).block;
}
