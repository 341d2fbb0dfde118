use Rattle.std.specs.Prelude.{◌≤◌, ℕ, IsTrue}
use Rattle.sd_base.specs.Disk.{IsFreeFor}
use Rattle.device_trials.proofs.armed_tests.take_steps.Given as goal

abbrev pub invariant-loop-number : goal.invariant-loop-number
invariant-loop-number g l = record {
  size : 4 ≤ (g.D.Disk.state l.disk).size;
  free : IsTrue g.D.Disk.told → (k : ℕ) → IsFreeFor 1 ((g.D.Disk.state l.disk).block k);
}
