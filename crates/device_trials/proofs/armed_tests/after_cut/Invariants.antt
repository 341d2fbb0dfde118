use Rattle.std.specs.Prelude.{◌≤◌, ℕ, IsTrue}
use Rattle.sd_base.specs.Disk.{IsFreeFor}
use Rattle.device_trials.proofs.armed_tests.after_cut.Given as goal

abbrev pub invariant-loop-at : goal.invariant-loop-at
invariant-loop-at g l = record {
  size : 4 ≤ (g.D.Disk.state l.disk).size;
  free : IsTrue g.D.Disk.told → (k : ℕ) → IsFreeFor 1 ((g.D.Disk.state l.disk).block k);
}
