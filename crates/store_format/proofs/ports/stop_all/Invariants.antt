use Rattle.std.proofs.Common.{◌≡◌, ◌≢◌, ◌≤◌, ◌<◌, ℕ, false, Some, IsTrue}
use Rattle.sd_base.specs.Calls.{Narrows}
use Rattle.sd_base.specs.Faults.{Grew}
use Rattle.store_format.proofs.ports.stop_all.Given as goal

abbrev pub invariant-loop-n : goal.invariant-loop-n
invariant-loop-n g l = record {
  name : (g.D.Disk.state l.disk).name ≡ (g.D.Disk.state l.initial.disk).name;
  size : (g.D.Disk.state l.disk).size ≡ (g.D.Disk.state l.initial.disk).size;
  reach : (g.D.Disk.state l.disk).reach ≡ (g.D.Disk.state l.initial.disk).reach;
  below : (g.D.Disk.state l.disk).below ≡ (g.D.Disk.state l.initial.disk).below;
  orders : (g.D.Disk.state l.disk).orders ≡ (g.D.Disk.state l.initial.disk).orders;
  grew : Grew (g.D.Disk.state l.initial.disk) (g.D.Disk.state l.disk);
  idle : (p : ℕ) → 1 ≤ p → p < l.n → (g.D.Disk.state l.disk).live p ≡ false;
  outcomes : IsTrue g.D.Disk.told → Narrows (g.D.Disk.state l.initial.disk).block (g.D.Disk.state l.disk).block;
  stopped : IsTrue g.D.Disk.told → (k m : ℕ) → 1 ≤ m → m < l.n → ((g.D.Disk.state l.disk).block k).writer ≢ Some m;
}
