use Rattle.std.proofs.Common.{◌≡◌, true, IsTrue}
use Rattle.sd_base.specs.Calls.{Keeps}
use Rattle.store_format.specs.Stretch.{Fills}
use Rattle.store_format.proofs.block_writes.fill.Given as goal

abbrev pub invariant-loop-at : goal.invariant-loop-at
invariant-loop-at g l = record {
  keeps : Keeps 1 (g.D.Disk.state l.initial.disk) (g.D.Disk.state l.disk);
  live : (g.D.Disk.state l.disk).live 1 ≡ true;
  filled : IsTrue g.D.Disk.told → Fills l.first l.at (λ k. l.content) (g.D.Disk.state l.initial.disk).block (g.D.Disk.state l.disk).block;
}
