use Rattle.std.proofs.Common.{◌≡◌, ◌≤◌, ◌+◌, ◌^◌, true, IsTrue}
use Rattle.sd_base.specs.Calls.{Keeps}
use Rattle.private_log.specs.Content.{region_of}
use Rattle.private_log.specs.Reading.{contents}
use Rattle.private_log.proofs.RingLaws.{FullBlocks}
use Rattle.private_log.proofs.attach.read_ring.Given as goal

abbrev pub invariant-loop-k : goal.invariant-loop-k
invariant-loop-k g l = record {
  keeps : Keeps l.port.0 (g.D.Disk.state l.initial.disk) (g.D.Disk.state l.disk);
  live : (g.D.Disk.state l.disk).live l.port.0 ≡ true;
  blocks : IsTrue g.D.Disk.told → (g.D.Disk.state l.disk).block ≡ (g.D.Disk.state l.initial.disk).block;
  number : l.start + l.k ≤ 2 ^ 56;
  full : IsTrue g.D.Disk.told → FullBlocks (region_of l.s l.n.0) (contents (g.D.Disk.state l.initial.disk).block) l.start l.k;
}
