use Rattle.std.proofs.Common.{◌≡◌, ◌≢◌, ◌<◌, ◌-◌, true, None, All, IsTrue}
use Rattle.sd_base.specs.Calls.{Keeps}
use Rattle.sd_base.specs.Shape.{page_count}
use Rattle.node_cache.specs.Places.{between}
use Rattle.node_cache.specs.Sending.{IsPlaced, NoNewWriterButPages}
use Rattle.node_cache.specs.Writes.{KeepsContentsOfPages, KeepsForeignOfPages, NarrowsToPages}
use Rattle.node_cache.proofs.SendOrder.{AreSent}
use Rattle.node_cache.proofs.pages.Pages.send_range.Given as goal

-- the pages with changes and a number below `least` were sent, and no other ones
abbrev pub invariant-loop-i : goal.invariant-loop-i
invariant-loop-i g l = record {
  keeps : Keeps l.initial.batch.port.0 (g.D.Disk.state l.initial.disk) (g.D.Disk.state l.disk);
  live : (g.D.Disk.state l.disk).live l.initial.batch.port.0 ≡ true;
  port : l.batch.port ≡ l.initial.batch.port;
  sent : AreSent (between l.from l.to l.self) l.least l.batch.sent;
  outcomes : IsTrue g.D.Disk.told → NarrowsToPages l.s l.pool (between l.from l.to l.self) (g.D.Disk.state l.initial.disk).block (g.D.Disk.state l.disk).block;
  writers : IsTrue g.D.Disk.told → NoNewWriterButPages l.s (between l.from l.to l.self) l.initial.batch.port.0 (g.D.Disk.state l.initial.disk).block (g.D.Disk.state l.disk).block;
  foreign : IsTrue g.D.Disk.told → KeepsForeignOfPages l.s (between l.from l.to l.self) l.initial.batch.port.0 (g.D.Disk.state l.initial.disk).block (g.D.Disk.state l.disk).block;
  contents : IsTrue g.D.Disk.told → KeepsContentsOfPages l.s (between l.from l.to l.self) (g.D.Disk.state l.initial.disk).block (g.D.Disk.state l.disk).block;
  placed : IsTrue g.D.Disk.told → All (λ p. p.changes ≢ None → p.ticket.page.0 < l.least → IsPlaced l.s l.pool (g.D.Disk.state l.disk).block p) (between l.from l.to l.self);
}

abbrev pub decreases-loop-i : goal.decreases-loop-i
decreases-loop-i g l = page_count l.s - l.least
