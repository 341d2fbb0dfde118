use Rattle.std.proofs.Common.{◌≤◌, ◌++◌, ℕ, List, take, IsTrue}
use Rattle.sd_base.specs.Disk.{DiskState}
use Rattle.shared_store.specs.Devices.{GoesOn, both}
use Rattle.shared_store.specs.Output.{StaysFlushed}
use Rattle.shared_store.specs.Serving.{Served}
use Rattle.shared_store.specs.Store.{CanServe, IsQuietStore, KeepsPorts}
use Rattle.shared_store.specs.Transcript.{Beginning}
use Rattle.shared_store.proofs.session.Session.feed.Given as goal

abbrev pub invariant-loop-b : goal.invariant-loop-b
invariant-loop-b g l = record {
  ready : CanServe l.self.store (g.D.Disk.state l.disk) (g.V.Disk.state l.vault);
  quiet : IsTrue g.D.Disk.told → IsQuietStore l.self.store (g.D.Disk.state l.disk).block;
  disk : GoesOn (g.D.Disk.state l.initial.disk) (g.D.Disk.state l.disk);
  vault : GoesOn (g.V.Disk.state l.initial.vault) (g.V.Disk.state l.vault);
  ports : (first : DiskState) → KeepsPorts l.initial.self.store first (g.D.Disk.state l.initial.disk) → KeepsPorts l.self.store first (g.D.Disk.state l.disk);
  vault_ports : (first : DiskState) → KeepsPorts l.initial.self.store first (g.V.Disk.state l.initial.vault) → KeepsPorts l.self.store first (g.V.Disk.state l.vault);
  faults : (g.K.Sink.state l.initial.sink).faults ≤ (g.K.Sink.state l.sink).faults;
  flushed : IsTrue g.K.Sink.told → StaysFlushed (g.K.Sink.state l.initial.sink) (g.K.Sink.state l.sink);
  served : IsTrue g.K.Sink.told → IsTrue g.D.Disk.told → (from : Beginning) (bytes : List ℕ)
      → Served from bytes l.initial.self.line l.initial.self.store (both (g.D.Disk.state l.initial.disk) (g.V.Disk.state l.initial.vault)) (g.K.Sink.state l.initial.sink)
      → Served from (bytes ++ take l.b-index l.piece) l.self.line l.self.store (both (g.D.Disk.state l.disk) (g.V.Disk.state l.vault)) (g.K.Sink.state l.sink);
}
