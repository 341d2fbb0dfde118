use Rattle.std.proofs.Common.{◌≡◌, ◌≤◌, ◌+◌, ◌-◌, ◌^◌, ◌++◌, [], ℕ, List, IsTrue}
use Rattle.sd_base.specs.Disk.{DiskState}
use Rattle.shared_store.specs.Devices.{GoesOn, both}
use Rattle.shared_store.specs.Output.{StaysFlushed}
use Rattle.shared_store.specs.Serving.{Served}
use Rattle.shared_store.specs.Store.{CanServe, IsQuietStore, KeepsPorts}
use Rattle.shared_store.specs.Transcript.{Beginning}
use Rattle.shared_store.proofs.script.read_script.Given as goal

abbrev pub invariant-loop-given : goal.invariant-loop-given
invariant-loop-given g l = record {
  ready : CanServe l.session.store (g.D.Disk.state l.disk) (g.V.Disk.state l.vault);
  quiet : IsTrue g.D.Disk.told → IsQuietStore l.session.store (g.D.Disk.state l.disk).block;
  disk : GoesOn (g.D.Disk.state l.initial.disk) (g.D.Disk.state l.disk);
  vault : GoesOn (g.V.Disk.state l.initial.vault) (g.V.Disk.state l.vault);
  ports : (first : DiskState) → KeepsPorts l.initial.session.store first (g.D.Disk.state l.initial.disk) → KeepsPorts l.session.store first (g.D.Disk.state l.disk);
  vault_ports : (first : DiskState) → KeepsPorts l.initial.session.store first (g.V.Disk.state l.initial.vault) → KeepsPorts l.session.store first (g.V.Disk.state l.vault);
  sink_faults : (g.K.Sink.state l.initial.sink).faults ≤ (g.K.Sink.state l.sink).faults;
  source_faults : (g.S.Source.state l.initial.source).faults ≤ (g.S.Source.state l.source).faults;
  given : (g.S.Source.state l.source).given ≡ (g.S.Source.state l.initial.source).given + l.given;
  most : l.given ≤ 2 ^ 40;
  flushed : IsTrue g.K.Sink.told → StaysFlushed (g.K.Sink.state l.initial.sink) (g.K.Sink.state l.sink);
  served : IsTrue g.S.Source.told → IsTrue g.K.Sink.told → IsTrue g.D.Disk.told → (from : Beginning)
      → Served from [] l.initial.session.line l.initial.session.store (both (g.D.Disk.state l.initial.disk) (g.V.Disk.state l.initial.vault)) (g.K.Sink.state l.initial.sink)
      → (bytes : List ℕ) × ((g.S.Source.state l.initial.source).left ≡ bytes ++ (g.S.Source.state l.source).left)
      × Served from bytes l.session.line l.session.store (both (g.D.Disk.state l.disk) (g.V.Disk.state l.vault)) (g.K.Sink.state l.sink);
}

abbrev pub decreases-loop-given : goal.decreases-loop-given
decreases-loop-given g l = 2 ^ 40 - l.given
