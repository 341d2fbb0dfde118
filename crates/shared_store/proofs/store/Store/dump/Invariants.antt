use Rattle.std.proofs.Common.{◌≡◌, ◌≤◌, ◌++◌, List, length, IsTrue}
use Rattle.std.specs.Prelude.{map}
use Rattle.sd_base.specs.Disk.{DiskState}
use Rattle.record_machine.specs.Rows.{Row, row_reply}
use Rattle.shared_store.specs.Causes.{HasCause}
use Rattle.shared_store.specs.Devices.{GoesOn, both}
use Rattle.shared_store.specs.Store.{CanServe, IsQuietStore, KeepsPorts, Shows}
use Rattle.shared_store.specs.StoreState.{StoreState}
use Rattle.shared_store.specs.Transcript.{replies_text}
use Rattle.shared_store.proofs.Dumping.{Dumps, IsBelow, keys_left}
use Rattle.shared_store.proofs.store.Store.dump.Given as goal

abbrev pub invariant-loop-reply : goal.invariant-loop-reply
invariant-loop-reply g l = record {
  ready : CanServe l.self (g.D.Disk.state l.disk) (g.V.Disk.state l.vault);
  quiet : IsTrue g.D.Disk.told → IsQuietStore l.self (g.D.Disk.state l.disk).block;
  disk : GoesOn (g.D.Disk.state l.fn.disk) (g.D.Disk.state l.disk);
  vault : GoesOn (g.V.Disk.state l.fn.vault) (g.V.Disk.state l.vault);
  ports : (first : DiskState) → KeepsPorts l.fn.self first (g.D.Disk.state l.fn.disk) → KeepsPorts l.self first (g.D.Disk.state l.disk);
  vault_ports : (first : DiskState) → KeepsPorts l.fn.self first (g.V.Disk.state l.fn.vault) → KeepsPorts l.self first (g.V.Disk.state l.vault);
  faults : (g.K.Sink.state l.fn.sink).faults ≤ (g.K.Sink.state l.sink).faults;
  below : IsBelow l.count l.reply;
  cause : HasCause l.reply (both (g.D.Disk.state l.fn.disk) (g.V.Disk.state l.fn.vault)) (both (g.D.Disk.state l.disk) (g.V.Disk.state l.vault));
  dumped : (rows : List Row) × (length rows ≡ l.count)
      × (IsTrue g.K.Sink.told → (g.K.Sink.state l.sink).taken ≡ (g.K.Sink.state l.fn.sink).taken ++ replies_text (map row_reply rows))
      × (IsTrue g.D.Disk.told → (state : StoreState) → Shows l.fn.self (g.D.Disk.state l.fn.disk) state → Dumps state l.n rows l.reply (Shows l.self (g.D.Disk.state l.disk)));
}

abbrev pub decreases-loop-reply : goal.decreases-loop-reply
decreases-loop-reply g l = keys_left l.reply
