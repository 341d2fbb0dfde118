use Rattle.std.proofs.Common.{◌≡◌, ◌≢◌, ◌≤◌, ◌<◌, ℕ, true, List, Some, IsTrue}
use Rattle.sd_base.specs.Calls.{Keeps}
use Rattle.log_record.specs.declared.record.LogRecord.{LogRecord}
use Rattle.compensation.specs.Finding.{record_at}
use Rattle.loser_undo.specs.Logs.{HasRecords, first_of}
use Rattle.loser_undo.specs.Rules.{Names}
use Rattle.loser_undo.proofs.telling.last_of.Given as goal

abbrev pub invariant-loop-r : goal.invariant-loop-r
invariant-loop-r g l = record {
  keeps : Keeps l.port.0 (g.D.Disk.state l.initial.disk) (g.D.Disk.state l.disk);
  live : (g.D.Disk.state l.disk).live l.port.0 ≡ true;
  blocks : IsTrue g.D.Disk.told → (g.D.Disk.state l.disk).block ≡ (g.D.Disk.state l.initial.disk).block;
  low : l.t ≤ l.last;
  high : l.last < l.r;
  behind : l.t < l.r;
  own : IsTrue g.D.Disk.told → (recs : List LogRecord) → HasRecords l.log (g.D.Disk.state l.initial.disk).block recs → l.last ≢ l.t → (rec : LogRecord) × (record_at (first_of l.log) recs l.last ≡ Some rec) × Names l.t rec;
  none : IsTrue g.D.Disk.told → (recs : List LogRecord) → HasRecords l.log (g.D.Disk.state l.initial.disk).block recs → (q : ℕ) (rec : LogRecord) → l.last < q → q < l.r → record_at (first_of l.log) recs q ≡ Some rec → ¬ (Names l.t rec);
}
