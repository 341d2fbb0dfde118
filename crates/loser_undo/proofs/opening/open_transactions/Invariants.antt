use Rattle.std.proofs.Common.{◌≡◌, ◌≤◌, ◌<◌, ℕ, true, List, Some, IsTrue}
use Rattle.sd_base.specs.Calls.{Keeps}
use Rattle.log_record.specs.declared.record.LogRecord.{LogRecord}
use Rattle.compensation.specs.Finding.{record_at}
use Rattle.recovery_theory.specs.Effect.{effect_of}
use Rattle.loser_undo.specs.Logs.{HasRecords, first_of}
use Rattle.loser_undo.specs.Rules.{AreBetween, MayFollow, open_at}
use Rattle.loser_undo.proofs.opening.open_transactions.Given as goal

abbrev pub invariant-loop-r : goal.invariant-loop-r
invariant-loop-r g l = record {
  keeps : Keeps l.port.0 (g.D.Disk.state l.initial.disk) (g.D.Disk.state l.disk);
  live : (g.D.Disk.state l.disk).live l.port.0 ≡ true;
  blocks : IsTrue g.D.Disk.told → (g.D.Disk.state l.disk).block ≡ (g.D.Disk.state l.initial.disk).block;
  low : first_of l.log ≤ l.r;
  within : AreBetween (first_of l.log) l.r l.open.items;
  begun : IsTrue g.D.Disk.told → (recs : List LogRecord) → HasRecords l.log (g.D.Disk.state l.initial.disk).block recs → l.open.items ≡ open_at (first_of l.log) recs l.r;
  follow : IsTrue g.D.Disk.told → (recs : List LogRecord) → HasRecords l.log (g.D.Disk.state l.initial.disk).block recs → (r : ℕ) (rec : LogRecord) → r < l.r → record_at (first_of l.log) recs r ≡ Some rec → MayFollow (first_of l.log) (open_at (first_of l.log) recs r) (effect_of rec);
}
