use Rattle.std.proofs.Common.{◌≡◌, ◌<◌, ℕ, true, false, List, Some, IsTrue}
use Rattle.sd_base.specs.Calls.{Keeps}
use Rattle.log_record.specs.declared.record.LogRecord.{LogRecord}
use Rattle.compensation.specs.Finding.{record_at}
use Rattle.recovery_theory.specs.Effect.{effect_of}
use Rattle.recovery_theory.specs.Rules.{is_end}
use Rattle.loser_undo.specs.Logs.{HasRecords, first_of}
use Rattle.loser_undo.specs.Rules.{Names}
use Rattle.loser_undo.proofs.bonds.is_followed.Given as goal

abbrev pub invariant-loop-q : goal.invariant-loop-q
invariant-loop-q g l = record {
  keeps : Keeps l.port.0 (g.D.Disk.state l.initial.disk) (g.D.Disk.state l.disk);
  live : (g.D.Disk.state l.disk).live l.port.0 ≡ true;
  blocks : IsTrue g.D.Disk.told → (g.D.Disk.state l.disk).block ≡ (g.D.Disk.state l.initial.disk).block;
  low : l.r < l.q;
  none : IsTrue g.D.Disk.told → (recs : List LogRecord) → HasRecords l.log (g.D.Disk.state l.initial.disk).block recs → (q : ℕ) (rec : LogRecord) → l.r < q → q < l.q → record_at (first_of l.log) recs q ≡ Some rec → Names l.t rec → (l.ending ≡ true) × (is_end (effect_of rec) ≡ false);
}
