use Rattle.std.proofs.Common.{◌≡◌, ◌≤◌, ◌<◌, ℕ, true, List, IsTrue}
use Rattle.sd_base.specs.Calls.{Keeps}
use Rattle.log_record.specs.declared.record.LogRecord.{LogRecord}
use Rattle.private_log.specs.Log.{IsLogOn}
use Rattle.loser_undo.specs.Logs.{IsTextOf, first_of}
use Rattle.loser_undo.proofs.texts.check_texts.Given as goal

abbrev pub invariant-loop-r : goal.invariant-loop-r
invariant-loop-r g l = record {
  keeps : Keeps l.port.0 (g.D.Disk.state l.initial.disk) (g.D.Disk.state l.disk);
  live : (g.D.Disk.state l.disk).live l.port.0 ≡ true;
  blocks : IsTrue g.D.Disk.told → (g.D.Disk.state l.disk).block ≡ (g.D.Disk.state l.initial.disk).block;
  low : first_of l.log ≤ l.r;
  texts : IsTrue g.D.Disk.told → (xs : List (List ℕ)) → IsLogOn l.log (g.D.Disk.state l.initial.disk).block xs → (r : ℕ) → first_of l.log ≤ r → r < l.r → (rec : LogRecord) × IsTextOf l.log xs r rec;
}
