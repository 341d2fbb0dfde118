use Rattle.std.proofs.Common.{◌≡◌, ◌≤◌, ◌+◌, true, List, IsTrue}
use Rattle.sd_base.specs.Calls.{Keeps}
use Rattle.log_record.specs.declared.record.LogRecord.{LogRecord}
use Rattle.loser_undo.specs.Logs.{HasRecords, first_of}
use Rattle.loser_undo.specs.Losers.{IsLast}
use Rattle.loser_undo.specs.Rules.{AllLeadBack}
use Rattle.loser_undo.proofs.Walks.{Walked}
use Rattle.loser_undo.proofs.telling.walk.Given as goal

abbrev pub decreases-walk : goal.decreases-walk
decreases-walk g l = l.r

abbrev pub invariant-walk : goal.invariant-walk
invariant-walk g l = record {
  keeps : Keeps l.port.0 (g.D.Disk.state l.initial.disk) (g.D.Disk.state l.disk);
  live : (g.D.Disk.state l.disk).live l.port.0 ≡ true;
  blocks : IsTrue g.D.Disk.told → (g.D.Disk.state l.disk).block ≡ (g.D.Disk.state l.initial.disk).block;
  low : l.t ≤ l.r;
  high : l.r ≤ l.last;
  begin : l.l.begin ≡ l.t;
  is_last : l.l.last ≡ l.last;
  left : l.l.left + l.r ≤ l.last;
  walked : IsTrue g.D.Disk.told → (recs : List LogRecord) → HasRecords l.log (g.D.Disk.state l.initial.disk).block recs → AllLeadBack (first_of l.log) recs l.t → IsLast (first_of l.log) recs l.t l.last → Walked (first_of l.log) recs l.t l.last l.r l.l;
}
