use Rattle.recovery_theory.proofs.RuledLogs.{both_ways, ruled_fronts, ruled_more}
use Rattle.recovery_theory.proofs.LaterLogs.{ruled_later}
use Rattle.recovery_theory.proofs.OwedRecords.{left_is_logged, cuts_owe_no_more}
use Rattle.recovery_theory.proofs.RoomTaken.{map_owes_none, owed_is_paid, owes_one_more}
use Rattle.recovery_theory.proofs.laws.law_of_ruled_logs.Goals as goal

pub returns : goal.returns
returns c = record {
  fronts = ruled_fronts;
  more = ruled_more;
  later = ruled_later;
  both_ways = both_ways;
  logged = left_is_logged;
  owed = cuts_owe_no_more;
  owes = owes_one_more;
  owes_none = map_owes_none;
  paid = owed_is_paid;
}
