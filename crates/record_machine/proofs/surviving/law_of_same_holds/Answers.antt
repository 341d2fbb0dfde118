use Rattle.record_machine.proofs.SameHolds.{survives_as_same, survives_same, survives_stop_same, survives_undo_same}
use Rattle.record_machine.proofs.surviving.law_of_same_holds.Goals as goal

pub returns : goal.returns
returns c = record {
  survives = λ dirty h p m hold loose holds looses s. survives_same dirty h p m hold loose holds looses s;
  tables = survives_as_same;
  stopped = survives_stop_same;
  in_undo = survives_undo_same;
}
