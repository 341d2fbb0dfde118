use Rattle.record_machine.proofs.StopTables.{stopped_in_undo, stopped_survives, stopped_with_tables}
use Rattle.record_machine.proofs.surviving.law_of_survived_stops.Goals as goal

pub returns : goal.returns
returns c = record { stopped = stopped_survives; tables = stopped_with_tables; in_undo = stopped_in_undo }
