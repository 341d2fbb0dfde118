use Rattle.record_machine.proofs.RecoveredStops.{freed_survives, given_up_survives, recovered_survives, redo_breaks_off, redone_survives}
use Rattle.record_machine.proofs.recovering.law_of_recovered_nodes.Goals as goal

pub returns : goal.returns
returns c = record { broken_off = redo_breaks_off; redone = redone_survives; given_up = given_up_survives; freed = freed_survives; recovered = recovered_survives }
