use Rattle.record_machine.proofs.OwedDeeds.{owed_by_deeds}
use Rattle.record_machine.proofs.PendingWrites.{headroom_of_machine, pending_by_writes}
use Rattle.record_machine.proofs.RecoverableFormats.{outcomes_stand}
use Rattle.record_machine.proofs.recoverable.law_of_recoverable_outcomes.Goals as goal

pub returns : goal.returns
returns c = record {
  owes = owed_by_deeds;
  pending = pending_by_writes;
  headroom = headroom_of_machine;
  stand = outcomes_stand;
}
