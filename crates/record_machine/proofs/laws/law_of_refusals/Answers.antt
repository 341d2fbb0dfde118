use Rattle.record_machine.proofs.TakeSteps.{only_holds}
use Rattle.record_machine.proofs.laws.law_of_refusals.Goals as goal

pub returns : goal.returns
returns c = only_holds
