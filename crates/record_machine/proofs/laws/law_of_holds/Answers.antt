use Rattle.record_machine.proofs.SureSteps.{not_down}
use Rattle.record_machine.proofs.laws.law_of_holds.Goals as goal

pub returns-clause-apart : goal.returns-clause-apart
returns-clause-apart c = not_down
