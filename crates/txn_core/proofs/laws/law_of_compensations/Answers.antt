use Rattle.txn_core.proofs.TakeBackLaws.{one_taken, some_back}
use Rattle.txn_core.proofs.laws.law_of_compensations.Goals as goal

pub returns-clause-some : goal.returns-clause-some
returns-clause-some c = some_back

pub returns-clause-one : goal.returns-clause-one
returns-clause-one c = one_taken
