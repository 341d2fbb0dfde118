use Rattle.record_locks.proofs.HeldLaws.{IsLeast-least_where}
use Rattle.record_locks.proofs.laws.law_of_the_least.Goals as goal

pub returns : goal.returns
returns c = IsLeast-least_where
