use Rattle.recovery_theory.proofs.Ends.{ends_history}
use Rattle.recovery_theory.proofs.laws.law_of_ended_transactions.Goals as goal

pub returns : goal.returns
returns c = ends_history
