use Rattle.recovery_theory.proofs.Outcomes.{stands_at_cuts}
use Rattle.recovery_theory.proofs.laws.law_of_outcomes.Goals as goal

pub returns : goal.returns
returns c = stands_at_cuts
