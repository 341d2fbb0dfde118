use Rattle.recovery_theory.proofs.FormattedHistory.{starts}
use Rattle.recovery_theory.proofs.Rebuilding.{determined}
use Rattle.recovery_theory.proofs.laws.law_of_formatted_stores.Goals as goal

pub returns : goal.returns
returns c = record {
  formatted = starts;
  determined = determined;
}
