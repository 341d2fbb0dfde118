use Rattle.recovery_theory.proofs.Stops.{forces, stops}
use Rattle.recovery_theory.proofs.laws.law_of_stops.Goals as goal

pub returns : goal.returns
returns c = record {
  force = forces;
  stop = stops;
}
