use Rattle.recovery_theory.proofs.BeginsAndLocks.{begins}
use Rattle.recovery_theory.proofs.Updates.{updates}
use Rattle.recovery_theory.proofs.Compensations.{compensates}
use Rattle.recovery_theory.proofs.PlaceUses.{uses}
use Rattle.recovery_theory.proofs.PlaceFrees.{frees}
use Rattle.recovery_theory.proofs.laws.law_of_logged_changes.Goals as goal

pub returns : goal.returns
returns c = record {
  begin = begins;
  update = updates;
  compensation = compensates;
  place_use = uses;
  place_free = frees;
}
