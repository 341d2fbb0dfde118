use Rattle.recovery_theory.proofs.LogRedo.{recovers}
use Rattle.recovery_theory.proofs.PartialRedo.{redo_broken_off}
use Rattle.recovery_theory.proofs.RedoCounts.{counts}
use Rattle.recovery_theory.proofs.laws.law_of_redo.Goals as goal

pub returns : goal.returns
returns c = record {
  recovers = recovers;
  broken_off = redo_broken_off;
  counts = counts;
}
