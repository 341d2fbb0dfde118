use Rattle.recovery_theory.proofs.EndedRecords.{end_keeps, end_overlays}
use Rattle.recovery_theory.proofs.laws.law_of_committed_records.Goals as goal

pub returns : goal.returns
returns c = record {
  overlays = end_overlays;
  stay = end_keeps;
}
