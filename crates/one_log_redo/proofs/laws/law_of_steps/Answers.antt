use Rattle.one_log_redo.proofs.StepFacts.{record_is_step, record_is_counted, step_keeps_others}
use Rattle.one_log_redo.proofs.Changes.{says_change}
use Rattle.one_log_redo.proofs.laws.law_of_steps.Goals as goal

pub returns : goal.returns
returns c = record {
  images = record_is_step;
  counts = record_is_counted;
  others = step_keeps_others;
  change = says_change;
}
