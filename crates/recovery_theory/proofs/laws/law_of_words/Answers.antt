use Rattle.recovery_theory.proofs.Words.{life_is_of_its_entry, step_is_said, update_is_said}
use Rattle.recovery_theory.proofs.laws.law_of_words.Goals as goal

pub returns : goal.returns
returns c = record {
  life = life_is_of_its_entry;
  step = step_is_said;
  update = update_is_said;
}
