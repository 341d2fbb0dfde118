use Rattle.private_log.proofs.Outcomes.{on_outcome, cut_outcome}
use Rattle.private_log.proofs.OtherCalls.{cut_contents}
use Rattle.private_log.proofs.laws.law_of_log_outcomes.Goals as goal

pub returns : goal.returns
returns c = record { on = on_outcome; cut = cut_outcome; contents = cut_contents }
