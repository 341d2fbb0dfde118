use Rattle.compensation.proofs.FindingLaws.{uncompensated-append}
use Rattle.compensation.proofs.laws.law_of_a_log_cut_in_front.Goals as goal

pub returns : goal.returns
returns c = uncompensated-append
