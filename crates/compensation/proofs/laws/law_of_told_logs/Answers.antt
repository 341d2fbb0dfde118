use Rattle.compensation.proofs.FindingLaws.{TellsLeft-empty, TellsLeft-update, TellsLeft-taken_back, TellsLeft-other, left-taken_back}
use Rattle.compensation.proofs.laws.law_of_told_logs.Goals as goal

pub returns-clause-none : goal.returns-clause-none
returns-clause-none c = TellsLeft-empty

pub returns-clause-update : goal.returns-clause-update
returns-clause-update c = TellsLeft-update

pub returns-clause-compensation : goal.returns-clause-compensation
returns-clause-compensation c = λ t first u recs rest update rec. TellsLeft-taken_back t first recs u rest update rec

pub returns-clause-taken_back : goal.returns-clause-taken_back
returns-clause-taken_back c = λ t first u recs rest update rec. left-taken_back t first recs u rest update rec

pub returns-clause-other : goal.returns-clause-other
returns-clause-other c = TellsLeft-other
