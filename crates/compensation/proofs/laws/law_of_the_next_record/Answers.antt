use Rattle.compensation.proofs.LeftLaws.{next-update, next-compensation, nothing-left}
use Rattle.compensation.proofs.laws.law_of_the_next_record.Goals as goal

pub returns-clause-update : goal.returns-clause-update
returns-clause-update c = next-update

pub returns-clause-compensation : goal.returns-clause-compensation
returns-clause-compensation c = next-compensation

pub returns-clause-nothing_left : goal.returns-clause-nothing_left
returns-clause-nothing_left c = nothing-left
