use Rattle.compensation.proofs.LeftLaws.{left-update, left-compensation, left-other}
use Rattle.compensation.proofs.laws.law_of_one_more_record.Goals as goal

pub returns-clause-update : goal.returns-clause-update
returns-clause-update c = left-update

pub returns-clause-compensation : goal.returns-clause-compensation
returns-clause-compensation c = left-compensation

pub returns-clause-other : goal.returns-clause-other
returns-clause-other c = left-other
