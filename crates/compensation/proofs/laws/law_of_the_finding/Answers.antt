use Rattle.compensation.proofs.FindingLaws.{left_at-begin, left_behind, found-update, found-compensation}
use Rattle.compensation.proofs.laws.law_of_the_finding.Goals as goal

pub returns-clause-begun : goal.returns-clause-begun
returns-clause-begun c = left_at-begin

pub returns-clause-update : goal.returns-clause-update
returns-clause-update c = λ t first i recs rec. found-update t first recs i rec

pub returns-clause-compensation : goal.returns-clause-compensation
returns-clause-compensation c = λ t first i next recs rec. found-compensation t first recs i next rec

pub returns-clause-behind : goal.returns-clause-behind
returns-clause-behind c = λ t first u recs newer rest update. left_behind t first recs newer u rest update
