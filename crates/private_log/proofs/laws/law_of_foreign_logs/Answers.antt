use Rattle.private_log.proofs.OtherCalls.{foreign_narrows, foreign_keeps, foreign_free}
use Rattle.private_log.proofs.laws.law_of_foreign_logs.Goals as goal

pub returns : goal.returns
returns c = record { outcomes = foreign_narrows; contents = foreign_keeps; free = foreign_free }
