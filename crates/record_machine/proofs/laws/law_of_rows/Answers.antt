use Rattle.record_machine.proofs.RowLaws.{no_rows, rows_all, rows_more, rows_rest}
use Rattle.record_machine.proofs.laws.law_of_rows.Goals as goal

pub returns-clause-none : goal.returns-clause-none
returns-clause-none c = no_rows

pub returns-clause-more : goal.returns-clause-more
returns-clause-more c = rows_more

pub returns-clause-all : goal.returns-clause-all
returns-clause-all c = rows_all

pub returns-clause-rest : goal.returns-clause-rest
returns-clause-rest c = rows_rest
