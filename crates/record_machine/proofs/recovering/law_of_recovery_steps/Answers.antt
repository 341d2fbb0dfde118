use Rattle.record_machine.proofs.UndoneSteps.{undone_locks, undone_others, undone_records}
use Rattle.record_machine.proofs.recovering.law_of_recovery_steps.Goals as goal

pub returns-clause-records : goal.returns-clause-records
returns-clause-records c = undone_records

pub returns-clause-others : goal.returns-clause-others
returns-clause-others c = undone_others

pub returns-clause-locks : goal.returns-clause-locks
returns-clause-locks c = undone_locks
