use Rattle.record_machine.proofs.SureSteps.{dropped_is_sure, left_by_drop, left_by_take, taken_is_sure}
use Rattle.record_machine.proofs.laws.law_of_sure_changes.Goals as goal

pub returns-clause-taken : goal.returns-clause-taken
returns-clause-taken c = taken_is_sure

pub returns-clause-left : goal.returns-clause-left
returns-clause-left c = left_by_take

pub returns-clause-dropped : goal.returns-clause-dropped
returns-clause-dropped c = dropped_is_sure

pub returns-clause-left_by_drop : goal.returns-clause-left_by_drop
returns-clause-left_by_drop c = left_by_drop
