use Rattle.record_locks.proofs.HeldLaws.{mode_of-taken, get-taken_other}
use Rattle.record_locks.proofs.laws.law_of_taken_locks.Goals as goal

pub returns-clause-here : goal.returns-clause-here
returns-clause-here c = mode_of-taken

pub returns-clause-others : goal.returns-clause-others
returns-clause-others c = get-taken_other
