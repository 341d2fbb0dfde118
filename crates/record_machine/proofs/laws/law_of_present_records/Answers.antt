use Rattle.record_machine.proofs.LockSteps.{committed_there, seen_absent, seen_locked}
use Rattle.record_machine.proofs.laws.law_of_present_records.Goals as goal

pub returns-clause-there : goal.returns-clause-there
returns-clause-there c = λ p m key x t mode means is had. seen_locked p m key x t mode means.locked means.pages is had

pub returns-clause-absent : goal.returns-clause-absent
returns-clause-absent c = λ p m key t means none. seen_absent p m key t means.logs means.pages none

pub returns-clause-committed : goal.returns-clause-committed
returns-clause-committed c = λ p m key x means none is. committed_there p m key x means.locked means.pages none is
