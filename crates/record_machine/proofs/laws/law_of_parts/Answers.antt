use Rattle.record_machine.proofs.SealSteps.{sealed_own}
use Rattle.record_machine.proofs.Steps.{means_back, means_begun, means_changed, means_locked, means_sealed, means_unlocked, means_used}
use Rattle.record_machine.proofs.laws.law_of_parts.Goals as goal

pub returns-clause-begun : goal.returns-clause-begun
returns-clause-begun c = means_begun

pub returns-clause-used : goal.returns-clause-used
returns-clause-used c = means_used

pub returns-clause-lock : goal.returns-clause-lock
returns-clause-lock c = means_locked

pub returns-clause-change : goal.returns-clause-change
returns-clause-change c = means_changed

pub returns-clause-back : goal.returns-clause-back
returns-clause-back c = means_back

pub returns-clause-seal : goal.returns-clause-seal
returns-clause-seal c = means_sealed

pub returns-clause-sealed : goal.returns-clause-sealed
returns-clause-sealed c = λ m t key. sealed_own t m key

pub returns-clause-unlock : goal.returns-clause-unlock
returns-clause-unlock c = means_unlocked
