use Rattle.recovery_theory.proofs.BeginsAndLocks.{locks_change}
use Rattle.recovery_theory.proofs.laws.law_of_locks.Goals as goal

pub returns : goal.returns
returns c = locks_change
