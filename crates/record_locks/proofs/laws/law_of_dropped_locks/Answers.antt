use Rattle.record_locks.proofs.HeldLaws.{get-locks_where}
use Rattle.record_locks.proofs.laws.law_of_dropped_locks.Goals as goal

pub returns : goal.returns
returns c = get-locks_where
