use Rattle.record_locks.proofs.CompatibleLaws.{IsCompatible-empty, IsCompatible-taken, IsCompatible-locks_where}
use Rattle.record_locks.proofs.laws.law_of_compatible_locks.Goals as goal

pub returns-clause-none : goal.returns-clause-none
returns-clause-none c = IsCompatible-empty

pub returns-clause-taken : goal.returns-clause-taken
returns-clause-taken c = IsCompatible-taken

pub returns-clause-dropped : goal.returns-clause-dropped
returns-clause-dropped c = IsCompatible-locks_where
