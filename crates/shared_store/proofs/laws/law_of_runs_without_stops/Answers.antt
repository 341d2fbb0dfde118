use Rattle.shared_store.proofs.Unstopped.{no_stops, stays_known}
use Rattle.shared_store.proofs.laws.law_of_runs_without_stops.Goals as goal

pub returns-clause-none : goal.returns-clause-none
returns-clause-none c = no_stops

pub returns-clause-known : goal.returns-clause-known
returns-clause-known c = stays_known
