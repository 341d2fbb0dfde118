use Rattle.std.specs.Prelude.{drop}
use Rattle.record_machine.proofs.StopSteps.{idents_left, stop_both, stop_none_new, stop_other_locks, stop_others, stop_reads, stop_writes}
use Rattle.record_machine.proofs.laws.law_of_stops.Goals as goal

pub returns-clause-in_undo : goal.returns-clause-in_undo
returns-clause-in_undo c = λ m u h kept. stop_both m u h kept

pub returns-clause-others : goal.returns-clause-others
returns-clause-others c = λ m h kept n other. stop_others m h kept n other

pub returns-clause-pages : goal.returns-clause-pages
returns-clause-pages c = λ m h kept x off. idents_left x (drop kept (m.loose h)) m.ident off

pub returns-clause-write_locks : goal.returns-clause-write_locks
returns-clause-write_locks c = λ m h kept. stop_writes m h kept

pub returns-clause-read_locks : goal.returns-clause-read_locks
returns-clause-read_locks c = λ m h kept. stop_reads m h kept

pub returns-clause-other_locks : goal.returns-clause-other_locks
returns-clause-other_locks c = λ m h kept. stop_other_locks m h kept

pub returns-clause-no_new_locks : goal.returns-clause-no_new_locks
returns-clause-no_new_locks c = λ m h kept. stop_none_new m h kept
