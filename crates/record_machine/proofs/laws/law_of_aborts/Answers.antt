use Rattle.std.specs.Prelude.{◌≡◌, ◌+◌, ◌++◌, ◌∷◌, [], Some, length}
use Rattle.std.proofs.Common.{subst, sym, refl}
use Rattle.compensation.specs.Finding.{record_at}
use Rattle.log_record.specs.declared.record.LogRecord.{LogRecord}
use Rattle.record_machine.specs.Machine.{owed, seen, writes_of}
use Rattle.record_machine.specs.Meaning.{Tells, first_record}
use Rattle.record_machine.proofs.BackSteps.{all_undone, all_written, at_back, back_home, back_is, back_others, back_owed, back_told, back_writes, none_written}
use Rattle.record_machine.proofs.Newest.{newest_is, some_write}
use Rattle.record_machine.proofs.Steps.{room_back}
use Rattle.record_machine.proofs.TakeSteps.{aborted_records}
use Rattle.record_machine.proofs.laws.law_of_aborts.Goals as goal

pub returns-clause-written : goal.returns-clause-written
returns-clause-written c = λ m t d is. some_write t.seat d (newest_is t.seat (m.pending t.node.0) d is).write

pub returns-clause-home : goal.returns-clause-home
returns-clause-home c = λ p m t d w is write means. back_home p m t d w is write means.logs

pub returns-clause-room : goal.returns-clause-room
returns-clause-room c = room_back

pub returns-clause-backs_seen : goal.returns-clause-backs_seen
returns-clause-backs_seen c = λ p m t d w is write means.
    subst (λ o. (rec : LogRecord) × (record_at (first_record m t.node.0) (p.live t.node.0) d.number ≡ Some rec) × Tells rec w (seen o t w.key)) (sym (back_is m t d w is write)) (back_told p m t d w is write means.logs)

pub returns-clause-length : goal.returns-clause-length
returns-clause-length c = λ m t d is. at_back (λ o. owed m t.node.0 ≡ owed o t.node.0 + 1) m t d is (λ w _. back_owed m t d w is)

pub returns-clause-left : goal.returns-clause-left
returns-clause-left c = λ m t d is. at_back (λ o. writes_of m t ≡ writes_of o t ++ d ∷ []) m t d is (λ w _. back_writes m t d w is)

pub returns-clause-others : goal.returns-clause-others
returns-clause-others c = λ m t u apart. back_others m t u apart

pub returns-clause-no_more : goal.returns-clause-no_more
returns-clause-no_more c = λ m t key none. none_written m t key none

pub returns-clause-all_back : goal.returns-clause-all_back
returns-clause-all_back c = λ m t key. all_written (length (writes_of m t)) m t refl key

pub returns-clause-undone : goal.returns-clause-undone
returns-clause-undone c = λ m t key. all_undone m t key

pub returns-clause-whole : goal.returns-clause-whole
returns-clause-whole c = λ m t key. aborted_records m t key
