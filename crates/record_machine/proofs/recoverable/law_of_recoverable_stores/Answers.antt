use Rattle.record_machine.proofs.RecoverableBacks.{back_recoverable}
use Rattle.record_machine.proofs.RecoverableBegins.{begun_recoverable}
use Rattle.record_machine.proofs.RecoverableChanges.{changed_recoverable}
use Rattle.record_machine.proofs.RecoverableFormats.{formatted_recoverable}
use Rattle.record_machine.proofs.RecoverablePages.{forced_recoverable, started_recoverable, taken_recoverable, written_recoverable}
use Rattle.record_machine.proofs.RecoverableLocks.{locked_recoverable, unlocked_recoverable}
use Rattle.record_machine.proofs.RecoverableEnds.{sealed_recoverable}
use Rattle.record_machine.proofs.RecoverableUses.{used_recoverable}
use Rattle.record_machine.proofs.recoverable.law_of_recoverable_stores.Goals as goal

pub returns : goal.returns
returns c = record {
  formatted = formatted_recoverable;
  started = started_recoverable;
  taken = taken_recoverable;
  forced = forced_recoverable;
  written = written_recoverable;
  locked = locked_recoverable;
  unlocked = unlocked_recoverable;
  begun = begun_recoverable;
  used = used_recoverable;
  changed = changed_recoverable;
  back = back_recoverable;
  sealed = sealed_recoverable;
}
