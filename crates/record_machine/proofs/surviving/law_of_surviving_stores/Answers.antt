use Rattle.record_machine.proofs.DeedStops.{back_survives, begun_survives, changed_survives}
use Rattle.record_machine.proofs.DroppedStops.{dropped_survives}
use Rattle.record_machine.proofs.EndStops.{ended_survives}
use Rattle.record_machine.proofs.SealStops.{aborted_survives, committed_survives}
use Rattle.record_machine.proofs.StillStops.{forced_survives, formatted_survives, locked_survives, started_survives, sure_survives, unlocked_survives, written_survives}
use Rattle.record_machine.proofs.TakenStops.{taken_survives}
use Rattle.record_machine.proofs.UseStops.{used_survives}
use Rattle.record_machine.proofs.surviving.law_of_surviving_stores.Goals as goal

pub returns : goal.returns
returns c = record {
  formatted = formatted_survives;
  started = started_survives;
  taken = taken_survives;
  dropped = dropped_survives;
  forced = forced_survives;
  sure = sure_survives;
  written = written_survives;
  locked = locked_survives;
  unlocked = unlocked_survives;
  begun = begun_survives;
  used = used_survives;
  changed = changed_survives;
  back = back_survives;
  committed = committed_survives;
  aborted = aborted_survives;
  ended = ended_survives;
}
