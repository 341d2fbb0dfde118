use Rattle.recovery_theory.proofs.KeptRecords.{archive_keeps, begin_keeps, compensation_keeps, force_keeps, locks_keep, loss_keeps, move_keeps, pass_keeps, purge_keeps, redo_keeps, write_keeps}
use Rattle.recovery_theory.proofs.UpdatedRecords.{stop_keeps, update_keeps}
use Rattle.recovery_theory.proofs.MappedRecords.{use_keeps, free_keeps}
use Rattle.recovery_theory.proofs.PlaceLocks.{use_with_locks_keeps}
use Rattle.recovery_theory.proofs.laws.law_of_kept_records.Goals as goal

pub returns : goal.returns
returns c = record {
  begin = begin_keeps;
  update = update_keeps;
  compensation = compensation_keeps;
  place_use = use_keeps;
  place_use_with_locks = use_with_locks_keeps;
  place_free = free_keeps;
  force = force_keeps;
  stop = stop_keeps;
  locks = locks_keep;
  write = write_keeps;
  loss = loss_keeps;
  pass = pass_keeps;
  redo = redo_keeps;
  archive = archive_keeps;
  move_start = move_keeps;
  purge = purge_keeps;
}
