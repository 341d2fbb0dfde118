use Rattle.recovery_theory.proofs.Room.{end_keeps_room, force_keeps_room, logged_keeps_room, move_keeps_room, sound_at_cuts, stop_keeps_room}
use Rattle.recovery_theory.proofs.RoomTaken.{room_for_map_change, room_for_one_more, room_for_owed}
use Rattle.recovery_theory.proofs.laws.law_of_room.Goals as goal

pub returns : goal.returns
returns c = record {
  at_cuts = sound_at_cuts;
  one_more = room_for_one_more;
  map_change = room_for_map_change;
  owed = room_for_owed;
  logged = logged_keeps_room;
  end = end_keeps_room;
  force = force_keeps_room;
  stop = stop_keeps_room;
  move_start = move_keeps_room;
}
