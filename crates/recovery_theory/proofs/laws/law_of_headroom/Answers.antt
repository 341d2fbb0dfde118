use Rattle.recovery_theory.proofs.Headroom.{end_keeps_rising, force_keeps_rising, formatted_is_rising, headroom_at_cuts, logged_keeps_rising, move_keeps_rising, pass_keeps_rising, stop_keeps_rising}
use Rattle.recovery_theory.proofs.laws.law_of_headroom.Goals as goal

pub returns : goal.returns
returns c = record {
  at_cuts = headroom_at_cuts;
  logged = logged_keeps_rising;
  end = end_keeps_rising;
  force = force_keeps_rising;
  stop = stop_keeps_rising;
  pass = pass_keeps_rising;
  move_start = move_keeps_rising;
  formatted = formatted_is_rising;
}
