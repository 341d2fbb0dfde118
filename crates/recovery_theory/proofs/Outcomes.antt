-- Devices stand at every cut.
use Rattle.std.proofs.Common.{◌+◌, ◌^◌}
use Rattle.recovery_theory.specs.Outcomes.{StandsForAtEachCut}
use Rattle.recovery_theory.proofs.OpenedDevices.{each_cut}
use Rattle.recovery_theory.proofs.Room.{sound_at_cuts}
use Rattle.recovery_theory.proofs.Headroom.{headroom_at_cuts}

pub stands_at_cuts : StandsForAtEachCut
unfolding each_cut
stands_at_cuts p records nodes cut holds roomy rising headroom is = record {
  stands = each_cut p records cut holds is;
  sound = sound_at_cuts p cut holds.history roomy is;
  headroom = λ x lt. headroom_at_cuts p cut nodes x (2 ^ 63 + 2 ^ 40) holds.history roomy rising is (headroom x lt);
}
