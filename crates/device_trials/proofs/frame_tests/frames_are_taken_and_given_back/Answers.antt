use Rattle.std.proofs.Common.{◌≢◌, sym}
use Rattle.frame_pool.proofs.PoolLaws.{IsOut-taken, IsOut-given, taken-apart}
use Rattle.device_trials.proofs.frame_tests.frames_are_taken_and_given_back.Goals as goal

-- the frames stay out while they are written

pub bytes-requires : goal.bytes-requires
bytes-requires g c = c.fill-2.ensures.stay _ (c.fill.ensures.stay _ (IsOut-taken _ _ _ _ c.taken-second.ensures.others c.taken-first.ensures.out))

pub bytes-requires-2 : goal.bytes-requires-2
bytes-requires-2 g c = c.fill-2.ensures.stay _ (c.fill.ensures.stay _ c.taken-second.ensures.out)

-- the second is none that was out when it was taken
pub give-requires-2 : goal.give-requires-2
give-requires-2 g c =
    let apart : c.taken-second.result ≢ c.taken-first.result = λ same. taken-apart _ _ _ _ c.taken-second.ensures.others c.taken-first.ensures.out (sym same) in
    IsOut-given _ _ _ _ c.give.ensures.free apart (c.fill-2.ensures.stay _ (c.fill.ensures.stay _ c.taken-second.ensures.out))
