use Rattle.std.proofs.Common.{refl}
use Rattle.frame_pool.proofs.PoolLaws.{IsOut-written}
use Rattle.device_trials.proofs.frame_tests.fill.Goals as goal

pub returns-clause-stay : goal.returns-clause-stay
returns-clause-stay c = λ k out. IsOut-written c.args.pool.now _ c.args.f.now k _ refl out
