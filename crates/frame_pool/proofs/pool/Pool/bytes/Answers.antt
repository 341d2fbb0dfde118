use Rattle.std.proofs.Common.{arith}
use Rattle.frame_pool.proofs.PoolLaws.{number-within, frame_at-inside}
use Rattle.frame_pool.proofs.pool.Pool.bytes.Goals as goal

pub index-requires : goal.index-requires
index-requires c = omega (arith, c.self.inside.blocks.ok.0, number-within c.self.inside.blocks.items c.self.inside.free.items c.args.self.now c.f.inside.number c.args.f.now c.self.view_is c.f.view_is c.requires)

pub returns : goal.returns
returns c = frame_at-inside c.self.inside.blocks.items c.self.inside.free.items c.args.self.now c.f.inside.number c.args.f.now c.self.view_is c.f.view_is c.index.result.now c.requires c.index.ensures
