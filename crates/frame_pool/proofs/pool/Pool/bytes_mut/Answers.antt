use Rattle.std.proofs.Common.{arith, refl}
use Rattle.frame_pool.proofs.PoolLaws.{number-within, frame_at-inside, shown-inside}
use Rattle.frame_pool.proofs.pool.Pool.bytes_mut.Goals as goal

pub index_mut-requires : goal.index_mut-requires
index_mut-requires c = omega (arith, c.self.inside.blocks.ok.0, number-within c.self.inside.blocks.items c.self.inside.free.items c.args.self.now c.f.inside.number c.args.f.now c.self.view_is c.f.view_is c.requires)

pub returns : goal.returns
returns c = (
  (refl, λ w. shown-inside c.self.inside.blocks.items c.self.inside.free.items c.args.self.now c.f.inside.number c.args.f.now c.self.view_is c.f.view_is w c.requires),
  record {
    writes_back = tt;
    value = frame_at-inside c.self.inside.blocks.items c.self.inside.free.items c.args.self.now c.f.inside.number c.args.f.now c.self.view_is c.f.view_is c.index_mut.result.now c.requires c.index_mut.ensures.value;
  },
)
