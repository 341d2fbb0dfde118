use Rattle.std.proofs.Common.{sym, arith, ◌++◌, ◌∷◌, [], vec_capacity}
use Rattle.frame_pool.specs.Frames.{IsOut, IsPool, shown}
use Rattle.frame_pool.proofs.PoolLaws.{IsOut-inside, room-shown, IsPool-pushed, IsPool-same}
use Rattle.frame_pool.proofs.pool.Pool.give.Goals as goal

pub push_reserved-requires : goal.push_reserved-requires
push_reserved-requires c =
    let out : IsOut (shown c.self.inside.blocks.items c.self.inside.free.items) c.f.inside.number = IsOut-inside c.self.inside.blocks.items c.self.inside.free.items c.args.self.now c.f.inside.number c.args.f c.self.view_is c.f.view_is c.requires in
    omega (arith, c.self.inside.free.ok.0, room-shown c.self.inside.blocks.items c.self.inside.free.items (vec_capacity c.self.inside.free) c.f.inside.number c.self.invariant out)

pub invariant_of-self : goal.invariant_of-self
invariant_of-self c =
    let out : IsOut (shown c.self.inside.blocks.items c.self.inside.free.items) c.f.inside.number = IsOut-inside c.self.inside.blocks.items c.self.inside.free.items c.args.self.now c.f.inside.number c.args.f c.self.view_is c.f.view_is c.requires in
    let pool : IsPool c.self.inside.blocks.items (c.self.inside.free.items ++ c.f.inside.number ∷ []) (vec_capacity c.self.inside.free) = IsPool-pushed c.self.inside.blocks.items c.self.inside.free.items c.f.inside.number (vec_capacity c.self.inside.free) c.self.invariant out in
    IsPool-same _ _ _ _ _ (sym c.push_reserved.ensures.items) (sym c.push_reserved.ensures.capacity) pool
