use Rattle.std.proofs.Common.{◌≡◌, ◌∙◌, ap, sym, arith, length}
use Rattle.frame_pool.specs.Frames.{free_count, shown}
use Rattle.frame_pool.proofs.PoolLaws.{free_count-shown, length-shown, free_count-le-length}
use Rattle.frame_pool.proofs.pool.Pool.free.Goals as goal

pub overflow_cast-result : goal.overflow_cast-result
overflow_cast-result c =
    omega (arith, c.len.ensures, c.self.inside.free.ok.0, c.self.invariant.few, free_count-shown c.self.inside.blocks.items c.self.inside.free.items _ c.self.invariant, free_count-le-length (shown c.self.inside.blocks.items c.self.inside.free.items), length-shown c.self.inside.blocks.items c.self.inside.free.items)

pub returns : goal.returns
returns c =
    let long : c.len.result ≡ length c.self.inside.free.items = omega (arith, c.len.ensures, c.self.inside.free.ok.0) in
    long ∙ sym (free_count-shown c.self.inside.blocks.items c.self.inside.free.items _ c.self.invariant) ∙ ap free_count c.self.view_is
