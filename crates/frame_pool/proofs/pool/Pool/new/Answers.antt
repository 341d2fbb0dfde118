use Rattle.std.proofs.Common.{◌≡◌, ◌∙◌, ap, sym, arith, refl, length, vec_capacity}
use Rattle.frame_pool.specs.Frames.{shown}
use Rattle.frame_pool.proofs.PoolLaws.{IsPool-same, IsPool-all, shown-all}
use Rattle.frame_pool.proofs.pool.Pool.new.Goals as goal

pub invariant_of-result : goal.invariant_of-result
invariant_of-result c =
    let count : length c.resize.new.self.items ≡ c.args.frames = omega (arith, c.resize.new.self.ok.0, c.in_ok-resize.ensures.len) in
    let room = c.in_ok-free.ensures.room in
    IsPool-same _ _ _ _ _ (sym c.in_ok-free.ensures.numbers) refl (IsPool-all c.resize.new.self.items c.args.frames (vec_capacity c.in_ok-free.free) count (omega arith) room)

pub returns : goal.returns
returns c =
    let count : length c.resize.new.self.items ≡ c.args.frames = omega (arith, c.resize.new.self.ok.0, c.in_ok-resize.ensures.len) in
    ap (shown c.resize.new.self.items) c.in_ok-free.ensures.numbers ∙ shown-all c.resize.new.self.items c.args.frames count
