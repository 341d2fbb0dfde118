use Rattle.std.proofs.Common.{◌≡◌, None, ◌-◌, suc, slice_index_or, ap, sym, arith, ◌∙◌}
use Rattle.std.specs.List.{remove}
use Rattle.node_cache.specs.Places.{packed}
use Rattle.node_cache.proofs.Packing.{length_packed, moved_up, held_at, holds_some}
use Rattle.node_cache.proofs.pages.take_out.Goals as goal

pub lift-slot-requires-clause-place : goal.lift-slot-requires-clause-place
lift-slot-requires-clause-place c = rw c.requires.packed.1 (omega (arith, c.requires.place, length_packed c.requires.packed.0 (16 - c.args.len), c.requires.packed.2))

pub lift-slot-requires-clause-filled : goal.lift-slot-requires-clause-filled
lift-slot-requires-clause-filled c = rw c.requires.packed.1 (holds_some c.requires.packed.0 _ _ _ (omega (arith, c.requires.place, c.requires.packed.2)))

pub returns : goal.returns
returns c = λ xs e count. (
  let free : suc (16 - c.args.len) ≡ 17 - c.args.len = omega (arith, c.requires.len) in
      rw (c.rotate_left.ensures.after, c.lift-slot.ensures.slots, e)
      (moved_up xs c.args.i _ _ (omega (arith, count, c.requires.place)) (omega (arith, c.requires.place)) ∙ ap (packed (remove xs c.args.i)) free),
  held_at xs c.args.i _ None _ (omega (arith, c.requires.place, count)) (ap (λ ys. slice_index_or ys c.args.i None) (sym e) ∙ c.lift-slot.ensures.slot),
)
