use Rattle.std.proofs.Common.{◌<◌, Some, slice_set, ap, arith, ◌∙◌}
use Rattle.std.proofs.lemmas.List.{length-set}
use Rattle.node_cache.specs.Cache.{written_back}
use Rattle.node_cache.specs.Places.{filled}
use Rattle.node_cache.proofs.Packing.{counted, lifted, filled_at, is_packed, put_back, set_back, the_page}
use Rattle.node_cache.proofs.pages.Pages.written.Goals as goal

pub lift-requires-clause-filled : goal.lift-requires-clause-filled
lift-requires-clause-filled c = filled_at _ _ _ c.self.invariant (omega (arith, c.requires.place, counted _ _ _ c.self.view_is c.self.invariant))

pub written-slot-requires : goal.written-slot-requires
written-slot-requires c = c.requires.sent _ (lifted _ _ _ _ c.self.view_is c.requires.place c.lift.ensures.slot)

pub invariant_of-self : goal.invariant_of-self
invariant_of-self c =
    let below : c.args.i < c.self.inside.len = omega (arith, c.requires.place, counted _ _ _ c.self.view_is c.self.invariant) in
    is_packed _ (slice_set (filled c.self.inside.slots) c.args.i c.written-slot.result) _ c.self.invariant.few (length-set (filled c.self.inside.slots) _ _ ∙ c.self.invariant.count)
    (put_back _ _ _ _ _ c.self.invariant below (c.fill.ensures ∙ ap (λ ys. slice_set ys c.args.i (Some c.written-slot.result)) c.lift.ensures.slots))

pub returns : goal.returns
returns c = λ p e.
    let below : c.args.i < c.self.inside.len = omega (arith, c.requires.place, counted _ _ _ c.self.view_is c.self.invariant) in
    set_back _ _ _ _ _ _ c.self.view_is c.self.invariant below (c.fill.ensures ∙ ap (λ ys. slice_set ys c.args.i (Some c.written-slot.result)) c.lift.ensures.slots)
    ∙ ap (slice_set c.args.self.now c.args.i) (c.written-slot.ensures ∙ ap written_back (the_page _ _ _ _ _ c.self.view_is c.requires.place c.lift.ensures.slot e))
