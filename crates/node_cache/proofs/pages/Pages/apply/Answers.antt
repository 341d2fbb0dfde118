use Rattle.std.proofs.Common.{◌≡◌, ◌<◌, Some, map, slice_set, ap, subst, arith, ◌∙◌}
use Rattle.std.proofs.lemmas.List.{length-set, map-set}
use Rattle.state_ids.specs.Held.{Shows, KeepsFrames}
use Rattle.state_ids.specs.PageImage.{changed, is_map, is_map_op}
use Rattle.node_cache.specs.Cache.{changed_by}
use Rattle.node_cache.specs.Places.{shown, filled}
use Rattle.node_cache.proofs.Packing.{counted, lifted, filled_at, filled-of, is_packed, put_back}
use Rattle.node_cache.proofs.pages.Pages.apply.Goals as goal

pub lift-slot-requires-clause-filled : goal.lift-slot-requires-clause-filled
lift-slot-requires-clause-filled c = filled_at _ _ _ c.self.invariant (omega (arith, c.requires.place, counted _ _ _ c.self.view_is c.self.invariant))

pub apply-requires-clause-page : goal.apply-requires-clause-page
apply-requires-clause-page c = c.requires.page _ (lifted _ _ _ _ c.self.view_is c.requires.place c.lift-slot.ensures.slot)

pub apply-requires-clause-node : goal.apply-requires-clause-node
apply-requires-clause-node c = c.requires.node _ (lifted _ _ _ _ c.self.view_is c.requires.place c.lift-slot.ensures.slot)

pub apply-requires-clause-image : goal.apply-requires-clause-image
apply-requires-clause-image c = c.requires.image _ (lifted _ _ _ _ c.self.view_is c.requires.place c.lift-slot.ensures.slot)

pub invariant_of-self : goal.invariant_of-self
invariant_of-self c =
    let below : c.args.i < c.self.inside.len = omega (arith, c.requires.place, counted _ _ _ c.self.view_is c.self.invariant) in
    is_packed _ (slice_set (filled c.self.inside.slots) c.args.i c.apply.result) _ c.self.invariant.few (length-set (filled c.self.inside.slots) _ _ ∙ c.self.invariant.count)
    (put_back _ _ _ _ _ c.self.invariant below (c.fill.ensures ∙ ap (λ ys. slice_set ys c.args.i (Some c.apply.result)) c.lift-slot.ensures.slots))

pub returns-clause-pages : goal.returns-clause-pages
returns-clause-pages c = λ p e.
    let below : c.args.i < c.self.inside.len = omega (arith, c.requires.place, counted _ _ _ c.self.view_is c.self.invariant) in
    let at = lifted _ _ _ _ c.self.view_is c.requires.place c.lift-slot.ensures.slot in
    let same : shown c.lift-slot.result ≡ p = cc in
    ap (map shown) (filled-of _ (slice_set (filled c.self.inside.slots) c.args.i c.apply.result) _
    (put_back _ _ _ _ _ c.self.invariant below (c.fill.ensures ∙ ap (λ ys. slice_set ys c.args.i (Some c.apply.result)) c.lift-slot.ensures.slots)))
    ∙ map-set shown (filled c.self.inside.slots) c.args.i c.apply.result
    ∙ ap (λ ps. slice_set ps c.args.i (shown c.apply.result)) c.self.view_is
    ∙ ap (slice_set c.args.self.now c.args.i) (c.apply.ensures.slot ∙ ap (changed_by c.args.l.number) same)

pub returns-clause-frames : goal.returns-clause-frames
returns-clause-frames c = λ p e.
    let at = lifted _ _ _ _ c.self.view_is c.requires.place c.lift-slot.ensures.slot in
    let same : shown c.lift-slot.result ≡ p = cc in
    subst (λ q. KeepsFrames q.frame c.args.pool.now c.apply.new.pool) same c.apply.ensures.frames

pub returns-clause-image : goal.returns-clause-image
returns-clause-image c = λ p image e.
    let at = lifted _ _ _ _ c.self.view_is c.requires.place c.lift-slot.ensures.slot in
    let same : shown c.lift-slot.result ≡ p = cc in
    subst (λ q. Shows c.args.pool.now q.frame image → is_map image ≡ is_map_op c.args.l.op → Shows c.apply.new.pool q.frame (changed c.args.l.op image)) same (c.apply.ensures.image image)
