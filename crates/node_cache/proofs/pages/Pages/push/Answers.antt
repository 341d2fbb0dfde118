use Rattle.std.proofs.Common.{◌+◌, ◌<◌, ◌++◌, [], ◌∷◌, map, ap, arith, ◌∙◌}
use Rattle.std.proofs.lemmas.List.{length-append, map-append}
use Rattle.node_cache.specs.Places.{shown, filled}
use Rattle.node_cache.proofs.Packing.{push-packed, counted, filled-of, is_packed}
use Rattle.node_cache.proofs.pages.Pages.push.Goals as goal

below : (c : goal.After-self-2-1) → c.self.inside.len < 16
below c = omega (arith, c.requires, counted _ _ _ c.self.view_is c.self.invariant)

pub invariant_of-self : goal.invariant_of-self
invariant_of-self c = is_packed _ (filled c.self.inside.slots ++ c.args.slot ∷ []) _ (omega (arith, below c)) (length-append (filled c.self.inside.slots) _ ∙ ap (λ n. n + 1) c.self.invariant.count)
    (rw c.fill.ensures (push-packed _ _ _ c.self.invariant (below c)))

pub returns : goal.returns
returns c = rw c.fill.ensures (ap (map shown) (filled-of _ (filled c.self.inside.slots ++ c.args.slot ∷ []) _ (push-packed _ _ _ c.self.invariant (below c)))
    ∙ map-append shown (filled c.self.inside.slots) _ ∙ ap (λ xs. xs ++ shown c.args.slot ∷ []) c.self.view_is)
