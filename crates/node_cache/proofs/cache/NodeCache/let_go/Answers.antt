use Rattle.std.proofs.Common.{ap, subst, sym, ◌∙◌}
use Rattle.std.specs.List.{slice_get}
use Rattle.node_cache.specs.Cache.{IsCache}
use Rattle.node_cache.specs.Places.{shown}
use Rattle.node_cache.proofs.Finding.{got}
use Rattle.node_cache.proofs.Without.{cache_without, out_within}
use Rattle.node_cache.proofs.cache.NodeCache.let_go.Goals as goal

pub park-requires-clause-page : goal.park-requires-clause-page
park-requires-clause-page c =
    let owned = c.requires.owned (shown c.remove.result) (ap (λ s. slice_get s.pages c.args.i) (sym c.self.view_is) ∙ c.remove.ensures.slot) in
    rw c.release-frame.ensures.ticket (out_within _ _ _ owned)

pub invariant_of-self : goal.invariant_of-self
invariant_of-self c =
    subst (IsCache c.self.inside.node) (sym c.remove.ensures.pages) (cache_without c.self.inside.node c.self.inside.pages c.args.i (got c.self.inside.pages c.args.i _ c.remove.ensures.slot).0 c.self.invariant)
