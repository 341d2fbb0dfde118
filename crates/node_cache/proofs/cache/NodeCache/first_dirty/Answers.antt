use Rattle.std.proofs.Common.{◌≡◌, refl, rules, min, arith, ap, sym, ◌∙◌}
use Rattle.std.specs.List.{reduce, filter_map, slice_get}
use Rattle.std.specs.Option.{option_and_then}
use Rattle.std.proofs.lemmas.Iterator.{YieldsList-from_range}
use Rattle.std.proofs.lemmas.Iterator.Adapters.{option_map_id}
use Rattle.std.proofs.lemmas.Iterator.Consumers.{YieldsList-at, YieldsList-from_filter_map, min_from_yields_List}
use Rattle.node_cache.specs.Cache.{first_change}
use Rattle.node_cache.proofs.LeastChange.{at_places, least_is, read_at}
use Rattle.node_cache.proofs.cache.NodeCache.first_dirty.Goals as goal

least : (c : goal.After-min) → c.min.result ≡ reduce min (filter_map first_change c.self.inside.pages)
least c =
    sym (option_map_id c.min.result)
    ∙ min_from_yields_List c.filter_map.result c.min.result c.min.ensures.ran
    (YieldsList-from_filter_map _ (λ i. option_and_then first_change (slice_get c.self.inside.pages i)) (YieldsList-at c.filter_map.ensures.source (YieldsList-from_range 0 c.len.result c.len.result refl (omega arith))) c.filter_map.ensures.closure (λ x r q k. search (rules, read_at)))
    ∙ ap (reduce min) (at_places first_change c.self.inside.pages c.len.result c.len.ensures)

pub returns-clause-some : goal.returns-clause-some
returns-clause-some c = rw (← c.self.view_is) (least_is c.self.inside.pages c.min.result (least c)).0

pub returns-clause-none : goal.returns-clause-none
returns-clause-none c = rw (← c.self.view_is) (least_is c.self.inside.pages c.min.result (least c)).1
