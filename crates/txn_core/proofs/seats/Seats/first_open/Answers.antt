use Rattle.std.proofs.Common.{◌≡◌, rules, tests, min, ap, sym, ◌∙◌}
use Rattle.std.specs.List.{reduce, filter_map}
use Rattle.std.specs.Option.{option_map}
use Rattle.std.proofs.lemmas.Iterator.{YieldsList-from_slice}
use Rattle.std.proofs.lemmas.Iterator.Adapters.{option_map_id}
use Rattle.std.proofs.lemmas.Iterator.Consumers.{YieldsList-from_filter_map, min_from_yields_List}
use Rattle.txn_core.proofs.SumLaws.{first_is}
use Rattle.txn_core.proofs.seats.Seats.first_open.Goals as goal

least : (c : goal.After-min) → c.min.result ≡ reduce min (filter_map (option_map (λ o. o.begin)) c.self.inside.seats)
least c =
    sym (option_map_id c.min.result)
    ∙ min_from_yields_List c.filter_map.result c.min.result c.min.ensures.ran
    (YieldsList-from_filter_map _ (option_map (λ o. o.begin)) (YieldsList-from_slice c.self.inside.seats cc) c.filter_map.ensures.closure (λ x r q k. search (rules, tests)))

pub returns-clause-some : goal.returns-clause-some
returns-clause-some c = (first_is c.args.self.now c.self.inside.seats c.min.result (ap (λ s. s.seats) (sym c.self.view_is)) (least c)).0

pub returns-clause-none : goal.returns-clause-none
returns-clause-none c = (first_is c.args.self.now c.self.inside.seats c.min.result (ap (λ s. s.seats) (sym c.self.view_is)) (least c)).1
