use Rattle.std.proofs.Common.{rules, tests, option_map}
use Rattle.std.proofs.lemmas.Iterator.{YieldsList-from_map, YieldsList-from_slice}
use Rattle.std.proofs.lemmas.Iterator.Consumers.{fits_by_from_yields_list}
use Rattle.txn_core.specs.Seats.{owed_in}
use Rattle.txn_core.specs.Shown.{shown}
use Rattle.txn_core.proofs.SumLaws.{owed_fits}
use Rattle.txn_core.proofs.seats.Seats.owed.Goals as goal

pub sum-requires-clause-fits : goal.sum-requires-clause-fits
sum-requires-clause-fits c = fits_by_from_yields_list _ _ c.map.result _ (YieldsList-from_map _ (λ o. owed_in (option_map shown o)) (YieldsList-from_slice c.self.inside.seats cc) c.map.ensures.closure (λ x r q k. search (rules, tests))) (owed_fits c.self.inside.seats (search rules) c.self.invariant)
