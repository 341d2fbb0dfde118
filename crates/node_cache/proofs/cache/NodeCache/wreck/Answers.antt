use Rattle.std.proofs.Common.{ap, sym, subst, ◌∙◌}
use Rattle.page_owner.specs.Owners.{owner_of}
use Rattle.node_cache.specs.Cache.{AreOwned}
use Rattle.node_cache.specs.Room.{given_up}
use Rattle.node_cache.proofs.Parking.{all_owned, all_parked}
use Rattle.node_cache.proofs.cache.NodeCache.wreck.Goals as goal

pub wreck-requires-clause-owned : goal.wreck-requires-clause-owned
wreck-requires-clause-owned g c = all_owned (record { log = c.self.inside.log; node = c.self.inside.node; pages = c.self.inside.pages }) c.args.owners.now c.self.invariant.own (subst (AreOwned c.args.owners.now) (sym c.self.view_is) c.requires.owned)

pub returns-clause-parked : goal.returns-clause-parked
returns-clause-parked g c = λ x.
    ap (λ owners. owner_of owners x) c.wreck.ensures.owners
    ∙ all_parked (record { log = c.self.inside.log; node = c.self.inside.node; pages = c.self.inside.pages }) c.args.owners.now x c.self.invariant.own (subst (AreOwned c.args.owners.now) (sym c.self.view_is) c.requires.owned)
    ∙ ap (λ s. given_up s.node (owner_of c.args.owners.now x)) c.self.view_is
