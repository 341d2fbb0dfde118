use Rattle.std.specs.Prelude.{◌*◌}
use Rattle.std.proofs.Common.{subst}
use Rattle.store_pages.specs.Updates.{IsLeftAfter}
use Rattle.store_pages.proofs.Results.{ok_then}
use Rattle.store_pages.proofs.abort_updates.find_update.Goals as goal

pub returns-in-None-clause-there : goal.returns-in-None-clause-there
returns-in-None-clause-there g c = λ told recs t before is has tells left. c.next.ensures.there told recs has tells

pub returns-in-Some-clause-found : goal.returns-in-Some-clause-found
returns-in-Some-clause-found g c =
    ok_then c.next_before.result _ _ c.next_before.ensures.found (λ o found told recs t before is has tells left.
    let parts = subst (λ a. IsLeftAfter t.begin (6 * c.args.cache.now.log.start) recs a before) c.in-Some.is left in
    found told recs t parts.0 before is has tells parts.1)
