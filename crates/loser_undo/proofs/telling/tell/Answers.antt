use Rattle.std.proofs.Common.{rules}
use Rattle.loser_undo.proofs.Answered.{if_ok_then}
use Rattle.loser_undo.proofs.Breaches.{has_still}
use Rattle.loser_undo.proofs.telling.tell.Goals as goal

pub returns-in_err-last-clause-there : goal.returns-in_err-last-clause-there
returns-in_err-last-clause-there g c = λ told recs has back.
    let stop = c.in_err-last.ensures.there told recs has in
    search (rules, stop)

pub returns-clause-there : goal.returns-clause-there
returns-clause-there g c = λ told recs has back.
    c.walk.ensures.there told recs (has_still c.args.log.now _ (g.D.Disk.state c.last_of.new.disk).block recs (c.in_ok-last.ensures.blocks told) has) back (c.in_ok-last.ensures.last told recs has)

pub returns-clause-loser : goal.returns-clause-loser
returns-clause-loser g c = if_ok_then _ _ c.walk.result c.walk.ensures.loser (λ l loser told recs has back.
    loser told recs (has_still c.args.log.now _ (g.D.Disk.state c.last_of.new.disk).block recs (c.in_ok-last.ensures.blocks told) has) back (c.in_ok-last.ensures.last told recs has))
