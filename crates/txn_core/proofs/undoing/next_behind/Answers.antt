use Rattle.std.proofs.Common.{rules, sym, subst}
use Rattle.txn_core.specs.Told.{HasRecords}
use Rattle.txn_core.proofs.undoing.next_behind.Goals as goal

pub returns-in_err-rec-clause-there : goal.returns-in_err-rec-clause-there
returns-in_err-rec-clause-there g c = λ told recs has from below.
    let stop = c.in_err-rec.ensures.there told recs (subst (λ l. HasRecords l (g.D.Disk.state c.args.disk.now).block recs) (sym c.log.ensures) has) in
    search (rules, stop)
