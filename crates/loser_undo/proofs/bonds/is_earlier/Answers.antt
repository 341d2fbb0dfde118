use Rattle.std.proofs.Common.{rules}
use Rattle.loser_undo.proofs.bonds.is_earlier.Goals as goal

pub returns-in_err-rec-clause-there : goal.returns-in_err-rec-clause-there
returns-in_err-rec-clause-there g c = λ told recs has.
    let stop = c.in_err-rec.ensures.there told recs has in
    search (rules, stop)
