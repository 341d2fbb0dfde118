use Rattle.std.proofs.Common.{◌++◌, ◌∷◌, [], subst}
use Rattle.sd_base.proofs.Results.{on_err}
use Rattle.private_log.specs.Spread.{IsCutLog}
use Rattle.private_log.specs.Log.{IsLogOn, region}
use Rattle.private_log.proofs.Outcomes.{cut_since}
use Rattle.loser_undo.proofs.Forced.{front_since, raised}
use Rattle.loser_undo.proofs.ending.append_forced.Goals as goal

pub returns-in_err-append-clause-cut : goal.returns-in_err-append-clause-cut
returns-in_err-append-clause-cut g c = on_err c.from_residual.result (λ told xs on.
    subst (λ t. IsCutLog (region c.args.log.now) c.args.log.now.start c.args.log.now.stable (g.D.Disk.state c.append.new.disk).block (xs ++ t ∷ [])) c.encode.ensures
    (c.in_err-append.ensures.cut told xs on))

pub returns-in_err-force-clause-cut : goal.returns-in_err-force-clause-cut
returns-in_err-force-clause-cut g c = on_err c.from_residual-in_err-force.result (λ told xs on.
    cut_since c.args.log.now c.append.new.self _ _ c.append.ensures.same (raised c.args.log.now c.append.new.self c.in_ok-append.ensures.stable_in_memory c.in_ok-append.ensures.stable_written)
    (c.in_err-force.ensures.cut told _ (subst (λ t. IsLogOn c.append.new.self (g.D.Disk.state c.append.new.disk).block (xs ++ t ∷ [])) c.encode.ensures (c.in_ok-append.ensures.log told xs on))))

pub returns-in_err-force-clause-any_outcome : goal.returns-in_err-force-clause-any_outcome
returns-in_err-force-clause-any_outcome g c = λ told xs on image out.
    front_since c.args.log.now c.append.new.self _ image c.append.ensures.same (raised c.args.log.now c.append.new.self c.in_ok-append.ensures.stable_in_memory c.in_ok-append.ensures.stable_written)
    (c.force.ensures.any_outcome told _ (subst (λ t. IsLogOn c.append.new.self (g.D.Disk.state c.append.new.disk).block (xs ++ t ∷ [])) c.encode.ensures (c.in_ok-append.ensures.log told xs on)) image out)

pub returns-clause-log : goal.returns-clause-log
returns-clause-log g c = λ told xs on.
    c.in_ok-force.ensures.log told _ (subst (λ t. IsLogOn c.append.new.self (g.D.Disk.state c.append.new.disk).block (xs ++ t ∷ [])) c.encode.ensures (c.in_ok-append.ensures.log told xs on))

pub returns-clause-any_outcome : goal.returns-clause-any_outcome
returns-clause-any_outcome g c = λ told xs on image out.
    front_since c.args.log.now c.append.new.self _ image c.append.ensures.same (raised c.args.log.now c.append.new.self c.in_ok-append.ensures.stable_in_memory c.in_ok-append.ensures.stable_written)
    (c.force.ensures.any_outcome told _ (subst (λ t. IsLogOn c.append.new.self (g.D.Disk.state c.append.new.disk).block (xs ++ t ∷ [])) c.encode.ensures (c.in_ok-append.ensures.log told xs on)) image out)
