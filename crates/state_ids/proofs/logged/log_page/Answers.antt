use Rattle.std.proofs.Common.{◌++◌, ◌∷◌, [], subst}
use Rattle.sd_base.proofs.Results.{on_err}
use Rattle.private_log.specs.Spread.{IsCutLog}
use Rattle.private_log.specs.Log.{region, IsLogOn}
use Rattle.state_ids.proofs.logged.log_page.Goals as goal

pub returns-in_err-number-clause-cut : goal.returns-in_err-number-clause-cut
returns-in_err-number-clause-cut g c = on_err c.from_residual.result (λ t xs on.
    subst (λ text. IsCutLog (region c.args.log.now) c.args.log.now.start c.args.log.now.stable (g.D.Disk.state c.append.new.disk).block (xs ++ text ∷ [])) c.encode.ensures (c.in_err-number.ensures.cut t xs on))

pub returns-clause-log : goal.returns-clause-log
returns-clause-log g c = λ t xs on.
    subst (λ text. IsLogOn c.append.new.self (g.D.Disk.state c.append.new.disk).block (xs ++ text ∷ [])) c.encode.ensures (c.in_ok-number.ensures.log t xs on)
