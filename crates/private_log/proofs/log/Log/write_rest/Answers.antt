use Rattle.std.proofs.Common.{◌≡◌, ap, arith}
use Rattle.sd_base.proofs.Results.{ok_then, err_then}
use Rattle.private_log.specs.Log.{LogState}
use Rattle.private_log.proofs.Outcomes.{on_loaded}
use Rattle.private_log.proofs.log.Log.write_rest.Goals as goal

pub returns-clause-log : goal.returns-clause-log
returns-clause-log g c = ok_then c.write_tail.result c.write_tail.ensures.log (λ log t xs on.
    let tail : c.self.inside.tail ≡ c.args.self.now.tail = ap (λ (l : LogState). l.tail) c.self.view_is in
    log t xs (on_loaded c.args.self.now (g.D.Disk.state c.args.disk.now).block xs (λ e. c.if-self-eq0.false (omega (arith, tail, e))) on))

pub returns-clause-cut : goal.returns-clause-cut
returns-clause-cut g c = err_then c.write_tail.result c.write_tail.ensures.cut (λ cut t xs on.
    let tail : c.self.inside.tail ≡ c.args.self.now.tail = ap (λ (l : LogState). l.tail) c.self.view_is in
    cut t xs (on_loaded c.args.self.now (g.D.Disk.state c.args.disk.now).block xs (λ e. c.if-self-eq0.false (omega (arith, tail, e))) on))
