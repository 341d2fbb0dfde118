use Rattle.std.proofs.Common.{rules, arith, ap}
use Rattle.sd_base.proofs.Results.{on_err}
use Rattle.private_log.specs.Log.{LogState}
use Rattle.private_log.proofs.LogLaws.{covered_below, loaded_stopped}
use Rattle.private_log.proofs.log.Log.cover_below.Goals as goal

pub returns-in_err-cover-clause-cut : goal.returns-in_err-cover-clause-cut
returns-in_err-cover-clause-cut g c = on_err c.from_residual.result (λ t xs h.
    loaded_stopped c.args.self.now c.args.port.0 (g.D.Disk.state c.args.disk.now).block (g.D.Disk.state c.cover.new.disk).block xs
    (λ k. g.met.D.Disk.lawful c.cover.new.disk k t) (c.requires.free t) (c.cover.ensures.outcomes t) (c.cover.ensures.foreign t) (c.in_err-cover.ensures.cut t) h)

pub returns-clause-log : goal.returns-clause-log
returns-clause-log g c = λ t xs high h.
    covered_below c.args.self.now _ c.args.port.0 c.args.number (g.D.Disk.state c.args.disk.now).block (g.D.Disk.state c.cover.new.disk).block xs
    (c.requires.free t) (c.cover.ensures.outcomes t) (c.in_ok-cover.ensures.covered t) (search rules) (search rules) (search rules) (omega (arith, c.if-self-number.false, ap (λ (l : LogState). l.stable) c.self.view_is)) (search rules) c.requires.number high h
