use Rattle.std.proofs.Common.{rules}
use Rattle.sd_base.proofs.Results.{on_err, err_of}
use Rattle.private_log.specs.Spread.{IsFreeRegion}
use Rattle.private_log.proofs.SpreadLaws.{free_region_but}
use Rattle.private_log.proofs.LogLaws.{carry}
use Rattle.private_log.specs.Log.{region, tail_place}
use Rattle.private_log.proofs.Outcomes.{on_outcome, cut_outcome, on_outcome_since, cut_since, written_stopped, forced}
use Rattle.private_log.proofs.log.Log.force.Goals as goal

pub returns-then-self-clause-any_outcome : goal.returns-then-self-clause-any_outcome
returns-then-self-clause-any_outcome g c = λ t xs on image out. on_outcome c.args.self.now (g.D.Disk.state c.args.disk.now).block xs image on out

pub returns-in_err-write_rest-clause-any_outcome :
    goal.returns-in_err-write_rest-clause-any_outcome
returns-in_err-write_rest-clause-any_outcome g c = λ t xs on image out.
    cut_outcome _ _ _ (g.D.Disk.state c.write_rest.new.disk).block xs image (c.in_err-write_rest.ensures.cut t xs on) out

pub returns-in_err-cover-clause-cut : goal.returns-in_err-cover-clause-cut
returns-in_err-cover-clause-cut g c = on_err c.from_residual-in_err-cover.result (λ t xs on.
    cut_since c.args.self.now c.write_rest.new.self (g.D.Disk.state c.cover.new.disk).block xs c.write_rest.ensures.same c.in_ok-write_rest.ensures.stable
    (written_stopped c.write_rest.new.self c.args.port.0 (g.D.Disk.state c.write_rest.new.disk).block (g.D.Disk.state c.cover.new.disk).block xs (λ k. g.met.D.Disk.lawful c.cover.new.disk k t)
    (carry c.args.self.now c.write_rest.new.self (λ r start. IsFreeRegion r c.args.port.0 (g.D.Disk.state c.write_rest.new.disk).block) c.write_rest.ensures.same
    (free_region_but (region c.args.self.now) (tail_place c.args.self.now) c.args.port.0 (g.D.Disk.state c.args.disk.now).block (g.D.Disk.state c.write_rest.new.disk).block (c.write_rest.ensures.writers t) (c.requires.free t)))
    (c.cover.ensures.outcomes t) (c.cover.ensures.foreign t) (c.in_err-cover.ensures.cut t) (c.in_ok-write_rest.ensures.log t xs on)))

pub returns-in_err-cover-clause-any_outcome : goal.returns-in_err-cover-clause-any_outcome
returns-in_err-cover-clause-any_outcome g c = λ t xs on image out.
    cut_outcome _ _ _ (g.D.Disk.state c.cover.new.disk).block xs image (err_of c.from_residual-in_err-cover.result c.from_residual-in_err-cover.ensures.0 (returns-in_err-cover-clause-cut g c) t xs on) out

pub returns-clause-log : goal.returns-clause-log
returns-clause-log g c = λ t xs on.
    forced c.args.self.now c.write_rest.new.self _ c.args.port.0 (g.D.Disk.state c.args.disk.now).block (g.D.Disk.state c.write_rest.new.disk).block (g.D.Disk.state c.cover.new.disk).block xs
    c.write_rest.ensures.same (search rules) c.write_rest.ensures.tail c.write_rest.ensures.block (search rules) (search rules) (search rules)
    (carry c.args.self.now c.write_rest.new.self (λ r start. IsFreeRegion r c.args.port.0 (g.D.Disk.state c.write_rest.new.disk).block) c.write_rest.ensures.same
    (free_region_but (region c.args.self.now) (tail_place c.args.self.now) c.args.port.0 (g.D.Disk.state c.args.disk.now).block (g.D.Disk.state c.write_rest.new.disk).block (c.write_rest.ensures.writers t) (c.requires.free t)))
    (c.cover.ensures.outcomes t) (c.in_ok-cover.ensures.covered t) on (c.in_ok-write_rest.ensures.log t xs on)

pub returns-clause-any_outcome : goal.returns-clause-any_outcome
returns-clause-any_outcome g c = λ t xs on image out.
    on_outcome_since c.args.self.now _ (g.D.Disk.state c.cover.new.disk).block xs image (search rules) (search rules) (returns-clause-log g c t xs on) out
