use Rattle.std.proofs.Common.{◌≡◌, ap, arith, inr, subst, sym, ◌∙◌}
use Rattle.std.specs.List.{count_by}
use Rattle.sd_base.proofs.Results.{on_err}
use Rattle.private_log.specs.Log.{IsLogOn}
use Rattle.private_log.proofs.Outcomes.{less_front, on_outcome}
use Rattle.node_cache.specs.Cache.{IsTiedToDisk, has_changes}
use Rattle.node_cache.specs.Places.{between}
use Rattle.node_cache.specs.Records.{IsTiedToRecords}
use Rattle.node_cache.proofs.Ranges.{none_changed_within, same_within}
use Rattle.node_cache.proofs.SamePages.{cache_same}
use Rattle.node_cache.proofs.WriteAhead.{stable_below, log_stays, all_there, before_written, log_cut, tied_written}
use Rattle.node_cache.proofs.cache.NodeCache.write_back.Goals as goal

pub invariant_of-self : goal.invariant_of-self
invariant_of-self g c = cache_same _ _ _ (same_within _ _ _ _ c.in_ok-write_range.ensures.written) c.self-then-count-gt0.invariant

pub returns-in_err-write_range-clause-ahead : goal.returns-in_err-write_range-clause-ahead
returns-in_err-write_range-clause-ahead g c = λ told xs on image k is. inr (inr (all_there c.args.s.now c.args.self.now c.force.new.self.log c.args.pool.now (between c.args.from c.args.to c.self-then-count-gt0.inside.pages) (g.D.Disk.state c.force.new.disk).block (g.D.Disk.state c.write_range.new.disk).block xs (λ k. g.met.D.Disk.lawful c.write_range.new.disk k told) c.requires.store c.requires.log_tie c.force.ensures.same c.force.ensures.tail c.in_ok-force.ensures.stable (c.write_range.ensures.outcomes told) (c.in_ok-force.ensures.log told xs on) image is))

pub returns-in_err-write_range-clause-cut : goal.returns-in_err-write_range-clause-cut
returns-in_err-write_range-clause-cut g c = on_err c.from_residual-in_err-write_range.result (λ told xs on. log_cut c.args.s.now c.args.self.now c.force.new.self.log c.args.pool.now (between c.args.from c.args.to c.self-then-count-gt0.inside.pages) (g.D.Disk.state c.force.new.disk).block (g.D.Disk.state c.write_range.new.disk).block xs (λ k. g.met.D.Disk.lawful c.write_range.new.disk k told) c.requires.store c.requires.log_tie c.force.ensures.same c.force.ensures.tail c.in_ok-force.ensures.stable (c.write_range.ensures.outcomes told) (c.in_ok-force.ensures.log told xs on) (stable_below _ _ xs on))

pub returns-in_err-write_range-clause-any_outcome : goal.returns-in_err-write_range-clause-any_outcome
returns-in_err-write_range-clause-any_outcome g c = λ told xs on image is. less_front _ _ _ _ xs image (stable_below _ _ xs on) (all_there c.args.s.now c.args.self.now c.force.new.self.log c.args.pool.now (between c.args.from c.args.to c.self-then-count-gt0.inside.pages) (g.D.Disk.state c.force.new.disk).block (g.D.Disk.state c.write_range.new.disk).block xs (λ k. g.met.D.Disk.lawful c.write_range.new.disk k told) c.requires.store c.requires.log_tie c.force.ensures.same c.force.ensures.tail c.in_ok-force.ensures.stable (c.write_range.ensures.outcomes told) (c.in_ok-force.ensures.log told xs on) image is)

pub returns-in_ok-write_range-clause-disk_tie : goal.returns-in_ok-write_range-clause-disk_tie
returns-in_ok-write_range-clause-disk_tie g c = λ told tie.
    tied_written c.args.s.now c.args.pool.now c.args.from c.args.to c.self-then-count-gt0.inside.pages c.write_range.new.self (g.D.Disk.state c.force.new.disk).block (g.D.Disk.state c.write_range.new.disk).block c.self-then-count-gt0.invariant.once
    (rw (ap (λ v. v.pages) c.self-then-count-gt0.view_is, c.force.ensures.pages) c.requires.range.1) (c.write_range.ensures.outcomes told) (c.in_ok-write_range.ensures.holds told) c.in_ok-write_range.ensures.written c.self-then-count-gt0.inside.log c.self-then-count-gt0.inside.node
    (subst (λ v. IsTiedToDisk c.args.s.now c.args.pool.now v (g.D.Disk.state c.force.new.disk).block) (sym c.self-then-count-gt0.view_is) (c.force.ensures.disk_tie told c.args.s.now c.args.pool.now c.requires.store tie))

pub returns-in_ok-write_range-clause-ahead : goal.returns-in_ok-write_range-clause-ahead
returns-in_ok-write_range-clause-ahead g c = λ told xs on image k is. inr (inr (all_there c.args.s.now c.args.self.now c.force.new.self.log c.args.pool.now (between c.args.from c.args.to c.self-then-count-gt0.inside.pages) (g.D.Disk.state c.force.new.disk).block (g.D.Disk.state c.write_range.new.disk).block xs (λ k. g.met.D.Disk.lawful c.write_range.new.disk k told) c.requires.store c.requires.log_tie c.force.ensures.same c.force.ensures.tail c.in_ok-force.ensures.stable (c.write_range.ensures.outcomes told) (c.in_ok-force.ensures.log told xs on) image is))

pub returns-in_ok-write_range-clause-log : goal.returns-in_ok-write_range-clause-log
returns-in_ok-write_range-clause-log g c = λ told xs on. subst (λ v. IsLogOn v.log (g.D.Disk.state c.write_range.new.disk).block xs) (sym c.self-then-count-gt0.view_is) (log_stays c.args.s.now c.args.self.now c.force.new.self.log c.args.pool.now (between c.args.from c.args.to c.self-then-count-gt0.inside.pages) (g.D.Disk.state c.force.new.disk).block (g.D.Disk.state c.write_range.new.disk).block xs (λ k. g.met.D.Disk.lawful c.write_range.new.disk k told) c.requires.store c.requires.log_tie c.force.ensures.same c.force.ensures.tail c.in_ok-force.ensures.stable (c.write_range.ensures.outcomes told) (c.in_ok-force.ensures.log told xs on))

pub returns-in_ok-write_range-clause-any_outcome : goal.returns-in_ok-write_range-clause-any_outcome
returns-in_ok-write_range-clause-any_outcome g c = λ told xs on image is. less_front _ _ _ _ xs image (stable_below _ _ xs on) (all_there c.args.s.now c.args.self.now c.force.new.self.log c.args.pool.now (between c.args.from c.args.to c.self-then-count-gt0.inside.pages) (g.D.Disk.state c.force.new.disk).block (g.D.Disk.state c.write_range.new.disk).block xs (λ k. g.met.D.Disk.lawful c.write_range.new.disk k told) c.requires.store c.requires.log_tie c.force.ensures.same c.force.ensures.tail c.in_ok-force.ensures.stable (c.write_range.ensures.outcomes told) (c.in_ok-force.ensures.log told xs on) image is)

pub returns-else-count-gt0-clause-written : goal.returns-else-count-gt0-clause-written
returns-else-count-gt0-clause-written g c =
    let pages = ap (λ v. v.pages) c.self.view_is in
    let none : count_by has_changes (between c.args.from c.args.to c.args.self.now.pages) ≡ 0 = ap (λ ps. count_by has_changes (between c.args.from c.args.to ps)) (sym pages) ∙ omega (arith, c.if-count-gt0.false, c.count_changed-count.ensures) in
    none_changed_within _ _ _ c.requires.range.1 none

pub returns-else-count-gt0-clause-any_outcome : goal.returns-else-count-gt0-clause-any_outcome
returns-else-count-gt0-clause-any_outcome g c = λ told xs on image is. on_outcome c.args.self.now.log (g.D.Disk.state c.args.disk.now).block xs image on is

pub returns-in_ok-write_range-clause-record_tie : goal.returns-in_ok-write_range-clause-record_tie
returns-in_ok-write_range-clause-record_tie g c = λ told xs tie.
    let was = subst (λ v. IsTiedToRecords c.args.s.now v (g.D.Disk.state c.force.new.disk).block xs) (sym c.self-then-count-gt0.view_is) (c.force.ensures.record_tie told c.args.s.now xs c.requires.store tie) in
    record {
      count = was.count;
      before = before_written c.args.s.now c.args.pool.now c.args.from c.args.to c.self-then-count-gt0.inside.pages c.write_range.new.self (g.D.Disk.state c.force.new.disk).block (g.D.Disk.state c.write_range.new.disk).block c.self-then-count-gt0.invariant.once
          (rw (ap (λ v. v.pages) c.self-then-count-gt0.view_is, c.force.ensures.pages) c.requires.range.1) (c.write_range.ensures.outcomes told) (c.in_ok-write_range.ensures.holds told) c.in_ok-write_range.ensures.written c.self-then-count-gt0.inside.log.start xs was.before;
    }
