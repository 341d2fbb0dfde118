use Rattle.std.proofs.Common.{ap, arith, refl, subst, sym}
use Rattle.sd_base.proofs.Results.{ok_then}
use Rattle.node_cache.specs.Cache.{IsTiedToLog}
use Rattle.node_cache.proofs.Ties.{tied_longer}
use Rattle.node_cache.proofs.DiskTie.{tied_beside}
use Rattle.node_cache.proofs.RecordTie.{pages_beside_log, records_kept}
use Rattle.node_cache.proofs.cache.NodeCache.force.Goals as goal

pub force-requires-clause-port : goal.force-requires-clause-port
force-requires-clause-port g c = c.self.invariant.port

pub returns-clause-log_tie : goal.returns-clause-log_tie
returns-clause-log_tie g c = let tail = c.force.ensures.tail in tied_longer _ _ c.force.ensures.same (omega (arith, tail)) (subst IsTiedToLog (sym c.self.view_is) c.requires.log_tie)

pub returns-clause-log : goal.returns-clause-log
returns-clause-log g c = rw (← c.self.view_is) c.force.ensures.log

pub returns-clause-cut : goal.returns-clause-cut
returns-clause-cut g c = rw (← c.self.view_is) c.force.ensures.cut

pub returns-clause-any_outcome : goal.returns-clause-any_outcome
returns-clause-any_outcome g c = rw (← c.self.view_is) c.force.ensures.any_outcome

pub returns-clause-disk_tie : goal.returns-clause-disk_tie
returns-clause-disk_tie g c = rw (← c.self.view_is) (λ told s pool store. tied_beside s pool _ _ _ _ _ store (subst IsTiedToLog (sym c.self.view_is) c.requires.log_tie) (c.force.ensures.outcomes told))

pub returns-clause-rises : goal.returns-clause-rises
returns-clause-rises g c =
    let tail = ap (λ v. v.log.tail) c.self.view_is in
    ok_then c.force.result c.force.ensures.stable (λ stable. omega (arith, stable, tail, c.law_of_log.ensures.stable))

pub returns-clause-record_tie : goal.returns-clause-record_tie
returns-clause-record_tie g c = rw (← c.self.view_is) (λ told s xs store tie.
    records_kept s _ _ (g.D.Disk.state c.args.disk.now).block (g.D.Disk.state c.force.new.disk).block xs c.force.ensures.same c.force.ensures.tail refl (pages_beside_log s _ _ (g.D.Disk.state c.args.disk.now).block (g.D.Disk.state c.force.new.disk).block store (subst IsTiedToLog (sym c.self.view_is) c.requires.log_tie) (c.force.ensures.outcomes told)) tie)
