use Rattle.std.specs.Prelude.{◌≡◌, ◌≢◌, ◌≤◌, ◌+◌, ◌%◌, Result, Ok, Err, OnOk}
use Rattle.std.proofs.Common.{arith, refl, subst, sym}
use Rattle.sd_base.proofs.Results.{ok_then}
use Rattle.node_cache.specs.Cache.{IsTiedToLog}
use Rattle.private_log.specs.Log.{LogState, written}
use Rattle.node_cache.proofs.Ties.{rises_logged, tied_longer}
use Rattle.node_cache.proofs.DiskTie.{tied_beside}
use Rattle.node_cache.proofs.RecordTie.{pages_beside_log, records_more}
use Rattle.node_cache.proofs.cache.NodeCache.log_only.Goals as goal

pub append-requires-clause-port : goal.append-requires-clause-port
append-requires-clause-port g c = c.self.invariant.port

pub returns-clause-log_tie : goal.returns-clause-log_tie
returns-clause-log_tie g c = ok_then c.append.result c.append.ensures.tail (λ tail. tied_longer _ _ c.append.ensures.same (omega (arith, tail)) (subst IsTiedToLog (sym c.self.view_is) c.requires.log_tie))

pub returns-clause-log : goal.returns-clause-log
returns-clause-log g c = rw (← c.self.view_is, ← c.encode.ensures) c.append.ensures.log

pub returns-clause-cut : goal.returns-clause-cut
returns-clause-cut g c = rw (← c.self.view_is, ← c.encode.ensures) c.append.ensures.cut

pub returns-clause-any_outcome : goal.returns-clause-any_outcome
returns-clause-any_outcome g c = rw (← c.self.view_is, ← c.encode.ensures) c.append.ensures.any_outcome

pub returns-clause-disk_tie : goal.returns-clause-disk_tie
returns-clause-disk_tie g c = rw (← c.self.view_is) (λ told s pool store. tied_beside s pool _ _ _ _ _ store (subst IsTiedToLog (sym c.self.view_is) c.requires.log_tie) (c.append.ensures.outcomes told))

-- of an appended record
rises : {T E : Type 0} (r : Result T E) (l m : LogState) → OnOk r ((l.tail + 1) % 6 ≢ 0 → m.stable ≡ l.stable) → OnOk r ((l.tail + 1) % 6 ≡ 0 → m.stable ≡ written l) → OnOk r (l.stable ≤ m.stable)
rises (Ok x) l m memory full = rises_logged l m memory full
rises (Err e) l m memory full = tt

pub returns-clause-rises : goal.returns-clause-rises
returns-clause-rises g c = rw (← c.self.view_is) (rises c.append.result c.self.inside.log c.append.new.self c.append.ensures.stable_in_memory c.append.ensures.stable_written)

pub returns-clause-record_tie : goal.returns-clause-record_tie
returns-clause-record_tie g c = rw (← c.self.view_is, ← c.encode.ensures) (ok_then c.append.result c.append.ensures.tail (λ tail told s xs store tie.
    records_more s _ _ (g.D.Disk.state c.args.disk.now).block (g.D.Disk.state c.append.new.disk).block xs c.encode.new.out c.append.ensures.same tail refl (pages_beside_log s _ _ (g.D.Disk.state c.args.disk.now).block (g.D.Disk.state c.append.new.disk).block store (subst IsTiedToLog (sym c.self.view_is) c.requires.log_tie) (c.append.ensures.outcomes told)) tie))
