use Rattle.std.proofs.Common.{refl}
use Rattle.sd_base.proofs.Results.{err_then}
use Rattle.node_trials.proofs.ReadyLaws.{broken_written, ok_given, ok_of, ready_written}
use Rattle.node_trials.proofs.bench.Bench.flush_all.Goals as goal

pub returns-clause-ready : goal.returns-clause-ready
returns-clause-ready g c = ok_given c.flush_all.result (λ ok.
    ready_written _ _ _ _ _ _ _ _ _ _ c.requires.ready c.flush_all.ensures.keeps (ok_of c.flush_all.result ok c.flush_all.ensures.live) c.flush_all.ensures.writers c.flush_all.ensures.node c.flush_all.ensures.same c.flush_all.ensures.log_tie
    c.flush_all.ensures.same_pages refl)

pub returns-clause-broken : goal.returns-clause-broken
returns-clause-broken g c = err_then c.flush_all.result c.flush_all.ensures.stopped (λ stopped.
    broken_written _ _ _ _ _ _ _ _ c.requires.ready c.flush_all.ensures.keeps stopped c.flush_all.ensures.node c.flush_all.ensures.same_pages)
