use Rattle.node_trials.proofs.ReadyLaws.{ok_given, ok_of, ready_changed}
use Rattle.node_trials.proofs.bench.Bench.change.Goals as goal

pub returns-clause-ready : goal.returns-clause-ready
returns-clause-ready g c = ok_given c.change.result (λ ok.
    ready_changed _ _ _ _ _ _ _ _ _ _ c.requires.ready c.change.ensures.keeps (ok_of c.change.result ok c.change.ensures.live) c.change.ensures.writers c.change.ensures.node c.change.ensures.same (ok_of c.change.result ok c.change.ensures.log_tie)
    _ c.record-rec.ensures.change c.record-rec.ensures.fits (ok_of c.change.result ok c.change.ensures.pages) c.change.ensures.frames c.change.ensures.shown)
