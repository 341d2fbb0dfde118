use Rattle.std.proofs.Common.{ap, length, length-set, ◌∙◌}
use Rattle.node_trials.proofs.ReadyLaws.{ok_given, ok_of, page_in_reach, ready_fetched}
use Rattle.node_trials.proofs.bench.Bench.surrender.Goals as goal

pub surrender-requires-clause-page_reach : goal.surrender-requires-clause-page_reach
surrender-requires-clause-page_reach g c = page_in_reach _ _ _ _ _ _ c.args.x c.requires.ready

pub returns-clause-ready : goal.returns-clause-ready
returns-clause-ready g c = ok_given c.surrender.result (λ ok.
    ready_fetched _ _ _ _ _ _ _ _ _ _ _ c.requires.ready c.surrender.ensures.keeps (ok_of c.surrender.result ok c.surrender.ensures.live) c.surrender.ensures.writers c.surrender.ensures.node c.surrender.ensures.store c.surrender.ensures.log_tie c.surrender.ensures.out
    (c.surrender.ensures.shown c.requires.ready.shown) c.surrender.ensures.owned c.surrender.ensures.counted (ap length (ok_of c.surrender.result ok c.surrender.ensures.owners) ∙ length-set _ _ _))
