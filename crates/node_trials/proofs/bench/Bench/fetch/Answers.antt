use Rattle.node_trials.proofs.ReadyLaws.{leaving_in_reach, live_then, ready_fetched, table_fetched}
use Rattle.node_trials.proofs.bench.Bench.fetch.Goals as goal

pub fetch-requires-clause-page_reach : goal.fetch-requires-clause-page_reach
fetch-requires-clause-page_reach g c = leaving_in_reach _ _ _ _ _ _ c.args.x c.requires.ready

pub returns-clause-ready : goal.returns-clause-ready
returns-clause-ready g c = live_then c.fetch.result c.fetch.ensures.live (λ live.
    ready_fetched _ _ _ _ _ _ _ _ _ _ _ c.requires.ready c.fetch.ensures.keeps live c.fetch.ensures.writers c.fetch.ensures.node c.fetch.ensures.store c.fetch.ensures.log_tie c.fetch.ensures.out (c.fetch.ensures.shown c.requires.ready.shown) c.fetch.ensures.owned c.fetch.ensures.counted
    (table_fetched c.fetch.result c.args.x _ _ _ _ _ _ _ _ _ _ (λ hit. (c.fetch.ensures.hit hit).3) c.fetch.ensures.owners c.fetch.ensures.broken))
