use Rattle.std.proofs.Common.{map, refl, ap, ◌∙◌}
use Rattle.node_cache.specs.Cache.{written_back}
use Rattle.node_cache.proofs.SamePages.{with_same}
use Rattle.node_trials.proofs.ReadyLaws.{ok_given, ok_of, page_in_reach, ready_written}
use Rattle.node_trials.proofs.bench.Bench.flush_page.Goals as goal

pub flush_page-requires-clause-page_reach : goal.flush_page-requires-clause-page_reach
flush_page-requires-clause-page_reach g c = page_in_reach _ _ _ _ _ _ c.args.x c.requires.ready

pub returns-clause-ready : goal.returns-clause-ready
returns-clause-ready g c = ok_given c.flush_page.result (λ ok.
    ready_written _ _ _ _ _ _ _ _ _ _ c.requires.ready c.flush_page.ensures.keeps (ok_of c.flush_page.result ok c.flush_page.ensures.live) c.flush_page.ensures.writers c.flush_page.ensures.node c.flush_page.ensures.same c.flush_page.ensures.log_tie
    (ap (map written_back) (ok_of c.flush_page.result ok c.flush_page.ensures.pages) ∙ with_same c.args.x written_back (λ p. refl) _) refl)
