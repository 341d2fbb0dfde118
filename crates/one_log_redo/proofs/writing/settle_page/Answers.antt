use Rattle.one_log_redo.proofs.writing.settle_page.Goals as goal

pub returns-clause-outcomes : goal.returns-clause-outcomes
returns-clause-outcomes g c = λ told b held k o may. c.write_page.ensures.outcomes told b held k o (c.cover.ensures.outcomes told k o may)
