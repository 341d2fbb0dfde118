use Rattle.state_ids.proofs.writing.write_page.Goals as goal

pub returns-in_err-covered-clause-outcomes : goal.returns-in_err-covered-clause-outcomes
returns-in_err-covered-clause-outcomes g c = λ told b held k o may. c.send.ensures.outcomes told b held k o (c.cover.ensures.outcomes told k o may)
