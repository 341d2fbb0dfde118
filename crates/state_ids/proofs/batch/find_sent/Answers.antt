use Rattle.std.proofs.Common.{◌∙◌, rules, tests}
use Rattle.std.proofs.lemmas.Iterator.{YieldsList-from_slice}
use Rattle.std.proofs.lemmas.Iterator.Search.{find_from_yields_List}
use Rattle.state_ids.specs.Batch.{is_sent}
use Rattle.state_ids.proofs.batch.find_sent.Goals as goal

pub returns : goal.returns
returns c = c.copied.ensures ∙ find_from_yields_List (is_sent c.args.x) _ _ _ c.find.ensures.ran (YieldsList-from_slice c.args.sent.now (cc)) (λ x b q k. search (rules, tests))
