use Rattle.node_cache.proofs.OtherLogs.{other_free, other_keeps, other_narrows, other_still}
use Rattle.node_cache.proofs.laws.law_of_page_writes.Goals as goal

pub returns : goal.returns
returns c = record { outcomes = other_narrows; contents = other_keeps; free = other_free; still = other_still }
