use Rattle.state_ids.proofs.PageLaws.{changed-page, changed-map, changed-ident, in_life-page, in_life-map}
use Rattle.state_ids.proofs.laws.law_of_changes.Goals as goal

pub returns : goal.returns
returns c = record { page = changed-page; kind = changed-map; ident = changed-ident; page_in_life = in_life-page; kind_in_life = in_life-map }
