use Rattle.space_map.proofs.ImageLaws.{IsMapText-same}
use Rattle.space_map.proofs.image.law_of_one_text.Goals as goal

pub returns-clause-image : goal.returns-clause-image
returns-clause-image c = IsMapText-same
