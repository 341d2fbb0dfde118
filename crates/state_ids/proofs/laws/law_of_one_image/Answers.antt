use Rattle.state_ids.proofs.OneImage.{one_shown}
use Rattle.state_ids.proofs.laws.law_of_one_image.Goals as goal

pub returns : goal.returns
returns c = one_shown
