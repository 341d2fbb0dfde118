use Rattle.script_text.proofs.LineLaws.{Splits-one}
use Rattle.script_text.proofs.lines.law_of_one_splitting.Goals as goal

pub returns : goal.returns
returns c = Splits-one
