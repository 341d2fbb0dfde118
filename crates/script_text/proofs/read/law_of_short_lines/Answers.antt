use Rattle.script_text.proofs.LineLengths.{length-line}
use Rattle.script_text.proofs.read.law_of_short_lines.Goals as goal

pub returns : goal.returns
returns c = length-line
