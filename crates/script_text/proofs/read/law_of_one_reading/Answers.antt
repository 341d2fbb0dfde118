use Rattle.script_text.proofs.OneReading.{Spells-one}
use Rattle.script_text.proofs.read.law_of_one_reading.Goals as goal

pub returns : goal.returns
returns c = Spells-one
