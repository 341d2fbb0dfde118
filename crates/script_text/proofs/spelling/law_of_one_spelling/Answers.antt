use Rattle.script_text.proofs.SpellingLaws.{spelled-injective}
use Rattle.script_text.proofs.spelling.law_of_one_spelling.Goals as goal

pub returns : goal.returns
returns c = spelled-injective
