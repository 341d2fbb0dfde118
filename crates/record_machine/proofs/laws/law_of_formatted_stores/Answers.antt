use Rattle.record_machine.proofs.FormattedLaws.{means_formatted}
use Rattle.record_machine.proofs.laws.law_of_formatted_stores.Goals as goal

pub returns : goal.returns
returns c = means_formatted
