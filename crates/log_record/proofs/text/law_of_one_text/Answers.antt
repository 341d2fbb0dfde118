use Rattle.log_record.proofs.RecordLaws.{record_text-injective}
use Rattle.log_record.proofs.text.law_of_one_text.Goals as goal

pub returns : goal.returns
returns c = record_text-injective
