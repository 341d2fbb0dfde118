use Rattle.log_record.specs.Text.{fields_text}
use Rattle.log_record.proofs.text.write_fields.Goals as goal

pub returns : goal.returns
unfolding fields_text
returns c = cc
