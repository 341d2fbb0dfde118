use Rattle.std.proofs.Common.{◌≡◌, ◌∙◌, Some, rules}
use Rattle.log_record.proofs.RecordLaws.{read_fields}
use Rattle.log_record.proofs.text.record_at.Goals as goal

pub returns-in_err-rec-clause-read : goal.returns-in_err-rec-clause-read
returns-in_err-rec-clause-read c = λ r h e.
    let read : c.record_in.result ≡ Some r = c.record_in.ensures ∙ read_fields r c.fields_at.result c.args.text.now h e c.fields_at.ensures in search rules

pub returns-then-is_legal-clause-read : goal.returns-then-is_legal-clause-read
returns-then-is_legal-clause-read c = λ r h e.
    let read : c.record_in.result ≡ Some r = c.record_in.ensures ∙ read_fields r c.fields_at.result c.args.text.now h e c.fields_at.ensures in search rules

pub returns-else-is_legal-clause-read : goal.returns-else-is_legal-clause-read
returns-else-is_legal-clause-read c = λ r h e.
    let read : c.record_in.result ≡ Some r = c.record_in.ensures ∙ read_fields r c.fields_at.result c.args.text.now h e c.fields_at.ensures in search rules
