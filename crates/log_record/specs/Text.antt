-- The text of a record.
use Rattle.std.specs.Prelude.{ℕ, List, [], ◌∷◌, replicate}
use Rattle.sd_base.specs.Text.{with_fields, bytes_field, number_field}
use Rattle.log_record.specs.Fields.{fields_of}
use Rattle.log_record.specs.declared.fields.Fields.{Fields}
use Rattle.log_record.specs.declared.record.LogRecord.{LogRecord}

-- the text of these fields: 672 bytes, zero but for them
unfoldable pub fields_text : Fields → List ℕ
fields_text f = with_fields (replicate 672 0) (
    bytes_field 0 (f.kind ∷ f.place ∷ []) ∷
    number_field 4 4 f.page ∷
    number_field 8 8 f.bsi ∷
    number_field 16 8 f.txn ∷
    number_field 24 8 f.prev ∷
    number_field 32 8 f.extra ∷
    number_field 40 4 f.group ∷
    bytes_field 44 (f.before.state ∷ f.before.len ∷ f.after.state ∷ f.after.len ∷ []) ∷
    bytes_field 48 f.before.value ∷
    bytes_field 296 f.after.value ∷ [])

-- the text of a record
abbrev pub record_text : LogRecord → List ℕ
record_text rec = fields_text (fields_of rec)
