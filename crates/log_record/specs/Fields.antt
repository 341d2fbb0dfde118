-- The fields of a record: what its text has at each place.
use Rattle.std.specs.Prelude.{ℕ, Bool, true, false, List, length, replicate, Option, Some, None}
use Rattle.sd_base.specs.Text.{put}
use Rattle.log_record.specs.declared.fields.Half.{Half}
use Rattle.log_record.specs.declared.fields.Fields.{Fields}
use Rattle.log_record.specs.declared.record.LogRecord.{LogRecord}
use Rattle.log_record.specs.declared.record.LogRecord.TheVariants.{Begin, Set, Append, Commit, Abort, Restore, Cut, MapUse, MapFree}

abbrev pub no_value : List ℕ
no_value = replicate 248 0

-- an absent slot, or none
abbrev pub no_half : Half
no_half = record { state = 0; len = 0; value = no_value }

-- a slot that holds this value
abbrev pub half_of_value : List ℕ → Half
half_of_value value = record { state = 1; len = length value; value = put 0 value no_value }

-- a slot that holds this, or is absent
abbrev pub half_of : Option (List ℕ) → Half
half_of None = no_half
half_of (Some value) = half_of_value value

-- a slot of which only its state and the length of its value are kept
abbrev pub half_of_mark : Bool → ℕ → Half
half_of_mark true len = record { state = 1; len = len; value = no_value }
half_of_mark false len = record { state = 0; len = len; value = no_value }

abbrev pub no_fields : Fields
no_fields = record { kind = 0; place = 0; page = 0; bsi = 0; txn = 0; prev = 0; extra = 0; group = 0; before = no_half; after = no_half }

-- the fields of a record; those that its kind doesn't have are zero
abbrev pub fields_of : LogRecord → Fields
fields_of Begin = record no_fields { kind = 1 }
fields_of (Set txn prev page bsi slot before after) = record no_fields { kind = 2; place = slot; page = page.0; bsi = bsi; txn = txn; prev = prev; before = half_of before; after = half_of after }
fields_of (Append txn prev page bsi slot present len bytes) = record no_fields { kind = 3; place = slot; page = page.0; bsi = bsi; txn = txn; prev = prev; before = half_of_mark present len; after = half_of_value bytes }
fields_of (Commit txn prev) = record no_fields { kind = 4; txn = txn; prev = prev }
fields_of (Abort txn prev) = record no_fields { kind = 5; txn = txn; prev = prev }
fields_of (Restore txn prev next page bsi slot after) = record no_fields { kind = 6; place = slot; page = page.0; bsi = bsi; txn = txn; prev = prev; extra = next; after = half_of after }
fields_of (Cut txn prev next page bsi slot present len) = record no_fields { kind = 7; place = slot; page = page.0; bsi = bsi; txn = txn; prev = prev; extra = next; after = half_of_mark present len }
fields_of (MapUse page bsi place group) = record no_fields { kind = 8; place = place; page = page.0; bsi = bsi; group = group.0 }
fields_of (MapFree page bsi place group ident) = record no_fields { kind = 9; place = place; page = page.0; bsi = bsi; extra = ident; group = group.0 }
