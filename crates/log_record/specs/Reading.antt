-- What is read in a text, whatever stands there.
use Rattle.std.specs.Prelude.{◌≡◌, ◌==◌, ℕ, Bool, not, List, [], take, min, slice_index, unwrap_or, Option, Some, None, if◌then◌else◌}
use Rattle.sd_base.specs.Text.{number_at, bytes_at}
use Rattle.sd_base.specs.declared.names.PageNo.{PageNo}
use Rattle.sd_base.specs.declared.names.GroupNo.{GroupNo}
use Rattle.log_record.specs.declared.fields.Half.{Half}
use Rattle.log_record.specs.declared.fields.Fields.{Fields}
use Rattle.log_record.specs.declared.record.LogRecord.{LogRecord}
use Rattle.log_record.specs.declared.record.LogRecord.TheVariants.{Begin, Set, Append, Commit, Abort, Restore, Cut, MapUse, MapFree}

-- these fields stand at their places
pub record HasFields (f : Fields) (text : List ℕ) : Type 0 where
  pub kind : slice_index text 0 ≡ f.kind
  pub place : slice_index text 1 ≡ f.place
  pub page : number_at 4 4 text ≡ f.page
  pub bsi : number_at 8 8 text ≡ f.bsi
  pub txn : number_at 8 16 text ≡ f.txn
  pub prev : number_at 8 24 text ≡ f.prev
  pub extra : number_at 8 32 text ≡ f.extra
  pub group : number_at 4 40 text ≡ f.group
  pub before_state : slice_index text 44 ≡ f.before.state
  pub before_len : slice_index text 45 ≡ f.before.len
  pub after_state : slice_index text 46 ≡ f.after.state
  pub after_len : slice_index text 47 ≡ f.after.len
  pub before_value : bytes_at 248 48 text ≡ f.before.value
  pub after_value : bytes_at 248 296 text ≡ f.after.value

-- whether a half is of a slot that is present
abbrev pub present_in : Half → Bool
present_in half = not (half.state == 0)

-- what a slot holds by its half
abbrev pub content_in : Half → Option (List ℕ)
content_in half = if half.state == 0 then None else Some (take (min half.len 248) half.value)

abbrev page_in : Fields → PageNo
page_in f = record { 0 = f.page }

abbrev group_in : Fields → GroupNo
group_in f = record { 0 = f.group }

-- the record of each kind that has these fields
abbrev pub set_in : Fields → LogRecord
set_in f = Set f.txn f.prev (page_in f) f.bsi f.place (content_in f.before) (content_in f.after)

abbrev pub append_in : Fields → LogRecord
append_in f = Append f.txn f.prev (page_in f) f.bsi f.place (present_in f.before) f.before.len (unwrap_or (content_in f.after) [])

abbrev pub restore_in : Fields → LogRecord
restore_in f = Restore f.txn f.prev f.extra (page_in f) f.bsi f.place (content_in f.after)

abbrev pub cut_in : Fields → LogRecord
cut_in f = Cut f.txn f.prev f.extra (page_in f) f.bsi f.place (present_in f.after) f.after.len

abbrev pub map_use_in : Fields → LogRecord
map_use_in f = MapUse (page_in f) f.bsi f.place (group_in f)

abbrev pub map_free_in : Fields → LogRecord
map_free_in f = MapFree (page_in f) f.bsi f.place (group_in f) f.extra

-- the record that has these fields, by their kind
abbrev pub record_in : Fields → Option LogRecord
record_in f =
    if f.kind == 1 then Some Begin else (
    if f.kind == 2 then Some (set_in f) else (
    if f.kind == 3 then Some (append_in f) else (
    if f.kind == 4 then Some (Commit f.txn f.prev) else (
    if f.kind == 5 then Some (Abort f.txn f.prev) else (
    if f.kind == 6 then Some (restore_in f) else (
    if f.kind == 7 then Some (cut_in f) else (
    if f.kind == 8 then Some (map_use_in f) else (
    if f.kind == 9 then Some (map_free_in f) else None))))))))
