-- Records and their fields, both ways.
use Rattle.std.proofs.Common.{◌≡◌, ◌<◌, ◌^◌, ℕ, Bool, true, false, Option, Some, None, List, length, take, min, refl, sym, ◌∙◌, ap, subst, arith}
use Rattle.sd_base.specs.Text.{put}
use Rattle.sd_base.proofs.TextLaws.{length-put}
use Rattle.log_record.specs.declared.fields.Fields.{Fields}
use Rattle.log_record.specs.declared.record.LogRecord.{LogRecord}
use Rattle.log_record.specs.declared.record.LogRecord.TheVariants.{Begin, Set, Append, Commit, Abort, Restore, Cut, MapUse, MapFree}
use Rattle.log_record.specs.Fields.{no_value, half_of, half_of_mark, fields_of}
use Rattle.log_record.specs.Legal.{IsContent, HasExtra, HasContents, IsLegal}
use Rattle.log_record.specs.Text.{record_text}
use Rattle.log_record.specs.Reading.{HasFields, content_in, present_in, record_in}
use Rattle.sd_base.proofs.FieldLaws.{bytes_at-here}
use Rattle.log_record.proofs.TextLaws.{FitsText, fields_text-fields, HasFields-same}

-- what a slot holds is read of its half
content_in-half_of : (content : Option (List ℕ)) → IsContent content → content_in (half_of content) ≡ content
content_in-half_of None h = refl
content_in-half_of (Some value) h =
    let short : min (length value) 248 ≡ length value = omega arith in
    ap Some (ap (λ n. take n (put 0 value no_value)) short ∙ bytes_at-here (length value) 0 value no_value refl (omega arith))

present_in-half_of_mark : (present : Bool) (len : ℕ) → present_in (half_of_mark present len) ≡ present
present_in-half_of_mark true len = refl
present_in-half_of_mark false len = refl

len-half_of_mark : (present : Bool) (len : ℕ) → (half_of_mark present len).len ≡ len
len-half_of_mark true len = refl
len-half_of_mark false len = refl

-- a record is read of its fields
pub record_in-fields_of : (rec : LogRecord) → HasContents rec → record_in (fields_of rec) ≡ Some rec
record_in-fields_of Begin h = refl
record_in-fields_of (Set txn prev page bsi slot before after) h =
    let e = content_in-half_of before h.0 in
    let e' = content_in-half_of after h.1 in
    cc
record_in-fields_of (Append txn prev page bsi slot present len bytes) h =
    let e = present_in-half_of_mark present len in
    let e' = len-half_of_mark present len in
    let e'' = content_in-half_of (Some bytes) h.1 in
    cc
record_in-fields_of (Commit txn prev) h = refl
record_in-fields_of (Abort txn prev) h = refl
record_in-fields_of (Restore txn prev next page bsi slot after) h =
    let e = content_in-half_of after h in
    cc
record_in-fields_of (Cut txn prev next page bsi slot present len) h =
    let e = present_in-half_of_mark present len in
    let e' = len-half_of_mark present len in
    cc
record_in-fields_of (MapUse page bsi place group) h = refl
record_in-fields_of (MapFree page bsi place group ident) h = refl

-- values fill their places
length-half_of : (content : Option (List ℕ)) → IsContent content → length (half_of content).value ≡ 248
length-half_of None h = refl
length-half_of (Some value) h = length-put 0 value no_value (omega arith)

length-half_of_mark : (present : Bool) (len : ℕ) → length (half_of_mark present len).value ≡ 248
length-half_of_mark true len = refl
length-half_of_mark false len = refl

length-before : (rec : LogRecord) → HasContents rec → length (fields_of rec).before.value ≡ 248
length-before Begin h = refl
length-before (Set txn prev page bsi slot before after) h = length-half_of before h.0
length-before (Append txn prev page bsi slot present len bytes) h = length-half_of_mark present len
length-before (Commit txn prev) h = refl
length-before (Abort txn prev) h = refl
length-before (Restore txn prev next page bsi slot after) h = refl
length-before (Cut txn prev next page bsi slot present len) h = refl
length-before (MapUse page bsi place group) h = refl
length-before (MapFree page bsi place group ident) h = refl

length-after : (rec : LogRecord) → HasContents rec → length (fields_of rec).after.value ≡ 248
length-after Begin h = refl
length-after (Set txn prev page bsi slot before after) h = length-half_of after h.1
length-after (Append txn prev page bsi slot present len bytes) h = length-half_of (Some bytes) h.1
length-after (Commit txn prev) h = refl
length-after (Abort txn prev) h = refl
length-after (Restore txn prev next page bsi slot after) h = length-half_of after h
length-after (Cut txn prev next page bsi slot present len) h = length-half_of_mark present len
length-after (MapUse page bsi place group) h = refl
length-after (MapFree page bsi place group ident) h = refl

-- the next record's number and the new identifier have room
extra_room : (rec : LogRecord) → HasExtra rec → (fields_of rec).extra < 2 ^ 64
extra_room Begin h = omega arith
extra_room (Set txn prev page bsi slot before after) h = omega arith
extra_room (Append txn prev page bsi slot present len bytes) h = omega arith
extra_room (Commit txn prev) h = omega arith
extra_room (Abort txn prev) h = omega arith
extra_room (Restore txn prev next page bsi slot after) h = omega arith
extra_room (Cut txn prev next page bsi slot present len) h = omega arith
extra_room (MapUse page bsi place group) h = omega arith
extra_room (MapFree page bsi place group ident) h = omega arith

-- a legal record can be written
FitsText-fields_of : (rec : LogRecord) → IsLegal rec → FitsText (fields_of rec)
FitsText-fields_of rec h = record {
  page = h.page;
  bsi = omega (arith, h.bsi);
  txn = omega (arith, h.txn);
  prev = omega (arith, h.prev);
  extra = extra_room rec h.extra;
  group = omega (arith, h.group);
  before = length-before rec h.contents;
  after = length-after rec h.contents;
}

-- the fields that stand in the text of a legal record are those of the record
pub read_fields : (rec : LogRecord) (f : Fields) (text : List ℕ) → IsLegal rec → text ≡ record_text rec → HasFields f text → record_in f ≡ Some rec
read_fields rec f text h e k =
    let has : HasFields (fields_of rec) text = let P : List ℕ → Type 0 = HasFields (fields_of rec) in subst P (sym e) (fields_text-fields (fields_of rec) (FitsText-fields_of rec h)) in
    ap record_in (HasFields-same f (fields_of rec) text k has) ∙ record_in-fields_of rec h.contents

-- no two legal records have one text
pub record_text-injective : (r s : LogRecord) → IsLegal r → IsLegal s → record_text r ≡ record_text s → r ≡ s
record_text-injective r s h k e =
    let read : record_in (fields_of r) ≡ Some s = read_fields s (fields_of r) (record_text r) k e (fields_text-fields (fields_of r) (FitsText-fields_of r h)) in
    let own : record_in (fields_of r) ≡ Some r = record_in-fields_of r h.contents in
    cc
