-- The ranges of the numbers of a record.
use Rattle.std.specs.Prelude.{◌≡◌, ◌+◌, ◌*◌, ◌^◌, ◌<◌, ◌≤◌, ℕ, Bool, true, false, List, Option, length, IfSome, ⊤}
use Rattle.log_record.specs.Fields.{fields_of}
use Rattle.log_record.specs.declared.record.LogRecord.{LogRecord}
use Rattle.log_record.specs.declared.record.LogRecord.TheVariants.{Begin, Set, Append, Commit, Abort, Restore, Cut, MapUse, MapFree}

-- the number of a record
abbrev pub IsRecordNo : ℕ → Type 0
IsRecordNo n = n < 6 * 2 ^ 56

-- the bytes of a value
abbrev pub IsValue : List ℕ → Type 0
IsValue value = length value ≤ 248

-- what a slot holds, or that it is absent
abbrev pub IsContent : Option (List ℕ) → Type 0
IsContent content = IfSome content IsValue

-- whether a slot is present, and how long its value is
abbrev pub IsMark : Bool → ℕ → Type 0
IsMark true len = len ≤ 248
IsMark false len = len ≡ 0

-- a slot is one of 16, and a map entry one of 252
abbrev pub HasPlace : LogRecord → Type 0
HasPlace Begin = ⊤
HasPlace (Set txn prev page bsi slot before after) = slot ≤ 15
HasPlace (Append txn prev page bsi slot present len bytes) = slot ≤ 15
HasPlace (Commit txn prev) = ⊤
HasPlace (Abort txn prev) = ⊤
HasPlace (Restore txn prev next page bsi slot after) = slot ≤ 15
HasPlace (Cut txn prev next page bsi slot present len) = slot ≤ 15
HasPlace (MapUse page bsi place group) = place ≤ 251
HasPlace (MapFree page bsi place group ident) = place ≤ 251

-- a next record has the number of a record, and a map entry becomes free with an identifier
abbrev pub HasExtra : LogRecord → Type 0
HasExtra Begin = ⊤
HasExtra (Set txn prev page bsi slot before after) = ⊤
HasExtra (Append txn prev page bsi slot present len bytes) = ⊤
HasExtra (Commit txn prev) = ⊤
HasExtra (Abort txn prev) = ⊤
HasExtra (Restore txn prev next page bsi slot after) = IsRecordNo next
HasExtra (Cut txn prev next page bsi slot present len) = IsRecordNo next
HasExtra (MapUse page bsi place group) = ⊤
HasExtra (MapFree page bsi place group ident) = ident ≤ 2 ^ 63 + 2 ^ 40

-- what stood before and what stands after are of a slot
abbrev pub HasContents : LogRecord → Type 0
HasContents Begin = ⊤
HasContents (Set txn prev page bsi slot before after) = IsContent before × IsContent after
HasContents (Append txn prev page bsi slot present len bytes) = IsMark present len × IsValue bytes
HasContents (Commit txn prev) = ⊤
HasContents (Abort txn prev) = ⊤
HasContents (Restore txn prev next page bsi slot after) = IsContent after
HasContents (Cut txn prev next page bsi slot present len) = IsMark present len
HasContents (MapUse page bsi place group) = ⊤
HasContents (MapFree page bsi place group ident) = ⊤

-- each number of the record is in its range; one that its kind doesn't have counts as zero
pub record IsLegal (rec : LogRecord) : Type 0 where
  pub page : (fields_of rec).page < 2 ^ 32
  pub bsi : (fields_of rec).bsi < 2 ^ 63 + 2 ^ 40
  pub txn : IsRecordNo (fields_of rec).txn
  pub prev : IsRecordNo (fields_of rec).prev
  pub group : (fields_of rec).group ≤ 268435455
  pub place : HasPlace rec
  pub extra : HasExtra rec
  pub contents : HasContents rec
