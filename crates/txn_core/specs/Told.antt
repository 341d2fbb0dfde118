-- What the records of a log tell of the open transactions.
use Rattle.std.specs.Prelude.{◌≡◌, ◌≢◌, ◌⊎◌, ◌+◌, ◌*◌, ◌≤◌, ◌<◌, ℕ, true, List, Some, None, All, IfSome, length, map}
use Rattle.std.specs.List.{slice_get}
use Rattle.sd_base.specs.Disk.{BlockState}
use Rattle.log_record.specs.declared.record.LogRecord.{LogRecord}
use Rattle.log_record.specs.declared.record.LogRecord.TheVariants.{Begin}
use Rattle.log_record.specs.Fields.{fields_of}
use Rattle.log_record.specs.Legal.{IsLegal}
use Rattle.log_record.specs.Text.{record_text}
use Rattle.private_log.specs.Log.{LogState, IsLogOn}
use Rattle.compensation.specs.Left.{is_update_of, next_after, uncompensated}
use Rattle.compensation.specs.Finding.{TellsLeft, left_at, record_at, record_before}
use Rattle.txn_core.specs.Seats.{OpenTxn, SeatsState}

-- the log has these records, and the device is as the log left it
pub record HasRecords (l : LogState) (b : ℕ → BlockState) (recs : List LogRecord) : Type 0 where
  pub legal : All IsLegal recs
  pub on : IsLogOn l b (map record_text recs)

-- record r is the one that began the transaction t, or another one of it
abbrev pub IsRecordOf : ℕ → ℕ → LogRecord → Type 0
IsRecordOf t r rec = ((r ≡ t) × (rec ≡ Begin)) ⊎ ((t < r) × ((is_update_of t rec ≡ true) ⊎ (next_after t rec ≢ None)))

-- The records of the transaction t lead to one another: an update names a record of it before itself, and a
-- compensation an update of it, or the record that began it.
pub record IsChained (t first : ℕ) (recs : List LogRecord) : Type 0 where
  pub begun : record_at first recs t ≡ Some Begin
  pub update : (i : ℕ) (rec : LogRecord) → slice_get recs i ≡ Some rec → is_update_of t rec ≡ true
      → (before : LogRecord) × (record_at first recs (record_before rec) ≡ Some before) × IsRecordOf t (record_before rec) before × (record_before rec < first + i)
  pub compensation : (i next : ℕ) (rec : LogRecord) → slice_get recs i ≡ Some rec → next_after t rec ≡ Some next
      → (next ≡ t) ⊎ ((update : LogRecord) × (record_at first recs next ≡ Some update) × (is_update_of t update ≡ true) × (t < next) × (next < first + i))

-- An open transaction in a log whose first record has this number: its last record is where the seat says, and its
-- records lead to one another and tell what is left of it.
pub record IsOpenIn (first : ℕ) (recs : List LogRecord) (t : OpenTxn) : Type 0 where
  pub chained : IsChained t.begin first recs
  pub tells : TellsLeft t.begin first recs
  pub last_record : LogRecord
  pub last : record_at first recs t.last ≡ Some last_record
  pub own : IsRecordOf t.begin t.last last_record
  pub now : left_at t.begin first recs t.last ≡ uncompensated t.begin first recs
  pub count : length (uncompensated t.begin first recs) ≡ t.left

-- no record names a transaction that begins behind it
abbrev pub NamesEarlier : ℕ → List LogRecord → Type 0
NamesEarlier first recs = (i : ℕ) (rec : LogRecord) → slice_get recs i ≡ Some rec → (fields_of rec).txn ≤ first + i

-- the open transactions are those that these records tell
pub record AreTold (s : SeatsState) (start : ℕ) (recs : List LogRecord) : Type 0 where
  pub names : NamesEarlier (6 * start) recs
  pub each : All (λ o. IfSome o (IsOpenIn (6 * start) recs)) s.seats
