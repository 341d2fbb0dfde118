-- The records of a log on a device.
use Rattle.std.specs.Prelude.{◌≡◌, ◌*◌, ◌-◌, ◌/◌, ◌≤◌, ◌<◌, ℕ, ⊤, [], List, Some, map, slice_index_or}
use Rattle.sd_base.specs.Disk.{BlockState}
use Rattle.sd_base.specs.declared.fault.DevFault.{DevFault}
use Rattle.sd_base.specs.declared.fault.DevFault.TheVariants.{Stopped, Failed, Lost, Damaged}
use Rattle.log_record.specs.declared.record.LogRecord.{LogRecord}
use Rattle.log_record.specs.Legal.{IsLegal}
use Rattle.log_record.specs.Text.{record_text}
use Rattle.private_log.specs.Content.{place}
use Rattle.private_log.specs.Log.{IsLogOn, LogState, region}
use Rattle.compensation.specs.Finding.{record_at}
use Rattle.recovery_theory.specs.Effect.{effect_of}
use Rattle.one_log_redo.specs.Records.{IsRecordOf, NamesPage}

-- the number of the first record of a log
abbrev pub first_of : LogState → ℕ
first_of l = 6 * l.start

-- The log has these records, each of them legal and of a page of the store, and the device is as the log left it.
pub record HasRecords (l : LogState) (b : ℕ → BlockState) (recs : List LogRecord) : Type 0 where
  pub on : IsLogOn l b (map record_text recs)
  pub legal : (r : ℕ) (rec : LogRecord) → record_at (first_of l) recs r ≡ Some rec → IsLegal rec × NamesPage l.shape (effect_of rec)

-- the text with this number is that of a record which a log of the store may have
abbrev pub IsTextOf : LogState → List (List ℕ) → ℕ → LogRecord → Type 0
IsTextOf l xs r rec = IsRecordOf l.shape (slice_index_or xs (r - first_of l) []) rec

-- a block that is said to be damaged is that of record r, which is none that a log of the store may have
abbrev pub IsNoRecordAt : LogState → List (List ℕ) → ℕ → DevFault → Type 0
IsNoRecordAt l xs r (Stopped n) = ⊤
IsNoRecordAt l xs r (Failed n) = ⊤
IsNoRecordAt l xs r (Lost at) = ⊥
IsNoRecordAt l xs r (Damaged at) = (at.0 ≡ place (region l) (r / 6)) × ((rec : LogRecord) → ¬ (IsTextOf l xs r rec))

-- the same of the block of some record of the log
abbrev pub IsNoRecord : LogState → List (List ℕ) → DevFault → Type 0
IsNoRecord l xs fault = (r : ℕ) × (first_of l ≤ r) × (r < l.tail) × IsNoRecordAt l xs r fault

-- each text of the log is that of a record which a log of the store may have
abbrev pub AreTexts : LogState → List (List ℕ) → Type 0
AreTexts l xs = (r : ℕ) → first_of l ≤ r → r < l.tail → (rec : LogRecord) × IsTextOf l xs r rec
