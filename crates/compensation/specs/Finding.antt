-- How what is left of a transaction is found from its last record.
use Rattle.std.specs.Prelude.{◌≡◌, ◌+◌, ◌-◌, ◌<◌, ◌≤◌, ℕ, true, nat_le, List, [], ◌∷◌, Option, Some, None, option_and_then, unwrap_or, slice_get, take, if◌then◌else◌}
use Rattle.log_record.specs.declared.record.LogRecord.{LogRecord}
use Rattle.log_record.specs.declared.record.LogRecord.TheVariants.{Begin, Set, Append, Commit, Abort, Restore, Cut, MapUse, MapFree}
use Rattle.log_record.specs.Fields.{fields_of}
use Rattle.compensation.specs.Left.{is_update_of, next_after, uncompensated}

-- the record of the transaction that is to be taken back next, where record r is its last one
abbrev pub next_to_undo : LogRecord → ℕ → Option ℕ
next_to_undo Begin r = None
next_to_undo (Set txn prev page bsi slot before after) r = Some r
next_to_undo (Append txn prev page bsi slot present len bytes) r = Some r
next_to_undo (Commit txn prev) r = None
next_to_undo (Abort txn prev) r = None
next_to_undo (Restore txn prev next page bsi slot after) r = Some next
next_to_undo (Cut txn prev next page bsi slot present len) r = Some next
next_to_undo (MapUse page bsi place group) r = None
next_to_undo (MapFree page bsi place group ident) r = None

-- the newest of what is left, if anything is
abbrev pub newest : List ℕ → Option ℕ
newest [] = None
newest (u ∷ us) = Some u

-- what was left of the transaction when record r was the last of the log
abbrev pub left_at : ℕ → ℕ → List LogRecord → ℕ → List ℕ
left_at t first recs r = uncompensated t first (take (r + 1 - first) recs)

-- the record with this number
abbrev pub record_at : ℕ → List LogRecord → ℕ → Option LogRecord
record_at first recs r = if nat_le first r then slice_get recs (r - first) else None

-- the transaction's record before this one
abbrev pub record_before : LogRecord → ℕ
record_before rec = (fields_of rec).prev

-- what a compensation that takes this update back says is next: the record before the update, or, where that one is a
-- compensation, what it says is next
abbrev pub next_behind : ℕ → ℕ → List LogRecord → LogRecord → ℕ
next_behind t first recs update =
    unwrap_or (option_and_then (next_after t) (record_at first recs (record_before update))) (record_before update)

-- The records of a transaction tell what is left of it: as much was left at the record before an update as before the
-- update, and at the record that a compensation says is next as behind the compensation.
pub record TellsLeft (t first : ℕ) (recs : List LogRecord) : Type 0 where
  pub update : (i : ℕ) (rec : LogRecord) → slice_get recs i ≡ Some rec → is_update_of t rec ≡ true →
      (first ≤ record_before rec) × (record_before rec < first + i) × (left_at t first recs (record_before rec) ≡ uncompensated t first (take i recs))
  pub compensation : (i next : ℕ) (rec : LogRecord) → slice_get recs i ≡ Some rec → next_after t rec ≡ Some next →
      (next < first + i) × (left_at t first recs next ≡ uncompensated t first (take (i + 1) recs))
