-- Which updates of a transaction are still to be taken back.
use Rattle.std.specs.Prelude.{◌==◌, ◌&&◌, ◌+◌, ℕ, Bool, false, not, nat_lt, List, [], ◌∷◌, ◌++◌, Option, Some, None, if◌then◌else◌}
use Rattle.std.specs.List.{list_any}
use Rattle.log_record.specs.declared.record.LogRecord.{LogRecord}
use Rattle.log_record.specs.declared.record.LogRecord.TheVariants.{Begin, Set, Append, Commit, Abort, Restore, Cut, MapUse, MapFree}

-- the record is an update of the transaction
abbrev pub is_update_of : ℕ → LogRecord → Bool
is_update_of t Begin = false
is_update_of t (Set txn prev page bsi slot before after) = txn == t
is_update_of t (Append txn prev page bsi slot present len bytes) = txn == t
is_update_of t (Commit txn prev) = false
is_update_of t (Abort txn prev) = false
is_update_of t (Restore txn prev next page bsi slot after) = false
is_update_of t (Cut txn prev next page bsi slot present len) = false
is_update_of t (MapUse page bsi place group) = false
is_update_of t (MapFree page bsi place group ident) = false

-- where the record is a compensation of the transaction, the record that is to be taken back next
abbrev pub next_after : ℕ → LogRecord → Option ℕ
next_after t Begin = None
next_after t (Set txn prev page bsi slot before after) = None
next_after t (Append txn prev page bsi slot present len bytes) = None
next_after t (Commit txn prev) = None
next_after t (Abort txn prev) = None
next_after t (Restore txn prev next page bsi slot after) = if txn == t then Some next else None
next_after t (Cut txn prev next page bsi slot present len) = if txn == t then Some next else None
next_after t (MapUse page bsi place group) = None
next_after t (MapFree page bsi place group ident) = None

-- the record that is to be taken back next lies before the update u
abbrev pub lies_before : Option ℕ → ℕ → Bool
lies_before None u = false
lies_before (Some next) u = nat_lt next u

-- the record is a compensation of the transaction behind which the update u isn't left: what is next lies before u
abbrev pub takes_back : ℕ → ℕ → LogRecord → Bool
takes_back t u rec = lies_before (next_after t rec) u

-- The uncompensated updates of the transaction that begins with record t, in a log whose first record has this number:
-- those that no compensation of the transaction behind them took back. They are named by their numbers, the newest first.
abbrev pub uncompensated : ℕ → ℕ → List LogRecord → List ℕ
uncompensated t first [] = []
uncompensated t first (rec ∷ behind) =
    uncompensated t (first + 1) behind
    ++ (if is_update_of t rec && not (list_any (takes_back t first) behind) then first ∷ [] else [])
