-- The table of locks as a list of entries.
use Rattle.std.specs.Prelude.{◌≡◌, ◌==◌, ◌&&◌, ◌≤◌, ⊤, Bool, List, [], ◌∷◌, None, map, length}
use Rattle.std.specs.FinMap as finite
use Rattle.record_locks.specs.declared.mode.Mode.{Mode}
use Rattle.record_locks.specs.declared.entry.Entry.{Entry}
use Rattle.sd_base.specs.declared.names.Key.{Key}
use Rattle.sd_base.specs.declared.names.TxnId.{TxnId}
use Rattle.record_locks.specs.Order.{Lock, lock, lock_cmp, same_txn}
use Rattle.record_locks.specs.Held.{Held}

-- the lock that an entry is of, and its mode
abbrev pub lock_of : Entry → Lock × Mode
lock_of e = (lock e.key e.txn, e.mode)

abbrev pub locks_of : List Entry → List (Lock × Mode)
locks_of es = map lock_of es

-- the locks of the entries
abbrev pub held : List Entry → Held
held es = finite.from_entries (locks_of es)

-- the entry is of the transaction's lock on the key
abbrev pub is_of : Key → TxnId → Entry → Bool
is_of key t e = same_txn e.txn t && e.key.0 == key.0

-- no lock stands twice
abbrev pub IsDistinct : List (Lock × Mode) → Type 0
IsDistinct [] = ⊤
IsDistinct (l ∷ ls) = (finite.find lock_cmp l.0 ls ≡ None) × IsDistinct ls

-- no lock stands twice, and there are at most 4,096
pub record IsTable (es : List Entry) : Type 0 where
  pub distinct : IsDistinct (locks_of es)
  pub bounded : length es ≤ 4096
