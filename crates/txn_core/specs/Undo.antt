-- Which update is to be taken back next.
use Rattle.std.specs.Prelude.{◌≡◌, ◌==◌, ◌<◌, ◌+◌, ◌^◌, ⊤, ℕ, List, Option, Some, None, IfSome, if◌then◌else◌}
use Rattle.sd_base.specs.declared.fault.DevFault.{DevFault}
use Rattle.sd_base.specs.declared.fault.DevFault.TheVariants.{Stopped, Failed, Lost, Damaged}
use Rattle.page_image.specs.declared.page_view.PageView.{PageView}
use Rattle.log_record.specs.declared.record.LogRecord.{LogRecord}
use Rattle.log_record.specs.declared.record.LogRecord.TheVariants.{Begin, Set, Append, Commit, Abort, Restore, Cut, MapUse, MapFree}
use Rattle.log_record.specs.Record.{page_op_of}
use Rattle.compensation.specs.Left.{uncompensated}
use Rattle.compensation.specs.Finding.{newest, next_behind, next_to_undo, record_at}
use Rattle.node_cache.specs.Cache.{CachedPage}
use Rattle.txn_core.specs.Seats.{OpenTxn}
use Rattle.txn_core.specs.Updates.{HasPage}

-- another record than this one
abbrev pub but_for : ℕ → Option ℕ → Option ℕ
but_for t None = None
but_for t (Some n) = if n == t then None else Some n

-- what the last record of a transaction says is next, but for the record that began it
abbrev pub to_undo : OpenTxn → LogRecord → Option ℕ
to_undo t last = but_for t.begin (next_to_undo last t.last)

-- a block is damaged
abbrev pub IsDamaged : DevFault → Type 0
IsDamaged (Stopped n) = ⊥
IsDamaged (Failed n) = ⊥
IsDamaged (Lost at) = ⊥
IsDamaged (Damaged at) = ⊤

-- the record by which the transaction takes an update back, of a page with this identifier, where `next` is then the
-- record to be taken back next; other records are taken back by none
abbrev pub compensation_of : OpenTxn → ℕ → ℕ → LogRecord → Option LogRecord
compensation_of t next ident Begin = None
compensation_of t next ident (Set txn prev page bsi slot before after) = Some (Restore t.begin t.last next page ident slot before)
compensation_of t next ident (Append txn prev page bsi slot present len bytes) = Some (Cut t.begin t.last next page ident slot present len)
compensation_of t next ident (Commit txn prev) = None
compensation_of t next ident (Abort txn prev) = None
compensation_of t next ident (Restore txn prev after page bsi slot value) = None
compensation_of t next ident (Cut txn prev after page bsi slot present len) = None
compensation_of t next ident (MapUse page bsi place group) = None
compensation_of t next ident (MapFree page bsi place group free) = None

-- this page is the one that the record changes
abbrev pub IsPageOf : LogRecord → PageView → Type 0
IsPageOf update v = IfSome (page_op_of update) (λ o. o.0 ≡ v.page)

-- The newest update that is left of a transaction, and its page, which is cached with this in its frame and has room for
-- one more change.
pub record IsToUndo (pool : List (Option (List ℕ))) (pages : List CachedPage) (first : ℕ) (recs : List LogRecord) (t : OpenTxn) (v : PageView) : Type 0 where
  pub number : ℕ
  pub newest : newest (uncompensated t.begin first recs) ≡ Some number
  pub update : LogRecord
  pub there : record_at first recs number ≡ Some update
  pub of_page : IsPageOf update v
  pub cached : HasPage pool pages v.page v
  pub room : v.ident < 2 ^ 63 + 2 ^ 40

-- The record takes that update back, and says what is to be taken back then.
pub record TakesBack (pool : List (Option (List ℕ))) (pages : List CachedPage) (first : ℕ) (recs : List LogRecord) (t : OpenTxn) (v : PageView) (rec : LogRecord) : Type 0 where
  pub undo : IsToUndo pool pages first recs t v
  pub is : compensation_of t (next_behind t.begin first recs undo.update) v.ident undo.update ≡ Some rec
