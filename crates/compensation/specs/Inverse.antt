-- What takes an update back.
use Rattle.std.specs.Prelude.{◌≡◌, ◌+◌, ◌≤◌, ℕ, Bool, List, [], Option, Some, None, length, is_some, unwrap_or, slice_index_or}
use Rattle.sd_base.specs.declared.page_op.PageOp.{PageOp}
use Rattle.sd_base.specs.declared.page_op.PageOp.TheVariants as ops
use Rattle.page_image.specs.declared.page_view.PageView.{PageView}
use Rattle.page_image.specs.Image.{IsImage}
use Rattle.page_image.specs.Change.{applied, slot_of, with_put}
use Rattle.log_record.specs.declared.record.LogRecord.{LogRecord}
use Rattle.log_record.specs.declared.record.LogRecord.TheVariants.{Begin, Set, Append, Commit, Abort, Restore, Cut, MapUse, MapFree}
use Rattle.log_record.specs.Record.{change_of}

-- the change that takes an update back: a set slot is put back, and an append is cut off
abbrev pub taking_back : LogRecord → Option PageOp
taking_back Begin = None
taking_back (Set txn prev page bsi slot before after) = Some (ops.Put slot before)
taking_back (Append txn prev page bsi slot present len bytes) = Some (ops.Cut slot present len)
taking_back (Commit txn prev) = None
taking_back (Abort txn prev) = None
taking_back (Restore txn prev next page bsi slot after) = None
taking_back (Cut txn prev next page bsi slot present len) = None
taking_back (MapUse page bsi place group) = None
taking_back (MapFree page bsi place group ident) = None

-- what a slot of the page holds
abbrev pub content : PageView → ℕ → Option (List ℕ)
content v slot = slice_index_or v.slots slot None

-- whether a slot is present, and how long its value is
abbrev pub IsMarked : Bool → ℕ → Option (List ℕ) → Type 0
IsMarked present len held = (present ≡ is_some held) × (len ≡ length (unwrap_or held []))

-- the update was made of this page: it says what its slot held, and what it appends fits
abbrev pub IsUpdateOf : LogRecord → PageView → Type 0
IsUpdateOf Begin v = ⊥
IsUpdateOf (Set txn prev page bsi slot before after) v = content v slot ≡ before
IsUpdateOf (Append txn prev page bsi slot present len bytes) v = IsMarked present len (content v slot) × (len + length bytes ≤ 248)
IsUpdateOf (Commit txn prev) v = ⊥
IsUpdateOf (Abort txn prev) v = ⊥
IsUpdateOf (Restore txn prev next page bsi slot after) v = ⊥
IsUpdateOf (Cut txn prev next page bsi slot present len) v = ⊥
IsUpdateOf (MapUse page bsi place group) v = ⊥
IsUpdateOf (MapFree page bsi place group ident) v = ⊥

-- On each page whose slot is as the update left it, whatever its other slots are, the change puts into the slot what it
-- held before the update, and leaves the others.
abbrev pub Undoes : LogRecord → PageOp → Type 0
Undoes rec change =
    (update : PageOp) (before now : PageView) → change_of rec ≡ Some update → IsImage before → slot_of update ≤ 15 → IsUpdateOf rec before
    → content now (slot_of update) ≡ content (applied update before) (slot_of update)
    → applied change now ≡ with_put (slot_of update) (content before (slot_of update)) now
