-- The change that a record makes of a page.
use Rattle.std.specs.Prelude.{ℕ, Option, Some, None}
use Rattle.sd_base.specs.declared.names.PageNo.{PageNo}
use Rattle.sd_base.specs.declared.page_op.PageOp.{PageOp}
use Rattle.sd_base.specs.declared.page_op.PageOp.TheVariants as ops
use Rattle.log_record.specs.declared.record.LogRecord.{LogRecord}
use Rattle.log_record.specs.declared.record.LogRecord.TheVariants.{Begin, Set, Append, Commit, Abort, Restore, Cut, MapUse, MapFree}

-- the change that a record makes of its page
abbrev pub change_of : LogRecord → Option PageOp
change_of Begin = None
change_of (Set txn prev page bsi slot before after) = Some (ops.Put slot after)
change_of (Append txn prev page bsi slot present len bytes) = Some (ops.Append slot bytes)
change_of (Commit txn prev) = None
change_of (Abort txn prev) = None
change_of (Restore txn prev next page bsi slot after) = Some (ops.Put slot after)
change_of (Cut txn prev next page bsi slot present len) = Some (ops.Cut slot present len)
change_of (MapUse page bsi place group) = Some (ops.MapUse place group)
change_of (MapFree page bsi place group ident) = Some (ops.MapFree place ident)

-- the page that a record changes, its identifier before that, and the change
abbrev pub page_op_of : LogRecord → Option (PageNo × ℕ × PageOp)
page_op_of Begin = None
page_op_of (Set txn prev page bsi slot before after) = Some (page, bsi, ops.Put slot after)
page_op_of (Append txn prev page bsi slot present len bytes) = Some (page, bsi, ops.Append slot bytes)
page_op_of (Commit txn prev) = None
page_op_of (Abort txn prev) = None
page_op_of (Restore txn prev next page bsi slot after) = Some (page, bsi, ops.Put slot after)
page_op_of (Cut txn prev next page bsi slot present len) = Some (page, bsi, ops.Cut slot present len)
page_op_of (MapUse page bsi place group) = Some (page, bsi, ops.MapUse place group)
page_op_of (MapFree page bsi place group ident) = Some (page, bsi, ops.MapFree place ident)
