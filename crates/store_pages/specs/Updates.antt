-- The updates that are left of a transaction, as its node's log has them, and the room that their pages need.
use Rattle.std.specs.Prelude.{◌≡◌, ◌==◌, ◌*◌, ◌+◌, ◌^◌, ◌<◌, ◌≤◌, ◌∷◌, ◌++◌, [], ℕ, Bool, true, false, List, Option, Some, None, IfSome, MatchOption, count_by, option_and_then}
use Rattle.sd_base.specs.Disk.{BlockState}
use Rattle.sd_base.specs.declared.names.PageNo.{PageNo}
use Rattle.sd_base.specs.declared.names.TxnId.{TxnId}
use Rattle.sd_base.specs.declared.page_op.PageOp.{PageOp}
use Rattle.page_image.specs.declared.page_view.PageView.{PageView}
use Rattle.log_record.specs.declared.record.LogRecord.{LogRecord}
use Rattle.log_record.specs.Record.{page_op_of}
use Rattle.private_log.specs.Content.{Region}
use Rattle.private_log.specs.Reading.{IsInRegion}
use Rattle.compensation.specs.Left.{is_update_of, uncompensated}
use Rattle.compensation.specs.Finding.{newest, record_at}
use Rattle.script_text.specs.declared.reply.Reply.{Reply}
use Rattle.script_text.specs.declared.reply.Reply.TheVariants as says
use Rattle.txn_core.specs.Seats.{OpenTxn, SeatsState, txn_in}
use Rattle.txn_core.specs.Told.{AreTold, HasRecords}
use Rattle.txn_core.specs.Updates.{HasPage}
use Rattle.record_machine.specs.Machine.{Deed, Machine, writes_of}
use Rattle.store_nodes.specs.declared.store.Store.{Store}
use Rattle.store_nodes.specs.Nodes.{OnUp, is_up, node_at}

-- ---- the updates that are left

-- the number is that of a record of the seat's transaction behind the one that began it
abbrev pub IsWithin : SeatsState → ℕ → ℕ → Type 0
IsWithin seats seat number = (t : OpenTxn) → txn_in seats seat ≡ Some t → (t.begin < number) × (number ≤ t.last)

-- These are the numbers of the updates that are left of the transaction, the newest first: all of them, or those that
-- come after this one.
abbrev pub IsLeftAfter : ℕ → ℕ → List LogRecord → Option ℕ → List ℕ → Type 0
IsLeftAfter t first recs None before = uncompensated t first recs ≡ before
IsLeftAfter t first recs (Some number) before = (behind : List ℕ) × (uncompensated t first recs ≡ behind ++ number ∷ before)

-- what is found is the first of them, with its page; or there is none
abbrev pub IsNextAfter : ℕ → ℕ → List LogRecord → List ℕ → Option (ℕ × PageNo) → Type 0
IsNextAfter t first recs before found =
    MatchOption found (before ≡ []) (λ u. (newest before ≡ Some u.0) × (rec : LogRecord) × (record_at first recs u.0 ≡ Some rec) × (is_update_of t rec ≡ true) × IfSome (page_op_of rec) (λ o. o.0 ≡ u.1))

-- the number is that of the log record of a write of the transaction
abbrev pub IsNumberOf : Machine → TxnId → ℕ → Type 0
IsNumberOf m t number = (earlier later : List Deed) × (d : Deed) × (writes_of m t ≡ earlier ++ d ∷ later) × (d.number ≡ number)

-- the record with this number changes the page x
abbrev pub is_op_of : ℕ → Option (PageNo × ℕ × PageOp) → Bool
is_op_of x None = false
is_op_of x (Some o) = o.0.0 == x

abbrev pub changes_page : ℕ → List LogRecord → ℕ → ℕ → Bool
changes_page first recs x number = is_op_of x (option_and_then page_op_of (record_at first recs number))

-- how many of the updates that are left of the transaction are of the page x
abbrev pub left_on : ℕ → ℕ → List LogRecord → ℕ → ℕ
left_on t first recs x = count_by (changes_page first recs x) (uncompensated t first recs)

-- ---- the room of a page

-- what node n, which is up, has cached of the page, and how many updates of it the seat's transaction has left
abbrev pub OnLeft : Store → ℕ → (ℕ → BlockState) → ℕ → PageNo → (PageView → ℕ → Type 0) → Type 0
OnLeft c n b seat x P = OnUp (node_at c.nodes n) (λ k seats. (v : PageView) (recs : List LogRecord) (t : OpenTxn) → HasPage c.shared.pool k.pages x v → txn_in seats seat ≡ Some t → HasRecords k.log b recs → AreTold seats k.log.start recs → P v (left_on t.begin (6 * k.log.start) recs x.0))

-- the page has room for the changes that take back what the transaction has written of it, or hasn't
abbrev pub HasRoomFor : Store → (ℕ → BlockState) → TxnId → PageNo → Type 0
HasRoomFor c b t x = OnLeft c t.node.0 b t.seat x (λ v left. v.ident + left ≤ 2 ^ 63 + 2 ^ 40)

abbrev pub HasNoRoomFor : Store → (ℕ → BlockState) → TxnId → PageNo → Type 0
HasNoRoomFor c b t x = (is_up (node_at c.nodes t.node.0) ≡ true) × OnLeft c t.node.0 b t.seat x (λ v left. 2 ^ 63 + 2 ^ 40 < v.ident + left)

-- ---- why it isn't found

-- a block of the log is damaged
abbrev pub IsLogBlock : Region → Reply → Type 0
IsLogBlock g (says.DamagedDisk at) = IsInRegion g at.0
IsLogBlock g reply = ⊥
