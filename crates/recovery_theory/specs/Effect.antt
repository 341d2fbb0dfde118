-- What a log record does: to a page, and to what is left of its transaction.
use Rattle.std.specs.Prelude.{◌≡◌, ℕ, suc, cond, eqb, ltb, ◌&&◌, List, [], ◌∷◌, ◌++◌, Option, Some, None}
use Rattle.sd_base.specs.declared.names.PageNo.{PageNo}
use Rattle.sd_base.specs.declared.page_op.PageOp.{PageOp}
use Rattle.sd_base.specs.declared.page_op.PageOp.TheVariants as ops
use Rattle.log_record.specs.declared.record.LogRecord.{LogRecord}
use Rattle.log_record.specs.declared.record.LogRecord.TheVariants.{Begin, Set, Append, Commit, Abort, Restore, Cut, MapUse, MapFree}
use Rattle.log_record.specs.Record.{change_of, page_op_of}
use Rattle.compensation.specs.Inverse.{taking_back}
use Rattle.recovery_theory.specs.Pages.{place_of}

-- What a record does, whatever its kind: it begins a transaction, changes a page in a way that can be taken back, ends a
-- transaction, takes changes back down to the record `next`, or changes a map page.
pub data Effect : Type 0 where
  Begun : Effect
  Updated : (txn page bsi : ℕ) → (op back : PageOp) → Effect
  Ended : (txn : ℕ) → Effect
  Compensated : (txn next page bsi : ℕ) → (op : PageOp) → Effect
  Mapped : (page bsi : ℕ) → (op : PageOp) → Effect

-- what the record does
abbrev pub effect_of : LogRecord → Effect
effect_of Begin = Begun
effect_of (Set txn prev page bsi slot before after) = Updated txn page.0 bsi (ops.Put slot after) (ops.Put slot before)
effect_of (Append txn prev page bsi slot present len bytes) = Updated txn page.0 bsi (ops.Append slot bytes) (ops.Cut slot present len)
effect_of (Commit txn prev) = Ended txn
effect_of (Abort txn prev) = Ended txn
effect_of (Restore txn prev next page bsi slot after) = Compensated txn next page.0 bsi (ops.Put slot after)
effect_of (Cut txn prev next page bsi slot present len) = Compensated txn next page.0 bsi (ops.Cut slot present len)
effect_of (MapUse page bsi place group) = Mapped page.0 bsi (ops.MapUse place group)
effect_of (MapFree page bsi place group ident) = Mapped page.0 bsi (ops.MapFree place ident)

-- ---- on a page

-- a change of one page, where that is known, with the identifier that the page had before it
pub record Step : Type 0 where
  pub bsi : ℕ
  pub op : PageOp

-- the step of page x in an effect, if it has one
abbrev pub step_of_effect : ℕ → Effect → List Step
step_of_effect x Begun = []
step_of_effect x (Updated txn page bsi op back) = cond (eqb page x) (record { bsi = bsi; op = op } ∷ []) []
step_of_effect x (Ended txn) = []
step_of_effect x (Compensated txn next page bsi op) = cond (eqb page x) (record { bsi = bsi; op = op } ∷ []) []
step_of_effect x (Mapped page bsi op) = cond (eqb page x) (record { bsi = bsi; op = op } ∷ []) []

-- the step of page x that a record makes, if it makes one
abbrev pub step_on : ℕ → LogRecord → List Step
step_on x rec = step_of_effect x (effect_of rec)

-- the steps of page x in a log
abbrev pub steps_on : ℕ → List LogRecord → List Step
steps_on x [] = []
steps_on x (rec ∷ l) = step_on x rec ++ steps_on x l

-- ---- on a transaction

-- An update that is still to be taken back: the number of its record, its page, its change, and the one that takes it back.
pub record OpenUpdate : Type 0 where
  pub number : ℕ
  pub page : ℕ
  pub update : PageOp
  pub back : PageOp

-- of these updates, those up to record `next`
abbrev pub down_to : ℕ → List OpenUpdate → List OpenUpdate
down_to next [] = []
down_to next (u ∷ us) = cond (ltb next u.number) (down_to next us) (u ∷ down_to next us)

-- an open transaction has made one update more
abbrev pub with_update : OpenUpdate → Option (List OpenUpdate) → Option (List OpenUpdate)
with_update u None = None
with_update u (Some us) = Some (u ∷ us)

-- an open transaction has taken its updates back down to record `next`
abbrev pub taken_down_to : ℕ → Option (List OpenUpdate) → Option (List OpenUpdate)
taken_down_to next None = None
taken_down_to next (Some us) = Some (down_to next us)

-- What an effect in record r makes of what is left of transaction t, which is named by the number of the record that begins it.
-- None where t isn't open.
abbrev pub left_by_effect : ℕ → ℕ → Effect → Option (List OpenUpdate) → Option (List OpenUpdate)
left_by_effect t r Begun s = cond (eqb r t) (Some []) s
left_by_effect t r (Updated txn page bsi op back) s = cond (eqb txn t) (with_update (record { number = r; page = page; update = op; back = back }) s) s
left_by_effect t r (Ended txn) s = cond (eqb txn t) None s
left_by_effect t r (Compensated txn next page bsi op) s = cond (eqb txn t) (taken_down_to next s) s
left_by_effect t r (Mapped page bsi op) s = s

-- what a record with number r makes of it
abbrev pub left_by : ℕ → ℕ → LogRecord → Option (List OpenUpdate) → Option (List OpenUpdate)
left_by t r rec s = left_by_effect t r (effect_of rec) s

-- what is left of transaction t after these records, the first of which has number r: its updates that aren't taken back, the
-- newest first
abbrev pub left_of : ℕ → ℕ → List LogRecord → Option (List OpenUpdate) → Option (List OpenUpdate)
left_of t r [] s = s
left_of t r (rec ∷ l) s = left_of t (suc r) l (left_by t r rec s)

-- nothing is left of a transaction that isn't open
abbrev pub listed : Option (List OpenUpdate) → List OpenUpdate
listed None = []
listed (Some us) = us

-- a transaction of any node
pub record Transaction : Type 0 where
  pub node : ℕ
  pub txn : ℕ

-- what is left of it, where `first` is the number of the first record of each log
abbrev pub open_updates : (ℕ → ℕ) → (ℕ → List LogRecord) → Transaction → List OpenUpdate
open_updates first logs o = listed (left_of o.txn (first o.node) (logs o.node) None)

-- of these updates, those of one slot of one page
abbrev pub of_slot : ℕ → ℕ → List OpenUpdate → List OpenUpdate
of_slot x s [] = []
of_slot x s (u ∷ us) = cond (eqb u.page x && eqb (place_of u.back) s) (u ∷ of_slot x s us) (of_slot x s us)

-- ---- laws

-- the step of page x in a change that a record says
abbrev pub step_said : ℕ → Option (PageNo × ℕ × PageOp) → List Step
step_said x None = []
step_said x (Some (page, bsi, op)) = cond (eqb page.0 x) (record { bsi = bsi; op = op } ∷ []) []

-- the step of a record is the change that it says
abbrev pub StepIsSaid : Type 0
StepIsSaid = (rec : LogRecord) (x : ℕ) → step_on x rec ≡ step_said x (page_op_of rec)

-- an update says its change, and is taken back by the change that takes it back
abbrev pub UpdateIsSaid : Type 0
UpdateIsSaid = (rec : LogRecord) (t page bsi : ℕ) (op back : PageOp) → effect_of rec ≡ Updated t page bsi op back → (change_of rec ≡ Some op) × (taking_back rec ≡ Some back)
