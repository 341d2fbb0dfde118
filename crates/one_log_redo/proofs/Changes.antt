-- A record that redo takes says a change that can be made.
use Rattle.std.proofs.Common.{◌≡◌, ℕ, Some, subst, Option, None}
use Rattle.std.specs.Prelude.{⊤}
use Rattle.log_record.specs.declared.record.LogRecord.TheVariants.{Begin, Set, Append, Commit, Abort, Restore, Cut, MapUse, MapFree}
use Rattle.sd_base.specs.declared.names.PageNo.{PageNo}
use Rattle.sd_base.specs.declared.page_op.PageOp.{PageOp}
use Rattle.sd_base.specs.declared.shape.Shape.{Shape}
use Rattle.one_log_redo.specs.Steps.{IsChangeOf, RecordSaysChange}

-- the change that a record says, if it says one, can be made
abbrev IsSaid : Shape → Option (PageNo × ℕ × PageOp) → Type 0
IsSaid s None = ⊤
IsSaid s (Some (page, bsi, op)) = IsChangeOf s page.0 bsi op

-- a change that is named in two ways
subst_change : (s : Shape) (x page : PageNo) (b bsi : ℕ) (o op : PageOp) → ◌≡◌ {A = Option (PageNo × ℕ × PageOp)} (Some (x, b, o)) (Some (page, bsi, op)) → IsChangeOf s x.0 b o → IsChangeOf s page.0 bsi op
subst_change s x page b bsi o op e c = subst (IsSaid s) e c

pub says_change : RecordSaysChange
says_change s text Begin page bsi op r e = absurd cc
says_change s text (Set txn prev x b slot before after) page bsi op r e = subst_change s _ _ _ _ _ _ e (record { range = (r.legal.bsi, r.legal.place); map = λ m. absurd cc; slot = λ m. r.page })
says_change s text (Append txn prev x b slot present len bytes) page bsi op r e = subst_change s _ _ _ _ _ _ e (record { range = (r.legal.bsi, r.legal.place); map = λ m. absurd cc; slot = λ m. r.page })
says_change s text (Commit txn prev) page bsi op r e = absurd cc
says_change s text (Abort txn prev) page bsi op r e = absurd cc
says_change s text (Restore txn prev next x b slot after) page bsi op r e = subst_change s _ _ _ _ _ _ e (record { range = (r.legal.bsi, r.legal.place); map = λ m. absurd cc; slot = λ m. r.page })
says_change s text (Cut txn prev next x b slot present len) page bsi op r e = subst_change s _ _ _ _ _ _ e (record { range = (r.legal.bsi, r.legal.place); map = λ m. absurd cc; slot = λ m. r.page })
says_change s text (MapUse x b place group) page bsi op r e = subst_change s _ _ _ _ _ _ e (record { range = (r.legal.bsi, (r.legal.place, r.legal.group)); map = λ m. r.page; slot = λ m. absurd cc })
says_change s text (MapFree x b place group ident) page bsi op r e = subst_change s _ _ _ _ _ _ e (record { range = (r.legal.bsi, (r.legal.place, r.legal.extra)); map = λ m. r.page; slot = λ m. absurd cc })
