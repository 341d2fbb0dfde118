use Rattle.std.proofs.Common.{sym, subst}
use Rattle.sd_base.specs.declared.page_op.PageOp.TheVariants as ops
use Rattle.compensation.specs.Inverse.{Undoes}
use Rattle.compensation.proofs.InverseLaws.{append_undone}
use Rattle.compensation.proofs.inverse.take_back.Goals as goal

pub returns-in-Append-clause-undoes : goal.returns-in-Append-clause-undoes
returns-in-Append-clause-undoes c =
    subst (λ rec. Undoes rec (ops.Cut c.in-Append.slot c.in-Append.present c.in-Append.len)) (sym c.in-Append.is)
    (append_undone c.in-Append.txn c.in-Append.prev c.in-Append.bsi c.in-Append.slot c.in-Append.page c.in-Append.present c.in-Append.len c.in-Append.bytes)
