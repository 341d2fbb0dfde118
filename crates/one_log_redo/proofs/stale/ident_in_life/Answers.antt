use Rattle.std.proofs.Common.{sym, ◌∙◌, ap, max}
use Rattle.one_log_redo.proofs.Images.{ident-read, ident-in_life}
use Rattle.one_log_redo.proofs.stale.ident_in_life.Goals as goal

pub returns : goal.returns
returns c = λ x i t.
    c.max.ensures ∙ (ap (λ k. max k c.args.birth) (c.page_ident.ensures ∙ ident-read i c.args.b.now t) ∙ sym (ident-in_life x c.args.birth i))
