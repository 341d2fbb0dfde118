use Rattle.std.proofs.Common.{rules, ◌≡◌, ap, subst, sym, ◌∙◌}
use Rattle.txn_core.specs.Shown.{shown}
use Rattle.txn_core.specs.Undo.{compensation_of}
use Rattle.txn_core.specs.Updates.{HasPage}
use Rattle.txn_core.proofs.CompensationLaws.{own_page}
use Rattle.txn_core.proofs.compensating.answer.Goals as goal

pub returns-clause-there : goal.returns-clause-there
returns-clause-there c = λ v has room of_page.
    let same = own_page c.args.update.now v c.in-Some.change (sym c.page_op.ensures ∙ c.in-Some.is) of_page in
    let ident = c.ident_before.ensures.there v (subst (λ x. HasPage c.args.pool.now c.args.c.now.pages x v) same has) room in
    let is : c.in_ok-ident.ident ≡ v.ident = search (rules, ident) in
    c.compensation.ensures ∙ ap (λ i. compensation_of (shown c.args.txn) c.args.next i c.args.update.now) is
