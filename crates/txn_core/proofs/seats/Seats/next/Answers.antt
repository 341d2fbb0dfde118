use Rattle.std.proofs.Common.{rules, ◌≡◌, ◌≤◌, ◌*◌, [], true, Some, IfSome, MatchOption, refl, subst, sym, ◌∙◌}
use Rattle.compensation.specs.Left.{is_update_of, uncompensated}
use Rattle.compensation.specs.Finding.{newest, record_at}
use Rattle.txn_core.proofs.Stops.{on_fault, read_cut}
use Rattle.txn_core.proofs.seats.Seats.next.Goals as goal

pub returns-in_err-number-clause-there : goal.returns-in_err-number-clause-there
returns-in_err-number-clause-there g c = λ told recs has tells.
    let stop = c.in_err-number.ensures.there told recs has tells in
    search (rules, stop)

pub returns-in-Some-page_op-clause-found : goal.returns-in-Some-page_op-clause-found
returns-in-Some-page_op-clause-found g c = λ told recs t is has tells.
    let found = subst (λ o. MatchOption o (uncompensated t.begin (6 * c.args.c.now.log.start) recs ≡ [])
    (λ u. (newest (uncompensated t.begin (6 * c.args.c.now.log.start) recs) ≡ Some u.0) × (record_at (6 * c.args.c.now.log.start) recs u.0 ≡ Some u.1) × (is_update_of t.begin u.1 ≡ true))) c.in-Some.is (c.in_ok-number.ensures.found told recs t is has tells) in
    (found.0, c.in-Some.update, found.1, found.2, subst (λ o. IfSome o (λ q. q.0 ≡ c.in-Some-page_op.page)) (sym c.in-Some-page_op.is ∙ c.page_op.ensures) refl)

pub returns-in_default-clause-left : goal.returns-in_default-clause-left
returns-in_default-clause-left g c = λ t is. subst (λ o. MatchOption o (t.left ≡ 0) (λ u. 1 ≤ t.left)) c.in_default.is (c.in_ok-number.ensures.left t is)

pub returns-in-Some-page_op-clause-left : goal.returns-in-Some-page_op-clause-left
returns-in-Some-page_op-clause-left g c = λ t is. subst (λ o. MatchOption o (t.left ≡ 0) (λ u. 1 ≤ t.left)) c.in-Some.is (c.in_ok-number.ensures.left t is)

pub returns-in_err-number-clause-cut : goal.returns-in_err-number-clause-cut
returns-in_err-number-clause-cut g c =
    on_fault _ c.from_residual.result c.in_err-number.field-0.0 (search rules)
    (read_cut c.in_err-number.field-0.0 g.D.Disk.told c.args.c.now.log c.args.c.now.node.0 (g.D.Disk.state c.args.disk.now).block (g.D.Disk.state c.next_update.new.disk).block (λ told k. g.met.D.Disk.lawful c.next_update.new.disk k told) c.next_update.ensures.outcomes c.in_err-number.ensures.still)
