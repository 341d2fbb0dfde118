use Rattle.std.proofs.Common.{rules, ◌≡◌, ◌*◌, ◌≤◌, ◌<◌, [], true, Some, IfSome, MatchOption, arith, ap, subst, sym, ◌∙◌}
use Rattle.compensation.specs.Left.{is_update_of, uncompensated}
use Rattle.compensation.specs.Finding.{newest, next_behind, record_at}
use Rattle.txn_core.specs.Seats.{OpenTxn, txn_in}
use Rattle.txn_core.specs.Shown.{shown}
use Rattle.txn_core.specs.Told.{HasRecords}
use Rattle.txn_core.proofs.TakeBackLaws.{before_within}
use Rattle.txn_core.proofs.UndoLaws.{seat_told}
use Rattle.txn_core.proofs.seats.Seats.newest_update.Goals as goal

pub returns-in_err-update-clause-there : goal.returns-in_err-update-clause-there
returns-in_err-update-clause-there g c = λ told recs t is has tells some.
    let stop = c.in_err-update.ensures.there told recs has tells in
    search (rules, stop)

pub returns-in_err-next-clause-there : goal.returns-in_err-next-clause-there
returns-in_err-next-clause-there g c = λ told recs t is has tells some.
    let found = subst (λ o. MatchOption o (uncompensated c.open_in-txn.result.begin (6 * c.args.c.now.log.start) recs ≡ [])
    (λ u. (newest (uncompensated c.open_in-txn.result.begin (6 * c.args.c.now.log.start) recs) ≡ Some u.0) × (record_at (6 * c.args.c.now.log.start) recs u.0 ≡ Some u.1) × (is_update_of c.open_in-txn.result.begin u.1 ≡ true)))
    c.in-Some.is (c.in_ok-update.ensures.found told recs (shown c.open_in-txn.result) c.open_in-txn.ensures has tells) in
    let place = subst (λ o. IfSome o (λ u. (t : OpenTxn) → txn_in c.args.self.now c.args.seat ≡ Some t → (t.begin < u.0) × (u.0 ≤ t.last))) c.in-Some.is c.in_ok-update.ensures.within (shown c.open_in-txn.result) c.open_in-txn.ensures in
    let was = seat_told c.args.self.now c.args.c.now.log.start c.args.seat (shown c.open_in-txn.result) recs tells c.open_in-txn.ensures in
    let before = before_within (shown c.open_in-txn.result) (6 * c.args.c.now.log.start) recs c.in-Some.field-0-0 c.in-Some.update was found.1 found.2 in
    let behind = place.1 in
    let sooner = before.1 in
    let has_then = subst (λ b. HasRecords c.args.c.now.log b recs) (sym (c.in_ok-update.ensures.blocks told)) has in
    let stop = c.in_err-next.ensures.there told recs has_then before.0 (omega (arith, behind, sooner)) in
    search (rules, stop)

pub returns-clause-found : goal.returns-clause-found
returns-clause-found g c = λ told recs t is has tells.
    let other = c.open_in-txn.ensures in
    let same : shown c.open_in-txn.result ≡ t = cc in
    let found = subst (λ o. MatchOption o (uncompensated t.begin (6 * c.args.c.now.log.start) recs ≡ [])
    (λ u. (newest (uncompensated t.begin (6 * c.args.c.now.log.start) recs) ≡ Some u.0) × (record_at (6 * c.args.c.now.log.start) recs u.0 ≡ Some u.1) × (is_update_of t.begin u.1 ≡ true)))
    c.in-Some.is (c.in_ok-update.ensures.found told recs t is has tells) in
    (c.in-Some.field-0-0, found.0, found.1, c.in_ok-next.ensures.next told recs (subst (λ b. HasRecords c.args.c.now.log b recs) (sym (c.in_ok-update.ensures.blocks told)) has) ∙ ap (λ u. next_behind u.begin (6 * c.args.c.now.log.start) recs c.in-Some.update) same)

pub returns-clause-left : goal.returns-clause-left
returns-clause-left g c = λ t is. subst (λ o. MatchOption o (t.left ≡ 0) (λ u. 1 ≤ t.left)) c.in-Some.is (c.in_ok-update.ensures.left t is)
