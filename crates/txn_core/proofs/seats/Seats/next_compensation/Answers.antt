use Rattle.std.proofs.Common.{◌≡◌, ◌*◌, Some, ap, subst, sym, ◌∙◌}
use Rattle.compensation.specs.Finding.{next_behind}
use Rattle.txn_core.specs.Shown.{shown}
use Rattle.txn_core.specs.Undo.{IsPageOf, compensation_of}
use Rattle.txn_core.proofs.SeatLaws.{seat_numbers}
use Rattle.txn_core.proofs.TakeBackLaws.{back_of_update, legal_back, one_back, one_update}
use Rattle.txn_core.proofs.UndoLaws.{newest_update, seat_told}
use Rattle.txn_core.proofs.seats.Seats.next_compensation.Goals as goal

pub returns-in-Some-clause-legal : goal.returns-in-Some-clause-legal
returns-in-Some-clause-legal g c =
    let made = c.in-Some.ensures.made in
    let numbers = seat_numbers c.args.self.now c.args.c.now c.args.seat (shown c.open_in-txn.result) c.requires.tie c.open_in-txn.ensures in
    legal_back (shown c.open_in-txn.result) c.in_ok-update.next made.0.ident c.in_ok-update.update c.in-Some.rec made.4 c.in_ok-update.ensures.legal c.in_ok-update.ensures.number made.2 numbers.0 numbers.1

pub returns-in-Some-clause-found : goal.returns-in-Some-clause-found
returns-in-Some-clause-found g c = λ told recs t is has tells v other takes.
    let opened = c.open_in-txn.ensures in
    let same : shown c.open_in-txn.result ≡ t = cc in
    let found = c.in_ok-update.ensures.found told recs t is has tells in
    let made = c.in-Some.ensures.made in
    let update : takes.undo.update ≡ c.in_ok-update.update = one_update (6 * c.args.c.now.log.start) recs t takes.undo.number found.0 takes.undo.update c.in_ok-update.update takes.undo.newest takes.undo.there found.1 found.2 in
    one_back c.args.pool.now c.args.c.now.pages t (next_behind t.begin (6 * c.args.c.now.log.start) recs c.in_ok-update.update) v made.0 c.in_ok-update.update other c.in-Some.rec takes.undo.cached made.1 (subst (λ u. IsPageOf u v) update takes.undo.of_page) made.3
    (subst (λ u. compensation_of t (next_behind t.begin (6 * c.args.c.now.log.start) recs u) v.ident u ≡ Some other) update takes.is)
    (ap (λ n. compensation_of t n made.0.ident c.in_ok-update.update) (sym found.3) ∙ ap (λ u. compensation_of u c.in_ok-update.next made.0.ident c.in_ok-update.update) (sym same) ∙ made.4)

pub returns-in-None-clause-there : goal.returns-in-None-clause-there
returns-in-None-clause-there g c = λ told recs t v is has tells undo.
    let opened = c.open_in-txn.ensures in
    let same : shown c.open_in-txn.result ≡ t = cc in
    let found = c.in_ok-update.ensures.found told recs t is has tells in
    let update : undo.update ≡ c.in_ok-update.update = one_update (6 * c.args.c.now.log.start) recs t undo.number found.0 undo.update c.in_ok-update.update undo.newest undo.there found.1 found.2 in
    let none = c.in-None.ensures.there v undo.cached undo.room (subst (λ u. IsPageOf u v) update undo.of_page) in
    let some = back_of_update t c.in_ok-update.next v.ident c.in_ok-update.update (newest_update t (6 * c.args.c.now.log.start) recs found.0 c.in_ok-update.update (seat_told c.args.self.now c.args.c.now.log.start c.args.seat t recs tells is) found.1 found.2) in
    let none_too = ap (λ u. compensation_of u c.in_ok-update.next v.ident c.in_ok-update.update) same in
    let made = some.1 in
    cc
