use Rattle.std.proofs.Common.{rules, ◌≡◌, ◌*◌, [], true, Some, is_some, nat_lt, ap, arith, subst, sym, ◌∙◌}
use Rattle.compensation.specs.Left.{is_update_of, uncompensated}
use Rattle.compensation.specs.Finding.{newest, record_at}
use Rattle.txn_core.specs.Shown.{shown}
use Rattle.txn_core.specs.Told.{HasRecords}
use Rattle.txn_core.proofs.UndoLaws.{left_told, not_both, nothing_left, newest_left, newest_update, seat_told, undo_within}
use Rattle.txn_core.proofs.seats.Seats.next_update.Goals as goal
use Rattle.txn_core.proofs.seats.Seats.next_update.Goals.{then-number-txn-via-then-number-txn, then-number-txn-via-else-number-txn+then-number-txn-2}

pub returns-in_err-last-clause-there : goal.returns-in_err-last-clause-there
returns-in_err-last-clause-there g c = λ told recs has tells.
    let stop = c.in_err-last.ensures.there told recs (subst (λ l. HasRecords l (g.D.Disk.state c.args.disk.now).block recs) (sym c.log-log.ensures) has) in
    search (rules, stop)

pub returns-in_default-clause-found : goal.returns-in_default-clause-found
returns-in_default-clause-found g c = λ told recs t is has tells.
    let other = c.open_in-txn.ensures in
    let same : shown c.open_in-txn.result ≡ t = cc in
    subst (λ u. uncompensated u.begin (6 * c.args.c.now.log.start) recs ≡ []) same
    (nothing_left (shown c.open_in-txn.result) (6 * c.args.c.now.log.start) recs c.in_ok-last.last tells.names (seat_told c.args.self.now c.args.c.now.log.start c.args.seat (shown c.open_in-txn.result) recs tells c.open_in-txn.ensures) (ap (λ l. record_at (6 * l.start) recs (shown c.open_in-txn.result).last) (sym c.log-log.ensures) ∙ c.in_ok-last.ensures.record told recs (subst (λ l. HasRecords l (g.D.Disk.state c.args.disk.now).block recs) (sym c.log-log.ensures) has)) (sym c.number_to_undo-next.ensures ∙ c.in_default.is))

pub returns-then-number-txn-clause-there : goal.returns-then-number-txn-clause-there
returns-then-number-txn-clause-there g c = λ told recs has tells.
    let within = undo_within (shown c.open_in-txn.result) (6 * c.args.c.now.log.start) recs c.in_ok-last.last c.in-Some.number (seat_told c.args.self.now c.args.c.now.log.start c.args.seat (shown c.open_in-txn.result) recs tells c.open_in-txn.ensures) (ap (λ l. record_at (6 * l.start) recs (shown c.open_in-txn.result).last) (sym c.log-log.ensures) ∙ c.in_ok-last.ensures.record told recs (subst (λ l. HasRecords l (g.D.Disk.state c.args.disk.now).block recs) (sym c.log-log.ensures) has)) (sym c.number_to_undo-next.ensures ∙ c.in-Some.is) in
    elim c.then-number-txn.branch [
      | then-number-txn-via-then-number-txn w ↦ absurd (omega (arith, within.0, w.if-number-txn.true))
      | then-number-txn-via-else-number-txn+then-number-txn-2 w ↦ absurd (omega (arith, within.1, w.if-number-txn-2.true))
    ]

pub returns-in_err-update-clause-there : goal.returns-in_err-update-clause-there
returns-in_err-update-clause-there g c = λ told recs has tells.
    let stop = c.in_err-update.ensures.there told recs (subst (λ b. HasRecords c.log-log.result.now b recs) (sym (c.in_ok-last.ensures.blocks told)) (subst (λ l. HasRecords l (g.D.Disk.state c.args.disk.now).block recs) (sym c.log-log.ensures) has)) in
    search (rules, stop)

pub returns-clause-found : goal.returns-clause-found
returns-clause-found g c = λ told recs t is has tells.
    let other = c.open_in-txn.ensures in
    let same : shown c.open_in-txn.result ≡ t = cc in
    let new = newest_left (shown c.open_in-txn.result) (6 * c.args.c.now.log.start) recs c.in_ok-last.last c.in-Some.number tells.names (seat_told c.args.self.now c.args.c.now.log.start c.args.seat (shown c.open_in-txn.result) recs tells c.open_in-txn.ensures) (ap (λ l. record_at (6 * l.start) recs (shown c.open_in-txn.result).last) (sym c.log-log.ensures) ∙ c.in_ok-last.ensures.record told recs (subst (λ l. HasRecords l (g.D.Disk.state c.args.disk.now).block recs) (sym c.log-log.ensures) has)) (sym c.number_to_undo-next.ensures ∙ c.in-Some.is) in
    let at : record_at (6 * c.args.c.now.log.start) recs c.in-Some.number ≡ Some c.in_ok-update.update = ap (λ l. record_at (6 * l.start) recs c.in-Some.number) (sym c.log-log.ensures) ∙ c.in_ok-update.ensures.record told recs (subst (λ b. HasRecords c.log-log.result.now b recs) (sym (c.in_ok-last.ensures.blocks told)) (subst (λ l. HasRecords l (g.D.Disk.state c.args.disk.now).block recs) (sym c.log-log.ensures) has)) in (
      subst (λ u. newest (uncompensated u.begin (6 * c.args.c.now.log.start) recs) ≡ Some c.in-Some.number) same new,
      at,
      subst (λ u. is_update_of u.begin c.in_ok-update.update ≡ true) same (newest_update (shown c.open_in-txn.result) (6 * c.args.c.now.log.start) recs c.in-Some.number c.in_ok-update.update (seat_told c.args.self.now c.args.c.now.log.start c.args.seat (shown c.open_in-txn.result) recs tells c.open_in-txn.ensures) new at),
    )

pub returns-then-is_some-txn-clause-there : goal.returns-then-is_some-txn-clause-there
returns-then-is_some-txn-clause-there g c = λ told recs has tells.
    let same = left_told (shown c.open_in-txn.result) (6 * c.args.c.now.log.start) recs c.in_ok-last.last tells.names (seat_told c.args.self.now c.args.c.now.log.start c.args.seat (shown c.open_in-txn.result) recs tells c.open_in-txn.ensures) (ap (λ l. record_at (6 * l.start) recs (shown c.open_in-txn.result).last) (sym c.log-log.ensures) ∙ c.in_ok-last.ensures.record told recs (subst (λ l. HasRecords l (g.D.Disk.state c.args.disk.now).block recs) (sym c.log-log.ensures) has)) in
    absurd (not_both c.is_some.result (nat_lt 0 c.open_in-txn.result.left) (c.is_some.ensures ∙ ap is_some c.number_to_undo-next.ensures ∙ same) c.if-is_some-txn.true)
