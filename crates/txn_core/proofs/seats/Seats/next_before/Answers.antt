use Rattle.std.proofs.Common.{rules, ◌≡◌, ◌*◌, ◌++◌, ◌∷◌, true, Some, IsTrue, IfSome, arith, inl, inr, ap, refl, subst, sym, ◌∙◌}
use Rattle.sd_base.specs.Faults.{OnStop}
use Rattle.log_record.specs.Record.{page_op_of}
use Rattle.private_log.specs.Log.{region}
use Rattle.private_log.specs.Spread.{IsFreeRegion, IsStill}
use Rattle.compensation.specs.Left.{is_update_of, uncompensated}
use Rattle.compensation.specs.Finding.{record_at}
use Rattle.compensation.proofs.FindingLaws.{update_left}
use Rattle.txn_core.specs.Shown.{shown}
use Rattle.txn_core.specs.Told.{HasRecords}
use Rattle.txn_core.proofs.Stops.{read_cut, stop_then}
use Rattle.txn_core.proofs.TakeBackLaws.{before_within}
use Rattle.txn_core.proofs.UndoLaws.{page_of_update, seat_told, walk}
use Rattle.txn_core.proofs.seats.Seats.next_before.Goals as goal
use Rattle.txn_core.proofs.seats.Seats.next_before.Goals.{then-next-txn-2-via-then-next-txn-2, then-next-txn-2-via-else-next-txn-2+then-next-number}

pub returns-in_err-update-clause-there : goal.returns-in_err-update-clause-there
returns-in_err-update-clause-there g c = λ told recs t behind before is has tells left.
    let stop = c.in_err-update.ensures.there told recs (subst (λ l. HasRecords l (g.D.Disk.state c.args.disk.now).block recs) (sym c.log.ensures) has) in
    search (rules, stop)

pub returns-in_err-next-clause-there : goal.returns-in_err-next-clause-there
returns-in_err-next-clause-there g c = λ told recs t behind before is has tells left.
    let other = c.open_in-txn.ensures in
    let same : shown c.open_in-txn.result ≡ t = cc in
    let left_own = subst (λ u. uncompensated u.begin (6 * c.args.c.now.log.start) recs ≡ behind ++ c.args.number ∷ before) (sym same) left in
    let at : record_at (6 * c.args.c.now.log.start) recs c.args.number ≡ Some c.in_ok-update.update = ap (λ l. record_at (6 * l.start) recs c.args.number) (sym c.log.ensures) ∙ c.in_ok-update.ensures.record told recs (subst (λ l. HasRecords l (g.D.Disk.state c.args.disk.now).block recs) (sym c.log.ensures) has) in
    let has_then = subst (λ b. HasRecords c.args.c.now.log b recs) (sym (c.in_ok-update.ensures.blocks told)) has in
    let own = update_left (shown c.open_in-txn.result).begin (6 * c.args.c.now.log.start) recs behind c.args.number before c.in_ok-update.update left_own at in
    let within = before_within (shown c.open_in-txn.result) (6 * c.args.c.now.log.start) recs c.args.number c.in_ok-update.update (seat_told c.args.self.now c.args.c.now.log.start c.args.seat (shown c.open_in-txn.result) recs tells c.open_in-txn.ensures) at own in
    let low = within.1 in
    let high = (c.requires.within (shown c.open_in-txn.result) c.open_in-txn.ensures).1 in
    let stop = c.in_err-next.ensures.there told recs has_then within.0 (omega (arith, low, high)) in
    search (rules, stop)

pub returns-then-next-txn-clause-found : goal.returns-then-next-txn-clause-found
returns-then-next-txn-clause-found g c = λ told recs t behind before is has tells left.
    let other = c.open_in-txn.ensures in
    let same : shown c.open_in-txn.result ≡ t = cc in
    let left_own = subst (λ u. uncompensated u.begin (6 * c.args.c.now.log.start) recs ≡ behind ++ c.args.number ∷ before) (sym same) left in
    let at : record_at (6 * c.args.c.now.log.start) recs c.args.number ≡ Some c.in_ok-update.update = ap (λ l. record_at (6 * l.start) recs c.args.number) (sym c.log.ensures) ∙ c.in_ok-update.ensures.record told recs (subst (λ l. HasRecords l (g.D.Disk.state c.args.disk.now).block recs) (sym c.log.ensures) has) in
    let has_then = subst (λ b. HasRecords c.args.c.now.log b recs) (sym (c.in_ok-update.ensures.blocks told)) has in
    let step = walk c.args.self.now c.args.c.now.log.start c.args.seat (shown c.open_in-txn.result) recs behind c.args.number before c.in_ok-update.update c.in_ok-next.next tells c.open_in-txn.ensures left_own at (c.in_ok-next.ensures.next told recs has_then) in
    elim step [
      | inl begin ↦ begin.1
      | inr up ↦ let later = up.3 in absurd (omega (arith, later, c.if-next-txn.true))
    ]

pub returns-then-next-txn-2-clause-there : goal.returns-then-next-txn-2-clause-there
returns-then-next-txn-2-clause-there g c = λ told recs t behind before is has tells left.
    let other = c.open_in-txn.ensures in
    let same : shown c.open_in-txn.result ≡ t = cc in
    let left_own = subst (λ u. uncompensated u.begin (6 * c.args.c.now.log.start) recs ≡ behind ++ c.args.number ∷ before) (sym same) left in
    let at : record_at (6 * c.args.c.now.log.start) recs c.args.number ≡ Some c.in_ok-update.update = ap (λ l. record_at (6 * l.start) recs c.args.number) (sym c.log.ensures) ∙ c.in_ok-update.ensures.record told recs (subst (λ l. HasRecords l (g.D.Disk.state c.args.disk.now).block recs) (sym c.log.ensures) has) in
    let has_then = subst (λ b. HasRecords c.args.c.now.log b recs) (sym (c.in_ok-update.ensures.blocks told)) has in
    let step = walk c.args.self.now c.args.c.now.log.start c.args.seat (shown c.open_in-txn.result) recs behind c.args.number before c.in_ok-update.update c.in_ok-next.next tells c.open_in-txn.ensures left_own at (c.in_ok-next.ensures.next told recs has_then) in
    let never : ⊥ = elim step [
      | inl begin ↦ let same = begin.0 in omega (arith, same, c.if-next-txn.false)
      | inr up ↦
          let low = up.3 in
          let high = up.4 in
          elim c.then-next-txn-2.branch [
            | then-next-txn-2-via-then-next-txn-2 w ↦ omega (arith, low, w.if-next-txn-2.true)
            | then-next-txn-2-via-else-next-txn-2+then-next-number w ↦ omega (arith, high, w.if-next-number.true)
          ]
    ] in
    absurd never

pub returns-in_err-before-clause-there : goal.returns-in_err-before-clause-there
returns-in_err-before-clause-there g c = λ told recs t behind before is has tells left.
    let has_then = subst (λ b. HasRecords c.args.c.now.log b recs) (sym (c.in_ok-update.ensures.blocks told)) has in
    let has_now = subst (λ b. HasRecords c.args.c.now.log b recs) (sym (c.in_ok-next.ensures.blocks told)) has_then in
    let stop = c.in_err-before.ensures.there told recs (subst (λ l. HasRecords l (g.D.Disk.state c.next_behind.new.disk).block recs) (sym c.log-2.ensures) has_now) in
    search (rules, stop)

pub returns-in-Some-clause-found : goal.returns-in-Some-clause-found
returns-in-Some-clause-found g c = λ told recs t behind before is has tells left.
    let other = c.open_in-txn.ensures in
    let same : shown c.open_in-txn.result ≡ t = cc in
    let left_own = subst (λ u. uncompensated u.begin (6 * c.args.c.now.log.start) recs ≡ behind ++ c.args.number ∷ before) (sym same) left in
    let at : record_at (6 * c.args.c.now.log.start) recs c.args.number ≡ Some c.in_ok-update.update = ap (λ l. record_at (6 * l.start) recs c.args.number) (sym c.log.ensures) ∙ c.in_ok-update.ensures.record told recs (subst (λ l. HasRecords l (g.D.Disk.state c.args.disk.now).block recs) (sym c.log.ensures) has) in
    let has_then = subst (λ b. HasRecords c.args.c.now.log b recs) (sym (c.in_ok-update.ensures.blocks told)) has in
    let step = walk c.args.self.now c.args.c.now.log.start c.args.seat (shown c.open_in-txn.result) recs behind c.args.number before c.in_ok-update.update c.in_ok-next.next tells c.open_in-txn.ensures left_own at (c.in_ok-next.ensures.next told recs has_then) in
    let has_now = subst (λ b. HasRecords c.args.c.now.log b recs) (sym (c.in_ok-next.ensures.blocks told)) has_then in
    let there : record_at (6 * c.args.c.now.log.start) recs c.in_ok-next.next ≡ Some c.in_ok-before.before = ap (λ l. record_at (6 * l.start) recs c.in_ok-next.next) (sym c.log-2.ensures) ∙ c.in_ok-before.ensures.record told recs (subst (λ l. HasRecords l (g.D.Disk.state c.next_behind.new.disk).block recs) (sym c.log-2.ensures) has_now) in
    elim step [
      | inl begin ↦ let same = begin.0 in absurd (omega (arith, same, c.if-next-txn.false))
      | inr up ↦
          let both : Some up.0 ≡ Some c.in_ok-before.before = sym up.1 ∙ there in
          let one : up.0 ≡ c.in_ok-before.before = cc in (
            up.5,
            c.in_ok-before.before,
            there,
            subst (λ u. is_update_of u.begin c.in_ok-before.before ≡ true) same (ap (is_update_of (shown c.open_in-txn.result).begin) (sym one) ∙ up.2),
            subst (λ o. IfSome o (λ q. q.0 ≡ c.in-Some.page)) (sym c.in-Some.is ∙ c.page_op.ensures) refl,
          )
    ]

pub returns-in-None-clause-there : goal.returns-in-None-clause-there
returns-in-None-clause-there g c = λ told recs t behind before is has tells left.
    let other = c.open_in-txn.ensures in
    let same : shown c.open_in-txn.result ≡ t = cc in
    let left_own = subst (λ u. uncompensated u.begin (6 * c.args.c.now.log.start) recs ≡ behind ++ c.args.number ∷ before) (sym same) left in
    let at : record_at (6 * c.args.c.now.log.start) recs c.args.number ≡ Some c.in_ok-update.update = ap (λ l. record_at (6 * l.start) recs c.args.number) (sym c.log.ensures) ∙ c.in_ok-update.ensures.record told recs (subst (λ l. HasRecords l (g.D.Disk.state c.args.disk.now).block recs) (sym c.log.ensures) has) in
    let has_then = subst (λ b. HasRecords c.args.c.now.log b recs) (sym (c.in_ok-update.ensures.blocks told)) has in
    let step = walk c.args.self.now c.args.c.now.log.start c.args.seat (shown c.open_in-txn.result) recs behind c.args.number before c.in_ok-update.update c.in_ok-next.next tells c.open_in-txn.ensures left_own at (c.in_ok-next.ensures.next told recs has_then) in
    let has_now = subst (λ b. HasRecords c.args.c.now.log b recs) (sym (c.in_ok-next.ensures.blocks told)) has_then in
    let there : record_at (6 * c.args.c.now.log.start) recs c.in_ok-next.next ≡ Some c.in_ok-before.before = ap (λ l. record_at (6 * l.start) recs c.in_ok-next.next) (sym c.log-2.ensures) ∙ c.in_ok-before.ensures.record told recs (subst (λ l. HasRecords l (g.D.Disk.state c.next_behind.new.disk).block recs) (sym c.log-2.ensures) has_now) in
    let never : ⊥ = elim step [
      | inl begin ↦ let same = begin.0 in omega (arith, same, c.if-next-txn.false)
      | inr up ↦
          let both : Some up.0 ≡ Some c.in_ok-before.before = sym up.1 ∙ there in
          let one : up.0 ≡ c.in_ok-before.before = cc in
          page_of_update (shown c.open_in-txn.result).begin up.0 up.2 (ap page_op_of one ∙ sym c.page_op.ensures ∙ c.in-None.is)
    ] in
    absurd never

pub returns-in_err-update-clause-cut : goal.returns-in_err-update-clause-cut
returns-in_err-update-clause-cut g c =
    let own = subst (λ l. OnStop c.in_err-update.field-0.0 (IsTrue g.D.Disk.told → IsFreeRegion (region l) l.node.0 (g.D.Disk.state c.args.disk.now).block → IsStill (region l) (g.D.Disk.state c.read_record.new.disk).block)) c.log.ensures c.in_err-update.ensures.still in
    let stop = read_cut c.in_err-update.field-0.0 g.D.Disk.told c.args.c.now.log c.args.c.now.node.0 (g.D.Disk.state c.args.disk.now).block (g.D.Disk.state c.read_record.new.disk).block (λ told k. g.met.D.Disk.lawful c.read_record.new.disk k told) c.read_record.ensures.outcomes
    (stop_then c.in_err-update.field-0.0 own (λ still told free. still told (subst (λ n. IsFreeRegion (region c.args.c.now.log) n.0 (g.D.Disk.state c.args.disk.now).block) (sym c.requires.log_tie.node) free))) in
    search (rules, stop)

pub returns-in_err-next-clause-cut : goal.returns-in_err-next-clause-cut
returns-in_err-next-clause-cut g c =
    let stop = read_cut c.in_err-next.field-0.0 g.D.Disk.told c.args.c.now.log c.args.c.now.node.0 (g.D.Disk.state c.args.disk.now).block (g.D.Disk.state c.next_behind.new.disk).block (λ told k. g.met.D.Disk.lawful c.next_behind.new.disk k told)
    (λ told k o may. c.read_record.ensures.outcomes told k o (c.next_behind.ensures.outcomes told k o may))
    (stop_then c.in_err-next.field-0.0 c.in_err-next.ensures.still (λ still told free. still told (subst (IsFreeRegion (region c.args.c.now.log) c.args.c.now.node.0) (sym (c.in_ok-update.ensures.blocks told)) free))) in
    search (rules, stop)

pub returns-in_err-before-clause-cut : goal.returns-in_err-before-clause-cut
returns-in_err-before-clause-cut g c =
    let own = subst (λ l. OnStop c.in_err-before.field-0.0 (IsTrue g.D.Disk.told → IsFreeRegion (region l) l.node.0 (g.D.Disk.state c.next_behind.new.disk).block → IsStill (region l) (g.D.Disk.state c.read_record-2.new.disk).block)) c.log-2.ensures c.in_err-before.ensures.still in
    let stop = read_cut c.in_err-before.field-0.0 g.D.Disk.told c.args.c.now.log c.args.c.now.node.0 (g.D.Disk.state c.args.disk.now).block (g.D.Disk.state c.read_record-2.new.disk).block (λ told k. g.met.D.Disk.lawful c.read_record-2.new.disk k told)
    (λ told k o may. c.read_record.ensures.outcomes told k o (c.next_behind.ensures.outcomes told k o (c.read_record-2.ensures.outcomes told k o may)))
    (stop_then c.in_err-before.field-0.0 own (λ still told free. still told (subst (λ n. IsFreeRegion (region c.args.c.now.log) n.0 (g.D.Disk.state c.next_behind.new.disk).block) (sym c.requires.log_tie.node) (subst (IsFreeRegion (region c.args.c.now.log) c.args.c.now.node.0) (sym (c.in_ok-next.ensures.blocks told ∙ c.in_ok-update.ensures.blocks told)) free)))) in
    search (rules, stop)
