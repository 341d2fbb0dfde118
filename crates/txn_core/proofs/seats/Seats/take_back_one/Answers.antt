use Rattle.std.proofs.Common.{rules, ◌≡◌, ◌+◌, ◌*◌, ◌-◌, ◌^◌, ◌≤◌, ◌++◌, ◌∷◌, [], List, Some, Err, IfSome, IsTrue, is_some, map, option_map, slice_set, refl, arith, ap, subst, sym, ◌∙◌}
use Rattle.std.proofs.lemmas.List.{length-map, map-append, map-set}
use Rattle.std.proofs.lemmas.List.Elements.{All-set}
use Rattle.sd_base.specs.Faults.{OnStop, StaysLive}
use Rattle.sd_base.specs.declared.shape.Shape.{Shape}
use Rattle.page_image.specs.declared.page_view.PageView.{PageView}
use Rattle.page_image.specs.Change.{applied}
use Rattle.log_record.specs.declared.record.LogRecord.{LogRecord}
use Rattle.log_record.specs.Legal.{IsLegal}
use Rattle.log_record.specs.Record.{page_op_of}
use Rattle.log_record.specs.Text.{record_text}
use Rattle.private_log.specs.Content.{HoldsFront}
use Rattle.private_log.specs.Spread.{IsCutLog}
use Rattle.private_log.specs.Log.{IsLogOn, region}
use Rattle.private_log.proofs.LogLaws.{on_tail}
use Rattle.private_log.proofs.Outcomes.{on_outcome}
use Rattle.private_log.proofs.OtherCalls.{on_stilled}
use Rattle.compensation.specs.Inverse.{Undoes}
use Rattle.compensation.proofs.InverseLaws.{undone}
use Rattle.state_ids.specs.PageImage.{data_page}
use Rattle.node_cache.specs.Cache.{IsOfStore, IsTiedToDisk, changed_by}
use Rattle.txn_core.specs.Seats.{AreTied, OpenTxn, owed_in, txn_in}
use Rattle.txn_core.specs.Shown.{shown}
use Rattle.txn_core.specs.Told.{AreTold, HasRecords}
use Rattle.txn_core.specs.Undo.{TakesBack}
use Rattle.txn_core.specs.Updates.{HasPage}
use Rattle.txn_core.proofs.SeatLaws.{busy_below, legal_more, owed_at, raised, seat_lies, seats_state}
use Rattle.txn_core.proofs.Stops.{cut_more, front_more, on_stop, stays_then, stop_then}
use Rattle.txn_core.proofs.TakeBackLaws.{change_back, legal_seat_back, tied_taken_back, told_taken_back}
use Rattle.txn_core.proofs.UpdateLaws.{page_updated}
use Rattle.node_cache.proofs.ChangedPages.{out_of_shown}
use Rattle.txn_core.proofs.seats.Seats.take_back_one.Goals as goal

pub returns-in_err-rec-clause-there : goal.returns-in_err-rec-clause-there
returns-in_err-rec-clause-there g c = λ told recs t v there has tells undo.
    let stop = c.in_err-rec.ensures.there told recs t v there has tells undo in
    search (rules, stop)

pub returns-in_err-rec-clause-disk_tie : goal.returns-in_err-rec-clause-disk_tie
returns-in_err-rec-clause-disk_tie g c =
    let stay : StaysLive {T = Unit {0}} (Err c.in_err-rec.field-0.0) (IsTrue g.D.Disk.told → (s : Shape) → IsOfStore s c.args.c.now → IsTiedToDisk s c.args.pool.now c.args.c.now (g.D.Disk.state c.args.disk.now).block → IsTiedToDisk s c.args.pool.now c.args.c.now (g.D.Disk.state c.next_compensation.new.disk).block) =
    stays_then (Unit {0}) c.in_err-rec.field-0.0 c.in_err-rec.ensures.blocks (λ told same s store tie. subst (IsTiedToDisk s c.args.pool.now c.args.c.now) (sym same) tie) in
    search (rules, stay)

pub returns-in_err-rec-clause-cut : goal.returns-in_err-rec-clause-cut
returns-in_err-rec-clause-cut g c =
    let stop : OnStop c.in_err-rec.field-0.0 (IsTrue g.D.Disk.told → (recs : List LogRecord) (t : OpenTxn) (v : PageView) (rec : LogRecord) → txn_in c.args.self.now c.args.seat ≡ Some t → HasRecords c.args.c.now.log (g.D.Disk.state c.args.disk.now).block recs → AreTold c.args.self.now c.args.c.now.log.start recs
    → TakesBack c.args.pool.now c.args.c.now.pages (6 * c.args.c.now.log.start) recs t v rec → IsCutLog (region c.args.c.now.log) c.args.c.now.log.start c.args.c.now.log.stable (g.D.Disk.state c.next_compensation.new.disk).block (map record_text (recs ++ rec ∷ []))) =
    stop_then c.in_err-rec.field-0.0 c.in_err-rec.ensures.still (λ still told recs t v rec is has tells takes.
    subst (IsCutLog (region c.args.c.now.log) c.args.c.now.log.start c.args.c.now.log.stable (g.D.Disk.state c.next_compensation.new.disk).block) (sym (map-append record_text recs (rec ∷ [])))
    (cut_more (region c.args.c.now.log) c.args.c.now.log.start c.args.c.now.log.stable (g.D.Disk.state c.next_compensation.new.disk).block (map record_text recs) (record_text rec ∷ [])
    (on_stilled c.args.c.now.log (g.D.Disk.state c.args.disk.now).block (g.D.Disk.state c.next_compensation.new.disk).block (map record_text recs) (λ k. g.met.D.Disk.lawful c.next_compensation.new.disk k told) (λ i o le may. c.in_err-rec.ensures.outcomes told ((region c.args.c.now.log).anchor + i) o may) (still told (c.requires.free told)) has.on))) in
    search (rules, stop)

pub returns-in_err-rec-clause-any_outcome : goal.returns-in_err-rec-clause-any_outcome
returns-in_err-rec-clause-any_outcome g c = λ told recs t v rec is has tells takes image out.
    subst (λ xs. HoldsFront (region c.args.c.now.log) c.args.c.now.log.start c.args.c.now.log.stable xs image) (sym (map-append record_text recs (rec ∷ [])))
    (front_more (region c.args.c.now.log) c.args.c.now.log.start c.args.c.now.log.stable (map record_text recs) (record_text rec ∷ []) image
    (on_outcome c.args.c.now.log (g.D.Disk.state c.args.disk.now).block (map record_text recs) image has.on (λ k. c.next_compensation.ensures.outcomes told k (image k) (out k))))

pub change-requires-clause-out : goal.change-requires-clause-out
change-requires-clause-out g c = out_of_shown c.args.c.now.log.shape c.args.pool.now c.args.c.now c.requires.shown

pub returns-in_err-number-clause-cut : goal.returns-in_err-number-clause-cut
returns-in_err-number-clause-cut g c = on_stop c.from_residual-in_err-number.result (λ told recs t v rec is has tells takes.
    let made = c.in_ok-rec.ensures.found told recs t is has tells v rec takes in
    let texts : map record_text recs ++ record_text c.in_ok-rec.rec ∷ [] ≡ map record_text (recs ++ rec ∷ []) = ap (λ r. map record_text recs ++ record_text r ∷ []) (sym made) ∙ sym (map-append record_text recs (rec ∷ [])) in
    subst (IsCutLog (region c.args.c.now.log) c.args.c.now.log.start c.args.c.now.log.stable (g.D.Disk.state c.change.new.disk).block) texts
    (c.in_err-number.ensures.cut told (map record_text recs) (subst (λ b. IsLogOn c.args.c.now.log b (map record_text recs)) (sym (c.in_ok-rec.ensures.blocks told)) has.on)))

pub returns-in_err-number-clause-any_outcome : goal.returns-in_err-number-clause-any_outcome
returns-in_err-number-clause-any_outcome g c = λ told recs t v rec is has tells takes image out.
    let made = c.in_ok-rec.ensures.found told recs t is has tells v rec takes in
    let texts : map record_text recs ++ record_text c.in_ok-rec.rec ∷ [] ≡ map record_text (recs ++ rec ∷ []) = ap (λ r. map record_text recs ++ record_text r ∷ []) (sym made) ∙ sym (map-append record_text recs (rec ∷ [])) in
    subst (λ xs. HoldsFront (region c.args.c.now.log) c.args.c.now.log.start c.args.c.now.log.stable xs image) texts
    (c.change.ensures.any_outcome told (map record_text recs) (subst (λ b. IsLogOn c.args.c.now.log b (map record_text recs)) (sym (c.in_ok-rec.ensures.blocks told)) has.on) image out)

pub invariant_of-self : goal.invariant_of-self
invariant_of-self g c =
    let below = busy_below c.args.self.now c.args.seat (shown c.open_in-txn.result) c.open_in-txn.ensures in
    let seat = owed_at c.args.self.now c.args.seat (shown c.open_in-txn.result) below c.open_in-txn.ensures in
    let room = c.requires.tie.room in
    All-set (λ o. owed_in (option_map shown o) ≤ 6 * 2 ^ 56) c.self.inside.seats c.args.seat (Some (record { begin = c.open_in-txn.result.begin; last = c.in_ok-number.number; left = c.open_in-txn.result.left - 1 })) (omega (arith, seat, room)) c.self.invariant

pub returns-clause-page : goal.returns-clause-page
returns-clause-page g c =
    let made = c.in_ok-rec.ensures.page in
    let change = change_back made.3 made.2 made.0 made.1 c.in_ok-rec.rec made.8 made.7 in (
      made.0.page,
      record {
        cached = ap is_some made.5.there;
        pages = c.in_ok-number.ensures.pages made.0.page made.0.ident change.0 change.2;
        frames = λ p there. c.change.ensures.frames made.0.page made.0.ident change.0 p change.2 there;
      },
    )

pub returns-clause-seats : goal.returns-clause-seats
returns-clause-seats g c = λ t is.
    let opened = c.open_in-txn.ensures in
    let same : shown c.open_in-txn.result ≡ t = cc in (
      c.in_ok-rec.ensures.left t is,
      map-set (option_map shown) c.self.inside.seats c.args.seat (Some (record { begin = c.open_in-txn.result.begin; last = c.in_ok-number.number; left = c.open_in-txn.result.left - 1 }))
          ∙ ap (λ ss. slice_set ss c.args.seat (Some (record { begin = c.open_in-txn.result.begin; last = c.in_ok-number.number; left = c.open_in-txn.result.left - 1 }))) (ap (λ u. u.seats) c.self.view_is)
          ∙ ap (λ u. slice_set c.args.self.now.seats c.args.seat (Some (record { begin = u.begin; last = c.in_ok-number.number; left = u.left - 1 }))) same
          ∙ ap (λ n. slice_set c.args.self.now.seats c.args.seat (Some (record { begin = t.begin; last = n; left = t.left - 1 }))) c.in_ok-number.ensures.number,
    )

pub returns-clause-tie : goal.returns-clause-tie
returns-clause-tie g c =
    let t : OpenTxn = shown c.open_in-txn.result in
    let is : txn_in c.args.self.now c.args.seat ≡ Some t = c.open_in-txn.ensures in
    let made = map-set (option_map shown) c.self.inside.seats c.args.seat (Some (record { begin = c.open_in-txn.result.begin; last = c.in_ok-number.number; left = c.open_in-txn.result.left - 1 }))
    ∙ ap (λ ss. slice_set ss c.args.seat (Some (record { begin = c.open_in-txn.result.begin; last = c.in_ok-number.number; left = c.open_in-txn.result.left - 1 }))) (ap (λ u. u.seats) c.self.view_is)
    ∙ ap (λ n. slice_set c.args.self.now.seats c.args.seat (Some (record { begin = t.begin; last = n; left = t.left - 1 }))) c.in_ok-number.ensures.number in
    seats_state (λ s. AreTied s c.change.new.self) _ _ _ (ap (λ u. u.node) c.self.view_is) made
    (tied_taken_back c.args.self.now c.args.c.now c.change.new.self c.args.seat t c.requires.tie c.change.ensures.node c.change.ensures.same c.in_ok-number.ensures.tail (busy_below c.args.self.now c.args.seat t is) is (c.in_ok-rec.ensures.left t is))

pub returns-clause-disk_tie : goal.returns-clause-disk_tie
returns-clause-disk_tie g c = λ told s store tie.
    c.in_ok-number.ensures.disk_tie told s store (subst (IsTiedToDisk s c.args.pool.now c.args.c.now) (sym (c.in_ok-rec.ensures.blocks told)) tie)

pub returns-clause-image : goal.returns-clause-image
returns-clause-image g c = λ told recs t v rec is has tells takes.
    let made = c.in_ok-rec.ensures.found told recs t is has tells v rec takes in
    let change = change_back t _ v takes.undo.update rec takes.is takes.undo.of_page in
    let op = subst (λ r. page_op_of r ≡ Some (v.page, v.ident, change.0)) made change.2 in
    let pages = c.in_ok-number.ensures.pages v.page v.ident change.0 op in (
      record { cached = ap is_some takes.undo.cached.there; pages = pages; frames = λ p there. c.change.ensures.frames v.page v.ident change.0 p op there },
      subst (λ o. IfSome o (λ op. HasPage c.change.new.pool c.change.new.self.pages v.page (applied op v) × Undoes takes.undo.update op)) (sym change.1) (
        subst (λ ps. HasPage c.change.new.pool ps v.page (applied change.0 v)) (sym pages)
            (page_updated c.args.pool.now c.change.new.pool c.args.c.now.pages v.page v (changed_by c.args.c.now.log.tail) change.0 (λ p. refl) (λ p. refl) takes.undo.cached
            (c.in_ok-number.ensures.image v.page v.ident change.0 takes.undo.cached.page (data_page v) op takes.undo.cached.there takes.undo.cached.shows (sym change.3))),
        undone takes.undo.update change.0 change.1,
      ),
    )

pub returns-clause-records : goal.returns-clause-records
returns-clause-records g c = λ told recs t v rec is has tells takes.
    let made = c.in_ok-rec.ensures.found told recs t is has tells v rec takes in
    let texts : map record_text recs ++ record_text c.in_ok-rec.rec ∷ [] ≡ map record_text (recs ++ rec ∷ []) = ap (λ r. map record_text recs ++ record_text r ∷ []) (sym made) ∙ sym (map-append record_text recs (rec ∷ [])) in
    record {
      legal = legal_more recs rec has.legal (subst IsLegal (sym made) c.in_ok-rec.ensures.legal);
      on = subst (IsLogOn c.change.new.self.log (g.D.Disk.state c.change.new.disk).block) texts (c.in_ok-number.ensures.log told (map record_text recs) (subst (λ b. IsLogOn c.args.c.now.log b (map record_text recs)) (sym (c.in_ok-rec.ensures.blocks told)) has.on));
    }

pub returns-clause-told : goal.returns-clause-told
returns-clause-told g c = λ told recs t v rec is has tells takes.
    let opened = c.open_in-txn.ensures in
    let same : shown c.open_in-txn.result ≡ t = cc in
    let made = map-set (option_map shown) c.self.inside.seats c.args.seat (Some (record { begin = c.open_in-txn.result.begin; last = c.in_ok-number.number; left = c.open_in-txn.result.left - 1 }))
    ∙ ap (λ ss. slice_set ss c.args.seat (Some (record { begin = c.open_in-txn.result.begin; last = c.in_ok-number.number; left = c.open_in-txn.result.left - 1 }))) (ap (λ u. u.seats) c.self.view_is)
    ∙ ap (λ u. slice_set c.args.self.now.seats c.args.seat (Some (record { begin = u.begin; last = c.in_ok-number.number; left = u.left - 1 }))) same
    ∙ ap (λ n. slice_set c.args.self.now.seats c.args.seat (Some (record { begin = t.begin; last = n; left = t.left - 1 }))) c.in_ok-number.ensures.number in
    let below = busy_below c.args.self.now c.args.seat t is in
    let lies = seat_lies c.args.self.now c.args.c.now c.args.seat t c.requires.tie below is in
    let here = on_tail c.args.c.now.log (g.D.Disk.state c.args.disk.now).block (map record_text recs) has.on in
    let count = length-map recs record_text in
    seats_state (λ s. AreTold s c.args.c.now.log.start (recs ++ rec ∷ [])) _ _ _ (ap (λ u. u.node) c.self.view_is) made
    (told_taken_back c.args.self.now c.args.c.now c.args.seat c.args.c.now.log.tail t c.args.pool.now c.args.c.now.pages v recs rec c.requires.tie below is (omega (arith, here, count)) (omega (arith, lies.1, lies.2)) tells takes)

pub returns-clause-any_outcome : goal.returns-clause-any_outcome
returns-clause-any_outcome g c = λ told recs t v rec is has tells takes image out.
    let made = c.in_ok-rec.ensures.found told recs t is has tells v rec takes in
    let texts : map record_text recs ++ record_text c.in_ok-rec.rec ∷ [] ≡ map record_text (recs ++ rec ∷ []) = ap (λ r. map record_text recs ++ record_text r ∷ []) (sym made) ∙ sym (map-append record_text recs (rec ∷ [])) in
    subst (λ xs. HoldsFront (region c.args.c.now.log) c.args.c.now.log.start c.args.c.now.log.stable xs image) texts
    (c.change.ensures.any_outcome told (map record_text recs) (subst (λ b. IsLogOn c.args.c.now.log b (map record_text recs)) (sym (c.in_ok-rec.ensures.blocks told)) has.on) image out)

pub returns-clause-rises : goal.returns-clause-rises
returns-clause-rises g c = raised c.args.c.now.log c.change.new.self.log c.in_ok-number.ensures.stable_in_memory c.in_ok-number.ensures.stable_written

pub returns-in_err-rec-clause-legal : goal.returns-in_err-rec-clause-legal
returns-in_err-rec-clause-legal g c = λ told recs t v rec is has tells takes. legal_seat_back c.args.self.now c.args.c.now c.args.seat t c.args.pool.now c.args.c.now.pages recs v rec c.requires.tie is has.legal takes

pub returns-in_err-number-clause-legal : goal.returns-in_err-number-clause-legal
returns-in_err-number-clause-legal g c = λ told recs t v rec is has tells takes. legal_seat_back c.args.self.now c.args.c.now c.args.seat t c.args.pool.now c.args.c.now.pages recs v rec c.requires.tie is has.legal takes

pub returns-clause-legal : goal.returns-clause-legal
returns-clause-legal g c = λ told recs t v rec is has tells takes. legal_seat_back c.args.self.now c.args.c.now c.args.seat t c.args.pool.now c.args.c.now.pages recs v rec c.requires.tie is has.legal takes
