use Rattle.std.proofs.Common.{rules, ◌≡◌, ◌<◌, ◌+◌, ◌^◌, ◌++◌, ◌∷◌, [], Some, map, option_map, slice_set, refl, ap, arith, subst, sym, ◌∙◌}
use Rattle.std.proofs.lemmas.List.{map-append, map-set}
use Rattle.sd_base.proofs.Results.{on_err}
use Rattle.log_record.specs.Legal.{IsLegal}
use Rattle.page_image.specs.Change.{applied}
use Rattle.log_record.specs.Record.{page_op_of}
use Rattle.log_record.specs.Text.{record_text}
use Rattle.private_log.specs.Content.{HoldsFront}
use Rattle.private_log.specs.Spread.{IsCutLog}
use Rattle.private_log.specs.Log.{IsLog, IsLogOn, region}
use Rattle.state_ids.specs.PageImage.{data_page}
use Rattle.node_cache.specs.Cache.{changed_by}
use Rattle.txn_core.specs.Seats.{AreTied, OpenTxn, txn_in}
use Rattle.txn_core.specs.Shown.{shown}
use Rattle.txn_core.specs.Told.{AreTold}
use Rattle.txn_core.specs.Updates.{HasPage, op_of, update_of}
use Rattle.txn_core.proofs.SeatLaws.{busy_below, legal_more, seat_lies, seat_numbers, seats_state}
use Rattle.txn_core.proofs.UpdateLaws.{legal_update, op_update, page_updated, slot_update, tied_updated, told_updated, viewed}
use Rattle.txn_core.proofs.seats.Seats.change.Goals as goal

pub change-requires-clause-legal : goal.change-requires-clause-legal
change-requires-clause-legal g c =
    let page = c.requires.page in
    let own = viewed c.args.pool.now c.args.c.now.pages c.args.x page.0 c.view.result.now page.1 c.view.ensures in
    let numbers = seat_numbers c.args.self.now c.args.c.now c.args.seat (shown c.open_in-txn.result) c.requires.tie c.open_in-txn.ensures in
    let small : c.args.x.0 < 2 ^ 32 = search rules in
    subst IsLegal (sym (c.update-rec.ensures page.0 page.1.number own))
    (legal_update (shown c.open_in-txn.result) page.0 c.view.result.now c.args.slot c.args.what.now own (subst (λ y. y.0 < 2 ^ 32) (sym page.1.number) small) page.2 numbers.0 numbers.1 c.requires.slot page.3)

pub returns-in_err-change-clause-cut : goal.returns-in_err-change-clause-cut
returns-in_err-change-clause-cut g c = on_err c.from_residual.result (λ told recs t v is has log.
    let text = viewed c.args.pool.now c.args.c.now.pages c.args.x v c.view.result.now has c.view.ensures in
    let other = c.open_in-txn.ensures in
    let same : shown c.open_in-txn.result ≡ t = cc in
    let made : c.update-rec.result ≡ update_of t v c.args.slot c.args.what.now = c.update-rec.ensures v has.number text ∙ ap (λ u. update_of u v c.args.slot c.args.what.now) same in
    let texts : map record_text recs ++ record_text c.update-rec.result ∷ [] ≡ map record_text (recs ++ update_of t v c.args.slot c.args.what.now ∷ []) = ap (λ r. map record_text recs ++ record_text r ∷ []) made ∙ sym (map-append record_text recs (update_of t v c.args.slot c.args.what.now ∷ [])) in
    subst (IsCutLog (region c.args.c.now.log) c.args.c.now.log.start c.args.c.now.log.stable (g.D.Disk.state c.change.new.disk).block) texts (c.in_err-change.ensures.cut told (map record_text recs) log.on))

pub returns-in_err-change-clause-any_outcome : goal.returns-in_err-change-clause-any_outcome
returns-in_err-change-clause-any_outcome g c = λ told recs t v is has log image out.
    let text = viewed c.args.pool.now c.args.c.now.pages c.args.x v c.view.result.now has c.view.ensures in
    let other = c.open_in-txn.ensures in
    let same : shown c.open_in-txn.result ≡ t = cc in
    let made : c.update-rec.result ≡ update_of t v c.args.slot c.args.what.now = c.update-rec.ensures v has.number text ∙ ap (λ u. update_of u v c.args.slot c.args.what.now) same in
    let texts : map record_text recs ++ record_text c.update-rec.result ∷ [] ≡ map record_text (recs ++ update_of t v c.args.slot c.args.what.now ∷ []) = ap (λ r. map record_text recs ++ record_text r ∷ []) made ∙ sym (map-append record_text recs (update_of t v c.args.slot c.args.what.now ∷ [])) in
    subst (λ xs. HoldsFront (region c.args.c.now.log) c.args.c.now.log.start c.args.c.now.log.stable xs image) texts (c.change.ensures.any_outcome told (map record_text recs) log.on image out)

pub returns-clause-pages : goal.returns-clause-pages
returns-clause-pages g c =
    let page = c.requires.page in
    let own = viewed c.args.pool.now c.args.c.now.pages c.args.x page.0 c.view.result.now page.1 c.view.ensures in
    let is = ap page_op_of (c.update-rec.ensures page.0 page.1.number own) ∙ op_update (shown c.open_in-txn.result) page.0 c.args.slot c.args.what.now ∙ ap (λ y. Some (y, page.0.ident, op_of c.args.slot c.args.what.now)) page.1.number in
    c.in_ok-change.ensures.pages c.args.x page.0.ident (op_of c.args.slot c.args.what.now) is

pub returns-clause-frames : goal.returns-clause-frames
returns-clause-frames g c = λ p there.
    let page = c.requires.page in
    let own = viewed c.args.pool.now c.args.c.now.pages c.args.x page.0 c.view.result.now page.1 c.view.ensures in
    let is = ap page_op_of (c.update-rec.ensures page.0 page.1.number own) ∙ op_update (shown c.open_in-txn.result) page.0 c.args.slot c.args.what.now ∙ ap (λ y. Some (y, page.0.ident, op_of c.args.slot c.args.what.now)) page.1.number in
    c.change.ensures.frames c.args.x page.0.ident (op_of c.args.slot c.args.what.now) p is there

pub returns-clause-image : goal.returns-clause-image
returns-clause-image g c = λ v has.
    let page = c.requires.page in
    let own = viewed c.args.pool.now c.args.c.now.pages c.args.x page.0 c.view.result.now page.1 c.view.ensures in
    let is = ap page_op_of (c.update-rec.ensures page.0 page.1.number own) ∙ op_update (shown c.open_in-txn.result) page.0 c.args.slot c.args.what.now ∙ ap (λ y. Some (y, page.0.ident, op_of c.args.slot c.args.what.now)) page.1.number in
    subst (λ ps. HasPage c.change.new.pool ps c.args.x (applied (op_of c.args.slot c.args.what.now) v)) (sym (c.in_ok-change.ensures.pages c.args.x page.0.ident (op_of c.args.slot c.args.what.now) is))
    (page_updated c.args.pool.now c.change.new.pool c.args.c.now.pages c.args.x v (changed_by c.args.c.now.log.tail) (op_of c.args.slot c.args.what.now) (λ p. refl) (λ p. refl) has
    (c.in_ok-change.ensures.image c.args.x page.0.ident (op_of c.args.slot c.args.what.now) has.page (data_page v) is has.there has.shows (sym (slot_update c.args.slot c.args.what.now))))

pub returns-clause-seats : goal.returns-clause-seats
returns-clause-seats g c = λ t is.
    let other = c.open_in-txn.ensures in
    let same : shown c.open_in-txn.result ≡ t = cc in
    let made = map-set (option_map shown) c.self.inside.seats c.args.seat (Some (record { begin = c.open_in-txn.result.begin; last = c.tail-number.result; left = c.open_in-txn.result.left + 1 }))
    ∙ ap (λ ss. slice_set ss c.args.seat (Some (record { begin = c.open_in-txn.result.begin; last = c.tail-number.result; left = c.open_in-txn.result.left + 1 }))) (ap (λ u. u.seats) c.self.view_is)
    ∙ ap (λ u. slice_set c.args.self.now.seats c.args.seat (Some (record { begin = u.begin; last = c.tail-number.result; left = u.left + 1 }))) same
    ∙ ap (λ n. slice_set c.args.self.now.seats c.args.seat (Some (record { begin = t.begin; last = n; left = t.left + 1 }))) (c.tail-number.ensures.tail ∙ ap (λ l. l.tail) c.log.ensures) in
    made

pub returns-clause-tie : goal.returns-clause-tie
returns-clause-tie g c =
    let t : OpenTxn = shown c.open_in-txn.result in
    let is : txn_in c.args.self.now c.args.seat ≡ Some t = c.open_in-txn.ensures in
    let same : shown c.open_in-txn.result ≡ t = refl in
    let made = map-set (option_map shown) c.self.inside.seats c.args.seat (Some (record { begin = c.open_in-txn.result.begin; last = c.tail-number.result; left = c.open_in-txn.result.left + 1 }))
    ∙ ap (λ ss. slice_set ss c.args.seat (Some (record { begin = c.open_in-txn.result.begin; last = c.tail-number.result; left = c.open_in-txn.result.left + 1 }))) (ap (λ u. u.seats) c.self.view_is)
    ∙ ap (λ u. slice_set c.args.self.now.seats c.args.seat (Some (record { begin = u.begin; last = c.tail-number.result; left = u.left + 1 }))) same
    ∙ ap (λ n. slice_set c.args.self.now.seats c.args.seat (Some (record { begin = t.begin; last = n; left = t.left + 1 }))) (c.tail-number.ensures.tail ∙ ap (λ l. l.tail) c.log.ensures) in
    seats_state (λ s. AreTied s c.change.new.self) _ _ _ (ap (λ u. u.node) c.self.view_is) made
    (tied_updated c.args.self.now c.args.c.now c.change.new.self c.args.seat t (subst IsLog c.log.ensures c.tail-number.ensures.log) c.requires.tie c.change.ensures.node c.change.ensures.same c.in_ok-change.ensures.tail (busy_below c.args.self.now c.args.seat t is) is c.requires.room)

pub returns-clause-records : goal.returns-clause-records
returns-clause-records g c = λ told recs t v is has log.
    let text = viewed c.args.pool.now c.args.c.now.pages c.args.x v c.view.result.now has c.view.ensures in
    let other = c.open_in-txn.ensures in
    let same : shown c.open_in-txn.result ≡ t = cc in
    let made : c.update-rec.result ≡ update_of t v c.args.slot c.args.what.now = c.update-rec.ensures v has.number text ∙ ap (λ u. update_of u v c.args.slot c.args.what.now) same in
    let texts : map record_text recs ++ record_text c.update-rec.result ∷ [] ≡ map record_text (recs ++ update_of t v c.args.slot c.args.what.now ∷ []) = ap (λ r. map record_text recs ++ record_text r ∷ []) made ∙ sym (map-append record_text recs (update_of t v c.args.slot c.args.what.now ∷ [])) in
    let page = c.requires.page in
    let own = viewed c.args.pool.now c.args.c.now.pages c.args.x page.0 c.view.result.now page.1 c.view.ensures in
    let numbers = seat_numbers c.args.self.now c.args.c.now c.args.seat t c.requires.tie is in
    let small : c.args.x.0 < 2 ^ 32 = search rules in
    let legal : IsLegal c.update-rec.result = subst IsLegal (sym (c.update-rec.ensures page.0 page.1.number own ∙ ap (λ u. update_of u page.0 c.args.slot c.args.what.now) same))
    (legal_update t page.0 c.view.result.now c.args.slot c.args.what.now own (subst (λ y. y.0 < 2 ^ 32) (sym page.1.number) small) page.2 numbers.0 numbers.1 c.requires.slot page.3) in
    record {
      legal = legal_more recs (update_of t v c.args.slot c.args.what.now) log.legal (subst IsLegal made legal);
      on = subst (IsLogOn c.change.new.self.log (g.D.Disk.state c.change.new.disk).block) texts (c.in_ok-change.ensures.log told (map record_text recs) log.on);
    }

pub returns-clause-told : goal.returns-clause-told
returns-clause-told g c = λ recs t v is has here told.
    let other = c.open_in-txn.ensures in
    let same : shown c.open_in-txn.result ≡ t = cc in
    let made = map-set (option_map shown) c.self.inside.seats c.args.seat (Some (record { begin = c.open_in-txn.result.begin; last = c.tail-number.result; left = c.open_in-txn.result.left + 1 }))
    ∙ ap (λ ss. slice_set ss c.args.seat (Some (record { begin = c.open_in-txn.result.begin; last = c.tail-number.result; left = c.open_in-txn.result.left + 1 }))) (ap (λ u. u.seats) c.self.view_is)
    ∙ ap (λ u. slice_set c.args.self.now.seats c.args.seat (Some (record { begin = u.begin; last = c.tail-number.result; left = u.left + 1 }))) same
    ∙ ap (λ n. slice_set c.args.self.now.seats c.args.seat (Some (record { begin = t.begin; last = n; left = t.left + 1 }))) (c.tail-number.ensures.tail ∙ ap (λ l. l.tail) c.log.ensures) in
    let below = busy_below c.args.self.now c.args.seat t is in
    let lies = seat_lies c.args.self.now c.args.c.now c.args.seat t c.requires.tie below is in
    seats_state (λ s. AreTold s c.args.c.now.log.start (recs ++ update_of t v c.args.slot c.args.what.now ∷ [])) _ _ _ (ap (λ u. u.node) c.self.view_is) made
    (told_updated c.args.self.now c.args.c.now c.args.seat c.args.c.now.log.tail t v c.args.slot c.args.what.now recs c.requires.tie below is here (omega (arith, lies.1, lies.2)) told)

pub returns-clause-any_outcome : goal.returns-clause-any_outcome
returns-clause-any_outcome g c = λ told recs t v is has log image out.
    let text = viewed c.args.pool.now c.args.c.now.pages c.args.x v c.view.result.now has c.view.ensures in
    let other = c.open_in-txn.ensures in
    let same : shown c.open_in-txn.result ≡ t = cc in
    let made : c.update-rec.result ≡ update_of t v c.args.slot c.args.what.now = c.update-rec.ensures v has.number text ∙ ap (λ u. update_of u v c.args.slot c.args.what.now) same in
    let texts : map record_text recs ++ record_text c.update-rec.result ∷ [] ≡ map record_text (recs ++ update_of t v c.args.slot c.args.what.now ∷ []) = ap (λ r. map record_text recs ++ record_text r ∷ []) made ∙ sym (map-append record_text recs (update_of t v c.args.slot c.args.what.now ∷ [])) in
    subst (λ xs. HoldsFront (region c.args.c.now.log) c.args.c.now.log.start c.args.c.now.log.stable xs image) texts (c.change.ensures.any_outcome told (map record_text recs) log.on image out)
