use Rattle.std.proofs.Common.{rules, ◌≡◌, ◌++◌, ◌∷◌, [], Some, length, map, option_map, slice_set, ap, arith, subst, sym, ◌∙◌}
use Rattle.std.proofs.lemmas.List.{map-append, map-set, length-map}
use Rattle.sd_base.proofs.Results.{on_err}
use Rattle.log_record.specs.declared.record.LogRecord.TheVariants.{Begin}
use Rattle.log_record.specs.Text.{record_text}
use Rattle.private_log.specs.Content.{HoldsFront}
use Rattle.private_log.specs.Spread.{IsCutLog}
use Rattle.private_log.specs.Log.{IsLog, IsLogOn, region}
use Rattle.txn_core.specs.Seats.{AreTied}
use Rattle.txn_core.specs.Shown.{shown}
use Rattle.txn_core.specs.Told.{AreTold}
use Rattle.txn_core.proofs.SeatLaws.{free_seat, legal_begin, legal_more, seats_state, tied_begun, told_begun}
use Rattle.txn_core.proofs.seats.Seats.begin.Goals as goal

pub returns-in_err-log_only-clause-cut : goal.returns-in_err-log_only-clause-cut
returns-in_err-log_only-clause-cut g c = on_err c.from_residual.result (λ told recs has.
    subst (λ xs. IsCutLog (region c.args.c.now.log) c.args.c.now.log.start c.args.c.now.log.stable (g.D.Disk.state c.log_only.new.disk).block xs) (sym (map-append record_text recs (Begin ∷ [])))
    (c.in_err-log_only.ensures.cut told (map record_text recs) has.on))

pub returns-in_err-log_only-clause-any_outcome : goal.returns-in_err-log_only-clause-any_outcome
returns-in_err-log_only-clause-any_outcome g c = λ told recs has image is.
    subst (λ xs. HoldsFront (region c.args.c.now.log) c.args.c.now.log.start c.args.c.now.log.stable xs image) (sym (map-append record_text recs (Begin ∷ [])))
    (c.log_only.ensures.any_outcome told (map record_text recs) has.on image is)

pub returns-clause-seats : goal.returns-clause-seats
returns-clause-seats g c =
    map-set (option_map shown) c.self.inside.seats c.args.seat (Some (record { begin = c.tail-number.result; last = c.tail-number.result; left = 0 }))
    ∙ ap (λ ss. slice_set ss c.args.seat (Some (record { begin = c.tail-number.result; last = c.tail-number.result; left = 0 }))) (ap (λ v. v.seats) c.self.view_is)
    ∙ ap (λ n. slice_set c.args.self.now.seats c.args.seat (Some (record { begin = n; last = n; left = 0 }))) (c.tail-number.ensures.tail ∙ ap (λ l. l.tail) c.log.ensures)

pub returns-clause-tie : goal.returns-clause-tie
returns-clause-tie g c =
    let made =
    map-set (option_map shown) c.self.inside.seats c.args.seat (Some (record { begin = c.tail-number.result; last = c.tail-number.result; left = 0 }))
    ∙ ap (λ ss. slice_set ss c.args.seat (Some (record { begin = c.tail-number.result; last = c.tail-number.result; left = 0 }))) (ap (λ v. v.seats) c.self.view_is)
    ∙ ap (λ n. slice_set c.args.self.now.seats c.args.seat (Some (record { begin = n; last = n; left = 0 }))) (c.tail-number.ensures.tail ∙ ap (λ l. l.tail) c.log.ensures) in
    let eight : length c.self.inside.seats ≡ 8 = search rules in
    let count : length c.args.self.now.seats ≡ 8 = sym (ap (λ v. length v.seats) c.self.view_is) ∙ length-map c.self.inside.seats (option_map shown) ∙ eight in
    seats_state (λ s. AreTied s c.log_only.new.self) _ _ _ (ap (λ v. v.node) c.self.view_is) made
    (tied_begun c.args.self.now c.args.c.now c.log_only.new.self c.args.seat (subst IsLog c.log.ensures c.tail-number.ensures.log) c.requires.tie c.log_only.ensures.node c.log_only.ensures.same c.in_ok-log_only.ensures.tail
    (omega (arith, c.requires.seat, count)) (free_seat _ c.requires.idle) c.requires.room)

pub returns-clause-records : goal.returns-clause-records
returns-clause-records g c = λ told recs has. record {
  legal = legal_more recs Begin has.legal legal_begin;
  on = subst (IsLogOn c.log_only.new.self.log (g.D.Disk.state c.log_only.new.disk).block) (sym (map-append record_text recs (Begin ∷ []))) (c.in_ok-log_only.ensures.log told (map record_text recs) has.on);
}

pub returns-clause-told : goal.returns-clause-told
returns-clause-told g c = λ recs here told.
    let made =
    map-set (option_map shown) c.self.inside.seats c.args.seat (Some (record { begin = c.tail-number.result; last = c.tail-number.result; left = 0 }))
    ∙ ap (λ ss. slice_set ss c.args.seat (Some (record { begin = c.tail-number.result; last = c.tail-number.result; left = 0 }))) (ap (λ v. v.seats) c.self.view_is)
    ∙ ap (λ n. slice_set c.args.self.now.seats c.args.seat (Some (record { begin = n; last = n; left = 0 }))) (c.tail-number.ensures.tail ∙ ap (λ l. l.tail) c.log.ensures) in
    seats_state (λ s. AreTold s c.args.c.now.log.start (recs ++ Begin ∷ [])) _ _ _ (ap (λ v. v.node) c.self.view_is) made (told_begun c.args.self.now c.args.c.now.log.start c.args.seat recs c.args.c.now.log.tail here told)

pub returns-clause-any_outcome : goal.returns-clause-any_outcome
returns-clause-any_outcome g c = λ told recs has image is.
    subst (λ xs. HoldsFront (region c.args.c.now.log) c.args.c.now.log.start c.args.c.now.log.stable xs image) (sym (map-append record_text recs (Begin ∷ [])))
    (c.log_only.ensures.any_outcome told (map record_text recs) has.on image is)
