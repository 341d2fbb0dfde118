use Rattle.std.proofs.Common.{rules, ◌≡◌, ◌++◌, ◌∷◌, [], None, length, map, option_map, slice_set, ap, arith, subst, sym, ◌∙◌}
use Rattle.std.proofs.lemmas.List.{map-append, map-set, length-map}
use Rattle.sd_base.proofs.Results.{on_err}
use Rattle.log_record.specs.Legal.{IsLegal}
use Rattle.log_record.specs.Text.{record_text}
use Rattle.private_log.specs.Content.{HoldsFront}
use Rattle.private_log.specs.Spread.{IsCutLog}
use Rattle.private_log.specs.Log.{IsLogOn, region}
use Rattle.private_log.proofs.Outcomes.{cut_since}
use Rattle.txn_core.specs.Ending.{end_record}
use Rattle.txn_core.specs.Seats.{AreTied}
use Rattle.txn_core.specs.Shown.{shown}
use Rattle.txn_core.specs.Told.{AreTold}
use Rattle.txn_core.proofs.SeatLaws.{busy_below, ends_seated, front_since, legal_end, legal_more, raised, seat_lies, seats_state, store_since, tied_ended, told_ended}
use Rattle.txn_core.proofs.seats.Seats.end.Goals as goal

pub log_only-requires-clause-legal : goal.log_only-requires-clause-legal
log_only-requires-clause-legal g c = subst IsLegal (sym c.end_record-rec.ensures.is) (legal_end c.args.self.now c.args.c.now c.args.seat c.args.ending (shown c.open_in.result) c.requires.tie c.open_in.ensures)

pub returns-in_err-log_only-clause-cut : goal.returns-in_err-log_only-clause-cut
returns-in_err-log_only-clause-cut g c = on_err c.from_residual.result (λ told recs t is has.
    subst (λ r. IsCutLog (region c.args.c.now.log) c.args.c.now.log.start c.args.c.now.log.stable (g.D.Disk.state c.log_only.new.disk).block (map record_text (recs ++ r ∷ []))) (ends_seated c.args.self.now c.args.seat c.args.ending (shown c.open_in.result) t c.end_record-rec.result c.open_in.ensures c.end_record-rec.ensures.is is)
    (subst (IsCutLog (region c.args.c.now.log) c.args.c.now.log.start c.args.c.now.log.stable (g.D.Disk.state c.log_only.new.disk).block) (sym (map-append record_text recs (c.end_record-rec.result ∷ [])))
    (c.in_err-log_only.ensures.cut told (map record_text recs) has.on)))

pub returns-in_err-log_only-clause-any_outcome : goal.returns-in_err-log_only-clause-any_outcome
returns-in_err-log_only-clause-any_outcome g c = λ told recs t is has image out.
    subst (λ r. HoldsFront (region c.args.c.now.log) c.args.c.now.log.start c.args.c.now.log.stable (map record_text (recs ++ r ∷ [])) image) (ends_seated c.args.self.now c.args.seat c.args.ending (shown c.open_in.result) t c.end_record-rec.result c.open_in.ensures c.end_record-rec.ensures.is is)
    (subst (λ xs. HoldsFront (region c.args.c.now.log) c.args.c.now.log.start c.args.c.now.log.stable xs image) (sym (map-append record_text recs (c.end_record-rec.result ∷ [])))
    (c.log_only.ensures.any_outcome told (map record_text recs) has.on image out))

pub returns-in_err-force-clause-disk_tie : goal.returns-in_err-force-clause-disk_tie
returns-in_err-force-clause-disk_tie g c = λ told s pool store tie.
    c.force.ensures.disk_tie told s pool (store_since s c.args.c.now c.log_only.new.self c.log_only.ensures.node c.log_only.ensures.pages c.log_only.ensures.same store) (c.log_only.ensures.disk_tie told s pool store tie)

pub returns-in_err-force-clause-cut : goal.returns-in_err-force-clause-cut
returns-in_err-force-clause-cut g c = on_err c.from_residual-in_err-force.result (λ told recs t is has.
    subst (λ r. IsCutLog (region c.args.c.now.log) c.args.c.now.log.start c.args.c.now.log.stable (g.D.Disk.state c.force.new.disk).block (map record_text (recs ++ r ∷ []))) (ends_seated c.args.self.now c.args.seat c.args.ending (shown c.open_in.result) t c.end_record-rec.result c.open_in.ensures c.end_record-rec.ensures.is is)
    (cut_since c.args.c.now.log c.log_only.new.self.log _ _ c.log_only.ensures.same (raised c.args.c.now.log c.log_only.new.self.log c.in_ok-log_only.ensures.stable_in_memory c.in_ok-log_only.ensures.stable_written)
    (c.in_err-force.ensures.cut told (map record_text (recs ++ c.end_record-rec.result ∷ [])) (subst (IsLogOn c.log_only.new.self.log (g.D.Disk.state c.log_only.new.disk).block) (sym (map-append record_text recs (c.end_record-rec.result ∷ []))) (c.in_ok-log_only.ensures.log told (map record_text recs) has.on)))))

pub returns-in_err-force-clause-any_outcome : goal.returns-in_err-force-clause-any_outcome
returns-in_err-force-clause-any_outcome g c = λ told recs t is has image out.
    subst (λ r. HoldsFront (region c.args.c.now.log) c.args.c.now.log.start c.args.c.now.log.stable (map record_text (recs ++ r ∷ [])) image) (ends_seated c.args.self.now c.args.seat c.args.ending (shown c.open_in.result) t c.end_record-rec.result c.open_in.ensures c.end_record-rec.ensures.is is)
    (front_since c.args.c.now.log c.log_only.new.self.log _ image c.log_only.ensures.same (raised c.args.c.now.log c.log_only.new.self.log c.in_ok-log_only.ensures.stable_in_memory c.in_ok-log_only.ensures.stable_written)
    (c.force.ensures.any_outcome told (map record_text (recs ++ c.end_record-rec.result ∷ [])) (subst (IsLogOn c.log_only.new.self.log (g.D.Disk.state c.log_only.new.disk).block) (sym (map-append record_text recs (c.end_record-rec.result ∷ []))) (c.in_ok-log_only.ensures.log told (map record_text recs) has.on)) image out))

pub returns-clause-seats : goal.returns-clause-seats
returns-clause-seats g c = map-set (option_map shown) c.self.inside.seats c.args.seat None ∙ ap (λ ss. slice_set ss c.args.seat None) (ap (λ v. v.seats) c.self.view_is)

pub returns-clause-tie : goal.returns-clause-tie
returns-clause-tie g c =
    let eight : length c.self.inside.seats ≡ 8 = search rules in
    let count : length c.args.self.now.seats ≡ 8 = sym (ap (λ v. length v.seats) c.self.view_is) ∙ length-map c.self.inside.seats (option_map shown) ∙ eight in
    let tail = c.in_ok-log_only.ensures.tail in
    let kept = c.force.ensures.tail in
    seats_state (λ s. AreTied s c.force.new.self) _ _ _ (ap (λ v. v.node) c.self.view_is) (map-set (option_map shown) c.self.inside.seats c.args.seat None ∙ ap (λ ss. slice_set ss c.args.seat None) (ap (λ v. v.seats) c.self.view_is))
    (tied_ended c.args.self.now c.args.c.now c.force.new.self c.args.seat c.requires.tie (c.force.ensures.node ∙ c.log_only.ensures.node)
    (record { shape = c.force.ensures.same.shape ∙ c.log_only.ensures.same.shape; node = c.force.ensures.same.node ∙ c.log_only.ensures.same.node; start = c.force.ensures.same.start ∙ c.log_only.ensures.same.start })
    (kept ∙ tail) (omega (arith, c.requires.seat, count)) c.requires.busy)

pub returns-clause-told : goal.returns-clause-told
returns-clause-told g c = λ recs t is here told.
    let lies = seat_lies c.args.self.now c.args.c.now c.args.seat t c.requires.tie (busy_below c.args.self.now c.args.seat t is) is in
    seats_state (λ s. AreTold s c.args.c.now.log.start (recs ++ end_record c.args.ending t ∷ [])) _ _ _ (ap (λ v. v.node) c.self.view_is) (map-set (option_map shown) c.self.inside.seats c.args.seat None ∙ ap (λ ss. slice_set ss c.args.seat None) (ap (λ v. v.seats) c.self.view_is))
    (told_ended c.args.self.now c.args.c.now.log.start c.args.seat recs c.args.ending t (omega (arith, lies.1, lies.2, here)) told)

pub returns-clause-disk_tie : goal.returns-clause-disk_tie
returns-clause-disk_tie g c = λ told s pool store tie.
    c.force.ensures.disk_tie told s pool (store_since s c.args.c.now c.log_only.new.self c.log_only.ensures.node c.log_only.ensures.pages c.log_only.ensures.same store) (c.log_only.ensures.disk_tie told s pool store tie)

pub returns-clause-records : goal.returns-clause-records
returns-clause-records g c = λ told recs t is has.
    let same = ends_seated c.args.self.now c.args.seat c.args.ending (shown c.open_in.result) t c.end_record-rec.result c.open_in.ensures c.end_record-rec.ensures.is is in
    record {
      legal = legal_more recs (end_record c.args.ending t) has.legal (legal_end c.args.self.now c.args.c.now c.args.seat c.args.ending t c.requires.tie is);
      on = subst (λ r. IsLogOn c.force.new.self.log (g.D.Disk.state c.force.new.disk).block (map record_text (recs ++ r ∷ []))) same
          (c.in_ok-force.ensures.log told (map record_text (recs ++ c.end_record-rec.result ∷ [])) (subst (IsLogOn c.log_only.new.self.log (g.D.Disk.state c.log_only.new.disk).block) (sym (map-append record_text recs (c.end_record-rec.result ∷ []))) (c.in_ok-log_only.ensures.log told (map record_text recs) has.on)));
    }

pub returns-clause-any_outcome : goal.returns-clause-any_outcome
returns-clause-any_outcome g c = λ told recs t is has image out.
    subst (λ r. HoldsFront (region c.args.c.now.log) c.args.c.now.log.start c.args.c.now.log.stable (map record_text (recs ++ r ∷ [])) image) (ends_seated c.args.self.now c.args.seat c.args.ending (shown c.open_in.result) t c.end_record-rec.result c.open_in.ensures c.end_record-rec.ensures.is is)
    (front_since c.args.c.now.log c.log_only.new.self.log _ image c.log_only.ensures.same (raised c.args.c.now.log c.log_only.new.self.log c.in_ok-log_only.ensures.stable_in_memory c.in_ok-log_only.ensures.stable_written)
    (c.force.ensures.any_outcome told (map record_text (recs ++ c.end_record-rec.result ∷ [])) (subst (IsLogOn c.log_only.new.self.log (g.D.Disk.state c.log_only.new.disk).block) (sym (map-append record_text recs (c.end_record-rec.result ∷ []))) (c.in_ok-log_only.ensures.log told (map record_text recs) has.on)) image out))
