use Rattle.std.proofs.Common.{◌≡◌, sym, ◌∙◌, ap, subst}
use Rattle.sd_base.specs.Places.{map_of_data, place_of_page}
use Rattle.state_ids.specs.Held.{Shows}
use Rattle.state_ids.proofs.PageLaws.{Shows-text}
use Rattle.recovery_theory.specs.Pages.{birth_of, entries_of}
use Rattle.recovery_theory.specs.Redo.{birth_in}
use Rattle.one_log_redo.specs.Redoing.{redone}
use Rattle.one_log_redo.proofs.StepFacts.{birth-data, birth-read, step-here}
use Rattle.one_log_redo.proofs.stepping.redo_data_page.Goals as goal

pub returns-clause-image : goal.returns-clause-image
returns-clause-image c = λ images map is shows kind.
    let s = c.args.s.now in
    let x = c.args.x in
    let op = c.args.op.now in
    let m = images (map_of_data s x).0 in
    let text = Shows-text c.args.pool.now c.args.map.now m c.bytes.result.now map c.bytes.ensures in
    let read : c.birth_at-birth.result ≡ birth_of (entries_of m c.place_of_page.result) = birth-read m c.bytes.result.now c.place_of_page.result c.birth_at-birth.result is text c.birth_at-birth.ensures.birth in
    let place : birth_of (entries_of m c.place_of_page.result) ≡ birth_of (entries_of m (place_of_page s x)) = ap (λ q. birth_of (entries_of m q)) c.place_of_page.ensures.at in
    let life : c.birth_at-birth.result ≡ birth_in s images x.0 = read ∙ (place ∙ sym (birth-data s images x c.requires.data)) in
    let here = c.redo_frame.ensures.image (images x.0) shows (kind ∙ sym c.requires.kind) in
    subst (Shows c.redo_frame.new.pool c.args.f.now) (ap (λ b. redone x.0 b c.args.bsi op (images x.0)) life ∙ sym (step-here s x.0 c.args.bsi op images)) here
