use Rattle.std.proofs.Common.{Some, sym, ◌∙◌, subst}
use Rattle.state_ids.specs.PageImage.{IsText, in_life}
use Rattle.state_ids.specs.Blocks.{FitsPage}
use Rattle.state_ids.proofs.PageLaws.{Shows-written, Shows-out, Shows-text, data_in, in_life_text, in_life-page, in_life-kind}
use Rattle.state_ids.proofs.loading.put_in_life.Goals as goal

pub life-requires-clause-image : goal.life-requires-clause-image
life-requires-clause-image c =
    let p = c.requires.page in
    let fits : FitsPage c.args.s.now c.args.x (Some c.in-Some.e) = subst (FitsPage c.args.s.now c.args.x) c.in-Some.is c.requires.entry in
    data_in c.args.s.now c.args.x p.0 c.bytes_mut.result.now fits.0 p.2 p.3 (Shows-text c.args.pool.now c.args.f.now p.0 c.bytes_mut.result.now p.1 c.bytes_mut.ensures.value)

pub returns-in-Some-clause-image : goal.returns-in-Some-clause-image
returns-in-Some-clause-image c = λ image is kind shows.
    let fits : FitsPage c.args.s.now c.args.x (Some c.in-Some.e) = subst (FitsPage c.args.s.now c.args.x) c.in-Some.is c.requires.entry in
    let text : IsText (in_life c.args.e image) c.life.new.image =
    subst (λ e. IsText (in_life e image) c.life.new.image) (sym c.in-Some.is)
    (in_life_text c.args.s.now c.args.x c.in-Some.e image c.bytes_mut.result.now c.life.new.image fits.0 is kind (Shows-text c.args.pool.now c.args.f.now image c.bytes_mut.result.now shows c.bytes_mut.ensures.value) c.life.ensures) in
    Shows-written c.args.pool.now c.args.f.now c.life.new.image (in_life c.args.e image) (Shows-out c.args.pool.now c.args.f.now image shows) text

pub returns-in-Some-clause-page : goal.returns-in-Some-clause-page
returns-in-Some-clause-page c =
    let p = c.requires.page in
    (in_life c.args.e p.0, returns-in-Some-clause-image c p.0 p.2 p.3 p.1, in_life-page c.args.e p.0 ∙ p.2, in_life-kind c.args.s.now c.args.e p.0 p.3)
