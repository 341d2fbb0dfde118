use Rattle.std.proofs.Common.{◌≡◌, true, sym, ◌∙◌, subst, arith}
use Rattle.state_ids.specs.PageImage.{IsText, IsInRange, ident_of, is_map}
use Rattle.recovery_theory.specs.Pages.{in_life_from}
use Rattle.one_log_redo.proofs.Images.{kind-in_life, next-not, next-is}
use Rattle.one_log_redo.proofs.applying.redo_change.Goals as goal

pub returns-then-ident_in_life-bsi-clause-image : goal.returns-then-ident_in_life-bsi-clause-image
returns-then-ident_in_life-bsi-clause-image c = λ i t kind.
    let e = c.ident_in_life.ensures c.args.x.0 i t in
    subst (λ j. IsText j c.args.b.now) (sym (next-not c.args.x.0 c.args.birth c.args.bsi c.args.op.now i (omega (arith, e, c.if-ident_in_life-bsi.true)))) t

pub change-requires : goal.change-requires
change-requires c =
    let p = c.requires.image in
    let e = c.ident_in_life.ensures c.args.x.0 p.0 p.1 in
    let same : c.args.bsi ≡ ident_of (in_life_from c.args.x.0 c.args.birth p.0) = omega (arith, e, c.if-ident_in_life-bsi.false) in
    let life : is_map p.0 ≡ true → c.args.birth ≡ 0 = λ m. c.requires.life (sym p.2 ∙ m) in
    (in_life_from c.args.x.0 c.args.birth p.0, c.put_in_life.ensures p.0 p.1, subst (λ k. IsInRange k c.args.op.now) same c.requires.change, kind-in_life c.args.x.0 c.args.birth p.0 life ∙ p.2)

pub returns-clause-image : goal.returns-clause-image
returns-clause-image c = λ i t kind.
    let e = c.ident_in_life.ensures c.args.x.0 i t in
    let life : is_map i ≡ true → c.args.birth ≡ 0 = λ m. c.requires.life (sym kind ∙ m) in
    subst (λ j. IsText j c.change.new.b) (sym (next-is c.args.x.0 c.args.birth c.args.bsi c.args.op.now i (omega (arith, e, c.if-ident_in_life-bsi.false))))
    (c.change.ensures (in_life_from c.args.x.0 c.args.birth i) (c.put_in_life.ensures i t) (kind-in_life c.args.x.0 c.args.birth i life ∙ kind))
