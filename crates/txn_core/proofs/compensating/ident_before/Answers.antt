use Rattle.std.proofs.Common.{arith, ap, sym, ◌∙◌, ◌≡◌, true, false}
use Rattle.txn_core.proofs.CompensationLaws.{data_cached, data_number, is_there}
use Rattle.txn_core.proofs.UpdateLaws.{viewed}
use Rattle.txn_core.proofs.compensating.ident_before.Goals as goal
use Rattle.txn_core.proofs.compensating.ident_before.Goals.{then-not-has-via-then-not-has, then-not-has-via-else-not-has+then-x-shape}
use Rattle.node_cache.proofs.ChangedPages.{out_of_shown}

pub returns-then-not-has-clause-there : goal.returns-then-not-has-clause-there
returns-then-not-has-clause-there c = λ v has low. elim c.then-not-has.branch [
  | then-not-has-via-then-not-has w ↦ let there = is_there c.args.pool.now c.args.c.now c.args.x v has in let missing = w.if-not-has.true in let never : true ≡ false = sym there ∙ sym c.has.ensures ∙ missing in cc
  | then-not-has-via-else-not-has+then-x-shape w ↦ let number = data_number c.args.c.now.log.shape c.args.pool.now c.args.c.now c.args.x v c.requires.shown has in let maps : w.shape.result.maps ≡ c.args.c.now.log.shape.maps = ap (λ s. s.maps) w.shape.ensures.shape ∙ ap (λ l. l.shape.maps) w.log.ensures in let small = w.if-x-shape.true in absurd (omega (arith, number, maps, small))
]

pub identifier-ident-requires : goal.identifier-ident-requires
identifier-ident-requires c =
    let maps : c.shape.result.maps ≡ c.args.c.now.log.shape.maps = ap (λ s. s.maps) c.shape.ensures.shape ∙ ap (λ l. l.shape.maps) c.log.ensures in
    let large = c.if-x-shape.false in
    let page = data_cached c.args.c.now.log.shape c.args.pool.now c.args.c.now c.args.x c.requires.shown (omega (arith, maps, large)) (sym c.has.ensures ∙ c.if-not-has.false) in
    (page.0, viewed c.args.pool.now c.args.c.now.pages c.args.x page.0 c.view.result.now page.1 c.view.ensures)

pub returns-then-ident-lt-MAX_IDENT-clause-page : goal.returns-then-ident-lt-MAX_IDENT-clause-page
returns-then-ident-lt-MAX_IDENT-clause-page c =
    let maps : c.shape.result.maps ≡ c.args.c.now.log.shape.maps = ap (λ s. s.maps) c.shape.ensures.shape ∙ ap (λ l. l.shape.maps) c.log.ensures in
    let large = c.if-x-shape.false in
    let page = data_cached c.args.c.now.log.shape c.args.pool.now c.args.c.now c.args.x c.requires.shown (omega (arith, maps, large)) (sym c.has.ensures ∙ c.if-not-has.false) in
    (page.0, page.1, sym (c.identifier-ident.ensures page.0 (viewed c.args.pool.now c.args.c.now.pages c.args.x page.0 c.view.result.now page.1 c.view.ensures)), c.if-ident-lt-MAX_IDENT.true)

pub view-requires-clause-out : goal.view-requires-clause-out
view-requires-clause-out c = out_of_shown c.args.c.now.log.shape c.args.pool.now c.args.c.now c.requires.shown
