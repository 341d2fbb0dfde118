use Rattle.std.proofs.Common.{◌<◌, ◌≤◌, [], ◌∙◌, ap, arith}
use Rattle.sd_base.specs.Page.{page_text, header_ident}
use Rattle.space_map.specs.Entry.{ident_of}
use Rattle.space_map.proofs.LifeLaws.{IsDataText-stale, IsDataText-present}
use Rattle.space_map.proofs.stale.life.Goals as goal

pub returns-then-page_ident-ident : goal.returns-then-page_ident-ident
returns-then-page_ident-ident c = λ page t.
    let e = c.ident_of-ident.ensures in
    let lt : header_ident c.args.image.now < ident_of c.args.e.now = omega (arith, e, c.page_ident.ensures) in
    IsDataText-stale c.args.x page c.args.e.now c.args.image.now c.write_page_header.new.out t c.requires.ident lt (c.write_page_header.ensures ∙ ap (λ n. page_text 2 c.args.x.0 n []) e)

pub returns-else-page_ident-ident : goal.returns-else-page_ident-ident
returns-else-page_ident-ident c = λ page t.
    let e = c.ident_of-ident.ensures in
    let le : ident_of c.args.e.now ≤ header_ident c.args.image.now = omega (arith, e, c.page_ident.ensures) in
    IsDataText-present c.args.x page c.args.e.now c.args.image.now t le
