use Rattle.std.proofs.Common.{◌≡◌, true, Option, Some, None, IfSome, is_some, ap, sym, ◌∙◌, arith}
use Rattle.sd_base.specs.declared.names.PageNo.{PageNo}
use Rattle.state_ids.specs.PageImage.{data_page, map_page}
use Rattle.one_log_redo.proofs.loading.is_image.Goals as goal

-- what is said of a value that is there
some_of : {T : Type 0} (P : T → Type 0) (r : Option T) → IfSome r P → is_some r ≡ true → (x : T) × P x
some_of P (Some x) p is = (x, p)
some_of P None p is = cc

pub returns-then-x-s-clause-image : goal.returns-then-x-s-clause-image
returns-then-x-s-clause-image c = λ t.
    let m = some_of _ c.parse_map.result c.parse_map.ensures.found (sym c.is_some.ensures ∙ t) in
    (map_page m.1.0, m.1.3, m.1.1, omega (arith, ap (λ (x : PageNo). x.0) m.1.1))

pub returns-else-x-s-clause-image : goal.returns-else-x-s-clause-image
returns-else-x-s-clause-image c = λ t.
    let v = some_of _ c.parse.result c.parse.ensures.found (sym c.is_some-else-x-s.ensures ∙ t) in
    (data_page v.0, v.1.1, v.1.0, omega (arith, ap (λ (x : PageNo). x.0) v.1.0))
