use Rattle.std.proofs.Common.{ap, sym, ◌∙◌}
use Rattle.std.specs.Option.{is_some, option_and_then}
use Rattle.node_cache.specs.Cache.{first_change, is_page, is_changed}
use Rattle.sd_base.proofs.Positions.{not_placed, placed}
use Rattle.node_cache.proofs.cache.NodeCache.is_dirty.Goals as goal

pub returns-in-Some : goal.returns-in-Some
returns-in-Some c =
    let at = placed (is_page c.args.x) c.self.inside.pages c.in-Some.i (sym c.find.ensures ∙ c.in-Some.is) in
    c.is_some.ensures ∙ ap is_some (c.first.ensures ∙ sym (ap (option_and_then first_change) (at.1 ∙ c.slot.ensures))) ∙ ap (is_changed c.args.x) c.self.view_is

pub returns-in-None : goal.returns-in-None
returns-in-None c =
    sym (ap (λ o. is_some (option_and_then first_change o)) (not_placed (is_page c.args.x) c.self.inside.pages (sym c.find.ensures ∙ c.in-None.is)))
    ∙ ap (is_changed c.args.x) c.self.view_is
