use Rattle.std.proofs.Common.{◌≡◌, true, length, ap, arith, sym, ◌∙◌}
use Rattle.std.specs.List.{position}
use Rattle.node_cache.specs.Places.{shown}
use Rattle.node_cache.specs.Room.{is_map_of, may_go}
use Rattle.node_cache.proofs.Leaving.{second_goes}
use Rattle.node_cache.proofs.cache.NodeCache.leaving_place.Goals as goal

pub returns-then-is_map_of : goal.returns-then-is_map_of
returns-then-is_map_of c =
    let pages = ap (λ s. s.pages) c.self.view_is in
    let is : is_map_of c.args.s.now (shown c.slot.result.now).ticket.page c.args.x ≡ true = ap (λ m. is_map_of c.args.s.now m c.args.x) (sym c.page.ensures) ∙ sym c.is_map_of.ensures ∙ c.if-is_map_of.true in
    ap (position (may_go c.args.s.now c.args.x)) (sym pages) ∙ second_goes c.args.s.now c.args.x c.self.inside.pages _ (omega (arith, c.requires.full, ap (λ s. length s.pages) c.self.view_is)) c.self.invariant.once c.slot.ensures is
