use Rattle.std.proofs.Common.{◌<◌, length, arith, ap, sym, subst, ◌∙◌}
use Rattle.std.specs.List.{slice_get}
use Rattle.node_cache.proofs.Packing.{counted, slot_at, slot_there}
use Rattle.node_cache.proofs.pages.Pages.slot.Goals as goal

pub offset_bounds-slots-i : goal.offset_bounds-slots-i
offset_bounds-slots-i c = omega (arith, c.requires, c.self.invariant.few, counted _ _ _ c.self.view_is c.self.invariant)

pub unreachable-requires : goal.unreachable-requires
unreachable-requires c = slot_there _ _ _ (subst (λ ps. c.args.i < length ps) (sym c.self.view_is) c.requires) c.in-None.is

pub returns : goal.returns
returns c = ap (λ ps. slice_get ps c.args.i) (sym c.self.view_is)
    ∙ slot_at _ _ _ _ (subst (λ ps. c.args.i < length ps) (sym c.self.view_is) c.requires) c.in-Some.is
