use Rattle.std.proofs.Common.{◌<◌, map, ap, sym, arith, ◌∙◌}
use Rattle.std.specs.List.{remove, slice_get}
use Rattle.std.specs.Option.{option_map}
use Rattle.std.proofs.lemmas.List.Edits.{length-remove}
use Rattle.std.proofs.lemmas.Option.{slice_get-map}
use Rattle.node_cache.specs.Places.{shown, filled, packed}
use Rattle.node_cache.proofs.Packing.{counted, filled-of, is_packed, shown-remove}
use Rattle.node_cache.proofs.pages.Pages.remove.Goals as goal

pub invariant_of-self : goal.invariant_of-self
invariant_of-self c =
    let below : c.args.i < c.self.inside.len = omega (arith, c.requires, counted _ _ _ c.self.view_is c.self.invariant) in
    let count = c.self.invariant.count in
    is_packed _ (remove (filled c.self.inside.slots) c.args.i) _ (omega (arith, c.self.invariant.few)) (omega (arith, count, below, length-remove (filled c.self.inside.slots) c.args.i (omega (arith, count, below))))
    ((c.take_out.ensures (filled c.self.inside.slots) c.self.invariant.packed count).0 ∙ ap (packed (remove (filled c.self.inside.slots) c.args.i)) (omega (arith, below)))

pub returns-clause-slot : goal.returns-clause-slot
returns-clause-slot c =
    ap (λ ps. slice_get ps c.args.i) (sym c.self.view_is) ∙ slice_get-map shown (filled c.self.inside.slots) c.args.i
    ∙ ap (option_map shown) (c.take_out.ensures (filled c.self.inside.slots) c.self.invariant.packed c.self.invariant.count).1

pub returns-clause-pages : goal.returns-clause-pages
returns-clause-pages c =
    let below : c.args.i < c.self.inside.len = omega (arith, c.requires, counted _ _ _ c.self.view_is c.self.invariant) in
    ap (map shown) (filled-of _ (remove (filled c.self.inside.slots) c.args.i) _ (c.take_out.ensures (filled c.self.inside.slots) c.self.invariant.packed c.self.invariant.count).0)
    ∙ shown-remove (filled c.self.inside.slots) c.args.i (omega (arith, c.self.invariant.count, below)) ∙ ap (λ ps. remove ps c.args.i) c.self.view_is
