use Rattle.std.proofs.Common.{◌≡◌, List, length, map, get_or, drop, ap, sym, ◌∙◌, arith}
use Rattle.std.proofs.lemmas.List.{same_lists, take_at, length-map, get_or-map}
use Rattle.page_owner.specs.declared.owners.Own.{Own}
use Rattle.page_owner.specs.Owners.{without_node}
use Rattle.page_owner.proofs.owners.Owners.drop_node.Goals as goal

pub returns : goal.returns
returns c =
    let old : List Own = c.args.self.now in
    let new : List Own = c.loop-own.own-items in
    let was : c.deref_mut-own-items.result.now ≡ old = c.deref_mut-own-items.ensures.value ∙ c.self.view_is in
    let long : length new ≡ length old = c.loop-own.invariant.long ∙ ap (λ (xs : List Own). length xs) was in
    let each : new ≡ map (without_node c.args.n) old =
    same_lists new (map (without_node c.args.n) old) (long ∙ sym (length-map old (without_node c.args.n)))
    (λ k d lt. c.loop-own.invariant.done k d (omega arith) lt ∙ (ap (λ (xs : List Own). without_node c.args.n (get_or xs k d)) was ∙ sym (get_or-map (without_node c.args.n) old k d d (omega arith)))) in
    take_at new (drop (length new) c.self.inside.owns.items) c.self.inside.owns.len (omega (arith, c.deref_mut-own-items.ensures.len)) ∙ each
