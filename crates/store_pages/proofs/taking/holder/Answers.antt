use Rattle.std.specs.Prelude.{◌≡◌, false, true}
use Rattle.std.proofs.Common.{ap, sym, ◌∙◌}
use Rattle.std.proofs.lemmas.Bool.{eq-eqb}
use Rattle.page_owner.specs.Owners.{owner_of}
use Rattle.store_nodes.specs.Nodes.{IsHeldBy, is_up}
use Rattle.store_pages.proofs.Holders.{has_page}
use Rattle.store_pages.proofs.taking.holder.Goals as goal
use Rattle.store_pages.proofs.taking.holder.Goals.{in-Parked, in-Parked-2}

pub node-requires : goal.node-requires
node-requires c =
    let held : IsHeldBy c.match-state.h (owner_of c.args.store.now.shared.owners c.args.x.0) = elim c.match-state.branch [
      | in-Parked w ↦ has_page c.match-state.h w.in-Parked.h c.state.result _ c.state.ensures w.h-is w.in-Parked.is
      | in-Parked-2 w ↦ has_page c.match-state.h w.in-Parked.h c.state.result _ c.state.ensures w.h-is w.in-Parked.is
    ] in
    c.requires.is.shared.holders c.args.x.0 c.match-state.h held

pub returns-else-eq-clause-holder : goal.returns-else-eq-clause-holder
returns-else-eq-clause-holder c =
    let held : IsHeldBy c.match-state.h (owner_of c.args.store.now.shared.owners c.args.x.0) = elim c.match-state.branch [
      | in-Parked w ↦ has_page c.match-state.h w.in-Parked.h c.state.result _ c.state.ensures w.h-is w.in-Parked.is
      | in-Parked-2 w ↦ has_page c.match-state.h w.in-Parked.h c.state.result _ c.state.ensures w.h-is w.in-Parked.is
    ] in (
      c.requires.is.shared.holders c.args.x.0 c.match-state.h held,
      λ same. let never : false ≡ true = sym c.if-eq.false ∙ c.eq.ensures ∙ eq-eqb c.match-state.h.0 c.args.n.0 same in cc,
      held,
      ap is_up (sym c.node.ensures) ∙ sym c.is_up.ensures ∙ c.if-not-is_up.false,
    )
