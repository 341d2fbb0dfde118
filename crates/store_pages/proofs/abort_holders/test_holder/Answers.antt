use Rattle.page_owner.specs.Owners.{owner_of}
use Rattle.store_nodes.specs.Nodes.{IsHeldBy}
use Rattle.store_pages.proofs.Holders.{has_page}
use Rattle.store_pages.proofs.abort_holders.test_holder.Goals as goal
use Rattle.store_pages.proofs.abort_holders.test_holder.Goals.{in-Parked, in-Parked-2}

pub node-requires : goal.node-requires
node-requires c =
    let held : IsHeldBy c.match-state.h (owner_of c.args.store.now.shared.owners c.args.x.0) = elim c.match-state.branch [
      | in-Parked w ↦ has_page c.match-state.h w.in-Parked.h c.state.result _ c.state.ensures w.h-is w.in-Parked.is
      | in-Parked-2 w ↦ has_page c.match-state.h w.in-Parked.h c.state.result _ c.state.ensures w.h-is w.in-Parked.is
    ] in
    c.requires.is.shared.holders c.args.x.0 c.match-state.h held
