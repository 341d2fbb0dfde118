use Rattle.std.specs.Prelude.{◌≡◌, false, true}
use Rattle.std.proofs.Common.{arith, ap, sym, ◌∙◌}
use Rattle.store_nodes.specs.Nodes.{IsStoreBut, OthersStay, is_up, node_at}
use Rattle.store_nodes.proofs.Eight.{at_same, others_stay}
use Rattle.store_nodes.specs.declared.node.Node.TheVariants.{Down}
use Rattle.cluster_core.proofs.Opened.{but_up, place_port}
use Rattle.cluster_core.proofs.lifetime.take_one_down.Goals as goal

pub take_down-requires-clause-stopped : goal.take_down-requires-clause-stopped
take_down-requires-clause-stopped g c = c.requires.stopped c.args.n.0 (place_port c.args.n.0 c.requires.node)

pub take_down-requires-clause-is : goal.take_down-requires-clause-is
take_down-requires-clause-is g c =
    let tested = c.if-not-is_up.false in
    let said = c.if-not-is_up.ensures in
    let up : c.is_up.result ≡ true = grind (arith, tested, said) in
    but_up c.args.store.now c.args.n.0 c.requires.node (ap is_up (sym c.node.ensures) ∙ sym c.is_up.ensures ∙ up) c.requires.is

pub returns-clause-down : goal.returns-clause-down
returns-clause-down g c = rw c.take_down.ensures.nodes (ap is_up (at_same c.args.store.now.nodes c.args.n.0 Down c.requires.is.shared.eight c.requires.node))

pub returns-clause-others : goal.returns-clause-others
returns-clause-others g c = rw c.take_down.ensures.nodes (others_stay c.args.store.now.nodes c.args.n.0 Down c.requires.is.shared.eight c.requires.node)
