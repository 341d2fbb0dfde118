use Rattle.std.specs.Prelude.{◌≡◌}
use Rattle.std.proofs.Common.{sym, ◌∙◌}
use Rattle.node_cache.proofs.ChangedPages.{out_of_shown}
use Rattle.store_nodes.specs.declared.node.Node.TheVariants.{Up}
use Rattle.store_nodes.specs.Nodes.{node_at}
use Rattle.store_pages.proofs.Images.{data_in, map_in}
use Rattle.store_nodes.proofs.Works.{work_at}
use Rattle.store_pages.proofs.cached_pages.view.Goals as goal

pub view-requires-clause-out : goal.view-requires-clause-out
view-requires-clause-out c =
    let me = c.args.store.now in
    let at : node_at me.nodes c.args.n.0 ≡ Up c.in-Up.cache c.in-Up._seats = sym c.node.ensures ∙ c.in-Up.is in
    out_of_shown me.shape me.shared.pool c.in-Up.cache (work_at me.shape me.shared.pool me.shared.owners me.nodes c.args.n.0 c.in-Up.cache c.in-Up._seats c.requires.node at c.requires.is).shown

pub returns-clause-is_map : goal.returns-clause-is_map
returns-clause-is_map c =
    let at : node_at c.args.store.now.nodes c.args.n.0 ≡ Up c.in-Up.cache c.in-Up._seats = sym c.node.ensures ∙ c.in-Up.is in
    map_in c.args.store.now c.args.n.0 c.args.x c.view.result.now c.in-Up.cache c.in-Up._seats c.requires.is c.requires.node at c.requires.cached c.view.ensures

pub returns-clause-is_data : goal.returns-clause-is_data
returns-clause-is_data c =
    let at : node_at c.args.store.now.nodes c.args.n.0 ≡ Up c.in-Up.cache c.in-Up._seats = sym c.node.ensures ∙ c.in-Up.is in
    data_in c.args.store.now c.args.n.0 c.args.x c.view.result.now c.in-Up.cache c.in-Up._seats c.requires.is c.requires.node at c.requires.cached c.view.ensures
