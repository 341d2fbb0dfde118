use Rattle.std.specs.Prelude.{◌∷◌, []}
use Rattle.std.proofs.Common.{sym, ◌∙◌}
use Rattle.store_nodes.specs.Known.{no_lock, no_node, no_txn, not_up}
use Rattle.store_nodes.proofs.Tested.{decided, last}
use Rattle.store_nodes.proofs.store.Store.check_access.Goals as goal

pub returns : goal.returns
returns c =
    let me = c.args.self.now in let t = c.args.t in let lock = no_lock me c.args.key t c.args.mode in
    c.check_lock.ensures ∙ sym (last lock) ∙ sym (decided (no_node me t.node ∷ not_up me t.node ∷ no_txn me t ∷ []) (lock ∷ []) (sym c.check_txn.ensures ∙ c.in_ok-check_txn.was))
