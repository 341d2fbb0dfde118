use Rattle.std.proofs.Common.{◌≡◌, ◌+◌, ◌-◌}
use Rattle.std.specs.List.{find, range_with_len}
use Rattle.store_nodes.specs.Known.{is_down}
use Rattle.store_nodes.specs.Nodes.{node_at}
use Rattle.store_nodes.proofs.store.Store.first_down.Given as goal

abbrev pub invariant-loop-i : goal.invariant-loop-i
invariant-loop-i l =
    find (λ n. is_down (node_at l.self.nodes n)) (range_with_len 1 l.self.shape.nodes)
    ≡ find (λ n. is_down (node_at l.self.nodes n)) (range_with_len (l.i + 1) (l.self.shape.nodes - l.i))
