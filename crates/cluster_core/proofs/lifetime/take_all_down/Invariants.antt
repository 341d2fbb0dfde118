use Rattle.std.proofs.Common.{◌≡◌, ◌≤◌, ◌<◌, ℕ, false}
use Rattle.store_nodes.specs.Nodes.{IsPlace, IsStore, is_up, node_at}
use Rattle.cluster_core.proofs.lifetime.take_all_down.Given as goal

abbrev pub invariant-loop-n : goal.invariant-loop-n
invariant-loop-n g l = record {
  low : 1 ≤ l.n;
  is : IsStore l.store;
  down : (m : ℕ) → IsPlace m → m < l.n → is_up (node_at l.store.nodes m) ≡ false;
}
