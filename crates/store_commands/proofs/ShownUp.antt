-- A node that is up isn't down in the machine.
use Rattle.std.specs.Prelude.{◌≡◌, ◌≤◌, ℕ, true, false}
use Rattle.std.proofs.Common.{arith, ap}
use Rattle.sd_base.specs.Disk.{BlockState}
use Rattle.record_machine.specs.Machine.{Machine, is_down}
use Rattle.store_nodes.specs.declared.node.Node.{Node}
use Rattle.store_nodes.specs.declared.node.Node.TheVariants.{Down, Idle, Up}
use Rattle.store_nodes.specs.declared.store.Store.{Store}
use Rattle.store_nodes.specs.Nodes.{IsNode, IsPlace, IsStore, is_up, node_at}
use Rattle.store_nodes.specs.Shows.{IsShown, ShowsNode}

pub runs_up : (c : Store) (n : ℕ) (b : ℕ → BlockState) (m : Machine) → IsStore c → IsPlace n → is_up (node_at c.nodes n) ≡ true → IsShown c b m → is_down (m.mode n) ≡ false
runs_up c n b m is place up shown = by (node_at c.nodes n) up (is.is n place) (shown.1.nodes.node n place)
  where
    by : (node : Node) → is_up node ≡ true → IsNode c.shape c.shared.pool c.shared.owners n node → (n ≤ c.shape.nodes → ShowsNode c.shape c.shared.pool n node b shown.0 m) → is_down (m.mode n) ≡ false
    by Idle up work shows = cc
    by (Up k seats) up work shows = ap is_down (shows (let number = work.number in let last = work.store.node.1 in omega (arith, number, last))).0
    by Down up work shows = cc
