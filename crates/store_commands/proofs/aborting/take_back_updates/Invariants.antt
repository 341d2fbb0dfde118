use Rattle.std.specs.Prelude.{IsTrue}
use Rattle.record_machine.specs.Machine.{Machine}
use Rattle.store_nodes.specs.Nodes.{node_at}
use Rattle.store_nodes.specs.Shows.{IsShown}
use Rattle.store_commands.specs.Aborts.{HoldsWritten, KeepsOpen, Leaves}
use Rattle.store_commands.proofs.Backs.{HasTakenBack}
use Rattle.store_commands.proofs.LeavesThen.{the_done}
use Rattle.store_commands.proofs.SeatsLeft.{left_in}
use Rattle.store_commands.proofs.aborting.take_back_updates.Given as goal

abbrev pub invariant-loop-x : goal.invariant-loop-x
invariant-loop-x g l = record {
  leaves : Leaves g.D.Disk.told g.V.Disk.told l.t.node.0 the_done l.initial.store l.store (g.D.Disk.state l.initial.disk) (g.D.Disk.state l.disk) (g.V.Disk.state l.initial.vault) (g.V.Disk.state l.vault);
  stays : KeepsOpen l.t l.initial.store l.store;
  shows : IsTrue g.D.Disk.told → (m : Machine) → HoldsWritten m l.t → IsShown l.initial.store (g.D.Disk.state l.initial.disk).block m → HasTakenBack m l.t (IsShown l.store (g.D.Disk.state l.disk).block);
}

abbrev pub decreases-loop-x : goal.decreases-loop-x
decreases-loop-x g l = left_in (node_at l.store.nodes l.t.node.0) l.t.seat
