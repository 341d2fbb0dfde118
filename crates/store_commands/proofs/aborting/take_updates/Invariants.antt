use Rattle.std.specs.Prelude.{◌≡◌, true, IfSome, IsTrue}
use Rattle.record_machine.specs.Machine.{Machine}
use Rattle.store_nodes.specs.Nodes.{OnUp, node_at}
use Rattle.store_nodes.specs.Pages.{KeepsWork, has_txn}
use Rattle.store_nodes.specs.Shows.{IsShown}
use Rattle.store_pages.specs.Updates.{IsWithin}
use Rattle.store_pages.proofs.Walks.{ahead}
use Rattle.store_commands.specs.Aborts.{Leaves}
use Rattle.store_commands.proofs.LeavesThen.{the_done}
use Rattle.store_commands.proofs.PagesTaken.{HasTakenDown}
use Rattle.store_commands.proofs.aborting.take_updates.Given as goal

abbrev pub invariant-loop-number : goal.invariant-loop-number
invariant-loop-number g l = record {
  leaves : Leaves g.D.Disk.told g.V.Disk.told l.t.node.0 the_done l.initial.store l.store (g.D.Disk.state l.initial.disk) (g.D.Disk.state l.disk) (g.V.Disk.state l.initial.vault) (g.V.Disk.state l.vault);
  work : KeepsWork l.t.node.0 l.initial.store l.store;
  busy : has_txn (node_at l.store.nodes l.t.node.0) l.t ≡ true;
  within : IfSome l.after (λ number. OnUp (node_at l.store.nodes l.t.node.0) (λ c seats. IsWithin seats l.t.seat number));
  down : IsTrue g.D.Disk.told → (m : Machine) → IsShown l.initial.store (g.D.Disk.state l.initial.disk).block m → HasTakenDown m l.t l.after (IsShown l.store (g.D.Disk.state l.disk).block);
}

abbrev pub decreases-loop-number : goal.decreases-loop-number
decreases-loop-number g l = ahead l.after
