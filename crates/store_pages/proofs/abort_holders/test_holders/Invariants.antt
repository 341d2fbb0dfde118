use Rattle.std.proofs.Common.{◌≡◌, IfSome, IsTrue}
use Rattle.sd_base.specs.Calls.{Narrows}
use Rattle.record_machine.specs.Machine.{Machine}
use Rattle.store_nodes.specs.Nodes.{OnUp, node_at}
use Rattle.store_nodes.specs.Ports.{Works}
use Rattle.store_nodes.specs.Shows.{IsShown}
use Rattle.store_pages.specs.Updates.{IsNumberOf, IsWithin}
use Rattle.store_pages.proofs.Holders.{Passed}
use Rattle.store_pages.proofs.Walks.{ahead}
use Rattle.store_pages.proofs.abort_holders.test_holders.Given as goal

abbrev pub invariant-loop-number : goal.invariant-loop-number
invariant-loop-number g l = record {
  store : l.store ≡ l.initial.store;
  works : Works l.t.node.0 l.initial.store l.store (g.D.Disk.state l.initial.disk) (g.D.Disk.state l.disk) (g.V.Disk.state l.initial.vault) (g.V.Disk.state l.vault);
  vault_outcomes : IsTrue g.V.Disk.told → Narrows (g.V.Disk.state l.initial.vault).block (g.V.Disk.state l.vault).block;
  blocks : IsTrue g.D.Disk.told → (g.D.Disk.state l.disk).block ≡ (g.D.Disk.state l.initial.disk).block;
  within : IfSome l.after (λ number. OnUp (node_at l.store.nodes l.t.node.0) (λ c seats. IsWithin seats l.t.seat number));
  number : IsTrue g.D.Disk.told → (m : Machine) → IsShown l.initial.store (g.D.Disk.state l.initial.disk).block m → IfSome l.after (IsNumberOf m l.t);
  passed : IsTrue g.D.Disk.told → OnUp (node_at l.store.nodes l.t.node.0) (λ c seats. Passed l.initial.store c seats (g.D.Disk.state l.initial.disk).block l.t.seat l.after);
}

abbrev pub decreases-loop-number : goal.decreases-loop-number
decreases-loop-number g l = ahead l.after
