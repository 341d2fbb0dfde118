use Rattle.std.proofs.Common.{◌^◌, ◌≤◌, ◌<◌, ℕ, Ok, IsTrue}
use Rattle.record_machine.specs.Machine.{Machine}
use Rattle.store_nodes.specs.Pages.{AreUnused}
use Rattle.store_nodes.specs.Shows.{IsShown}
use Rattle.store_commands.specs.Dumps.{DumpsOn, TakesOf}
use Rattle.store_commands.proofs.dumping.find_group.Given as goal

abbrev pub invariant-loop-x : goal.invariant-loop-x
invariant-loop-x g l = record {
  takes : TakesOf l.n.0 (Ok l.least) (IsTrue g.D.Disk.told) (IsTrue g.V.Disk.told) l.initial.store l.store (g.D.Disk.state l.initial.disk) (g.D.Disk.state l.disk) (g.V.Disk.state l.initial.vault) (g.V.Disk.state l.vault);
  low : l.first ≤ l.least;
  high : l.least ≤ 2 ^ 28;
  step : IsTrue g.D.Disk.told → (m : Machine) → IsShown l.initial.store (g.D.Disk.state l.initial.disk).block m → DumpsOn m l.n (Ok l.least) (IsShown l.store (g.D.Disk.state l.disk).block) (λ g. (x : ℕ) → x < l.x → AreUnused l.first g (m.entries x));
}
