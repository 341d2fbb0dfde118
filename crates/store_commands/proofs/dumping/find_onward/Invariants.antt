use Rattle.std.proofs.Common.{◌-◌, ◌^◌, ◌≤◌, Ok, IsTrue}
use Rattle.sd_base.specs.Places.{first_key}
use Rattle.record_machine.specs.Machine.{Machine}
use Rattle.record_machine.specs.Rows.{HasNoneIn}
use Rattle.store_nodes.specs.Shows.{IsShown}
use Rattle.store_commands.specs.Dumps.{DumpsOn, TakesOf}
use Rattle.store_commands.proofs.dumping.find_onward.Given as goal

abbrev pub invariant-loop-first : goal.invariant-loop-first
invariant-loop-first g l = record {
  takes : TakesOf l.n.0 (Ok l.first) (IsTrue g.D.Disk.told) (IsTrue g.V.Disk.told) l.initial.store l.store (g.D.Disk.state l.initial.disk) (g.D.Disk.state l.disk) (g.V.Disk.state l.initial.vault) (g.V.Disk.state l.vault);
  low : l.fn.first ≤ l.first;
  high : l.first ≤ 2 ^ 28;
  step : IsTrue g.D.Disk.told → (m : Machine) → IsShown l.initial.store (g.D.Disk.state l.initial.disk).block m → DumpsOn m l.n (Ok l.first) (IsShown l.store (g.D.Disk.state l.disk).block) (λ end. HasNoneIn m (first_key l.fn.first) (first_key end));
}

abbrev pub decreases-loop-first : goal.decreases-loop-first
decreases-loop-first g l = 2 ^ 28 - l.first
