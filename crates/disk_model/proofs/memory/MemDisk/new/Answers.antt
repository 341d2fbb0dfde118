use Rattle.std.proofs.Common.{◌%◌, ◌^◌, ◌-◌, false, refl, ap}
use Rattle.disk_model.specs.MemState.{mem_state}
use Rattle.disk_model.specs.MemPicks.{mem_picks}
use Rattle.disk_model.proofs.Reaching.{port_at-blank}
use Rattle.disk_model.proofs.Blankness.{block_at-blank, waiter_at-blank}
use Rattle.disk_model.proofs.memory.MemDisk.new.Goals as goal

pub returns-clause-blank : goal.returns-clause-blank
unfolding mem_state
returns-clause-blank c = record {
  size = refl;
  reach = λ k. refl;
  block = λ k lt. block_at-blank _ _ _ k c.in_ok-cells.ensures c.in_ok-copies.ensures lt;
  writer = λ k. waiter_at-blank _ _ k c.in_ok-cells.ensures;
  live = λ n. (port_at-blank n _ refl refl refl).0;
  faults = λ n. refl;
  cuts = λ n. refl;
  orders = refl;
}

pub returns-clause-picks : goal.returns-clause-picks
unfolding mem_picks
returns-clause-picks c = λ n. ap (λ bit. bit % 64) (port_at-blank n record { live = false; first = 2 ^ 64 - 1; end = 0; next_bit = 0 } refl refl refl).2
