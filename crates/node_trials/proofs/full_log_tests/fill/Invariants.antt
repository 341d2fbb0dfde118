use Rattle.node_trials.specs.declared.store.TheConstants.{SHAPE}
use Rattle.node_trials.specs.SeatBench.{IsSeated}
use Rattle.node_trials.proofs.full_log_tests.fill.Given as goal

abbrev pub invariant-loop : goal.invariant-loop
invariant-loop g l = IsSeated SHAPE g.D.Disk.told (g.D.Disk.state l.bench.bench.disk) l.bench.bench.pool l.bench.bench.owners l.bench.bench.cache l.bench.seats l.bench.left
