use Rattle.node_trials.specs.declared.store.TheConstants.{SHAPE}
use Rattle.node_trials.specs.Bench.{IsReady}
use Rattle.node_trials.proofs.order_tests.change.Given as goal

abbrev pub invariant-loop-byte : goal.invariant-loop-byte
invariant-loop-byte g l = IsReady SHAPE g.D.Disk.told (g.D.Disk.state l.bench.disk) l.bench.pool l.bench.owners l.bench.cache
