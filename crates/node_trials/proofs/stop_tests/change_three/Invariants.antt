use Rattle.node_trials.specs.declared.store.TheConstants.{SHAPE}
use Rattle.node_trials.specs.Bench.{IsReady}
use Rattle.node_trials.proofs.stop_tests.change_three.Given as goal

abbrev pub invariant-loop-number : goal.invariant-loop-number
invariant-loop-number g l = IsReady SHAPE g.D.Disk.told (g.D.Disk.state l.bench.disk) l.bench.pool l.bench.owners l.bench.cache
