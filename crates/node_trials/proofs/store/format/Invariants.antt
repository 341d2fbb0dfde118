use Rattle.node_trials.specs.declared.store.TheConstants.{NODE, SHAPE}
use Rattle.node_trials.specs.Bench.{IsReadyDevice}
use Rattle.node_trials.proofs.store.format.Given as goal

abbrev pub invariant-loop-x : goal.invariant-loop-x
invariant-loop-x g l = IsReadyDevice SHAPE NODE.0 g.D.Disk.told (g.D.Disk.state l.disk)
