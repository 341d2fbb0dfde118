use Rattle.node_trials.specs.declared.store.TheConstants.{SHAPE}
use Rattle.node_trials.specs.Bench.{IsReady}
use Rattle.node_trials.proofs.bench.Bench.change_in_turn.Given as goal

abbrev pub invariant-loop-x : goal.invariant-loop-x
invariant-loop-x g l = IsReady SHAPE g.D.Disk.told (g.D.Disk.state l.self.disk) l.self.pool l.self.owners l.self.cache
