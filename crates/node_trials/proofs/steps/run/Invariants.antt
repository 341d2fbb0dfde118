use Rattle.node_trials.specs.declared.store.TheConstants.{SHAPE}
use Rattle.node_trials.specs.SeatBench.{IsSeated}
use Rattle.node_trials.proofs.steps.run.Given as goal

abbrev pub invariant-loop-step : goal.invariant-loop-step
invariant-loop-step g l = IsSeated SHAPE g.D.Disk.told (g.D.Disk.state l.bench.bench.disk) l.bench.bench.pool l.bench.bench.owners l.bench.bench.cache l.bench.seats l.bench.left
