use Rattle.node_trials.specs.declared.store.TheConstants.{SHAPE}
use Rattle.node_trials.specs.SeatBench.{IsSeated}
use Rattle.node_trials.proofs.seat_bench.SeatBench.fetch_all.Given as goal

abbrev pub invariant-loop-x : goal.invariant-loop-x
invariant-loop-x g l = IsSeated SHAPE g.D.Disk.told (g.D.Disk.state l.self.bench.disk) l.self.bench.pool l.self.bench.owners l.self.bench.cache l.self.seats l.self.left
