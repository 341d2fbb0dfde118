use Rattle.node_trials.specs.declared.store.TheConstants.{SHAPE}
use Rattle.node_trials.specs.SeatBench.{IsSeated}
use Rattle.node_trials.proofs.seat_bench.SeatBench.take_back_all.Given as goal

abbrev pub invariant-loop : goal.invariant-loop
invariant-loop g l = IsSeated SHAPE g.D.Disk.told (g.D.Disk.state l.self.bench.disk) l.self.bench.pool l.self.bench.owners l.self.bench.cache l.self.seats l.self.left
