use Rattle.std.proofs.Common.{length, ap, arith}
use Rattle.node_cache.proofs.Parking.{length-parked}
use Rattle.node_trials.proofs.bench.Bench.wreck.Goals as goal

pub returns-clause-table : goal.returns-clause-table
returns-clause-table g c = omega (arith, c.requires.broken.table, length-parked c.args.self.cache.pages c.args.self.owners, ap length c.wreck.ensures.owners)
