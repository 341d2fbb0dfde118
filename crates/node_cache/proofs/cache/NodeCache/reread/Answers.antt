use Rattle.private_log.specs.Log.{region}
use Rattle.private_log.proofs.OtherCalls.{on_stilled}
use Rattle.node_cache.proofs.RoomLaws.{settled_still}
use Rattle.node_cache.proofs.Stopping.{stopped_then}
use Rattle.node_cache.proofs.cache.NodeCache.reread.Goals as goal

pub returns-clause-there : goal.returns-clause-there
returns-clause-there g c = λ told image holds. rw (← c.self.view_is) (c.test_block.ensures.there told image holds)

pub returns-clause-still : goal.returns-clause-still
returns-clause-still g c = rw (← c.self.view_is) (λ told free. stopped_then c.test_block.result c.test_block.ensures.settled (λ settled.
    settled_still (region c.self.inside.log) c.self.inside.node.0 (g.D.Disk.state c.args.disk.now).block (g.D.Disk.state c.test_block.new.disk).block free (c.test_block.ensures.writers told) (settled told)))

pub returns-clause-cut : goal.returns-clause-cut
returns-clause-cut g c = rw (← c.self.view_is) (λ told free xs on. stopped_then c.test_block.result c.test_block.ensures.settled (λ settled.
    on_stilled c.self.inside.log (g.D.Disk.state c.args.disk.now).block (g.D.Disk.state c.test_block.new.disk).block xs (λ k. g.met.D.Disk.lawful c.test_block.new.disk k told) (λ i o within. c.test_block.ensures.outcomes told _ o)
    (settled_still (region c.self.inside.log) c.self.inside.node.0 (g.D.Disk.state c.args.disk.now).block (g.D.Disk.state c.test_block.new.disk).block free (c.test_block.ensures.writers told) (settled told)) on))
