use Rattle.std.proofs.Common.{◌<◌, arith, length}
use Rattle.disk_model.proofs.Reaching.{IsReached-widen}
use Rattle.disk_model.proofs.memory.MemDiskDisk.start.Goals as goal

pub invariant_of-self-clause-reached : goal.invariant_of-self-clause-reached
invariant_of-self-clause-reached c =
    let lt : c.args.n.0 < length c.args.self.now.ports = omega arith in
    IsReached-widen _ _ c.args.n.0 _ c.args.self.now.reached lt (omega arith) (omega arith) (c.args.self.now.reached.ends c.args.n.0)
