use Rattle.std.proofs.Common.{◌<◌, arith, length}
use Rattle.disk_model.proofs.CellSteps.{covers_holds, covers_writer, settles_waits, settles_writer}
use Rattle.disk_model.proofs.Reaching.{IsReached-clear}
use Rattle.disk_model.proofs.Counting.{EndsPicks-settles}
use Rattle.disk_model.specs.MemPicks.{mem_picks}
use Rattle.disk_model.specs.MemState.{mem_state}
use Rattle.disk_model.proofs.memory.MemDiskDisk.barrier.Goals as goal

pub invariant_of-self-clause-reached : goal.invariant_of-self-clause-reached
invariant_of-self-clause-reached c =
    let lt : c.args.n.0 < length c.args.self.now.ports = omega arith in
    IsReached-clear c.args.self.now.cells.items _ _ c.args.n.0 _ c.args.self.now.reached lt c.clear.ensures.end c.cover_blocks.ensures.len
    (λ k m waits. settles_waits _ _ _ m (c.cover_blocks.ensures.each c.args.self.now.copies k).settles waits)

pub returns-clause-writers : goal.returns-clause-writers
unfolding mem_state
returns-clause-writers c = λ k. settles_writer _ _ _ (c.cover_blocks.ensures.each c.args.self.now.copies k).settles

pub returns-clause-blocks : goal.returns-clause-blocks
unfolding mem_state
returns-clause-blocks c = record {
  current = λ k. (c.cover_blocks.ensures.each c.args.self.now.copies k).current;
  holds = λ k free o h. covers_holds _ _ _ _ _ (c.cover_blocks.ensures.each c.args.self.now.copies k) free o h;
  writer = λ k free. covers_writer _ _ _ (c.cover_blocks.ensures.each c.args.self.now.copies k) free;
}

pub returns-clause-picks : goal.returns-clause-picks
unfolding mem_state mem_picks
returns-clause-picks c =
    let lt : c.args.n.0 < length c.args.self.now.ports = omega arith in
    EndsPicks-settles c.args.self.now.cells.items c.cover_blocks.new.cells.items c.args.self.now.copies c.args.self.now.ports c.args.n.0
    c.clear.new.self lt c.clear.ensures.next_bit (λ k. (c.cover_blocks.ensures.each c.args.self.now.copies k).settles)
