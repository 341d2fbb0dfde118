use Rattle.std.proofs.Common.{◌<◌, arith, refl, length}
use Rattle.disk_model.specs.Memory.{bit_at, cell_at}
use Rattle.disk_model.proofs.CellSteps.{settles_waits, settles_writer}
use Rattle.disk_model.proofs.Reaching.{IsReached-clear}
use Rattle.disk_model.proofs.Counting.{IsBitSet-ones, bit_of-below, EndsPicks-settles}
use Rattle.disk_model.specs.MemState.{mem_state}
use Rattle.disk_model.specs.MemPicks.{mem_picks}
use Rattle.disk_model.proofs.memory.MemDiskDisk.stop.Goals as goal

pub invariant_of-self-clause-reached : goal.invariant_of-self-clause-reached
invariant_of-self-clause-reached c =
    let lt : c.args.n.0 < length c.args.self.now.ports = omega arith in
    IsReached-clear c.args.self.now.cells.items _ _ c.args.n.0 _ c.args.self.now.reached lt refl c.settle_blocks.ensures.len
    (λ k m waits. settles_waits _ _ _ m (c.settle_blocks.ensures.each c.args.self.now.copies k).settles waits)

pub returns-clause-writers : goal.returns-clause-writers
unfolding mem_state
returns-clause-writers c = λ k. settles_writer _ _ _ (c.settle_blocks.ensures.each c.args.self.now.copies k).settles

pub returns-clause-blocks : goal.returns-clause-blocks
unfolding mem_state
returns-clause-blocks c = λ k mine.
    let done = (c.settle_blocks.ensures.each c.args.self.now.copies k).settles in record {
      outcomes = λ o h. done.one mine o h;
      writer = done.writer mine;
    }

pub returns-clause-all : goal.returns-clause-all
unfolding mem_state
returns-clause-all c = λ full k mine.
    (c.settle_blocks.ensures.each c.args.self.now.copies k).kept mine
    (rw full (IsBitSet-ones (bit_at c.args.self.now.cells.items k) (bit_of-below (cell_at c.args.self.now.cells.items k).mark)))

pub returns-clause-picks : goal.returns-clause-picks
unfolding mem_state mem_picks
returns-clause-picks c =
    let lt : c.args.n.0 < length c.args.self.now.ports = omega arith in
    EndsPicks-settles c.args.self.now.cells.items c.settle_blocks.new.cells.items c.args.self.now.copies c.args.self.now.ports c.args.n.0
    _ lt refl (λ k. (c.settle_blocks.ensures.each c.args.self.now.copies k).settles)
