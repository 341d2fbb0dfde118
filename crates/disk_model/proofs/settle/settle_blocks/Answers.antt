use Rattle.std.proofs.Common.{◌<◌, ◌∙◌, arith, length, length-set}
use Rattle.disk_model.specs.Settling.{StopsBlock}
use Rattle.disk_model.proofs.CellSteps.{StopsBlock-same}
use Rattle.disk_model.proofs.BlockSteps.{changes_at, view_at-set_other, DoneBelow-more, DoneBelow-all}
use Rattle.disk_model.proofs.settle.settle_blocks.Goals as goal

pub loop-k-preserved : goal.loop-k-preserved
loop-k-preserved c =
    let lt : c.loop-k.k < length c.loop-k.cells.items = omega arith in record {
      len = length-set _ _ _ ∙ c.loop-k.invariant.len;
      done = λ copies.
          DoneBelow-more _ _ _ _ _ (c.loop-k.invariant.done copies)
          (changes_at (StopsBlock c.args.port c.args.picks) _ copies _ _ _ lt c.index_mut.ensures.value c.settle.ensures)
          (λ k ne. view_at-set_other _ copies _ k _ ne);
    }

pub returns-clause-each : goal.returns-clause-each
returns-clause-each c = λ copies k.
    DoneBelow-all (λ port. StopsBlock port c.args.picks) (StopsBlock-same c.args.picks) _ copies _ c.args.port c.args.first c.args.end c.loop-k.k c.requires.within c.loop-k-test.false (c.loop-k.invariant.done copies) k
