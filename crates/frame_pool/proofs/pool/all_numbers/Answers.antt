use Rattle.std.proofs.Common.{◌∙◌, ◌++◌, ◌∷◌, [], ap, sym, arith}
use Rattle.frame_pool.proofs.PoolLaws.{range_with_len-more}
use Rattle.frame_pool.proofs.pool.all_numbers.Goals as goal

pub loop-number-preserved : goal.loop-number-preserved
loop-number-preserved c = (
  c.in_ok-push.ensures.items ∙ ap (λ xs. xs ++ c.loop-number.number ∷ []) c.loop-number.invariant.0 ∙ sym (range_with_len-more c.loop-number.number),
  omega (arith, c.in_ok-push.ensures.capacity, c.loop-number.invariant.1),
)
