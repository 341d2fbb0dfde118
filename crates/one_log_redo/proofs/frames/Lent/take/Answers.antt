use Rattle.std.proofs.Common.{arith, rules, ◌+◌}
use Rattle.one_log_redo.proofs.Lending.{lent_more, taken_more}
use Rattle.std.proofs.Common.{◌≡◌, ◌∙◌, subst, sym, length, set, Some}
use Rattle.one_log_redo.specs.Copies.{AreLent, TakesFrames}
use Rattle.one_log_redo.proofs.frames.Lent.take.Goals as goal

pub loop-k-preserved : goal.loop-k-preserved
loop-k-preserved c =
    let long : length c.loop-k.frames ≡ 16 = search rules in
    let lent = lent_more c.loop-k.frames c.loop-k.k c.in-Some.f c.loop-k.pool c.take.new.self c.loop-k.invariant.lent long c.loop-k-test.true c.in-Some.ensures.others c.in-Some.ensures.out in
    let taken = taken_more c.loop-k.frames c.loop-k.k c.in-Some.f c.loop-k.pool c.take.new.self c.loop-k.invariant.lent long c.loop-k-test.true c.in-Some.ensures.others c.in-Some.ensures.out c.args.pool.now c.loop-k.invariant.taken in
    record {
      lent = subst (λ fs. AreLent c.take.new.self fs (c.loop-k.k + 1)) (sym c.put.ensures) lent;
      taken = subst (λ fs. TakesFrames fs (c.loop-k.k + 1) c.args.pool.now c.take.new.self) (sym c.put.ensures) taken;
      counted = omega (arith, c.loop-k.invariant.counted, c.in-Some.ensures.counted);
    }
