use Rattle.std.proofs.Common.{◌≡◌, ◌+◌, length, rules, sym, subst}
use Rattle.one_log_redo.proofs.Lending.{AreBack, back_more}
use Rattle.one_log_redo.proofs.frames.Lent.give_back.Goals as goal

pub loop-k-preserved : goal.loop-k-preserved
loop-k-preserved c =
    let long : length c.loop-k.frames ≡ 16 = search rules in
    subst (λ fs. AreBack c.args.self.frames c.args.self.count (c.loop-k.k + 1) c.args.pool.now fs c.give_one.new.pool) (sym c.give_one.ensures.frames)
    (back_more c.args.self.frames c.args.self.count c.loop-k.k c.args.pool.now c.loop-k.frames c.loop-k.pool c.give_one.new.pool c.requires.lent long c.loop-k-test.true c.loop-k.invariant c.give_one.ensures.pool)
