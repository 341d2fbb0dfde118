use Rattle.std.proofs.Common.{◌+◌, arith, subst, sym}
use Rattle.node_cache.specs.Sending.{IsNextPlace}
use Rattle.node_cache.proofs.PageWrites.{there_is}
use Rattle.node_cache.proofs.SendOrder.{now_next, still_next}
use Rattle.node_cache.proofs.pages.Pages.next_changed.Goals as goal
use Rattle.node_cache.proofs.pages.Pages.next_changed.Goals.{then-comes_before, else-comes_before}

pub loop-i-preserved : goal.loop-i-preserved
loop-i-preserved c =
    let there = there_is c.args.self.now c.loop-i.i (omega (arith, c.loop-i-test.true, c.requires.1)) in
    elim c.if-comes_before.branch [
      | then-comes_before w ↦
          let b = c.comes_before.ensures.before w.if-comes_before.true there.0 there.1 in
          subst (IsNextPlace c.args.least c.args.from (c.loop-i.i + 1) c.args.self.now) (sym w.next-is) (now_next c.args.self.now c.args.least c.args.from c.loop-i.i there.0 c.loop-i.auto.i there.1 c.loop-i.next c.loop-i.invariant b.0 b.1)
      | else-comes_before w ↦
          subst (IsNextPlace c.args.least c.args.from (c.loop-i.i + 1) c.args.self.now) (sym w.next-is) (still_next c.args.self.now c.args.least c.args.from c.loop-i.i there.0 c.loop-i.auto.i there.1 c.loop-i.next c.loop-i.invariant (c.comes_before.ensures.behind w.if-comes_before.false there.0 there.1))
    ]
