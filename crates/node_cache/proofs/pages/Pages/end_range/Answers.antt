use Rattle.std.proofs.Common.{◌≡◌, ◌+◌, arith, subst, sym}
use Rattle.node_cache.specs.Places.{IsWrittenWithin}
use Rattle.node_cache.specs.Sending.{IsSent}
use Rattle.node_cache.proofs.PageWrites.{there_is}
use Rattle.node_cache.proofs.Ranges.{all_here, more_within, next_within}
use Rattle.node_cache.proofs.pages.Pages.end_range.Goals as goal

pub written-requires-clause-sent : goal.written-requires-clause-sent
written-requires-clause-sent c = λ p at.
    let there = there_is c.args.self.now c.loop-i.i (omega (arith, c.loop-i-test.true, c.requires.range.1)) in
    let now = next_within _ _ _ _ _ there.1 c.loop-i.invariant.written in
    let same : there.0 ≡ p = cc in
    subst (IsSent c.args.covered.now) same (all_here (IsSent c.args.covered.now) c.args.from c.args.to c.loop-i.i _ there.0 c.requires.range.1 c.loop-i.auto.i c.loop-i-test.true there.1 c.requires.sent)

pub loop-i-preserved : goal.loop-i-preserved
loop-i-preserved c =
    let there = there_is c.args.self.now c.loop-i.i (omega (arith, c.loop-i-test.true, c.requires.range.1)) in
    let at = next_within _ _ _ _ _ there.1 c.loop-i.invariant.written in
    record { written = subst (IsWrittenWithin c.args.from (c.loop-i.i + 1) c.args.self.now) (sym (c.written.ensures there.0 at)) (more_within _ _ _ _ there.0 c.loop-i.auto.i there.1 c.loop-i.invariant.written) }
