use Rattle.std.proofs.Common.{◌+◌, sym, subst}
use Rattle.one_log_redo.specs.Copies.{ComesFirst}
use Rattle.one_log_redo.proofs.CopyLaws.{first_now, first_still, first_within}
use Rattle.one_log_redo.proofs.copies.find_first.Goals as goal
use Rattle.one_log_redo.proofs.copies.find_first.Goals.{then-comes_before, else-comes_before}

pub comes_before-requires-clause-first : goal.comes_before-requires-clause-first
comes_before-requires-clause-first c = first_within c.args.copies.now c.args.keep c.loop-k.k c.loop-k.first c.loop-k.invariant

pub loop-k-preserved : goal.loop-k-preserved
loop-k-preserved c = elim c.if-comes_before.branch [
  | then-comes_before w ↦
      let b = c.comes_before.ensures.before w.if-comes_before.true in
      subst (ComesFirst c.args.copies.now c.args.keep (c.loop-k.k + 1)) (sym w.first-is) (first_now c.args.copies.now c.args.keep c.loop-k.k c.loop-k.first c.loop-k.invariant b.0 b.1 b.2 b.3)
  | else-comes_before w ↦
      subst (ComesFirst c.args.copies.now c.args.keep (c.loop-k.k + 1)) (sym w.first-is) (first_still c.args.copies.now c.args.keep c.loop-k.k c.loop-k.first c.loop-k.invariant (c.comes_before.ensures.behind w.if-comes_before.false))
]
