use Rattle.one_log_redo.specs.Copies.{IsFilled}
use Rattle.one_log_redo.proofs.copies.find_free.Given as goal

abbrev pub invariant-loop-k : goal.invariant-loop-k
invariant-loop-k l = IsFilled l.k l.copies
