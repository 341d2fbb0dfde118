use Rattle.one_log_redo.specs.Copies.{ComesFirst}
use Rattle.one_log_redo.proofs.copies.find_first.Given as goal

abbrev pub invariant-loop-k : goal.invariant-loop-k
invariant-loop-k l = ComesFirst l.copies l.keep l.k l.first
