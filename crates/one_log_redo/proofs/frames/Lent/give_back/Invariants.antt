use Rattle.one_log_redo.proofs.Lending.{AreBack}
use Rattle.one_log_redo.proofs.frames.Lent.give_back.Given as goal

abbrev pub invariant-loop-k : goal.invariant-loop-k
invariant-loop-k l = AreBack l.fn.self.frames l.fn.self.count l.k l.fn.pool l.frames l.pool
