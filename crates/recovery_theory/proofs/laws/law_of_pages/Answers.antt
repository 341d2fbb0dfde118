use Rattle.recovery_theory.proofs.PageWrites.{loses, passes, writes}
use Rattle.recovery_theory.proofs.LogMoves.{fresh}
use Rattle.recovery_theory.proofs.laws.law_of_pages.Goals as goal

pub returns : goal.returns
returns c = record {
  write = writes;
  loss = loses;
  pass = passes;
  fresh = fresh;
}
