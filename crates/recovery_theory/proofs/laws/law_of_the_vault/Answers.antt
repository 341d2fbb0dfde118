use Rattle.recovery_theory.proofs.PageWrites.{archives}
use Rattle.recovery_theory.proofs.LogMoves.{moves, purges}
use Rattle.recovery_theory.proofs.laws.law_of_the_vault.Goals as goal

pub returns : goal.returns
returns c = record {
  archive = archives;
  move_start = moves;
  purge = purges;
}
