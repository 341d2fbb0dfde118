use Rattle.recovery_theory.proofs.ChainLaws.{grows}
use Rattle.recovery_theory.proofs.PageRedo.{redoes}
use Rattle.recovery_theory.proofs.Rebuilding.{rebuilding}
use Rattle.recovery_theory.proofs.LinkedChains.{chain_is_linked}
use Rattle.recovery_theory.proofs.LiteralChains.{standing_is_chained}
use Rattle.recovery_theory.proofs.laws.law_of_chains.Goals as goal

pub returns : goal.returns
returns c = record {
  grows = grows;
  redoes = redoes;
  rebuilds = rebuilding;
  linked = chain_is_linked;
  chained = standing_is_chained;
}
