use Rattle.private_log.proofs.OneLog.{one_log}
use Rattle.private_log.proofs.laws.law_of_one_log.Goals as goal

pub returns : goal.returns
returns c = record {
  start = λ g image start other xs ys a b. (one_log g image start other xs ys a b).0;
  records = λ g image start other xs ys a b. (one_log g image start other xs ys a b).1;
}
