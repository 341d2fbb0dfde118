-- A formatted store holds no record.
use Rattle.std.proofs.Common.{◌≡◌, ℕ, zero, suc, [], take, refl, ap, None}
use Rattle.log_record.specs.declared.record.LogRecord.{LogRecord}
use Rattle.recovery_theory.specs.Effect.{of_slot, listed, left_of}
use Rattle.recovery_theory.specs.Records.{FormattedHoldsNone}
use Rattle.recovery_theory.proofs.FormattedHistory.{starts}

-- no record is left of none
cut_empty : (k : ℕ) → take {A = LogRecord} k [] ≡ []
cut_empty zero = refl
cut_empty (suc k) = refl

pub formatted_holds_none : FormattedHoldsNone
formatted_holds_none s = record {
  history = starts s;
  keys = λ cut is. record {
    home = λ m q lt le u. absurd cc;
    once = λ m q r lt le l u v e. absurd cc;
    value = λ m q k lt le l u. absurd cc;
    absent = λ k f. refl;
    empty = λ m q k lt le u. refl;
  };
  pending = λ cut is x k o h. absurd (h (ap (λ l. of_slot x k (listed (left_of o.txn 0 l None))) (cut_empty (cut o.node))));
}
