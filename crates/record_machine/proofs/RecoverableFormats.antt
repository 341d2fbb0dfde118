-- A formatted store is recoverable, and what is recoverable stands at each outcome.
use Rattle.std.proofs.Common.{◌≡◌, inl, inr, cond, ltb, refl, sym, ◌∙◌, arith, Some, None, lt-ltb, le-ltb}
use Rattle.sd_base.specs.declared.names.TxnId.{TxnId}
use Rattle.sd_base.specs.declared.shape.Shape.{Shape}
use Rattle.record_locks.specs.declared.mode.Mode.TheVariants as locks
use Rattle.std.specs.FinMap as finite
use Rattle.record_locks.specs.Held.{mode_of}
use Rattle.record_locks.specs.Order.{lock, lock_cmp}
use Rattle.record_machine.specs.Machine.{formatted}
use Rattle.recovery_theory.specs.Pages.{formatted_page}
use Rattle.recovery_theory.proofs.FormattedRecords.{formatted_holds_none}
use Rattle.recovery_theory.proofs.PageLaws.{in_life_from-same}
use Rattle.recovery_theory.proofs.Outcomes.{stands_at_cuts}
use Rattle.recovery_theory.proofs.FormattedHistory.{low}
use Rattle.recovery_theory.proofs.Headroom.{formatted_is_rising}
use Rattle.record_machine.specs.Recoverable.{IsKnown}
use Rattle.record_machine.specs.RecoverableParts.{FormattedRecoverable, OutcomesStand}

unknown : (s : Shape) (t : TxnId) → IsKnown (formatted s) t → ⊥
unknown s t (inl b) = cc
unknown s t (inr (key, mode)) = no_lock mode
  where
    no_lock : mode_of (formatted s).locks key t ≡ Some locks.Write → ⊥
    no_lock e = let none = finite.get-empty lock_cmp (lock key t) in let never : None ≡ Some locks.Write = sym none ∙ e in cc

pub formatted_recoverable : FormattedRecoverable
formatted_recoverable s = record {
  holds = formatted_holds_none s;
  roomy = record { whole = record { ruled = λ n. tt; fits = λ n. record { room = omega arith; last = omega arith } }; loose = λ n. tt };
  rolled = formatted_is_rising s;
  shape = refl;
  first = λ n. refl;
  live = λ n. refl;
  maps = λ x lt. rw (lt-ltb x s.maps lt) refl;
  pages = λ x le high. rw (le-ltb x s.maps le) refl;
  guard = λ x n e. absurd cc;
  stored = λ x e. record { sure = omega arith; clean = inr (formatted_page s x, refl, in_life_from-same x (cond (ltb x s.maps) 0 s.birth) (formatted_page s x) (low s x)) };
  begun = λ n seat. 0;
  seats = λ t b. absurd (unknown s t (inl b));
  opens = λ k txn us e. absurd cc;
  below = λ t up k. absurd (unknown s t k);
  idle = λ t rest k. unknown s t k;
  holder = λ x e. absurd cc;
  apart = λ t u k l. absurd (unknown s t k);
  locked = λ t key x is mode. absurd (unknown s t (inr (key, mode)));
  locker = λ o key x is e. absurd cc;
}

pub formatted_begun : (s : Shape) → (formatted_recoverable s).begun ≡ (λ n seat. 0)
unfolding formatted_recoverable
formatted_begun s = refl

pub outcomes_stand : OutcomesStand
outcomes_stand dirty h p m nodes cut r tops is = stands_at_cuts h m.records nodes cut r.holds r.roomy r.rolled tops is
