-- A record that changes no page, in the history and in the present.
use Rattle.std.proofs.Common.{◌≡◌, ◌≢◌, ◌⊎◌, inl, inr, ◌+◌, ◌<◌, ◌≤◌, ◌++◌, ℕ, cond, eqb, List, [], ◌∷◌, length, ap, sym, subst, ◌∙◌, arith, Some, None, eq-eqb, ne_eqb, length-append}
use Rattle.std.proofs.lemmas.Bool.{cases_eq, cases_lt}
use Rattle.log_record.specs.declared.record.LogRecord.{LogRecord}
use Rattle.record_machine.specs.Machine as machine
use Rattle.recovery_theory.specs.Effect.{OpenUpdate, left_of}
use Rattle.recovery_theory.specs.History.{History}
use Rattle.recovery_theory.specs.Steps.{with_last_cut, with_record}
use Rattle.recovery_theory.proofs.Cuts.{with_last_cut-end, with_last_cut-off, with_record-other}
use Rattle.recovery_theory.proofs.BeginsAndLocks.{left_of-new}

-- what is seen at the ends of the logs, where a record is appended that changes no page
pub past_same : {A : Type 0} (h : History) (n : ℕ) (rec : LogRecord) (f : ℕ → ℕ → A) (y : ℕ)
    → with_last_cut h n f (λ z. f z (length (h.live (h.guard z)))) y (length (with_record n rec h.live (h.guard y))) ≡ f y (length (h.live (h.guard y)))
past_same {A} h n rec f y = go (cases_eq (h.guard y) n)
  where
    go : (h.guard y ≡ n) ⊎ (h.guard y ≢ n) → with_last_cut h n f (λ z. f z (length (h.live (h.guard z)))) y (length (with_record n rec h.live (h.guard y))) ≡ f y (length (h.live (h.guard y)))
    go (inl g) = with_last_cut-end h n rec f (λ z. f z (length (h.live (h.guard z)))) y g
    go (inr g) = with_last_cut-off h n f (λ z. f z (length (h.live (h.guard z)))) y (length (with_record n rec h.live (h.guard y))) g
        ∙ ap (f y) (ap (λ (l : List LogRecord). length l) (with_record-other n rec h.live (h.guard y) g))

-- the logs of the history are those of the present
pub live_more : (n : ℕ) (rec : LogRecord) (a b : ℕ → List LogRecord) → ((k : ℕ) → a k ≡ b k) → (k : ℕ) → with_record n rec a k ≡ machine.put n (b n ++ rec ∷ []) b k
live_more n rec a b same k = go (cases_eq k n)
  where
    go : (k ≡ n) ⊎ (k ≢ n) → cond (eqb k n) (a n ++ rec ∷ []) (a k) ≡ cond (eqb k n) (b n ++ rec ∷ []) (b k)
    go (inl e) = rw (eq-eqb k n e) (ap (λ l. l ++ rec ∷ []) (same n))
    go (inr ne) = rw (ne_eqb k n ne) (same k)

-- an open transaction began in the log
pub began_below : (t first : ℕ) (l : List LogRecord) (us : List OpenUpdate) → left_of t first l None ≡ Some us → t < first + length l
began_below t first l us e = go (cases_lt t (first + length l))
  where
    go : (t < first + length l) ⊎ (first + length l ≤ t) → t < first + length l
    go (inl h) = h
    go (inr h) = let none = left_of-new t first l h in let never : None ≡ Some us = sym none ∙ e in absurd cc

pub longer : (n : ℕ) (rec : LogRecord) (first : ℕ → ℕ) (a : ℕ → List LogRecord) (k b : ℕ) → b < first k + length (a k) → b < first k + length (with_record n rec a k)
longer n rec first a k b lt = go (cases_eq k n)
  where
    go : (k ≡ n) ⊎ (k ≢ n) → b < first k + length (cond (eqb k n) (a n ++ rec ∷ []) (a k))
    go (inl e) = let lt' : b < first n + length (a n) = subst (λ z. b < first z + length (a z)) e lt in rw (eq-eqb k n e) (omega (arith, length-append (a n) (rec ∷ []), ap first e))
    go (inr ne) = rw (ne_eqb k n ne) lt
