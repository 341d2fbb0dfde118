-- The open transactions of a log when a record is appended.
use Rattle.std.proofs.Common.{◌≡◌, ◌≢◌, ◌⊎◌, inl, inr, ◌+◌, ℕ, Bool, true, false, cond, eqb, List, length, refl, sym, subst, ◌∙◌, Option, Some, None, eq-eqb, ne_eqb}
use Rattle.std.proofs.lemmas.Bool.{cases_eq}
use Rattle.log_record.specs.declared.record.LogRecord.{LogRecord}
use Rattle.recovery_theory.specs.Effect.{Effect, OpenUpdate, taken_down_to, effect_of, left_by_effect, left_of, with_update}
use Rattle.recovery_theory.specs.Effect.Effect.{Begun, Updated, Ended, Compensated, Mapped}
use Rattle.recovery_theory.specs.Steps.{with_record}
use Rattle.recovery_theory.proofs.Cuts.{with_record-other, with_record-same}
use Rattle.recovery_theory.proofs.OpenUpdates.{left_of-append}

-- what is open behind a record has just begun, or was open before it and hasn't ended by it
pub was_open : (t r : ℕ) (e : Effect) (s : Option (List OpenUpdate)) (us : List OpenUpdate) → left_by_effect t r e s ≡ Some us → ((r ≡ t) × (e ≡ Begun)) ⊎ ((old : List OpenUpdate) × (s ≡ Some old) × (e ≢ Ended t))
was_open t r Begun s us h = go (cases_eq r t)
  where
    go : (r ≡ t) ⊎ (r ≢ t) → ((r ≡ t) × (Begun ≡ Begun)) ⊎ ((old : List OpenUpdate) × (s ≡ Some old) × (Begun ≢ Ended t))
    go (inl e) = inl (e, refl)
    go (inr d) = inr (us, rw (ne_eqb r t d) at h, λ z. cc)
was_open t r (Updated txn page bsi op back) s us h = inr (go (eqb txn t) s h)
  where
    go : (b : Bool) (s : Option (List OpenUpdate)) → cond b (with_update (record { number = r; page = page; update = op; back = back }) s) s ≡ Some us → (old : List OpenUpdate) × (s ≡ Some old) × (Updated txn page bsi op back ≢ Ended t)
    go b (Some old) k = (old, refl, λ z. cc)
    go true None k = absurd cc
    go false None k = absurd cc
was_open t r (Ended txn) s us h = inr (go (cases_eq txn t))
  where
    go : (txn ≡ t) ⊎ (txn ≢ t) → (old : List OpenUpdate) × (s ≡ Some old) × (Ended txn ≢ Ended t)
    go (inl e) = let never : None ≡ Some us = rw (eq-eqb txn t e) at h in absurd cc
    go (inr d) = (us, rw (ne_eqb txn t d) at h, λ z. d cc)
was_open t r (Compensated txn next page bsi op) s us h = inr (go (eqb txn t) s h)
  where
    go : (b : Bool) (s : Option (List OpenUpdate)) → cond b (taken_down_to next s) s ≡ Some us → (old : List OpenUpdate) × (s ≡ Some old) × (Compensated txn next page bsi op ≢ Ended t)
    go b (Some old) k = (old, refl, λ z. cc)
    go true None k = absurd cc
    go false None k = absurd cc
was_open t r (Mapped page bsi op) s us h = inr (us, h, λ z. cc)

-- said of the open transactions of every log
pub open_then : (first : ℕ → ℕ) (n : ℕ) (rec : LogRecord) (live : ℕ → List LogRecord) (P : ℕ → ℕ → Type 0)
    → (effect_of rec ≡ Begun → P n (first n + length (live n)))
    → ((k t : ℕ) (us : List OpenUpdate) → left_of t (first k) (live k) None ≡ Some us → (k ≡ n → effect_of rec ≢ Ended t) → P k t)
    → (k t : ℕ) (us : List OpenUpdate) → left_of t (first k) (with_record n rec live k) None ≡ Some us → P k t
open_then first n rec live P new old k t us e = go (cases_eq k n)
  where
    go : (k ≡ n) ⊎ (k ≢ n) → P k t
    go (inr d) = old k t us (subst (λ l. left_of t (first k) l None ≡ Some us) (with_record-other n rec live k d) e) (λ z. absurd (d z))
    go (inl z) = subst (λ j. P j t) (sym z) (here (was_open t (first n + length (live n)) (effect_of rec) (left_of t (first n) (live n) None) us at_n))
      where
        at_n : left_by_effect t (first n + length (live n)) (effect_of rec) (left_of t (first n) (live n) None) ≡ Some us
        at_n = sym (left_of-append t (first n) (live n) rec None) ∙ subst (λ l. left_of t (first n) l None ≡ Some us) (with_record-same n rec live) (subst (λ j. left_of t (first j) (with_record n rec live j) None ≡ Some us) z e)

        here : ((first n + length (live n) ≡ t) × (effect_of rec ≡ Begun)) ⊎ ((old : List OpenUpdate) × (left_of t (first n) (live n) None ≡ Some old) × (effect_of rec ≢ Ended t)) → P n t
        here (inl (q, b)) = subst (P n) q (new b)
        here (inr (us', s, apart)) = old n t us' s (λ _. apart)
