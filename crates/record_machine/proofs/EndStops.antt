-- A transaction ends, its log is stable, and its locks are released.
use Rattle.std.proofs.Common.{◌≡◌, ◌≢◌, ◌⊎◌, inl, inr, ◌++◌, ◌∷◌, ◌≤◌, ℕ, suc, Bool, true, [], List, Option, None, length, take, refl, ap, sym, subst, ◌∙◌, arith, length-append, take_all}
use Rattle.std.proofs.lemmas.Bool.{cases_eq, eq-eqb}
use Rattle.sd_base.specs.declared.names.TxnId.{TxnId}
use Rattle.log_record.specs.declared.record.LogRecord.{LogRecord}
use Rattle.recovery_theory.specs.Effect.{OpenUpdate, Transaction, effect_of, left_of, listed, of_slot, open_updates}
use Rattle.recovery_theory.specs.Effect.Effect.{Ended}
use Rattle.recovery_theory.specs.History.{History, IsCut, logs_at}
use Rattle.recovery_theory.specs.Room.{HasRoom}
use Rattle.recovery_theory.specs.Rules.{RuleOf}
use Rattle.recovery_theory.specs.Steps.{ended, with_locks}
use Rattle.recovery_theory.proofs.Cuts.{set_at-same, with_record-same}
use Rattle.recovery_theory.proofs.OpenUpdates.{left_of-append}
use Rattle.record_machine.specs.CutParts.{EndedSurvives}
use Rattle.record_machine.specs.Cuts.{Survives}
use Rattle.record_machine.specs.Machine.{Machine, is_busy}
use Rattle.record_machine.specs.Meaning.{Plain, logged}
use Rattle.record_machine.specs.Parts.{Seal, Unlock, dos, one}
use Rattle.record_machine.specs.Recoverable.{IsKnown}
use Rattle.record_machine.proofs.DeedSteps.{one_txn}
use Rattle.record_machine.proofs.Put.{put_same}
use Rattle.record_machine.proofs.SealSteps.{sealed_own}
use Rattle.record_machine.proofs.SealStops.{sealed_survives, sealed_survives_begun}
use Rattle.record_machine.proofs.SeatDeeds.{busy_sealed}
use Rattle.record_machine.proofs.StillStops.{unlocked_survives}

module _ (dirty : ℕ → Bool) (h : History) (p : Plain) (m : Machine) (t : TxnId) (rec : LogRecord) (s : Survives dirty h p m) (busy : is_busy m t ≡ true)
    (is : effect_of rec ≡ Ended (s.recoverable.begun t.node.0 t.seat)) (rule : RuleOf (h.devices.first t.node.0) (h.live t.node.0) rec (effect_of rec)) (fits : HasRoom h.devices t.node.0 (h.live t.node.0 ++ rec ∷ [])) where
  abbrev n : ℕ
  n = t.node.0

  abbrev begin : ℕ
  begin = s.recoverable.begun t.node.0 t.seat

  abbrev h' : History
  h' = ended h n begin rec

  abbrev m' : Machine
  m' = one (Seal t) m

  sealed : Survives dirty h' (logged n rec p) m'
  sealed = sealed_survives dirty h p m t rec s busy is rule fits

  same_begun : sealed.recoverable.begun ≡ s.recoverable.begun
  unfolding sealed
  same_begun = sealed_survives_begun dirty h p m t rec s busy is rule fits

  -- the whole log is left wherever it is cut, and its last record ends the transaction
  whole : (cut : ℕ → ℕ) → IsCut h' cut → take (cut n) (h'.live n) ≡ h.live n ++ rec ∷ []
  whole cut at =
      let live : h'.live n ≡ h.live n ++ rec ∷ [] = with_record-same n rec h.live in
      let long = length-append (h.live n) (rec ∷ []) in
      let low : suc (length (h.live n)) ≤ cut n = subst (λ k. k ≤ cut n) (set_at-same n (suc (length (h.live n))) h.stable) (at n).0 in
      ap (take (cut n)) live ∙ take_all (cut n) (h.live n ++ rec ∷ []) (omega (arith, low, long))

  none_left : left_of begin (h.devices.first n) (h.live n ++ rec ∷ []) None ≡ None
  none_left = left_of-append begin (h.devices.first n) (h.live n) rec None ∙ rw (is, eq-eqb begin begin refl) refl

  closed : (cut : ℕ → ℕ) → IsCut h' cut → (x k : ℕ) → of_slot x k (open_updates h'.devices.first (logs_at h' cut) (record { node = n; txn = sealed.recoverable.begun n t.seat })) ≡ []
  closed cut at x k =
      ap (λ begun. of_slot x k (open_updates h'.devices.first (logs_at h' cut) (record { node = n; txn = begun n t.seat }))) same_begun
      ∙ ap (λ l. of_slot x k (listed (left_of begin (h.devices.first n) l None))) (whole cut at)
      ∙ ap (λ (left : Option (List OpenUpdate)). of_slot x k (listed left)) none_left

  -- no other transaction of the node has its number
  alone : (u : TxnId) → IsKnown m' u → u.node.0 ≡ n → sealed.recoverable.begun u.node.0 u.seat ≡ sealed.recoverable.begun n t.seat → u ≡ t
  alone u known node same = by (cases_eq u.seat t.seat)
    where
      known_before : IsKnown m' u → u.seat ≢ t.seat → IsKnown m u
      known_before (inl open_still) other = inl (sym (busy_sealed m t u (inr other)) ∙ open_still)
      known_before (inr lock) other = inr lock

      begins : s.recoverable.begun n t.seat ≡ s.recoverable.begun u.node.0 u.seat
      begins = sym (sym (ap (λ begun. begun u.node.0 u.seat) same_begun) ∙ same ∙ ap (λ begun. begun n t.seat) same_begun)

      by : (u.seat ≡ t.seat) ⊎ (u.seat ≢ t.seat) → u ≡ t
      by (inl seat) = one_txn u t node seat
      by (inr other) = one_txn u t node (sym (s.recoverable.apart t u (inl busy) (known_before known other) (sym node) begins))

  pub ended_now : (lock : ℕ → ℕ → Option Transaction) × Survives dirty (with_locks h' lock) (logged n rec p) (dos (Seal t ∷ Unlock t ∷ []) m)
  ended_now = unlocked_survives dirty h' (logged n rec p) m' t sealed closed alone (put_same n [] m.loose n refl) (λ key. sealed_own t m key)

pub ended_survives : EndedSurvives
ended_survives dirty h p m t rec s busy is rule fits = ended_now dirty h p m t rec s busy is rule fits
