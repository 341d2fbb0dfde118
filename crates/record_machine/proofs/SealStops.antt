-- A transaction ends, and its log is stable: of its node nothing is loose any more, and of the others what was.
use Rattle.std.proofs.Common.{◌≡◌, ◌≢◌, ◌⊎◌, inl, inr, ◌+◌, ◌-◌, ◌≤◌, ◌++◌, ◌∷◌, ℕ, suc, Bool, true, false, List, [], length, take, drop, refl, ap, ap₂, sym, subst, ◌∙◌, arith, take_all, length-append, count_by}
use Rattle.space_map.specs.PageImage.{ident_of}
use Rattle.std.specs.List.{list_any}
use Rattle.std.proofs.lemmas.Bool.{cases_eq}
use Rattle.sd_base.specs.declared.names.TxnId.{TxnId}
use Rattle.log_record.specs.declared.record.LogRecord.{LogRecord}
use Rattle.log_record.specs.declared.record.LogRecord.TheVariants.{Begin, Set, Append, Commit, Abort, Restore, Cut, MapUse, MapFree}
use Rattle.record_locks.specs.declared.mode.Mode.TheVariants as locks
use Rattle.recovery_theory.specs.Effect.{effect_of, steps_on}
use Rattle.recovery_theory.specs.Effect.Effect.{Ended}
use Rattle.recovery_theory.specs.History.{History, entry_now, image_now}
use Rattle.recovery_theory.specs.Pages.{is_used}
use Rattle.recovery_theory.specs.Room.{HasRoom}
use Rattle.recovery_theory.specs.Rules.{RuleOf}
use Rattle.recovery_theory.specs.Steps.{IsPlaceToCut, ended}
use Rattle.recovery_theory.proofs.Cuts.{set_at-other, set_at-same, with_last_cut-off, with_record-other, with_record-same}
use Rattle.record_machine.specs.CutParts.{AbortedSurvives, CommittedSurvives, IsAbortOf, IsCommitOf, SealedSurvives}
use Rattle.record_machine.specs.Cuts.{MayStop, Survives, TakesBackTo, TellsLog, behind_cut, deeds_at, seat_of, touches}
use Rattle.record_machine.specs.Machine.{Deed, LooseChange, Machine, is_begin_in, is_busy, seen, writes_page}
use Rattle.record_machine.specs.Meaning.{Means, Plain, has_written, logged, writes_key}
use Rattle.record_machine.specs.Parts.{Seal, one}
use Rattle.record_machine.specs.Recoverable.{Recoverable}
use Rattle.record_machine.specs.Stops.{entries_before, ident_before, pending_before, tail_before}
use Rattle.record_machine.proofs.BackSteps.{none_written}
use Rattle.record_machine.proofs.CutSteps.{opened_now, told_still}
use Rattle.record_machine.proofs.Deeds.{without, written_none, written_others}
use Rattle.record_machine.proofs.Put.{at_or_off, put_other, put_same}
use Rattle.record_machine.proofs.RecoverableEnds.{sealed_begun, sealed_now}
use Rattle.record_machine.proofs.SealSteps.{not_written, seen_nothing}
use Rattle.record_machine.proofs.SeatDeeds.{busy_sealed, kept_begin}
use Rattle.record_machine.proofs.StopPages.{nothing_behind}
use Rattle.record_machine.proofs.Steps.{means_sealed}
use Rattle.record_machine.proofs.TakenBack.{pending_agrees, tail_agrees}
use Rattle.record_machine.proofs.ToldNow.{AreOpened, entries_now, ident_now, tail_now, told_now}

module _ (dirty : ℕ → Bool) (h : History) (p : Plain) (m : Machine) (t : TxnId) (rec : LogRecord) (s : Survives dirty h p m) (busy : is_busy m t ≡ true)
    (is : effect_of rec ≡ Ended (s.recoverable.begun t.node.0 t.seat)) (rule : RuleOf (h.devices.first t.node.0) (h.live t.node.0) rec (effect_of rec)) (fits : HasRoom h.devices t.node.0 (h.live t.node.0 ++ rec ∷ [])) where
  abbrev n : ℕ
  n = t.node.0

  abbrev h' : History
  h' = ended h t.node.0 (s.recoverable.begun t.node.0 t.seat) rec

  abbrev p' : Plain
  p' = logged t.node.0 rec p

  abbrev m' : Machine
  m' = one (Seal t) m

  recoverable' : Recoverable dirty h' p' m'
  recoverable' = sealed_now dirty h p m t rec s.recoverable s.means busy is rule fits

  means' : Means p' m'
  means' = means_sealed p m t rec s.means

  live_here : h'.live t.node.0 ≡ h.live t.node.0 ++ rec ∷ []
  live_here = with_record-same t.node.0 rec h.live

  live_other : (j : ℕ) → j ≢ t.node.0 → h'.live j ≡ h.live j
  live_other j d = with_record-other t.node.0 rec h.live j d

  longer : length (h'.live t.node.0) ≡ length (h.live t.node.0) + 1
  longer = ap (λ (l : List LogRecord). length l) live_here ∙ length-append (h.live t.node.0) (rec ∷ [])

  opened' : AreOpened m'
  opened' j seat key any = go (cases_eq j t.node.0) (cases_eq seat t.seat)
    where
      go : (j ≡ t.node.0) ⊎ (j ≢ t.node.0) → (seat ≡ t.seat) ⊎ (seat ≢ t.seat) → list_any (is_begin_in seat) (m'.pending j) ≡ true
      go (inr d) b = rw (put_other t.node.0 (without t.seat (m.pending t.node.0)) m.pending j d) (opened_now dirty h p m s j seat key (rw (put_other t.node.0 (without t.seat (m.pending t.node.0)) m.pending j d) at any))
      go (inl e) (inl same) =
          let none : list_any (writes_key seat key) (without t.seat (m.pending t.node.0)) ≡ false = ap (λ k. list_any (writes_key k key) (without t.seat (m.pending t.node.0))) same ∙ written_none t.seat key (m.pending t.node.0) in
          let never : true ≡ false = sym (rw (put_same t.node.0 (without t.seat (m.pending t.node.0)) m.pending j e) at any) ∙ none in
          absurd cc
      go (inl e) (inr other) =
          let here : list_any (writes_key seat key) (without t.seat (m.pending t.node.0)) ≡ true = rw (put_same t.node.0 (without t.seat (m.pending t.node.0)) m.pending j e) at any in
          rw (put_same t.node.0 (without t.seat (m.pending t.node.0)) m.pending j e) (kept_begin t.seat seat (m.pending t.node.0) other ∙ opened_now dirty h p m s t.node.0 seat key (sym (written_others t.seat seat key (m.pending t.node.0) other) ∙ here))

  back_here : (k : ℕ) → k ≡ length (h'.live t.node.0) → TakesBackTo h' m' s.recoverable.begun t.node.0 k
  back_here k at = subst (TakesBackTo h' m' s.recoverable.begun t.node.0) (sym at) (record {
    log = subst (λ l. TellsLog m' s.recoverable.begun t.node.0 (h.devices.first t.node.0) l (deeds_at h' m' t.node.0 (length (h'.live t.node.0)))) (sym (take_all (length (h'.live t.node.0)) (h'.live t.node.0) (omega arith)))
        (subst (TellsLog m' s.recoverable.begun t.node.0 (h.devices.first t.node.0) (h'.live t.node.0)) (sym (ap (λ l. pending_before t.node.0 l m'.pending t.node.0) nothing)) (subst (λ b. TellsLog m' b t.node.0 (h.devices.first t.node.0) (h'.live t.node.0) (m'.pending t.node.0)) (sealed_begun dirty h p m t rec s.recoverable s.means busy is rule fits) (told_now dirty h' p' m' (sealed_now dirty h p m t rec s.recoverable s.means busy is rule fits) means' opened' t.node.0)));
    tail = ap (λ l. tail_before t.node.0 l m'.tail t.node.0) nothing ∙ tail_now dirty h' p' m' recoverable' means' t.node.0;
    ident = λ x lt g. ap (λ l. ident_before l m'.ident x) nothing ∙ (ident_now dirty h' p' m' recoverable' means' x lt ∙ ap (λ j. ident_of (h'.image x (length (h'.live j)))) g);
    entries = λ x map lt g e. ap (λ l. entries_before l m'.entries x) nothing ∙ entries_now dirty h' p' m' recoverable' means' x map lt (ap (λ j. h'.image x (length (h'.live j))) g ∙ e);
    others = λ x how. ap (list_any (touches x)) nothing;
    writes = λ x. (let e = ap (λ l. count_by (writes_page x) (pending_before t.node.0 l m'.pending t.node.0)) nothing in omega (arith, e));
  })
    where
      nothing : behind_cut h' m' t.node.0 (length (h'.live t.node.0)) ≡ []
      nothing = nothing_behind h' m' t.node.0

  back_other : (j : ℕ) → j ≢ t.node.0 → (k : ℕ) → IsPlaceToCut h' j k → TakesBackTo h' m' s.recoverable.begun j k
  back_other j d k at = record {
    log = subst (λ l. TellsLog m' s.recoverable.begun j (h.devices.first j) (take k l) (deeds_at h' m' j k)) (sym (live_other j d))
        (subst (TellsLog m' s.recoverable.begun j (h.devices.first j) (take k (h.live j))) (sym deeds)
        (told_still m m' s.recoverable.begun s.recoverable.begun j (h.devices.first j) (take k (h.live j)) (deeds_at h m j k) b.log same_record (λ key x e. e) (λ seat key x any e. e) (λ seat key any e. e)
        (λ seat any e. busy_sealed m t (seat_of j seat) (inl d) ∙ e) (λ seat any. refl)));
    tail = ap (λ l. tail_before j l m'.tail j) same ∙ (tail_agrees j (behind_cut h m j k) m'.tail m.tail (put_other t.node.0 (m.tail t.node.0 + 1) m.tail j d) ∙ b.tail);
    ident = λ x lt g. ap (λ l. ident_before l m.ident x) same ∙ (b.ident x lt g ∙ ap ident_of (sym (image_off x (λ e. d (sym g ∙ e)))));
    entries = λ x map lt g e. ap (λ l. entries_before l m.entries x) same ∙ b.entries x map lt g (sym (image_off x (λ e. d (sym g ∙ e))) ∙ e);
    others = λ x how. ap (list_any (touches x)) same ∙ b.others x how;
    writes = λ x. (
        let one = ap (λ (ds : List Deed). count_by (writes_page x) ds) deeds in
        let two = ap (λ (ds : List Deed). count_by (writes_page x) ds) (put_other t.node.0 (without t.seat (m.pending t.node.0)) m.pending j d) in
        let three = ap (λ (l : List LogRecord). length (steps_on x (drop k l))) (live_other j d) in
        let old = b.writes x in
        omega (arith, one, two, three, old));
  }
    where
      place : IsPlaceToCut h j k
      place = record { low = subst (λ i. i ≤ k) (set_at-other t.node.0 (suc (length (h.live t.node.0))) h.stable j d) at.low; high = subst (λ l. k ≤ length l) (live_other j d) at.high }

      b : TakesBackTo h m s.recoverable.begun j k
      b = s.stops.back j k place

      same : behind_cut h' m' j k ≡ behind_cut h m j k
      same = ap₂ (λ (l : List LooseChange) (r : List LogRecord). drop (length l - (length r - k)) l) (put_other t.node.0 [] m.loose j d) (live_other j d)

      deeds : deeds_at h' m' j k ≡ deeds_at h m j k
      deeds = ap (λ l. pending_before j l m'.pending j) same ∙ pending_agrees j (behind_cut h m j k) m'.pending m.pending (put_other t.node.0 (without t.seat (m.pending t.node.0)) m.pending j d)

      image_off : (x : ℕ) → h.guard x ≢ t.node.0 → h'.image x k ≡ h.image x k
      image_off x g = with_last_cut-off h t.node.0 h.image (image_now h) x k g

      -- what another node's transaction has written, this one hasn't
      same_record : (seat key : ℕ) → list_any (writes_key seat key) (deeds_at h m j k) ≡ true → seen m t key ≡ m.records key
      same_record seat key any = seen_nothing t t m key (m.records key) (not_written (has_written m t key) (λ ours.
          d (ap (λ (u : TxnId). u.node.0) (s.means.locked.apart (record { 0 = key }) (seat_of j seat) t locks.Write locks.Write (b.log.locked seat (record { 0 = key }) any) (s.means.locked.written t (record { 0 = key }) ours) refl))))

  pub sealed_stops : MayStop h' m' s.recoverable.begun
  sealed_stops = record {
    enough = λ j. enough j (cases_eq j t.node.0);
    back = λ j k at. back j k at (cases_eq j t.node.0);
    used = λ x k at used. used_now x k at used (cases_eq (h.guard x) t.node.0);
    resting = λ j rest. at_or_off (λ l. l ≡ []) t.node.0 [] m.loose j (λ e. refl) (λ d. s.stops.resting j rest);
    owners = s.stops.owners;
    nodes = s.stops.nodes;
  }
    where
      enough : (j : ℕ) → (j ≡ t.node.0) ⊎ (j ≢ t.node.0) → length (h'.live j) ≤ h'.stable j + length (m'.loose j)
      enough j (inl e) = subst (λ j. length (h'.live j) ≤ h'.stable j + length (m'.loose j)) (sym e) (rw (set_at-same t.node.0 (suc (length (h.live t.node.0))) h.stable) (omega (arith, longer)))
      enough j (inr d) = rw (live_other j d, set_at-other t.node.0 (suc (length (h.live t.node.0))) h.stable j d, put_other t.node.0 [] m.loose j d) (s.stops.enough j)

      back : (j k : ℕ) → IsPlaceToCut h' j k → (j ≡ t.node.0) ⊎ (j ≢ t.node.0) → TakesBackTo h' m' s.recoverable.begun j k
      back j k at (inr d) = back_other j d k at
      back j k at (inl e) = subst (λ j. IsPlaceToCut h' j k → TakesBackTo h' m' s.recoverable.begun j k) (sym e) (λ at. back_here k (
          let low = subst (λ i. i ≤ k) (set_at-same t.node.0 (suc (length (h.live t.node.0))) h.stable) at.low in
          let high = at.high in
          omega (arith, low, high, longer))) at

      used_now : (x k : ℕ) → IsPlaceToCut h' (h.guard x) k → is_used (h'.entry x k) ≡ true → (h.guard x ≡ t.node.0) ⊎ (h.guard x ≢ t.node.0) → h'.entry x k ≡ entry_now h' x
      used_now x k at used (inl g) =
          let at' = subst (λ j. IsPlaceToCut h' j k) g at in
          let low = subst (λ i. i ≤ k) (set_at-same t.node.0 (suc (length (h.live t.node.0))) h.stable) at'.low in
          let high = at'.high in
          let it : k ≡ length (h'.live t.node.0) = omega (arith, low, high, longer) in
          ap (h'.entry x) (it ∙ ap (λ j. length (h'.live j)) (sym g))
      used_now x k at used (inr d) =
          let off = with_last_cut-off h t.node.0 h.entry (entry_now h) x k d in
          let live_is = live_other (h.guard x) d in
          off ∙ (s.stops.used x k (record { low = subst (λ i. i ≤ k) (set_at-other t.node.0 (suc (length (h.live t.node.0))) h.stable (h.guard x) d) at.low; high = subst (λ l. k ≤ length l) live_is at.high }) (ap is_used (sym off) ∙ used)
          ∙ (ap (λ (l : List LogRecord). h.entry x (length l)) (sym live_is) ∙ sym (with_last_cut-off h t.node.0 h.entry (entry_now h) x (length (h'.live (h.guard x))) d)))

pub sealed_survives : SealedSurvives
sealed_survives dirty h p m t rec s busy is rule fits = record {
  recoverable = sealed_now dirty h p m t rec s.recoverable s.means busy is rule fits;
  means = means_sealed p m t rec s.means;
  stops = subst (MayStop (ended h t.node.0 (s.recoverable.begun t.node.0 t.seat) rec) (one (Seal t) m)) (sym (sealed_begun dirty h p m t rec s.recoverable s.means busy is rule fits)) (sealed_stops dirty h p m t rec s busy is rule fits);
}

-- the transactions have the numbers that they had
pub sealed_survives_begun : (dirty : ℕ → Bool) (h : History) (p : Plain) (m : Machine) (t : TxnId) (rec : LogRecord) (s : Survives dirty h p m) (busy : is_busy m t ≡ true) (is : effect_of rec ≡ Ended (s.recoverable.begun t.node.0 t.seat)) (rule : RuleOf (h.devices.first t.node.0) (h.live t.node.0) rec (effect_of rec)) (fits : HasRoom h.devices t.node.0 (h.live t.node.0 ++ rec ∷ []))
    → (sealed_survives dirty h p m t rec s busy is rule fits).recoverable.begun ≡ s.recoverable.begun
unfolding sealed_survives
sealed_survives_begun dirty h p m t rec s busy is rule fits = sealed_begun dirty h p m t rec s.recoverable s.means busy is rule fits

-- ---- which end it is

commit_ends : (b : ℕ) (rec : LogRecord) → IsCommitOf b rec → effect_of rec ≡ Ended b
commit_ends b Begin is = absurd is
commit_ends b (Set txn prev page bsi slot before after) is = absurd is
commit_ends b (Append txn prev page bsi slot present len bytes) is = absurd is
commit_ends b (Commit txn prev) is = ap Ended is
commit_ends b (Abort txn prev) is = absurd is
commit_ends b (Restore txn prev next page bsi slot after) is = absurd is
commit_ends b (Cut txn prev next page bsi slot present len) is = absurd is
commit_ends b (MapUse page bsi place group) is = absurd is
commit_ends b (MapFree page bsi place group ident) is = absurd is

abort_ends : (b : ℕ) (rec : LogRecord) → IsAbortOf b rec → effect_of rec ≡ Ended b
abort_ends b Begin is = absurd is
abort_ends b (Set txn prev page bsi slot before after) is = absurd is
abort_ends b (Append txn prev page bsi slot present len bytes) is = absurd is
abort_ends b (Commit txn prev) is = absurd is
abort_ends b (Abort txn prev) is = ap Ended is
abort_ends b (Restore txn prev next page bsi slot after) is = absurd is
abort_ends b (Cut txn prev next page bsi slot present len) is = absurd is
abort_ends b (MapUse page bsi place group) is = absurd is
abort_ends b (MapFree page bsi place group ident) is = absurd is

pub committed_survives : CommittedSurvives
committed_survives dirty h p m t rec s busy is rule fits = sealed_survives dirty h p m t rec s busy (commit_ends (s.recoverable.begun t.node.0 t.seat) rec is) rule fits

pub aborted_survives : AbortedSurvives
aborted_survives dirty h p m t rec s busy nothing is rule fits = (
  sealed_survives dirty h p m t rec s busy (abort_ends (s.recoverable.begun t.node.0 t.seat) rec is) rule fits,
  λ key. seen_nothing t t m key (m.records key) (none_written m t key nothing),
)
