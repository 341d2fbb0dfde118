-- Steps that log nothing: what a stop takes back stays what it was.
use Rattle.std.proofs.Common.{◌≡◌, ◌≢◌, ◌⊎◌, inl, inr, ◌+◌, ◌-◌, ◌≤◌, ℕ, Bool, true, false, not, List, [], length, drop, refl, ap, sym, subst, ◌∙◌, arith, Option, Some, None, count_by, take}
use Rattle.std.specs.FinMap as finite
use Rattle.std.specs.List.{list_any}
use Rattle.std.proofs.lemmas.List.{drop_all}
use Rattle.std.proofs.lemmas.Bool.{cases_eq}
use Rattle.sd_base.specs.declared.names.Key.{Key}
use Rattle.sd_base.specs.declared.names.TxnId.{TxnId}
use Rattle.record_locks.specs.declared.mode.Mode.{Mode}
use Rattle.record_locks.specs.declared.mode.Mode.TheVariants as locks
use Rattle.record_locks.specs.Held.{Held, mode_of, raised, taken, without_txn}
use Rattle.record_locks.specs.Order.{Lock, lock, lock_cmp, same_txn}
use Rattle.record_locks.proofs.HeldLaws.{get-taken}
use Rattle.space_map.specs.PageImage.{PageImage}
use Rattle.recovery_theory.specs.Effect.{Transaction}
use Rattle.recovery_theory.specs.History.{History, image_now}
use Rattle.recovery_theory.specs.Steps.{IsPlaceToCut, forced, on_disk, set_at, started}
use Rattle.recovery_theory.proofs.Cuts.{set_at-other, set_at-same}
use Rattle.record_machine.specs.CutParts.{ForcedSurvives, FormattedSurvives, LockedSurvives, StartedSurvives, SureSurvives, UnlockedSurvives, WrittenSurvives}
use Rattle.record_machine.specs.Cuts.{MayStop, TakesBackTo, TellsLog, behind_cut, deeds_at, seat_of, touches}
use Rattle.record_machine.specs.Machine.{formatted, Deed, Idle, LooseChange, Machine, NodeMode, Up, put, writes_page}
use Rattle.record_machine.specs.Meaning.{born, has_written, writes_key}
use Rattle.record_machine.specs.Parts as part
use Rattle.record_machine.specs.Parts.{one}
use Rattle.record_machine.specs.Stops.{entries_before, ident_before, pending_before, tail_before}
use Rattle.record_machine.proofs.CutSteps.{told_still}
use Rattle.record_machine.proofs.FormattedLaws.{means_formatted}
use Rattle.record_machine.proofs.LockSteps.{means_started}
use Rattle.record_machine.proofs.Put.{at_or_off, put_other, put_same}
use Rattle.record_machine.proofs.RecoverableFormats.{formatted_recoverable}
use Rattle.record_machine.proofs.RecoverableLocks.{but, keeps_write, locked_now, still, unlocked_begun, unlocked_now}
use Rattle.record_machine.proofs.RecoverablePages.{forced_begun, forced_recoverable, started_begun, started_recoverable, written_begun, written_recoverable}
use Rattle.record_machine.proofs.RestSteps.{means_rest}
use Rattle.record_machine.proofs.SealSteps.{same_or_not}
use Rattle.record_machine.proofs.StopSteps.{lock_was}
use Rattle.record_machine.proofs.StopPages.{nothing_behind}
use Rattle.record_machine.proofs.Steps.{means_locked, means_unlocked}
use Rattle.record_machine.proofs.ToldNow.{entries_now, ident_now, told_now}

-- other holds, locks and the like
abbrev pub with_other : (ℕ → NodeMode) → Bool → Held → (ℕ → Option ℕ) → (ℕ → List LooseChange) → Machine → Machine
with_other mode reopening held hold loose m = record m { mode = mode; reopening = reopening; locks = held; hold = hold; loose = loose }

abbrev pub with_stable : (ℕ → Option PageImage) → (ℕ → ℕ) → (ℕ → ℕ → Option Transaction) → History → History
with_stable disk stable lock h = record h { devices = record h.devices { disk = disk }; stable = stable; lock = lock }

module _ (h : History) (m : Machine) (begun : ℕ → ℕ → ℕ) (disk : ℕ → Option PageImage) (stable : ℕ → ℕ) (lock : ℕ → ℕ → Option Transaction) (mode : ℕ → NodeMode) (reopening : Bool) (held : Held) (hold : ℕ → Option ℕ) (loose : ℕ → List LooseChange)
    (was : MayStop h m begun) (more : (j : ℕ) → h.stable j ≤ stable j)
    (behind : (j k : ℕ) → stable j ≤ k → k ≤ length (h.live j) → behind_cut (with_stable disk stable lock h) (with_other mode reopening held hold loose m) j k ≡ behind_cut h m j k)
    (enough : (j : ℕ) → length (h.live j) ≤ stable j + length (loose j))
    (kept : (j k seat : ℕ) (key : Key) → IsPlaceToCut h j k → list_any (writes_key seat key.0) (deeds_at h m j k) ≡ true → mode_of m.locks key (seat_of j seat) ≡ Some locks.Write → mode_of held key (seat_of j seat) ≡ Some locks.Write)
    (resting : (j : ℕ) → mode j ≡ Idle → loose j ≡ []) (owners : (key : Key) (t : TxnId) (how : Mode) → mode_of held key t ≡ Some how → mode t.node.0 ≢ Idle) (nodes : (j : ℕ) → mode j ≢ Idle → (1 ≤ j) × (j ≤ m.shape.nodes)) where
  abbrev h' : History
  h' = with_stable disk stable lock h

  abbrev m' : Machine
  m' = with_other mode reopening held hold loose m

  back : (j k : ℕ) → IsPlaceToCut h' j k → TakesBackTo h' m' begun j k
  back j k at = record {
    log = told_still m m' begun begun j (h.devices.first j) (take k (h.live j)) (deeds_at h' m' j k) (subst (TellsLog m begun j (h.devices.first j) (take k (h.live j))) (sym deeds) b.log)
        (λ seat key any. refl) (λ key x e. e) (λ seat key x any e. e) (λ seat key any e. kept j k seat key place (ap (list_any (writes_key seat key.0)) (sym deeds) ∙ any) e) (λ seat any e. e) (λ seat any. refl);
    tail = ap (λ l. tail_before j l m.tail j) same ∙ b.tail;
    ident = λ x lt g. ap (λ l. ident_before l m.ident x) same ∙ b.ident x lt g;
    entries = λ x map lt g e. ap (λ l. entries_before l m.entries x) same ∙ b.entries x map lt g e;
    others = λ x how. ap (list_any (touches x)) same ∙ b.others x how;
    writes = λ x. (let one = ap (λ (ds : List Deed). count_by (writes_page x) ds) deeds in let old = b.writes x in omega (arith, one, old));
  }
    where
      place : IsPlaceToCut h j k
      place = record { low = (let low = at.low in omega (arith, low, more j)); high = at.high }

      b : TakesBackTo h m begun j k
      b = was.back j k place

      same : behind_cut h' m' j k ≡ behind_cut h m j k
      same = behind j k at.low at.high

      deeds : deeds_at h' m' j k ≡ deeds_at h m j k
      deeds = ap (λ l. pending_before j l m.pending j) same

  pub still_stops : MayStop h' m' begun
  still_stops = record {
    enough = enough;
    back = back;
    used = λ x k at used. was.used x k (record { low = (let low = at.low in omega (arith, low, more (h.guard x))); high = at.high }) used;
    resting = resting;
    owners = owners;
    nodes = nodes;
  }

-- ---- the steps

pub forced_survives : ForcedSurvives
forced_survives dirty h p m n k s low high = record {
  recoverable = forced_recoverable dirty h p m n k s.recoverable low high;
  means = s.means;
  stops = subst (MayStop (forced h n k) m) (sym (forced_begun dirty h p m n k s.recoverable low high)) (still_stops h m s.recoverable.begun h.devices.disk (set_at n k h.stable) h.lock m.mode m.reopening m.locks m.hold m.loose s.stops more (λ j c le lt. refl)
      (λ j. let old = s.stops.enough j in let up = more j in omega (arith, old, up)) (λ j k seat key at any e. e) s.stops.resting s.stops.owners s.stops.nodes);
}
  where
    more : (j : ℕ) → h.stable j ≤ set_at n k h.stable j
    more = Rattle.recovery_theory.proofs.Cuts.at_or_off (λ j. h.stable j ≤ set_at n k h.stable j) n (rw (set_at-same n k h.stable) low) (λ j d. rw (set_at-other n k h.stable j d) (omega arith))

pub written_survives : WrittenSurvives
written_survives dirty h p m x s sure = record {
  recoverable = written_recoverable dirty h p m x s.recoverable sure;
  means = s.means;
  stops = subst (MayStop (on_disk h x (Some (image_now h x))) m) (sym (written_begun dirty h p m x s.recoverable sure))
      (still_stops h m s.recoverable.begun (set_at x (Some (image_now h x)) h.devices.disk) h.stable h.lock m.mode m.reopening m.locks m.hold m.loose s.stops (λ j. omega arith) (λ j c le lt. refl) s.stops.enough (λ j k seat key at any e. e) s.stops.resting s.stops.owners s.stops.nodes);
}

-- nothing is loose any more where the log is stable
pub sure_survives : SureSurvives
sure_survives dirty h p m n s sure = record {
  recoverable = record {
    holds = s.recoverable.holds;
    roomy = s.recoverable.roomy;
    rolled = s.recoverable.rolled;
    shape = s.recoverable.shape;
    first = s.recoverable.first;
    live = s.recoverable.live;
    maps = s.recoverable.maps;
    pages = s.recoverable.pages;
    guard = s.recoverable.guard;
    stored = s.recoverable.stored;
    begun = s.recoverable.begun;
    seats = λ t busy. (let z = s.recoverable.seats t busy in record { left = z.left; going = z.going; begins = z.begins; writes = z.writes });
    opens = λ k txn us e. (let z = s.recoverable.opens k txn us e in record { who = z.who; node = z.node; busy = z.busy; begins = z.begins });
    below = s.recoverable.below;
    apart = s.recoverable.apart;
    locked = s.recoverable.locked;
    locker = s.recoverable.locker;
    idle = s.recoverable.idle;
    holder = s.recoverable.holder;
  };
  means = means_rest p m m.mode m.reopening m.hold m.first (put n [] m.loose) m.gone s.means;
  stops = still_stops h m s.recoverable.begun h.devices.disk h.stable h.lock m.mode m.reopening m.locks m.hold (put n [] m.loose) s.stops (λ j. omega arith) (λ j k low high. behind j k low high (cases_eq j n))
      (λ j. enough j (cases_eq j n)) (λ j k seat key at any e. e) (λ j rest. at_or_off (λ l. l ≡ []) n [] m.loose j (λ e. refl) (λ d. s.stops.resting j rest)) s.stops.owners s.stops.nodes;
}
  where
    behind : (j k : ℕ) → h.stable j ≤ k → k ≤ length (h.live j) → (j ≡ n) ⊎ (j ≢ n) → behind_cut h (record m { loose = put n [] m.loose }) j k ≡ behind_cut h m j k
    behind j k low high (inr d) = ap (λ (l : List LooseChange). drop (length l - (length (h.live j) - k)) l) (put_other n [] m.loose j d)
    behind j k low high (inl e) =
        let whole : h.stable j ≡ length (h.live j) = subst (λ i. h.stable i ≡ length (h.live i)) (sym e) sure in
        let is : k ≡ length (h.live j) = omega (arith, low, high, whole) in
        ap (λ (l : List LooseChange). drop (length l - (length (h.live j) - k)) l) (put_same n [] m.loose j e) ∙ (drop_all (0 - (length (h.live j) - k)) [] (omega arith) ∙ sym (ap (behind_cut h m j) is ∙ nothing_behind h m j))

    enough : (j : ℕ) → (j ≡ n) ⊎ (j ≢ n) → length (h.live j) ≤ h.stable j + length (put n [] m.loose j)
    enough j (inr d) = rw (put_other n [] m.loose j d) (s.stops.enough j)
    enough j (inl e) = let whole : h.stable j ≡ length (h.live j) = subst (λ i. h.stable i ≡ length (h.live i)) (sym e) sure in omega (arith, whole)

pub started_survives : StartedSurvives
started_survives dirty h p m n s rest low high = record {
  recoverable = started_recoverable dirty h p m n s.recoverable rest;
  means = means_started p m n s.means;
  stops = subst (MayStop h (one (part.Start n) m)) (sym (started_begun dirty h p m n s.recoverable rest)) (still_stops h m s.recoverable.begun h.devices.disk h.stable h.lock (put n Up m.mode) m.reopening m.locks m.hold (put n [] m.loose) s.stops (λ j. omega arith)
      (λ j k low high. ap (λ (l : List LooseChange). drop (length l - (length (h.live j) - k)) l) (same j (cases_eq j n)))
      (λ j. rw (same j (cases_eq j n)) (s.stops.enough j)) (λ j k seat key at any e. e) (λ j still. at_or_off (λ l. l ≡ []) n [] m.loose j (λ e. refl) (λ d. s.stops.resting j (sym (put_other n Up m.mode j d) ∙ still)))
      (λ key t how had still. s.stops.owners key t how had (at_or_off (λ mode. mode ≡ Idle → m.mode t.node.0 ≡ Idle) n Up m.mode t.node.0 (λ e is. absurd cc) (λ d is. is) still)) (λ j used. inside j used (cases_eq j n)));
}
  where
    inside : (j : ℕ) → put n Up m.mode j ≢ Idle → (j ≡ n) ⊎ (j ≢ n) → (1 ≤ j) × (j ≤ m.shape.nodes)
    inside j used (inl e) = (omega (arith, low, e), omega (arith, high, e))
    inside j used (inr d) = s.stops.nodes j (λ is. used (put_other n Up m.mode j d ∙ is))

    same : (j : ℕ) → (j ≡ n) ⊎ (j ≢ n) → put n [] m.loose j ≡ m.loose j
    same j (inl e) = put_same n [] m.loose j e ∙ sym (s.stops.resting j (ap m.mode e ∙ rest))
    same j (inr d) = put_other n [] m.loose j d

pub locked_survives : LockedSurvives
locked_survives dirty h p m key t mode s busy free =
    let l = locked_now dirty h p m key t mode s.recoverable s.means busy free in (
      l.0,
      record {
        recoverable = l.1;
        means = means_locked p m key t mode free s.means;
        stops = subst (MayStop (with_stable h.devices.disk h.stable l.0 h) (one (part.Lock key t mode) m)) (sym l.2)
            (still_stops h m s.recoverable.begun h.devices.disk h.stable l.0 m.mode m.reopening (taken m.locks key t mode) m.hold m.loose s.stops (λ j. omega arith) (λ j c le lt. refl) s.stops.enough
            (λ j k seat other at any e. keeps_write dirty h p m key t mode s.recoverable s.means busy free (seat_of j seat) other e) s.stops.resting
            (λ other u how had rest. owned other u how had rest (get-taken m.locks key t mode (lock other u))) s.stops.nodes);
      },
    )
  where
    owned : (other : Key) (u : TxnId) (how : Mode) → mode_of (taken m.locks key t mode) other u ≡ Some how → m.mode u.node.0 ≡ Idle
        → ((lock other u ≡ lock key t) × (finite.get (taken m.locks key t mode) (lock other u) ≡ Some (raised (mode_of m.locks key t) mode))) ⊎ (finite.get (taken m.locks key t mode) (lock other u) ≡ finite.get m.locks (lock other u)) → ⊥
    owned other u how had rest (inl z) = s.recoverable.idle t (ap (λ (l : Lock). m.mode l.txn.node.0) (sym z.0) ∙ rest) (inl busy)
    owned other u how had rest (inr z) = s.stops.owners other u how (sym z ∙ had) rest

-- Where nothing of a node is loose, its log is stable, and the deeds at its one cut are those of the machine.
pub nothing_loose : (h : History) (m : Machine) (begun : ℕ → ℕ → ℕ) (n k : ℕ) → MayStop h m begun → m.loose n ≡ [] → IsPlaceToCut h n k → deeds_at h m n k ≡ m.pending n
nothing_loose h m begun n k was none at = ap (λ l. pending_before n l m.pending n) (ap (λ (l : List LooseChange). drop (length l - (length (h.live n) - k)) l) none ∙ drop_all (0 - (length (h.live n) - k)) [] (omega arith))

pub unlocked_survives : UnlockedSurvives
unlocked_survives dirty h p m t s closed alone none nothing = (
  (λ x k. but dirty h p m t s.recoverable closed alone (h.lock x k)),
  record {
    recoverable = unlocked_now dirty h p m t s.recoverable closed alone;
    means = means_unlocked p m t nothing s.means;
    stops = subst (MayStop (with_stable h.devices.disk h.stable (λ x k. but dirty h p m t s.recoverable closed alone (h.lock x k)) h) (one (part.Unlock t) m)) (sym (unlocked_begun dirty h p m t s.recoverable closed alone))
        (still_stops h m s.recoverable.begun h.devices.disk h.stable (λ x k. but dirty h p m t s.recoverable closed alone (h.lock x k)) m.mode m.reopening (without_txn t m.locks) m.hold m.loose s.stops (λ j. omega arith) (λ j c le lt. refl) s.stops.enough
        (λ j k seat key at any e. kept j k seat key at any e (same_or_not t (seat_of j seat))) s.stops.resting
        (λ key u how had. s.stops.owners key u how (lock_was (λ l mode. not (same_txn l.txn t)) m.locks key u how had)) s.stops.nodes);
  },
)
  where
    kept : (j k seat : ℕ) (key : Key) → IsPlaceToCut h j k → list_any (writes_key seat key.0) (deeds_at h m j k) ≡ true → mode_of m.locks key (seat_of j seat) ≡ Some locks.Write → (seat_of j seat ≡ t) ⊎ (seat_of j seat ≢ t) → mode_of (without_txn t m.locks) key (seat_of j seat) ≡ Some locks.Write
    kept j k seat key at any e (inr d) = still dirty h p m t s.recoverable closed alone (seat_of j seat) key d ∙ e
    kept j k seat key at any e (inl same) =
        let node : j ≡ t.node.0 = ap (λ (u : TxnId). u.node.0) same in
        let all : deeds_at h m j k ≡ m.pending j = nothing_loose h m s.recoverable.begun j k s.stops (ap m.loose node ∙ none) at in
        let written : has_written m (seat_of j seat) key.0 ≡ true = ap (list_any (writes_key seat key.0)) (sym all) ∙ any in
        let never : true ≡ false = sym written ∙ (ap (λ u. has_written m u key.0) same ∙ nothing key.0) in
        absurd cc

-- ---- a store as it is formatted

pub formatted_survives : FormattedSurvives
formatted_survives s legal = record {
  recoverable = formatted_recoverable s;
  means = means_formatted s legal;
  stops = record {
    enough = λ n. omega arith;
    back = λ n cut at. (let high = at.high in let zero_is : 0 ≡ cut = omega (arith, high) in subst (TakesBackTo (started s) (formatted s) (formatted_recoverable s).begun n) zero_is (record {
      log = told_now (λ x. false) (started s) (born s) (formatted s) (formatted_recoverable s) (means_formatted s legal) (λ j seat key any. absurd cc) n;
      tail = refl;
      ident = λ x lt g. ident_now (λ x. false) (started s) (born s) (formatted s) (formatted_recoverable s) (means_formatted s legal) x lt;
      entries = λ x map lt g e. entries_now (λ x. false) (started s) (born s) (formatted s) (formatted_recoverable s) (means_formatted s legal) x map lt e;
      others = λ x how. refl;
      writes = λ x. omega arith;
    }));
    used = λ x cut at used. refl;
    resting = λ n rest. refl;
    owners = λ key t mode had. (let never : None ≡ Some mode = sym (finite.get-empty lock_cmp (lock key t)) ∙ had in absurd cc);
    nodes = λ n used. absurd (used refl);
  };
}
