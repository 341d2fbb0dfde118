-- A store survives the steps that recover a node.
use Rattle.std.proofs.Common.{◌≡◌, ◌≢◌, ◌⊎◌, inl, inr, ◌==◌, ◌&&◌, ◌≤◌, ℕ, Bool, true, false, not, cond, eqb, if◌then◌else◌, List, [], take, refl, ap, sym, ◌∙◌, arith, Option, Some, None, eq-eqb, ne_eqb}
use Rattle.std.specs.FinMap as finite
use Rattle.std.specs.List.{list_any}
use Rattle.std.proofs.lemmas.Bool.{and_parts, cases_eq}
use Rattle.sd_base.specs.declared.names.Key.{Key}
use Rattle.sd_base.specs.declared.names.TxnId.{TxnId}
use Rattle.sd_base.specs.Places.{slot_of_key}
use Rattle.space_map.specs.PageImage.{PageImage}
use Rattle.record_locks.specs.declared.mode.Mode.{Mode}
use Rattle.record_locks.specs.declared.mode.Mode.TheVariants as locks
use Rattle.record_locks.specs.Held.{Held, mode_of, passing, without_node}
use Rattle.record_locks.specs.Order.{Lock, lock, lock_cmp}
use Rattle.record_locks.proofs.CompatibleLaws.{IsCompatible-locks_where}
use Rattle.record_locks.proofs.HeldLaws.{get-locks_where}
use Rattle.record_locks.proofs.OrderLaws.{lock_cmp_antisymmetric, lock_cmp_total}
use Rattle.recovery_theory.specs.Effect.{OpenUpdate, Transaction, left_of, listed, of_slot, open_updates}
use Rattle.recovery_theory.specs.History.{History, IsCut, logs_at}
use Rattle.recovery_theory.specs.Redo.{ArePartlyRedone, with_disk}
use Rattle.recovery_theory.specs.Steps.{IsPlaceToCut, with_locks}
use Rattle.recovery_theory.proofs.KeptRecords.{locks_keep, redo_keeps}
use Rattle.recovery_theory.proofs.OpenUpdates.{list_cases}
use Rattle.record_machine.specs.Cuts.{Survives, SurvivesAs, deeds_at, seat_of}
use Rattle.record_machine.specs.Machine.{Down, Idle, Machine, NodeMode, Redone, Up, awaits_recovery, is_begin_in, is_busy, put}
use Rattle.record_machine.specs.Meaning.{Plain, has_written, writes_key}
use Rattle.record_machine.specs.Recoverable.{IsKeptBy, IsKnown, IsStored}
use Rattle.record_machine.specs.RecoveryParts.{FreedSurvives, GivenUpSurvives, RecoveredSurvives, RedoBreaksOff, RedoneSurvives}
use Rattle.record_machine.specs.RecoverySteps.{freed, holding_none, redone, released}
use Rattle.record_machine.specs.Stops.{any_awaits, recovered}
use Rattle.record_machine.proofs.LockSteps.{logs_still, pages_still}
use Rattle.record_machine.proofs.Put.{at_or_off, put_other}
use Rattle.record_machine.proofs.RestSteps.{logs_rest, means_rest, pages_rest}
use Rattle.record_machine.proofs.StillStops.{nothing_loose, still_stops}
use Rattle.record_machine.proofs.StopSteps.{nothing_left}
use Rattle.record_machine.proofs.StopTables.{any_from, fewer_held}

-- ---- redo

module _ (dirty dirty' : ℕ → Bool) (h : History) (p : Plain) (m : Machine) (n : ℕ) (disk : ℕ → Option PageImage) (s : Survives dirty h p m) (redo : ArePartlyRedone h n disk)
    (stored : (x : ℕ) → dirty' x ≡ false → IsStored (with_disk h disk) x) (mode : ℕ → NodeMode) (hold : ℕ → Option ℕ)
    (ups : (j : ℕ) → mode j ≡ Up → m.mode j ≡ Up) (rests : (j : ℕ) → mode j ≡ Idle → m.mode j ≡ Idle) (fewer : (x k : ℕ) → hold x ≡ Some k → m.hold x ≡ Some k) (inside : (j : ℕ) → mode j ≢ Idle → (1 ≤ j) × (j ≤ m.shape.nodes))
    (keeps : (x : ℕ) → dirty' x ≡ true → IsKeptBy (record m { mode = mode; hold = hold }) x (h.guard x)) where
  pub with_pages : Survives dirty' (with_disk h disk) p (record m { mode = mode; hold = hold })
  with_pages = record {
    recoverable = record {
      holds = redo_keeps h n disk m.records s.recoverable.holds redo;
      roomy = record {
        whole = record { ruled = s.recoverable.roomy.whole.ruled; fits = λ j. (let f = s.recoverable.roomy.whole.fits j in record { room = f.room; last = f.last }) };
        loose = s.recoverable.roomy.loose;
      };
      rolled = record { others = s.recoverable.rolled.others; own = s.recoverable.rolled.own };
      shape = s.recoverable.shape;
      first = s.recoverable.first;
      live = s.recoverable.live;
      maps = s.recoverable.maps;
      pages = s.recoverable.pages;
      guard = λ y k e. s.recoverable.guard y k (fewer y k e);
      stored = stored;
      begun = s.recoverable.begun;
      seats = λ t busy. (let z = s.recoverable.seats t busy in record { left = z.left; going = z.going; begins = z.begins; writes = z.writes });
      opens = λ k txn us e. (let z = s.recoverable.opens k txn us e in record { who = z.who; node = z.node; busy = z.busy; begins = z.begins });
      below = λ t up k. s.recoverable.below t (ups t.node.0 up) k;
      apart = s.recoverable.apart;
      locked = s.recoverable.locked;
      locker = s.recoverable.locker;
      idle = λ t rest k. s.recoverable.idle t (rests t.node.0 rest) k;
      holder = keeps;
    };
    means = means_rest p m mode m.reopening hold m.first m.loose m.gone s.means;
    stops = still_stops h m s.recoverable.begun disk h.stable h.lock mode m.reopening m.locks hold m.loose s.stops (λ j. omega arith) (λ j c le lt. refl) s.stops.enough (λ j k seat key at any e. e) (λ j rest. s.stops.resting j (rests j rest))
        (λ key t how had rest. s.stops.owners key t how had (rests t.node.0 rest)) inside;
  }

-- what is still held once a node holds nothing was held
fewer_left : (n : ℕ) (hold : ℕ → Option ℕ) (x k : ℕ) → released n hold x ≡ Some k → hold x ≡ Some k
fewer_left n hold x k e = of_hold (hold x) refl
  where
    of_hold : (o : Option ℕ) → hold x ≡ o → hold x ≡ Some k
    of_hold None q = let never : None ≡ Some k = rw q at e in absurd cc
    of_hold (Some i) q = q ∙ go (i == n) (rw q at e)
      where
        go : (b : Bool) → (if b then None else Some i) ≡ Some k → Some i ≡ Some k
        go true z = absurd cc
        go false z = z

-- and what another node held it holds
still_held : (n : ℕ) (hold : ℕ → Option ℕ) (x k : ℕ) → k ≢ n → hold x ≡ Some k → released n hold x ≡ Some k
still_held n hold x k d e = rw e (rw (ne_eqb k n d) refl)

pub redo_breaks_off : RedoBreaksOff
redo_breaks_off dirty dirty' h p m n disk s redo stored fewer = with_pages dirty dirty' h p m n disk s redo stored m.mode m.hold (λ j e. e) (λ j e. e) (λ x k e. e) s.stops.nodes (λ x e. s.recoverable.holder x (fewer x e))

pub redone_survives : RedoneSurvives
redone_survives dirty dirty' h p m n disk s working redo stored others = with_pages dirty dirty' h p m n disk s redo stored (put n Redone m.mode) (released n m.hold)
    (not_it Up (λ e. cc)) (not_it Idle (λ e. cc)) (fewer_left n m.hold) (λ j used. inside j used (cases_eq j n))
    (λ x e. let z = others x e in keeps (h.guard x) z.1 (s.recoverable.holder x z.0))
  where
    keeps : {x : ℕ} (g : ℕ) → g ≢ n → IsKeptBy m x g → IsKeptBy (redone n m) x g
    keeps {x} g d (inl z) = inl (still_held n m.hold x g d z.0, λ rest. z.1 (sym (put_other n Redone m.mode g d) ∙ rest))
    keeps {x} g d (inr z) = inr (z.0, put_other n Redone m.mode g d ∙ z.1)

    inside : (j : ℕ) → put n Redone m.mode j ≢ Idle → (j ≡ n) ⊎ (j ≢ n) → (1 ≤ j) × (j ≤ m.shape.nodes)
    inside j used (inl e) = s.stops.nodes j (λ rest. working (ap m.mode (sym e) ∙ rest))
    inside j used (inr d) = s.stops.nodes j (λ rest. used (put_other n Redone m.mode j d ∙ rest))

    not_it : (mode : NodeMode) → Redone ≢ mode → (j : ℕ) → put n Redone m.mode j ≡ mode → m.mode j ≡ mode
    not_it mode other j = at_or_off (λ k. k ≡ mode → m.mode j ≡ mode) n Redone m.mode j (λ e is. absurd (other is)) (λ e is. is)

-- a node gives up what it holds
pub given_up_survives : GivenUpSurvives
given_up_survives dirty h p m u s others = fewer_held dirty h p m m.mode m.reopening (released u m.hold) (λ j e. e) (λ j e. e) (fewer_left u m.hold) s.stops.nodes
    (λ x e. keeps (h.guard x) (others x e) (s.recoverable.holder x e)) s
  where
    keeps : {x : ℕ} (g : ℕ) → g ≢ u → IsKeptBy m x g → IsKeptBy (holding_none u m) x g
    keeps {x} g d (inl z) = inl (still_held u m.hold x g d z.0, z.1)
    keeps {x} g d (inr z) = inr z

-- ---- nothing is left of a node

-- its locks go
own_gone : (m : Held) (u : ℕ) (key : Key) (t : TxnId) → t.node.0 ≡ u → mode_of (without_node (record { 0 = u }) m) key t ≡ None
own_gone m u key t e = get-locks_where (λ l mode. not (l.txn.node.0 == u)) m (lock key t) ∙ by (mode_of m key t)
  where
    by : (o : Option Mode) → passing (λ l mode. not (l.txn.node.0 == u)) (lock key t) o ≡ None
    by None = refl
    by (Some mode) = rw (eq-eqb t.node.0 u e) refl

module _ (dirty : ℕ → Bool) (h : History) (p : Plain) (m : Machine) (u w : ℕ) (s : Survives dirty h p m) (working : m.mode u ≢ Idle) (none : m.pending u ≡ []) (sure : m.loose u ≡ []) (others : (x : ℕ) → dirty x ≡ true → h.guard x ≢ u) where
  -- none of its transactions is open
  not_busy : (t : TxnId) → t.node.0 ≡ u → is_busy m t ≡ true → ⊥
  not_busy t node b = let never : false ≡ true = sym (ap (list_any (is_begin_in t.seat)) (ap m.pending node ∙ none)) ∙ b in cc

  -- so nothing is left of them wherever its log is cut
  all_taken : (cut : ℕ → ℕ) → IsCut h cut → (o : Transaction) → o.node ≡ u → open_updates h.devices.first (logs_at h cut) o ≡ []
  all_taken cut is o node = go (left_of o.txn (h.devices.first o.node) (take (cut o.node) (h.live o.node)) None) refl
    where
      at : IsPlaceToCut h o.node (cut o.node)
      at = record { low = (is o.node).0; high = (is o.node).1 }

      go : (l : Option (List OpenUpdate)) → left_of o.txn (h.devices.first o.node) (take (cut o.node) (h.live o.node)) None ≡ l → listed l ≡ []
      go None e = refl
      go (Some left) e =
          let tells = (s.stops.back o.node (cut o.node) at).log in
          let z = tells.opens o.txn left e in
          absurd (not_busy (seat_of o.node z.0) node (tells.still z.0 z.1))

  abbrev held : Held
  held = without_node (record { 0 = u }) m.locks

  -- the locks of the other nodes
  abbrev pub but : Option Transaction → Option Transaction
  but None = None
  but (Some o) = cond (eqb o.node u) None (Some o)

  but_other : (o : Transaction) → o.node ≢ u → but (Some o) ≡ Some o
  but_other o d = rw (ne_eqb o.node u d) refl

  was : (l : Option Transaction) (o : Transaction) → but l ≡ Some o → (l ≡ Some o) × (o.node ≢ u)
  was None o e = absurd cc
  was (Some k) o e = go (cases_eq k.node u)
    where
      go : (k.node ≡ u) ⊎ (k.node ≢ u) → (Some k ≡ Some o) × (o.node ≢ u)
      go (inl q) = let never : None ≡ Some o = rw (eq-eqb k.node u q) at e in absurd cc
      go (inr d) = let same : Some k ≡ Some o = rw (ne_eqb k.node u d) at e in (same, λ q. d (let one : k ≡ o = cc in ap (λ (i : Transaction). i.node) one ∙ q))

  kept : (t : TxnId) (key : Key) → t.node.0 ≢ u → mode_of held key t ≡ mode_of m.locks key t
  kept t key d = get-locks_where (λ l mode. not (l.txn.node.0 == u)) m.locks (lock key t) ∙ by (mode_of m.locks key t)
    where
      by : (o : Option Mode) → passing (λ l mode. not (l.txn.node.0 == u)) (lock key t) o ≡ o
      by None = refl
      by (Some mode) = rw (ne_eqb t.node.0 u d) refl

  had : (t : TxnId) (key : Key) → mode_of held key t ≡ Some locks.Write → (t.node.0 ≢ u) × (mode_of m.locks key t ≡ Some locks.Write)
  had t key has = go (cases_eq t.node.0 u)
    where
      go : (t.node.0 ≡ u) ⊎ (t.node.0 ≢ u) → (t.node.0 ≢ u) × (mode_of m.locks key t ≡ Some locks.Write)
      go (inr d) = (d, sym (kept t key d) ∙ has)
      go (inl e) =
          let never : None ≡ Some locks.Write = sym (own_gone m.locks u key t e) ∙ has in
          absurd cc

  known : (t : TxnId) → IsKnown (freed u w m) t → (t.node.0 ≢ u) × IsKnown m t
  known t (inl b) = (λ e. not_busy t e b, inl b)
  known t (inr (key, has)) = let z = had t key has in (z.0, inr (key, z.1))

  abbrev pub lock' : ℕ → ℕ → Option Transaction
  lock' x k = but (h.lock x k)

  quiet : (x k : ℕ) (l : Option Transaction) → h.lock x k ≡ l → (but (h.lock x k) ≡ h.lock x k) ⊎ ((cut : ℕ → ℕ) → IsCut h cut → (o : Transaction) → of_slot x k (open_updates h.devices.first (logs_at h cut) o) ≡ [])
  quiet x k None e = inl (ap but e ∙ sym e)
  quiet x k (Some i) e = go (cases_eq i.node u)
    where
      go : (i.node ≡ u) ⊎ (i.node ≢ u) → (but (h.lock x k) ≡ h.lock x k) ⊎ ((cut : ℕ → ℕ) → IsCut h cut → (o : Transaction) → of_slot x k (open_updates h.devices.first (logs_at h cut) o) ≡ [])
      go (inr d) = inl (ap but e ∙ (but_other i d ∙ sym e))
      go (inl q) = inr (λ cut is o. by cut is o (list_cases (of_slot x k (open_updates h.devices.first (logs_at h cut) o))))
        where
          by : (cut : ℕ → ℕ) → IsCut h cut → (o : Transaction) → (of_slot x k (open_updates h.devices.first (logs_at h cut) o) ≡ []) ⊎ (of_slot x k (open_updates h.devices.first (logs_at h cut) o) ≢ []) → of_slot x k (open_updates h.devices.first (logs_at h cut) o) ≡ []
          by cut is o (inl z) = z
          by cut is o (inr z) =
              let some = (s.recoverable.holds.history.stands cut is).locks x k o z in
              let one : Some i ≡ Some o = sym e ∙ some in
              let same : i ≡ o = cc in
              ap (of_slot x k) (all_taken cut is o (ap (λ (j : Transaction). j.node) (sym same) ∙ q))

  modes : (t : TxnId) (mode : NodeMode) → t.node.0 ≢ u → put u (if u == w then Up else Idle) m.mode t.node.0 ≡ mode → m.mode t.node.0 ≡ mode
  modes t mode d e = sym (put_other u (if u == w then Up else Idle) m.mode t.node.0 d) ∙ e

  pub freed_here : Survives dirty (with_locks h lock') p (freed u w m)
  freed_here = record {
    recoverable = record {
      holds = locks_keep h lock' m.records s.recoverable.holds (λ x k. quiet x k (h.lock x k) refl);
      roomy = record { whole = s.recoverable.roomy.whole; loose = s.recoverable.roomy.loose };
      rolled = record { others = s.recoverable.rolled.others; own = s.recoverable.rolled.own };
      shape = s.recoverable.shape;
      first = s.recoverable.first;
      live = s.recoverable.live;
      maps = s.recoverable.maps;
      pages = s.recoverable.pages;
      guard = s.recoverable.guard;
      stored = λ x e. (let z = s.recoverable.stored x e in record { sure = z.sure; clean = z.clean });
      begun = s.recoverable.begun;
      seats = λ t busy. (let z = s.recoverable.seats t busy in record { left = z.left; going = z.going; begins = z.begins; writes = z.writes });
      opens = λ k txn us e. (let z = s.recoverable.opens k txn us e in record { who = z.who; node = z.node; busy = z.busy; begins = z.begins });
      below = λ t up k. (let z = known t k in s.recoverable.below t (modes t Up z.0 up) z.1);
      apart = λ a b x y. s.recoverable.apart a b (known a x).1 (known b y).1;
      locked = λ t key x is mode. (let z = had t key mode in ap but (s.recoverable.locked t key x is z.1) ∙ but_other (record { node = t.node.0; txn = s.recoverable.begun t.node.0 t.seat }) z.0);
      locker = λ o key x is e. (
          let z = was (h.lock x (slot_of_key key.0)) o e in
          let l = s.recoverable.locker o key x is z.0 in
          (l.0, kept l.0 key (λ q. z.1 (ap (λ (i : Transaction). i.node) l.2 ∙ q)) ∙ l.1, l.2));
      idle = λ t rest k. (let z = known t k in s.recoverable.idle t (modes t Idle z.0 rest) z.1);
      holder = λ x e. keeps (h.guard x) (others x e) (s.recoverable.holder x e);
    };
    means = record {
      pages = pages_rest p (record m { locks = held }) (put u (if u == w then Up else Idle) m.mode) m.reopening m.hold m.first m.loose m.gone (pages_still p m held s.means.pages);
      logs = logs_rest p (record m { locks = held }) (put u (if u == w then Up else Idle) m.mode) m.reopening m.hold m.first m.loose m.gone (logs_still p m held s.means.logs);
      locked = record {
        apart = IsCompatible-locks_where (λ l mode. not (l.txn.node.0 == u)) m.locks s.means.locked.apart;
        written = λ t key any. written t key any (cases_eq t.node.0 u);
      };
      tops = s.means.tops;
    };
    stops = still_stops h m s.recoverable.begun h.devices.disk h.stable lock' (put u (if u == w then Up else Idle) m.mode) m.reopening held m.hold m.loose s.stops (λ j. omega arith) (λ j c le lt. refl) s.stops.enough
        (λ j k seat key at any e. still j k seat key at any e (cases_eq j u)) (λ j rest. resting j rest (cases_eq j u))
        (λ key t how had rest. owners key t how had rest (cases_eq t.node.0 u)) (λ j used. inside j used (cases_eq j u));
  }
    where
      keeps : {x : ℕ} (g : ℕ) → g ≢ u → IsKeptBy m x g → IsKeptBy (freed u w m) x g
      keeps g d (inl z) = inl (z.0, λ rest. z.1 (sym (put_other u (if u == w then Up else Idle) m.mode g d) ∙ rest))
      keeps g d (inr z) = inr (z.0, put_other u (if u == w then Up else Idle) m.mode g d ∙ z.1)

      owners : (key : Key) (t : TxnId) (how : Mode) → mode_of held key t ≡ Some how → put u (if u == w then Up else Idle) m.mode t.node.0 ≡ Idle → (t.node.0 ≡ u) ⊎ (t.node.0 ≢ u) → ⊥
      owners key t how has rest (inl e) = let never : None ≡ Some how = sym (own_gone m.locks u key t e) ∙ has in absurd cc
      owners key t how has rest (inr d) = s.stops.owners key t how (sym (kept t key d) ∙ has) (modes t Idle d rest)

      inside : (j : ℕ) → put u (if u == w then Up else Idle) m.mode j ≢ Idle → (j ≡ u) ⊎ (j ≢ u) → (1 ≤ j) × (j ≤ m.shape.nodes)
      inside j used (inl e) = s.stops.nodes j (λ rest. working (ap m.mode (sym e) ∙ rest))
      inside j used (inr d) = s.stops.nodes j (λ rest. used (put_other u (if u == w then Up else Idle) m.mode j d ∙ rest))

      written : (t : TxnId) (key : Key) → has_written m t key.0 ≡ true → (t.node.0 ≡ u) ⊎ (t.node.0 ≢ u) → mode_of held key t ≡ Some locks.Write
      written t key any (inr d) = kept t key d ∙ s.means.locked.written t key any
      written t key any (inl e) = let never : false ≡ true = sym (ap (list_any (writes_key t.seat key.0)) (ap m.pending e ∙ none)) ∙ any in absurd cc

      still : (j k seat : ℕ) (key : Key) → IsPlaceToCut h j k → list_any (writes_key seat key.0) (deeds_at h m j k) ≡ true → mode_of m.locks key (seat_of j seat) ≡ Some locks.Write → (j ≡ u) ⊎ (j ≢ u) → mode_of held key (seat_of j seat) ≡ Some locks.Write
      still j k seat key at any e (inr d) = kept (seat_of j seat) key d ∙ e
      still j k seat key at any e (inl q) =
          let all : deeds_at h m j k ≡ [] = nothing_loose h m s.recoverable.begun j k s.stops (ap m.loose q ∙ sure) at ∙ (ap m.pending q ∙ none) in
          let never : false ≡ true = sym (ap (list_any (writes_key seat key.0)) all) ∙ any in
          absurd cc

      resting : (j : ℕ) → put u (if u == w then Up else Idle) m.mode j ≡ Idle → (j ≡ u) ⊎ (j ≢ u) → m.loose j ≡ []
      resting j rest (inl e) = ap m.loose e ∙ sure
      resting j rest (inr d) = s.stops.resting j (sym (put_other u (if u == w then Up else Idle) m.mode j d) ∙ rest)

pub freed_survives : FreedSurvives
freed_survives dirty h p m u w s working none sure others = (λ x k. but dirty h p m u w s working none sure others (h.lock x k), freed_here dirty h p m u w s working none sure others)

-- ---- the last one

module _ (held : Held) (dirty : ℕ → Bool) (h : History) (p : Plain) (m : Machine) (u w : ℕ) (s : SurvivesAs held dirty h p m) (working : m.mode u ≢ Idle) (none : m.pending u ≡ []) (sure : m.loose u ≡ []) (others : (x : ℕ) → dirty x ≡ true → h.guard x ≢ u) where
  abbrev as_if : Machine
  as_if = record m { locks = held }

  -- whoever still has a lock is of a node that awaits recovery
  nobody : m.reopening ≡ true → any_awaits (freed u w m) ≡ false → (key : Key) (t : TxnId) (o : Option Mode) → mode_of held key t ≡ o → t.node.0 ≢ u → o ≡ None
  nobody lost over key t None is d = refl
  nobody lost over key t (Some how) is d = by (m.mode t.node.0) refl
    where
      freed_mode : put u (if u == w then Up else Idle) m.mode t.node.0 ≡ m.mode t.node.0
      freed_mode = put_other u (if u == w then Up else Idle) m.mode t.node.0 d

      waits : awaits_recovery (m.mode t.node.0) ≡ true → Some how ≡ None
      waits e =
          let z = s.survives.stops.nodes t.node.0 (s.survives.stops.owners key t how is) in
          let low = z.0 in
          let high = z.1 in
          let never : true ≡ false = sym (any_from (λ j. awaits_recovery (put u (if u == w then Up else Idle) m.mode j)) 1 m.shape.nodes t.node.0 low (omega (arith, high)) (ap awaits_recovery freed_mode ∙ e)) ∙ over in
          absurd cc

      by : (mode : NodeMode) → m.mode t.node.0 ≡ mode → Some how ≡ None
      by Idle e = absurd (s.survives.stops.owners key t how is e)
      by Up e = sym is ∙ (s.quiet lost t e).1 key
      by Down e = waits (ap awaits_recovery e)
      by Redone e = waits (ap awaits_recovery e)

  all_gone : m.reopening ≡ true → any_awaits (freed u w m) ≡ false → without_node (record { 0 = u }) held ≡ finite.empty
  all_gone lost over = finite.same_map lock_cmp_total lock_cmp_antisymmetric _ _ (λ l. by l (cases_eq l.txn.node.0 u) ∙ sym (finite.get-empty lock_cmp l))
    where
      by : (l : Lock) → (l.txn.node.0 ≡ u) ⊎ (l.txn.node.0 ≢ u) → mode_of (without_node (record { 0 = u }) held) l.key l.txn ≡ None
      by l (inl e) = own_gone held u l.key l.txn e
      by l (inr d) = kept dirty h p as_if u w s.survives working none sure others l.txn l.key d ∙ nobody lost over l.key l.txn (mode_of held l.key l.txn) refl d

  own : (b : Bool) → m.reopening ≡ b → (b && any_awaits (freed u w m)) ≡ false → without_node (record { 0 = u }) held ≡ without_node (record { 0 = u }) m.locks
  own false is e = ap (without_node (record { 0 = u })) (s.own is)
  own true is e = all_gone is e ∙ sym (ap (without_node (record { 0 = u })) (s.lost is) ∙ nothing_left (λ l mode. not (l.txn.node.0 == u)))

  still_lost : (m.reopening && any_awaits (freed u w m)) ≡ true → (m.reopening ≡ true) × (any_awaits (freed u w m) ≡ true)
  still_lost e = and_parts m.reopening (any_awaits (freed u w m)) e

  calm : m.reopening ≡ true → (t : TxnId) → put u (if u == w then Up else Idle) m.mode t.node.0 ≡ Up → (t.node.0 ≡ u) ⊎ (t.node.0 ≢ u) → (is_busy m t ≡ false) × ((key : Key) → mode_of (without_node (record { 0 = u }) held) key t ≡ None)
  calm lost t up (inl e) = (ap (list_any (is_begin_in t.seat)) (ap m.pending e ∙ none), λ key. own_gone held u key t e)
  calm lost t up (inr d) =
      let z = s.quiet lost t (modes dirty h p as_if u w s.survives working none sure others t Up d up) in
      (z.0, λ key. kept dirty h p as_if u w s.survives working none sure others t key d ∙ z.1 key)

  pub recovered_here : SurvivesAs (without_node (record { 0 = u }) held) dirty (with_locks h (λ x k. but dirty h p as_if u w s.survives working none sure others (h.lock x k))) p (recovered (freed u w m))
  recovered_here = record {
    survives = fewer_held dirty (with_locks h (λ x k. but dirty h p as_if u w s.survives working none sure others (h.lock x k))) p (freed u w as_if) (freed u w as_if).mode (m.reopening && any_awaits (freed u w m)) m.hold (λ j e. e) (λ j e. e) (λ x k e. e)
        now.stops.nodes (λ x e. keeps (h.guard x) (now.recoverable.holder x e)) now;
    own = own m.reopening refl;
    lost = λ e. ap (without_node (record { 0 = u })) (s.lost (still_lost e).0) ∙ nothing_left (λ l mode. not (l.txn.node.0 == u));
    awaits = λ e. (still_lost e).1;
    quiet = λ e t up. calm (still_lost e).0 t up (cases_eq t.node.0 u);
  }
    where
      now : Survives dirty (with_locks h (λ x k. but dirty h p as_if u w s.survives working none sure others (h.lock x k))) p (freed u w as_if)
      now = freed_here dirty h p as_if u w s.survives working none sure others

      keeps : {x : ℕ} (g : ℕ) → IsKeptBy (freed u w as_if) x g → IsKeptBy (recovered (freed u w m)) x g
      keeps g (inl z) = inl z
      keeps g (inr z) =
          let at = now.stops.nodes g (λ rest. let never : Down ≡ Idle = sym z.1 ∙ rest in absurd cc) in
          let low = at.0 in
          let high = at.1 in
          inr (rw z.0 (any_from (λ j. awaits_recovery ((freed u w m).mode j)) 1 m.shape.nodes g low (omega (arith, high)) (ap awaits_recovery z.1)), z.1)

pub recovered_survives : RecoveredSurvives
recovered_survives held dirty h p m u w s working none sure others = (λ x k. but dirty h p (record m { locks = held }) u w s.survives working none sure others (h.lock x k), recovered_here held dirty h p m u w s working none sure others)
