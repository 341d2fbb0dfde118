-- Locks are taken and released.
use Rattle.std.proofs.Common.{◌≡◌, ◌≢◌, ◌⊎◌, inl, inr, ◌==◌, ◌&&◌, ◌/◌, ◌%◌, ℕ, Bool, true, false, not, cond, eqb, [], refl, ap, ap₂, sym, ◌∙◌, arith, Option, Some, None, IsTrue, eq-eqb, ne_eqb, eqb-true}
use Rattle.std.specs.FinMap as finite
use Rattle.std.proofs.lemmas.Bool.{cases_eq}
use Rattle.sd_base.specs.declared.names.Key.{Key}
use Rattle.sd_base.specs.declared.names.TxnId.{TxnId}
use Rattle.record_locks.specs.declared.mode.Mode.{Mode}
use Rattle.record_locks.specs.declared.mode.Mode.TheVariants as locks
use Rattle.record_locks.specs.Answer.{lock_answer, may_take}
use Rattle.record_locks.specs.Held.{Held, mode_of, passing, raised, taken, without_txn}
use Rattle.record_locks.specs.Order.{Lock, lock, same_txn}
use Rattle.record_locks.proofs.HeldLaws.{get-locks_where, get-taken, mode_of-taken}
use Rattle.sd_base.specs.Places.{slot_of_key}
use Rattle.record_machine.specs.Machine.{Machine, home, is_busy}
use Rattle.record_machine.specs.Meaning.{AreLocked, Means, Plain}
use Rattle.record_machine.proofs.DeedSteps.{one_txn}
use Rattle.record_machine.proofs.Homes.{one_group}
use Rattle.record_machine.proofs.LockSteps.{locked_taken}
use Rattle.recovery_theory.specs.Effect.{Transaction, of_slot, open_updates}
use Rattle.recovery_theory.specs.History.{History, IsCut, logs_at}
use Rattle.recovery_theory.specs.Steps.{with_locks}
use Rattle.recovery_theory.proofs.OpenUpdates.{list_cases, transaction, transaction_cases}
use Rattle.recovery_theory.proofs.KeptRecords.{locks_keep}
use Rattle.record_machine.specs.Recoverable.{IsKnown, Recoverable}
use Rattle.record_machine.specs.RecoverableParts.{LockedRecoverable, UnlockedRecoverable}

abbrev with_held : Machine → Held → Machine
with_held m held = record m { locks = held }

-- other locks, in the history and in the table
relocked : (dirty : ℕ → Bool) (h : History) (p : Plain) (m : Machine) (held : Held) (l : ℕ → ℕ → Option Transaction) (r : Recoverable dirty h p m)
    → ((x s : ℕ) → (l x s ≡ h.lock x s) ⊎ ((cut : ℕ → ℕ) → IsCut h cut → (o : Transaction) → of_slot x s (open_updates h.devices.first (logs_at h cut) o) ≡ []))
    → ((u : TxnId) → IsKnown (with_held m held) u → IsKnown m u)
    → ((u : TxnId) (key : Key) (x : ℕ) → home m key.0 ≡ Some x → mode_of held key u ≡ Some locks.Write → l x (slot_of_key key.0) ≡ Some (record { node = u.node.0; txn = r.begun u.node.0 u.seat }))
    → ((o : Transaction) (key : Key) (x : ℕ) → home m key.0 ≡ Some x → l x (slot_of_key key.0) ≡ Some o → (u : TxnId) × (mode_of held key u ≡ Some locks.Write) × (o ≡ record { node = u.node.0; txn = r.begun u.node.0 u.seat }))
    → Recoverable dirty (with_locks h l) p (with_held m held)
relocked dirty h p m held l r free known locked locker = record {
  holds = locks_keep h l m.records r.holds free;
  roomy = record { whole = r.roomy.whole; loose = r.roomy.loose };
  rolled = record { others = r.rolled.others; own = r.rolled.own };
  shape = r.shape;
  first = r.first;
  live = r.live;
  maps = r.maps;
  pages = r.pages;
  guard = r.guard;
  stored = λ x e. let s = r.stored x e in record { sure = s.sure; clean = s.clean };
  begun = r.begun;
  seats = λ u b. let z = r.seats u b in record { left = z.left; going = z.going; begins = z.begins; writes = z.writes };
  opens = λ k txn us e. let z = r.opens k txn us e in record { who = z.who; node = z.node; busy = z.busy; begins = z.begins };
  below = λ u up k. r.below u up (known u k);
  idle = λ u rest k. r.idle u rest (known u k);
  holder = r.holder;
  apart = λ a b x y. r.apart a b (known a x) (known b y);
  locked = locked;
  locker = locker;
}

one_key : (key other : Key) → key.0 / 16 ≡ other.0 / 16 → slot_of_key key.0 ≡ slot_of_key other.0 → key ≡ other
one_key key other a b = ap (λ k. record { 0 = k }) (omega (arith, a, b))

-- ---- a lock is taken

module _ (dirty : ℕ → Bool) (h : History) (p : Plain) (m : Machine) (key : Key) (t : TxnId) (mode : Mode) (r : Recoverable dirty h p m) (means : Means p m) (busy : is_busy m t ≡ true)
    (free : IsTrue (may_take (lock_answer m.locks key t mode))) where
  abbrev held : Held
  held = taken m.locks key t mode

  abbrev own : Option Transaction
  own = Some (transaction t.node.0 (r.begun t.node.0 t.seat))

  -- the new locks are compatible
  table : AreLocked (with_held m (taken m.locks key t mode))
  table = locked_taken key t mode m free means.locked

  -- who could write still can
  pub keeps_write : (u : TxnId) (other : Key) → mode_of m.locks other u ≡ Some locks.Write → mode_of (taken m.locks key t mode) other u ≡ Some locks.Write
  keeps_write u other had = by (get-taken m.locks key t mode (lock other u))
    where
      by : ((lock other u ≡ lock key t) × (finite.get (taken m.locks key t mode) (lock other u) ≡ Some (raised (mode_of m.locks key t) mode))) ⊎ (finite.get (taken m.locks key t mode) (lock other u) ≡ finite.get m.locks (lock other u))
          → mode_of (taken m.locks key t mode) other u ≡ Some locks.Write
      by (inl here) = here.1 ∙ ap (λ x. Some (raised x mode)) (ap (finite.get m.locks) (sym here.0) ∙ had)
      by (inr same) = same ∙ had

  -- who can write could before, or is the transaction at the key
  writer : (u : TxnId) (other : Key) → mode_of (taken m.locks key t mode) other u ≡ Some locks.Write → ((other ≡ key) × (u ≡ t) × (raised (mode_of m.locks key t) mode ≡ locks.Write)) ⊎ (mode_of m.locks other u ≡ Some locks.Write)
  writer u other has = by (get-taken m.locks key t mode (lock other u))
    where
      by : ((lock other u ≡ lock key t) × (finite.get (taken m.locks key t mode) (lock other u) ≡ Some (raised (mode_of m.locks key t) mode))) ⊎ (finite.get (taken m.locks key t mode) (lock other u) ≡ finite.get m.locks (lock other u))
          → ((other ≡ key) × (u ≡ t) × (raised (mode_of m.locks key t) mode ≡ locks.Write)) ⊎ (mode_of m.locks other u ≡ Some locks.Write)
      by (inr same) = inr (sym same ∙ has)
      by (inl here) = inl (ap (λ (l : Lock). l.key) here.0, ap (λ (l : Lock). l.txn) here.0, let z : Some (raised (mode_of m.locks key t) mode) ≡ Some locks.Write = sym here.1 ∙ has in cc)

  known : (u : TxnId) → IsKnown (with_held m (taken m.locks key t mode)) u → IsKnown m u
  known u (inl b) = inl b
  known u (inr (other, has)) = by (writer u other has)
    where
      by : ((other ≡ key) × (u ≡ t) × (raised (mode_of m.locks key t) mode ≡ locks.Write)) ⊎ (mode_of m.locks other u ≡ Some locks.Write) → IsKnown m u
      by (inl z) = inl (ap (is_busy m) z.1 ∙ busy)
      by (inr old) = inr (other, old)

  -- where it doesn't get a slot, the slots' locks stay
  stays : ((x : ℕ) → home m key.0 ≡ Some x → raised (mode_of m.locks key t) mode ≢ locks.Write) → Recoverable dirty (with_locks h h.lock) p (with_held m (taken m.locks key t mode))
  stays no_slot = relocked dirty h p m (taken m.locks key t mode) h.lock r (λ x s. inl refl) known
      (λ u other x is has. locked u other x is (writer u other has))
      (λ o other x is e. let l = r.locker o other x is e in (l.0, keeps_write l.0 other l.1, l.2))
    where
      locked : (u : TxnId) (other : Key) (x : ℕ) → home m other.0 ≡ Some x → ((other ≡ key) × (u ≡ t) × (raised (mode_of m.locks key t) mode ≡ locks.Write)) ⊎ (mode_of m.locks other u ≡ Some locks.Write)
          → h.lock x (slot_of_key other.0) ≡ Some (record { node = u.node.0; txn = r.begun u.node.0 u.seat })
      locked u other x is (inl z) = absurd (no_slot x (ap (λ (k : Key). home m k.0) (sym z.0) ∙ is) z.2)
      locked u other x is (inr old) = r.locked u other x is old

  -- else it gets the slot of the key
  module _ (x0 : ℕ) (is_home : home m key.0 ≡ Some x0) (write : raised (mode_of m.locks key t) mode ≡ locks.Write) where
    abbrev slots : ℕ → ℕ → Option Transaction
    slots x s = cond (eqb x x0 && eqb s (slot_of_key key.0)) (Some (transaction t.node.0 (r.begun t.node.0 t.seat))) (h.lock x s)

    slots_here : (x s : ℕ) → x ≡ x0 → s ≡ slot_of_key key.0 → slots x s ≡ Some (transaction t.node.0 (r.begun t.node.0 t.seat))
    slots_here x s a b = rw (eq-eqb x x0 a, eq-eqb s (slot_of_key key.0) b) refl

    slots_off : (x s : ℕ) → (x ≢ x0) ⊎ (s ≢ slot_of_key key.0) → slots x s ≡ h.lock x s
    slots_off x s (inl d) = rw (ne_eqb x x0 d) refl
    slots_off x s (inr d) = go (eqb x x0)
      where
        go : (b : Bool) → cond (b && eqb s (slot_of_key key.0)) (Some (transaction t.node.0 (r.begun t.node.0 t.seat))) (h.lock x s) ≡ h.lock x s
        go true = rw (ne_eqb s (slot_of_key key.0) d) refl
        go false = refl

    where_at : (x s : ℕ) → ((x ≡ x0) × (s ≡ slot_of_key key.0)) ⊎ ((x ≢ x0) ⊎ (s ≢ slot_of_key key.0))
    where_at x s = go (cases_eq x x0) (cases_eq s (slot_of_key key.0))
      where
        go : (x ≡ x0) ⊎ (x ≢ x0) → (s ≡ slot_of_key key.0) ⊎ (s ≢ slot_of_key key.0) → ((x ≡ x0) × (s ≡ slot_of_key key.0)) ⊎ ((x ≢ x0) ⊎ (s ≢ slot_of_key key.0))
        go (inl a) (inl b) = inl (a, b)
        go (inl a) (inr b) = inr (inr b)
        go (inr a) b = inr (inl a)

    -- nobody else can write the record
    mine : (u : TxnId) → mode_of m.locks key u ≡ Some locks.Write → t ≡ u
    mine u had = table.apart key t u locks.Write locks.Write (mode_of-taken m.locks key t mode ∙ ap (λ a. Some a) write) (keeps_write u key had) refl

    -- a key with the same slot is the key
    same_key : (other : Key) (x : ℕ) → home m other.0 ≡ Some x → x ≡ x0 → slot_of_key other.0 ≡ slot_of_key key.0 → other ≡ key
    same_key other x is a b = one_key other key (one_group p m other.0 key.0 x means.pages is (is_home ∙ ap (λ z. Some z) (sym a))) b

    quiet : (x s : ℕ) → (slots x s ≡ h.lock x s) ⊎ ((cut : ℕ → ℕ) → IsCut h cut → (o : Transaction) → of_slot x s (open_updates h.devices.first (logs_at h cut) o) ≡ [])
    quiet x s = go (where_at x s)
      where
        go : ((x ≡ x0) × (s ≡ slot_of_key key.0)) ⊎ ((x ≢ x0) ⊎ (s ≢ slot_of_key key.0)) → (slots x s ≡ h.lock x s) ⊎ ((cut : ℕ → ℕ) → IsCut h cut → (o : Transaction) → of_slot x s (open_updates h.devices.first (logs_at h cut) o) ≡ [])
        go (inr d) = inl (slots_off x s d)
        go (inl (a, b)) = by (h.lock x s) refl
          where
            by : (l : Option Transaction) → h.lock x s ≡ l → (slots x s ≡ h.lock x s) ⊎ ((cut : ℕ → ℕ) → IsCut h cut → (o : Transaction) → of_slot x s (open_updates h.devices.first (logs_at h cut) o) ≡ [])
            by (Some o) e =
                let l = r.locker o key x0 is_home (ap₂ h.lock (sym a) (sym b) ∙ e) in
                let same : t ≡ l.0 = mine l.0 l.1 in
                inl (slots_here x s a b ∙ (ap (λ z. Some z) (ap (λ (u : TxnId). transaction u.node.0 (r.begun u.node.0 u.seat)) same ∙ sym l.2) ∙ sym e))
            by None e = inr (λ cut is o. none cut is o (list_cases (of_slot x s (open_updates h.devices.first (logs_at h cut) o))))
              where
                none : (cut : ℕ → ℕ) → IsCut h cut → (o : Transaction) → (of_slot x s (open_updates h.devices.first (logs_at h cut) o) ≡ []) ⊎ (of_slot x s (open_updates h.devices.first (logs_at h cut) o) ≢ []) → of_slot x s (open_updates h.devices.first (logs_at h cut) o) ≡ []
                none cut is o (inl z) = z
                none cut is o (inr z) = let some = (r.holds.history.stands cut is).locks x s o z in let never : None ≡ Some o = sym e ∙ some in absurd cc

    locked : (u : TxnId) (other : Key) (x : ℕ) → home m other.0 ≡ Some x → mode_of (taken m.locks key t mode) other u ≡ Some locks.Write → slots x (slot_of_key other.0) ≡ Some (record { node = u.node.0; txn = r.begun u.node.0 u.seat })
    locked u other x is has = go (writer u other has) (where_at x (slot_of_key other.0))
      where
        go : ((other ≡ key) × (u ≡ t) × (raised (mode_of m.locks key t) mode ≡ locks.Write)) ⊎ (mode_of m.locks other u ≡ Some locks.Write) → ((x ≡ x0) × (slot_of_key other.0 ≡ slot_of_key key.0)) ⊎ ((x ≢ x0) ⊎ (slot_of_key other.0 ≢ slot_of_key key.0))
            → slots x (slot_of_key other.0) ≡ Some (record { node = u.node.0; txn = r.begun u.node.0 u.seat })
        go (inl z) w =
            let a : x ≡ x0 = (let q : Some x ≡ Some x0 = sym is ∙ (ap (λ (k : Key). home m k.0) z.0 ∙ is_home) in cc) in
            slots_here x (slot_of_key other.0) a (ap (λ (k : Key). k.0 % 16) z.0) ∙ ap (λ (v : TxnId). Some (transaction v.node.0 (r.begun v.node.0 v.seat))) (sym z.1)
        go (inr old) (inr d) = slots_off x (slot_of_key other.0) d ∙ r.locked u other x is old
        go (inr old) (inl (a, b)) =
            let k = same_key other x is a b in
            let same : t ≡ u = mine u (ap (λ z. mode_of m.locks z u) (sym k) ∙ old) in
            slots_here x (slot_of_key other.0) a b ∙ ap (λ (v : TxnId). Some (transaction v.node.0 (r.begun v.node.0 v.seat))) same

    locker : (o : Transaction) (other : Key) (x : ℕ) → home m other.0 ≡ Some x → slots x (slot_of_key other.0) ≡ Some o → (u : TxnId) × (mode_of (taken m.locks key t mode) other u ≡ Some locks.Write) × (o ≡ record { node = u.node.0; txn = r.begun u.node.0 u.seat })
    locker o other x is e = go (where_at x (slot_of_key other.0))
      where
        go : ((x ≡ x0) × (slot_of_key other.0 ≡ slot_of_key key.0)) ⊎ ((x ≢ x0) ⊎ (slot_of_key other.0 ≢ slot_of_key key.0)) → (u : TxnId) × (mode_of (taken m.locks key t mode) other u ≡ Some locks.Write) × (o ≡ record { node = u.node.0; txn = r.begun u.node.0 u.seat })
        go (inr d) = let l = r.locker o other x is (sym (slots_off x (slot_of_key other.0) d) ∙ e) in (l.0, keeps_write l.0 other l.1, l.2)
        go (inl (a, b)) =
            let k = same_key other x is a b in
            let q : Some o ≡ Some (transaction t.node.0 (r.begun t.node.0 t.seat)) = sym e ∙ slots_here x (slot_of_key other.0) a b in
            (t, ap (λ z. mode_of (taken m.locks key t mode) z t) k ∙ (mode_of-taken m.locks key t mode ∙ ap (λ a. Some a) write), cc)

    gets : Recoverable dirty (with_locks h slots) p (with_held m (taken m.locks key t mode))
    gets = relocked dirty h p m (taken m.locks key t mode) slots r quiet known locked locker

  -- the transactions in the seats begin as they did
  abbrev pub Relocks : Type 0
  Relocks = (l : ℕ → ℕ → Option Transaction) × (r' : Recoverable dirty (with_locks h l) p (with_held m (taken m.locks key t mode))) × (r'.begun ≡ r.begun)

  pub locked_now : Relocks
  unfolding stays relocked gets
  locked_now = by (home m key.0) refl (raised (mode_of m.locks key t) mode) refl
    where
      by : (o : Option ℕ) → home m key.0 ≡ o → (a : Mode) → raised (mode_of m.locks key t) mode ≡ a → Relocks
      by None e a b = (h.lock, stays (λ x is. let never : None ≡ Some x = sym e ∙ is in absurd cc), refl)
      by (Some x) e locks.Read b = (h.lock, stays (λ y is z. let never : locks.Read ≡ locks.Write = sym b ∙ z in absurd cc), refl)
      by (Some x) e locks.Write b = (slots x e b, gets x e b, refl)

pub locked_recoverable : LockedRecoverable
locked_recoverable dirty h p m key t mode r means busy free = (let l = locked_now dirty h p m key t mode r means busy free in (l.0, l.1))

-- ---- locks are released

same_txn-is : (u t : TxnId) → same_txn u t ≡ true → u ≡ t
same_txn-is u t e = by (u.node.0 == t.node.0) refl (u.seat == t.seat) refl e
  where
    by : (a : Bool) → (u.node.0 == t.node.0) ≡ a → (b : Bool) → (u.seat == t.seat) ≡ b → (a && b) ≡ true → u ≡ t
    by true a true b e = one_txn u t (eqb-true u.node.0 t.node.0 a) (eqb-true u.seat t.seat b)
    by true a false b e = cc
    by false a c b e = cc

same_txn-not : (u t : TxnId) → u ≢ t → same_txn u t ≡ false
same_txn-not u t d = by (same_txn u t) refl
  where
    by : (b : Bool) → same_txn u t ≡ b → b ≡ false
    by true e = absurd (d (same_txn-is u t e))
    by false e = refl

module _ (dirty : ℕ → Bool) (h : History) (p : Plain) (m : Machine) (t : TxnId) (r : Recoverable dirty h p m)
    (closed : (cut : ℕ → ℕ) → IsCut h cut → (x s : ℕ) → of_slot x s (open_updates h.devices.first (logs_at h cut) (record { node = t.node.0; txn = r.begun t.node.0 t.seat })) ≡ [])
    (alone : (u : TxnId) → IsKnown m u → u.node.0 ≡ t.node.0 → r.begun u.node.0 u.seat ≡ r.begun t.node.0 t.seat → u ≡ t) where
  abbrev its : Transaction
  its = transaction t.node.0 (r.begun t.node.0 t.seat)

  -- the locks but for the transaction's
  abbrev pub but : Option Transaction → Option Transaction
  but None = None
  but (Some o) = cond (eqb o.node t.node.0 && eqb o.txn (r.begun t.node.0 t.seat)) None (Some o)

  but_own : but (Some its) ≡ None
  but_own = rw (eq-eqb t.node.0 t.node.0 refl, eq-eqb (r.begun t.node.0 t.seat) (r.begun t.node.0 t.seat) refl) refl

  but_other : (o : Transaction) → o ≢ its → but (Some o) ≡ Some o
  but_other o d = go (cases_eq o.node t.node.0) (cases_eq o.txn (r.begun t.node.0 t.seat))
    where
      go : (o.node ≡ t.node.0) ⊎ (o.node ≢ t.node.0) → (o.txn ≡ r.begun t.node.0 t.seat) ⊎ (o.txn ≢ r.begun t.node.0 t.seat) → but (Some o) ≡ Some o
      go (inl a) (inl b) = absurd (d (ap₂ transaction a b))
      go (inl a) (inr b) = rw (eq-eqb o.node t.node.0 a, ne_eqb o.txn (r.begun t.node.0 t.seat) b) refl
      go (inr a) b = rw (ne_eqb o.node t.node.0 a) refl

  -- a lock that is left was there, and isn't the transaction's
  was : (l : Option Transaction) (o : Transaction) → but l ≡ Some o → (l ≡ Some o) × (o ≢ its)
  was None o e = absurd cc
  was (Some k) o e = go (transaction_cases k its)
    where
      go : (k ≡ its) ⊎ (k ≢ its) → (Some k ≡ Some o) × (o ≢ its)
      go (inl z) = let never : None ≡ Some o = sym (ap (λ q. but (Some q)) z ∙ but_own) ∙ e in absurd cc
      go (inr d) = let same : Some k ≡ Some o = sym (but_other k d) ∙ e in (same, λ z. d (let q : k ≡ o = cc in q ∙ z))

  pub still : (u : TxnId) (key : Key) → u ≢ t → mode_of (without_txn t m.locks) key u ≡ mode_of m.locks key u
  still u key d = get-locks_where (λ l mode. not (same_txn l.txn t)) m.locks (lock key u) ∙ by (finite.get m.locks (lock key u))
    where
      by : (o : Option Mode) → passing (λ l mode. not (same_txn l.txn t)) (lock key u) o ≡ o
      by None = refl
      by (Some a) = rw (same_txn-not u t d) refl

  had : (u : TxnId) (key : Key) → mode_of (without_txn t m.locks) key u ≡ Some locks.Write → (u ≢ t) × (mode_of m.locks key u ≡ Some locks.Write)
  had u key has = go (Rattle.record_machine.proofs.SealSteps.same_or_not t u)
    where
      none : (o : Option Mode) → passing (λ l mode. not (same_txn l.txn t)) (lock key t) o ≡ None
      none None = refl
      none (Some a) = rw (eq-eqb t.node.0 t.node.0 refl, eq-eqb t.seat t.seat refl) refl

      go : (u ≡ t) ⊎ (u ≢ t) → (u ≢ t) × (mode_of m.locks key u ≡ Some locks.Write)
      go (inr d) = (d, sym (still u key d) ∙ has)
      go (inl e) =
          let gone : mode_of (without_txn t m.locks) key t ≡ None = get-locks_where (λ l mode. not (same_txn l.txn t)) m.locks (lock key t) ∙ none (finite.get m.locks (lock key t)) in
          let never : None ≡ Some locks.Write = sym gone ∙ (ap (mode_of (without_txn t m.locks) key) (sym e) ∙ has) in absurd cc

  not_own : (u : TxnId) → IsKnown m u → u ≢ t → transaction u.node.0 (r.begun u.node.0 u.seat) ≢ its
  not_own u k d e = d (alone u k (ap (λ (o : Transaction). o.node) e) (ap (λ (o : Transaction). o.txn) e))

  pub unlocked_now : Recoverable dirty (with_locks h (λ x s. but (h.lock x s))) p (with_held m (without_txn t m.locks))
  unlocked_now = relocked dirty h p m (without_txn t m.locks) (λ x s. but (h.lock x s)) r (λ x s. quiet x s (h.lock x s) refl)
      known
      (λ u key x is has. let z = had u key has in ap but (r.locked u key x is z.1) ∙ but_other (transaction u.node.0 (r.begun u.node.0 u.seat)) (not_own u (inr (key, z.1)) z.0))
      (λ o key x is e.
      let w = was (h.lock x (slot_of_key key.0)) o e in
      let l = r.locker o key x is w.0 in
      (l.0, still l.0 key (λ q. w.1 (l.2 ∙ ap (λ (u : TxnId). transaction u.node.0 (r.begun u.node.0 u.seat)) q)) ∙ l.1, l.2))
    where
      known : (u : TxnId) → IsKnown (with_held m (without_txn t m.locks)) u → IsKnown m u
      known u (inl b) = inl b
      known u (inr (key, has)) = inr (key, (had u key has).1)

      quiet : (x s : ℕ) (l : Option Transaction) → h.lock x s ≡ l → (but (h.lock x s) ≡ h.lock x s) ⊎ ((cut : ℕ → ℕ) → IsCut h cut → (o : Transaction) → of_slot x s (open_updates h.devices.first (logs_at h cut) o) ≡ [])
      quiet x s None e = inl (ap but e ∙ sym e)
      quiet x s (Some k) e = go (transaction_cases k its)
        where
          go : (k ≡ its) ⊎ (k ≢ its) → (but (h.lock x s) ≡ h.lock x s) ⊎ ((cut : ℕ → ℕ) → IsCut h cut → (o : Transaction) → of_slot x s (open_updates h.devices.first (logs_at h cut) o) ≡ [])
          go (inr d) = inl (ap but e ∙ (but_other k d ∙ sym e))
          go (inl z) = inr (λ cut is o. by cut is o (transaction_cases o its) (list_cases (of_slot x s (open_updates h.devices.first (logs_at h cut) o))))
            where
              by : (cut : ℕ → ℕ) → IsCut h cut → (o : Transaction) → (o ≡ its) ⊎ (o ≢ its) → (of_slot x s (open_updates h.devices.first (logs_at h cut) o) ≡ []) ⊎ (of_slot x s (open_updates h.devices.first (logs_at h cut) o) ≢ []) → of_slot x s (open_updates h.devices.first (logs_at h cut) o) ≡ []
              by cut is o (inl q) w = ap (λ k. of_slot x s (open_updates h.devices.first (logs_at h cut) k)) q ∙ closed cut is x s
              by cut is o (inr d) (inl w) = w
              by cut is o (inr d) (inr w) =
                  let some = (r.holds.history.stands cut is).locks x s o w in
                  let q : Some k ≡ Some o = sym e ∙ some in
                  absurd (d (let j : k ≡ o = cc in sym j ∙ z))

  pub unlocked_begun : unlocked_now.begun ≡ r.begun
  unfolding unlocked_now relocked
  unlocked_begun = refl

pub unlocked_recoverable : UnlockedRecoverable
unlocked_recoverable dirty h p m t r closed alone = (λ x s. but dirty h p m t r closed alone (h.lock x s), unlocked_now dirty h p m t r closed alone)
