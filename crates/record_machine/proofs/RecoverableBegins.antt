-- A transaction begins.
use Rattle.std.proofs.Common.{filter, is_none, is_some, ◌≡◌, ◌≢◌, ◌⊎◌, inl, inr, ◌+◌, ◌<◌, ◌++◌, ◌&&◌, ℕ, zero, suc, Bool, true, false, cond, eqb, List, [], ◌∷◌, length, map, refl, ap, ap₂, sym, subst, ◌∙◌, arith, Some, None, eq-eqb, ne_eqb, length-append}
use Rattle.std.proofs.lemmas.Bool.{cases_eq}
use Rattle.sd_base.specs.declared.names.Key.{Key}
use Rattle.sd_base.specs.declared.names.TxnId.{TxnId}
use Rattle.record_locks.specs.declared.mode.Mode.TheVariants as locks
use Rattle.record_locks.specs.Held.{mode_of}
use Rattle.log_record.specs.declared.record.LogRecord.{LogRecord}
use Rattle.log_record.specs.declared.record.LogRecord.TheVariants.{Begin}
use Rattle.sd_base.specs.Places.{slot_of_key}
use Rattle.record_machine.specs.Machine.{Deed, Idle, Machine, Up, deeds_of, home, is_busy}
use Rattle.record_machine.specs.Meaning.{Means, Plain}
use Rattle.record_machine.specs.Parts as part
use Rattle.record_machine.proofs.DeedSteps.{one_txn}
use Rattle.recovery_theory.specs.Effect.{Transaction, OpenUpdate, left_of}
use Rattle.recovery_theory.specs.History.{History, entry_now, image_now}
use Rattle.recovery_theory.specs.Steps.{logged, with_record}
use Rattle.recovery_theory.proofs.Cuts.{with_record-other, with_record-same}
use Rattle.recovery_theory.proofs.OpenUpdates.{transaction, left_of-append}
use Rattle.recovery_theory.specs.Room.{HasRoom}
use Rattle.recovery_theory.proofs.Room.{logged_keeps_room}
use Rattle.recovery_theory.proofs.Headroom.{logged_keeps_rising}
use Rattle.recovery_theory.proofs.KeptRecords.{begin_keeps}
use Rattle.record_machine.specs.Recoverable.{HasSeat, IsKnown, Recoverable, TellsSeat}
use Rattle.record_machine.specs.RecoverableParts.{BegunRecoverable}
use Rattle.record_machine.proofs.SeatDeeds.{busy_begun, busy_own, deeds_other, deeds_own}
use Rattle.record_machine.proofs.OpenSeats.{open_then}
use Rattle.record_machine.proofs.LoggedLater.{began_below, live_more, longer, past_same}

module _ (dirty : ℕ → Bool) (h : History) (p : Plain) (m : Machine) (t : TxnId) (r : Recoverable dirty h p m) (means : Means p m)
    (at_work : m.mode t.node.0 ≡ Up) (fits : HasRoom h.devices t.node.0 (h.live t.node.0 ++ Begin ∷ [])) (unused : deeds_of m t ≡ []) (no_lock : (key : Key) → mode_of m.locks key t ≢ Some locks.Write) where
  abbrev n : ℕ
  n = t.node.0

  abbrev number : ℕ
  number = h.devices.first t.node.0 + length (h.live t.node.0)

  abbrev h' : History
  h' = logged h t.node.0 Begin (entry_now h) (image_now h) h.last

  abbrev m' : Machine
  m' = part.one (part.Begin t) m

  abbrev d : Deed
  d = record { number = m.tail t.node.0; seat = t.seat; write = None }

  abbrev begun : ℕ → ℕ → ℕ
  begun k s = cond (eqb k t.node.0 && eqb s t.seat) (h.devices.first t.node.0 + length (h.live t.node.0)) (r.begun k s)

  begun_own : begun t.node.0 t.seat ≡ number
  begun_own = rw (eq-eqb t.node.0 t.node.0 refl, eq-eqb t.seat t.seat refl) refl

  pub begun_other : (u : TxnId) → (u.node.0 ≢ t.node.0) ⊎ (u.seat ≢ t.seat) → begun u.node.0 u.seat ≡ r.begun u.node.0 u.seat
  begun_other u (inl ne) = rw (ne_eqb u.node.0 t.node.0 ne) refl
  begun_other u (inr ne) = go (eqb u.node.0 t.node.0)
    where
      go : (b : Bool) → cond (b && eqb u.seat t.seat) (h.devices.first t.node.0 + length (h.live t.node.0)) (r.begun u.node.0 u.seat) ≡ r.begun u.node.0 u.seat
      go true = rw (ne_eqb u.seat t.seat ne) refl
      go false = refl

  number_is : m.tail t.node.0 ≡ number
  number_is = means.logs.tail n ∙ ap₂ (λ a (l : List LogRecord). a + length l) (sym (r.first n)) (sym (r.live n))

  own_or_not : (u : TxnId) → (u ≡ t) ⊎ ((u.node.0 ≢ t.node.0) ⊎ (u.seat ≢ t.seat))
  own_or_not u = go (cases_eq u.node.0 t.node.0) (cases_eq u.seat t.seat)
    where
      go : (u.node.0 ≡ t.node.0) ⊎ (u.node.0 ≢ t.node.0) → (u.seat ≡ t.seat) ⊎ (u.seat ≢ t.seat) → (u ≡ t) ⊎ ((u.node.0 ≢ t.node.0) ⊎ (u.seat ≢ t.seat))
      go (inl a) (inl b) = inl (one_txn u t a b)
      go (inl a) (inr b) = inr (inr b)
      go (inr a) b = inr (inl a)

  own_seat : TellsSeat h' m' t (begun t.node.0 t.seat)
  own_seat = record {
    left = [];
    going = ap (λ k. left_of k (h.devices.first n) (with_record n Begin h.live n) None) begun_own
        ∙ (ap (λ l. left_of number (h.devices.first n) l None) (with_record-same n Begin h.live)
        ∙ (left_of-append number (h.devices.first n) (h.live n) Begin None ∙ rw (eq-eqb number number refl) refl));
    begins = ap (filter (λ (e : Deed). is_none e.write)) (deeds_own m t d refl ∙ ap (λ l. l ++ d ∷ []) unused) ∙ ap (λ k. record { number = k; seat = t.seat; write = None } ∷ []) (number_is ∙ sym begun_own);
    writes = ap (λ l. map (λ (e : Deed). e.number) (filter (λ (e : Deed). is_some e.write) l)) (deeds_own m t d refl ∙ ap (λ l. l ++ d ∷ []) unused);
  }

  other_seat : (u : TxnId) → is_busy m u ≡ true → (u.node.0 ≢ t.node.0) ⊎ (u.seat ≢ t.seat) → TellsSeat h' m' u (begun u.node.0 u.seat)
  other_seat u bu ne = subst (λ b. TellsSeat h' m' u b) (sym (begun_other u ne)) (
      let z = r.seats u bu in record {
        left = z.left;
        going = going (began_below (r.begun u.node.0 u.seat) (h.devices.first u.node.0) (h.live u.node.0) z.left z.going) (cases_eq u.node.0 n) ∙ z.going;
        begins = ap (filter (λ (e : Deed). is_none e.write)) (deeds_other m t u d refl ne) ∙ z.begins;
        writes = ap (λ l. map (λ (e : Deed). e.number) (filter (λ (e : Deed). is_some e.write) l)) (deeds_other m t u d refl ne) ∙ z.writes;
      })
    where
      going : r.begun u.node.0 u.seat < h.devices.first u.node.0 + length (h.live u.node.0) → (u.node.0 ≡ n) ⊎ (u.node.0 ≢ n)
          → left_of (r.begun u.node.0 u.seat) (h.devices.first u.node.0) (with_record n Begin h.live u.node.0) None ≡ left_of (r.begun u.node.0 u.seat) (h.devices.first u.node.0) (h.live u.node.0) None
      going low (inr q) = rw (with_record-other n Begin h.live u.node.0 q) refl
      going low (inl q) =
          let low' : r.begun u.node.0 u.seat < h.devices.first n + length (h.live n) = subst (λ z. r.begun u.node.0 u.seat < h.devices.first z + length (h.live z)) q low in
          subst (λ z. left_of (r.begun u.node.0 u.seat) (h.devices.first z) (with_record n Begin h.live z) None ≡ left_of (r.begun u.node.0 u.seat) (h.devices.first z) (h.live z) None) (sym q)
          (ap (λ l. left_of (r.begun u.node.0 u.seat) (h.devices.first n) l None) (with_record-same n Begin h.live)
          ∙ (left_of-append (r.begun u.node.0 u.seat) (h.devices.first n) (h.live n) Begin None ∙ rw (ne_eqb (h.devices.first n + length (h.live n)) (r.begun u.node.0 u.seat) (λ e. absurd (omega arith))) refl))

  was_busy : (u : TxnId) → (u.node.0 ≢ t.node.0) ⊎ (u.seat ≢ t.seat) → is_busy m' u ≡ true → is_busy m u ≡ true
  was_busy u ne bu = sym (busy_begun m t u d refl ne) ∙ bu

  seats : (u : TxnId) → is_busy m' u ≡ true → TellsSeat h' m' u (begun u.node.0 u.seat)
  seats u bu = go (own_or_not u)
    where
      go : (u ≡ t) ⊎ ((u.node.0 ≢ t.node.0) ⊎ (u.seat ≢ t.seat)) → TellsSeat h' m' u (begun u.node.0 u.seat)
      go (inl e) = subst (λ z. TellsSeat h' m' z (begun z.node.0 z.seat)) (sym e) own_seat
      go (inr ne) = other_seat u (was_busy u ne bu) ne

  -- no transaction of the node that was open began with this record
  fresh : (u : TxnId) → IsKnown m u → u.node.0 ≡ t.node.0 → r.begun u.node.0 u.seat ≢ number
  fresh u k q e =
      let low' : r.begun u.node.0 u.seat < h.devices.first n + length (h.live n) = subst (λ z. r.begun u.node.0 u.seat < h.devices.first z + length (h.live z)) q (r.below u (ap m.mode q ∙ at_work) k) in
      absurd (omega arith)

  known : (u : TxnId) → (u.node.0 ≢ t.node.0) ⊎ (u.seat ≢ t.seat) → IsKnown m' u → IsKnown m u
  known u ne (inl b) = inl (was_busy u ne b)
  known u ne (inr l) = inr l

  below : (u : TxnId) → m.mode u.node.0 ≡ Up → IsKnown m' u → begun u.node.0 u.seat < h.devices.first u.node.0 + length (with_record n Begin h.live u.node.0)
  below u up k = go (own_or_not u)
    where
      go : (u ≡ t) ⊎ ((u.node.0 ≢ t.node.0) ⊎ (u.seat ≢ t.seat)) → begun u.node.0 u.seat < h.devices.first u.node.0 + length (with_record n Begin h.live u.node.0)
      go (inl e) = subst (λ (z : TxnId). begun z.node.0 z.seat < h.devices.first z.node.0 + length (with_record n Begin h.live z.node.0)) (sym e)
          (rw (with_record-same n Begin h.live, begun_own) (omega (arith, length-append (h.live n) (Begin ∷ []))))
      go (inr ne) = longer n Begin h.devices.first h.live u.node.0 (begun u.node.0 u.seat) (rw (begun_other u ne) (r.below u up (known u ne k)))

  apart : (a b : TxnId) → IsKnown m' a → IsKnown m' b → a.node.0 ≡ b.node.0 → begun a.node.0 a.seat ≡ begun b.node.0 b.seat → a.seat ≡ b.seat
  apart a b ba bb q e = go (own_or_not a) (own_or_not b)
    where
      go : (a ≡ t) ⊎ ((a.node.0 ≢ t.node.0) ⊎ (a.seat ≢ t.seat)) → (b ≡ t) ⊎ ((b.node.0 ≢ t.node.0) ⊎ (b.seat ≢ t.seat)) → a.seat ≡ b.seat
      go (inl x) (inl y) = ap (λ (z : TxnId). z.seat) (x ∙ sym y)
      go (inl x) (inr y) = absurd (fresh b (known b y bb) (sym q ∙ ap (λ (z : TxnId). z.node.0) x) (sym (begun_other b y) ∙ (sym e ∙ (ap (λ (z : TxnId). begun z.node.0 z.seat) x ∙ begun_own))))
      go (inr x) (inl y) = absurd (fresh a (known a x ba) (q ∙ ap (λ (z : TxnId). z.node.0) y) (sym (begun_other a x) ∙ (e ∙ (ap (λ (z : TxnId). begun z.node.0 z.seat) y ∙ begun_own))))
      go (inr x) (inr y) = r.apart a b (known a x ba) (known b y bb) q (sym (begun_other a x) ∙ (e ∙ begun_other b y))

  locked : (u : TxnId) (key : Key) (x : ℕ) → home m key.0 ≡ Some x → mode_of m.locks key u ≡ Some locks.Write → h.lock x (slot_of_key key.0) ≡ Some (record { node = u.node.0; txn = begun u.node.0 u.seat })
  locked u key x is mode = go (own_or_not u)
    where
      go : (u ≡ t) ⊎ ((u.node.0 ≢ t.node.0) ⊎ (u.seat ≢ t.seat)) → h.lock x (slot_of_key key.0) ≡ Some (record { node = u.node.0; txn = begun u.node.0 u.seat })
      go (inl e) = absurd (no_lock key (ap (mode_of m.locks key) (sym e) ∙ mode))
      go (inr ne) = r.locked u key x is mode ∙ ap (λ b. Some (transaction u.node.0 b)) (sym (begun_other u ne))

  locker : (o : Transaction) (key : Key) (x : ℕ) → home m key.0 ≡ Some x → h.lock x (slot_of_key key.0) ≡ Some o → (u : TxnId) × (mode_of m.locks key u ≡ Some locks.Write) × (o ≡ record { node = u.node.0; txn = begun u.node.0 u.seat })
  locker o key x is has =
      let l = r.locker o key x is has in (
        l.0,
        l.1,
        go l.0 l.1 l.2 (own_or_not l.0),
      )
    where
      go : (u : TxnId) → mode_of m.locks key u ≡ Some locks.Write → o ≡ record { node = u.node.0; txn = r.begun u.node.0 u.seat } → (u ≡ t) ⊎ ((u.node.0 ≢ t.node.0) ⊎ (u.seat ≢ t.seat)) → o ≡ record { node = u.node.0; txn = begun u.node.0 u.seat }
      go u mode q (inl e) = absurd (no_lock key (ap (mode_of m.locks key) (sym e) ∙ mode))
      go u mode q (inr ne) = q ∙ ap (transaction u.node.0) (sym (begun_other u ne))

  never_one : zero ≡ suc zero → ⊥
  never_one e = cc

  pub not_busy : is_busy m t ≡ true → ⊥
  not_busy b =
      let z = (r.seats t b).begins in
      never_one (ap (λ (l : List Deed). length (filter (λ (e : Deed). is_none e.write) l)) (sym unused) ∙ ap (λ (l : List Deed). length l) z)

  opens : (k txn : ℕ) (us : List OpenUpdate) → left_of txn (h.devices.first k) (with_record n Begin h.live k) None ≡ Some us → HasSeat m' begun k txn
  opens = open_then h.devices.first n Begin h.live (HasSeat m' begun) (λ _. record { who = t; node = refl; busy = busy_own m t d refl refl; begins = begun_own })
      (λ k txn us e apart. let z = r.opens k txn us e in kept k txn z (own_or_not z.who))
    where
      kept : (k txn : ℕ) (z : HasSeat m r.begun k txn) → (z.who ≡ t) ⊎ ((z.who.node.0 ≢ t.node.0) ⊎ (z.who.seat ≢ t.seat)) → HasSeat m' begun k txn
      kept k txn z (inl e) = absurd (not_busy (ap (is_busy m) (sym e) ∙ z.busy))
      kept k txn z (inr ne) = record { who = z.who; node = z.node; busy = busy_begun m t z.who d refl ne ∙ z.busy; begins = begun_other z.who ne ∙ z.begins }

  pub begun_now : Recoverable dirty h' (Rattle.record_machine.specs.Meaning.logged t.node.0 Begin p) m'
  begun_now = record {
    holds = begin_keeps h n Begin m.records r.holds refl;
    shape = r.shape;
    first = r.first;
    live = live_more n Begin h.live p.live r.live;
    roomy = logged_keeps_room h n Begin (entry_now h) (image_now h) h.last r.holds.history r.roomy tt refl fits;
    rolled = logged_keeps_rising h n Begin (entry_now h) (image_now h) h.last r.holds.history r.rolled (λ y. inl refl) (λ y g. omega arith);
    maps = λ y lt. past_same h n Begin h.image y ∙ r.maps y lt;
    pages = λ y low high. past_same h n Begin h.image y ∙ r.pages y low high;
    guard = r.guard;
    stored = λ y e. let s = r.stored y e in record { sure = s.sure; clean = rw (past_same h n Begin h.image y, past_same h n Begin h.entry y) s.clean };
    begun = begun;
    seats = seats;
    opens = opens;
    below = below;
    apart = apart;
    locked = locked;
    locker = locker;
    idle = λ u rest k. idle u rest k (own_or_not u);
    holder = r.holder;
  }
    where
      idle : (u : TxnId) → m.mode u.node.0 ≡ Idle → IsKnown m' u → (u ≡ t) ⊎ ((u.node.0 ≢ t.node.0) ⊎ (u.seat ≢ t.seat)) → ⊥
      idle u rest k (inl e) = let never : Idle ≡ Up = sym rest ∙ (ap (λ (z : TxnId). m.mode z.node.0) e ∙ at_work) in absurd cc
      idle u rest k (inr ne) = r.idle u rest (known u ne k)

  pub begun_is : (j seat : ℕ) → begun_now.begun j seat ≡ begun j seat
  unfolding begun_now
  begun_is j seat = refl

pub begun_recoverable : BegunRecoverable
begun_recoverable dirty h p m t r means at_work fits unused no_lock = begun_now dirty h p m t r means at_work fits unused no_lock
