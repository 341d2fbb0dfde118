-- A transaction begins, writes a record, or takes its newest write back: the loose change that the machine keeps is what the
-- record of it changes.
use Rattle.std.proofs.Common.{◌≡◌, ◌≢◌, ◌⊎◌, inl, inr, ◌==◌, ◌&&◌, ◌||◌, ◌+◌, ◌<◌, ◌≤◌, ◌++◌, ◌∷◌, ℕ, suc, Bool, true, false, cond, List, [], length, take, refl, ap, sym, subst, ◌∙◌, arith, Some, None, eq-eqb, eqb-true, count_by}
use Rattle.std.specs.List.{list_any}
use Rattle.std.proofs.lemmas.Bool.{cases_eq}
use Rattle.std.proofs.lemmas.List.Folds.{list_any-append}
use Rattle.std.proofs.lemmas.List.Sums.{sum_by_push}
use Rattle.sd_base.specs.declared.names.Key.{Key}
use Rattle.sd_base.specs.declared.names.TxnId.{TxnId}
use Rattle.sd_base.specs.declared.page_op.PageOp.{PageOp}
use Rattle.page_image.specs.declared.page_view.PageView.{PageView}
use Rattle.log_record.specs.declared.record.LogRecord.{LogRecord}
use Rattle.log_record.specs.declared.record.LogRecord.TheVariants.{Begin}
use Rattle.record_locks.specs.declared.mode.Mode.TheVariants as locks
use Rattle.record_locks.specs.Held.{mode_of}
use Rattle.recovery_theory.specs.Effect.{step_of_effect, step_on}
use Rattle.recovery_theory.specs.History.{History, entry_now, image_now}
use Rattle.recovery_theory.specs.Room.{HasRoom}
use Rattle.recovery_theory.specs.Steps.{IsPlaceToCut, changed_page, set_at, with_record}
use Rattle.recovery_theory.specs.Steps as step
use Rattle.recovery_theory.proofs.Cuts.{set_at-other, set_at-same}
use Rattle.space_map.specs.PageImage as page
use Rattle.record_machine.specs.CutParts.{BackSurvives, BegunSurvives, ChangedSurvives}
use Rattle.record_machine.specs.Cuts.{MayStop, Survives, TellsLog, seat_of, touches}
use Rattle.record_machine.specs.Machine.{Deed, Idle, LooseChange, Machine, Up, deeds_of, home, is_begin_in, is_busy, put, without_newest, writes_page}
use Rattle.record_machine.specs.Meaning.{Means, Plain, logged, with_page, writes_key}
use Rattle.record_machine.specs.Parts as part
use Rattle.record_machine.specs.Parts.{before, one, taken_back}
use Rattle.record_machine.specs.Recoverable.{Recoverable}
use Rattle.record_machine.proofs.BackSteps.{back_is}
use Rattle.record_machine.proofs.CutSteps.{opened_now, put_back, told_still}
use Rattle.record_machine.proofs.DeedSteps.{one_txn}
use Rattle.record_machine.proofs.Deeds.{writes_none}
use Rattle.record_machine.proofs.LoggedStops.{LogGrows, MachineGrows, logged_stops}
use Rattle.record_machine.proofs.Newest.{IsNewest, count_rest, newest_is, written_less}
use Rattle.record_machine.proofs.Put.{at_or_off, put_other, put_same}
use Rattle.record_machine.proofs.RecoverableBacks.{busy_same, taken_back_begun, taken_back_now}
use Rattle.record_machine.proofs.RecoverableBegins.{begun_is, begun_now, begun_other, not_busy}
use Rattle.record_machine.proofs.RecoverableChanges.{changed_recoverable, recoverable_begun}
use Rattle.record_machine.proofs.SeatDeeds.{busy_begun, busy_written}
use Rattle.record_machine.proofs.Steps.{means_back, means_begun, means_changed}
use Rattle.record_machine.proofs.ToldNow.{AreOpened, entries_now, ident_now, tail_now, told_now}

or_first : (a b : Bool) → a ≡ true → (a || b) ≡ true
or_first true b e = refl
or_first false b e = absurd cc

or_cases : (a b : Bool) → (a || (b || false)) ≡ true → (a ≡ true) ⊎ (b ≡ true)
or_cases true b e = inl refl
or_cases false true e = inr refl
or_cases false false e = absurd cc

-- one deed more, by a seat that is open
opened_push : (m : Machine) (n : ℕ) (d : Deed) → AreOpened m → ((seat key : ℕ) → writes_key seat key d ≡ true → list_any (is_begin_in seat) (m.pending n) ≡ true)
    → (j seat key : ℕ) → list_any (writes_key seat key) (put n (m.pending n ++ d ∷ []) m.pending j) ≡ true → list_any (is_begin_in seat) (put n (m.pending n ++ d ∷ []) m.pending j) ≡ true
opened_push m n d opened own j seat key any = at_or_off (λ ds. list_any (writes_key seat key) ds ≡ true → list_any (is_begin_in seat) ds ≡ true) n (m.pending n ++ d ∷ []) m.pending j
    (λ e any. list_any-append (is_begin_in seat) (m.pending n) (d ∷ []) ∙ or_first (list_any (is_begin_in seat) (m.pending n)) (list_any (is_begin_in seat) (d ∷ []))
    (here (or_cases (list_any (writes_key seat key) (m.pending n)) (writes_key seat key d) (sym (list_any-append (writes_key seat key) (m.pending n) (d ∷ [])) ∙ any))))
    (λ e any. opened j seat key any) any
  where
    here : (list_any (writes_key seat key) (m.pending n) ≡ true) ⊎ (writes_key seat key d ≡ true) → list_any (is_begin_in seat) (m.pending n) ≡ true
    here (inl old) = opened n seat key old
    here (inr new) = own seat key new

-- and no fewer writes of a page
more_writes : (x : ℕ) (ds : List Deed) (d : Deed) → count_by (writes_page x) ds ≤ count_by (writes_page x) (ds ++ d ∷ [])
more_writes x ds d = let e = sum_by_push (λ e. cond (writes_page x e) 1 0) ds d in omega (arith, e)

-- a seat, or another one
seat_cases : (u t : TxnId) → (u ≡ t) ⊎ ((u.node.0 ≢ t.node.0) ⊎ (u.seat ≢ t.seat))
seat_cases u t = go (cases_eq u.node.0 t.node.0) (cases_eq u.seat t.seat)
  where
    go : (u.node.0 ≡ t.node.0) ⊎ (u.node.0 ≢ t.node.0) → (u.seat ≡ t.seat) ⊎ (u.seat ≢ t.seat) → (u ≡ t) ⊎ ((u.node.0 ≢ t.node.0) ⊎ (u.seat ≢ t.seat))
    go (inl a) (inl b) = inl (one_txn u t a b)
    go (inl a) (inr b) = inr (inr b)
    go (inr a) b = inr (inl a)

-- ---- a transaction begins

module _ (dirty : ℕ → Bool) (h : History) (p : Plain) (m : Machine) (t : TxnId) (s : Survives dirty h p m) (up : m.mode t.node.0 ≡ Up)
    (fits : HasRoom h.devices t.node.0 (h.live t.node.0 ++ Begin ∷ [])) (unused : deeds_of m t ≡ []) (no_lock : (key : Key) → mode_of m.locks key t ≢ Some locks.Write) where
  abbrev h1 : History
  h1 = step.logged h t.node.0 Begin (entry_now h) (image_now h) h.last

  abbrev p1 : Plain
  p1 = logged t.node.0 Begin p

  abbrev m1 : Machine
  m1 = one (part.Begin t) m

  abbrev r1 : Recoverable dirty h1 p1 m1
  r1 = begun_now dirty h p m t s.recoverable s.means up fits unused no_lock

  means1 : Means p1 m1
  means1 = means_begun p m t s.means

  d1 : Deed
  d1 = record { number = m.tail t.node.0; seat = t.seat; write = None }

  grows1 : MachineGrows m m1 t.node.0 (before t.node.0 [] None m)
  grows1 = record {
    shape = refl;
    start = λ j. refl;
    mode = λ j. refl;
    loose_here = put_same t.node.0 (m.loose t.node.0 ++ before t.node.0 [] None m ∷ []) m.loose t.node.0 refl;
    loose_other = λ j d. put_other t.node.0 (m.loose t.node.0 ++ before t.node.0 [] None m ∷ []) m.loose j d;
    locks = refl;
    pending_other = λ j d. put_other t.node.0 (m.pending t.node.0 ++ record { number = m.tail t.node.0; seat = t.seat; write = None } ∷ []) m.pending j d;
    tail_other = λ j d. put_other t.node.0 (m.tail t.node.0 + 1) m.tail j d;
    number = refl;
    pending = refl;
    ident = λ x. refl;
    entries = λ x. refl;
  }

  opened1 : AreOpened m1
  opened1 = opened_push m t.node.0 (record { number = m.tail t.node.0; seat = t.seat; write = None }) (opened_now dirty h p m s)
      (λ seat key any. let never : true ≡ false = sym any ∙ writes_none seat key (record { number = m.tail t.node.0; seat = t.seat; write = None }) refl in absurd cc)

  told1 : (j k : ℕ) (ds : List Deed) → TellsLog m s.recoverable.begun j (h.devices.first j) (take k (h.live j)) ds → TellsLog m1 r1.begun j (h.devices.first j) (take k (h.live j)) ds
  told1 j k ds tells = told_still m m1 s.recoverable.begun r1.begun j (h.devices.first j) (take k (h.live j)) ds tells (λ seat key any. refl) (λ key x e. e) (λ seat key x any e. e) (λ seat key any e. e)
      (λ seat any e. busy seat e (seat_cases (seat_of j seat) t)) (λ seat any. same seat (tells.still seat any) (seat_cases (seat_of j seat) t))
    where
      busy : (seat : ℕ) → is_busy m (seat_of j seat) ≡ true → (seat_of j seat ≡ t) ⊎ ((j ≢ t.node.0) ⊎ (seat ≢ t.seat)) → is_busy m1 (seat_of j seat) ≡ true
      busy seat e (inl q) = absurd (not_busy dirty h p m t s.recoverable s.means up fits unused no_lock (ap (is_busy m) (sym q) ∙ e))
      busy seat e (inr ne) = busy_begun m t (seat_of j seat) (record { number = m.tail t.node.0; seat = t.seat; write = None }) refl ne ∙ e

      same : (seat : ℕ) → is_busy m (seat_of j seat) ≡ true → (seat_of j seat ≡ t) ⊎ ((j ≢ t.node.0) ⊎ (seat ≢ t.seat)) → r1.begun j seat ≡ s.recoverable.begun j seat
      same seat e (inl q) = absurd (not_busy dirty h p m t s.recoverable s.means up fits unused no_lock (ap (is_busy m) (sym q) ∙ e))
      same seat e (inr ne) = begun_is dirty h p m t s.recoverable s.means up fits unused no_lock j seat ∙ begun_other dirty h p m t s.recoverable s.means up fits unused no_lock (seat_of j seat) ne

  log1 : LogGrows h h1 m m1 s.recoverable.begun r1.begun t.node.0 Begin (before t.node.0 [] None m) (entry_now h) h.last
  log1 = record {
    touched = λ x e. absurd cc;
    kept = λ x k e le how. le;
    told = λ j k ds at tells. told1 j k ds tells;
    now = told_now dirty h1 p1 m1 r1 means1 opened1 t.node.0;
    tail = tail_now dirty h1 p1 m1 r1 means1 t.node.0;
    ident_is = ident_now dirty h1 p1 m1 r1 means1;
    entries_are = entries_now dirty h1 p1 m1 r1 means1;
    writes = λ x. (
        let e = ap (λ (ds : List Deed). count_by (writes_page x) ds) (put_same t.node.0 (m.pending t.node.0 ++ record { number = m.tail t.node.0; seat = t.seat; write = None } ∷ []) m.pending t.node.0 refl) in
        let le = more_writes x (m.pending t.node.0) (record { number = m.tail t.node.0; seat = t.seat; write = None }) in
        omega (arith, e, le));
    used = λ x e. refl;
    at_work = λ e. (let never : Idle ≡ Up = sym e ∙ up in absurd cc);
  }

  pub begun_here : Survives dirty h1 p1 m1
  begun_here = record {
    recoverable = r1;
    means = means1;
    stops = logged_stops h m m1 s.recoverable.begun r1.begun t.node.0 Begin (before t.node.0 [] None m) (entry_now h) (image_now h) h.last h.lock s.stops (s.recoverable.holds.history.sound t.node.0) grows1 log1;
  }

pub begun_survives : BegunSurvives
begun_survives dirty h p m t s up fits unused no_lock = begun_here dirty h p m t s up fits unused no_lock

-- ---- a change of one data page, by a machine that has one more loose change of it

module _ (dirty : ℕ → Bool) (h : History) (p : Plain) (m : Machine) (s : Survives dirty h p m) (n x : ℕ) (rec : LogRecord) (op : PageOp) (v : PageView) (m' : Machine)
    (up : m.mode n ≢ Idle) (held : m.hold x ≡ Some n)
    (r' : Recoverable (put x true dirty) (changed_page h n rec x op) (logged n rec (with_page x v p)) m') (begun : r'.begun ≡ s.recoverable.begun) (means' : Means (logged n rec (with_page x v p)) m') (opened' : AreOpened m')
    (grows : MachineGrows m m' n (before n (x ∷ []) None m))
    (records : m'.records ≡ m.records) (homes : (key : ℕ) → home m' key ≡ home m key) (held' : m'.locks ≡ m.locks) (busy : (u : TxnId) → is_busy m' u ≡ is_busy m u)
    (writes : (y : ℕ) → count_by (writes_page y) (m.pending n) ≤ count_by (writes_page y) (m'.pending n) + length (step_on y rec)) where
  abbrev h2 : History
  h2 = changed_page h n rec x op

  abbrev c2 : LooseChange
  c2 = before n (x ∷ []) None m

  abbrev last2 : ℕ → ℕ
  last2 = set_at x (suc (length (h.live n))) h.last

  touched2 : (y : ℕ) → touches y (before n (x ∷ []) None m) ≡ true → y ≡ x
  touched2 y e = sym (eqb-true x y (by (x == y) e))
    where
      by : (b : Bool) → ((b || false) || false) ≡ true → b ≡ true
      by true e = refl
      by false e = absurd cc

  kept2 : (y : ℕ) → touches y (before n (x ∷ []) None m) ≡ false → y ≢ x
  kept2 y e same = let never : true ≡ false = rw (eq-eqb x y (sym same)) at e in absurd cc

  log2 : LogGrows h h2 m m' s.recoverable.begun s.recoverable.begun n rec (before n (x ∷ []) None m) (entry_now h) last2
  log2 = record {
    touched = λ y e. (let q = touched2 y e in (ap h.guard q ∙ s.recoverable.guard x n held, subst (λ z. length (h.live n) < set_at x (suc (length (h.live n))) h.last z) (sym q) (rw (set_at-same x (suc (length (h.live n))) h.last) (omega arith))));
    kept = λ y k e le how. rw (set_at-other x (suc (length (h.live n))) h.last y (kept2 y e)) at le;
    told = λ j k ds at tells. told_still m m' s.recoverable.begun s.recoverable.begun j (h.devices.first j) (take k (h.live j)) ds tells
        (λ seat key any. ap (λ f. f key) records) (λ key y e. homes key ∙ e) (λ seat key y any e. sym (homes key) ∙ e) (λ seat key any e. ap (λ l. mode_of l key (seat_of j seat)) held' ∙ e) (λ seat any e. busy (seat_of j seat) ∙ e) (λ seat any. refl);
    now = subst (λ b. TellsLog m' b n (h.devices.first n) (with_record n rec h.live n) (m'.pending n)) begun (told_now (put x true dirty) h2 (logged n rec (with_page x v p)) m' r' means' opened' n);
    tail = tail_now (put x true dirty) h2 (logged n rec (with_page x v p)) m' r' means' n;
    ident_is = ident_now (put x true dirty) h2 (logged n rec (with_page x v p)) m' r' means';
    entries_are = entries_now (put x true dirty) h2 (logged n rec (with_page x v p)) m' r' means';
    writes = writes;
    used = λ y e. refl;
    at_work = up;
  }

  pub change_stops : MayStop h2 m' r'.begun
  change_stops = subst (MayStop h2 m') (sym begun)
      (logged_stops h m m' s.recoverable.begun s.recoverable.begun n rec (before n (x ∷ []) None m) (entry_now h) (set_at x (page.changed op (image_now h x)) (image_now h)) last2 h.lock s.stops (s.recoverable.holds.history.sound n) grows log2)

-- ---- a record is written

pub changed_survives : ChangedSurvives
changed_survives dirty h p m t w rec op v s up busy is_home held mode tells change txn bsi rule fits new at room owing = record {
  recoverable = changed_recoverable dirty h p m t w rec op v s.recoverable s.means busy is_home held mode tells change txn bsi rule fits new at;
  means = means_changed p m t w rec v is_home mode tells at room owing s.means;
  stops = change_stops dirty h p m s t.node.0 w.page rec op v (one (part.Change t w) m) up held
      (changed_recoverable dirty h p m t w rec op v s.recoverable s.means busy is_home held mode tells change txn bsi rule fits new at) (recoverable_begun dirty h p m t w rec op v s.recoverable s.means busy is_home held mode tells change txn bsi rule fits new at) (means_changed p m t w rec v is_home mode tells at room owing s.means)
      (opened_push m t.node.0 d (opened_now dirty h p m s) own)
      (record {
        shape = refl;
        start = λ j. refl;
        mode = λ j. refl;
        loose_here = put_same t.node.0 (m.loose t.node.0 ++ before t.node.0 (w.page ∷ []) None m ∷ []) m.loose t.node.0 refl;
        loose_other = λ j d. put_other t.node.0 (m.loose t.node.0 ++ before t.node.0 (w.page ∷ []) None m ∷ []) m.loose j d;
        locks = refl;
        pending_other = λ j e. put_other t.node.0 (m.pending t.node.0 ++ d ∷ []) m.pending j e;
        tail_other = λ j d. put_other t.node.0 (m.tail t.node.0 + 1) m.tail j d;
        number = refl;
        pending = refl;
        ident = λ x. put_back w.page (m.ident w.page + 1) m.ident x;
        entries = λ x. refl;
      })
      refl (λ key. refl) refl (λ u. busy_written m t u d w refl)
      (λ x. let e = ap (λ (ds : List Deed). count_by (writes_page x) ds) (put_same t.node.0 (m.pending t.node.0 ++ d ∷ []) m.pending t.node.0 refl) in let le = more_writes x (m.pending t.node.0) d in omega (arith, e, le));
}
  where
    d : Deed
    d = record { number = m.tail t.node.0; seat = t.seat; write = Some w }

    own : (seat key : ℕ) → writes_key seat key d ≡ true → list_any (is_begin_in seat) (m.pending t.node.0) ≡ true
    own seat key any = by (t.seat == seat) refl any
      where
        by : (b : Bool) → (t.seat == seat) ≡ b → (b && (w.key == key)) ≡ true → list_any (is_begin_in seat) (m.pending t.node.0) ≡ true
        by true e k = subst (λ i. list_any (is_begin_in i) (m.pending t.node.0) ≡ true) (eqb-true t.seat seat e) busy
        by false e k = absurd cc

-- ---- the newest write is taken back

pub back_survives : BackSurvives
back_survives dirty h p m t d w rec next op v s up busy newest write low high held is slot rule fits new at =
    subst (λ z. Survives (put w.page true dirty) (changed_page h t.node.0 rec w.page op) (logged t.node.0 rec (with_page w.page v p)) z) (sym same) (record {
      recoverable = taken_back_now dirty h p m t d w rec next op v s.recoverable s.means busy newest write held is slot rule fits new at.ident;
      means = means';
      stops = change_stops dirty h p m s t.node.0 w.page rec op v (taken_back t (Some w) m) up held
          (taken_back_now dirty h p m t d w rec next op v s.recoverable s.means busy newest write held is slot rule fits new at.ident)
          (taken_back_begun dirty h p m t d w rec next op v s.recoverable s.means busy newest write held is slot rule fits new at.ident) means' opened'
          (record {
            shape = refl;
            start = λ j. refl;
            mode = λ j. refl;
            loose_here = put_same t.node.0 (m.loose t.node.0 ++ before t.node.0 (w.page ∷ []) None m ∷ []) m.loose t.node.0 refl;
            loose_other = λ j d. put_other t.node.0 (m.loose t.node.0 ++ before t.node.0 (w.page ∷ []) None m ∷ []) m.loose j d;
            locks = refl;
            pending_other = λ j e. put_other t.node.0 (without_newest t.seat (m.pending t.node.0)) m.pending j e;
            tail_other = λ j d. put_other t.node.0 (m.tail t.node.0 + 1) m.tail j d;
            number = refl;
            pending = refl;
            ident = λ x. put_back w.page (m.ident w.page + 1) m.ident x;
            entries = λ x. refl;
          })
          refl (λ key. refl) refl (λ u. still u) writes;
    })
  where
    same : one (part.Back t) m ≡ taken_back t (Some w) m
    same = back_is m t d w newest write

    means' : Means (logged t.node.0 rec (with_page w.page v p)) (taken_back t (Some w) m)
    means' = subst (Means (logged t.node.0 rec (with_page w.page v p))) same (means_back p m t d w rec v newest write low high at s.means)

    still : (u : TxnId) → is_busy (taken_back t (Some w) m) u ≡ is_busy m u
    still = busy_same dirty h p m t d w rec next op v s.recoverable s.means busy newest write held is slot rule fits new at.ident

    it : IsNewest t.seat (m.pending t.node.0) d
    it = newest_is t.seat (m.pending t.node.0) d newest

    opened' : AreOpened (taken_back t (Some w) m)
    opened' j seat key any = still (seat_of j seat) ∙ opened_now dirty h p m s j seat key (at_or_off (λ ds. list_any (writes_key seat key) ds ≡ true → list_any (writes_key seat key) (m.pending j) ≡ true) t.node.0 (without_newest t.seat (m.pending t.node.0)) m.pending j
        (λ e any. ap (λ i. list_any (writes_key seat key) (m.pending i)) e ∙ written_less t.seat seat key (m.pending t.node.0) d it any)
        (λ e any. any) any)

    writes : (x : ℕ) → count_by (writes_page x) (m.pending t.node.0) ≤ count_by (writes_page x) (put t.node.0 (without_newest t.seat (m.pending t.node.0)) m.pending t.node.0) + length (step_on x rec)
    writes x =
        let here = ap (λ (ds : List Deed). count_by (writes_page x) ds) (put_same t.node.0 (without_newest t.seat (m.pending t.node.0)) m.pending t.node.0 refl) in
        let less = count_rest t.seat (writes_page x) (m.pending t.node.0) d it in
        let steps = one_step (w.page == x) refl in
        omega (arith, here, less, steps)
      where
        one_step : (b : Bool) → (w.page == x) ≡ b → cond (writes_page x d) 1 0 ≤ length (step_on x rec)
        one_step true e = rw write (rw e (rw (ap (step_of_effect x) is) (rw e (omega arith))))
        one_step false e = rw write (rw e (omega arith))
