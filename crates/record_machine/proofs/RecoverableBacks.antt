-- The newest write of a transaction is taken back.
use Rattle.std.proofs.Common.{◌≡◌, ◌≢◌, ◌⊎◌, inl, inr, ◌==◌, ◌&&◌, ◌+◌, ◌<◌, ◌≤◌, ◌++◌, ℕ, suc, Bool, true, false, cond, List, [], ◌∷◌, length, filter, map, reverse, refl, ap, sym, subst, ◌∙◌, arith, Some, None, is_none, is_some, eq-eqb, ne_eqb}
use Rattle.std.proofs.lemmas.Bool.{cases_eq, cases_lt}
use Rattle.std.proofs.lemmas.List.{map-append, reverse-append}
use Rattle.std.proofs.lemmas.List.Folds.{list_any-append}
use Rattle.std.specs.List.{list_any}
use Rattle.sd_base.specs.declared.names.TxnId.{TxnId}
use Rattle.sd_base.specs.declared.page_op.PageOp.{PageOp}
use Rattle.page_image.specs.declared.page_view.PageView.{PageView}
use Rattle.page_image.specs.Change.{applied}
use Rattle.log_record.specs.declared.record.LogRecord.{LogRecord}
use Rattle.sd_base.specs.Shape.{page_count}
use Rattle.record_machine.specs.Machine as machine
use Rattle.record_machine.specs.Machine.{Deed, Machine, Write, deeds_of, home, is_begin_in, is_busy, is_write_in, newest_of, without_newest, writes_of}
use Rattle.record_machine.specs.Meaning.{Means, Plain, logged, with_page}
use Rattle.record_machine.specs.Parts as part
use Rattle.record_machine.proofs.Put.{put_true}
use Rattle.record_machine.proofs.BackSteps.{back_home, back_is, back_others, back_writes}
use Rattle.record_machine.proofs.DeedSteps.{one_txn}
use Rattle.record_machine.proofs.Homes.{home_is_data}
use Rattle.record_machine.proofs.Newest.{IsNewest, filter_rest, newest_is}
use Rattle.space_map.specs.PageImage.{PageImage, ident_of}
use Rattle.recovery_theory.specs.Pages.{IsSlotChange}
use Rattle.space_map.specs.PageImage.{data_page}
use Rattle.recovery_theory.specs.Effect.{OpenUpdate, down_to, effect_of, left_of}
use Rattle.recovery_theory.specs.Effect.Effect.{Begun, Compensated}
use Rattle.recovery_theory.specs.History.{History, entry_now, image_now}
use Rattle.recovery_theory.specs.Records.{Holds}
use Rattle.recovery_theory.specs.Room.{HasRoom}
use Rattle.recovery_theory.specs.Rules.{RuleOf, TakesBack, numbers}
use Rattle.recovery_theory.specs.Steps.{changed_page, set_at, with_record}
use Rattle.recovery_theory.proofs.SlotChanges.{StepIs, step_of_compensation}
use Rattle.recovery_theory.proofs.Cuts.{with_record-other, with_record-same}
use Rattle.recovery_theory.proofs.LogMoves.{left_of-old}
use Rattle.recovery_theory.proofs.OpenUpdates.{left_of-append}
use Rattle.recovery_theory.proofs.Room.{logged_keeps_room}
use Rattle.recovery_theory.proofs.RuledLogs.{both_ways}
use Rattle.recovery_theory.proofs.KeptRecords.{compensation_keeps}
use Rattle.record_machine.proofs.OpenSeats.{open_then}
use Rattle.record_machine.specs.Recoverable.{HasSeat, IsKeptBy, IsKnown, Recoverable, TellsSeat}
use Rattle.record_machine.specs.RecoverableParts.{BackRecoverable}
use Rattle.record_machine.proofs.LoggedLater.{live_more, longer}
use Rattle.record_machine.proofs.ChangedPages.{image_same, pages_now, rolled_now, stored_now}

-- a test of two parts picks what the second picks of what the first does
filter_and : (a b : Deed → Bool) (ds : List Deed) → filter (λ d. a d && b d) ds ≡ filter b (filter a ds)
filter_and a b [] = refl
filter_and a b (d ∷ ds) = go (a d) (b d) refl (filter_and a b ds)
  where
    go : (x y : Bool) → b d ≡ y → filter (λ d. a d && b d) ds ≡ filter b (filter a ds) → cond (x && b d) (d ∷ filter (λ d. a d && b d) ds) (filter (λ d. a d && b d) ds) ≡ filter b (cond x (d ∷ filter a ds) (filter a ds))
    go true true e h = rw e (ap (λ l. d ∷ l) h)
    go true false e h = rw e h
    go false y e h = h

any_middle : (test : Deed → Bool) (a b : List Deed) (d : Deed) → test d ≡ false → list_any test (a ++ b) ≡ list_any test (a ++ d ∷ b)
any_middle test a b d e = list_any-append test a b ∙ (rw e refl ∙ sym (list_any-append test a (d ∷ b)))

snoc_same : (a b : List ℕ) (x y : ℕ) → a ++ x ∷ [] ≡ b ++ y ∷ [] → a ≡ b
snoc_same [] [] x y e = refl
snoc_same [] (k ∷ []) x y e = absurd cc
snoc_same [] (k ∷ j ∷ b) x y e = absurd cc
snoc_same (k ∷ []) [] x y e = absurd cc
snoc_same (k ∷ j ∷ a) [] x y e = absurd cc
snoc_same (k ∷ a) (j ∷ b) x y e = let h : k ≡ j = cc in let r = snoc_same a b x y cc in rw (h, r) refl

module _ (dirty : ℕ → Bool) (h : History) (p : Plain) (m : Machine) (t : TxnId) (d : Deed) (w : Write) (rec : LogRecord) (next : ℕ) (op : PageOp) (v : PageView)
    (r : Recoverable dirty h p m) (means : Means p m) (busy : is_busy m t ≡ true) (newest : newest_of m t ≡ Some d) (write : d.write ≡ Some w) (held : m.hold w.page ≡ Some t.node.0)
    (is : effect_of rec ≡ Compensated (r.begun t.node.0 t.seat) next w.page (p.pages w.page).ident op) (slot : IsSlotChange op)
    (rule : RuleOf (h.devices.first t.node.0) (h.live t.node.0) rec (effect_of rec)) (fits : HasRoom h.devices t.node.0 (h.live t.node.0 ++ rec ∷ []))
    (new : v ≡ applied op (p.pages w.page)) (rises : v.ident ≡ (p.pages w.page).ident + 1) where
  abbrev n : ℕ
  n = t.node.0

  abbrev begin : ℕ
  begin = r.begun t.node.0 t.seat

  abbrev h' : History
  h' = changed_page h t.node.0 rec w.page op

  abbrev m' : Machine
  m' = part.taken_back t (Some w) m

  it : IsNewest t.seat (m.pending t.node.0) d
  it = newest_is t.seat (m.pending t.node.0) d newest

  is_home : home m w.key ≡ Some w.page
  is_home = back_home p m t d w newest write means.logs

  is_data : (m.shape.maps ≤ w.page) × (w.page < page_count m.shape)
  is_data = home_is_data p m w.key w.page means.pages is_home

  guarded : h.guard w.page ≡ t.node.0
  guarded = r.guard w.page t.node.0 held

  effect : effect_of rec ≡ Compensated begin next w.page (ident_of (image_now h w.page)) op
  effect = is ∙ ap (λ i. Compensated begin next w.page i op) (sym (ap ident_of (r.pages w.page is_data.0 is_data.1)))

  step : StepIs rec w.page (ident_of (image_now h w.page)) op
  step = step_of_compensation rec begin next w.page (ident_of (image_now h w.page)) op effect

  seat : TellsSeat h m t (r.begun t.node.0 t.seat)
  seat = r.seats t busy

  since : h.devices.first t.node.0 ≤ begin
  since = go (cases_lt begin (h.devices.first n))
    where
      go : (begin < h.devices.first n) ⊎ (h.devices.first n ≤ begin) → h.devices.first n ≤ begin
      go (inl lt) = let none = left_of-old begin (h.devices.first n) (h.live n) lt in let never : None ≡ Some seat.left = sym none ∙ seat.going in absurd cc
      go (inr le) = le

  took : TakesBack (h.devices.first n) (h.live n) begin next w.page op
  took = (subst (RuleOf (h.devices.first n) (h.live n) rec) is rule).1 since

  links : down_to next (took.undo ∷ took.rest) ≡ took.rest
  links = (both_ways (h.devices.first n) (h.live n) begin (took.undo ∷ took.rest) (r.roomy.whole.ruled n) since took.newest).takes_back next w.page op took

  left_is : seat.left ≡ took.undo ∷ took.rest
  left_is = let e : Some seat.left ≡ Some (took.undo ∷ took.rest) = sym seat.going ∙ took.newest in cc

  records : Holds h' m.records
  records = subst (λ o. Holds (changed_page h n rec w.page o) m.records) took.op_is
      (compensation_keeps h n begin w.page next took.undo took.rest rec m.records r.holds (record {
        effect = effect ∙ ap (Compensated begin next w.page (ident_of (image_now h w.page))) (sym took.op_is);
        next_is = links;
        guarded = guarded;
        is_data = rw (ap (λ s. s.maps) r.shape) is_data.0;
        newest = took.newest;
        page_is = took.page_is;
        slot_change = subst IsSlotChange (sym took.op_is) slot;
      }))

  -- ---- the seats

  own_deeds : writes_of m t ≡ writes_of m' t ++ d ∷ []
  own_deeds = back_writes m t d w newest

  no_begin : is_begin_in t.seat d ≡ false
  no_begin = rw write (and_false (d.seat == t.seat))
    where
      and_false : (b : Bool) → (b && false) ≡ false
      and_false true = refl
      and_false false = refl

  pending_own : m'.pending t.node.0 ≡ without_newest t.seat (m.pending t.node.0)
  pending_own = rw (eq-eqb t.node.0 t.node.0 refl) refl

  own_seat : TellsSeat h' m' t (r.begun t.node.0 t.seat)
  own_seat = record {
    left = took.rest;
    going = rw (with_record-same n rec h.live) (left_of-append begin (h.devices.first n) (h.live n) rec None ∙ rw (is, eq-eqb begin begin refl, took.newest) (ap (λ l. Some l) links));
    begins =
        let some : filter (is_begin_in t.seat) (m'.pending t.node.0) ≡ filter (is_begin_in t.seat) (m.pending t.node.0) = ap (filter (is_begin_in t.seat)) pending_own ∙ filter_rest t.seat (is_begin_in t.seat) (m.pending t.node.0) d it no_begin in
        sym (filter_and (λ (e : Deed). e.seat == t.seat) (λ (e : Deed). is_none e.write) (m'.pending t.node.0)) ∙ (some ∙ (filter_and (λ (e : Deed). e.seat == t.seat) (λ (e : Deed). is_none e.write) (m.pending t.node.0) ∙ seat.begins));
    writes =
        let now = filter_and (λ (e : Deed). e.seat == t.seat) (λ (e : Deed). is_some e.write) (m'.pending t.node.0) in
        let was = filter_and (λ (e : Deed). e.seat == t.seat) (λ (e : Deed). is_some e.write) (m.pending t.node.0) in
        let all : map (λ (e : Deed). e.number) (writes_of m' t) ++ d.number ∷ [] ≡ reverse (numbers took.rest) ++ took.undo.number ∷ [] =
        sym (map-append (λ (e : Deed). e.number) (writes_of m' t) (d ∷ [])) ∙ (ap (map (λ (e : Deed). e.number)) (sym own_deeds ∙ was) ∙ (seat.writes ∙ (ap (λ l. reverse (numbers l)) left_is ∙ reverse-append (took.undo.number ∷ []) (numbers took.rest)))) in
        ap (map (λ (e : Deed). e.number)) (sym now) ∙ snoc_same (map (λ (e : Deed). e.number) (writes_of m' t)) (reverse (numbers took.rest)) d.number took.undo.number all;
  }

  others : (u : TxnId) → u ≢ t → deeds_of m' u ≡ deeds_of m u
  others u ne = ap (λ z. deeds_of z u) (sym (back_is m t d w newest write)) ∙ back_others m t u ne

  own_or_not : (u : TxnId) → (u ≡ t) ⊎ ((u ≢ t) × ((u.node.0 ≢ t.node.0) ⊎ (u.seat ≢ t.seat)))
  own_or_not u = go (cases_eq u.node.0 t.node.0) (cases_eq u.seat t.seat)
    where
      go : (u.node.0 ≡ t.node.0) ⊎ (u.node.0 ≢ t.node.0) → (u.seat ≡ t.seat) ⊎ (u.seat ≢ t.seat) → (u ≡ t) ⊎ ((u ≢ t) × ((u.node.0 ≢ t.node.0) ⊎ (u.seat ≢ t.seat)))
      go (inl a) (inl b) = inl (one_txn u t a b)
      go (inl a) (inr b) = inr (λ e. b (ap (λ (z : TxnId). z.seat) e), inr b)
      go (inr a) b = inr (λ e. a (ap (λ (z : TxnId). z.node.0) e), inl a)

  pub busy_same : (u : TxnId) → is_busy m' u ≡ is_busy m u
  busy_same u = go (cases_eq u.node.0 t.node.0)
    where
      none : is_begin_in u.seat d ≡ false
      none = rw write (and_false (d.seat == u.seat))
        where
          and_false : (b : Bool) → (b && false) ≡ false
          and_false true = refl
          and_false false = refl

      go : (u.node.0 ≡ t.node.0) ⊎ (u.node.0 ≢ t.node.0) → is_busy m' u ≡ is_busy m u
      go (inr k) = rw (ne_eqb u.node.0 t.node.0 k) refl
      go (inl k) = subst (λ z. list_any (is_begin_in u.seat) (m'.pending z) ≡ list_any (is_begin_in u.seat) (m.pending z)) (sym k)
          (ap (list_any (is_begin_in u.seat)) (pending_own ∙ it.rest) ∙ (any_middle (is_begin_in u.seat) it.before it.behind d none ∙ ap (list_any (is_begin_in u.seat)) (sym it.whole)))

  known : (u : TxnId) → IsKnown m' u → IsKnown m u
  known u (inl b) = inl (sym (busy_same u) ∙ b)
  known u (inr l) = inr l

  other_seat : (u : TxnId) → u ≢ t → (u.node.0 ≢ t.node.0) ⊎ (u.seat ≢ t.seat) → is_busy m u ≡ true → TellsSeat h' m' u (r.begun u.node.0 u.seat)
  other_seat u ne apart b =
      let z = r.seats u b in record {
        left = z.left;
        going = going (cases_eq u.node.0 n) apart ∙ z.going;
        begins = ap (filter (λ (e : Deed). is_none e.write)) (others u ne) ∙ z.begins;
        writes = ap (λ l. map (λ (e : Deed). e.number) (filter (λ (e : Deed). is_some e.write) l)) (others u ne) ∙ z.writes;
      }
    where
      going : (u.node.0 ≡ n) ⊎ (u.node.0 ≢ n) → (u.node.0 ≢ t.node.0) ⊎ (u.seat ≢ t.seat) → left_of (r.begun u.node.0 u.seat) (h.devices.first u.node.0) (with_record n rec h.live u.node.0) None ≡ left_of (r.begun u.node.0 u.seat) (h.devices.first u.node.0) (h.live u.node.0) None
      going (inr q) k = rw (with_record-other n rec h.live u.node.0 q) refl
      going (inl q) (inl k) = absurd (k q)
      going (inl q) (inr k) =
          let far : r.begun t.node.0 t.seat ≢ r.begun u.node.0 u.seat = λ e. k (sym (r.apart t u (inl busy) (inl b) (sym q) e)) in
          subst (λ z. left_of (r.begun u.node.0 u.seat) (h.devices.first z) (with_record n rec h.live z) None ≡ left_of (r.begun u.node.0 u.seat) (h.devices.first z) (h.live z) None) (sym q)
          (ap (λ l. left_of (r.begun u.node.0 u.seat) (h.devices.first n) l None) (with_record-same n rec h.live)
          ∙ (left_of-append (r.begun u.node.0 u.seat) (h.devices.first n) (h.live n) rec None ∙ rw (is, ne_eqb (r.begun t.node.0 t.seat) (r.begun u.node.0 u.seat) far) refl))

  seats : (u : TxnId) → is_busy m' u ≡ true → TellsSeat h' m' u (r.begun u.node.0 u.seat)
  seats u b = go (own_or_not u)
    where
      go : (u ≡ t) ⊎ ((u ≢ t) × ((u.node.0 ≢ t.node.0) ⊎ (u.seat ≢ t.seat))) → TellsSeat h' m' u (r.begun u.node.0 u.seat)
      go (inl e) = subst (λ z. TellsSeat h' m' z (r.begun z.node.0 z.seat)) (sym e) own_seat
      go (inr e) = other_seat u e.0 e.1 (sym (busy_same u) ∙ b)

  opens : (k txn : ℕ) (us : List OpenUpdate) → left_of txn (h.devices.first k) (with_record n rec h.live k) None ≡ Some us → HasSeat m' r.begun k txn
  opens = open_then h.devices.first n rec h.live (HasSeat m' r.begun) (λ b. let never : Begun ≡ Compensated begin next w.page (p.pages w.page).ident op = sym b ∙ is in absurd cc)
      (λ k txn us e apart. let z = r.opens k txn us e in record { who = z.who; node = z.node; busy = busy_same z.who ∙ z.busy; begins = z.begins })

  pub taken_back_now : Recoverable (machine.put w.page true dirty) h' (logged t.node.0 rec (with_page w.page v p)) m'
  taken_back_now = record {
    holds = records;
    roomy = logged_keeps_room h n rec (entry_now h) (set_at w.page (Rattle.space_map.specs.PageImage.changed op (image_now h w.page)) (image_now h)) (set_at w.page (suc (length (h.live n))) h.last) r.holds.history r.roomy rule (rw is refl) fits;
    rolled = rolled_now dirty h p m n w.page rec op v r guarded is_data step new rises;
    shape = r.shape;
    first = r.first;
    live = live_more n rec h.live p.live r.live;
    maps = λ y lt. image_same dirty h p m n w.page rec op v r guarded is_data step new rises y (λ e. absurd (omega (arith, is_data.0))) ∙ r.maps y lt;
    pages = pages_now dirty h p m n w.page rec op v r guarded is_data step new rises;
    guard = r.guard;
    stored = stored_now dirty h p m n w.page rec op v r guarded is_data step new rises;
    begun = r.begun;
    seats = seats;
    opens = opens;
    below = λ u up k. longer n rec h.devices.first h.live u.node.0 (r.begun u.node.0 u.seat) (r.below u up (known u k));
    idle = λ u rest k. r.idle u rest (known u k);
    holder = put_true dirty w.page (λ y. IsKeptBy m' y (h.guard y)) (subst (IsKeptBy m' w.page) (sym guarded) (inl (held, λ rest. r.idle t rest (inl busy)))) r.holder;
    apart = λ a b x y. r.apart a b (known a x) (known b y);
    locked = r.locked;
    locker = r.locker;
  }

  pub taken_back_begun : taken_back_now.begun ≡ r.begun
  unfolding taken_back_now
  taken_back_begun = refl

pub back_recoverable : BackRecoverable
back_recoverable dirty h p m t d w rec next op v r means busy newest write held is slot rule fits new rises =
    subst (λ z. Recoverable (machine.put w.page true dirty) (changed_page h t.node.0 rec w.page op) (logged t.node.0 rec (with_page w.page v p)) z) (sym (back_is m t d w newest write))
    (taken_back_now dirty h p m t d w rec next op v r means busy newest write held is slot rule fits new rises)
