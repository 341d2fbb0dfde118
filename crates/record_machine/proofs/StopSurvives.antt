-- A store survives the stop of a node: its history after the stop means the machine after it, wherever a node stops next.
use Rattle.std.proofs.Common.{◌≡◌, ◌≢◌, ◌⊎◌, inl, inr, ◌+◌, ◌-◌, ◌≤◌, ℕ, Bool, true, List, [], length, take, drop, refl, ap, ap₂, sym, subst, ◌∙◌, arith, Some, None, take_all, eq-eqb, ne_eqb, count_by}
use Rattle.std.specs.List.{list_any}
use Rattle.std.proofs.lemmas.List.{drop_all}
use Rattle.std.proofs.lemmas.Bool.{cases_eq}
use Rattle.sd_base.specs.declared.names.TxnId.{TxnId}
use Rattle.log_record.specs.declared.record.LogRecord.{LogRecord}
use Rattle.record_locks.specs.declared.mode.Mode.TheVariants as locks
use Rattle.space_map.specs.PageImage.{ident_of}
use Rattle.recovery_theory.specs.Effect.{OpenUpdate, left_of, steps_on}
use Rattle.recovery_theory.specs.History.{History, entry_now}
use Rattle.recovery_theory.specs.Pages.{is_used}
use Rattle.recovery_theory.specs.Steps.{IsPlaceToCut, stopped}
use Rattle.recovery_theory.proofs.Cuts.{set_at-other, set_at-same}
use Rattle.recovery_theory.proofs.Headroom.{stop_keeps_rising}
use Rattle.recovery_theory.proofs.Room.{stop_keeps_room}
use Rattle.record_machine.specs.Cuts.{MayStop, Survives, TakesBackTo, TellsLog, behind_cut, deeds_at, seat_of, touches}
use Rattle.record_machine.specs.Machine.{Deed, Down, Idle, LooseChange, Machine, NodeMode, Up, is_begin_in, is_busy, writes_page, put}
use Rattle.record_machine.specs.Meaning.{Plain, first_record}
use Rattle.record_machine.specs.Recoverable.{HasSeat, IsKeptBy, IsKnown, IsStored, Recoverable, TellsSeat}
use Rattle.record_machine.specs.Stops.{entries_before, halted, ident_before, pending_before, tail_before}
use Rattle.record_machine.proofs.Put.{at_or_off, put_other, put_same}
use Rattle.record_machine.proofs.StopMeans.{homes_after, means_after}
use Rattle.record_machine.proofs.StopPages.{entry_here, entry_other, held, home_back, ident_is, image_here, image_other, live_other, long, map_is, off, page_is, plain_after, told}
use Rattle.record_machine.proofs.StopSteps.{idents_left, none_new, pending_others, tail_others, write_stays}
use Rattle.record_machine.proofs.TakenBack.{entries_agree, entries_left, ident_agrees, pending_agrees, tail_agrees, untouched}

module _ (dirty : ℕ → Bool) (h : History) (p : Plain) (m : Machine) (n cut : ℕ) (s : Survives dirty h p m) (place : IsPlaceToCut h n cut) where
  abbrev cs : List LooseChange
  cs = behind_cut h m n cut

  abbrev h' : History
  h' = stopped h n cut

  abbrev m' : Machine
  m' = halted n (length (m.loose n) - (length (h.live n) - cut)) m

  abbrev q : Plain
  q = plain_after dirty h p m n cut s place

  -- ---- the history

  known : (t : TxnId) → IsKnown m' t → IsKnown m t
  known t (inl b) = inl ((told dirty h p m n cut s place t.node.0).still t.seat b)
  known t (inr (key, mode)) = inr (key, none_new m.locks n key t locks.Write true mode)

  stored : (x : ℕ) → IsStored h x → IsStored h' x
  stored x is = go (cases_eq (h.guard x) n)
    where
      go : (h.guard x ≡ n) ⊎ (h.guard x ≢ n) → IsStored h' x
      go (inl g) =
          let low : h.last x ≤ cut = (let sure = is.sure in let at = subst (λ k. h.last x ≤ h.stable k) g sure in omega (arith, at, place.low)) in
          let same = s.recoverable.holds.history.steady x cut low (subst (λ k. cut ≤ length (h.live k)) (sym g) place.high) in
          record {
            sure = rw (eq-eqb (h.guard x) n g) (omega arith);
            clean = rw (image_here dirty h p m n cut s place x g ∙ same.0, entry_here dirty h p m n cut s place x g ∙ same.1) is.clean;
          }
      go (inr d) = record {
        sure = rw (ne_eqb (h.guard x) n d) is.sure;
        clean = rw (image_other dirty h p m n cut s place x d, entry_other dirty h p m n cut s place x d) is.clean;
      }

  seats : (t : TxnId) → is_busy m' t ≡ true → TellsSeat h' m' t (s.recoverable.begun t.node.0 t.seat)
  seats t b = let z = (told dirty h p m n cut s place t.node.0).seats t.seat b in record { left = z.left; going = z.going; begins = z.begins; writes = z.writes }

  opens : (j txn : ℕ) (left : List OpenUpdate) → left_of txn (h.devices.first j) (h'.live j) None ≡ Some left → HasSeat m' s.recoverable.begun j txn
  opens j txn left e = let z = (told dirty h p m n cut s place j).opens txn left e in record { who = seat_of j z.0; node = refl; busy = z.1; begins = z.2 }

  modes : (j : ℕ) (mode : NodeMode) → Down ≢ mode → m'.mode j ≡ mode → (j ≢ n) × (m.mode j ≡ mode)
  modes j mode not is = go (cases_eq j n)
    where
      go : (j ≡ n) ⊎ (j ≢ n) → (j ≢ n) × (m.mode j ≡ mode)
      go (inl e) = absurd (not (sym (put_same n Down m.mode j e) ∙ is))
      go (inr d) = (d, sym (put_other n Down m.mode j d) ∙ is)

  keeps : {x : ℕ} (g : ℕ) → IsKeptBy m x g → IsKeptBy m' x g
  keeps g (inl z) = inl (z.0, at_or_off (λ mode. mode ≢ Idle) n Down m.mode g (λ same e. absurd cc) (λ off. z.1))
  keeps g (inr z) = inr (z.0, at_or_off (λ mode. mode ≡ Down) n Down m.mode g (λ same. refl) (λ off. z.1))

  recoverable_after : Recoverable dirty h' q m'
  recoverable_after = record {
    holds = held dirty h p m n cut s place;
    roomy = stop_keeps_room h n cut s.recoverable.holds.history s.recoverable.roomy place;
    rolled = stop_keeps_rising h n cut s.recoverable.rolled place.high;
    shape = s.recoverable.shape;
    first = s.recoverable.first;
    live = λ j. refl;
    maps = map_is dirty h p m n cut s place;
    pages = λ x low high. page_is dirty h p m n cut s place x low;
    guard = s.recoverable.guard;
    stored = λ x e. stored x (s.recoverable.stored x e);
    begun = s.recoverable.begun;
    seats = seats;
    opens = opens;
    below = λ t up k. let z = modes t.node.0 Up (λ e. cc) up in rw (live_other dirty h p m n cut s place t.node.0 z.0) (s.recoverable.below t z.1 (known t k));
    apart = λ t u x y. s.recoverable.apart t u (known t x) (known u y);
    locked = λ t key x is mode. s.recoverable.locked t key x (home_back dirty h p m n cut s place key.0 x is) (none_new m.locks n key t locks.Write true mode);
    locker = λ o key x is e. (let l = s.recoverable.locker o key x (home_back dirty h p m n cut s place key.0 x is) e in (l.0, write_stays m.locks n key l.0 true refl l.1, l.2));
    idle = λ t rest k. s.recoverable.idle t (modes t.node.0 Idle (λ e. cc) rest).1 (known t k);
    holder = λ x e. keeps (h.guard x) (s.recoverable.holder x e);
  }

  -- ---- the next stop

  -- what a log tells of the machine as it was it tells of the machine now
  told_after : (j c : ℕ) → IsPlaceToCut h' j c → (ds : List Deed) → TellsLog m s.recoverable.begun j (h.devices.first j) (take c (h'.live j)) ds → ((seat : ℕ) → list_any (is_begin_in seat) ds ≡ true → is_busy m' (seat_of j seat) ≡ true)
      → TellsLog m' s.recoverable.begun j (h.devices.first j) (take c (h'.live j)) ds
  told_after j c at ds tells busy = record {
    deeds = tells.deeds;
    rising = tells.rising;
    homes = homes_after dirty h p m n cut s place j c at ds tells;
    locked = λ seat key any. write_stays m.locks n key (seat_of j seat) true refl (tells.locked seat key any);
    opened = tells.opened;
    still = busy;
    seats = tells.seats;
    opens = tells.opens;
    seen = λ seat key x left any is going. tells.seen seat key x left any (home_back dirty h p m n cut s place key.0 x is) going;
  }

  -- of the node itself nothing is loose
  back_here : (c : ℕ) → IsPlaceToCut h' n c → TakesBackTo h' m' s.recoverable.begun n c
  back_here c at = record {
    log = subst (λ l. TellsLog m' s.recoverable.begun n (h.devices.first n) (take c (h'.live n)) (pending_before n l m'.pending n)) (sym nothing)
        (told_after n c at (m'.pending n) (subst (λ l. TellsLog m s.recoverable.begun n (h.devices.first n) l (m'.pending n)) (sym (take_all c (h'.live n) (omega (arith, c_is, long dirty h p m n cut s place)))) (told dirty h p m n cut s place n)) (λ seat b. b));
    tail = ap (λ l. tail_before n l m'.tail n) nothing ∙ ((s.stops.back n cut place).tail ∙ ap (λ k. first_record m n + k) (sym c_is));
    ident = λ x lt g. ap (λ l. ident_before l m'.ident x) nothing ∙ (ident_is dirty h p m n cut s place x lt ∙ ap ident_of (image_here dirty h p m n cut s place x g ∙ ap (h.image x) (sym c_is)));
    entries = λ x map lt g e. ap (λ l. entries_before l m'.entries x) nothing ∙ (s.stops.back n cut place).entries x map lt g (ap (h.image x) (sym c_is) ∙ e);
    others = λ x how. ap (list_any (touches x)) nothing;
    writes = λ x. (let e = ap (λ l. count_by (writes_page x) (pending_before n l m'.pending n)) nothing in omega (arith, e));
  }
    where
      c_is : c ≡ cut
      c_is =
          let low = rw (set_at-same n cut h.stable) at at.low in
          let high = at.high in
          omega (arith, low, high, long dirty h p m n cut s place)

      nothing : behind_cut h' m' n c ≡ []
      nothing = ap (λ (l : List LooseChange). drop (length l - (length (h'.live n) - c)) l) (put_same n [] m.loose n refl) ∙ drop_all (0 - (length (h'.live n) - c)) [] (omega arith)

  -- and of another one what was loose
  back_other : (j : ℕ) → j ≢ n → (c : ℕ) → IsPlaceToCut h' j c → TakesBackTo h' m' s.recoverable.begun j c
  back_other j d c at = record {
    log = subst (λ ds. TellsLog m' s.recoverable.begun j (h.devices.first j) (take c (h'.live j)) ds) (sym deeds) (told_after j c at (deeds_at h m j c)
        (subst (λ l. TellsLog m s.recoverable.begun j (h.devices.first j) (take c l) (deeds_at h m j c)) (sym (live_other dirty h p m n cut s place j d)) b.log)
        (λ seat any. ap (list_any (is_begin_in seat)) (pending_others n j cs m.pending d) ∙ b.log.still seat any));
    tail = ap (λ l. tail_before j l m'.tail j) same ∙ (tail_agrees j (behind_cut h m j c) m'.tail m.tail (tail_others n j cs m.tail d) ∙ b.tail);
    ident = λ x lt g. ap (λ l. ident_before l m'.ident x) same ∙ (ident_agrees x (behind_cut h m j c) m'.ident m.ident (idents_left x cs m.ident (untouched x cs (off dirty h p m n cut s place x (apart x g)))) ∙ b.ident x lt g);
    entries = λ x map lt g e. ap (λ l. entries_before l m'.entries x) same ∙ (entries_agree x (behind_cut h m j c) m'.entries m.entries (entries_left x cs m.entries (off dirty h p m n cut s place x (apart x g))) ∙ b.entries x map lt g e);
    others = λ x how. ap (list_any (touches x)) same ∙ b.others x (others x how (cases_eq (h.guard x) j));
    writes = λ x. (
        let one = ap (λ (ds : List Deed). count_by (writes_page x) ds) deeds in
        let two = ap (λ (ds : List Deed). count_by (writes_page x) ds) (pending_others n j cs m.pending d) in
        let three = ap (λ (l : List LogRecord). length (steps_on x (drop c l))) (live_other dirty h p m n cut s place j d) in
        let was = b.writes x in
        omega (arith, one, two, three, was));
  }
    where
      was_place : IsPlaceToCut h j c
      was_place = record { low = rw (set_at-other n cut h.stable j d) at at.low; high = rw (live_other dirty h p m n cut s place j d) at at.high }

      b : TakesBackTo h m s.recoverable.begun j c
      b = s.stops.back j c was_place

      same : behind_cut h' m' j c ≡ behind_cut h m j c
      same = ap₂ (λ (l : List LooseChange) (k : List LogRecord). drop (length l - (length k - c)) l) (put_other n [] m.loose j d) (live_other dirty h p m n cut s place j d)

      deeds : deeds_at h' m' j c ≡ deeds_at h m j c
      deeds = ap (λ l. pending_before j l m'.pending j) same ∙ pending_agrees j (behind_cut h m j c) m'.pending m.pending (pending_others n j cs m.pending d)

      apart : (x : ℕ) → h.guard x ≡ j → h.guard x ≢ n
      apart x g e = d (sym g ∙ e)

      others : (x : ℕ) → (h.guard x ≢ j) ⊎ (h'.last x ≤ c) → (h.guard x ≡ j) ⊎ (h.guard x ≢ j) → (h.guard x ≢ j) ⊎ (h.last x ≤ c)
      others x how (inr off) = inl off
      others x (inl off) (inl g) = inl off
      others x (inr le) (inl g) = inr (rw (ne_eqb (h.guard x) n (apart x g)) at le)

  used_after : (x c : ℕ) → IsPlaceToCut h' (h.guard x) c → is_used (h.entry x c) ≡ true → h.entry x c ≡ entry_now h' x
  used_after x c at used = go (cases_eq (h.guard x) n)
    where
      go : (h.guard x ≡ n) ⊎ (h.guard x ≢ n) → h.entry x c ≡ entry_now h' x
      go (inl g) =
          let at' = subst (λ k. IsPlaceToCut h' k c) g at in
          let low = rw (set_at-same n cut h.stable) at at'.low in
          let high = at'.high in
          let c_is : c ≡ cut = omega (arith, low, high, long dirty h p m n cut s place) in
          ap (h.entry x) c_is ∙ sym (entry_here dirty h p m n cut s place x g)
      go (inr d) = s.stops.used x c (record { low = rw (set_at-other n cut h.stable (h.guard x) d) at at.low; high = rw (live_other dirty h p m n cut s place (h.guard x) d) at at.high }) used ∙ sym (entry_other dirty h p m n cut s place x d)

  stops_after : m.mode n ≢ Idle → MayStop h' m' s.recoverable.begun
  stops_after working = record {
    enough = λ j. enough j (cases_eq j n);
    back = λ j c at. back j c at (cases_eq j n);
    used = used_after;
    resting = λ j rest. (let z = modes j Idle (λ e. cc) rest in put_other n [] m.loose j z.0 ∙ s.stops.resting j z.1);
    owners = λ key t mode had rest. s.stops.owners key t mode (none_new m.locks n key t mode true had) (modes t.node.0 Idle (λ e. cc) rest).1;
    nodes = λ j used. nodes j used (cases_eq j n);
  }
    where
      enough : (j : ℕ) → (j ≡ n) ⊎ (j ≢ n) → length (h'.live j) ≤ h'.stable j + length (m'.loose j)
      enough j (inl e) = subst (λ k. length (h'.live k) ≤ h'.stable k + length (m'.loose k)) (sym e) (rw (set_at-same n cut h.stable) (omega (arith, long dirty h p m n cut s place)))
      enough j (inr d) = rw (live_other dirty h p m n cut s place j d, set_at-other n cut h.stable j d, put_other n [] m.loose j d) (s.stops.enough j)

      nodes : (j : ℕ) → put n Down m.mode j ≢ Idle → (j ≡ n) ⊎ (j ≢ n) → (1 ≤ j) × (j ≤ m.shape.nodes)
      nodes j used (inl e) = s.stops.nodes j (λ rest. working (ap m.mode (sym e) ∙ rest))
      nodes j used (inr d) = s.stops.nodes j (λ rest. used (put_other n Down m.mode j d ∙ rest))

      back : (j c : ℕ) → IsPlaceToCut h' j c → (j ≡ n) ⊎ (j ≢ n) → TakesBackTo h' m' s.recoverable.begun j c
      back j c at (inl e) = subst (λ k. (c : ℕ) → IsPlaceToCut h' k c → TakesBackTo h' m' s.recoverable.begun k c) (sym e) back_here c at
      back j c at (inr d) = back_other j d c at

  pub survives_halt : m.mode n ≢ Idle → Survives dirty h' q m'
  unfolding recoverable_after
  survives_halt working = record { recoverable = recoverable_after; means = means_after dirty h p m n cut s place; stops = stops_after working }
