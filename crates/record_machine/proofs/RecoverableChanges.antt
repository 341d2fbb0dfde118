-- A change of a record is an update in the history.
use Rattle.std.proofs.Common.{◌≡◌, ◌≢◌, ◌⊎◌, inl, inr, ◌+◌, ◌<◌, ◌≤◌, ◌++◌, ℕ, suc, Bool, true, cond, eqb, List, [], ◌∷◌, length, filter, map, reverse, take, refl, ap, ap₂, sym, subst, ◌∙◌, arith, Some, None, is_none, is_some, append-nil, unwrap_or, slice_index_or, eq-eqb, ne_eqb, take_all}
use Rattle.std.proofs.lemmas.Bool.{cases_eq}
use Rattle.std.proofs.lemmas.List.Elements.{filter-append}
use Rattle.std.proofs.lemmas.List.{reverse-append, take-append-le, map-append}
use Rattle.sd_base.specs.declared.names.GroupNo.{GroupNo}
use Rattle.sd_base.specs.declared.names.TxnId.{TxnId}
use Rattle.sd_base.specs.declared.page_op.PageOp.{PageOp}
use Rattle.sd_base.specs.declared.page_op.PageOp.TheVariants as ops
use Rattle.page_image.specs.declared.page_view.PageView.{PageView}
use Rattle.page_image.specs.Change.{applied}
use Rattle.space_map.specs.declared.map_entry.MapEntry.{MapEntry}
use Rattle.space_map.specs.declared.map_entry.MapEntry.TheVariants.{Free, Used}
use Rattle.space_map.specs.Entry.{is_used_by}
use Rattle.log_record.specs.declared.record.LogRecord.{LogRecord}
use Rattle.log_record.specs.declared.record.LogRecord.TheVariants.{Begin, Set, Append, Commit, Abort, Restore, Cut, MapUse, MapFree}
use Rattle.log_record.specs.Fields.{fields_of}
use Rattle.log_record.specs.Record.{change_of}
use Rattle.sd_base.specs.Shape.{page_count}
use Rattle.sd_base.specs.Places.{group_of, map_of_key, page_of_place, slot_of_key}
use Rattle.record_machine.specs.Machine as machine
use Rattle.record_machine.specs.Machine.{Deed, Machine, Up, Write, home, is_busy, seen}
use Rattle.record_machine.specs.Meaning.{IsChangedAt, Means, Plain, Tells}
use Rattle.record_machine.proofs.Put.{put_true}
use Rattle.record_machine.proofs.Homes.{HasPlace, home_is_data, place_of as place_of_key}
use Rattle.record_machine.proofs.LockSteps.{seen_locked}
use Rattle.record_locks.specs.declared.mode.Mode.TheVariants as locks
use Rattle.space_map.specs.PageImage.{changed, ident_of}
use Rattle.recovery_theory.specs.Pages.{IsImageOf, IsSlotChange, SlotValue, entries_of, is_used, place_of, slot_after, slots_of}
use Rattle.space_map.specs.PageImage.{data_page}
use Rattle.recovery_theory.specs.Effect.{OpenUpdate, effect_of, left_of}
use Rattle.recovery_theory.specs.Effect.Effect.{Begun, Updated}
use Rattle.recovery_theory.specs.History.{History, entry_now, image_now}
use Rattle.recovery_theory.specs.Records.{Holds}
use Rattle.recovery_theory.specs.Rules.{numbers}
use Rattle.recovery_theory.specs.Steps.{changed_page, set_at, with_record}
use Rattle.recovery_theory.proofs.Cuts.{with_record-other, with_record-same}
use Rattle.recovery_theory.proofs.PageLaws.{slots-changed_same}
use Rattle.recovery_theory.proofs.UpdatedRecords.{update_keeps}
use Rattle.recovery_theory.proofs.OpenUpdates.{left_of-append}
use Rattle.recovery_theory.proofs.SlotChanges.{StepIs, step_of_update}
use Rattle.recovery_theory.proofs.Room.{logged_keeps_room}
use Rattle.record_machine.proofs.OpenSeats.{open_then}
use Rattle.record_locks.specs.Held.{mode_of}
use Rattle.recovery_theory.specs.Room.{HasRoom}
use Rattle.recovery_theory.specs.Rules.{RuleOf}
use Rattle.record_machine.specs.Recoverable.{HasSeat, IsKeptBy, IsKnown, Recoverable, TellsSeat}
use Rattle.record_machine.specs.RecoverableParts.{ChangedRecoverable}
use Rattle.record_machine.proofs.LoggedLater.{longer}
use Rattle.record_machine.proofs.ChangedPages.{apply_data, image_same, pages_now, rolled_now, stored_now}
use Rattle.record_machine.proofs.SeatDeeds.{busy_written, deeds_other, deeds_own}

-- ---- what the record does

-- an update of a slot with what takes it back, where it is known what the slot held
pub record IsUpdate (rec : LogRecord) (slot : ℕ) (v : SlotValue) (op : PageOp) : Type 0 where
  pub back : PageOp
  pub effect : effect_of rec ≡ Updated (fields_of rec).txn (fields_of rec).page (fields_of rec).bsi op back
  pub place : place_of op ≡ slot
  pub slot_op : slot < 16 → IsSlotChange op
  pub back_place : place_of back ≡ place_of op
  pub inverse : slot_after back (slot_after op v) ≡ v

pub update_of : (rec : LogRecord) (w : Write) (v : SlotValue) (op : PageOp) → Tells rec w v → change_of rec ≡ Some op → slot_after op v ≡ w.value → IsUpdate rec (slot_of_key w.key) v op
update_of Begin w v op t e h = absurd t
update_of (Commit txn prev) w v op t e h = absurd t
update_of (Abort txn prev) w v op t e h = absurd t
update_of (Restore txn prev next page bsi slot after) w v op t e h = absurd t
update_of (Cut txn prev next page bsi slot present len) w v op t e h = absurd t
update_of (MapUse page bsi place group) w v op t e h = absurd t
update_of (MapFree page bsi place group ident) w v op t e h = absurd t
update_of (Set txn prev page bsi slot before after) w v op t e h =
    let is : op ≡ ops.Put slot after = cc in record {
      back = ops.Put slot before;
      effect = rw is refl;
      place = rw is t.1;
      slot_op = λ lt. rw is (rw t.1 lt);
      back_place = rw is refl;
      inverse = t.2;
    }
update_of (Append txn prev page bsi slot present len bytes) w v op t e h =
    let is : op ≡ ops.Append slot bytes = cc in record {
      back = ops.Cut slot present len;
      effect = rw is refl;
      place = rw is t.1;
      slot_op = λ lt. rw is (rw t.1 lt);
      back_place = rw is refl;
      inverse = rw is (cut_back v t.2.0 t.2.1 (rw is at h) t.3);
    }
  where
    cut_back : (v : SlotValue) → present ≡ is_some v → len ≡ length (unwrap_or v []) → Some (take 248 (unwrap_or v [] ++ bytes)) ≡ w.value → w.value ≡ Some (unwrap_or v [] ++ bytes) → slot_after (ops.Cut slot present len) (Some (take 248 (unwrap_or v [] ++ bytes))) ≡ v
    cut_back None p l h e = rw p refl
    cut_back (Some u) p l h e =
        let whole : take 248 (u ++ bytes) ≡ u ++ bytes = (let z : Some (take 248 (u ++ bytes)) ≡ Some (u ++ bytes) = h ∙ e in cc) in
        rw (p, l, whole, take-append-le (length u) u bytes (omega arith), take_all (length u) u (omega arith)) refl

-- the slot that it changes
place_told : (rec : LogRecord) (w : Write) (v : SlotValue) (op : PageOp) → Tells rec w v → change_of rec ≡ Some op → (place_of op ≡ slot_of_key w.key) × IsSlotChange op
place_told Begin w v op t e = absurd t
place_told (Commit txn prev) w v op t e = absurd t
place_told (Abort txn prev) w v op t e = absurd t
place_told (Restore txn prev next page bsi slot after) w v op t e = absurd t
place_told (Cut txn prev next page bsi slot present len) w v op t e = absurd t
place_told (MapUse page bsi place group) w v op t e = absurd t
place_told (MapFree page bsi place group ident) w v op t e = absurd t
place_told (Set txn prev page bsi slot before after) w v op t e = let is : op ≡ ops.Put slot after = cc in let low : slot < 16 = omega (arith, t.1) in (rw is t.1, rw is low)
place_told (Append txn prev page bsi slot present len bytes) w v op t e = let is : op ≡ ops.Append slot bytes = cc in let low : slot < 16 = omega (arith, t.1) in (rw is t.1, rw is low)

used_by : (g : GroupNo) (e : MapEntry) → is_used_by g e ≡ true → is_used e ≡ true
used_by g (Free ident) h = cc
used_by g (Used group ident) h = refl

numbers_more : (us : List OpenUpdate) (u : OpenUpdate) (l : List ℕ) → l ≡ reverse (numbers us) → l ++ u.number ∷ [] ≡ reverse (numbers (u ∷ us))
numbers_more us u l e = ap (λ k. k ++ u.number ∷ []) e ∙ sym (reverse-append (u.number ∷ []) (numbers us))

module _ (dirty : ℕ → Bool) (h : History) (p : Plain) (m : Machine) (t : TxnId) (w : Write) (rec : LogRecord) (op : PageOp) (v : PageView)
    (r : Recoverable dirty h p m) (means : Means p m) (busy : is_busy m t ≡ true) (is_home : home m w.key ≡ Some w.page) (held : m.hold w.page ≡ Some t.node.0)
    (page_is : (fields_of rec).page ≡ w.page) (up : IsUpdate rec (slot_of_key w.key) (slots_of (image_now h w.page) (slot_of_key w.key)) op)
    (lock : h.lock w.page (slot_of_key w.key) ≡ Some (record { node = t.node.0; txn = r.begun t.node.0 t.seat }))
    (txn : (fields_of rec).txn ≡ r.begun t.node.0 t.seat) (bsi : (fields_of rec).bsi ≡ (p.pages w.page).ident)
    (rule : Rattle.recovery_theory.specs.Rules.RuleOf (h.devices.first t.node.0) (h.live t.node.0) rec (effect_of rec))
    (fits : Rattle.recovery_theory.specs.Room.HasRoom h.devices t.node.0 (h.live t.node.0 ++ rec ∷ []))
    (new : v ≡ applied op (p.pages w.page)) (rises : v.ident ≡ (p.pages w.page).ident + 1) where
  abbrev n : ℕ
  n = t.node.0

  abbrev x : ℕ
  x = w.page

  abbrev begin : ℕ
  begin = r.begun t.node.0 t.seat

  abbrev h' : History
  h' = changed_page h t.node.0 rec w.page op

  abbrev m' : Machine
  m' = Rattle.record_machine.specs.Parts.one (Rattle.record_machine.specs.Parts.Change t w) m

  abbrev d : Deed
  d = record { number = m.tail t.node.0; seat = t.seat; write = Some w }

  place : HasPlace m w.key w.page
  place = place_of_key p m w.key w.page means.pages is_home

  is_data : (m.shape.maps ≤ w.page) × (w.page < page_count m.shape)
  is_data = home_is_data p m w.key w.page means.pages is_home

  image : image_now h w.page ≡ data_page (p.pages w.page)
  image = r.pages w.page is_data.0 is_data.1

  guarded : h.guard w.page ≡ t.node.0
  guarded = r.guard w.page t.node.0 held

  above : h.devices.shape.maps ≤ w.page
  above = rw (ap (λ s. s.maps) r.shape) is_data.0

  used : is_used (entry_now h w.page) ≡ true
  used =
      let end : ℕ → ℕ = λ k. length (h.live k) in
      let st = r.holds.history.stands end (λ k. (r.holds.history.sound k, omega arith)) in
      let maps : h.devices.shape.maps ≡ m.shape.maps = ap (λ s. s.maps) r.shape in
      let lives : entry_now h (page_of_place h.devices.shape (map_of_key m.shape w.key) place.place) ≡ entries_of (image_now h (map_of_key m.shape w.key)) place.place = st.lives (map_of_key m.shape w.key) place.place (omega (arith, place.map, maps)) place.within in
      let at : page_of_place h.devices.shape (map_of_key m.shape w.key) place.place ≡ w.page = omega (arith, place.page, maps) in
      let there : entries_of (image_now h (map_of_key m.shape w.key)) place.place ≡ slice_index_or (m.entries (map_of_key m.shape w.key)) place.place (Free 0) =
      ap (λ i. entries_of i place.place) (r.maps (map_of_key m.shape w.key) place.map) ∙ ap (λ es. slice_index_or es place.place (Free 0)) (means.pages.entries (map_of_key m.shape w.key) place.map) in
      used_by (group_of w.key) (entry_now h w.page) (subst (λ e. is_used_by (group_of w.key) e ≡ true) (sym (ap (entry_now h) (sym at) ∙ (lives ∙ there))) place.used)

  effect : effect_of rec ≡ Updated begin w.page (ident_of (image_now h w.page)) op up.back
  effect = up.effect ∙ rw (txn, page_is, bsi) (ap (λ i. Updated begin w.page i op up.back) (sym (ap ident_of image)))

  seat : TellsSeat h m t (r.begun t.node.0 t.seat)
  seat = r.seats t busy

  slot : IsSlotChange op
  slot = up.slot_op (omega arith)

  held_records : Holds h' m.records
  held_records = update_keeps h n begin w.page op up.back rec seat.left m.records r.holds (record {
    effect = effect;
    guarded = guarded;
    is_data = above;
    used = used;
    slot_change = slot;
    same_slot = up.back_place;
    inverse = rw up.place up.inverse;
    locked = rw up.place lock;
    is_open = seat.going;
  })

  -- ---- the logs

  live : (k : ℕ) → h'.live k ≡ machine.put n (p.live n ++ rec ∷ []) p.live k
  live k = go (cases_eq k n)
    where
      go : (k ≡ n) ⊎ (k ≢ n) → cond (eqb k n) (h.live n ++ rec ∷ []) (h.live k) ≡ cond (eqb k n) (p.live n ++ rec ∷ []) (p.live k)
      go (inl e) = rw (eq-eqb k n e) (ap (λ l. l ++ rec ∷ []) (r.live n))
      go (inr ne) = rw (ne_eqb k n ne) (r.live k)

  step : StepIs rec w.page (ident_of (image_now h w.page)) op
  step = step_of_update rec begin w.page (ident_of (image_now h w.page)) op up.back effect

  abbrev more : OpenUpdate
  more = record { number = h.devices.first t.node.0 + length (h.live t.node.0); page = w.page; update = op; back = up.back }

  number : m.tail t.node.0 ≡ h.devices.first t.node.0 + length (h.live t.node.0)
  number = means.logs.tail n ∙ ap₂ (λ a (l : List LogRecord). a + length l) (sym (r.first n)) (sym (r.live n))

  own_seat : TellsSeat h' m' t (r.begun t.node.0 t.seat)
  own_seat = record {
    left = more ∷ seat.left;
    going = rw (with_record-same n rec h.live) (left_of-append begin (h.devices.first n) (h.live n) rec None ∙ rw (effect, eq-eqb begin begin refl, seat.going) refl);
    begins = ap (filter (λ (e : Deed). is_none e.write)) (deeds_own m t d refl) ∙ (filter-append (λ (e : Deed). is_none e.write) (machine.deeds_of m t) (d ∷ []) ∙ (append-nil (filter (λ (e : Deed). is_none e.write) (machine.deeds_of m t)) ∙ seat.begins));
    writes = ap (λ l. map (λ (e : Deed). e.number) (filter (λ (e : Deed). is_some e.write) l)) (deeds_own m t d refl)
        ∙ (ap (map (λ (e : Deed). e.number)) (filter-append (λ (e : Deed). is_some e.write) (machine.deeds_of m t) (d ∷ []))
        ∙ (map-append (λ (e : Deed). e.number) (filter (λ (e : Deed). is_some e.write) (machine.deeds_of m t)) (d ∷ [])
        ∙ (ap (λ k. map (λ (e : Deed). e.number) (filter (λ (e : Deed). is_some e.write) (machine.deeds_of m t)) ++ k ∷ []) number
        ∙ numbers_more seat.left more (map (λ (e : Deed). e.number) (filter (λ (e : Deed). is_some e.write) (machine.deeds_of m t))) seat.writes)));
  }

  other_seat : (u : TxnId) → is_busy m u ≡ true → (u.node.0 ≢ t.node.0) ⊎ (u.seat ≢ t.seat) → TellsSeat h' m' u (r.begun u.node.0 u.seat)
  other_seat u bu ne =
      let z = r.seats u bu in record {
        left = z.left;
        going = going (cases_eq u.node.0 n) ne ∙ z.going;
        begins = ap (filter (λ (e : Deed). is_none e.write)) (deeds_other m t u d refl ne) ∙ z.begins;
        writes = ap (λ l. map (λ (e : Deed). e.number) (filter (λ (e : Deed). is_some e.write) l)) (deeds_other m t u d refl ne) ∙ z.writes;
      }
    where
      b : ℕ
      b = r.begun u.node.0 u.seat

      going : (u.node.0 ≡ n) ⊎ (u.node.0 ≢ n) → (u.node.0 ≢ t.node.0) ⊎ (u.seat ≢ t.seat) → left_of (r.begun u.node.0 u.seat) (h.devices.first u.node.0) (with_record n rec h.live u.node.0) None ≡ left_of (r.begun u.node.0 u.seat) (h.devices.first u.node.0) (h.live u.node.0) None
      going (inr q) k = rw (with_record-other n rec h.live u.node.0 q) refl
      going (inl q) (inl k) = absurd (k q)
      going (inl q) (inr k) =
          let ne : r.begun t.node.0 t.seat ≢ r.begun u.node.0 u.seat = λ e. k (sym (r.apart t u (inl busy) (inl bu) (sym q) e)) in
          subst (λ z. left_of (r.begun u.node.0 u.seat) (h.devices.first z) (with_record n rec h.live z) None ≡ left_of (r.begun u.node.0 u.seat) (h.devices.first z) (h.live z) None) (sym q)
          (ap (λ l. left_of (r.begun u.node.0 u.seat) (h.devices.first n) l None) (with_record-same n rec h.live)
          ∙ (left_of-append (r.begun u.node.0 u.seat) (h.devices.first n) (h.live n) rec None ∙ rw (effect, ne_eqb (r.begun t.node.0 t.seat) (r.begun u.node.0 u.seat) ne) refl))

  seats : (u : TxnId) → is_busy m' u ≡ true → TellsSeat h' m' u (r.begun u.node.0 u.seat)
  seats u bu = go (cases_eq u.node.0 t.node.0) (cases_eq u.seat t.seat)
    where
      was : is_busy m u ≡ true
      was = sym (busy_written m t u d w refl) ∙ bu

      go : (u.node.0 ≡ t.node.0) ⊎ (u.node.0 ≢ t.node.0) → (u.seat ≡ t.seat) ⊎ (u.seat ≢ t.seat) → TellsSeat h' m' u (r.begun u.node.0 u.seat)
      go (inl a) (inl b) = subst (λ z. TellsSeat h' m' z (r.begun z.node.0 z.seat)) (sym (Rattle.record_machine.proofs.DeedSteps.one_txn u t a b)) own_seat
      go (inl a) (inr b) = other_seat u was (inr b)
      go (inr a) b = other_seat u was (inl a)

  known : (u : TxnId) → IsKnown m' u → IsKnown m u
  known u (inl b) = inl (sym (busy_written m t u d w refl) ∙ b)
  known u (inr l) = inr l

  below : (u : TxnId) → m.mode u.node.0 ≡ Up → IsKnown m' u → r.begun u.node.0 u.seat < h.devices.first u.node.0 + length (with_record n rec h.live u.node.0)
  below u up k = longer n rec h.devices.first h.live u.node.0 (r.begun u.node.0 u.seat) (r.below u up (known u k))

  opens : (k txn : ℕ) (us : List OpenUpdate) → left_of txn (h.devices.first k) (with_record n rec h.live k) None ≡ Some us → HasSeat m' r.begun k txn
  opens = open_then h.devices.first n rec h.live (HasSeat m' r.begun) (λ b. let never : Begun ≡ Updated begin w.page (ident_of (image_now h w.page)) op up.back = sym b ∙ effect in absurd cc)
      (λ k txn us e apart. let z = r.opens k txn us e in record { who = z.who; node = z.node; busy = busy_written m t z.who d w refl ∙ z.busy; begins = z.begins })

  pub changed_now : Recoverable (machine.put w.page true dirty) h' (Rattle.record_machine.specs.Meaning.logged t.node.0 rec (Rattle.record_machine.specs.Meaning.with_page w.page v p)) m'
  changed_now = record {
    holds = held_records;
    shape = r.shape;
    first = r.first;
    live = live;
    roomy = logged_keeps_room h n rec (entry_now h) (set_at w.page (changed op (image_now h w.page)) (image_now h)) (set_at w.page (suc (length (h.live n))) h.last) r.holds.history r.roomy rule (rw effect refl) fits;
    rolled = rolled_now dirty h p m n w.page rec op v r guarded is_data step new rises;
    maps = λ y lt. image_same dirty h p m n w.page rec op v r guarded is_data step new rises y (λ e. absurd (omega (arith, is_data.0))) ∙ r.maps y lt;
    pages = pages_now dirty h p m n w.page rec op v r guarded is_data step new rises;
    guard = r.guard;
    stored = stored_now dirty h p m n w.page rec op v r guarded is_data step new rises;
    begun = r.begun;
    seats = seats;
    opens = opens;
    below = below;
    idle = λ u rest k. r.idle u rest (known u k);
    holder = put_true dirty w.page (λ y. IsKeptBy m' y (h.guard y)) (subst (IsKeptBy m' w.page) (sym guarded) (inl (held, λ rest. r.idle t rest (inl busy)))) r.holder;
    apart = λ a b x y. r.apart a b (known a x) (known b y);
    locked = r.locked;
    locker = r.locker;
  }

pub changed_recoverable : ChangedRecoverable
changed_recoverable dirty h p m t w rec op v r means busy is_home held mode tells change txn bsi rule fits new at = changed_now dirty h p m t w rec op v r means busy is_home held
    (page_of rec tells) (subst (λ k. IsUpdate rec (slot_of_key w.key) k op) (sym slot_is) (update_of rec w (seen m t w.key) op tells change after)) (r.locked t (record { 0 = w.key }) w.page is_home mode) txn bsi rule fits new at.ident
  where
    is_data : (m.shape.maps ≤ w.page) × (w.page < page_count m.shape)
    is_data = home_is_data p m w.key w.page means.pages is_home

    slot_is : slots_of (image_now h w.page) (slot_of_key w.key) ≡ seen m t w.key
    slot_is = ap (λ i. slots_of i (slot_of_key w.key)) (r.pages w.page is_data.0 is_data.1) ∙ seen_locked p m (record { 0 = w.key }) w.page t locks.Write means.locked means.pages is_home mode

    page_of : (rec : LogRecord) → Tells rec w (seen m t w.key) → (fields_of rec).page ≡ w.page
    page_of Begin k = absurd k
    page_of (Set txn prev page bsi slot before after) k = k.0
    page_of (Append txn prev page bsi slot present len bytes) k = k.0
    page_of (Commit txn prev) k = absurd k
    page_of (Abort txn prev) k = absurd k
    page_of (Restore txn prev next page bsi slot after) k = absurd k
    page_of (Cut txn prev next page bsi slot present len) k = absurd k
    page_of (MapUse page bsi place group) k = absurd k
    page_of (MapFree page bsi place group ident) k = absurd k

    above : h.devices.shape.maps ≤ w.page
    above = rw (ap (λ s. s.maps) r.shape) is_data.0

    shaped : IsImageOf h.devices.shape w.page (image_now h w.page)
    shaped = (r.holds.history.stands (λ k. length (h.live k)) (λ k. (r.holds.history.sound k, omega arith))).shaped w.page

    image : image_now h w.page ≡ data_page (p.pages w.page)
    image = r.pages w.page is_data.0 is_data.1

    -- what the slot holds then is the new value
    after : slot_after op (seen m t w.key) ≡ w.value
    after =
        let at_place = place_told rec w (seen m t w.key) op tells change in
        let made = slots-changed_same h.devices.shape w.page op (image_now h w.page) shaped above at_place.1 in
        let then : changed op (image_now h w.page) ≡ data_page v = ap (changed op) image ∙ apply_data op (p.pages w.page) v new in
        let made' : slots_of (data_page v) (slot_of_key w.key) ≡ slot_after op (slots_of (image_now h w.page) (slot_of_key w.key)) = subst (λ k. slots_of (data_page v) k ≡ slot_after op (slots_of (image_now h w.page) k)) at_place.0 (ap (λ i. slots_of i (place_of op)) (sym then) ∙ made) in
        ap (slot_after op) (sym slot_is) ∙ (sym made' ∙ at.here)

-- the transactions in the seats begin as they did
pub recoverable_begun : (dirty : ℕ → Bool) (h : History) (p : Plain) (m : Machine) (t : TxnId) (w : Write) (rec : LogRecord) (op : PageOp) (v : PageView) (r : Recoverable dirty h p m) (means : Means p m) (busy : is_busy m t ≡ true)
    (is_home : home m w.key ≡ Some w.page) (held : m.hold w.page ≡ Some t.node.0) (mode : mode_of m.locks (record { 0 = w.key }) t ≡ Some locks.Write) (tells : Tells rec w (seen m t w.key)) (change : change_of rec ≡ Some op)
    (txn : (fields_of rec).txn ≡ r.begun t.node.0 t.seat) (bsi : (fields_of rec).bsi ≡ (p.pages w.page).ident) (rule : RuleOf (h.devices.first t.node.0) (h.live t.node.0) rec (effect_of rec))
    (fits : HasRoom h.devices t.node.0 (h.live t.node.0 ++ rec ∷ [])) (new : v ≡ applied op (p.pages w.page)) (at : IsChangedAt (slot_of_key w.key) w.value (p.pages w.page) v)
    → (changed_recoverable dirty h p m t w rec op v r means busy is_home held mode tells change txn bsi rule fits new at).begun ≡ r.begun
unfolding changed_recoverable changed_now
recoverable_begun dirty h p m t w rec op v r means busy is_home held mode tells change txn bsi rule fits new at = refl
