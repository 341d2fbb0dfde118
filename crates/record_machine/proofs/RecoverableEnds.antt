-- A commit overlays the records with what its transaction has written.
use Rattle.std.proofs.Common.{◌≡◌, ◌≢◌, ◌⊎◌, inl, inr, ◌+◌, ◌*◌, ◌/◌, ◌%◌, ◌<◌, ◌≤◌, ◌++◌, ◌&&◌, ℕ, suc, Bool, true, false, cond, eqb, List, [], ◌∷◌, length, map, refl, ap, ap₂, sym, subst, ◌∙◌, arith, Option, Some, None, is_none, is_some, filter, slice_index_or, eq-eqb, ne_eqb}
use Rattle.std.proofs.lemmas.Bool.{cases_eq, cases_Bool}
use Rattle.sd_base.specs.declared.names.GroupNo.{GroupNo}
use Rattle.sd_base.specs.declared.names.Key.{Key}
use Rattle.sd_base.specs.declared.names.TxnId.{TxnId}
use Rattle.space_map.specs.declared.map_entry.MapEntry.{MapEntry}
use Rattle.space_map.specs.declared.map_entry.MapEntry.TheVariants.{Free, Used}
use Rattle.space_map.specs.Entry.{is_used_by}
use Rattle.record_locks.specs.declared.mode.Mode.TheVariants as locks
use Rattle.record_locks.specs.Held.{mode_of}
use Rattle.log_record.specs.declared.record.LogRecord.{LogRecord}
use Rattle.std.proofs.lemmas.Bool.{eqb-true}
use Rattle.sd_base.specs.Shape.{page_count}
use Rattle.sd_base.specs.Places.{group_of, map_of_key, page_of_place, slot_of_key}
use Rattle.record_machine.specs.Machine.{Deed, Machine, home, is_busy, seen}
use Rattle.record_machine.specs.Meaning.{Means, Plain, has_written}
use Rattle.record_machine.specs.Parts as part
use Rattle.record_machine.proofs.DeedSteps.{one_txn}
use Rattle.record_machine.proofs.Deeds.{overlaid_not}
use Rattle.record_machine.proofs.Homes.{home_is_data, none_passes, place_of as place_of_key}
use Rattle.record_machine.proofs.LockSteps.{seen_absent, seen_locked}
use Rattle.recovery_theory.specs.Pages.{entries_of, entry_group, is_used, slots_of}
use Rattle.recovery_theory.specs.Effect.{Transaction, OpenUpdate, effect_of, left_of, of_slot, open_updates}
use Rattle.recovery_theory.specs.Effect.Effect.{Begun, Ended}
use Rattle.recovery_theory.specs.Standing.{IsStanding, Leads, with_updates}
use Rattle.recovery_theory.specs.History.{History, IsCut, entry_at, entry_now, image_at, image_now, logs_at}
use Rattle.recovery_theory.specs.Records.{HasRecords, Overlaid}
use Rattle.recovery_theory.specs.Rules.{RuleOf}
use Rattle.recovery_theory.specs.Steps.{ended, set_at, with_record}
use Rattle.recovery_theory.proofs.Cuts.{with_record-other, with_record-same}
use Rattle.recovery_theory.proofs.Ends.{leads-with_updates}
use Rattle.recovery_theory.proofs.OpenUpdates.{list_cases, owned_by_lock, transaction, left_of-append}
use Rattle.recovery_theory.specs.Room.{HasRoom}
use Rattle.recovery_theory.proofs.Room.{end_keeps_room}
use Rattle.recovery_theory.proofs.Headroom.{end_keeps_rising}
use Rattle.recovery_theory.proofs.EndedRecords.{end_overlays}
use Rattle.record_machine.proofs.OpenSeats.{open_then}
use Rattle.record_machine.specs.Recoverable.{HasSeat, IsKnown, Recoverable, TellsSeat}
use Rattle.record_machine.specs.RecoverableParts.{SealedRecoverable}
use Rattle.record_machine.proofs.SeatDeeds.{busy_sealed, deeds_sealed, idle_sealed}
use Rattle.record_machine.proofs.LoggedLater.{live_more, longer, past_same}

pub used_is : (e : MapEntry) (g : ℕ) → is_used e ≡ true → entry_group e ≡ g → is_used_by (record { 0 = g }) e ≡ true
used_is (Free ident) g u e = absurd cc
used_is (Used group ident) g u e = eq-eqb group.0 g e

pub is_used_of : (g : GroupNo) (e : MapEntry) → is_used_by g e ≡ true → (is_used e ≡ true) × (entry_group e ≡ g.0)
is_used_of g (Free ident) h = absurd cc
is_used_of g (Used group ident) h = (refl, eqb-true group.0 g.0 h)

module _ (dirty : ℕ → Bool) (h : History) (p : Plain) (m : Machine) (t : TxnId) (r : Recoverable dirty h p m) (means : Means p m) (busy : is_busy m t ≡ true) where
  abbrev n : ℕ
  n = t.node.0

  abbrev begin : ℕ
  begin = r.begun t.node.0 t.seat

  abbrev end : ℕ → ℕ
  end k = length (h.live k)

  is_end : IsCut h end
  is_end k = (r.holds.history.sound k, omega arith)

  st : IsStanding h.devices (logs_at h end) h.guard (entry_at h end) (image_at h end) h.settled h.lock
  st = r.holds.history.stands end is_end

  keys : HasRecords h.devices.shape (entry_at h end) h.settled m.records
  keys = r.holds.keys end is_end

  maps_is : h.devices.shape.maps ≡ m.shape.maps
  maps_is = ap (λ s. s.maps) r.shape

  -- the entry of a place is the machine's
  entry_is : (k q : ℕ) → k < m.shape.maps → q < 252 → entry_now h (page_of_place h.devices.shape k q) ≡ slice_index_or (m.entries k) q (Free 0)
  entry_is k q lt le = st.lives k q (omega (arith, maps_is)) le ∙ (ap (λ i. entries_of i q) (r.maps k lt) ∙ ap (λ es. slice_index_or es q (Free 0)) (means.pages.entries k lt))

  -- the page of a key's group is its home
  home_is : (k q s : ℕ) → k < m.shape.maps → q < 252 → s < 16 → is_used (entry_now h (page_of_place h.devices.shape k q)) ≡ true → home m (16 * entry_group (entry_now h (page_of_place h.devices.shape k q)) + s) ≡ Some (page_of_place h.devices.shape k q)
  home_is k q s lt le ls u = by (home m (16 * entry_group (entry_now h (page_of_place h.devices.shape k q)) + s)) refl
    where
      g : ℕ
      g = entry_group (entry_now h (page_of_place h.devices.shape k q))

      key : ℕ
      key = 16 * entry_group (entry_now h (page_of_place h.devices.shape k q)) + s

      group : (16 * entry_group (entry_now h (page_of_place h.devices.shape k q)) + s) / 16 ≡ entry_group (entry_now h (page_of_place h.devices.shape k q))
      group = omega arith

      map_is : map_of_key m.shape (16 * entry_group (entry_now h (page_of_place h.devices.shape k q)) + s) ≡ k
      map_is = ap (λ z. z % m.shape.maps) group ∙ (ap (λ z. entry_group (entry_now h (page_of_place h.devices.shape k q)) % z) (sym maps_is) ∙ keys.home k q (omega (arith, maps_is)) le u)

      used_here : is_used_by (group_of (16 * entry_group (entry_now h (page_of_place h.devices.shape k q)) + s)) (slice_index_or (m.entries k) q (Free 0)) ≡ true
      used_here = subst (λ e. is_used_by (group_of (16 * entry_group (entry_now h (page_of_place h.devices.shape k q)) + s)) e ≡ true) (entry_is k q lt le)
          (used_is (entry_now h (page_of_place h.devices.shape k q)) ((16 * entry_group (entry_now h (page_of_place h.devices.shape k q)) + s) / 16) u (sym group))

      by : (o : Option ℕ) → home m (16 * entry_group (entry_now h (page_of_place h.devices.shape k q)) + s) ≡ o → o ≡ Some (page_of_place h.devices.shape k q)
      by None e = absurd (none e)
        where
          none : home m (16 * entry_group (entry_now h (page_of_place h.devices.shape k q)) + s) ≡ None → ⊥
          none e = go (Rattle.std.specs.List.position (is_used_by (group_of (16 * entry_group (entry_now h (page_of_place h.devices.shape k q)) + s))) (m.entries (map_of_key m.shape (16 * entry_group (entry_now h (page_of_place h.devices.shape k q)) + s)))) refl e
            where
              go : (o : Option ℕ) → Rattle.std.specs.List.position (is_used_by (group_of (16 * entry_group (entry_now h (page_of_place h.devices.shape k q)) + s))) (m.entries (map_of_key m.shape (16 * entry_group (entry_now h (page_of_place h.devices.shape k q)) + s))) ≡ o
                  → Rattle.std.specs.Prelude.option_map (page_of_place m.shape (map_of_key m.shape (16 * entry_group (entry_now h (page_of_place h.devices.shape k q)) + s))) o ≡ None → ⊥
              go (Some i) a b = absurd cc
              go None a b =
                  let a' = subst (λ z. Rattle.std.specs.List.position (is_used_by (group_of (16 * entry_group (entry_now h (page_of_place h.devices.shape k q)) + s))) (m.entries z) ≡ None) map_is a in
                  let f = none_passes (is_used_by (group_of (16 * entry_group (entry_now h (page_of_place h.devices.shape k q)) + s))) (m.entries k) q (Free 0) a' (omega (arith, means.pages.count k lt)) in
                  let never : true ≡ false = sym used_here ∙ f in absurd cc
      by (Some y) e =
          let pl = place_of_key p m (16 * entry_group (entry_now h (page_of_place h.devices.shape k q)) + s) y means.pages e in
          let at_place : is_used_by (group_of (16 * entry_group (entry_now h (page_of_place h.devices.shape k q)) + s)) (entry_now h (page_of_place h.devices.shape k pl.place)) ≡ true =
          subst (λ e. is_used_by (group_of (16 * entry_group (entry_now h (page_of_place h.devices.shape k q)) + s)) e ≡ true) (sym (entry_is k pl.place lt pl.within)) (subst (λ z. is_used_by (group_of (16 * entry_group (entry_now h (page_of_place h.devices.shape k q)) + s)) (slice_index_or (m.entries z) pl.place (Free 0)) ≡ true) map_is pl.used) in
          let z = is_used_of (group_of (16 * entry_group (entry_now h (page_of_place h.devices.shape k q)) + s)) (entry_now h (page_of_place h.devices.shape k pl.place)) at_place in
          let one : q ≡ pl.place = keys.once k q pl.place (omega (arith, maps_is)) le pl.within u z.0 (sym (z.1 ∙ group)) in
          ap (λ z. Some z) (pl.page ∙ omega (arith, map_is, one, maps_is))

  -- what the transaction sees is what its open updates make of the record
  pub seen_is : (key : Key) (x : ℕ) → home m key.0 ≡ Some x → m.records key.0 ≡ h.settled x (slot_of_key key.0) → seen m t key.0 ≡ with_updates (of_slot x (slot_of_key key.0) (open_updates h.devices.first h.live (transaction n begin))) (m.records key.0)
  seen_is key x is value = go (list_cases (of_slot x (slot_of_key key.0) (open_updates h.devices.first h.live (transaction n begin)))) (cases_Bool (has_written m t key.0))
    where
      is_data : (m.shape.maps ≤ x) × (x < page_count m.shape)
      is_data = home_is_data p m key.0 x means.pages is

      logs_end : (k : ℕ) → logs_at h end k ≡ h.live k
      logs_end k = Rattle.std.proofs.Common.take_all (length (h.live k)) (h.live k) (omega arith)

      opened : (o : Transaction) → open_updates h.devices.first (logs_at h end) o ≡ open_updates h.devices.first h.live o
      opened o = ap (λ l. Rattle.recovery_theory.specs.Effect.listed (left_of o.txn (h.devices.first o.node) l None)) (logs_end o.node)

      -- where it has the lock, its updates lead from the record to what the slot holds
      by_lock : mode_of m.locks key t ≡ Some locks.Write → seen m t key.0 ≡ with_updates (of_slot x (slot_of_key key.0) (open_updates h.devices.first h.live (transaction n begin))) (m.records key.0)
      by_lock mode =
          let locked : h.lock x (slot_of_key key.0) ≡ Some (transaction n begin) = r.locked t key x is mode in
          let own = owned_by_lock h.devices (logs_at h end) (image_at h end x) x (slot_of_key key.0) (h.settled x (slot_of_key key.0)) (transaction n begin) (st.slots x (slot_of_key key.0)) (λ o q. sym locked ∙ st.locks x (slot_of_key key.0) o q) in
          let leads : Leads (of_slot x (slot_of_key key.0) (open_updates h.devices.first h.live (transaction n begin))) (h.settled x (slot_of_key key.0)) (slots_of (image_now h x) (slot_of_key key.0)) = rw (← opened (transaction n begin)) own.value in
          let slot : slots_of (image_now h x) (slot_of_key key.0) ≡ seen m t key.0 = ap (λ i. slots_of i (slot_of_key key.0)) (r.pages x is_data.0 is_data.1) ∙ seen_locked p m key x t locks.Write means.locked means.pages is mode in
          sym slot ∙ (leads-with_updates (of_slot x (slot_of_key key.0) (open_updates h.devices.first h.live (transaction n begin))) (h.settled x (slot_of_key key.0)) (slots_of (image_now h x) (slot_of_key key.0)) leads
          ∙ ap (with_updates (of_slot x (slot_of_key key.0) (open_updates h.devices.first h.live (transaction n begin)))) (sym value))

      go : (of_slot x (slot_of_key key.0) (open_updates h.devices.first h.live (transaction n begin)) ≡ []) ⊎ (of_slot x (slot_of_key key.0) (open_updates h.devices.first h.live (transaction n begin)) ≢ [])
          → (has_written m t key.0 ≡ true) ⊎ (has_written m t key.0 ≡ false) → seen m t key.0 ≡ with_updates (of_slot x (slot_of_key key.0) (open_updates h.devices.first h.live (transaction n begin))) (m.records key.0)
      go a (inl w) = by_lock (means.locked.written t key w)
      go (inl none) (inr w) = overlaid_not t.seat key.0 (m.records key.0) (m.pending n) w ∙ sym (ap (λ us. with_updates us (m.records key.0)) none)
      go (inr some) (inr w) =
          let has : h.lock x (slot_of_key key.0) ≡ Some (transaction n begin) = st.locks x (slot_of_key key.0) (transaction n begin) (λ e. some (ap (of_slot x (slot_of_key key.0)) (sym (opened (transaction n begin))) ∙ e)) in
          let l = r.locker (transaction n begin) key x is has in
          let node : n ≡ l.0.node.0 = ap (λ (o : Transaction). o.node) l.2 in
          let txn : begin ≡ r.begun l.0.node.0 l.0.seat = ap (λ (o : Transaction). o.txn) l.2 in
          let seat = r.apart t l.0 (inl busy) (inr (key, l.1)) node txn in
          by_lock (ap (mode_of m.locks key) (one_txn t l.0 node seat) ∙ l.1)

  pub overlaid : Overlaid h (record { node = t.node.0; txn = r.begun t.node.0 t.seat }) m.records (λ key. seen m t key)
  overlaid = record {
    there = λ k q s lt le ls u.
        let key : Key = record { 0 = 16 * entry_group (entry_now h (page_of_place h.devices.shape k q)) + s } in
        let slot : (16 * entry_group (entry_now h (page_of_place h.devices.shape k q)) + s) % 16 ≡ s = omega arith in
        let value : m.records (16 * entry_group (entry_now h (page_of_place h.devices.shape k q)) + s) ≡ h.settled (page_of_place h.devices.shape k q) s = keys.value k q s lt le ls u in
        let z = seen_is (record { 0 = 16 * entry_group (entry_now h (page_of_place h.devices.shape k q)) + s }) (page_of_place h.devices.shape k q) (home_is k q s (omega (arith, maps_is)) le ls u) (value ∙ ap (h.settled (page_of_place h.devices.shape k q)) (sym slot)) in
        z ∙ ap (λ j. with_updates (of_slot (page_of_place h.devices.shape k q) j (open_updates h.devices.first h.live (transaction n begin))) (m.records (16 * entry_group (entry_now h (page_of_place h.devices.shape k q)) + s))) slot;
    gone = λ k f. gone k f (home m k) refl;
  }
    where
      gone : (k : ℕ) → ((a q : ℕ) → a < h.devices.shape.maps → q < 252 → is_used (entry_now h (page_of_place h.devices.shape a q)) ≡ true → entry_group (entry_now h (page_of_place h.devices.shape a q)) ≢ k / 16) → (o : Option ℕ) → home m k ≡ o → seen m t k ≡ m.records k
      gone k f None e = seen_absent p m k t means.logs means.pages e ∙ sym (means.pages.absent k e)
      gone k f (Some y) e =
          let pl = place_of_key p m k y means.pages e in
          let z = is_used_of (group_of k) (entry_now h (page_of_place h.devices.shape (map_of_key m.shape k) pl.place)) (subst (λ e. is_used_by (group_of k) e ≡ true) (sym (entry_is (map_of_key m.shape k) pl.place pl.map pl.within)) pl.used) in
          absurd (f (map_of_key m.shape k) pl.place (omega (arith, pl.map, maps_is)) pl.within z.0 z.1)

module _ (dirty : ℕ → Bool) (h : History) (p : Plain) (m : Machine) (t : TxnId) (rec : LogRecord) (r : Recoverable dirty h p m) (means : Means p m) (busy : is_busy m t ≡ true)
    (is : effect_of rec ≡ Ended (r.begun t.node.0 t.seat)) (rule : RuleOf (h.devices.first t.node.0) (h.live t.node.0) rec (effect_of rec)) (fits : HasRoom h.devices t.node.0 (h.live t.node.0 ++ rec ∷ [])) where
  abbrev h' : History
  h' = ended h t.node.0 (r.begun t.node.0 t.seat) rec

  abbrev m' : Machine
  m' = part.one (part.Seal t) m

  own_or_not : (u : TxnId) → (u ≡ t) ⊎ ((u.node.0 ≢ t.node.0) ⊎ (u.seat ≢ t.seat))
  own_or_not u = go (cases_eq u.node.0 t.node.0) (cases_eq u.seat t.seat)
    where
      go : (u.node.0 ≡ t.node.0) ⊎ (u.node.0 ≢ t.node.0) → (u.seat ≡ t.seat) ⊎ (u.seat ≢ t.seat) → (u ≡ t) ⊎ ((u.node.0 ≢ t.node.0) ⊎ (u.seat ≢ t.seat))
      go (inl a) (inl b) = inl (one_txn u t a b)
      go (inl a) (inr b) = inr (inr b)
      go (inr a) b = inr (inl a)

  other_busy : (u : TxnId) → is_busy m' u ≡ true → ((u.node.0 ≢ t.node.0) ⊎ (u.seat ≢ t.seat)) × (is_busy m u ≡ true)
  other_busy u b = go (own_or_not u)
    where
      go : (u ≡ t) ⊎ ((u.node.0 ≢ t.node.0) ⊎ (u.seat ≢ t.seat)) → ((u.node.0 ≢ t.node.0) ⊎ (u.seat ≢ t.seat)) × (is_busy m u ≡ true)
      go (inl e) = let never : false ≡ true = sym (idle_sealed m t) ∙ (ap (λ z. is_busy m' z) (sym e) ∙ b) in absurd cc
      go (inr ne) = (ne, sym (busy_sealed m t u ne) ∙ b)

  known : (u : TxnId) → IsKnown m' u → IsKnown m u
  known u (inl b) = inl (other_busy u b).1
  known u (inr l) = inr l

  seats : (u : TxnId) → is_busy m' u ≡ true → TellsSeat h' m' u (r.begun u.node.0 u.seat)
  seats u b =
      let o = other_busy u b in
      let z = r.seats u o.1 in record {
        left = z.left;
        going = going o.0 o.1 (cases_eq u.node.0 t.node.0) ∙ z.going;
        begins = ap (filter (λ (e : Deed). is_none e.write)) (deeds_sealed m t u o.0) ∙ z.begins;
        writes = ap (λ l. map (λ (e : Deed). e.number) (filter (λ (e : Deed). is_some e.write) l)) (deeds_sealed m t u o.0) ∙ z.writes;
      }
    where
      going : (u.node.0 ≢ t.node.0) ⊎ (u.seat ≢ t.seat) → is_busy m u ≡ true → (u.node.0 ≡ t.node.0) ⊎ (u.node.0 ≢ t.node.0)
          → left_of (r.begun u.node.0 u.seat) (h.devices.first u.node.0) (with_record t.node.0 rec h.live u.node.0) None ≡ left_of (r.begun u.node.0 u.seat) (h.devices.first u.node.0) (h.live u.node.0) None
      going ne bu (inr q) = rw (with_record-other t.node.0 rec h.live u.node.0 q) refl
      going (inl k) bu (inl q) = absurd (k q)
      going (inr k) bu (inl q) =
          let ne : r.begun t.node.0 t.seat ≢ r.begun u.node.0 u.seat = λ e. k (sym (r.apart t u (inl busy) (inl bu) (sym q) e)) in
          subst (λ z. left_of (r.begun u.node.0 u.seat) (h.devices.first z) (with_record t.node.0 rec h.live z) None ≡ left_of (r.begun u.node.0 u.seat) (h.devices.first z) (h.live z) None) (sym q)
          (ap (λ l. left_of (r.begun u.node.0 u.seat) (h.devices.first t.node.0) l None) (with_record-same t.node.0 rec h.live)
          ∙ (left_of-append (r.begun u.node.0 u.seat) (h.devices.first t.node.0) (h.live t.node.0) rec None ∙ rw (is, ne_eqb (r.begun t.node.0 t.seat) (r.begun u.node.0 u.seat) ne) refl))

  sure : (x : ℕ) → h.last x ≤ h.stable (h.guard x) → (h.guard x ≡ t.node.0) ⊎ (h.guard x ≢ t.node.0) → h.last x ≤ set_at t.node.0 (suc (length (h.live t.node.0))) h.stable (h.guard x)
  sure x s (inl e) = let low : h.last x ≤ h.stable t.node.0 = subst (λ k. h.last x ≤ h.stable k) e s in rw (eq-eqb (h.guard x) t.node.0 e) (omega (arith, r.holds.history.sound t.node.0))
  sure x s (inr d) = rw (ne_eqb (h.guard x) t.node.0 d) s

  opens : (k txn : ℕ) (us : List OpenUpdate) → left_of txn (h.devices.first k) (with_record t.node.0 rec h.live k) None ≡ Some us → HasSeat m' r.begun k txn
  opens = open_then h.devices.first t.node.0 rec h.live (HasSeat m' r.begun) (λ b. let never : Begun ≡ Ended (r.begun t.node.0 t.seat) = sym b ∙ is in absurd cc)
      (λ k txn us e apart.
      let z = r.opens k txn us e in
      record { who = z.who; node = z.node; busy = still k txn z.who z.node z.begins apart (own_or_not z.who) ∙ z.busy; begins = z.begins })
    where
      still : (k txn : ℕ) (u : TxnId) → u.node.0 ≡ k → r.begun u.node.0 u.seat ≡ txn → (k ≡ t.node.0 → effect_of rec ≢ Ended txn) → (u ≡ t) ⊎ ((u.node.0 ≢ t.node.0) ⊎ (u.seat ≢ t.seat)) → is_busy m' u ≡ is_busy m u
      still k txn u node begins apart (inr ne) = busy_sealed m t u ne
      still k txn u node begins apart (inl e) = absurd (apart (sym node ∙ ap (λ (z : TxnId). z.node.0) e) (is ∙ ap Ended (ap (λ (z : TxnId). r.begun z.node.0 z.seat) (sym e) ∙ begins)))

  pub sealed_now : Recoverable dirty h' (Rattle.record_machine.specs.Meaning.logged t.node.0 rec p) m'
  sealed_now = record {
    holds = end_overlays h t.node.0 (r.begun t.node.0 t.seat) rec m.records (λ key. seen m t key) r.holds is (overlaid dirty h p m t r means busy);
    shape = r.shape;
    first = r.first;
    live = live_more t.node.0 rec h.live p.live r.live;
    roomy = end_keeps_room h t.node.0 (r.begun t.node.0 t.seat) rec r.roomy rule fits;
    rolled = end_keeps_rising h t.node.0 (r.begun t.node.0 t.seat) rec r.rolled (λ y. rw is refl);
    maps = λ y lt. past_same h t.node.0 rec h.image y ∙ r.maps y lt;
    pages = λ y low high. past_same h t.node.0 rec h.image y ∙ r.pages y low high;
    guard = r.guard;
    stored = λ y e. let s = r.stored y e in record { sure = sure y s.sure (cases_eq (h.guard y) t.node.0); clean = rw (past_same h t.node.0 rec h.image y, past_same h t.node.0 rec h.entry y) s.clean };
    begun = r.begun;
    seats = seats;
    opens = opens;
    below = λ u up k. longer t.node.0 rec h.devices.first h.live u.node.0 (r.begun u.node.0 u.seat) (r.below u up (known u k));
    idle = λ u rest k. r.idle u rest (known u k);
    holder = r.holder;
    apart = λ a b x y. r.apart a b (known a x) (known b y);
    locked = r.locked;
    locker = r.locker;
  }

  pub sealed_begun : sealed_now.begun ≡ r.begun
  unfolding sealed_now
  sealed_begun = refl

pub sealed_recoverable : SealedRecoverable
sealed_recoverable dirty h p m t rec r means busy is rule fits = sealed_now dirty h p m t rec r means busy is rule fits
