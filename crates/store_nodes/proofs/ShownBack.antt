-- What a store shows after a transaction has taken its newest update back.
use Rattle.std.specs.Prelude.{◌≡◌, ◌≢◌, ◌==◌, ◌+◌, ◌-◌, ◌*◌, ◌^◌, ◌<◌, ◌≤◌, ◌++◌, ◌∷◌, [], ℕ, Bool, true, false, List, Option, Some, None, IsTrue, All, AllPairs, IfSome, filter, is_some, length, map, reverse, slice_index_or, slice_set, take, unwrap_or, refl}
use Rattle.std.proofs.Common.{arith, inl, inr, ap, subst, sym, ◌∙◌}
use Rattle.std.proofs.lemmas.Bool.{cases_eq}
use Rattle.std.proofs.lemmas.Bool.Decides.{nat_tests}
use Rattle.std.proofs.lemmas.List.{get_or-set_other, get_or-set_same, take_at}
use Rattle.sd_base.specs.Disk.{BlockState}
use Rattle.sd_base.specs.Shape.{page_count}
use Rattle.sd_base.specs.declared.names.PageNo.{PageNo}
use Rattle.sd_base.specs.declared.names.TxnId.{TxnId}
use Rattle.sd_base.specs.declared.page_op.PageOp.{PageOp}
use Rattle.sd_base.specs.declared.page_op.PageOp.TheVariants as ops
use Rattle.sd_base.specs.declared.shape.Shape.{Shape}
use Rattle.page_image.specs.declared.page_view.PageView.{PageView}
use Rattle.page_image.specs.Change.{applied, value_in, with_cut, with_put}
use Rattle.log_record.specs.declared.record.LogRecord.{LogRecord}
use Rattle.log_record.specs.declared.record.LogRecord.TheVariants.{Begin, Set, Append, Commit, Abort, Restore, Cut, MapUse, MapFree}
use Rattle.compensation.specs.Inverse.{IsMarked, content, taking_back}
use Rattle.log_record.specs.Record.{page_op_of}
use Rattle.compensation.specs.Left.{is_update_of, next_after, uncompensated}
use Rattle.compensation.specs.Finding.{newest, next_behind, record_at}
use Rattle.compensation.proofs.FindingLaws.{left-taken_back, update_left}
use Rattle.page_owner.specs.declared.owners.Own.{Own}
use Rattle.private_log.specs.Log.{SameLog}
use Rattle.record_locks.specs.declared.mode.Mode.TheVariants as locks
use Rattle.record_locks.specs.Held.{mode_of}
use Rattle.sd_base.specs.declared.names.Key.{Key}
use Rattle.sd_base.specs.Places.{slot_of_key}
use Rattle.state_ids.specs.Held.{Shows}
use Rattle.space_map.specs.PageImage.{data_page}
use Rattle.node_cache.specs.Cache.{AreShown, CacheState, changed_by, is_cached, page_at}
use Rattle.node_cache.specs.Cache as cache
use Rattle.txn_core.specs.Seats.{AreApart, OpenTxn, SeatsState, txn_in}
use Rattle.txn_core.specs.Told.{AreTold, HasRecords, IsOpenIn}
use Rattle.txn_core.specs.Undo.{IsToUndo, TakesBack, compensation_of}
use Rattle.txn_core.specs.Updates.{ChangesPage, HasPage}
use Rattle.txn_core.proofs.CompensationLaws.{data_cached}
use Rattle.txn_core.proofs.TakeBackLaws.{back_of_update, next_told, not_another}
use Rattle.txn_core.proofs.UndoLaws.{newest_update, seat_told}
use Rattle.txn_core.proofs.UpdateLaws.{apart_at}
use Rattle.record_machine.specs.Machine.{Deed, Machine, Write, is_write_in, newest_of, put, seen, without_newest}
use Rattle.record_machine.specs.Meaning.{IsChangedAt, Means, Plain, Tells, first_record, logged, with_page}
use Rattle.record_machine.specs.Parts.{Back, one, taken_back}
use Rattle.record_machine.proofs.BackSteps.{back_home, back_is, back_told}
use Rattle.record_machine.proofs.Homes.{home_is_data}
use Rattle.record_machine.proofs.Newest.{IsNewest, all_rest, filter_rest, newest_is, own_seat, written_it}
use Rattle.record_machine.proofs.Put.{put_same}
use Rattle.record_machine.proofs.Steps.{means_back, room_back}
use Rattle.record_machine.proofs.LockSteps.{seen_locked}
use Rattle.store_nodes.specs.Nodes.{IsAtWork}
use Rattle.store_nodes.specs.Shows.{ShowsUp, deeds_in, image_in, numbers_of}
use Rattle.store_nodes.proofs.BackDeeds.{deeds_back, newest_seen}
use Rattle.store_nodes.proofs.CachedImages.{data_new, data_shown, frame_kept, only_data}
use Rattle.store_nodes.proofs.Living.{living}
use Rattle.store_nodes.proofs.ShownChange.{up_changed}
use Rattle.store_nodes.proofs.LeftWrites.{filter_both, writes_left}
use Rattle.store_nodes.proofs.ShownBegin.{numbers-other}
use Rattle.store_nodes.proofs.ShownUpdate.{put_slot}

-- ---- the slot of its page

-- an append that is cut off
cut_slot : (v : PageView) (slot : ℕ) (present : Bool) (len : ℕ) (before : Option (List ℕ)) (bytes : List ℕ) → IsMarked present len before → content v slot ≡ Some (unwrap_or before [] ++ bytes) → slot < length v.slots → IsChangedAt slot before v (with_cut slot present len v)
cut_slot v slot true len None bytes mark held low = cc
cut_slot v slot false len None bytes mark held low = put_slot v slot None low
cut_slot v slot true len (Some old) bytes mark held low =
    let whole : value_in v slot ≡ old ++ bytes = ap (λ o. unwrap_or o []) held in
    subst (λ o. IsChangedAt slot o v (with_cut slot true len v))
    (ap Some (ap (take len) whole ∙ ap (λ n. take n (old ++ bytes)) mark.1 ∙ take_at old bytes (length old) refl)) (put_slot v slot (Some (take len (value_in v slot))) low)
cut_slot v slot false len (Some old) bytes mark held low = cc

-- The slot holds what the write left, whose log record says what it held before: that is put back.
pub slot_back : (rec : LogRecord) (w : Write) (before : Option (List ℕ)) (v : PageView) (op : PageOp) → Tells rec w before → taking_back rec ≡ Some op → content v (slot_of_key w.key) ≡ w.value → slot_of_key w.key < length v.slots → IsChangedAt (slot_of_key w.key) before v (applied op v)
slot_back Begin w before v op tells back held low = absurd tells
slot_back (Set txn prev page bsi slot old after) w before v op tells back held low =
    let same : ops.Put slot old ≡ op = cc in
    subst (λ o. IsChangedAt (slot_of_key w.key) before v (applied o v)) same
    (subst (λ k. IsChangedAt (slot_of_key w.key) before v (with_put k old v)) (sym tells.1) (subst (λ o. IsChangedAt (slot_of_key w.key) before v (with_put (slot_of_key w.key) o v)) (sym tells.2) (put_slot v (slot_of_key w.key) before low)))
slot_back (Append txn prev page bsi slot present len bytes) w before v op tells back held low =
    let same : ops.Cut slot present len ≡ op = cc in
    subst (λ o. IsChangedAt (slot_of_key w.key) before v (applied o v)) same
    (subst (λ k. IsChangedAt (slot_of_key w.key) before v (with_cut k present len v)) (sym tells.1) (cut_slot v (slot_of_key w.key) present len before bytes tells.2 (held ∙ tells.3) low))
slot_back (Commit txn prev) w before v op tells back held low = absurd tells
slot_back (Abort txn prev) w before v op tells back held low = absurd tells
slot_back (Restore txn prev next page bsi slot after) w before v op tells back held low = absurd tells
slot_back (Cut txn prev next page bsi slot present len) w before v op tells back held low = absurd tells
slot_back (MapUse page bsi place group) w before v op tells back held low = absurd tells
slot_back (MapFree page bsi place group ident) w before v op tells back held low = absurd tells

-- ---- the deeds of the seats

-- the update is of the page of the write
page_told : (rec : LogRecord) (w : Write) (before : Option (List ℕ)) (x : PageNo) → x.0 ≡ w.page → Tells rec w before → IfSome (page_op_of rec) (λ o. o.0 ≡ x)
page_told Begin w before x at tells = absurd tells
page_told (Set txn prev page bsi slot old after) w before x at tells = ap (λ n. record { 0 = n }) (tells.0 ∙ sym at)
page_told (Append txn prev page bsi slot present len bytes) w before x at tells = ap (λ n. record { 0 = n }) (tells.0 ∙ sym at)
page_told (Commit txn prev) w before x at tells = absurd tells
page_told (Abort txn prev) w before x at tells = absurd tells
page_told (Restore txn prev next page bsi slot after) w before x at tells = absurd tells
page_told (Cut txn prev next page bsi slot present len) w before x at tells = absurd tells
page_told (MapUse page bsi place group) w before x at tells = absurd tells
page_told (MapFree page bsi place group ident) w before x at tells = absurd tells

module _ (seats after : SeatsState) (t : TxnId) (u : OpenTxn) (last left first : ℕ) (recs : List LogRecord) (rec : LogRecord) (ds : List Deed) (e : Deed) where
  pub taken_back_deeds : length seats.seats ≡ 8 → t.seat < 8 → AllPairs AreApart seats.seats → txn_in seats t.seat ≡ Some u → after.seats ≡ slice_set seats.seats t.seat (Some (record { begin = u.begin; last = last; left = left })) → IsNewest t.seat ds e
      → (rest : List ℕ) → uncompensated u.begin first (recs ++ rec ∷ []) ≡ rest → map (λ (f : Deed). f.number) (deeds_in t.seat (without_newest t.seat ds)) ≡ u.begin ∷ reverse rest
      → ((other : OpenTxn) → u.begin ≢ other.begin → (is_update_of other.begin rec ≡ false) × (next_after other.begin rec ≡ None)) → ((seat : ℕ) → seat < 8 → map (λ (f : Deed). f.number) (deeds_in seat ds) ≡ numbers_of first recs (txn_in seats seat))
      → (seat : ℕ) → seat < 8 → map (λ (f : Deed). f.number) (deeds_in seat (without_newest t.seat ds)) ≡ numbers_of first (recs ++ rec ∷ []) (txn_in after seat)
  taken_back_deeds count within apart busy new it rest left_is own none was seat low = elim (cases_eq t.seat seat) [
    | inl here ↦
        let mine : txn_in after t.seat ≡ Some (record { begin = u.begin; last = last; left = left }) = ap (λ os. slice_index_or os t.seat None) new ∙ get_or-set_same seats.seats t.seat _ None (omega (arith, within, count)) in
        subst (λ k. map (λ (f : Deed). f.number) (deeds_in k (without_newest t.seat ds)) ≡ numbers_of first (recs ++ rec ∷ []) (txn_in after k)) here
        (own ∙ ap (λ us. u.begin ∷ reverse us) (sym left_is) ∙ ap (numbers_of first (recs ++ rec ∷ [])) (sym mine))
    | inr other ↦
        let same : txn_in after seat ≡ txn_in seats seat = ap (λ os. slice_index_or os seat None) new ∙ get_or-set_other seats.seats t.seat seat _ None (λ is. other (sym is)) in
        let mine = own_seat t.seat e it.write in
        let not : (e.seat == seat) ≡ false = grind (arith, nat_tests, mine, other) in
        ap (map (λ (f : Deed). f.number)) (filter_rest t.seat (λ f. f.seat == seat) ds e it not)
        ∙ was seat low
        ∙ sym (numbers-other first recs rec (txn_in seats seat) (none_of (txn_in seats seat) (apart_at seats.seats t.seat seat u None apart (omega (arith, within, count)) (omega (arith, low, count)) (λ is. other (sym is)) busy)))
        ∙ ap (numbers_of first (recs ++ rec ∷ [])) (sym same)
  ]
    where
      none_of : (o : Option OpenTxn) → IfSome o (λ other. u.begin ≢ other.begin) → IfSome o (λ other. (is_update_of other.begin rec ≡ false) × (next_after other.begin rec ≡ None))
      none_of None apart = tt
      none_of (Some other) apart = none other apart

-- ---- what is taken back

-- the page of the newest write, where it is cached
pub back_cached : (n : ℕ) (s : Shape) (pool : List (Option (List ℕ))) (c : CacheState) (seats : SeatsState) (b : ℕ → BlockState) (p : Plain) (m : Machine) (t : TxnId) (e : Deed) (w : Write) → m.shape ≡ s → newest_of m t ≡ Some e → e.write ≡ Some w → Means p m → ShowsUp s pool n c seats b p m → AreShown s pool c
    → IsTrue (is_cached (record { 0 = w.page }) c) → HasPage pool c.pages (record { 0 = w.page }) (p.pages w.page)
back_cached n s pool c seats b p m t e w shape is write means was shown cached =
    let range = home_is_data p m w.key w.page means.pages (back_home p m t e w is write means.logs) in
    let maps = ap (λ (z : Shape). z.maps) shape in
    let far : s.maps ≤ w.page = omega (arith, range, maps) in
    let within : w.page < page_count s = omega (arith, range, maps) in
    let it = data_cached s pool c (record { 0 = w.page }) shown far cached in
    subst (HasPage pool c.pages (record { 0 = w.page })) (data_shown s p pool c.pages (record { 0 = w.page }) it.0 (living s p m shape means.pages) far within was.cached it.1) it.1

module _ (n : ℕ) (s : Shape) (pool new : List (Option (List ℕ))) (owners : List Own) (c d : CacheState) (seats after : SeatsState) (b b' : ℕ → BlockState) (p : Plain) (m : Machine) (t : TxnId) (e : Deed) (w : Write) (u : OpenTxn) (x : PageNo) (work : IsAtWork s pool owners n c seats)
    (shape : m.shape ≡ s) (node : t.node.0 ≡ n) (low : t.seat ≤ 7) (busy : txn_in seats t.seat ≡ Some u) (is : newest_of m t ≡ Some e) (write : e.write ≡ Some w) (at : x.0 ≡ w.page) (means : Means p m) (was : ShowsUp s pool n c seats b p m) (has : HasPage pool c.pages x (p.pages x.0)) where
  abbrev pub first : ℕ
  first = 6 * c.log.start

  -- the node is one of the store
  within : (1 ≤ t.node.0) × (t.node.0 ≤ m.shape.nodes)
  within =
      let number = work.number in
      let first = work.store.node.0 in
      let last = work.store.node.1 in
      let nodes = ap (λ (z : Shape). z.nodes) shape in
      (omega (arith, node, number, first), omega (arith, node, number, last, nodes))

  it : IsNewest t.seat (m.pending n) e
  it = subst (λ j. IsNewest t.seat (m.pending j) e) node (newest_is t.seat (m.pending t.node.0) e is)

  own : IsOpenIn first (p.live n) u
  own = seat_told seats c.log.start t.seat u (p.live n) was.told busy

  -- the log record of the write
  stands : (rec : LogRecord) × (record_at first (p.live n) e.number ≡ Some rec) × Tells rec w (seen (taken_back t (Some w) m) t w.key)
  stands =
      let it = back_told p m t e w is write means.logs in
      (it.0, subst (λ j. record_at (6 * j) (p.live n) e.number ≡ Some it.0) was.start (subst (λ j. record_at (first_record m j) (p.live j) e.number ≡ Some it.0) node it.1), it.2)

  -- the begin of the transaction isn't left
  begin_stays : (earlier : List ℕ) → uncompensated u.begin first (p.live n) ≡ earlier ++ u.begin ∷ [] → ⊥
  begin_stays earlier left = let never = update_left u.begin first (p.live n) earlier u.begin [] Begin left own.chained.begun in cc

  deeds : (rest : List ℕ) × (uncompensated u.begin first (p.live n) ≡ e.number ∷ rest) × (map (λ (f : Deed). f.number) (deeds_in t.seat (without_newest t.seat (m.pending n))) ≡ u.begin ∷ reverse rest)
  deeds = deeds_back t.seat u.begin (uncompensated u.begin first (p.live n)) (m.pending n) e it (was.deeds t.seat (omega (arith, low)) ∙ ap (numbers_of first (p.live n)) busy) writes begin_stays
    where
      writes : reverse (map (λ (f : Deed). f.number) (filter (λ f. is_some f.write) (deeds_in t.seat (m.pending n)))) ≡ uncompensated u.begin first (p.live n)
      writes =
          ap (λ es. reverse (map (λ (f : Deed). f.number) es)) (sym (filter_both t.seat (m.pending n)) ∙ ap (λ j. filter (is_write_in t.seat) (m.pending j)) (sym node))
          ∙ writes_left n s pool c seats b p m t u was means.logs node (omega (arith, low)) busy

  range : (m.shape.maps ≤ w.page) × (w.page < page_count m.shape)
  range = home_is_data p m w.key w.page means.pages (back_home p m t e w is write means.logs)

  number : (p.pages x.0).page ≡ x
  number = has.number

  room : (p.pages x.0).ident < 2 ^ 63 + 2 ^ 40
  room =
      let top = room_back p m t e w is write within.0 within.1 means in
      subst (λ j. (p.pages j).ident < 2 ^ 63 + 2 ^ 40) (sym at) (subst (λ j. j < 2 ^ 63 + 2 ^ 40) (sym (means.pages.ident w.page range.0 range.1)) top)

  undo : IsToUndo pool c.pages first (p.live n) u (p.pages x.0)
  undo = record {
    number = e.number;
    newest = ap newest deeds.1;
    update = stands.0;
    there = stands.1;
    of_page = page_told stands.0 w (seen (taken_back t (Some w) m) t w.key) (p.pages x.0).page (ap (λ (y : PageNo). y.0) number ∙ at) stands.2;
    cached = subst (λ y. HasPage pool c.pages y (p.pages x.0)) (sym number) has;
    room = room;
  }

  -- by this record
  pub back : (rec : LogRecord) × TakesBack pool c.pages first (p.live n) u (p.pages x.0) rec
  unfolding undo
  back =
      let rec = back_of_update u (next_behind u.begin first (p.live n) stands.0) (p.pages x.0).ident stands.0 (newest_update u first (p.live n) e.number stands.0 own (ap newest deeds.1) stands.1) in
      (rec.0, record { undo = undo; is = rec.1 })

  same_update : back.1.undo.update ≡ stands.0
  unfolding back undo
  same_update = refl

  -- what is left of the slot is what the transaction saw before it
  pub slot_taken_back : (op : PageOp) → taking_back back.1.undo.update ≡ Some op → IsChangedAt (slot_of_key w.key) (seen (one (Back t) m) t w.key) (p.pages w.page) (applied op (p.pages x.0))
  slot_taken_back op taken =
      let key : Key = record { 0 = w.key } in
      let lock : mode_of m.locks key t ≡ Some locks.Write = means.locked.written t key (written_it t.seat (m.pending t.node.0) e w (newest_is t.seat (m.pending t.node.0) e is) write) in
      let held : content (p.pages w.page) (slot_of_key w.key) ≡ w.value = seen_locked p m key w.page t locks.Write means.locked means.pages (back_home p m t e w is write means.logs) lock ∙ newest_seen m t e w is write in
      let count = has.shows.text.image.slots in
      let before = subst (λ k. Tells stands.0 w (seen k t w.key)) (sym (back_is m t e w is write)) stands.2 in
      subst (λ j. IsChangedAt (slot_of_key w.key) (seen (one (Back t) m) t w.key) (p.pages j) (applied op (p.pages x.0))) at
      (slot_back stands.0 w (seen (one (Back t) m) t w.key) (p.pages x.0) op before (ap taking_back (sym same_update) ∙ taken) (subst (λ j. content (p.pages j) (slot_of_key w.key) ≡ w.value) (sym at) held) (omega (arith, count)))

  pub means_taken_back : (op : PageOp) → taking_back back.1.undo.update ≡ Some op → Means (logged n back.0 (with_page x.0 (applied op (p.pages x.0)) p)) (one (Back t) m)
  means_taken_back op taken =
      subst (λ j. Means (logged j back.0 (with_page x.0 (applied op (p.pages x.0)) p)) (one (Back t) m)) node
      (subst (λ y. Means (logged t.node.0 back.0 (with_page y (applied op (p.pages x.0)) p)) (one (Back t) m)) (sym at)
      (means_back p m t e w back.0 (applied op (p.pages x.0)) is write within.0 within.1 (slot_taken_back op taken) means))

  -- the node after it
  pub up_taken_back : (op : PageOp) → ChangesPage (p.pages x.0).page c.log.tail c.pages d.pages pool new → HasPage new d.pages (p.pages x.0).page (applied op (p.pages x.0)) → SameLog c.log d.log
      → after.seats ≡ slice_set seats.seats t.seat (Some (record { begin = u.begin; last = c.log.tail; left = u.left - 1 })) → HasRecords d.log b' (p.live n ++ back.0 ∷ []) → AreTold after c.log.start (p.live n ++ back.0 ∷ [])
      → ShowsUp s new n d after b' (logged n back.0 (with_page x.0 (applied op (p.pages x.0)) p)) (one (Back t) m)
  up_taken_back op changes now same seats_are records told =
      let next : PageView = applied op (p.pages x.0) in
      let made : compensation_of u (next_behind u.begin first (p.live n) stands.0) (p.pages x.0).ident stands.0 ≡ Some back.0 = subst (λ r. compensation_of u (next_behind u.begin first (p.live n) r) (p.pages x.0).ident r ≡ Some back.0) same_update back.1.is in
      let far : s.maps ≤ x.0 = (let low = range.0 in let maps = ap (λ (z : Shape). z.maps) shape in omega (arith, low, maps, at)) in
      let pages : d.pages ≡ cache.with_page x (changed_by c.log.tail) c.pages = subst (λ y. d.pages ≡ cache.with_page y (changed_by c.log.tail) c.pages) number changes.pages in
      let here : HasPage new d.pages x next = subst (λ y. HasPage new d.pages y next) number now in
      let keeps = changes.frames has.page (subst (λ y. page_at y c.pages ≡ Some has.page) (sym number) has.there) in
      let shows : Shows new has.page.frame (image_in s (with_page x.0 next p) x) =
      subst (Shows new has.page.frame) (sym (data_new s p x next far)) (subst (λ f. Shows new f (data_page next)) (frame_kept x c.log.tail c.pages d.pages has.page here.page pages has.there here.there) here.shows) in
      let less : uncompensated u.begin first (p.live n ++ back.0 ∷ []) ≡ deeds.0 = left-taken_back u.begin first (p.live n) e.number deeds.0 stands.0 back.0 own.tells deeds.1 stands.1 (next_told u (next_behind u.begin first (p.live n) stands.0) (p.pages x.0).ident stands.0 back.0 made) in
      let pending : (one (Back t) m).pending n ≡ without_newest t.seat (m.pending n) = ap (λ k. k.pending n) (back_is m t e w is write) ∙ ap (λ j. put j (without_newest t.seat (m.pending j)) m.pending n) node ∙ put_same n (without_newest t.seat (m.pending n)) m.pending n refl in
      up_changed n s pool new c d seats after b b' p (with_page x.0 next p) m (one (Back t) m) x has.page c.log.tail back.0 (only_data s p x next) work.cache has.there keeps shows pages same (ap (λ k. k.start n) (back_is m t e w is write)) records told
      (λ k small. ap (λ ds. map (λ (f : Deed). f.number) (deeds_in k ds)) pending
      ∙ taken_back_deeds seats after t u c.log.tail (u.left - 1) first (p.live n) back.0 (m.pending n) e work.eight (omega (arith, low)) work.tie.apart busy seats_are it deeds.0 less deeds.2
      (λ other apart. not_another u (next_behind u.begin first (p.live n) stands.0) (p.pages x.0).ident other.begin stands.0 back.0 made apart) was.deeds k small)
      (subst (All (λ (f : Deed). f.seat < 8)) (sym pending) (all_rest t.seat (λ (f : Deed). f.seat < 8) (m.pending n) e it was.within)) was
