-- What a store shows after a transaction has changed a slot of a page.
use Rattle.std.specs.Prelude.{◌≡◌, ◌≢◌, ◌+◌, ◌*◌, ◌^◌, ◌<◌, ◌≤◌, ◌++◌, ◌∷◌, [], ℕ, true, false, List, Option, Some, None, All, AllPairs, IfSome, length, map, reverse, slice_index_or, slice_set, take, refl}
use Rattle.std.proofs.Common.{arith, inl, inr, ap, subst, sym, ◌∙◌}
use Rattle.std.proofs.lemmas.Bool.{cases_eq}
use Rattle.std.proofs.lemmas.List.{get_or-set_other, get_or-set_same, length-append, map-append, reverse-append, take_all}
use Rattle.std.proofs.lemmas.List.Elements.{All-push}
use Rattle.sd_base.specs.Disk.{BlockState}
use Rattle.sd_base.specs.declared.names.PageNo.{PageNo}
use Rattle.sd_base.specs.declared.names.TxnId.{TxnId}
use Rattle.sd_base.specs.declared.shape.Shape.{Shape}
use Rattle.sd_base.specs.Places.{slot_of_key}
use Rattle.page_image.specs.declared.page_view.PageView.{PageView}
use Rattle.page_image.specs.Change.{applied, value_in, with_append, with_put}
use Rattle.log_record.specs.declared.record.LogRecord.{LogRecord}
use Rattle.private_log.specs.Log.{SameLog}
use Rattle.page_owner.specs.declared.owners.Own.{Own}
use Rattle.state_ids.specs.Held.{KeepsFrames, Shows}
use Rattle.space_map.specs.PageImage.{data_page}
use Rattle.node_cache.specs.Cache.{CachedPage, CacheState, changed_by, page_at}
use Rattle.node_cache.specs.Cache as cache
use Rattle.record_locks.specs.declared.mode.Mode.TheVariants as locks
use Rattle.record_locks.specs.Held.{mode_of}
use Rattle.compensation.specs.Inverse.{content}
use Rattle.compensation.specs.Left.{is_update_of, next_after, uncompensated}
use Rattle.compensation.proofs.LeftLaws.{left-update}
use Rattle.txn_core.specs.declared.change.Change.{Change}
use Rattle.txn_core.specs.declared.change.Change.TheVariants.{Put, Append, Delete}
use Rattle.txn_core.specs.Seats.{AreApart, OpenTxn, SeatsState, txn_in}
use Rattle.txn_core.specs.Told.{AreTold, HasRecords}
use Rattle.txn_core.specs.Updates.{FitsSlotOf, HasPage, op_of, update_of}
use Rattle.txn_core.proofs.UpdateLaws.{apart_at, update_other, update_own}
use Rattle.record_machine.specs.Machine.{Deed, Machine, Write, home, owed, put, seen}
use Rattle.record_machine.specs.Meaning.{AreLogs, IsChangedAt, Means, Plain, Tells, logged, with_page}
use Rattle.record_machine.specs.Parts.{Change as Changed, one}
use Rattle.record_machine.proofs.LockSteps.{seen_locked}
use Rattle.record_machine.proofs.Homes.{home_is_data}
use Rattle.record_machine.proofs.Steps.{means_changed}
use Rattle.store_nodes.specs.Pages.{value_after}
use Rattle.store_nodes.specs.Nodes.{IsAtWork}
use Rattle.store_nodes.specs.Shows.{ShowsUp, deeds_in, image_in, numbers_of}
use Rattle.store_nodes.proofs.CachedImages.{data_new, frame_kept, only_data}
use Rattle.store_nodes.proofs.ShownBegin.{deeds-other, deeds-push, deeds_done, numbers-other}
use Rattle.store_nodes.proofs.ShownChange.{up_changed}
use Rattle.store_nodes.proofs.ShownLogged.{length_shown, tail_shown}

-- ---- the page and its record

-- a slot holds what was put there, and each other one what it held
pub put_slot : (v : PageView) (slot : ℕ) (after : Option (List ℕ)) → slot < length v.slots → IsChangedAt slot after v (with_put slot after v)
put_slot v slot after low = record {
  page = refl;
  ident = refl;
  here = get_or-set_same v.slots slot after None low;
  others = λ i other. get_or-set_other v.slots slot i after None other;
}

-- and so after each change that fits it
pub slot_changed : (v : PageView) (slot : ℕ) (what : Change) → slot < length v.slots → FitsSlotOf v slot what → IsChangedAt slot (value_after what (content v slot)) v (applied (op_of slot what) v)
slot_changed v slot (Put value) low fits = put_slot v slot (Some value) low
slot_changed v slot (Append bytes) low fits =
    let long = length-append (value_in v slot) bytes in
    subst (λ o. IsChangedAt slot o v (with_append slot bytes v)) (ap Some (take_all 248 (value_in v slot ++ bytes) (omega (arith, long, fits)))) (put_slot v slot (Some (take 248 (value_in v slot ++ bytes))) low)
slot_changed v slot Delete low fits = put_slot v slot None low

-- the record of the change tells the write of this value
pub update_tells : (u : OpenTxn) (v : PageView) (slot : ℕ) (what : Change) (w : Write) → v.page.0 ≡ w.page → slot ≡ slot_of_key w.key → w.value ≡ value_after what (content v slot) → Tells (update_of u v slot what) w (content v slot)
update_tells u v slot (Put value) w page place is = (page, place, refl, sym is)
update_tells u v slot (Append bytes) w page place is = (page, place, (refl, refl), is)
update_tells u v slot Delete w page place is = (page, place, refl, sym is)

-- What the change of a slot is to the machine, where a transaction that has locked the record of the key writes it.
module _ (p : Plain) (m : Machine) (t : TxnId) (w : Write) (u : OpenTxn) (x : PageNo) (slot : ℕ) (what : Change) (here : home m w.key ≡ Some w.page) (page : w.page ≡ x.0) (place : slot_of_key w.key ≡ slot) (lock : mode_of m.locks (record { 0 = w.key }) t ≡ Some locks.Write)
    (value : w.value ≡ value_after what (seen m t w.key)) (number : (p.pages x.0).page ≡ x) (before : (p.pages x.0).ident < 2 ^ 63) (low : slot < length (p.pages x.0).slots) (fits : FitsSlotOf (p.pages x.0) slot what) (means : Means p m) where
  abbrev v : PageView
  v = p.pages x.0

  abbrev rec : LogRecord
  rec = update_of u v slot what

  abbrev new : PageView
  new = applied (op_of slot what) v

  sees : content v slot ≡ seen m t w.key
  sees = subst (λ k. content v k ≡ seen m t w.key) place (subst (λ y. content (p.pages y) (slot_of_key w.key) ≡ seen m t w.key) page (seen_locked p m (record { 0 = w.key }) w.page t locks.Write means.locked means.pages here lock))

  gives : w.value ≡ value_after what (content v slot)
  gives = value ∙ ap (value_after what) (sym sees)

  pub tells_write : Tells rec w (seen m t w.key)
  tells_write = subst (Tells rec w) sees (update_tells u v slot what w (ap (λ (y : PageNo). y.0) number ∙ sym page) (sym place) gives)

  pub ident_below : m.ident w.page < 2 ^ 63
  ident_below = let range = home_is_data p m w.key w.page means.pages here in subst (λ n. n < 2 ^ 63) (means.pages.ident w.page range.0 range.1) (subst (λ y. (p.pages y).ident < 2 ^ 63) (sym page) before)

  pub page_changed : IsChangedAt (slot_of_key w.key) w.value (p.pages w.page) new
  page_changed = subst (λ y. IsChangedAt (slot_of_key w.key) w.value (p.pages y) new) (sym page) (subst (λ k. IsChangedAt k w.value v new) (sym place) (subst (λ o. IsChangedAt slot o v new) (sym gives) (slot_changed v slot what low fits)))

  -- what a store means, where the page of the key's group has its new value
  pub means_updated : ((n : ℕ) → 1 ≤ n → n ≤ m.shape.nodes → owed m n ≤ 6 * m.shape.ring) → Means (logged t.node.0 rec (with_page x.0 new p)) (one (Changed t w) m)
  means_updated owes = subst (λ y. Means (logged t.node.0 rec (with_page y new p)) (one (Changed t w) m)) page (means_changed p m t w rec new here lock tells_write page_changed ident_below owes means)

-- ---- the deeds of the seats

-- A transaction has one deed more, whose record is the newest update of it and is none of another transaction.
module _ (seats after : SeatsState) (t : TxnId) (w : Option Write) (u : OpenTxn) (last left first number : ℕ) (recs : List LogRecord) (rec : LogRecord) (ds : List Deed) where
  pub updated_deeds : length seats.seats ≡ 8 → t.seat < 8 → AllPairs AreApart seats.seats → txn_in seats t.seat ≡ Some u → after.seats ≡ slice_set seats.seats t.seat (Some (record { begin = u.begin; last = last; left = left })) → first + length recs ≡ number → is_update_of u.begin rec ≡ true
      → ((other : OpenTxn) → u.begin ≢ other.begin → (is_update_of other.begin rec ≡ false) × (next_after other.begin rec ≡ None)) → ((seat : ℕ) → seat < 8 → map (λ (e : Deed). e.number) (deeds_in seat ds) ≡ numbers_of first recs (txn_in seats seat))
      → (seat : ℕ) → seat < 8 → map (λ (e : Deed). e.number) (deeds_in seat (ds ++ record { number = number; seat = t.seat; write = w } ∷ [])) ≡ numbers_of first (recs ++ rec ∷ []) (txn_in after seat)
  updated_deeds count within apart busy new end own none was seat low = elim (cases_eq t.seat seat) [
    | inl here ↦
        let mine : txn_in after t.seat ≡ Some (record { begin = u.begin; last = last; left = left }) = ap (λ os. slice_index_or os t.seat None) new ∙ get_or-set_same seats.seats t.seat _ None (omega (arith, within, count)) in
        subst (λ k. map (λ (e : Deed). e.number) (deeds_in k (ds ++ record { number = number; seat = t.seat; write = w } ∷ [])) ≡ numbers_of first (recs ++ rec ∷ []) (txn_in after k)) here
        (ap (map (λ (e : Deed). e.number)) (deeds-push t.seat ds (record { number = number; seat = t.seat; write = w }) refl)
        ∙ map-append (λ (e : Deed). e.number) (deeds_in t.seat ds) (record { number = number; seat = t.seat; write = w } ∷ [])
        ∙ ap (λ ns. ns ++ number ∷ []) (was t.seat within ∙ ap (numbers_of first recs) busy)
        ∙ ap (λ us. u.begin ∷ us) (sym (reverse-append (number ∷ []) (uncompensated u.begin first recs)))
        ∙ ap (λ k. u.begin ∷ reverse (k ∷ uncompensated u.begin first recs)) (sym end)
        ∙ ap (λ us. u.begin ∷ reverse us) (sym (left-update u.begin first recs rec own))
        ∙ ap (numbers_of first (recs ++ rec ∷ [])) (sym mine))
    | inr other ↦
        let same : txn_in after seat ≡ txn_in seats seat = ap (λ os. slice_index_or os seat None) new ∙ get_or-set_other seats.seats t.seat seat _ None (λ e. other (sym e)) in
        ap (map (λ (e : Deed). e.number)) (deeds-other seat ds (record { number = number; seat = t.seat; write = w }) other)
        ∙ was seat low
        ∙ sym (numbers-other first recs rec (txn_in seats seat) (none_of (txn_in seats seat) (apart_at seats.seats t.seat seat u None apart (omega (arith, within, count)) (omega (arith, low, count)) (λ e. other (sym e)) busy)))
        ∙ ap (numbers_of first (recs ++ rec ∷ [])) (sym same)
  ]
    where
      none_of : (o : Option OpenTxn) → IfSome o (λ other. u.begin ≢ other.begin) → IfSome o (λ other. (is_update_of other.begin rec ≡ false) × (next_after other.begin rec ≡ None))
      none_of None apart = tt
      none_of (Some other) apart = none other apart

-- ---- the node after it

module _ (n : ℕ) (s : Shape) (pool new : List (Option (List ℕ))) (owners : List Own) (c d : CacheState) (seats after : SeatsState) (b b' : ℕ → BlockState) (p : Plain) (m : Machine) (t : TxnId) (w : Write) (u : OpenTxn) (x : PageNo) (slot : ℕ) (what : Change) (work : IsAtWork s pool owners n c seats) where
  pub up_updated : s.maps ≤ x.0 → t.node.0 ≡ n → t.seat ≤ 7 → txn_in seats t.seat ≡ Some u → AreLogs p m → HasPage pool c.pages x (p.pages x.0) → ((page : CachedPage) → page_at x c.pages ≡ Some page → KeepsFrames page.frame pool new) → HasPage new d.pages x (applied (op_of slot what) (p.pages x.0))
      → d.pages ≡ cache.with_page x (changed_by c.log.tail) c.pages → SameLog c.log d.log → after.seats ≡ slice_set seats.seats t.seat (Some (record { begin = u.begin; last = c.log.tail; left = u.left + 1 }))
      → HasRecords d.log b' (p.live n ++ update_of u (p.pages x.0) slot what ∷ []) → AreTold after c.log.start (p.live n ++ update_of u (p.pages x.0) slot what ∷ []) → ShowsUp s pool n c seats b p m
      → ShowsUp s new n d after b' (logged n (update_of u (p.pages x.0) slot what) (with_page x.0 (applied (op_of slot what) (p.pages x.0)) p)) (one (Changed t w) m)
  up_updated far node seat busy logs has frames now pages same seats_are records told was =
      let v : PageView = p.pages x.0 in
      let rec : LogRecord = update_of u v slot what in
      let next : PageView = applied (op_of slot what) v in
      let tail = tail_shown n s pool c seats b p m logs was in
      let long = length_shown n s pool c seats b p m was in
      let deeds = deeds_done n t (Some w) (record m { ident = put w.page (m.ident w.page + 1) m.ident }) node in
      let shows : Shows new has.page.frame (image_in s (with_page x.0 next p) x) =
      subst (Shows new has.page.frame) (sym (data_new s p x next far)) (subst (λ f. Shows new f (data_page next)) (frame_kept x c.log.tail c.pages d.pages has.page now.page pages has.there now.there) now.shows) in
      up_changed n s pool new c d seats after b b' p (with_page x.0 next p) m (one (Changed t w) m) x has.page c.log.tail rec (only_data s p x next) work.cache has.there (frames has.page has.there) shows pages same refl records told
      (λ k low. ap (λ ds. map (λ (e : Deed). e.number) (deeds_in k ds)) deeds
      ∙ updated_deeds seats after t (Some w) u c.log.tail (u.left + 1) (6 * c.log.start) (m.tail n) (p.live n) rec (m.pending n) work.eight (omega (arith, seat)) work.tie.apart busy seats_are (long ∙ sym tail) (update_own u v slot what u.begin refl)
      (λ other apart. update_other u v slot what other.begin apart) was.deeds k low)
      (subst (All (λ (e : Deed). e.seat < 8)) (sym deeds) (All-push (λ (e : Deed). e.seat < 8) (m.pending n) _ was.within (omega (arith, seat)))) was
