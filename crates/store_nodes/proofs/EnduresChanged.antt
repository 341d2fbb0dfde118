-- A transaction changes a slot of a page in a store that endures.
use Rattle.std.specs.Prelude.{◌≡◌, ◌≢◌, ◌+◌, ◌^◌, ◌<◌, ◌≤◌, [], ℕ, true, false, Option, Some, None, IfSome, is_some, length, refl, slice_set, unwrap_or}
use Rattle.std.proofs.Common.{arith, ap, subst, sym, ◌∙◌, eq-eqb, ne_eqb}
use Rattle.sd_base.specs.Disk.{BlockState}
use Rattle.sd_base.specs.Places.{slot_of_key}
use Rattle.sd_base.specs.Shape.{page_count}
use Rattle.sd_base.specs.declared.names.PageNo.{PageNo}
use Rattle.sd_base.specs.declared.names.TxnId.{TxnId}
use Rattle.sd_base.specs.declared.page_op.PageOp.{PageOp}
use Rattle.sd_base.specs.declared.page_op.PageOp.TheVariants as ops
use Rattle.page_image.specs.declared.page_view.PageView.{PageView}
use Rattle.page_image.specs.Change.{applied}
use Rattle.log_record.specs.declared.record.LogRecord.{LogRecord}
use Rattle.log_record.specs.Fields.{fields_of}
use Rattle.log_record.specs.Record.{change_of}
use Rattle.compensation.specs.Inverse.{content}
use Rattle.private_log.specs.Log.{space}
use Rattle.record_locks.specs.declared.mode.Mode.TheVariants as locks
use Rattle.record_locks.specs.Held.{mode_of}
use Rattle.node_cache.specs.Cache.{CacheState}
use Rattle.txn_core.specs.declared.change.Change.{Change}
use Rattle.txn_core.specs.declared.change.Change.TheVariants.{Put, Append, Delete}
use Rattle.txn_core.specs.Seats.{OpenTxn, SeatsState, owed, txn_in}
use Rattle.txn_core.specs.Updates.{FitsSlotOf, HasPage, op_of, update_of}
use Rattle.txn_core.proofs.UpdateLaws.{apart_at, update_is}
use Rattle.recovery_theory.specs.Effect.{effect_of, left_of}
use Rattle.recovery_theory.specs.Effect.Effect.{Updated}
use Rattle.recovery_theory.specs.History.{History}
use Rattle.recovery_theory.specs.Rules.{RuleOf, is_record_of, last_record_of}
use Rattle.recovery_theory.specs.Steps as step
use Rattle.recovery_theory.proofs.Cuts.{with_record-same}
use Rattle.record_machine.specs.Cuts.{Survives, SurvivesAs}
use Rattle.record_machine.specs.Machine.{Machine, Write, home, put, seen}
use Rattle.record_machine.specs.Machine as machine
use Rattle.record_machine.specs.Meaning.{Plain, logged, with_page}
use Rattle.record_machine.specs.Parts.{Change as Changed, one}
use Rattle.record_machine.proofs.DeedStops.{changed_survives}
use Rattle.record_machine.proofs.SeatDeeds.{busy_written}
use Rattle.store_nodes.specs.declared.node.Node.TheVariants.{Up}
use Rattle.store_nodes.specs.declared.store.Store.{Store}
use Rattle.store_nodes.specs.Nodes.{IsAtWork, IsPlace, IsStore, node_at}
use Rattle.store_nodes.specs.Endures.{AreBusy, EnduresButAs, with_held}
use Rattle.store_nodes.specs.Pages.{value_after}
use Rattle.store_nodes.specs.Shows.{ShowsNode, holder}
use Rattle.store_nodes.specs.Tied.{AreLatest, TiesNode, TiesUp}
use Rattle.store_nodes.proofs.LastRecords.{follows_open, last_own, latest_set}
use Rattle.store_nodes.proofs.Owing.{nodes_owe_few}
use Rattle.store_nodes.proofs.RoomShown.{room_for_record}
use Rattle.store_nodes.proofs.Seated.{begun_shown, busy_shown}
use Rattle.store_nodes.proofs.ShownLogged.{length_shown}
use Rattle.store_nodes.proofs.ShownUpdate.{ident_below, page_changed, tells_write}
use Rattle.store_nodes.proofs.Works.{work_at}

-- ---- the record of an update

-- it is an update by the transaction
update_effect : (u : OpenTxn) (v : PageView) (slot : ℕ) (what : Change) → (back : PageOp) × (effect_of (update_of u v slot what) ≡ Updated u.begin v.page.0 v.ident (op_of slot what) back)
update_effect u v slot (Put value) = (ops.Put slot (content v slot), refl)
update_effect u v slot (Append bytes) = (ops.Cut slot (is_some (content v slot)) (length (unwrap_or (content v slot) [])), refl)
update_effect u v slot Delete = (ops.Put slot (content v slot), refl)

-- which says its change, and the page's identifier
update_says : (u : OpenTxn) (v : PageView) (slot : ℕ) (what : Change) → (change_of (update_of u v slot what) ≡ Some (op_of slot what)) × ((fields_of (update_of u v slot what)).bsi ≡ v.ident)
update_says u v slot (Put value) = (refl, refl)
update_says u v slot (Append bytes) = (refl, refl)
update_says u v slot Delete = (refl, refl)

-- ---- the store

module _ (me : Store) (b : ℕ → BlockState) (p : Plain) (m : Machine) (t : TxnId) (c : CacheState) (seats : SeatsState) (is : IsStore me) (place : IsPlace t.node.0) (low : t.node.0 ≤ me.shape.nodes) (up : node_at me.nodes t.node.0 ≡ Up c seats) (but : Option ℕ) (shown : EnduresButAs but me b p m)
    (w : Write) (u : OpenTxn) (x : PageNo) (slot : ℕ) (what : Change) (seat : t.seat ≤ 7) (opened : txn_in seats t.seat ≡ Some u) where
  abbrev n : ℕ
  n = t.node.0

  abbrev h : History
  h = shown.history

  abbrev m1 : Machine
  m1 = with_held shown.held m

  abbrev v : PageView
  v = p.pages x.0

  abbrev rec : LogRecord
  rec = update_of u v slot what

  abbrev op : PageOp
  op = op_of slot what

  abbrev h' : History
  h' = step.changed_page h n rec x.0 op

  work : IsAtWork me.shape me.shared.pool me.shared.owners n c seats
  work = work_at me.shape me.shared.pool me.shared.owners me.nodes n c seats place up is

  mine : ShowsNode me.shape me.shared.pool n (Up c seats) b p m1
  mine = subst (λ o. ShowsNode me.shape me.shared.pool n o b p m1) up (shown.nodes.node n place low)

  tied : TiesUp n c seats h
  tied = subst (λ o. TiesNode me.shape n o b h) up (shown.tied.node n place low)

  busy : machine.is_busy m1 t ≡ true
  busy = busy_shown me.shape me.shared.pool c seats b p m1 t (omega (arith, seat)) work.eight shown.survives.survives.means.logs mine.1 ∙ ap is_some opened

  begun : shown.survives.survives.recoverable.begun n t.seat ≡ u.begin
  begun = begun_shown me.shape me.shared.pool c seats b p m1 t u (shown.survives.survives.recoverable.begun n t.seat) (omega (arith, seat)) work.eight shown.survives.survives.means.logs mine.1 opened (shown.survives.survives.recoverable.seats t busy).begins

  -- the record follows the last one of its transaction
  rule : RuleOf (h.devices.first n) (h.live n) rec (effect_of rec)
  rule =
      let r = shown.survives.survives.recoverable in
      let told = r.seats t busy in
      let eight = work.eight in
      let last : last_record_of u.begin (h.devices.first n) (h.live n) u.begin ≡ u.last = subst (λ o. IfSome o (λ t. last_record_of t.begin (h.devices.first n) (h.live n) t.begin ≡ t.last)) opened (tied.latest t.seat None (omega (arith, seat, eight))) in
      subst (RuleOf (h.devices.first n) (h.live n) rec) (sym (update_effect u v slot what).1)
      (follows_open u.begin (h.devices.first n) (h.live n) rec told.left (r.roomy.whole.ruled n) (subst (λ k. left_of k (h.devices.first n) (h.live n) None ≡ Some told.left) begun told.going) ((update_is u v slot what).0 ∙ sym last))

  pub latest_changed : (after : SeatsState) → after.seats ≡ slice_set seats.seats t.seat (Some (record { begin = u.begin; last = c.log.tail; left = u.left + 1 })) → AreLatest (h.devices.first n) (h'.live n) after
  latest_changed after new =
      let live : length (h.live n) ≡ length (p.live n) = ap length (shown.survives.survives.recoverable.live n) in
      let long = length_shown n me.shape me.shared.pool c seats b p m1 mine.1 in
      let first = tied.first in
      let eight = work.eight in
      let effect = (update_effect u v slot what).1 in
      subst (λ recs. AreLatest (h.devices.first n) recs after) (sym (with_record-same n rec h.live))
      (latest_set (h.devices.first n) (h.live n) rec seats after t.seat (Some (record { begin = u.begin; last = c.log.tail; left = u.left + 1 })) work.eight new
      (last_own u.begin (h.devices.first n) (h.live n) rec (ap (is_record_of u.begin) effect ∙ eq-eqb u.begin u.begin refl) ∙ omega (arith, live, long, first))
      (λ k k_low far. other (txn_in seats k) (apart_at seats.seats t.seat k u None work.tie.apart (omega (arith, seat, eight)) (omega (arith, k_low, eight)) far opened)) tied.latest)
    where
      other : (o : Option OpenTxn) → IfSome o (λ z. u.begin ≢ z.begin) → IfSome o (λ z. is_record_of z.begin (effect_of rec) ≡ false)
      other None apart = tt
      other (Some z) apart = ap (is_record_of z.begin) (update_effect u v slot what).1 ∙ ne_eqb u.begin z.begin apart

  pub lockers_changed : AreBusy (one (Changed t w) m)
  lockers_changed key z how has is_up = busy_written m t z (record { number = m.tail n; seat = t.seat; write = Some w }) w refl ∙ shown.lockers key z how has is_up

  -- ---- what it survives

  module _ (whole : me.shared.reopening ≡ false) (room : owed seats + 2 ≤ space c.log) (within : x.0 < page_count me.shape) (has : HasPage me.shared.pool c.pages x v) (before : v.ident < 2 ^ 63) (slot_low : slot ≤ 15) (fits : FitsSlotOf v slot what)
      (here : home m w.key ≡ Some w.page) (page : w.page ≡ x.0) (slot_is : slot_of_key w.key ≡ slot) (lock : mode_of m.locks (record { 0 = w.key }) t ≡ Some locks.Write) (value : w.value ≡ value_after what (seen m t w.key)) where
    locked : mode_of shown.held (record { 0 = w.key }) t ≡ Some locks.Write
    locked = subst (λ l. mode_of l (record { 0 = w.key }) t ≡ Some locks.Write) (sym (shown.survives.own (shown.reopening ∙ whole))) lock

    held : m.hold w.page ≡ Some n
    held = subst (λ y. m.hold y ≡ Some n) (sym page) (shown.nodes.hold x.0 within ∙ ap holder ((work.owned x).1 (ap is_some has.there)) ∙ ap Some work.number)

    slot_in : slot < length v.slots
    slot_in = let count = has.shows.text.image.slots in omega (arith, slot_low, count)

    survived : Survives (put x.0 true shown.dirty) h' (logged n rec (with_page x.0 (applied op v) p)) (one (Changed t w) m1)
    survived =
        let means = shown.survives.survives.means in
        subst (λ y. Survives (put y true shown.dirty) (step.changed_page h n rec y op) (logged n rec (with_page y (applied op v) p)) (one (Changed t w) m1)) page
        (changed_survives shown.dirty h p m1 t w rec op (applied op v) shown.survives.survives (λ idle. (let never : machine.Idle ≡ machine.Up = sym idle ∙ mine.0 in cc)) busy here held locked
        (tells_write p m1 t w u x slot what here page slot_is locked value has.number before slot_in fits means) (update_says u v slot what).0 ((update_is u v slot what).1 ∙ sym begun) ((update_says u v slot what).1 ∙ ap (λ y. (p.pages y).ident) (sym page)) rule
        (room_for_record n me.shape me.shared.pool me.shared.owners c seats b shown.dirty h p m1 work shown.nodes.shape mine.1 shown.survives.survives.recoverable rec room)
        (ap (λ y. applied op (p.pages y)) (sym page)) (page_changed p m1 t w u x slot what here page slot_is locked value has.number before slot_in fits means)
        (ident_below p m1 t w u x slot what here page slot_is locked value has.number before slot_in fits means) (nodes_owe_few me.shape me.shared.pool me.shared.owners me.nodes b p m1 is shown.nodes))

    pub survives_changed : SurvivesAs shown.held (put x.0 true shown.dirty) h' (logged n rec (with_page x.0 (applied op v) p)) (one (Changed t w) m)
    survives_changed = record {
      survives = survived;
      own = shown.survives.own;
      lost = shown.survives.lost;
      awaits = shown.survives.awaits;
      quiet = λ lost. (let never : true ≡ false = sym lost ∙ shown.reopening ∙ whole in absurd cc);
    }
