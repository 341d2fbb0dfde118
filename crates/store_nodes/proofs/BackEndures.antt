-- The newest write of a transaction is taken back in a store that endures.
use Rattle.std.specs.Prelude.{◌≡◌, ◌≢◌, ◌==◌, ◌+◌, ◌-◌, ◌*◌, ◌<◌, ◌≤◌, ◌++◌, ◌∷◌, [], ℕ, true, false, List, Option, Some, None, IfSome, is_some, length, refl, slice_set}
use Rattle.std.proofs.Common.{arith, ap, subst, sym, ◌∙◌, eq-eqb, ne_eqb}
use Rattle.sd_base.specs.Disk.{BlockState}
use Rattle.sd_base.specs.Places.{slot_of_key}
use Rattle.sd_base.specs.Shape.{page_count}
use Rattle.sd_base.specs.declared.names.PageNo.{PageNo}
use Rattle.sd_base.specs.declared.names.TxnId.{TxnId}
use Rattle.sd_base.specs.declared.page_op.PageOp.{PageOp}
use Rattle.sd_base.specs.declared.shape.Shape.{Shape}
use Rattle.page_image.specs.declared.page_view.PageView.{PageView}
use Rattle.page_image.specs.Change.{applied}
use Rattle.log_record.specs.declared.record.LogRecord.{LogRecord}
use Rattle.compensation.specs.Inverse.{taking_back}
use Rattle.node_cache.specs.Cache.{CacheState, is_cached}
use Rattle.txn_core.specs.Seats.{OpenTxn, SeatsState, txn_in}
use Rattle.txn_core.specs.Undo.{TakesBack}
use Rattle.txn_core.proofs.UpdateLaws.{apart_at}
use Rattle.recovery_theory.specs.Effect.{effect_of, left_of}
use Rattle.recovery_theory.specs.Effect.Effect.{Compensated}
use Rattle.recovery_theory.specs.History.{History}
use Rattle.recovery_theory.specs.Room.{HasRoom}
use Rattle.recovery_theory.specs.Rules.{IsOwed, IsRuled, RuleOf, is_record_of, last_record_of}
use Rattle.recovery_theory.specs.Steps.{changed_page}
use Rattle.recovery_theory.proofs.Cuts.{with_record-same}
use Rattle.recovery_theory.proofs.RoomTaken.{room_for_owed}
use Rattle.record_machine.specs.Cuts.{Survives, SurvivesAs}
use Rattle.record_machine.specs.Machine.{Deed, Machine, Write, is_busy, newest_of, put, seen}
use Rattle.record_machine.specs.Machine as machine
use Rattle.record_machine.specs.Meaning.{IsChangedAt, Plain, logged, with_page}
use Rattle.record_machine.specs.Parts.{Back, one, taken_back}
use Rattle.record_machine.specs.Recoverable.{Recoverable, TellsSeat}
use Rattle.record_machine.proofs.BackSteps.{back_home, back_is}
use Rattle.record_machine.proofs.DeedStops.{back_survives}
use Rattle.record_machine.proofs.Homes.{home_is_data}
use Rattle.record_machine.proofs.RecoverableBacks.{busy_same}
use Rattle.store_nodes.specs.declared.node.Node.TheVariants.{Up}
use Rattle.store_nodes.specs.declared.store.Store.{Store}
use Rattle.store_nodes.specs.Endures.{AreBusy, EnduresAs, with_held}
use Rattle.store_nodes.specs.Nodes.{IsAtWork, IsPlace, IsStore, node_at}
use Rattle.store_nodes.specs.Shows.{ShowsNode, holder}
use Rattle.store_nodes.specs.Tied.{AreLatest, TiesNode, TiesUp}
use Rattle.store_nodes.proofs.LastRecords.{last_own, latest_set}
use Rattle.store_nodes.proofs.RuledBacks.{effect, next, of_slot, owed_back, rule_back}
use Rattle.store_nodes.proofs.Seated.{begun_shown, busy_shown}
use Rattle.store_nodes.proofs.ShownLogged.{length_shown}
use Rattle.store_nodes.proofs.Works.{work_at}

module _ (me : Store) (b : ℕ → BlockState) (p : Plain) (m : Machine) (t : TxnId) (c : CacheState) (seats : SeatsState) (e : Deed) (w : Write) (u : OpenTxn) (rec : LogRecord) (op : PageOp) (is : IsStore me) (place : IsPlace t.node.0) (low : t.node.0 ≤ me.shape.nodes) (up : node_at me.nodes t.node.0 ≡ Up c seats)
    (shown : EnduresAs me b p m) (whole : me.shared.reopening ≡ false) (seat : t.seat ≤ 7) (busy : txn_in seats t.seat ≡ Some u) (newest : newest_of m t ≡ Some e) (write : e.write ≡ Some w) (cached : is_cached (record { 0 = w.page }) c ≡ true) (number : (p.pages w.page).page ≡ record { 0 = w.page })
    (takes : TakesBack me.shared.pool c.pages (6 * c.log.start) (p.live t.node.0) u (p.pages w.page) rec) (back : taking_back takes.undo.update ≡ Some op) (slot : IsChangedAt (slot_of_key w.key) (seen (one (Back t) (with_held shown.held m)) t w.key) (p.pages w.page) (applied op (p.pages w.page))) where
  abbrev n : ℕ
  n = t.node.0

  abbrev h : History
  h = shown.history

  abbrev m1 : Machine
  m1 = with_held shown.held m

  abbrev v : PageView
  v = p.pages w.page

  abbrev new : PageView
  new = applied op (p.pages w.page)

  abbrev s : Survives shown.dirty shown.history p (with_held shown.held m)
  s = shown.survives.survives

  abbrev r : Recoverable shown.dirty shown.history p (with_held shown.held m)
  r = shown.survives.survives.recoverable

  work : IsAtWork me.shape me.shared.pool me.shared.owners n c seats
  work = work_at me.shape me.shared.pool me.shared.owners me.nodes n c seats place up is

  mine : ShowsNode me.shape me.shared.pool n (Up c seats) b p m1
  mine = subst (λ o. ShowsNode me.shape me.shared.pool n o b p m1) up (shown.nodes.node n place low)

  tied : TiesUp n c seats h
  tied = subst (λ o. TiesNode me.shape n o b h) up (shown.tied.node n place low)

  in_use : m.mode n ≢ machine.Idle
  in_use idle = let never : machine.Up ≡ machine.Idle = sym mine.0 ∙ idle in cc

  is_open : is_busy m1 t ≡ true
  is_open = busy_shown me.shape me.shared.pool c seats b p m1 t (omega (arith, seat)) work.eight s.means.logs mine.1 ∙ ap is_some busy

  tells : TellsSeat h m1 t (r.begun n t.seat)
  tells = r.seats t is_open

  -- the transaction has the number of the record that began it
  begun : r.begun n t.seat ≡ u.begin
  begun = begun_shown me.shape me.shared.pool c seats b p m1 t u (r.begun n t.seat) (omega (arith, seat)) work.eight s.means.logs mine.1 busy tells.begins

  -- the page is the node's
  held : m.hold w.page ≡ Some n
  held =
      let range = home_is_data p m1 w.key w.page s.means.pages (back_home p m1 t e w newest write s.means.logs) in
      let count = ap (λ (z : Shape). page_count z) shown.nodes.shape in
      shown.nodes.hold w.page (subst (λ k. w.page < k) count range.1) ∙ ap holder ((work.owned (record { 0 = w.page })).1 cached) ∙ ap Some work.number

  -- ---- the record

  does : effect_of rec ≡ Compensated (r.begun n t.seat) (next (6 * c.log.start) (p.live n) u v me.shared.pool c.pages rec op takes back) w.page v.ident op
  does =
      effect (6 * c.log.start) (p.live n) u v me.shared.pool c.pages rec op takes back
      ∙ ap (λ y. Compensated u.begin (next (6 * c.log.start) (p.live n) u v me.shared.pool c.pages rec op takes back) y v.ident op) (ap (λ (y : PageNo). y.0) number)
      ∙ ap (λ k. Compensated k (next (6 * c.log.start) (p.live n) u v me.shared.pool c.pages rec op takes back) w.page v.ident op) (sym begun)

  -- the log of the history is the node's
  on_log : (P : ℕ → List LogRecord → Type 0) → P (h.devices.first n) (h.live n) → P (6 * c.log.start) (p.live n)
  on_log P was = subst (λ recs. P (6 * c.log.start) recs) (r.live n) (subst (λ k. P k (h.live n)) tied.first was)

  of_log : (P : ℕ → List LogRecord → Type 0) → P (6 * c.log.start) (p.live n) → P (h.devices.first n) (h.live n)
  of_log P was = subst (λ k. P k (h.live n)) (sym tied.first) (subst (λ recs. P (6 * c.log.start) recs) (sym (r.live n)) was)

  last : last_record_of u.begin (h.devices.first n) (h.live n) u.begin ≡ u.last
  last =
      let here : IfSome (txn_in seats t.seat) (λ o. last_record_of o.begin (h.devices.first n) (h.live n) o.begin ≡ o.last) = tied.latest t.seat None (let eight = work.eight in omega (arith, seat, eight)) in
      subst (λ o. IfSome o (λ o. last_record_of o.begin (h.devices.first n) (h.live n) o.begin ≡ o.last)) busy here

  abbrev going : left_of u.begin (h.devices.first n) (h.live n) None ≡ Some tells.left
  going = ap (λ k. left_of k (h.devices.first n) (h.live n) None) (sym begun) ∙ tells.going

  since : 6 * c.log.start ≤ u.begin
  since = (subst (λ o. IfSome o (λ k. (6 * c.log.start ≤ k.begin) × (k.begin ≤ k.last) × (k.last < c.log.tail))) busy (work.tie.within t.seat None (let eight = work.eight in omega (arith, seat, eight)))).0

  ruled : IsRuled (6 * c.log.start) [] (p.live n)
  ruled = on_log (λ k recs. IsRuled k [] recs) (r.roomy.whole.ruled n)

  rule : RuleOf (h.devices.first n) (h.live n) rec (effect_of rec)
  rule = of_log (λ k recs. RuleOf k recs rec (effect_of rec)) (rule_back (6 * c.log.start) (p.live n) u v me.shared.pool c.pages rec op takes back tells.left ruled since
      (on_log (λ k recs. left_of u.begin k recs None ≡ Some tells.left) going) (on_log (λ k recs. last_record_of u.begin k recs u.begin ≡ u.last) last))

  fits : HasRoom h.devices n (h.live n ++ rec ∷ [])
  fits = room_for_owed h.devices n u.begin (h.live n) rec
      (of_log (λ k recs. IsOwed k recs rec u.begin) (owed_back (6 * c.log.start) (p.live n) u v me.shared.pool c.pages rec op takes back tells.left ruled since
      (on_log (λ k recs. left_of u.begin k recs None ≡ Some tells.left) going) (on_log (λ k recs. last_record_of u.begin k recs u.begin ≡ u.last) last)))
      (r.roomy.whole.fits n)

  -- ---- what is left

  abbrev h' : History
  h' = changed_page h n rec w.page op

  -- the machine after it
  abbrev m' : Machine
  m' = taken_back t (Some w) m

  survived : Survives (put w.page true shown.dirty) h' (logged n rec (with_page w.page new p)) (taken_back t (Some w) m1)
  survived = subst (Survives (put w.page true shown.dirty) h' (logged n rec (with_page w.page new p))) (back_is m1 t e w newest write)
      (back_survives shown.dirty h p m1 t e w rec (next (6 * c.log.start) (p.live n) u v me.shared.pool c.pages rec op takes back) op new s in_use is_open newest write place.0 (subst (λ (z : Shape). n ≤ z.nodes) (sym shown.nodes.shape) low) held does
      (of_slot (6 * c.log.start) (p.live n) u v me.shared.pool c.pages rec op takes back mine.1.records.legal) rule fits refl slot)

  pub survives_back : SurvivesAs shown.held (put w.page true shown.dirty) h' (logged n rec (with_page w.page new p)) m'
  survives_back = record {
    survives = survived;
    own = shown.survives.own;
    lost = shown.survives.lost;
    awaits = shown.survives.awaits;
    quiet = λ lost. (let never : true ≡ false = sym lost ∙ shown.reopening ∙ whole in absurd cc);
  }

  pub lockers_back : AreBusy m'
  lockers_back key y how has live = busy_same shown.dirty h p m1 t e w rec (next (6 * c.log.start) (p.live n) u v me.shared.pool c.pages rec op takes back) op new r s.means is_open newest write held does
      (of_slot (6 * c.log.start) (p.live n) u v me.shared.pool c.pages rec op takes back mine.1.records.legal) rule fits refl slot.ident y ∙ shown.lockers key y how has live

  pub latest_back : (after : SeatsState) → after.seats ≡ slice_set seats.seats t.seat (Some (record { begin = u.begin; last = c.log.tail; left = u.left - 1 })) → AreLatest (h.devices.first n) (h'.live n) after
  latest_back after set =
      let live : length (h.live n) ≡ length (p.live n) = ap length (r.live n) in
      let long = length_shown n me.shape me.shared.pool c seats b p m1 mine.1 in
      let first = tied.first in
      let end : h.devices.first n + length (h.live n) ≡ c.log.tail = omega (arith, live, long, first) in
      subst (λ recs. AreLatest (h.devices.first n) recs after) (sym (with_record-same n rec h.live))
      (latest_set (h.devices.first n) (h.live n) rec seats after t.seat (Some (record { begin = u.begin; last = c.log.tail; left = u.left - 1 })) work.eight set
      (last_own u.begin (h.devices.first n) (h.live n) rec (rw (does, begun) (own u.begin)) ∙ end)
      (λ k k_low far. none_of (txn_in seats k) (apart_at seats.seats t.seat k u None work.tie.apart (let eight = work.eight in omega (arith, seat, eight)) (let eight = work.eight in omega (arith, k_low, eight)) far busy)) tied.latest)
    where
      own : (k : ℕ) → (k == k) ≡ true
      own k = eq-eqb k k refl

      none_of : (o : Option OpenTxn) → IfSome o (λ other. u.begin ≢ other.begin) → IfSome o (λ other. is_record_of other.begin (effect_of rec) ≡ false)
      none_of None apart = tt
      none_of (Some other) apart = rw (does, begun) (ne_eqb u.begin other.begin apart)
