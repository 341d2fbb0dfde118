-- A place of a map page comes into use in a store that endures.
use Rattle.std.specs.Prelude.{◌≡◌, ◌+◌, ◌≤◌, ◌<◌, ℕ, true, false, Option, Some, None, refl}
use Rattle.std.proofs.Common.{ap, subst, sym, ◌∙◌}
use Rattle.sd_base.specs.Disk.{BlockState}
use Rattle.sd_base.specs.Places.{group_of, map_of_key, page_of_place}
use Rattle.sd_base.specs.Shape.{page_count}
use Rattle.sd_base.specs.declared.names.GroupNo.{GroupNo}
use Rattle.sd_base.specs.declared.names.PageNo.{PageNo}
use Rattle.sd_base.specs.declared.page_op.PageOp.TheVariants as ops
use Rattle.space_map.specs.Change.{applied_map}
use Rattle.space_map.specs.Image.{MapImage}
use Rattle.log_record.specs.declared.record.LogRecord.{LogRecord}
use Rattle.log_record.specs.declared.record.LogRecord.TheVariants.{MapUse}
use Rattle.private_log.specs.Log.{space}
use Rattle.node_cache.specs.Cache.{CacheState, is_cached}
use Rattle.txn_core.specs.Seats.{SeatsState, owed}
use Rattle.recovery_theory.specs.Effect.{Transaction, effect_of}
use Rattle.recovery_theory.specs.Effect.Effect.{Mapped}
use Rattle.recovery_theory.specs.History.{History}
use Rattle.recovery_theory.specs.Steps as step
use Rattle.recovery_theory.proofs.Cuts.{with_record-same}
use Rattle.recovery_theory.proofs.RoomTaken.{room_for_map_change}
use Rattle.record_machine.specs.Cuts.{Survives, SurvivesAs}
use Rattle.record_machine.specs.Machine.{Machine, free_place, home, put}
use Rattle.record_machine.specs.Machine as machine
use Rattle.record_machine.specs.Meaning.{Plain, logged, with_map}
use Rattle.record_machine.specs.Parts.{Use, one}
use Rattle.record_machine.proofs.UseStops.{used_survives}
use Rattle.store_nodes.specs.declared.node.Node.TheVariants.{Up}
use Rattle.store_nodes.specs.declared.store.Store.{Store}
use Rattle.store_nodes.specs.Nodes.{IsAtWork, IsPlace, IsStore, node_at}
use Rattle.store_nodes.specs.Endures.{AreBusy, EnduresAs, with_held}
use Rattle.store_nodes.specs.Shows.{ShowsNode, holder}
use Rattle.store_nodes.specs.Tied.{AreLatest, TiesNode, TiesUp}
use Rattle.store_nodes.proofs.LastRecords.{latest_others}
use Rattle.store_nodes.proofs.RoomShown.{room_shown}
use Rattle.store_nodes.proofs.ShownUse.{place_used}
use Rattle.store_nodes.proofs.Works.{work_at}

module _ (me : Store) (b : ℕ → BlockState) (p : Plain) (m : Machine) (n : ℕ) (c : CacheState) (seats : SeatsState) (is : IsStore me) (place_is : IsPlace n) (low : n ≤ me.shape.nodes) (up : node_at me.nodes n ≡ Up c seats) (shown : EnduresAs me b p m) (whole : me.shared.reopening ≡ false)
    (map : PageNo) (bsi place key : ℕ) (group : GroupNo) (room : owed seats + 1 ≤ space c.log) (near : map.0 < me.shape.maps) (within : map.0 < page_count me.shape) (cached : is_cached map c ≡ true) (ident : bsi ≡ (p.maps map.0).ident)
    (none : home m key ≡ None) (free : free_place m key ≡ Some place) (its_group : group_of key ≡ group) (its_map : map_of_key m.shape key ≡ map.0) (holds : m.hold (page_of_place m.shape map.0 place) ≡ Some n) where
  abbrev h : History
  h = shown.history

  abbrev m1 : Machine
  m1 = with_held shown.held m

  abbrev rec : LogRecord
  rec = MapUse map bsi place group

  -- the page that the group gets
  abbrev fresh : ℕ
  fresh = page_of_place m.shape map.0 place

  -- the map page with it
  abbrev next : MapImage
  next = applied_map (ops.MapUse place group) (p.maps map.0)

  work : IsAtWork me.shape me.shared.pool me.shared.owners n c seats
  work = work_at me.shape me.shared.pool me.shared.owners me.nodes n c seats place_is up is

  mine : ShowsNode me.shape me.shared.pool n (Up c seats) b p m1
  mine = subst (λ o. ShowsNode me.shape me.shared.pool n o b p m1) up (shown.nodes.node n place_is low)

  tied : TiesUp n c seats h
  tied = subst (λ o. TiesNode me.shape n o b h) up (shown.tied.node n place_is low)

  held : m.hold map.0 ≡ Some n
  held = shown.nodes.hold map.0 within ∙ ap holder ((work.owned map).1 cached) ∙ ap Some work.number

  does : effect_of rec ≡ Mapped (map_of_key m.shape key) (p.maps (map_of_key m.shape key)).ident (ops.MapUse place (group_of key))
  does =
      ap (λ i. Mapped map.0 i (ops.MapUse place group)) ident
      ∙ ap (λ k. Mapped k (p.maps k).ident (ops.MapUse place group)) (sym its_map)
      ∙ ap (λ g. Mapped (map_of_key m.shape key) (p.maps (map_of_key m.shape key)).ident (ops.MapUse place g)) (sym its_group)

  survived : (lock : ℕ → ℕ → Option Transaction) × Survives (put fresh true (put map.0 true shown.dirty)) (step.with_locks (step.used_page h n rec map.0 place group) lock) (logged n rec (with_map map.0 next p)) (one (Use n map.0 place group) m1)
  survived =
      let means = shown.survives.survives.means in
      let maps : map.0 < m.shape.maps = subst (λ z. map.0 < z.maps) (sym shown.nodes.shape) near in
      subst (λ g. (lock : ℕ → ℕ → Option Transaction) × Survives (put fresh true (put map.0 true shown.dirty)) (step.with_locks (step.used_page h n rec map.0 place g) lock) (logged n rec (with_map map.0 (applied_map (ops.MapUse place g) (p.maps map.0)) p)) (one (Use n map.0 place g) m1)) its_group
      (subst (λ k. (lock : ℕ → ℕ → Option Transaction) × Survives (put (page_of_place m.shape k place) true (put k true shown.dirty)) (step.with_locks (step.used_page h n rec k place (group_of key)) lock) (logged n rec (with_map k (applied_map (ops.MapUse place (group_of key)) (p.maps k)) p)) (one (Use n k place (group_of key)) m1)) its_map
      (used_survives shown.dirty h p m1 n key place rec (applied_map (ops.MapUse place (group_of key)) (p.maps (map_of_key m.shape key))) shown.survives.survives (λ idle. (let never : machine.Idle ≡ machine.Up = sym idle ∙ mine.0 in cc)) none free
      (ap m.hold its_map ∙ held) (ap (λ k. m.hold (page_of_place m.shape k place)) its_map ∙ holds) does
      (room_for_map_change h.devices n map.0 bsi (ops.MapUse place group) (h.live n) rec refl (room_shown n me.shape me.shared.pool me.shared.owners c seats b shown.dirty h p m1 work shown.nodes.shape mine.1 shown.survives.survives.recoverable 1 room))
      refl (place_used p m1 (map_of_key m.shape key) place (group_of key) (subst (λ k. k < m.shape.maps) (sym its_map) maps) means)))

  -- with these locks of the history
  pub survives_used : (lock : ℕ → ℕ → Option Transaction) × SurvivesAs shown.held (put fresh true (put map.0 true shown.dirty)) (step.with_locks (step.used_page h n rec map.0 place group) lock) (logged n rec (with_map map.0 next p)) (one (Use n map.0 place group) m)
  survives_used = (
    survived.0,
    record {
      survives = survived.1;
      own = shown.survives.own;
      lost = shown.survives.lost;
      awaits = shown.survives.awaits;
      quiet = λ lost. (let never : true ≡ false = sym lost ∙ shown.reopening ∙ whole in absurd cc);
    },
  )

  pub lockers_used : AreBusy (one (Use n map.0 place group) m)
  lockers_used = shown.lockers

  pub latest_used : AreLatest (h.devices.first n) ((step.used_page h n rec map.0 place group).live n) seats
  latest_used = subst (λ recs. AreLatest (h.devices.first n) recs seats) (sym (with_record-same n rec h.live)) (latest_others (h.devices.first n) (h.live n) rec seats (λ t. refl) tied.latest)
