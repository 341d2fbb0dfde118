-- A transaction ends in a store that endures.
use Rattle.std.specs.Prelude.{◌≡◌, ◌≢◌, ◌⊎◌, ◌-◌, ◌*◌, ◌+◌, ◌/◌, ◌<◌, ◌≤◌, ◌++◌, ◌∷◌, [], ℕ, suc, true, false, All, IfSome, Option, Some, None, is_some, length, map, not, take, refl, slice_set}
use Rattle.std.proofs.Common.{arith, inl, inr, ap, subst, sym, ◌∙◌, ne_eqb}
use Rattle.std.proofs.lemmas.Bool.{cases_eq, eq-eqb}
use Rattle.std.proofs.lemmas.List.{length-map, map-append, take-append-le}
use Rattle.std.proofs.lemmas.List.Elements.{All-push}
use Rattle.std.specs.FinMap as finite
use Rattle.sd_base.specs.Disk.{BlockState}
use Rattle.sd_base.specs.Calls.{KeepsForeign, KeepsForeignBut, Narrows}
use Rattle.sd_base.specs.declared.names.Key.{Key}
use Rattle.sd_base.specs.declared.names.TxnId.{TxnId}
use Rattle.log_record.specs.declared.record.LogRecord.{LogRecord}
use Rattle.log_record.specs.Legal.{IsLegal}
use Rattle.log_record.specs.Text.{record_text}
use Rattle.private_log.specs.Frames.{NarrowsBeside}
use Rattle.private_log.specs.Log.{SameLog, next_place, region}
use Rattle.private_log.specs.Spread.{IsCutLog, IsSpread, IsStill}
use Rattle.compensation.specs.Finding.{record_before}
use Rattle.record_locks.specs.declared.mode.Mode.{Mode}
use Rattle.record_locks.specs.Held.{Held, mode_of, passing, without_txn}
use Rattle.record_locks.specs.Order.{lock, same_txn}
use Rattle.record_locks.proofs.HeldLaws.{get-locks_where}
use Rattle.node_cache.specs.Cache.{CacheState}
use Rattle.txn_core.specs.declared.ending.Ending.{Ending}
use Rattle.txn_core.specs.declared.ending.Ending.TheVariants.{Abort, Commit}
use Rattle.txn_core.specs.Ending.{end_record}
use Rattle.txn_core.specs.Seats.{OpenTxn, SeatsState, txn_in}
use Rattle.txn_core.specs.Told.{AreTold, HasRecords}
use Rattle.txn_core.proofs.SeatLaws.{ends_alone}
use Rattle.txn_core.proofs.UpdateLaws.{apart_at}
use Rattle.recovery_theory.specs.Effect.{Transaction, effect_of}
use Rattle.recovery_theory.specs.Effect.Effect.{Ended}
use Rattle.recovery_theory.specs.History.{History}
use Rattle.recovery_theory.specs.Room.{HasRoom}
use Rattle.recovery_theory.specs.Rules.{RuleOf, is_record_of, last_record_of}
use Rattle.recovery_theory.specs.Rules.IsOwed.{an_end}
use Rattle.recovery_theory.specs.Steps.{ended, with_locks}
use Rattle.recovery_theory.proofs.Cuts.{set_at-other, set_at-same, with_record-other, with_record-same}
use Rattle.recovery_theory.proofs.RoomTaken.{room_for_owed}
use Rattle.record_machine.specs.Cuts.{Survives, SurvivesAs}
use Rattle.record_machine.specs.Machine.{Machine}
use Rattle.record_machine.specs.Machine as machine
use Rattle.record_machine.specs.Meaning.{Plain, logged}
use Rattle.record_machine.specs.Parts.{Seal, Unlock, dos, one}
use Rattle.record_machine.specs.Recoverable.{Recoverable, TellsSeat}
use Rattle.record_machine.proofs.EndStops.{ended_survives}
use Rattle.record_machine.proofs.Put.{put_other}
use Rattle.record_machine.proofs.SealStops.{sealed_survives}
use Rattle.record_machine.proofs.SeatDeeds.{busy_sealed}
use Rattle.record_machine.proofs.StopSteps.{lock_was}
use Rattle.store_nodes.specs.declared.node.Node.TheVariants.{Up}
use Rattle.store_nodes.specs.declared.store.Store.{Store}
use Rattle.store_nodes.specs.Endures.{AreBusy, AreBusyBut, Endures, EnduresAs, MayHalt, with_held}
use Rattle.store_nodes.specs.Nodes.{IsAtWork, IsPlace, IsStore, node_at, with_node}
use Rattle.store_nodes.specs.Ports.{IsQuiet}
use Rattle.store_nodes.specs.Shows.{ShowsNode}
use Rattle.store_nodes.specs.Tied.{AreLatest, TiesNode, TiesUp}
use Rattle.store_nodes.proofs.LastRecords.{follows_open, latest_set}
use Rattle.store_nodes.proofs.Logs as logs
use Rattle.store_nodes.proofs.RingEndures.{ring_endures, ring_halts}
use Rattle.store_nodes.proofs.Seated.{begun_shown, busy_shown}
use Rattle.store_nodes.proofs.ShownEnd.{up_ended}
use Rattle.store_nodes.proofs.ShownLogged.{length_shown, logged_others}
use Rattle.store_nodes.proofs.Ties.{stable_cut}

-- ---- the record by which a transaction ends

effect_end : (ending : Ending) (u : OpenTxn) → effect_of (end_record ending u) ≡ Ended u.begin
effect_end Commit u = refl
effect_end Abort u = refl

names_last : (ending : Ending) (u : OpenTxn) → record_before (end_record ending u) ≡ u.last
names_last Commit u = refl
names_last Abort u = refl

-- ---- its locks

-- once they are released it has none
none_kept : (t : TxnId) (held : Held) (key : Key) → mode_of (without_txn t held) key t ≡ None
none_kept t held key = get-locks_where (λ l how. not (same_txn l.txn t)) held (lock key t) ∙ by (finite.get held (lock key t))
  where
    by : (o : Option Mode) → passing (λ l how. not (same_txn l.txn t)) (lock key t) o ≡ None
    by None = refl
    by (Some how) = rw (eq-eqb t.node.0 t.node.0 refl, eq-eqb t.seat t.seat refl) refl

module _ (me : Store) (b : ℕ → BlockState) (p : Plain) (m : Machine) (t : TxnId) (c : CacheState) (seats : SeatsState) (is : IsStore me) (place : IsPlace t.node.0) (low : t.node.0 ≤ me.shape.nodes) (up : node_at me.nodes t.node.0 ≡ Up c seats)
    (shown : EnduresAs me b p m) (whole : me.shared.reopening ≡ false) (seat : t.seat ≤ 7) (txn : OpenTxn) (there : txn_in seats t.seat ≡ Some txn) (ending : Ending) where
  abbrev n : ℕ
  n = t.node.0

  abbrev h : History
  h = shown.history

  abbrev m1 : Machine
  m1 = with_held shown.held m

  abbrev rec : LogRecord
  rec = end_record ending txn

  abbrev r : Recoverable shown.dirty h p m1
  r = shown.survives.survives.recoverable

  work : IsAtWork me.shape me.shared.pool me.shared.owners n c seats
  work = logs.work me n (n - 1) c c seats seats is place refl up

  mine : ShowsNode me.shape me.shared.pool n (Up c seats) b p m1
  mine = subst (λ o. ShowsNode me.shape me.shared.pool n o b p m1) up (shown.nodes.node n place low)

  tied : TiesUp n c seats h
  tied = subst (λ o. TiesNode me.shape n o b h) up (shown.tied.node n place low)

  -- ---- the record keeps the rules of the log, and has room

  busy : machine.is_busy m1 t ≡ true
  busy = busy_shown me.shape me.shared.pool c seats b p m1 t (omega (arith, seat)) work.eight shown.nodes.means.logs mine.1 ∙ ap is_some there

  tells : TellsSeat h m1 t (r.begun n t.seat)
  tells = r.seats t busy

  begun : r.begun n t.seat ≡ txn.begin
  begun = begun_shown me.shape me.shared.pool c seats b p m1 t txn (r.begun n t.seat) (omega (arith, seat)) work.eight shown.nodes.means.logs mine.1 there tells.begins

  ends : effect_of rec ≡ Ended (r.begun n t.seat)
  ends = effect_end ending txn ∙ ap Ended (sym begun)

  last : last_record_of (r.begun n t.seat) (h.devices.first n) (h.live n) (r.begun n t.seat) ≡ txn.last
  last = ap (λ k. last_record_of k (h.devices.first n) (h.live n) k) begun ∙ subst (λ o. IfSome o (λ u. last_record_of u.begin (h.devices.first n) (h.live n) u.begin ≡ u.last)) there (tied.latest t.seat None (let eight = work.eight in omega (arith, seat, eight)))

  rule : RuleOf (h.devices.first n) (h.live n) rec (effect_of rec)
  rule = subst (RuleOf (h.devices.first n) (h.live n) rec) (sym ends) (follows_open (r.begun n t.seat) (h.devices.first n) (h.live n) rec tells.left (r.roomy.whole.ruled n) tells.going (names_last ending txn ∙ sym last))

  fits : HasRoom h.devices n (h.live n ++ rec ∷ [])
  fits = room_for_owed h.devices n (r.begun n t.seat) (h.live n) rec (an_end tells.left ends tells.going) (r.roomy.whole.fits n)

  -- ---- it is sealed

  abbrev h1 : History
  h1 = ended h n (r.begun n t.seat) rec

  survives_sealed : SurvivesAs shown.held shown.dirty h1 (logged n rec p) (one (Seal t) m)
  survives_sealed = record {
    survives = sealed_survives shown.dirty h p m1 t rec shown.survives.survives busy ends rule fits;
    own = shown.survives.own;
    lost = shown.survives.lost;
    awaits = shown.survives.awaits;
    quiet = λ lost. (let never : true ≡ false = sym lost ∙ shown.reopening ∙ whole in absurd cc);
  }

  lockers_sealed : AreBusyBut n (one (Seal t) m)
  lockers_sealed key u how has is_up far = busy_sealed m t u (inl far) ∙ shown.lockers key u how has is_up

  -- ---- and its locks are released

  law : (lock : ℕ → ℕ → Option Transaction) × Survives shown.dirty (with_locks h1 lock) (logged n rec p) (dos (Seal t ∷ Unlock t ∷ []) m1)
  law = ended_survives shown.dirty h p m1 t rec shown.survives.survives busy ends rule fits

  abbrev h2 : History
  h2 = with_locks h1 law.0

  survives_ended : SurvivesAs (without_txn t shown.held) shown.dirty h2 (logged n rec p) (dos (Seal t ∷ Unlock t ∷ []) m)
  survives_ended = record {
    survives = law.1;
    own = λ still. ap (without_txn t) (shown.survives.own still);
    lost = λ lost. (let never : true ≡ false = sym lost ∙ shown.reopening ∙ whole in absurd cc);
    awaits = λ lost. (let never : true ≡ false = sym lost ∙ shown.reopening ∙ whole in absurd cc);
    quiet = λ lost. (let never : true ≡ false = sym lost ∙ shown.reopening ∙ whole in absurd cc);
  }

  lockers_ended : AreBusy (dos (Seal t ∷ Unlock t ∷ []) m)
  lockers_ended key u how has is_up = by (cases_eq u.node.0 n) (cases_eq u.seat t.seat)
    where
      before : mode_of m.locks key u ≡ Some how
      before = lock_was (λ l mode. not (same_txn l.txn t)) m.locks key u how has

      by : (u.node.0 ≡ n) ⊎ (u.node.0 ≢ n) → (u.seat ≡ t.seat) ⊎ (u.seat ≢ t.seat) → machine.is_busy (one (Seal t) m) u ≡ true
      by (inr far) s = busy_sealed m t u (inl far) ∙ shown.lockers key u how before is_up
      by (inl near) (inr other) = busy_sealed m t u (inr other) ∙ shown.lockers key u how before is_up
      by (inl near) (inl same) =
          let both : u ≡ t = ap (λ k. record { node = record { 0 = k }; seat = u.seat }) near ∙ ap (λ k. record { node = t.node; seat = k }) same in
          let never : None ≡ Some how = sym (none_kept t m.locks key) ∙ ap (mode_of (without_txn t m.locks) key) (sym both) ∙ has in absurd cc

  latest_ended : (after : SeatsState) → after.seats ≡ slice_set seats.seats t.seat None → AreLatest (h.devices.first n) (h1.live n) after
  latest_ended after new = subst (λ recs. AreLatest (h.devices.first n) recs after) (sym (with_record-same n rec h.live))
      (latest_set (h.devices.first n) (h.live n) rec seats after t.seat None work.eight new tt (λ k k_low far. others k k_low far (txn_in seats k) refl) tied.latest)
    where
      others : (k : ℕ) → k < 8 → k ≢ t.seat → (o : Option OpenTxn) → txn_in seats k ≡ o → IfSome o (λ u. is_record_of u.begin (effect_of rec) ≡ false)
      others k k_low far None is_none = tt
      others k k_low far (Some u) is_open =
          let eight = work.eight in
          let apart : txn.begin ≢ u.begin = subst (λ o. IfSome o (λ v. txn.begin ≢ v.begin)) is_open (apart_at seats.seats t.seat k txn None work.tie.apart (omega (arith, seat, eight)) (omega (arith, k_low, eight)) far there) in
          ap (is_record_of u.begin) (effect_end ending txn) ∙ ne_eqb txn.begin u.begin apart

  -- ---- the whole

  module _ (i : ℕ) (at : i ≡ n - 1) (d : CacheState) (after : SeatsState) (b' : ℕ → BlockState) (narrows : NarrowsBeside (next_place c.log) b b') (foreign : KeepsForeignBut (next_place c.log) c.node.0 b b') (quiet : IsQuiet me b) where
    -- it is done
    pub ended_endures : (locks : Held) → locks ≡ without_txn t me.shared.locks → d.pages ≡ c.pages → SameLog c.log d.log → d.log.tail ≡ c.log.tail + 1 → d.log.stable ≡ d.log.tail → after.seats ≡ slice_set seats.seats t.seat None → HasRecords d.log b' (p.live n ++ rec ∷ []) → AreTold after c.log.start (p.live n ++ rec ∷ [])
        → Endures (record { shape = me.shape; shared = record { pool = me.shared.pool; owners = me.shared.owners; locks = locks; reopening = me.shared.reopening }; nodes = with_node me.nodes n (Up d after) }) b' (dos (Seal t ∷ Unlock t ∷ []) m)
    ended_endures locks released pages same tail stable new records told = (
      logged n rec p,
      ring_endures me n i (c.log.tail / 6) c d seats after is place at up b b' p (logged n rec p) m (dos (Seal t ∷ Unlock t ∷ []) m) shown h2 narrows foreign quiet refl refl refl (λ x. refl) refl refl
          (logged_others me.shape me.nodes n rec p m1 (with_held shown.held (dos (Seal t ∷ Unlock t ∷ []) m)) (λ j far. (refl, refl, put_other n _ m.pending j far))) (λ j far. record { live = with_record-other n rec h.live j far; stable = set_at-other n (suc (length (h.live n))) h.stable j far; first = refl })
          (without_txn t shown.held) locks mine.0 pages ties lockers_ended (ap (without_txn t) shown.locks ∙ sym released)
          (up_ended n me.shape me.shared.pool c d seats after b b' p m1 t rec (ends_alone ending txn) work.eight refl seat pages same new records told mine.1) survives_ended,
    )
      where
        ties : TiesUp n d after h2
        ties = record {
          first = tied.first ∙ ap (λ k. 6 * k) (sym same.start);
          stable = (
              let begins = same.start in
              let all : h2.stable n ≡ suc (length (h.live n)) = set_at-same n (suc (length (h.live n))) h.stable in
              let count : length (h.live n) ≡ length (p.live n) = ap length (r.live n) in
              let long = length_shown n me.shape me.shared.pool c seats b p m1 mine.1 in
              omega (arith, begins, all, count, long, stable, tail));
          latest = latest_ended after new;
        }

    -- Or the node is about to halt, whose port has stopped in it: the record is stable then, or gone.
    module _ (b'' : ℕ → BlockState) (settled : Narrows b' b'') (stops : KeepsForeign n b' b'') (legal : IsLegal rec) (cut : IsCutLog (region c.log) c.log.start c.log.stable b' (map record_text (p.live n ++ rec ∷ []))) (still : IsStill (region c.log) b') where
      abbrev S : Store
      S = record { shape = me.shape; shared = me.shared; nodes = with_node me.nodes n (Up d after) }

      texts : map record_text (p.live n ++ rec ∷ []) ≡ map record_text (p.live n) ++ record_text rec ∷ []
      texts = map-append record_text (p.live n) (rec ∷ [])

      pub gone_halts : cut.count ≤ length (p.live n) → MayHalt n S b'' m
      gone_halts short = (
        p,
        ring_halts me n i (c.log.tail / 6) c d seats after is place at up b b' p p m m shown h narrows foreign quiet refl refl refl (λ x. refl) refl refl
            (λ k k_is far. record { live = refl; mode = refl; start = refl; pending = refl; images = λ j q below. refl; lives = λ j q below. refl }) (λ k far. record { live = refl; stable = refl; first = refl })
            b'' mine.0 settled stops (subst (All IsLegal) (sym (r.live n)) mine.1.records.legal) front (stable_cut n c b' h _ front tied.stable) still (λ key u how has is_up far. shown.lockers key u how has is_up) refl shown.survives,
      )
        where
          within : cut.count ≤ length (map record_text (p.live n))
          within = let long = length-map (p.live n) record_text in omega (arith, short, long)

          front : IsCutLog (region c.log) c.log.start c.log.stable b' (map record_text (h.live n))
          front = subst (λ recs. IsCutLog (region c.log) c.log.start c.log.stable b' (map record_text recs)) (sym (r.live n)) (record {
            count = cut.count;
            low = cut.low;
            high = within;
            log = subst (IsSpread (region c.log) c.log.start cut.count b') (ap (take cut.count) texts ∙ take-append-le cut.count (map record_text (p.live n)) (record_text rec ∷ []) within) cut.log;
          })

      pub sealed_halts : length (p.live n) < cut.count → MayHalt n S b'' (one (Seal t) m)
      sealed_halts stable = (
        logged n rec p,
        ring_halts me n i (c.log.tail / 6) c d seats after is place at up b b' p (logged n rec p) m (one (Seal t) m) shown h1 narrows foreign quiet refl refl refl (λ x. refl) refl refl
            (logged_others me.shape me.nodes n rec p m1 (with_held shown.held (one (Seal t) m)) (λ j far. (refl, refl, put_other n _ m.pending j far))) (λ j far. record { live = with_record-other n rec h.live j far; stable = set_at-other n (suc (length (h.live n))) h.stable j far; first = refl })
            b'' mine.0 settled stops (subst (All IsLegal) (sym live) (All-push IsLegal (p.live n) rec mine.1.records.legal legal)) all sure still lockers_sealed refl survives_sealed,
      )
        where
          live : h1.live n ≡ p.live n ++ rec ∷ []
          live = with_record-same n rec h.live ∙ ap (λ recs. recs ++ rec ∷ []) (r.live n)

          all : IsCutLog (region c.log) c.log.start c.log.stable b' (map record_text (h1.live n))
          all = record {
            count = cut.count;
            low = cut.low;
            high = subst (λ recs. cut.count ≤ length (map record_text recs)) (sym live) cut.high;
            log = subst (λ recs. IsSpread (region c.log) c.log.start cut.count b' (take cut.count (map record_text recs))) (sym live) cut.log;
          }

          sure : h1.stable n ≤ cut.count
          sure = let last_one : h1.stable n ≡ suc (length (h.live n)) = set_at-same n (suc (length (h.live n))) h.stable in let count : length (h.live n) ≡ length (p.live n) = ap length (r.live n) in omega (arith, last_one, count, stable)
