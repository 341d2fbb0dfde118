-- A stop that loses the tables: what the history has locked it still has locked.
use Rattle.std.specs.Prelude.{◌≡◌, ◌≢◌, ◌⊎◌, ◌+◌, ◌-◌, ◌<◌, ◌≤◌, ◌||◌, ℕ, zero, suc, Bool, true, false, Option, Some, None, drop, length, if◌then◌else◌, refl}
use Rattle.std.specs.FinMap as finite
use Rattle.std.specs.List.{list_any, range_with_len}
use Rattle.std.proofs.Common.{arith, inl, inr, ap, sym, ◌∙◌}
use Rattle.std.proofs.lemmas.Bool.{cases_eq}
use Rattle.sd_base.specs.declared.names.Key.{Key}
use Rattle.sd_base.specs.declared.names.TxnId.{TxnId}
use Rattle.record_locks.specs.Held.{Held, mode_of, passing, without_reads_of}
use Rattle.record_locks.specs.Order.{lock}
use Rattle.recovery_theory.specs.History.{History}
use Rattle.record_machine.specs.CutParts.{StoppedInUndo, StoppedSurvives, StoppedWithTables}
use Rattle.record_machine.specs.Cuts.{Survives, SurvivesAs}
use Rattle.record_machine.specs.Machine.{Down, Idle, Machine, NodeMode, Redone, Up, awaits_recovery, is_begin_in, is_up, put}
use Rattle.record_machine.specs.Meaning.{Plain}
use Rattle.record_machine.specs.Recoverable.{IsKeptBy}
use Rattle.record_machine.specs.Stops.{any_up, halted, pending_before}
use Rattle.recovery_theory.specs.Steps.{stopped}
use Rattle.record_machine.proofs.Put.{at_or_off, put_other, put_same}
use Rattle.record_machine.proofs.RestSteps.{means_rest}
use Rattle.record_machine.proofs.StillStops.{still_stops}
use Rattle.record_machine.proofs.StopPages.{plain_after}
use Rattle.record_machine.proofs.StopSteps.{mode_without, nothing_left, pending_others, reads_of, stop_both}
use Rattle.record_machine.proofs.StopSurvives.{survives_halt}

-- a node stops
pub stopped_survives : StoppedSurvives
stopped_survives dirty h p m n cut s working place = (
  length (m.loose n) - (length (h.live n) - cut),
  omega arith,
  plain_after dirty h p m n cut s place,
  survives_halt dirty h p m n cut s place working,
)

-- fewer pages are held, a flag may be set, and a node may be down that isn't
pub fewer_held : (dirty : ℕ → Bool) (h : History) (q : Plain) (m : Machine) (mode : ℕ → NodeMode) (reopening : Bool) (hold : ℕ → Option ℕ) → ((j : ℕ) → mode j ≡ Up → m.mode j ≡ Up) → ((j : ℕ) → mode j ≡ Idle → m.mode j ≡ Idle)
    → ((x n : ℕ) → hold x ≡ Some n → m.hold x ≡ Some n) → ((j : ℕ) → mode j ≢ Idle → (1 ≤ j) × (j ≤ m.shape.nodes))
    → ((x : ℕ) → dirty x ≡ true → IsKeptBy (record m { mode = mode; hold = hold; reopening = reopening }) x (h.guard x)) → Survives dirty h q m → Survives dirty h q (record m { mode = mode; hold = hold; reopening = reopening })
fewer_held dirty h q m mode reopening hold ups rests fewer inside keeps s = record {
  recoverable = record {
    holds = s.recoverable.holds;
    roomy = s.recoverable.roomy;
    rolled = s.recoverable.rolled;
    shape = s.recoverable.shape;
    first = s.recoverable.first;
    live = s.recoverable.live;
    maps = s.recoverable.maps;
    pages = s.recoverable.pages;
    guard = λ y n e. s.recoverable.guard y n (fewer y n e);
    stored = s.recoverable.stored;
    begun = s.recoverable.begun;
    seats = λ t busy. (let z = s.recoverable.seats t busy in record { left = z.left; going = z.going; begins = z.begins; writes = z.writes });
    opens = λ k txn us e. (let z = s.recoverable.opens k txn us e in record { who = z.who; node = z.node; busy = z.busy; begins = z.begins });
    below = λ t up k. s.recoverable.below t (ups t.node.0 up) k;
    apart = s.recoverable.apart;
    locked = s.recoverable.locked;
    locker = s.recoverable.locker;
    idle = λ t rest k. s.recoverable.idle t (rests t.node.0 rest) k;
    holder = keeps;
  };
  means = means_rest q m mode reopening hold m.first m.loose m.gone s.means;
  stops = still_stops h m s.recoverable.begun h.devices.disk h.stable h.lock mode reopening m.locks hold m.loose s.stops (λ j. omega arith) (λ j c le lt. refl) s.stops.enough (λ j k seat key at any e. e) (λ j rest. s.stops.resting j (rests j rest))
      (λ key t how had rest. s.stops.owners key t how had (rests t.node.0 rest)) inside;
}

-- a number of the range passes the test
pub any_from : (test : ℕ → Bool) (a count n : ℕ) → a ≤ n → n < a + count → test n ≡ true → list_any test (range_with_len a count) ≡ true
any_from test a zero n low high is = absurd (omega (arith, low, high))
any_from test a (suc count) n low high is = by (cases_eq a n) (λ above. any_from test (a + 1) count n above (omega (arith, high)) is)
  where
    later : (b c : Bool) → c ≡ true → (b || c) ≡ true
    later true c e = refl
    later false c e = e

    by : (a ≡ n) ⊎ (a ≢ n) → (a + 1 ≤ n → list_any test (range_with_len (a + 1) count) ≡ true) → list_any test (range_with_len a (suc count)) ≡ true
    by (inl e) more = rw (ap test e ∙ is) refl
    by (inr d) more = later (test a) (list_any test (range_with_len (a + 1) count)) (more (omega (arith, low, d)))

module _ (held : Held) (dirty : ℕ → Bool) (h : History) (p : Plain) (m : Machine) (n cut : ℕ) (s : SurvivesAs held dirty h p m) (working : m.mode n ≢ Idle) where
  abbrev kept : ℕ
  kept = length (m.loose n) - (length (h.live n) - cut)

  fewer : (b : Bool) (o : Option ℕ) (k : ℕ) → (if b then o else None) ≡ Some k → o ≡ Some k
  fewer true o k e = e
  fewer false o k e = absurd cc

  own : (b : Bool) → (if b then m.reopening else true) ≡ false → without_reads_of (record { 0 = n }) held ≡ (if b then without_reads_of (record { 0 = n }) m.locks else finite.empty)
  own true e = ap (without_reads_of (record { 0 = n })) (s.own e)
  own false e = absurd cc

  lost : (b : Bool) → (if b then m.reopening else true) ≡ true → (if b then without_reads_of (record { 0 = n }) m.locks else finite.empty) ≡ finite.empty
  lost true e = ap (without_reads_of (record { 0 = n })) (s.lost e) ∙ nothing_left (reads_of n)
  lost false e = refl

  -- whoever is up then was up, and whoever is idle was idle
  not_down : (u : ℕ) (f : ℕ → NodeMode) (mode : NodeMode) → Down ≢ mode → (j : ℕ) → put u Down f j ≡ mode → f j ≡ mode
  not_down u f mode other j = at_or_off (λ k. k ≡ mode → f j ≡ mode) u Down f j (λ e is. absurd (other is)) (λ e is. is)

  -- the node is down, so one awaits recovery
  awaits : (mode : ℕ → NodeMode) → mode n ≡ Down → list_any (λ j. awaits_recovery (mode j)) (range_with_len 1 m.shape.nodes) ≡ true
  awaits mode is = let z = s.survives.stops.nodes n working in let low = z.0 in let high = z.1 in any_from (λ j. awaits_recovery (mode j)) 1 m.shape.nodes n low (omega (arith, high)) (ap awaits_recovery is)

  -- a node that is up was up, and is another one; where none is up, there is none
  module _ (mode : ℕ → NodeMode) (was_up : (j : ℕ) → mode j ≡ Up → (j ≢ n) × (m.mode j ≡ Up)) where
    quiet : (b : Bool) → list_any (λ j. is_up (mode j)) (range_with_len 1 m.shape.nodes) ≡ b → (if b then m.reopening else true) ≡ true → (t : TxnId) → mode t.node.0 ≡ Up
        → (list_any (is_begin_in t.seat) (pending_before n (drop kept (m.loose n)) m.pending t.node.0) ≡ false) × ((key : Key) → mode_of (without_reads_of (record { 0 = n }) held) key t ≡ None)
    quiet true is e t up =
        let z = was_up t.node.0 up in
        let calm = s.quiet e t z.1 in
        (ap (list_any (is_begin_in t.seat)) (pending_others n t.node.0 (drop kept (m.loose n)) m.pending z.0) ∙ calm.0, λ key. mode_without held n key t ∙ ap (passing (reads_of n) (lock key t)) (calm.1 key))
    quiet false is e t up =
        let z = was_up t.node.0 up in
        let at = s.survives.stops.nodes t.node.0 (λ rest. let never : Up ≡ Idle = sym z.1 ∙ rest in absurd cc) in
        let low = at.0 in
        let high = at.1 in
        let never : true ≡ false = sym (any_from (λ j. is_up (mode j)) 1 m.shape.nodes t.node.0 low (omega (arith, high)) (ap is_up up)) ∙ is in
        absurd cc

    -- a page that is changed in memory is with its node, which is down if the tables are lost
    keeps : (x g : ℕ) (b : Bool) → list_any (λ j. is_up (mode j)) (range_with_len 1 m.shape.nodes) ≡ b → mode g ≢ Redone → (mode g ≢ Idle → (1 ≤ g) × (g ≤ m.shape.nodes)) → ((m.hold x ≡ Some g) × (mode g ≢ Idle)) ⊎ ((m.reopening ≡ true) × (mode g ≡ Down))
        → (((if b then m.hold x else None) ≡ Some g) × (mode g ≢ Idle)) ⊎ (((if b then m.reopening else true) ≡ true) × (mode g ≡ Down))
    keeps x g true is other inside z = z
    keeps x g false is other inside (inr z) = inr (refl, z.1)
    keeps x g false is other inside (inl z) = inr (refl, down (mode g) refl)
      where
        down : (it : NodeMode) → mode g ≡ it → mode g ≡ Down
        down Idle e = absurd (z.1 e)
        down Up e =
            let at = inside z.1 in
            let low = at.0 in
            let high = at.1 in
            let never : true ≡ false = sym (any_from (λ j. is_up (mode j)) 1 m.shape.nodes g low (omega (arith, high)) (ap is_up e)) ∙ is in
            absurd cc
        down Down e = e
        down Redone e = absurd (other e)

  up_then : (j : ℕ) → put n Down m.mode j ≡ Up → (j ≢ n) × (m.mode j ≡ Up)
  up_then j up = (λ e. let never : Down ≡ Up = sym (put_same n Down m.mode j e) ∙ up in absurd cc, not_down n m.mode Up (λ e. cc) j up)

pub stopped_with_tables : StoppedWithTables
stopped_with_tables held dirty h p m n cut s working place none_redone = (
  length (m.loose n) - (length (h.live n) - cut),
  omega arith,
  plain_after dirty h p (record m { locks = held }) n cut s.survives place,
  record {
    survives = fewer_held dirty (stopped h n cut) (plain_after dirty h p (record m { locks = held }) n cut s.survives place) (halted n k (record m { locks = held }))
        (put n Down m.mode) (if any_up (halted n k m) then m.reopening else true) (λ x. if any_up (halted n k m) then m.hold x else None) (λ j e. e) (λ j e. e)
        (λ x i. fewer held dirty h p m n cut s working (any_up (halted n k m)) (m.hold x) i) halt.stops.nodes
        (λ x e. keeps held dirty h p m n cut s working (put n Down m.mode) (up_then held dirty h p m n cut s working) x (h.guard x) (any_up (halted n k m)) refl
        (λ is. none_redone x e (not_down held dirty h p m n cut s working n m.mode Redone (λ q. cc) (h.guard x) is)) (halt.stops.nodes (h.guard x)) (halt.recoverable.holder x e)) halt;
    own = own held dirty h p m n cut s working (any_up (halted n k m));
    lost = lost held dirty h p m n cut s working (any_up (halted n k m));
    awaits = λ e. awaits held dirty h p m n cut s working (put n Down m.mode) (put_same n Down m.mode n refl);
    quiet = quiet held dirty h p m n cut s working (put n Down m.mode) (up_then held dirty h p m n cut s working) (any_up (halted n k m)) refl;
  },
)
  where
    k : ℕ
    k = length (m.loose n) - (length (h.live n) - cut)

    halt : Survives dirty (stopped h n cut) (plain_after dirty h p (record m { locks = held }) n cut s.survives place) (halted n (length (m.loose n) - (length (h.live n) - cut)) (record m { locks = held }))
    halt = survives_halt dirty h p (record m { locks = held }) n cut s.survives place working

pub stopped_in_undo : StoppedInUndo
stopped_in_undo held dirty h p m u n cut s undone working place own_redone = (
  length (m.loose n) - (length (h.live n) - cut),
  omega arith,
  plain_after dirty h p (record m { locks = held }) n cut s.survives place,
  record {
    survives = fewer_held dirty (stopped h n cut) (plain_after dirty h p (record m { locks = held }) n cut s.survives place) (halted n k (record m { locks = held }))
        (put u Down (put n Down m.mode)) (if any_up after then m.reopening else true) (λ x. if any_up after then m.hold x else None)
        (not_down held dirty h p m n cut s working u (put n Down m.mode) Up (λ e. cc)) (not_down held dirty h p m n cut s working u (put n Down m.mode) Idle (λ e. cc)) (λ x i. fewer held dirty h p m n cut s working (any_up after) (m.hold x) i)
        (λ j used. inside j used (cases_eq j u))
        (λ x e. keeps held dirty h p m n cut s working (put u Down (put n Down m.mode)) up_in_undo x (h.guard x) (any_up after) refl
        (λ is. (let was = not_down held dirty h p m n cut s working n m.mode Redone (λ q. cc) (h.guard x) (not_down held dirty h p m n cut s working u (put n Down m.mode) Redone (λ q. cc) (h.guard x) is) in
        let never : Down ≡ Redone = sym (put_same u Down (put n Down m.mode) (h.guard x) (own_redone x e was)) ∙ is in
        absurd cc))
        (λ used. inside (h.guard x) used (cases_eq (h.guard x) u)) (two_down (h.guard x) (halt.recoverable.holder x e))) halt;
    own = own held dirty h p m n cut s working (any_up after);
    lost = lost held dirty h p m n cut s working (any_up after);
    awaits = λ e. awaits held dirty h p m n cut s working (put u Down (put n Down m.mode)) (stop_both m u n k).1;
    quiet = quiet held dirty h p m n cut s working (put u Down (put n Down m.mode)) up_in_undo (any_up after) refl;
  },
)
  where
    k : ℕ
    k = length (m.loose n) - (length (h.live n) - cut)

    after : Machine
    after = record (halted n (length (m.loose n) - (length (h.live n) - cut)) m) { mode = put u Down (put n Down m.mode) }

    halt : Survives dirty (stopped h n cut) (plain_after dirty h p (record m { locks = held }) n cut s.survives place) (halted n (length (m.loose n) - (length (h.live n) - cut)) (record m { locks = held }))
    halt = survives_halt dirty h p (record m { locks = held }) n cut s.survives place working

    inside : (j : ℕ) → put u Down (put n Down m.mode) j ≢ Idle → (j ≡ u) ⊎ (j ≢ u) → (1 ≤ j) × (j ≤ m.shape.nodes)
    inside j used (inl e) = s.survives.stops.nodes j (λ rest. undone (ap m.mode (sym e) ∙ rest))
    inside j used (inr d) = halt.stops.nodes j (λ rest. used (put_other u Down (put n Down m.mode) j d ∙ rest))

    up_in_undo : (j : ℕ) → put u Down (put n Down m.mode) j ≡ Up → (j ≢ n) × (m.mode j ≡ Up)
    up_in_undo j up = up_then held dirty h p m n cut s working j (not_down held dirty h p m n cut s working u (put n Down m.mode) Up (λ e. cc) j up)

    two_down : {x : ℕ} (g : ℕ) → ((m.hold x ≡ Some g) × (put n Down m.mode g ≢ Idle)) ⊎ ((m.reopening ≡ true) × (put n Down m.mode g ≡ Down))
        → ((m.hold x ≡ Some g) × (put u Down (put n Down m.mode) g ≢ Idle)) ⊎ ((m.reopening ≡ true) × (put u Down (put n Down m.mode) g ≡ Down))
    two_down g (inl z) = inl (z.0, at_or_off (λ mode. mode ≢ Idle) u Down (put n Down m.mode) g (λ same e. absurd cc) (λ off. z.1))
    two_down g (inr z) = inr (z.0, at_or_off (λ mode. mode ≡ Down) u Down (put n Down m.mode) g (λ same. refl) (λ off. z.1))
