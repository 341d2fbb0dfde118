-- A node starts in a store that endures: what it leaves, done or stopped.
use Rattle.std.specs.Prelude.{◌≡◌, ◌≢◌, ◌*◌, ◌+◌, ◌<◌, ◌≤◌, ◌||◌, ◌∷◌, [], ℕ, Bool, true, false, All, IfSome, List, Option, None, Some, length, replicate, take, refl}
use Rattle.std.specs.FinMap as finite
use Rattle.std.specs.List.{list_any, range_with_len}
use Rattle.std.proofs.Common.{arith, ap, inl, inr, subst, sym, ◌∙◌, take_all}
use Rattle.std.proofs.lemmas.Bool.{cases_eq}
use Rattle.std.proofs.lemmas.List.Elements.{All-replicate}
use Rattle.sd_base.specs.Disk.{BlockState}
use Rattle.sd_base.specs.Calls.{KeepsForeign, Narrows}
use Rattle.sd_base.specs.Outcomes.{among}
use Rattle.sd_base.specs.Shape.{page_count}
use Rattle.sd_base.specs.declared.names.Key.{Key}
use Rattle.sd_base.specs.declared.names.PageNo.{PageNo}
use Rattle.sd_base.specs.declared.names.TxnId.{TxnId}
use Rattle.sd_base.specs.declared.shape.Shape.{Shape}
use Rattle.private_log.specs.Content.{HasNoFuture, LogContent, region_of}
use Rattle.private_log.specs.Log.{IsLogOn, region}
use Rattle.private_log.specs.Reading.{contents}
use Rattle.private_log.specs.Spread.{IsStill}
use Rattle.record_locks.specs.declared.mode.Mode.{Mode}
use Rattle.record_locks.specs.Held.{mode_of}
use Rattle.record_locks.specs.Order.{lock, lock_cmp}
use Rattle.node_cache.specs.Cache.{CacheState}
use Rattle.txn_core.specs.Seats.{SeatsState}
use Rattle.recovery_theory.specs.History.{History}
use Rattle.recovery_theory.specs.Rules.{last_record_of}
use Rattle.recovery_theory.specs.Steps.{stopped}
use Rattle.recovery_theory.proofs.Cuts.{set_at-same}
use Rattle.record_machine.specs.Cuts.{Survives, SurvivesAs}
use Rattle.record_machine.specs.Machine.{Machine, awaits_recovery, is_begin_in}
use Rattle.record_machine.specs.Machine as machine
use Rattle.record_machine.specs.Meaning.{Plain}
use Rattle.record_machine.specs.Parts.{Start, one}
use Rattle.record_machine.proofs.Put.{put_other, put_same}
use Rattle.record_machine.proofs.StillStops.{started_survives}
use Rattle.store_nodes.specs.declared.node.Node.TheVariants.{Down, Idle, Up}
use Rattle.store_nodes.specs.declared.store.Store.{Store}
use Rattle.store_nodes.specs.Endures.{AreBusy, EnduresAs, MayHaltAs, with_held}
use Rattle.store_nodes.specs.Nodes.{IsPlace, IsStore, is_up, node_at, with_node}
use Rattle.store_nodes.specs.Ports.{IsQuiet}
use Rattle.store_nodes.specs.Shows.{ShowsNode, ShowsUp}
use Rattle.store_nodes.specs.Tied.{TiesNode, TiesPage, TiesStill, TiesUp}
use Rattle.store_nodes.proofs.OtherLogs.{LeavesRegion, regions_at}
use Rattle.store_nodes.proofs.ShownLogged.{length_shown}
use Rattle.store_nodes.proofs.ShownOthers.{LeavesNode, node_left}
use Rattle.store_nodes.proofs.ShownWith.{nodes_with}
use Rattle.store_nodes.proofs.Started.{settled_before, up_started}
use Rattle.store_nodes.proofs.Ties.{pages_narrowed, tie_left, tied_with}

-- a node that isn't up has written no block, so two calls that keep what other ports have written leave each block
pub idle_left : (me : Store) (n : ℕ) (a b d : ℕ → BlockState) → node_at me.nodes n ≡ Idle → IsQuiet me a → KeepsForeign n a b → KeepsForeign n b d → (k : ℕ) → d k ≡ a k
idle_left me n a b d idle quiet read left k = left k (λ mine. unwritten (ap (λ (x : BlockState). x.writer) (sym first) ∙ mine)) ∙ first
  where
    unwritten : (a k).writer ≢ Some n
    unwritten mine = let live = (quiet k n mine).up in let rests : is_up (node_at me.nodes n) ≡ false = ap is_up idle in let never : true ≡ false = sym live ∙ rests in cc

    first : b k ≡ a k
    first = read k unwritten

-- what one of some numbers passes, it passes a test that passes all that pass the first
any_still : (f g : ℕ → Bool) (ks : List ℕ) → ((k : ℕ) → f k ≡ true → g k ≡ true) → list_any f ks ≡ true → list_any g ks ≡ true
any_still f g [] more was = was
any_still f g (k ∷ ks) more was = by (f k) refl (any_still f g ks more) was
  where
    or_true : (t : Bool) → (t || true) ≡ true
    or_true true = refl
    or_true false = refl

    by : (t : Bool) → f k ≡ t → (list_any f ks ≡ true → list_any g ks ≡ true) → (t || list_any f ks) ≡ true → (g k || list_any g ks) ≡ true
    by true here later all = ap (λ t. t || list_any g ks) (more k here)
    by false none later rest = ap (λ t. g k || t) (later rest) ∙ or_true (g k)

module _ (me : Store) (n : ℕ) (is : IsStore me) (place : IsPlace n) (known : n ≤ me.shape.nodes) (idle : node_at me.nodes n ≡ Idle) (b b' : ℕ → BlockState) (same : (k : ℕ) → b' k ≡ b k) (p : Plain) (m : Machine) (e : EnduresAs me b p m) where
  abbrev h : History
  h = e.history

  abbrev m1 : Machine
  m1 = with_held e.held m

  mine : ShowsNode me.shape me.shared.pool n Idle b p m1
  mine = subst (λ o. ShowsNode me.shape me.shared.pool n o b p m1) idle (e.nodes.node n place known)

  tied : TiesStill me.shape n b h
  tied = subst (λ o. TiesNode me.shape n o b h) idle (e.tied.node n place known)

  -- ---- the machine

  survived : Survives e.dirty h p (one (Start n) m1)
  survived = started_survives e.dirty h p m1 n e.survives.survives mine.0 place.0 (subst (λ (s : Shape). n ≤ s.nodes) (sym e.nodes.shape) known)

  -- it had no lock, nor did it wait for recovery
  unlocked : (key : Key) (t : TxnId) → t.node.0 ≡ n → (o : Option Mode) → mode_of e.held key t ≡ o → o ≡ None
  unlocked key t here None has = refl
  unlocked key t here (Some how) has = absurd (e.survives.survives.stops.owners key t how has (ap m.mode here ∙ mine.0))

  waits : (k : ℕ) → awaits_recovery (m.mode k) ≡ true → awaits_recovery ((one (Start n) m).mode k) ≡ true
  waits k was = elim (cases_eq k n) [
    | inl here ↦ (let never : true ≡ false = sym was ∙ ap (λ j. awaits_recovery (m.mode j)) here ∙ ap awaits_recovery mine.0 in absurd cc)
    | inr far ↦ ap awaits_recovery (put_other n machine.Up m.mode k far) ∙ was
  ]

  survives_started : SurvivesAs e.held e.dirty h p (one (Start n) m)
  survives_started = record {
    survives = survived;
    own = e.survives.own;
    lost = e.survives.lost;
    awaits = λ lost. any_still (λ k. awaits_recovery (m.mode k)) (λ k. awaits_recovery ((one (Start n) m).mode k)) (range_with_len 1 m.shape.nodes) waits (e.survives.awaits lost);
    quiet = λ lost t live. elim (cases_eq t.node.0 n) [
      | inl here ↦ (ap (λ k. list_any (is_begin_in t.seat) (m.pending k)) here ∙ ap (list_any (is_begin_in t.seat)) mine.1.none, λ key. unlocked key t here (mode_of e.held key t) refl)
      | inr far ↦ e.survives.quiet lost t (sym (put_other n machine.Up m.mode t.node.0 far) ∙ live)
    ];
  }

  -- no transaction of the node had a lock
  lockers_started : AreBusy (one (Start n) m)
  lockers_started key t how has live = elim (cases_eq t.node.0 n) [
    | inl here ↦ absurd (none here m.reopening refl)
    | inr far ↦ e.lockers key t how has (sym (put_other n machine.Up m.mode t.node.0 far) ∙ live)
  ]
    where
      none : t.node.0 ≡ n → (lost : Bool) → m.reopening ≡ lost → ⊥
      none here true lost = let never : None ≡ Some how = sym (finite.get-empty lock_cmp (lock key t)) ∙ subst (λ l. mode_of l key t ≡ Some how) (e.survives.lost lost) has in absurd cc
      none here false whole = e.survives.survives.stops.owners key t how (subst (λ l. mode_of l key t ≡ Some how) (sym (e.survives.own whole)) has) (ap m.mode here ∙ mine.0)

  -- ---- the blocks

  narrows : Narrows b b'
  narrows k o may = subst (λ (x : BlockState). among x.outcomes o ≡ true) (same k) may

  region_left : (k : ℕ) → LeavesRegion (region_of me.shape k) b b'
  region_left k = record {
    narrows = λ i o low may. narrows ((region_of me.shape k).anchor + i) o may;
    keeps = λ i low. ap (λ (x : BlockState). x.current) (same ((region_of me.shape k).anchor + i));
    still = λ was i low. ap (λ (x : BlockState). x.writer) (same ((region_of me.shape k).anchor + i)) ∙ was i low;
  }

  page : (x : PageNo) → x.0 < page_count me.shape → TiesPage me.shape b' h x
  page = pages_narrowed me.shape b b' h h narrows refl e.tied.page

  leaves : (k : ℕ) → IsPlace k → k ≢ n → LeavesNode me.shape k (node_at me.nodes k) p p m1 (with_held e.held (one (Start n) m))
  leaves k k_is far = record { live = refl; mode = put_other n machine.Up m.mode k far; start = refl; pending = refl; images = λ j q below. refl; lives = λ j q below. refl }

  -- ---- it is up

  module _ (c : CacheState) (seats : SeatsState) (number : c.node.0 ≡ n) (empty : c.pages ≡ []) (free : seats.seats ≡ replicate 8 None) (region_is : region c.log ≡ region_of me.shape n) (xs : List (List ℕ)) (read : LogContent (region_of me.shape n) (contents b) c.log.start xs)
      (on : (start : ℕ) (xs : List (List ℕ)) → IsStill (region c.log) b → LogContent (region c.log) (contents b) start xs → HasNoFuture (region c.log) (contents b) start xs → IsLogOn c.log b' xs) (stable : c.log.stable ≡ c.log.tail) where
    shows : ShowsUp me.shape me.shared.pool n c seats b' p (one (Start n) m1)
    shows = up_started me.shape me.shared.pool me.shared.owners me.nodes n c seats is place known idle number empty free b b' p m1 region_is xs read on mine.1

    ties : TiesUp n c seats h
    ties = record {
      first = e.survives.survives.recoverable.first n ∙ ap (λ k. 6 * k) shows.start;
      stable = (
          let long = length_shown n me.shape me.shared.pool c seats b' p (one (Start n) m1) shows in
          let count : length (h.live n) ≡ length (p.live n) = ap length (e.survives.survives.recoverable.live n) in
          let all = tied.stable in
          omega (arith, long, count, all, stable));
      latest = subst (All (λ o. IfSome o (λ t. last_record_of t.begin (h.devices.first n) (h.live n) t.begin ≡ t.last))) (sym free) (All-replicate (λ o. IfSome o (λ t. last_record_of t.begin (h.devices.first n) (h.live n) t.begin ≡ t.last)) 8 None tt);
    }

    pub started_endures : EnduresAs (record { shape = me.shape; shared = me.shared; nodes = with_node me.nodes n (Up c seats) }) b' p (one (Start n) m)
    started_endures = record {
      held = e.held;
      dirty = e.dirty;
      history = h;
      nodes = nodes_with me.shape me.shared.pool me.shared.pool me.shared.owners me.shared.owners me.nodes n c seats b b' p p m1 (with_held e.held (one (Start n) m)) is place e.nodes (λ k k_is low far. region_left k) (λ k k_is far j q below. refl) leaves survived.means e.nodes.shape (put_same n machine.Up m.mode n refl) shows e.nodes.hold;
      locks = e.locks;
      reopening = e.reopening;
      lockers = lockers_started;
      clean = λ still x within settled. e.clean still x within (settled_before me.shape me.shared.pool me.shared.owners me.nodes n (Up c seats) is place idle x settled);
      lost = e.lost;
      tied = tied_with me.shape me.nodes n (Up c seats) b b' h h is.shared.eight place e.tied (λ k k_is low far. region_left k) (λ k far. record { live = refl; stable = refl; first = refl }) ties page;
      survives = survives_started;
    }

  -- ---- its port has stopped as it started

  pub started_halts : MayHaltAs n me b' p (one (Start n) m)
  started_halts = record {
    held = e.held;
    dirty = e.dirty;
    history = h;
    up = put_same n machine.Up m.mode n refl;
    known = known;
    shape = e.nodes.shape;
    others = λ k k_is low far. (
      node_left me.shape me.shared.pool me.shared.pool k b b' p p m1 (with_held e.held (one (Start n) m)) is.shared.shape (region_left k) (node_at me.nodes k) (λ d those at. regions_at me.shape me.shared.pool me.shared.owners me.nodes is k d those k_is at) (λ j q below. refl) (leaves k k_is far) (e.nodes.node k k_is low),
      tie_left me.shape k (node_at me.nodes k) b b' h h (region_left k) (record { live = refl; stable = refl; first = refl }) (e.tied.node k k_is low),
    );
    hold = e.nodes.hold;
    locks = e.locks;
    reopening = e.reopening;
    lockers = λ key t how has live far. lockers_started key t how has live;
    clean = λ still x within settled. e.clean still x within (settled_before me.shape me.shared.pool me.shared.owners me.nodes n Down is place idle x settled);
    lost = e.lost;
    cut = length (h.live n);
    place = record { low = e.survives.survives.recoverable.holds.history.sound n; high = omega arith };
    left = tie_left me.shape n Idle b b' h (stopped h n (length (h.live n))) (region_left n) (record {
      live = set_at-same n (take (length (h.live n)) (h.live n)) h.live ∙ take_all (length (h.live n)) (h.live n) (omega arith);
      stable = set_at-same n (length (h.live n)) h.stable ∙ sym tied.stable;
      first = refl;
    }) tied;
    page = page;
    survives = survives_started;
  }
