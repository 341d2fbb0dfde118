-- A store of which a node has halted endures what the machine is after the stop.
use Rattle.std.specs.Prelude.{◌≡◌, ◌≢◌, ◌==◌, ◌*◌, ◌+◌, ◌<◌, ◌≤◌, ℕ, Bool, true, false, List, Option, Some, None, All, length, map, option_map, refl, slice_index_or, if◌then◌else◌}
use Rattle.std.specs.List.{list_any}
use Rattle.std.proofs.Common.{arith, ap, inl, inr, subst, sym, ◌∙◌}
use Rattle.std.proofs.lemmas.Bool.{cases_eq}
use Rattle.std.proofs.lemmas.List.{length-map}
use Rattle.sd_base.specs.Disk.{BlockState}
use Rattle.sd_base.specs.Shape.{page_count}
use Rattle.sd_base.specs.declared.device.NodeId.{NodeId}
use Rattle.sd_base.specs.declared.names.Key.{Key}
use Rattle.sd_base.specs.declared.names.PageNo.{PageNo}
use Rattle.sd_base.specs.declared.names.TxnId.{TxnId}
use Rattle.sd_base.specs.declared.shape.Shape.{Shape}
use Rattle.space_map.specs.Entry.{ident_of}
use Rattle.log_record.specs.Text.{record_text}
use Rattle.private_log.specs.Content.{region_of}
use Rattle.private_log.specs.Log.{region}
use Rattle.page_owner.specs.declared.owners.Own.{Own}
use Rattle.page_owner.specs.declared.owners.Own.TheVariants.{Nobody, Out, Parked}
use Rattle.page_owner.specs.Owners.{owner_of}
use Rattle.record_locks.specs.declared.mode.Mode.{Mode}
use Rattle.record_locks.specs.Held.{Held, mode_of, without_reads_of}
use Rattle.node_cache.specs.Cache.{CacheState, is_changed}
use Rattle.node_cache.specs.Room.{given_up}
use Rattle.txn_core.specs.Seats.{SeatsState}
use Rattle.recovery_theory.specs.History.{History, entry_now, image_now}
use Rattle.recovery_theory.specs.Steps.{set_at, stopped}
use Rattle.recovery_theory.proofs.Cuts.{set_at-other, set_at-same}
use Rattle.record_machine.specs.Cuts.{SurvivesAs}
use Rattle.record_machine.specs.Machine.{Machine, Redone, is_busy, put}
use Rattle.record_machine.specs.Machine as machine
use Rattle.record_machine.specs.Meaning.{Plain}
use Rattle.record_machine.specs.Stops as stops
use Rattle.record_machine.specs.Stops.{stop}
use Rattle.record_machine.proofs.Put.{put_other, put_same}
use Rattle.record_machine.proofs.StopSteps.{stop_none_new, stop_others}
use Rattle.record_machine.proofs.StopTables.{stopped_with_tables}
use Rattle.store_nodes.specs.declared.node.Node.{Node}
use Rattle.store_nodes.specs.declared.node.Node.TheVariants.{Idle, Up, Down}
use Rattle.store_nodes.specs.declared.store.Store.{Store}
use Rattle.store_nodes.specs.Endures.{AreBusy, AreClean, AreGone, EnduresAs, Endures, MayHaltAs, Stops, with_held}
use Rattle.store_nodes.specs.Halting.{Halts, KeepsTables, LosesTables}
use Rattle.store_nodes.specs.Nodes.{IsNode, IsPlace, IsStore, IsStoreBut, KeepsFramesBut, OnUp, any_up, is_up, node_at, pages_of, with_node}
use Rattle.store_nodes.specs.Shows.{IsHolderUp, IsSettled, ShowsNode, ShowsNodes, entry_in, holder, image_in}
use Rattle.store_nodes.specs.Tied.{IsTied, TiesNode}
use Rattle.store_nodes.proofs.Eight.{each_with}
use Rattle.store_nodes.proofs.HaltedNodes.{any_up_shown, cached_there, image_left, life_left, within_log}
use Rattle.store_nodes.proofs.OtherLogs.{LeavesRegion}
use Rattle.store_nodes.proofs.ShownOthers.{LeavesNode, node_left}
use Rattle.store_nodes.proofs.Ties.{stopped_others, tie_left}
use Rattle.store_nodes.proofs.Works.{region_at, up_most}

-- blocks that nothing has changed
still_there : (s : Shape) (k : ℕ) (b : ℕ → BlockState) → LeavesRegion (region_of s k) b b
still_there s k b = record { narrows = λ i o low may. may; keeps = λ i low. refl; still = λ was. was }

-- who holds a page still holds it
pub holder_given : (n : NodeId) (own : Own) → holder (given_up n own) ≡ holder own
holder_given n Nobody = refl
holder_given n (Parked k) = refl
holder_given n (Out k) = by (k.0 == n.0)
  where
    by : (b : Bool) → holder (if b then Parked k else Out k) ≡ Some k.0
    by true = refl
    by false = refl

module _ (n : NodeId) (old new : Store) (b : ℕ → BlockState) (p : Plain) (m : Machine) (place : IsPlace n.0) (w : MayHaltAs n.0 old b p m) (was : IsStoreBut n.0 old) (is : IsStore new) (shape : new.shape ≡ old.shape) (nodes : new.nodes ≡ with_node old.nodes n.0 Down)
    (frames : KeepsFramesBut n.0 old.nodes old.shared.pool new.shared.pool) (kept_tables : any_up new.nodes ≡ true → KeepsTables n old new) (lost_tables : any_up new.nodes ≡ false → LosesTables new) where
  abbrev s : Shape
  s = old.shape

  -- the pages that the disk may lack are of nodes that haven't been redone
  mode_known : (k : ℕ) → m.mode k ≡ Redone → m.mode k ≢ machine.Idle → ⊥
  mode_known k redone used = elim (cases_eq k n.0) [
    | inl here ↦ (let never : machine.Up ≡ Redone = sym w.up ∙ ap m.mode (sym here) ∙ redone in absurd cc)
    | inr far ↦
        let at = w.survives.survives.stops.nodes k used in
        let low : k ≤ s.nodes = (let high = at.1 in let same = ap (λ (z : Shape). z.nodes) w.shape in omega (arith, high, same)) in
        let place_is : IsPlace k = (at.0, (let most = was.shared.shape.nodes in omega (arith, low, most))) in
        by (node_at old.nodes k) (w.others k place_is low far).0
  ]
    where
      by : (o : Node) → ShowsNode s old.shared.pool k o b p (with_held w.held m) → ⊥
      by Idle shown = let never : machine.Idle ≡ Redone = sym shown.0 ∙ redone in absurd cc
      by (Up c seats) shown = let never : machine.Up ≡ Redone = sym shown.0 ∙ redone in absurd cc
      by Down shown = let never : machine.Down ≡ Redone = sym shown.0 ∙ redone in absurd cc

  none_redone : (x : ℕ) → w.dirty x ≡ true → m.mode (w.history.guard x) ≢ Redone
  none_redone x dirty redone = elim (w.survives.survives.recoverable.holder x dirty) [
    | inl holds ↦ mode_known (w.history.guard x) redone holds.1
    | inr down ↦ (let never : machine.Down ≡ Redone = sym down.1 ∙ redone in absurd cc)
  ]

  law : (kept : ℕ) × (kept ≤ length (m.loose n.0)) × (q : Plain) × SurvivesAs (without_reads_of (record { 0 = n.0 }) w.held) w.dirty (stopped w.history n.0 w.cut) q (stop n.0 kept m)
  law = stopped_with_tables w.held w.dirty w.history p m n.0 w.cut w.survives (λ idle. (let never : machine.Up ≡ machine.Idle = sym w.up ∙ idle in absurd cc)) w.place none_redone

  abbrev kept : ℕ
  kept = law.0

  abbrev q : Plain
  q = law.2

  abbrev h' : History
  h' = stopped w.history n.0 w.cut

  abbrev after : Machine
  after = stop n.0 kept m

  survives : SurvivesAs (without_reads_of (record { 0 = n.0 }) w.held) w.dirty h' q after
  survives = law.3

  abbrev held' : Held
  held' = without_reads_of (record { 0 = n.0 }) w.held

  -- ---- the nodes

  live_left : (k : ℕ) → k ≢ n.0 → q.live k ≡ p.live k
  live_left k far = sym (survives.survives.recoverable.live k) ∙ (stopped_others w.history n.0 w.cut k far).live ∙ w.survives.survives.recoverable.live k

  -- a page of another node is as it was
  guarded : (k : ℕ) (x : ℕ) → k ≢ n.0 → m.hold x ≡ Some k → (image_now h' x ≡ image_now w.history x) × (entry_now h' x ≡ entry_now w.history x)
  guarded k x far holds =
      let guard : w.history.guard x ≡ k = w.survives.survives.recoverable.guard x k holds in
      let long : length (h'.live (w.history.guard x)) ≡ length (w.history.live (w.history.guard x)) = ap length (ap h'.live guard ∙ (stopped_others w.history n.0 w.cut k far).live ∙ ap w.history.live (sym guard)) in
      (ap (w.history.image x) long, ap (w.history.entry x) long)

  leaves : (k : ℕ) → IsPlace k → k ≤ s.nodes → k ≢ n.0 → LeavesNode s k (node_at old.nodes k) p q (with_held w.held m) (with_held held' after)
  leaves k k_is low far = record {
    live = live_left k far;
    mode = (stop_others m n.0 kept k far).0;
    start = refl;
    pending = (stop_others m n.0 kept k far).1;
    images = images (node_at old.nodes k) (was.others k k_is far);
    lives = lives (node_at old.nodes k) (was.others k k_is far);
  }
    where
      held_here : (x : PageNo) → x.0 < page_count s → owner_of old.shared.owners x.0 ≡ Out (record { 0 = k }) → m.hold x.0 ≡ Some k
      held_here x within out = w.hold x.0 within ∙ ap holder out

      images : (o : Node) → IsNode s old.shared.pool old.shared.owners k o → All (λ e. image_in s q e.ticket.page ≡ image_in s p e.ticket.page) (pages_of o)
      images Idle node j e below = absurd (omega (arith, below))
      images Down node j e below = absurd (omega (arith, below))
      images (Up c seats) node j e below =
          let x = (slice_index_or c.pages j e).ticket.page in
          let within = node.store.pages j e below in
          let name : c.node ≡ record { 0 = k } = ap (λ i. record { 0 = i }) node.number in
          let out : owner_of old.shared.owners x.0 ≡ Out (record { 0 = k }) = (node.owned x).1 (cached_there x c.pages j e below refl) ∙ ap Out name in
          image_left w.dirty w.dirty w.history h' p q (with_held w.held m) (with_held held' after) w.survives.survives.recoverable survives.survives.recoverable w.survives.survives.means survives.survives.means s w.shape w.shape x within (guarded k x.0 far (held_here x within out)).0

      lives : (o : Node) → IsNode s old.shared.pool old.shared.owners k o → All (λ e. option_map ident_of (entry_in s q e.ticket.page) ≡ option_map ident_of (entry_in s p e.ticket.page)) (pages_of o)
      lives Idle node j e below = absurd (omega (arith, below))
      lives Down node j e below = absurd (omega (arith, below))
      lives (Up c seats) node j e below =
          let x = (slice_index_or c.pages j e).ticket.page in
          let within = node.store.pages j e below in
          let name : c.node ≡ record { 0 = k } = ap (λ i. record { 0 = i }) node.number in
          let out : owner_of old.shared.owners x.0 ≡ Out (record { 0 = k }) = (node.owned x).1 (cached_there x c.pages j e below refl) ∙ ap Out name in
          life_left w.dirty w.dirty w.history h' p q (with_held w.held m) (with_held held' after) w.survives.survives.recoverable survives.survives.recoverable w.survives.survives.means survives.survives.means s w.shape w.shape x within (guarded k x.0 far (held_here x within out)).1

  -- what the node's transactions owe fits into its log
  owes : length (after.pending n.0) ≤ 6 * s.ring
  owes =
      let means = survives.survives.means in
      let fits = within_log (6 * after.start n.0) (q.live n.0) (λ seat. after.records) (after.pending n.0) (means.logs.rising n.0) (means.logs.deeds n.0) in
      let same : length (h'.live n.0) ≡ length (q.live n.0) = ap length (survives.survives.recoverable.live n.0) in
      let texts = length-map (h'.live n.0) record_text in
      let room = w.left.log.ring.fits.room in
      omega (arith, fits, same, texts, room)

  each : (k : ℕ) → IsPlace k → k ≤ s.nodes → ShowsNode s new.shared.pool k (node_at (with_node old.nodes n.0 Down) k) b q (with_held held' after)
  each k k_is low = each_with old.nodes n.0 Down was.shared.eight place (λ j o. j ≤ s.nodes → ShowsNode s new.shared.pool j o b q (with_held held' after)) (λ most. (put_same n.0 machine.Down m.mode n.0 refl, owes))
      (λ j j_is far most. node_left s old.shared.pool new.shared.pool j b b p q (with_held w.held m) (with_held held' after) was.shared.shape (still_there s j b) (node_at old.nodes j) (λ c seats at. region_up j j_is far c seats at)
      (frames j j_is far) (leaves j j_is most far) (w.others j j_is most far).0) k k_is low
    where
      region_up : (j : ℕ) → IsPlace j → j ≢ n.0 → (c : CacheState) (seats : SeatsState) → node_at old.nodes j ≡ Up c seats → region c.log ≡ region_of s j
      region_up j j_is far c seats at = let node = subst (IsNode s old.shared.pool old.shared.owners j) at (was.others j j_is far) in region_at s j c node.number node.store node.log_tie

  -- ---- the tables

  any_same : stops.any_up after ≡ any_up new.nodes
  any_same = any_up_shown s new.nodes after w.shape is.shared.eight was.shared.shape.nodes.1 (λ k k_is low. mode_at k k_is low) (λ k k_is up. subst (λ (z : Shape). k ≤ z.nodes) shape (up_most new.shape new.shared.pool new.shared.owners new.nodes is k k_is up))
    where
      by : (o : Node) (k : ℕ) → ShowsNode s new.shared.pool k o b q (with_held held' after) → machine.is_up (after.mode k) ≡ is_up o
      by Idle k shown = ap machine.is_up shown.0
      by (Up c seats) k shown = ap machine.is_up shown.0
      by Down k shown = ap machine.is_up shown.0

      mode_at : (k : ℕ) → IsPlace k → k ≤ s.nodes → machine.is_up (after.mode k) ≡ is_up (node_at new.nodes k)
      mode_at k k_is low = by (node_at (with_node old.nodes n.0 Down) k) k (each k k_is low) ∙ ap (λ os. is_up (node_at os k)) (sym nodes)

  hold : (x : ℕ) → x < page_count s → after.hold x ≡ holder (owner_of new.shared.owners x)
  hold x within = by (any_up new.nodes) refl
    where
      by : (c : Bool) → any_up new.nodes ≡ c → after.hold x ≡ holder (owner_of new.shared.owners x)
      by true some = rw (any_same ∙ some) (w.hold x within ∙ sym (ap holder ((kept_tables some).owners x) ∙ holder_given n (owner_of old.shared.owners x)))
      by false none = rw (any_same ∙ none) (sym (ap holder ((lost_tables none).owners x)))

  locks : after.locks ≡ new.shared.locks
  locks = by (any_up new.nodes) refl
    where
      by : (c : Bool) → any_up new.nodes ≡ c → after.locks ≡ new.shared.locks
      by true some = rw (any_same ∙ some) (ap (without_reads_of n) w.locks ∙ sym (kept_tables some).locks)
      by false none = rw (any_same ∙ none) (sym (lost_tables none).locks)

  reopening : after.reopening ≡ new.shared.reopening
  reopening = by (any_up new.nodes) refl
    where
      by : (c : Bool) → any_up new.nodes ≡ c → after.reopening ≡ new.shared.reopening
      by true some = rw (any_same ∙ some) (w.reopening ∙ sym (kept_tables some).reopening)
      by false none = rw (any_same ∙ none) (sym (lost_tables none).reopening)

  lockers : AreBusy after
  lockers key t how has up = elim (cases_eq t.node.0 n.0) [
    | inl here ↦ (let never : machine.Down ≡ machine.Up = sym (put_same n.0 machine.Down m.mode t.node.0 here) ∙ up in absurd cc)
    | inr far ↦
        let same = stop_others m n.0 kept t.node.0 far in
        ap (list_any (machine.is_begin_in t.seat)) same.1 ∙ w.lockers key t how (stop_none_new m n.0 kept key t how has) (sym same.0 ∙ up) far
  ]

  -- ---- the pages that the disk has

  holder_before : (own : Own) → IsHolderUp new.nodes (given_up n own) → IsHolderUp new.nodes own
  holder_before Nobody up = up
  holder_before (Parked k) up = up
  holder_before (Out k) up = by (k.0 == n.0) up
    where
      by : (c : Bool) → IsHolderUp new.nodes (if c then Parked k else Out k) → is_up (node_at new.nodes k.0) ≡ true
      by true up = up
      by false up = up

  clean : AreClean s new.shared.owners new.nodes w.dirty after
  clean whole x within settled = by (any_up new.nodes) refl
    where
      by : (c : Bool) → any_up new.nodes ≡ c → w.dirty x.0 ≡ false
      by true some =
          let still : m.reopening ≡ false = (let was : after.reopening ≡ m.reopening = rw (any_same ∙ some) refl in sym was ∙ whole) in
          w.clean still x within (record {
            holder = subst (λ os. IsHolderUp os (owner_of old.shared.owners x.0)) nodes (holder_before (owner_of old.shared.owners x.0) (subst (IsHolderUp new.nodes) ((kept_tables some).owners x.0) settled.holder));
            clean = subst (λ os. (k : ℕ) → IsPlace k → OnUp (node_at os k) (λ c seats. is_changed x c ≡ false)) nodes settled.clean;
          })
      by false none = (let lost : after.reopening ≡ true = rw (any_same ∙ none) refl in let never : true ≡ false = sym lost ∙ whole in absurd cc)

  tied : IsTied s (with_node old.nodes n.0 Down) b h'
  tied = record {
    node = λ k k_is. each_with old.nodes n.0 Down was.shared.eight place (λ j o. j ≤ s.nodes → TiesNode s j o b h') (λ most. w.left)
        (λ j j_is far most. tie_left s j (node_at old.nodes j) b b w.history h' (still_there s j b) (stopped_others w.history n.0 w.cut j far) (w.others j j_is most far).1) k k_is;
    page = w.page;
  }

  endures : EnduresAs new b q after
  endures = record {
    held = held';
    dirty = w.dirty;
    history = h';
    nodes = subst (λ os. ShowsNodes new.shape new.shared.pool new.shared.owners os b q (with_held held' after)) (sym nodes)
        (subst (λ z. ShowsNodes z new.shared.pool new.shared.owners (with_node old.nodes n.0 Down) b q (with_held held' after)) (sym shape) (record { means = survives.survives.means; shape = w.shape; node = each; hold = hold }));
    locks = locks;
    reopening = reopening;
    lockers = lockers;
    clean = subst (λ z. AreClean z new.shared.owners new.nodes w.dirty after) (sym shape) clean;
    lost = subst (λ z. AreGone z h' after) (sym shape) w.lost;
    tied = subst (λ os. IsTied new.shape os b h') (sym nodes) (subst (λ z. IsTied z (with_node old.nodes n.0 Down) b h') (sym shape) tied);
    survives = survives;
  }

  pub stopped_endures : Stops n.0 m (Endures new b)
  stopped_endures = record { kept = kept; within = law.1; shows = (q, endures) }
