-- A store endures a call of a node that writes one block of its log, where its pages stay: what it leaves, done or stopped.
use Rattle.std.specs.Prelude.{◌≡◌, ◌≢◌, ◌-◌, ◌*◌, ◌<◌, ◌≤◌, ℕ, All, List, length, map, refl}
use Rattle.std.proofs.Common.{ap, subst, sym, ◌∙◌, length-set}
use Rattle.sd_base.specs.Disk.{BlockState}
use Rattle.sd_base.specs.Calls.{KeepsForeign, KeepsForeignBut, Narrows}
use Rattle.sd_base.specs.Shape.{page_count}
use Rattle.sd_base.specs.declared.names.PageNo.{PageNo}
use Rattle.log_record.specs.Legal.{IsLegal}
use Rattle.log_record.specs.Text.{record_text}
use Rattle.private_log.specs.Content.{place, region_of}
use Rattle.private_log.specs.Frames.{NarrowsBeside}
use Rattle.private_log.specs.Log.{region}
use Rattle.private_log.specs.Spread.{IsCutLog, IsStill}
use Rattle.node_cache.specs.Cache.{CacheState}
use Rattle.txn_core.specs.Seats.{SeatsState}
use Rattle.recovery_theory.specs.History.{History}
use Rattle.record_machine.specs.Cuts.{SurvivesAs}
use Rattle.record_machine.specs.Machine.{Machine}
use Rattle.record_machine.specs.Machine as machine
use Rattle.record_machine.specs.Meaning.{Plain}
use Rattle.record_locks.specs.Held.{Held}
use Rattle.store_nodes.specs.declared.node.Node.{Node}
use Rattle.store_nodes.specs.declared.node.Node.TheVariants.{Up}
use Rattle.store_nodes.specs.declared.store.Store.{Store}
use Rattle.store_nodes.specs.Endures.{AreBusy, AreBusyBut, EnduresAs, MayHaltAs, with_held}
use Rattle.store_nodes.specs.Nodes.{IsAtWork, IsPlace, IsStore, node_at, with_node}
use Rattle.store_nodes.specs.Ports.{IsQuiet}
use Rattle.store_nodes.specs.Shows.{ShowsUp}
use Rattle.store_nodes.specs.Tied.{TiesNode, TiesPage, TiesUp}
use Rattle.store_nodes.proofs.Eight.{others_stay}
use Rattle.store_nodes.proofs.Logs as logs
use Rattle.store_nodes.proofs.MayHalts.{clean_halting, may_halt_with}
use Rattle.store_nodes.proofs.OtherLogs.{LeavesRegion, others_leave, others_settle, region_then}
use Rattle.store_nodes.proofs.ShownOthers.{LeavesNode}
use Rattle.store_nodes.proofs.ShownWith.{changed_same, nodes_with, settled_before}
use Rattle.store_nodes.proofs.Ties.{LeavesLog, down_tied, pages_beside_block, pages_narrowed, place_cut, tied_with}
use Rattle.store_nodes.proofs.Works.{place_inside, up_most}

module _ (me : Store) (n i number : ℕ) (c d : CacheState) (seats after : SeatsState) (is : IsStore me) (place_is : IsPlace n) (at : i ≡ n - 1) (up : node_at me.nodes n ≡ Up c seats) (b b' : ℕ → BlockState) (p p' : Plain) (m m' : Machine) (e : EnduresAs me b p m) (h' : History)
    (narrows : NarrowsBeside (place (region c.log) number) b b') (foreign : KeepsForeignBut (place (region c.log) number) c.node.0 b b') (quiet : IsQuiet me b)
    (shape : m'.shape ≡ m.shape) (reopening : m'.reopening ≡ m.reopening) (gone : m'.gone ≡ m.gone) (hold : (x : ℕ) → m'.hold x ≡ m.hold x) (disk : h'.devices.disk ≡ e.history.devices.disk) (first : h'.devices.first n ≡ e.history.devices.first n)
    (leaves : (k : ℕ) → IsPlace k → k ≢ n → LeavesNode me.shape k (node_at me.nodes k) p p' (with_held e.held m) (with_held e.held m')) (logged : (k : ℕ) → k ≢ n → LeavesLog k e.history h') where
  work : IsAtWork me.shape me.shared.pool me.shared.owners n c seats
  work = logs.work me n i c d seats after is place_is at up

  low : n ≤ me.shape.nodes
  low = logs.low me n i c d seats after is place_is at up

  others : (k : ℕ) → IsPlace k → k ≤ me.shape.nodes → k ≢ n → LeavesRegion (region_of me.shape k) b b'
  others = others_leave me.shape me.nodes n (place (region c.log) number) b b' is.shared.shape place_is.0 low (up_most me.shape me.shared.pool me.shared.owners me.nodes is) (place_inside me.shape n c number work.number work.store work.log_tie) quiet
      (subst (λ k. KeepsForeignBut (place (region c.log) number) k b b') work.number foreign)

  was_tied : TiesUp n c seats e.history
  was_tied = subst (λ o. TiesNode me.shape n o b e.history) up (e.tied.node n place_is low)

  page : (x : PageNo) → x.0 < page_count me.shape → TiesPage me.shape b' h' x
  page = pages_beside_block me.shape me.nodes c number b b' e.history h' work.store work.log_tie narrows disk e.tied

  -- the other nodes are left as they were, also with other locks
  leaves_held : (held : Held) (k : ℕ) → IsPlace k → k ≢ n → LeavesNode me.shape k (node_at me.nodes k) p p' (with_held e.held m) (with_held held m')
  leaves_held held k k_is far = (let l = leaves k k_is far in record { live = l.live; mode = l.mode; start = l.start; pending = l.pending; images = l.images; lives = l.lives })

  abbrev S : Held → List Node → Store
  S locks nodes = record { shape = me.shape; shared = record { pool = me.shared.pool; owners = me.shared.owners; locks = locks; reopening = me.shared.reopening }; nodes = nodes }

  -- it is done, and the nodes have these locks
  pub ring_endures : (held locks : Held) → m'.mode n ≡ machine.Up → d.pages ≡ c.pages → TiesUp n d after h' → AreBusy m' → m'.locks ≡ locks → ShowsUp me.shape me.shared.pool n d after b' p' (with_held held m') → SurvivesAs held e.dirty h' p' m'
      → EnduresAs (S locks (with_node me.nodes n (Up d after))) b' p' m'
  ring_endures held locks live same_pages tied busy same_locks shows survives = record {
    held = held;
    dirty = e.dirty;
    history = h';
    nodes = nodes_with me.shape me.shared.pool me.shared.pool me.shared.owners me.shared.owners me.nodes n d after b b' p p' (with_held e.held m) (with_held held m') is place_is e.nodes others (λ j j_is far k a below. refl) (leaves_held held) survives.survives.means (shape ∙ e.nodes.shape) live shows (λ x within. hold x ∙ e.nodes.hold x within);
    locks = same_locks;
    reopening = reopening ∙ e.reopening;
    lockers = busy;
    clean = λ whole x within settled. e.clean (sym reopening ∙ whole) x within (settled_before me.nodes me.shared.owners n c d seats after is.shared.eight place_is up x (is.shared.holders x.0) (λ clean. sym (changed_same x c d same_pages) ∙ clean) settled);
    lost = λ x within none. ap (λ f. f x) gone ∙ e.lost x within (sym (ap (λ f. f x) disk) ∙ none);
    tied = tied_with me.shape me.nodes n (Up d after) b b' e.history h' is.shared.eight place_is e.tied others logged tied page;
    survives = survives;
  }

  -- or the node is about to halt, whose port has stopped in it
  pub ring_halts : (b'' : ℕ → BlockState) → m'.mode n ≡ machine.Up → Narrows b' b'' → KeepsForeign n b' b'' → All IsLegal (h'.live n) → (cut : IsCutLog (region c.log) c.log.start c.log.stable b' (map record_text (h'.live n))) → h'.stable n ≤ cut.count → IsStill (region c.log) b' → AreBusyBut n m' → m'.locks ≡ m.locks → SurvivesAs e.held e.dirty h' p' m'
      → MayHaltAs n (record { shape = me.shape; shared = me.shared; nodes = with_node me.nodes n (Up d after) }) b'' p' m'
  ring_halts b'' live settled stops legal cut sure still busy locks survives =
      let own = logs.region_here me n i c d seats after is place_is at up in
      let begins : h'.devices.first n ≡ 6 * c.log.start = first ∙ was_tied.first in
      let eight' : length (with_node me.nodes n (Up d after)) ≡ 8 = length-set me.nodes (n - 1) (Up d after) ∙ is.shared.eight in
      let stay = others_stay me.nodes n (Up d after) is.shared.eight place_is in
      may_halt_with me n c seats is place_is up (with_node me.nodes n (Up d after)) eight' stay b b'' p p' m m' e me.shared.pool e.dirty h' cut.count live shape locks reopening gone hold disk
      (λ k k_is most far. region_then (region_of me.shape k) b b' b'' (others k k_is most far)
      (others_settle me.shape me.nodes n (place (region c.log) number) b b' is.shared.shape place_is.0 low (up_most me.shape me.shared.pool me.shared.owners me.nodes is) (place_inside me.shape n c number work.number work.store work.log_tie) quiet (subst (λ k. KeepsForeignBut (place (region c.log) number) k b b') work.number foreign) b'' stops k k_is most far))
      (λ k k_is far j a below. refl) leaves logged busy (clean_halting me n c seats is place_is up (with_node me.nodes n (Up d after)) eight' stay e.dirty m m' reopening e.clean)
      (place_cut me.shape n c b' b'' h' own begins legal cut sure still stops) (down_tied me.shape n c b' b'' h' own begins legal cut sure still stops)
      (pages_narrowed me.shape b' b'' h' h' settled refl page) survives
