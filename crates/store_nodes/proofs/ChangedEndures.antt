-- A store endures a call of a node that logs one record and changes a page which the node has cached: what it leaves, done or stopped.
use Rattle.std.specs.Prelude.{◌≡◌, ◌≢◌, ◌-◌, ◌*◌, ◌/◌, ◌<◌, ◌≤◌, ℕ, Bool, true, All, List, Option, Some, length, map, refl}
use Rattle.std.proofs.Common.{ap, subst, sym, ◌∙◌, length-set}
use Rattle.sd_base.specs.Disk.{BlockState}
use Rattle.sd_base.specs.Calls.{KeepsForeign, KeepsForeignBut, Narrows}
use Rattle.sd_base.specs.Shape.{page_count}
use Rattle.sd_base.specs.declared.names.PageNo.{PageNo}
use Rattle.sd_base.specs.declared.shape.Shape.{Shape}
use Rattle.log_record.specs.Legal.{IsLegal}
use Rattle.log_record.specs.Text.{record_text}
use Rattle.private_log.specs.Content.{region_of}
use Rattle.private_log.specs.Frames.{NarrowsBeside}
use Rattle.private_log.specs.Log.{SameLog, next_place, region}
use Rattle.private_log.specs.Spread.{IsCutLog, IsStill}
use Rattle.page_owner.specs.declared.owners.Own.{Own}
use Rattle.node_cache.specs.Cache.{CachedPage, CacheState, changed_by, page_at, with_page}
use Rattle.txn_core.specs.Seats.{SeatsState}
use Rattle.recovery_theory.specs.History.{History}
use Rattle.record_machine.specs.Cuts.{SurvivesAs}
use Rattle.record_machine.specs.Machine.{Machine, put}
use Rattle.record_machine.specs.Machine as machine
use Rattle.record_machine.specs.Meaning.{Plain}
use Rattle.record_machine.proofs.Put.{put_other}
use Rattle.store_nodes.specs.declared.node.Node.{Node}
use Rattle.store_nodes.specs.declared.node.Node.TheVariants.{Down, Up}
use Rattle.store_nodes.specs.declared.store.Store.{Store}
use Rattle.store_nodes.specs.Endures.{AreBusy, AreClean, AreCleanBut, Endures, EnduresBut, EnduresButAs, MayHaltAs, with_held}
use Rattle.store_nodes.specs.Nodes.{IsAtWork, IsPlace, IsStore, IsStoreOf, KeepsFramesBut, node_at, with_node}
use Rattle.store_nodes.specs.Ports.{IsQuiet}
use Rattle.store_nodes.specs.Shows.{ShowsUp}
use Rattle.store_nodes.specs.Tied.{AreLatest, TiesNode, TiesPage, TiesUp}
use Rattle.store_nodes.proofs.Eight.{others_stay}
use Rattle.store_nodes.proofs.Logs as logs
use Rattle.store_nodes.proofs.MayHalts.{may_halt}
use Rattle.store_nodes.proofs.OtherLogs.{LeavesRegion, others_settle, region_then}
use Rattle.store_nodes.proofs.ShownChange.{settled_changed}
use Rattle.store_nodes.proofs.ShownOthers.{LeavesNode}
use Rattle.store_nodes.proofs.ShownWith.{nodes_with}
use Rattle.store_nodes.proofs.Ties.{LeavesLog, down_tied, pages_beside, pages_narrowed, place_cut, tied_with, up_tied}
use Rattle.store_nodes.proofs.Works.{place_inside, up_most}

-- ---- the pages that the disk may lack

-- A page that the node has changed is one of them, and so may one have been that was settled.
module _ (s : Shape) (pool : List (Option (List ℕ))) (owners : List Own) (nodes : List Node) (n : ℕ) (c d : CacheState) (seats after : SeatsState) (x : PageNo) (page : CachedPage) (number : ℕ)
    (is : IsStoreOf s pool owners nodes) (place : IsPlace n) (up : node_at nodes n ≡ Up c seats) (there : page_at x c.pages ≡ Some page) (pages : d.pages ≡ with_page x (changed_by number) c.pages) (dirty : ℕ → Bool) (m m' : Machine) (same : m'.reopening ≡ m.reopening) where
  pub clean_where_changed : AreCleanBut (Some x.0) s owners nodes dirty m → AreClean s owners (with_node nodes n (Up d after)) (put x.0 true dirty) m'
  clean_where_changed was whole y within settled =
      let at = settled_changed s pool owners nodes n c d seats after x page number is place up there pages y settled in
      put_other x.0 true dirty y.0 at.0 ∙ was (sym same ∙ whole) y within at.1 at.0

  -- and so may another one be that is settled
  pub clean_where_used : (y : ℕ) → AreClean s owners nodes dirty m → AreCleanBut (Some y) s owners (with_node nodes n (Up d after)) (put y true (put x.0 true dirty)) m'
  clean_where_used y was whole z within settled far =
      let at = settled_changed s pool owners nodes n c d seats after x page number is place up there pages z settled in
      put_other y true (put x.0 true dirty) z.0 far ∙ put_other x.0 true dirty z.0 at.0 ∙ was (sym same ∙ whole) z within at.1

-- a store that endures does so but for any page
pub but_any : (y : ℕ) (c : Store) (b : ℕ → BlockState) (m : Machine) → Endures c b m → EnduresBut y c b m
but_any y c b m was = (
  was.0,
  record {
    held = was.1.held;
    dirty = was.1.dirty;
    history = was.1.history;
    nodes = was.1.nodes;
    locks = was.1.locks;
    reopening = was.1.reopening;
    lockers = was.1.lockers;
    clean = λ whole x within settled far. was.1.clean whole x within settled;
    lost = was.1.lost;
    tied = was.1.tied;
    survives = was.1.survives;
  },
)

-- ---- the store

module _ (me : Store) (pool : List (Option (List ℕ))) (n i : ℕ) (c d : CacheState) (seats after : SeatsState) (is : IsStore me) (place : IsPlace n) (at : i ≡ n - 1) (up : node_at me.nodes n ≡ Up c seats) (b b' : ℕ → BlockState) (p p' : Plain) (m m' : Machine) (but : Option ℕ) (e : EnduresButAs but me b p m)
    (h' : History) (dirty' : ℕ → Bool) (narrows : NarrowsBeside (next_place c.log) b b') (foreign : KeepsForeignBut (next_place c.log) c.node.0 b b') (quiet : IsQuiet me b)
    (shape : m'.shape ≡ m.shape) (reopening : m'.reopening ≡ m.reopening) (gone : m'.gone ≡ m.gone) (hold : (x : ℕ) → m'.hold x ≡ m.hold x) (disk : h'.devices.disk ≡ e.history.devices.disk) (first : h'.devices.first n ≡ e.history.devices.first n)
    (leaves : (k : ℕ) → IsPlace k → k ≢ n → LeavesNode me.shape k (node_at me.nodes k) p p' (with_held e.held m) (with_held e.held m')) (logged : (k : ℕ) → k ≢ n → LeavesLog k e.history h') (frames : KeepsFramesBut n me.nodes me.shared.pool pool) where
  others : (k : ℕ) → IsPlace k → k ≤ me.shape.nodes → k ≢ n → LeavesRegion (region_of me.shape k) b b'
  others = logs.logs_after me n i c d seats after is place at up b b' foreign quiet

  work : IsAtWork me.shape me.shared.pool me.shared.owners n c seats
  work = logs.work me n i c d seats after is place at up

  low : n ≤ me.shape.nodes
  low = logs.low me n i c d seats after is place at up

  was_tied : TiesUp n c seats e.history
  was_tied = subst (λ o. TiesNode me.shape n o b e.history) up (e.tied.node n place low)

  page : (x : PageNo) → x.0 < page_count me.shape → TiesPage me.shape b' h' x
  page = pages_beside me.shape me.nodes c b b' e.history h' work.store work.log_tie narrows disk e.tied

  abbrev S : List Node → Store
  S nodes = record { shape = me.shape; shared = record { pool = pool; owners = me.shared.owners; locks = me.shared.locks; reopening = me.shared.reopening }; nodes = nodes }

  -- it is done
  pub changed_endures : (but' : Option ℕ) → m'.mode n ≡ machine.Up → SameLog c.log d.log → h'.stable n ≡ e.history.stable n → c.log.stable ≤ d.log.stable → AreLatest (e.history.devices.first n) (h'.live n) after → AreBusy m' → m'.locks ≡ m.locks → ShowsUp me.shape pool n d after b' p' (with_held e.held m')
      → AreCleanBut but' me.shape me.shared.owners (with_node me.nodes n (Up d after)) dirty' m' → SurvivesAs e.held dirty' h' p' m' → EnduresButAs but' (S (with_node me.nodes n (Up d after))) b' p' m'
  changed_endures but' live same stable rises latest busy locks shows clean survives = record {
    held = e.held;
    dirty = dirty';
    history = h';
    nodes = nodes_with me.shape me.shared.pool pool me.shared.owners me.shared.owners me.nodes n d after b b' p p' (with_held e.held m) (with_held e.held m') is place e.nodes others frames leaves survives.survives.means (shape ∙ e.nodes.shape) live shows (λ x within. hold x ∙ e.nodes.hold x within);
    locks = locks ∙ e.locks;
    reopening = reopening ∙ e.reopening;
    lockers = busy;
    clean = clean;
    lost = λ x within none. ap (λ f. f x) gone ∙ e.lost x within (sym (ap (λ f. f x) disk) ∙ none);
    tied = tied_with me.shape me.nodes n (Up d after) b b' e.history h' is.shared.eight place e.tied others logged (up_tied n c d seats after e.history h' first stable same rises latest was_tied) page;
    survives = survives;
  }

  -- or the node is about to halt, whose port has stopped in it
  pub changed_halts : (b'' : ℕ → BlockState) → m'.mode n ≡ machine.Up → Narrows b' b'' → KeepsForeign n b' b'' → All IsLegal (h'.live n) → (cut : IsCutLog (region c.log) c.log.start c.log.stable b' (map record_text (h'.live n))) → h'.stable n ≤ cut.count → IsStill (region c.log) b' → AreBusy m' → m'.locks ≡ m.locks
      → AreClean me.shape me.shared.owners (with_node (with_node me.nodes n (Up d after)) n Down) dirty' m' → SurvivesAs e.held dirty' h' p' m' → MayHaltAs n (S (with_node me.nodes n (Up d after))) b'' p' m'
  changed_halts b'' live settled stops legal cut sure still busy locks clean survives =
      let own = logs.region_here me n i c d seats after is place at up in
      let begins : h'.devices.first n ≡ 6 * c.log.start = first ∙ was_tied.first in
      let eight' : length (with_node me.nodes n (Up d after)) ≡ 8 = length-set me.nodes (n - 1) (Up d after) ∙ is.shared.eight in
      let stay = others_stay me.nodes n (Up d after) is.shared.eight place in
      may_halt me n c seats is place up (with_node me.nodes n (Up d after)) eight' stay b b'' p p' m m' e pool dirty' h' cut.count live shape locks reopening gone hold disk
      (λ k k_is most far. region_then (region_of me.shape k) b b' b'' (others k k_is most far)
      (others_settle me.shape me.nodes n (next_place c.log) b b' is.shared.shape place.0 low (up_most me.shape me.shared.pool me.shared.owners me.nodes is) (place_inside me.shape n c (c.log.tail / 6) work.number work.store work.log_tie) quiet (subst (λ k. KeepsForeignBut (next_place c.log) k b b') work.number foreign) b'' stops k k_is most far))
      frames leaves logged busy clean
      (place_cut me.shape n c b' b'' h' own begins legal cut sure still stops) (down_tied me.shape n c b' b'' h' own begins legal cut sure still stops)
      (pages_narrowed me.shape b' b'' h' h' settled refl page) survives
