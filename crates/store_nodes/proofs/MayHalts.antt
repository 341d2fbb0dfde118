-- A store of which a node is about to halt in a call of its own.
use Rattle.std.specs.Prelude.{◌≡◌, ◌≢◌, ◌<◌, ◌≤◌, ℕ, Bool, true, false, List, Option, Some, length, refl}
use Rattle.std.proofs.Common.{ap, inl, inr, subst, sym, ◌∙◌}
use Rattle.std.proofs.lemmas.Bool.{cases_eq}
use Rattle.sd_base.specs.Disk.{BlockState}
use Rattle.sd_base.specs.Shape.{page_count}
use Rattle.sd_base.specs.declared.device.NodeId.{NodeId}
use Rattle.sd_base.specs.declared.names.PageNo.{PageNo}
use Rattle.private_log.specs.Content.{region_of}
use Rattle.page_owner.specs.declared.owners.Own.{Own}
use Rattle.page_owner.specs.declared.owners.Own.TheVariants.{Nobody, Out, Parked}
use Rattle.page_owner.specs.Owners.{owner_of}
use Rattle.node_cache.specs.Cache.{CacheState, is_cached, is_changed}
use Rattle.node_cache.proofs.Fetched.{uncached}
use Rattle.txn_core.specs.Seats.{SeatsState}
use Rattle.recovery_theory.specs.History.{History}
use Rattle.recovery_theory.specs.Steps.{IsPlaceToCut, stopped}
use Rattle.record_machine.specs.Cuts.{SurvivesAs}
use Rattle.record_machine.specs.Machine.{Machine, put}
use Rattle.record_machine.specs.Machine as machine
use Rattle.record_machine.specs.Meaning.{Plain}
use Rattle.record_machine.proofs.Put.{at_or_off}
use Rattle.store_nodes.specs.declared.node.Node.{Node}
use Rattle.store_nodes.specs.declared.node.Node.TheVariants.{Up, Down}
use Rattle.store_nodes.specs.declared.store.Store.{Store}
use Rattle.store_nodes.specs.Endures.{AreBusy, AreBusyBut, AreClean, AreCleanBut, AreGone, EnduresButAs, MayHaltAs, with_held}
use Rattle.store_nodes.specs.Nodes.{IsHeldBy, IsPlace, IsStore, KeepsFramesBut, OnUp, OthersStay, is_up, node_at, with_node}
use Rattle.store_nodes.specs.Shows.{IsHolderUp, IsSettled, ShowsNode, holder}
use Rattle.store_nodes.specs.Tied.{TiesNode, TiesPage, TiesStill}
use Rattle.store_nodes.proofs.Eight.{at_other, at_same}
use Rattle.store_nodes.proofs.OtherLogs.{LeavesRegion, regions_at}
use Rattle.store_nodes.proofs.ShownOthers.{LeavesNode, node_left}
use Rattle.store_nodes.proofs.Ties.{LeavesLog, tie_left}
use Rattle.store_nodes.proofs.Works.{work_at}

module _ (me : Store) (n : ℕ) (c : CacheState) (seats : SeatsState) (is : IsStore me) (place : IsPlace n) (up : node_at me.nodes n ≡ Up c seats) (nodes' : List Node) (eight : length nodes' ≡ 8) (others : OthersStay n me.nodes nodes') where
  abbrev owners : List Own
  owners = me.shared.owners

  -- ---- a page that is settled where the node is down is no page of the node

  far_off : (k : ℕ) → is_up (node_at (with_node nodes' n Down) k) ≡ true → k ≢ n
  far_off k now same =
      let gone : is_up (node_at (with_node nodes' n Down) k) ≡ false = ap (λ j. is_up (node_at (with_node nodes' n Down) j)) same ∙ ap is_up (at_same nodes' n Down eight place) in
      let never : true ≡ false = sym now ∙ gone in cc

  before : (k : ℕ) → IsPlace k → k ≢ n → node_at (with_node nodes' n Down) k ≡ node_at me.nodes k
  before k k_is far = at_other nodes' n Down eight place k k_is far ∙ others k k_is far

  holder_up : (own : Own) → ((k : NodeId) → IsHeldBy k own → IsPlace k.0) → IsHolderUp (with_node nodes' n Down) own → IsHolderUp me.nodes own
  holder_up Nobody known now = tt
  holder_up (Parked k) known now = ap is_up (sym (before k.0 (known k (inl refl)) (far_off k.0 now))) ∙ now
  holder_up (Out k) known now = ap is_up (sym (before k.0 (known k (inr refl)) (far_off k.0 now))) ∙ now

  not_out : (x : PageNo) → IsSettled (with_node nodes' n Down) owners x → is_cached x c ≡ false
  not_out x now = by (is_cached x c) refl
    where
      by : (b : Bool) → is_cached x c ≡ b → is_cached x c ≡ false
      by false none = none
      by true some =
          let work = work_at me.shape me.shared.pool owners me.nodes n c seats place up is in
          let out : owner_of owners x.0 ≡ Out c.node = (work.owned x).1 some in
          let live : is_up (node_at (with_node nodes' n Down) c.node.0) ≡ true = subst (IsHolderUp (with_node nodes' n Down)) out now.holder in
          absurd (far_off c.node.0 live work.number)

  pub settled_up : (x : PageNo) → IsSettled (with_node nodes' n Down) owners x → IsSettled me.nodes owners x
  settled_up x now = record {
    holder = holder_up (owner_of owners x.0) (is.shared.holders x.0) now.holder;
    clean = λ k k_is. elim (cases_eq k n) [
      | inl here ↦ subst (λ j. OnUp (node_at me.nodes j) (λ e those. is_changed x e ≡ false)) (sym here) (subst (λ o. OnUp o (λ e those. is_changed x e ≡ false)) (sym up) (uncached x c (not_out x now)))
      | inr far ↦ subst (λ o. OnUp o (λ e those. is_changed x e ≡ false)) (before k k_is far) (now.clean k k_is)
    ];
  }

  -- so the pages that the disk has are those that it had,
  pub clean_halting : (dirty : ℕ → Bool) (m m' : Machine) → m'.reopening ≡ m.reopening → AreClean me.shape owners me.nodes dirty m → AreClean me.shape owners (with_node nodes' n Down) dirty m'
  clean_halting dirty m m' same was whole x within now = was (sym same ∙ whole) x within (settled_up x now)

  -- also where it had them but for a page that the node has,
  pub clean_halting_but : (y : PageNo) (dirty : ℕ → Bool) (m m' : Machine) → is_cached y c ≡ true → m'.reopening ≡ m.reopening → AreCleanBut (Some y.0) me.shape owners me.nodes dirty m → AreClean me.shape owners (with_node nodes' n Down) dirty m'
  clean_halting_but y dirty m m' cached same was whole x within now = was (sym same ∙ whole) x within (settled_up x now) (λ here. (let one : x ≡ y = ap (λ k. record { 0 = k }) here in let never : true ≡ false = sym cached ∙ ap (λ z. is_cached z c) (sym one) ∙ not_out x now in cc))

  -- and where such a page is changed
  pub clean_changed : (y : PageNo) (dirty : ℕ → Bool) (m : Machine) → is_cached y c ≡ true → AreClean me.shape owners (with_node nodes' n Down) dirty m → AreClean me.shape owners (with_node nodes' n Down) (put y.0 true dirty) m
  clean_changed y dirty m cached was whole x within now =
      at_or_off (λ b. b ≡ false) y.0 true dirty x.0 (λ here. (let one : x ≡ y = ap (λ k. record { 0 = k }) here in let never : true ≡ false = sym cached ∙ ap (λ z. is_cached z c) (sym one) ∙ not_out x now in absurd cc)) (λ far. was whole x within now)

  -- so it is where a page that the node holds is one of those that the disk may lack
  holder_down : (own : Own) → holder own ≡ Some n → ¬ (IsHolderUp (with_node nodes' n Down) own)
  holder_down Nobody holds now = absurd cc
  holder_down (Parked k) holds now = let same : k.0 ≡ n = cc in far_off k.0 now same
  holder_down (Out k) holds now = let same : k.0 ≡ n = cc in far_off k.0 now same

  pub clean_held : (y : ℕ) (dirty : ℕ → Bool) (m : Machine) → holder (owner_of owners y) ≡ Some n → AreClean me.shape owners (with_node nodes' n Down) dirty m → AreClean me.shape owners (with_node nodes' n Down) (put y true dirty) m
  clean_held y dirty m holds was whole x within now = at_or_off (λ b. b ≡ false) y true dirty x.0 (λ here. absurd (holder_down (owner_of owners x.0) (ap (λ k. holder (owner_of owners k)) here ∙ holds) now.holder)) (λ far. was whole x within now)

  -- ---- the whole

  module _ (b b' : ℕ → BlockState) (p p' : Plain) (m m' : Machine) {but : Option ℕ} (e : EnduresButAs but me b p m) (pool : List (Option (List ℕ))) (dirty : ℕ → Bool) (h' : History) (cut : ℕ) where
    -- where a page whose block is lost is said to be gone (a proof may look at the pages that the disk may lack)
    unfoldable pub may_halt_lacking : m'.mode n ≡ machine.Up → m'.shape ≡ m.shape → m'.locks ≡ m.locks → m'.reopening ≡ m.reopening → AreGone me.shape h' m' → ((x : ℕ) → m'.hold x ≡ m.hold x)
        → ((k : ℕ) → IsPlace k → k ≤ me.shape.nodes → k ≢ n → LeavesRegion (region_of me.shape k) b b') → KeepsFramesBut n me.nodes me.shared.pool pool → ((k : ℕ) → IsPlace k → k ≢ n → LeavesNode me.shape k (node_at me.nodes k) p p' (with_held e.held m) (with_held e.held m')) → ((k : ℕ) → k ≢ n → LeavesLog k e.history h')
        → AreBusyBut n m' → AreClean me.shape owners (with_node nodes' n Down) dirty m' → IsPlaceToCut h' n cut → TiesStill me.shape n b' (stopped h' n cut) → ((x : PageNo) → x.0 < page_count me.shape → TiesPage me.shape b' h' x) → SurvivesAs e.held dirty h' p' m'
        → MayHaltAs n (record { shape = me.shape; shared = record { pool = pool; owners = owners; locks = me.shared.locks; reopening = me.shared.reopening }; nodes = nodes' }) b' p' m'
    may_halt_lacking live shape locks reopening lost hold logs frames leaves logged busy clean place_is left page survives = record {
      held = e.held;
      dirty = dirty;
      history = h';
      up = live;
      known = (let work = work_at me.shape me.shared.pool owners me.nodes n c seats place up is in subst (λ k. k ≤ me.shape.nodes) work.number work.store.node.1);
      shape = shape ∙ e.nodes.shape;
      others = λ k k_is low far. (
        subst (λ o. ShowsNode me.shape pool k o b' p' (with_held e.held m')) (sym (others k k_is far))
            (node_left me.shape me.shared.pool pool k b b' p p' (with_held e.held m) (with_held e.held m') is.shared.shape (logs k k_is low far) (node_at me.nodes k) (λ d those at. regions_at me.shape me.shared.pool owners me.nodes is k d those k_is at) (frames k k_is far) (leaves k k_is far) (e.nodes.node k k_is low)),
        subst (λ o. TiesNode me.shape k o b' h') (sym (others k k_is far)) (tie_left me.shape k (node_at me.nodes k) b b' e.history h' (logs k k_is low far) (logged k far) (e.tied.node k k_is low)),
      );
      hold = λ x within. hold x ∙ e.nodes.hold x within;
      locks = locks ∙ e.locks;
      reopening = reopening ∙ e.reopening;
      lockers = busy;
      clean = clean;
      lost = lost;
      cut = cut;
      place = place_is;
      left = left;
      page = page;
      survives = survives;
    }

    -- so it is where the disk stays,
    pub may_halt_with : m'.mode n ≡ machine.Up → m'.shape ≡ m.shape → m'.locks ≡ m.locks → m'.reopening ≡ m.reopening → m'.gone ≡ m.gone → ((x : ℕ) → m'.hold x ≡ m.hold x) → h'.devices.disk ≡ e.history.devices.disk
        → ((k : ℕ) → IsPlace k → k ≤ me.shape.nodes → k ≢ n → LeavesRegion (region_of me.shape k) b b') → KeepsFramesBut n me.nodes me.shared.pool pool → ((k : ℕ) → IsPlace k → k ≢ n → LeavesNode me.shape k (node_at me.nodes k) p p' (with_held e.held m) (with_held e.held m')) → ((k : ℕ) → k ≢ n → LeavesLog k e.history h')
        → AreBusyBut n m' → AreClean me.shape owners (with_node nodes' n Down) dirty m' → IsPlaceToCut h' n cut → TiesStill me.shape n b' (stopped h' n cut) → ((x : PageNo) → x.0 < page_count me.shape → TiesPage me.shape b' h' x) → SurvivesAs e.held dirty h' p' m'
        → MayHaltAs n (record { shape = me.shape; shared = record { pool = pool; owners = owners; locks = me.shared.locks; reopening = me.shared.reopening }; nodes = nodes' }) b' p' m'
    may_halt_with live shape locks reopening gone hold disk = may_halt_lacking live shape locks reopening (λ x within none. ap (λ f. f x) gone ∙ e.lost x within (sym (ap (λ f. f x) disk) ∙ none)) hold

    -- and each transaction that has a lock is open, also of the node
    pub may_halt : m'.mode n ≡ machine.Up → m'.shape ≡ m.shape → m'.locks ≡ m.locks → m'.reopening ≡ m.reopening → m'.gone ≡ m.gone → ((x : ℕ) → m'.hold x ≡ m.hold x) → h'.devices.disk ≡ e.history.devices.disk
        → ((k : ℕ) → IsPlace k → k ≤ me.shape.nodes → k ≢ n → LeavesRegion (region_of me.shape k) b b') → KeepsFramesBut n me.nodes me.shared.pool pool → ((k : ℕ) → IsPlace k → k ≢ n → LeavesNode me.shape k (node_at me.nodes k) p p' (with_held e.held m) (with_held e.held m')) → ((k : ℕ) → k ≢ n → LeavesLog k e.history h')
        → AreBusy m' → AreClean me.shape owners (with_node nodes' n Down) dirty m' → IsPlaceToCut h' n cut → TiesStill me.shape n b' (stopped h' n cut) → ((x : PageNo) → x.0 < page_count me.shape → TiesPage me.shape b' h' x) → SurvivesAs e.held dirty h' p' m'
        → MayHaltAs n (record { shape = me.shape; shared = record { pool = pool; owners = owners; locks = me.shared.locks; reopening = me.shared.reopening }; nodes = nodes' }) b' p' m'
    may_halt live shape locks reopening gone hold disk logs frames leaves logged busy = may_halt_with live shape locks reopening gone hold disk logs frames leaves logged (λ key t how has up far. busy key t how has up)
