-- A store endures that a node fetches a page that no other one has.
use Rattle.std.specs.Prelude.{◌≡◌, ◌≢◌, ◌⊎◌, ◌==◌, ◌-◌, ◌<◌, ◌≤◌, ◌∷◌, [], ℕ, true, false, All, List, Option, Some, None, IfSome, MatchOption, count_by, drop, if◌then◌else◌, is_some, refl, slice_set}
use Rattle.std.proofs.Common.{arith, inl, inr, ap, subst, sym, ◌∙◌}
use Rattle.sd_base.specs.Disk.{BlockState, IsLawful}
use Rattle.sd_base.specs.Places.{map_of_data, page_of_place}
use Rattle.sd_base.specs.Shape.{page_count, pages_per_map}
use Rattle.sd_base.specs.declared.device.NodeId.{NodeId}
use Rattle.sd_base.specs.declared.names.PageNo.{PageNo}
use Rattle.sd_base.specs.declared.shape.Shape.{Shape}
use Rattle.sd_base.proofs.PlaceLaws.{data_of_place, map_of_its_place}
use Rattle.page_owner.specs.declared.owners.Own.{Own}
use Rattle.page_owner.specs.declared.owners.Own.TheVariants.{Out, Parked}
use Rattle.page_owner.specs.Owners.{owner_of}
use Rattle.private_log.specs.Content.{region_of}
use Rattle.private_log.specs.Log.{IsLogOn, SameLog}
use Rattle.space_map.specs.declared.map_entry.MapEntry.{MapEntry}
use Rattle.space_map.specs.PageImage.{PageImage, in_life}
use Rattle.state_ids.specs.Blocks.{HoldsPage, page_place}
use Rattle.state_ids.specs.Held.{Shows}
use Rattle.node_cache.specs.Cache.{CachedPage, CacheState, has_changes, is_cached, is_changed, page_at}
use Rattle.node_cache.specs.Room.{Arrived, IsEntryOf, IsOpenTo, Missed, freed, leaving, parked, staying}
use Rattle.node_cache.specs.Writes.{HoldsPages, KeepsForeignButPages, NarrowsButPages}
use Rattle.node_cache.proofs.ChangedPages.{out_of_shown}
use Rattle.node_cache.proofs.Fetched.{changed_after, changed_missed}
use Rattle.node_cache.proofs.Leaving.{all_left}
use Rattle.txn_core.specs.Seats.{SeatsState}
use Rattle.recovery_theory.specs.History.{History}
use Rattle.recovery_theory.specs.Steps.{passed}
use Rattle.record_machine.specs.Machine.{LooseChange, Machine, put}
use Rattle.record_machine.specs.Meaning.{Plain}
use Rattle.record_machine.specs.Parts.{Take, loose_after_take, one}
use Rattle.record_machine.specs.Stops.{any_up, changes_back, down, stop, with_tables}
use Rattle.record_machine.proofs.LockSteps.{means_taken}
use Rattle.record_machine.proofs.LostTables.{taken_still}
use Rattle.record_machine.proofs.RestSteps.{means_rest}
use Rattle.record_machine.proofs.SameHolds.{again_loose, survives_as_same, taken_again}
use Rattle.store_nodes.specs.declared.node.Node.{Node}
use Rattle.store_nodes.specs.declared.node.Node.TheVariants.{Up}
use Rattle.store_nodes.specs.declared.store.Store.{Store}
use Rattle.store_nodes.specs.Endures.{EnduresAs, with_held}
use Rattle.store_nodes.specs.Nodes.{IsAtWork, IsHeldBy, IsPlace, IsStore, KeepsFramesBut, node_at, with_node}
use Rattle.store_nodes.specs.Ports.{IsQuiet}
use Rattle.store_nodes.specs.Shows.{IsOnDisk, ShowsNode, ShowsUp, holder, image_in}
use Rattle.store_nodes.specs.Tied.{IsTied}
use Rattle.store_nodes.proofs.EnduresShown.{stored_kept}
use Rattle.store_nodes.proofs.Holders.{clean_later, put_at, settled_earlier}
use Rattle.store_nodes.proofs.OtherLogs.{LeavesRegion, region_same}
use Rattle.store_nodes.proofs.Others.{KeepsHeldBy}
use Rattle.store_nodes.proofs.ShownWith.{nodes_with}
use Rattle.store_nodes.proofs.Ties.{tie_left}
use Rattle.store_nodes.proofs.Works.{work_at}
use Rattle.store_pages.proofs.PagedEndures.{HasWritten, all_of, has_written}
use Rattle.store_pages.proofs.ShownFetch.{up_fetched, up_missed, up_taken}
use Rattle.store_pages.proofs.ShownTaken.{holder_fetched, node_held, settled_open}
use Rattle.store_pages.proofs.Takes.{all_out, owner_fetched}

-- ---- the same pages are held, and the same changes are loose

pub endures_same : (c : Store) (b : ℕ → BlockState) (p : Plain) (m : Machine) (hold : ℕ → Option ℕ) (loose : ℕ → List LooseChange) → ((y : ℕ) → hold y ≡ m.hold y) → ((j : ℕ) → loose j ≡ m.loose j) → EnduresAs c b p m → EnduresAs c b p (record m { hold = hold; loose = loose })
endures_same c b p m hold loose holds looses e = record {
  held = e.held;
  dirty = e.dirty;
  history = e.history;
  nodes = record {
    means = means_rest p (with_held e.held m) m.mode m.reopening hold m.first loose m.gone e.nodes.means;
    shape = e.nodes.shape;
    node = λ k k_is low. node_held c.shape c.shared.pool k (node_at c.nodes k) b p (with_held e.held m) hold loose (e.nodes.node k k_is low);
    hold = λ y inside. holds y ∙ e.nodes.hold y inside;
  };
  locks = e.locks;
  reopening = e.reopening;
  lockers = e.lockers;
  clean = e.clean;
  lost = e.lost;
  tied = e.tied;
  survives = survives_as_same e.held e.dirty e.history p m hold loose holds looses e.survives;
}

-- as where the node takes a page again that it has,
pub endures_again : (c : Store) (b : ℕ → BlockState) (p : Plain) (m : Machine) (x n : ℕ) → x < page_count c.shape → holder (owner_of c.shared.owners x) ≡ Some n → EnduresAs c b p m → EnduresAs c b p (one (Take x n) m)
endures_again c b p m x n within holds e =
    let has : m.hold x ≡ Some n = e.nodes.hold x within ∙ holds in
    endures_same c b p m (put x (Some n) m.hold) (loose_after_take x n m) (λ y. taken_again m x n y has) (λ j. again_loose m x n j has) e

-- also where node n stops
pub endures_stop_same : (c : Store) (b : ℕ → BlockState) (p : Plain) (m : Machine) (hold : ℕ → Option ℕ) (loose : ℕ → List LooseChange) (n kept : ℕ) → ((y : ℕ) → hold y ≡ m.hold y) → ((j : ℕ) → loose j ≡ m.loose j) → EnduresAs c b p (stop n kept m) → EnduresAs c b p (stop n kept (record m { hold = hold; loose = loose }))
endures_stop_same c b p m hold loose n kept holds looses e = subst (λ l. EnduresAs c b p (with_tables (down n (changes_back n (drop kept l) (record m { hold = hold; loose = loose }))))) (sym (looses n))
    (endures_same c b p (stop n kept m) (λ y. if any_up (down n m) then hold y else None) (put n [] loose) (λ y. ap (λ o. if any_up (down n m) then o else None) (holds y)) (λ j. ap (λ l. if j == n then [] else l) (looses j)) e)

-- ---- a page that passes

-- nodes and disk have the logs and pages of the history still
pub tied_passed : (s : Shape) (nodes : List Node) (b : ℕ → BlockState) (h : History) (x n : ℕ) → IsTied s nodes b h → IsTied s nodes b (passed h x n)
tied_passed s nodes b h x n was = record {
  node = λ k k_is low. tie_left s k (node_at nodes k) b b h (passed h x n) (region_same (region_of s k) b) (record { live = refl; stable = refl; first = refl }) (was.node k k_is low);
  page = was.page;
}

module _ (me : Store) (n : NodeId) (x : PageNo) (e : Option MapEntry) (c : CacheState) (seats : SeatsState) (b : ℕ → BlockState) (p : Plain) (m : Machine) (w : EnduresAs me b p m)
    (is : IsStore me) (place : IsPlace n.0) (up : node_at me.nodes n.0 ≡ Up c seats) (within : x.0 < page_count me.shape) (free : IsOpenTo n (owner_of me.shared.owners x.0)) (missing : is_cached x c ≡ false) (entry : IsEntryOf me.shape me.shared.pool c x e) where
  abbrev s : Shape
  s = me.shape

  abbrev m1 : Machine
  m1 = with_held w.held m

  work : IsAtWork s me.shared.pool me.shared.owners n.0 c seats
  work = work_at s me.shared.pool me.shared.owners me.nodes n.0 c seats place up is

  name : c.node ≡ n
  name = ap (λ k. record { 0 = k }) work.number

  low : n.0 ≤ s.nodes
  low = (let last = work.store.node.1 in let number = work.number in omega (arith, last, number))

  mine : ShowsNode s me.shared.pool n.0 (Up c seats) b p m1
  mine = subst (λ o. ShowsNode s me.shared.pool n.0 o b p m1) up (w.nodes.node n.0 place low)

  -- the disk has it
  pub clean_here : m.reopening ≡ false → w.dirty x.0 ≡ false
  clean_here unlost = w.clean unlost x within (settled_open me n x c seats is place up free missing)

  -- and the node has its map page
  pub map_held : (map at : ℕ) → map < m.shape.maps → at < pages_per_map → x.0 ≡ page_of_place m.shape map at → m.hold map ≡ Some n.0
  map_held map at near small place_is =
      let known : map < s.maps = subst (λ (z : Shape). map < z.maps) w.nodes.shape near in
      let here : x.0 ≡ page_of_place s map at = place_is ∙ ap (λ z. page_of_place z map at) w.nodes.shape in
      let far : s.maps ≤ x.0 = (let high = (data_of_place s map at known small).0 in omega (arith, high, here)) in
      let same : map_of_data s x ≡ record { 0 = map } = map_of_its_place s x (record { 0 = map }) at small here in
      let cached : is_cached (map_of_data s x) c ≡ true = ap is_some (entry.some far).2 in
      let out : owner_of me.shared.owners map ≡ Out c.node = subst (λ (y : PageNo). owner_of me.shared.owners y.0 ≡ Out c.node) same ((work.owned (map_of_data s x)).1 cached) in
      w.nodes.hold map (omega (arith, known)) ∙ ap holder out ∙ ap (λ (k : NodeId). Some k.0) name

  -- the page that makes room for it is written, if it has changes
  pub room_written : (d : CacheState) (b' : ℕ → BlockState) → NarrowsButPages s c.log me.shared.pool (leaving s x c.pages) b b' → KeepsForeignButPages s c.log (leaving s x c.pages) c.node.0 b b' → IsQuiet me b → SameLog c.log d.log → c.log.stable ≤ d.log.stable
      → (1 ≤ count_by has_changes (leaving s x c.pages) → d.log.stable ≡ c.log.tail) → HoldsPages s me.shared.pool (leaving s x c.pages) b' → HasWritten s (with_node me.nodes n.0 (Up d seats)) w.held w.history w.dirty b' p m (leaving s x c.pages)
  room_written d b' narrows foreign quiet same rises stable holds =
      has_written me n.0 (n.0 - 1) c d seats is place refl up (leaving s x c.pages) b b' p m w (all_left (λ q. is_cached q.ticket.page c ≡ true) s x c.pages (all_of c))
      (all_left (λ q. Shows me.shared.pool q.frame (image_in s p q.ticket.page)) s x c.pages mine.1.cached) (all_left (λ q. q.ticket.page.0 < page_count s) s x c.pages work.store.pages) narrows foreign quiet same rises stable holds

  module _ (d : CacheState) (new : List (Option (List ℕ))) (owners' : List Own) (b' : ℕ → BlockState) (unlost : m.reopening ≡ false) (written : HasWritten s (with_node me.nodes n.0 (Up d seats)) w.held w.history w.dirty b' p m (leaving s x c.pages))
      (logs : (k : ℕ) → IsPlace k → k ≤ s.nodes → k ≢ n.0 → LeavesRegion (region_of s k) b b') (frames : KeepsFramesBut n.0 me.nodes me.shared.pool new) where
    abbrev S : Store
    S = record { shape = s; shared = record { pool = new; owners = owners'; locks = me.shared.locks; reopening = me.shared.reopening }; nodes = with_node me.nodes n.0 (Up d seats) }

    -- the node has the page, and the disk has the page that made room for it
    endures_with : (owns : Own) → IsHeldBy n owns → owners' ≡ parked (leaving s x c.pages) (slice_set me.shared.owners x.0 owns)
        → ((y : PageNo) → is_changed y d ≡ false → (is_changed y c ≡ false) ⊎ ((q : CachedPage) × (leaving s x c.pages ≡ q ∷ []) × (q.ticket.page ≡ y) × (q.changes ≢ None))) → ShowsUp s new n.0 d seats b' p m1 → EnduresAs S b' p (one (Take x.0 n.0) m)
    endures_with owns held own changed shows = record {
      held = w.held;
      dirty = written.now;
      history = passed written.history x.0 n.0;
      nodes = nodes_with s me.shared.pool new me.shared.owners owners' me.nodes n.0 d seats b b' p p m1 (one (Take x.0 n.0) m1) is place w.nodes logs frames
          (λ k k_is far. record { live = refl; mode = refl; start = refl; pending = refl; images = λ j a below. refl; lives = λ j a below. refl })
          (means_taken p m1 x.0 n.0 w.nodes.means) w.nodes.shape mine.0 (up_taken s new n.0 d seats b' p m1 x.0 n.0 shows)
          (λ y inside. put_at x.0 (Some n.0) m.hold (λ k. holder (owner_of me.shared.owners k)) y (w.nodes.hold y inside) ∙ sym (holder_fetched me n x c seats owners' owns is place up within here own y));
      locks = w.locks;
      reopening = w.reopening;
      lockers = w.lockers;
      clean = λ whole y inside settled. elim (changed y (clean_later me.nodes me.shared.owners owners' n.0 c d seats seats is.shared.eight place up keeps y settled)) [
        | inl was ↦ written.clean y.0 (w.clean unlost y inside (settled_earlier me.nodes me.shared.owners owners' n.0 c d seats seats is.shared.eight place up keeps y (is.shared.holders y.0) was settled))
        | inr gone ↦
            let at : written.now gone.0.ticket.page.0 ≡ false = first gone.0 (subst (All (λ q. q.changes ≢ None → written.now q.ticket.page.0 ≡ false)) gone.1 written.written) gone.3 in
            subst (λ (z : PageNo). written.now z.0 ≡ false) gone.2 at
      ];
      lost = λ y inside none. w.lost y inside (written.lost y none);
      tied = tied_passed s (with_node me.nodes n.0 (Up d seats)) b' written.history x.0 n.0 written.tied;
      survives = taken_still w.held written.now written.history p m x.0 n.0 written.survives (written.clean x.0 (clean_here unlost)) map_held;
    }
      where
        here : holder owns ≡ Some n.0
        here = elim held [ inl is_parked ↦ ap holder is_parked | inr out ↦ ap holder out ]

        keeps : (k : ℕ) → k ≢ n.0 → KeepsHeldBy k me.shared.owners owners'
        keeps k far = subst (KeepsHeldBy k me.shared.owners) (sym own) (owner_fetched k n x me.shared.owners owns (leaving s x c.pages) far held free
            (all_left (λ q. q.ticket.node ≡ n) s x c.pages (λ j f below. work.cache.own j f below ∙ name)) (all_left (λ q. owner_of me.shared.owners q.ticket.page.0 ≡ Out n) s x c.pages (all_out me.shared.owners n c name work.cache work.owned)))

        first : (q : CachedPage) → All (λ r. r.changes ≢ None → written.now r.ticket.page.0 ≡ false) (q ∷ []) → q.changes ≢ None → written.now q.ticket.page.0 ≡ false
        first q all = all 0 q (omega arith)

    -- where its block holds an image of it, it came in
    pub endures_arrived : ((k : ℕ) → IsLawful b k) → d.node ≡ c.node → SameLog c.log d.log → Arrived s x e (staying s x c.pages) (freed (leaving s x c.pages) me.shared.pool) d new → (image : PageImage) × HoldsPage s x image (b (page_place s x)).current
        → ((image : PageImage) → HoldsPage s x image (b (page_place s x)).current → IfSome (page_at x d.pages) (λ q. Shows new q.frame (in_life e image))) → ((xs : List (List ℕ)) → IsLogOn c.log b xs → IsLogOn d.log b' xs)
        → owners' ≡ parked (leaving s x c.pages) (slice_set me.shared.owners x.0 (Out c.node)) → EnduresAs S b' p (one (Take x.0 n.0) m)
    endures_arrived law node same came found image log own =
        let has : w.history.devices.disk x.0 ≡ None → ⊥ = λ none. (
        let tie = subst (λ o. MatchOption o ((b (page_place s x)).current ≡ None) (λ i. HoldsPage s x i (b (page_place s x)).current)) none (w.tied.page x within (b (page_place s x)).current (law (page_place s x)).current) in
        let never : Some found.1.0 ≡ None = sym found.1.1 ∙ tie in cc) in
        let there : IsOnDisk s b p x = stored_kept me b p m w x within (clean_here unlost) has in
        endures_with (Out c.node) (inr (ap Out name)) own (λ y not. changed_after s x y e c d (freed (leaving s x c.pages) me.shared.pool) new work.cache came not)
        (up_fetched s me.shared.pool new n.0 x e c d seats b b' p m1 work.cache work.store work.log_tie (out_of_shown s me.shared.pool c work.shown) law within there missing entry node same came image log mine.1)

    -- where it is lost or damaged, the page is parked
    pub endures_missed : d.node ≡ c.node → SameLog c.log d.log → Missed x (leaving s x c.pages) (staying s x c.pages) me.shared.pool me.shared.owners d new owners' → ((xs : List (List ℕ)) → IsLogOn c.log b xs → IsLogOn d.log b' xs) → EnduresAs S b' p (one (Take x.0 n.0) m)
    endures_missed node same missed log =
        endures_with (Parked d.node) (inl (ap Parked (node ∙ name))) missed.parks (λ y not. changed_missed s x y c d work.cache missed.pages not)
        (up_missed s me.shared.pool new n.0 x c d seats b b' p m1 work.cache same missed.pages missed.pool log mine.1)
