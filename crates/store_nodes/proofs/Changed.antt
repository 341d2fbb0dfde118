-- What a call of one node leaves of a store that changed a page which the node has cached, and logged a record of it.
use Rattle.std.specs.Prelude.{◌≡◌, ◌≢◌, ◌-◌, ◌/◌, ◌<◌, ℕ, zero, suc, Bool, true, false, IsTrue, List, [], ◌∷◌, Option, Some, None, All, is_some, length, map, refl, slice_index_or, slice_set}
use Rattle.std.proofs.Common.{arith, ap, subst, sym, ◌∙◌, get_or-set_other, length-set}
use Rattle.std.proofs.lemmas.Bool.{eq-eqb}
use Rattle.sd_base.specs.Disk.{BlockState}
use Rattle.sd_base.specs.declared.device.NodeId.{NodeId}
use Rattle.sd_base.specs.declared.names.PageNo.{PageNo}
use Rattle.sd_base.proofs.Positions.{find_all}
use Rattle.frame_pool.specs.Frames.{IsOut, frame_at}
use Rattle.page_owner.specs.declared.owners.Own.TheVariants.{Out}
use Rattle.private_log.specs.Frames.{KeepsContents}
use Rattle.private_log.specs.Log.{SameLog, next_place}
use Rattle.state_ids.specs.Blocks.{page_place}
use Rattle.state_ids.specs.Held.{KeepsFrames}
use Rattle.node_cache.specs.Cache.{AreShown, CachedPage, CacheState, IsCache, IsTiedToLog, SamePages, changed_by, is_cached, is_page, page_at, with_page, written_back}
use Rattle.node_cache.proofs.ChangedPages.{free_kept, out_of_shown, owned_same, store_same}
use Rattle.node_cache.proofs.DiskTie.{not_in_ring}
use Rattle.node_cache.proofs.SamePages.{all_same, cached_same, same_length, with_same}
use Rattle.txn_core.specs.Seats.{AreTied, SeatsState}
use Rattle.store_nodes.specs.declared.node.Node.{Node}
use Rattle.store_nodes.specs.declared.node.Node.TheVariants.{Idle, Up, Down}
use Rattle.store_nodes.specs.declared.store.Shared.{Shared}
use Rattle.store_nodes.specs.declared.store.Store.{Store}
use Rattle.store_nodes.specs.Footprint.{KeepsCache}
use Rattle.store_nodes.specs.Nodes.{AreApart, IsAtWork, IsNode, IsPlace, IsStore, IsStoreOf, KeepsFramesBut, OnUp, count_of, node_at, pages_of}
use Rattle.store_nodes.proofs.Eight.{apart_with, at_same, cached_with, each_with}
use Rattle.store_nodes.proofs.Logs as logs
use Rattle.store_nodes.proofs.Others.{node_stays}

-- a page of a list is found by its number
pub found_by : (x : PageNo) (ps : List CachedPage) (j : ℕ) (d : CachedPage) → j < length ps → (slice_index_or ps j d).ticket.page ≡ x → is_some (page_at x ps) ≡ true
found_by x [] j d below here = absurd (omega (arith, below))
found_by x (p ∷ ps) zero d below here = let yes : is_page x p ≡ true = eq-eqb p.ticket.page.0 x.0 (ap (λ (y : PageNo). y.0) here) in rw yes refl
found_by x (p ∷ ps) (suc j) d below here = by (is_page x p) refl (found_by x ps j d (omega (arith, below)) here)
  where
    by : (b : Bool) → is_page x p ≡ b → is_some (page_at x ps) ≡ true → is_some (page_at x (p ∷ ps)) ≡ true
    by true is rest = rw is refl
    by false is rest = rw is rest

module _ (me : Store) (new : List (Option (List ℕ))) (n i : ℕ) (c d : CacheState) (seats after : SeatsState) (x : PageNo) (number : ℕ) (page : CachedPage) (is : IsStore me) (place_is : IsPlace n) (at : i ≡ n - 1) (up : node_at me.nodes n ≡ Up c seats) (found : page_at x c.pages ≡ Some page) where
  work : IsAtWork me.shape me.shared.pool me.shared.owners n c seats
  work = logs.work me n i c d seats after is place_is at up

  -- ---- the other nodes

  -- none has the page
  pub page_alone : (k : ℕ) → IsPlace k → k ≢ n → All (λ r. r.ticket.page ≢ x) (pages_of (node_at me.nodes k))
  page_alone k k_is far = by (node_at me.nodes k) (is.is k k_is)
    where
      by : (o : Node) → IsNode me.shape me.shared.pool me.shared.owners k o → All (λ r. r.ticket.page ≢ x) (pages_of o)
      by Idle rest = λ j e below. absurd (omega (arith, below))
      by (Up e later) other = λ j f below here.
          let theirs = (other.owned x).1 (found_by x e.pages j f below here) in
          let mine = (work.owned x).1 (ap is_some found) in
          let both : Out e.node ≡ Out c.node = sym theirs ∙ mine in
          let same : e.node ≡ c.node = cc in
          far (sym other.number ∙ ap (λ (m : NodeId). m.0) same ∙ work.number)
      by Down stopped = λ j e below. absurd (omega (arith, below))

  -- nor its frame
  pub frames_changed : KeepsFrames page.frame me.shared.pool new → KeepsFramesBut n me.nodes me.shared.pool new
  frames_changed keeps k k_is far j e below =
      let apart = find_all (λ r. All (λ q. r.frame ≢ q.frame) (pages_of (node_at me.nodes k))) (is_page x) c.pages page found (subst (λ ps. AreApart ps (pages_of (node_at me.nodes k))) (ap pages_of up) (is.shared.apart n k place_is k_is (λ same. far (sym same)))) in
      let q : CachedPage = slice_index_or (pages_of (node_at me.nodes k)) j e in
      ap (λ f. frame_at f q.frame) keeps ∙ get_or-set_other me.shared.pool page.frame q.frame (frame_at new page.frame) None (λ same. apart j e below (sym same))

  -- ---- the store after it

  module _ (node : d.node ≡ c.node) (pages : d.pages ≡ with_page x (changed_by number) c.pages) where
    same_pages : SamePages c.pages d.pages
    same_pages = ap (map written_back) pages ∙ with_same x (changed_by number) (λ q. refl) c.pages

    pub store_changed : KeepsFrames page.frame me.shared.pool new → AreShown me.shape new d → SameLog c.log d.log → IsTiedToLog d → AreTied after d → length after.seats ≡ length seats.seats → IsCache d.node d.pages → IsStoreOf me.shape new me.shared.owners (slice_set me.nodes i (Up d after))
    store_changed keeps shown log log_tie tie count cache = logs.there me n i c d seats after is place_is at up (IsStoreOf me.shape new me.shared.owners)
        (let all = is.shared in
        let still : All (λ q. IsOut new q.frame) c.pages = all_same (λ q. IsOut new q.frame) d.pages c.pages (sym same_pages) (out_of_shown me.shape new d shown) in
        let free = free_kept page.frame me.shared.pool new keeps (find_all (λ q. IsOut me.shared.pool q.frame) (is_page x) c.pages page found (out_of_shown me.shape me.shared.pool c work.shown)) (find_all (λ q. IsOut new q.frame) (is_page x) c.pages page found still) in
        let sum = cached_with me.nodes n (Up d after) all.eight place_is in
        let before : count_of (node_at me.nodes n) ≡ length c.pages = ap count_of up in
        let long = same_length c.pages d.pages same_pages in
        record {
          shared = record {
            shape = all.shape;
            table = all.table;
            eight = length-set me.nodes (n - 1) (Up d after) ∙ all.eight;
            frames = (let old = all.frames in omega (arith, old, free, sum, before, long));
            apart = apart_with me.nodes n (Up d after) all.eight place_is
                (λ m other far. all_same (λ p. All (λ q. p.frame ≢ q.frame) (pages_of (node_at me.nodes m))) c.pages d.pages same_pages (subst (λ ps. AreApart ps (pages_of (node_at me.nodes m))) (ap pages_of up) (all.apart n m place_is other (λ e. far (sym e))))) all.apart;
            holders = all.holders;
          };
          is = each_with me.nodes n (Up d after) all.eight place_is (IsNode me.shape new me.shared.owners) (record {
            number = ap (λ (k : NodeId). k.0) node ∙ work.number;
            cache = cache;
            store = store_same me.shape c d node log same_pages work.store;
            shown = shown;
            owned = owned_same me.shared.owners c d node same_pages work.owned;
            log_tie = log_tie;
            tie = tie;
            eight = count ∙ work.eight;
          }) (λ m other far. node_stays me.shape me.shared.pool new me.shared.owners me.shared.owners m (node_at me.nodes m) (frames_changed keeps m other far) (λ y own held. (λ e. e, λ e. e)) (is.is m other));
        })

    -- the pages that are cached, and the blocks of pages
    pub pages_kept : (shared : Shared) (a b : ℕ → BlockState) → KeepsContents (next_place c.log) a b → KeepsCache n me (record { shape = me.shape; shared = shared; nodes = slice_set me.nodes i (Up d after) }) a b
    pages_kept shared a b keeps =
        let now : node_at (slice_set me.nodes i (Up d after)) n ≡ Up d after = logs.there me n i c d seats after is place_is at up (λ os. node_at os n ≡ Up d after) (at_same me.nodes n (Up d after) is.shared.eight place_is) in
        record {
          cached = λ y has. subst (λ o. OnUp o (λ e seats. IsTrue (is_cached y e))) (sym up) (sym (cached_same y c.pages d.pages same_pages) ∙ subst (λ o. OnUp o (λ e seats. IsTrue (is_cached y e))) now has);
          still = λ y has. subst (λ o. OnUp o (λ e seats. IsTrue (is_cached y e))) (sym now) (cached_same y c.pages d.pages same_pages ∙ subst (λ o. OnUp o (λ e seats. IsTrue (is_cached y e))) up has);
          full = λ full. subst (λ o. OnUp o (λ e seats. length e.pages ≡ 16)) (sym now) (same_length c.pages d.pages same_pages ∙ subst (λ o. OnUp o (λ e seats. length e.pages ≡ 16)) up full);
          pages = λ y low. keeps (page_place me.shape y) (not_in_ring me.shape c work.store work.log_tie (c.log.tail / 6) y);
        }
