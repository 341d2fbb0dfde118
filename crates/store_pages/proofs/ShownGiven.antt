-- What a store shows after a node has given up a page.
use Rattle.std.specs.Prelude.{◌≡◌, ◌≢◌, ◌*◌, ◌<◌, [], ℕ, Bool, true, false, List, Option, Some, None, All, AllPairs, is_some, option_and_then, option_map, map, length, slice_index_or, slice_set, refl}
use Rattle.std.specs.List.{cons_option, remove}
use Rattle.std.proofs.Common.{arith, inl, inr, ap, subst, subst₂, sym, ◌∙◌, get_or-set_other}
use Rattle.std.proofs.lemmas.Bool.{cases_eq}
use Rattle.sd_base.specs.Disk.{BlockState}
use Rattle.sd_base.specs.Shape.{page_count}
use Rattle.sd_base.specs.declared.device.NodeId.{NodeId}
use Rattle.sd_base.specs.declared.names.PageNo.{PageNo}
use Rattle.sd_base.specs.declared.shape.Shape.{Shape}
use Rattle.sd_base.proofs.Positions.{find_all, not_placed}
use Rattle.frame_pool.specs.Frames.{frame_at}
use Rattle.space_map.specs.Entry.{ident_of}
use Rattle.page_owner.specs.declared.owners.Own.{Own}
use Rattle.page_owner.specs.declared.owners.Own.TheVariants.{Nobody}
use Rattle.page_owner.specs.Owners.{owner_of}
use Rattle.private_log.specs.Log.{IsLogOn, SameLog}
use Rattle.state_ids.specs.Held.{Shows}
use Rattle.node_cache.specs.Cache.{CachedPage, CacheState, IsCache, IsOfStore, IsTiedToLog, first_change, is_changed, is_page, page_at, place_of}
use Rattle.node_cache.specs.Room.{freed, without_page}
use Rattle.node_cache.specs.Writes.{HoldsPages, NarrowsButPages}
use Rattle.node_cache.proofs.Fetched.{has_more}
use Rattle.node_cache.proofs.Finding.{got}
use Rattle.node_cache.proofs.Giving.{page_placed}
use Rattle.node_cache.proofs.OnePage.{found, is_page-same}
use Rattle.node_cache.proofs.Without.{all_without, other_found, others_apart, shows_same}
use Rattle.txn_core.specs.Seats.{SeatsState, txn_in}
use Rattle.txn_core.specs.Told.{AreTold}
use Rattle.record_machine.specs.Machine.{Machine}
use Rattle.record_machine.specs.Meaning.{Plain}
use Rattle.record_machine.specs.Parts.{Drop, one}
use Rattle.store_nodes.specs.declared.node.Node.{Node}
use Rattle.store_nodes.specs.declared.node.Node.TheVariants.{Up}
use Rattle.store_nodes.specs.Nodes.{IsHeldBy, IsPlace, node_at, with_node}
use Rattle.store_nodes.specs.Shows.{IsOnDisk, IsSettled, ShowsUp, deeds_in, entry_in, image_in, numbers_of}
use Rattle.store_nodes.proofs.Holders.{clean_later, settled_earlier}
use Rattle.store_nodes.proofs.Living.{AreLiving}
use Rattle.store_pages.proofs.PageCalls.{all_found}
use Rattle.store_pages.proofs.Shares.{owner_given}
use Rattle.store_pages.proofs.Stored.{still_stored, written_stored}

-- ---- the pages that stay

frames_stay : (x : PageNo) (pages : List CachedPage) (pool : List (Option (List ℕ))) → AllPairs (λ p q. p.frame ≢ q.frame) pages → All (λ q. frame_at (freed (cons_option (page_at x pages) []) pool) q.frame ≡ frame_at pool q.frame) (without_page x pages)
frames_stay x pages pool apart = by (place_of x pages) refl
  where
    by : (o : Option ℕ) → place_of x pages ≡ o → All (λ q. frame_at (freed (cons_option (page_at x pages) []) pool) q.frame ≡ frame_at pool q.frame) (without_page x pages)
    by None none = subst (λ o. All (λ q. frame_at (freed (cons_option o []) pool) q.frame ≡ frame_at pool q.frame) (without_page x pages)) (sym (not_placed (is_page x) pages none)) (λ k d low. refl)
    by (Some i) place =
        let at = page_placed x pages i place in
        let rest : without_page x pages ≡ remove pages i = rw place refl in
        subst₂ (λ o ps. All (λ q. frame_at (freed (cons_option o []) pool) q.frame ≡ frame_at pool q.frame) ps) (sym at.there) (sym rest)
        (λ k d low. get_or-set_other pool at.page.frame (slice_index_or (remove pages i) k d).frame None None (others_apart (λ q. q.frame) pages i at.page apart at.at k d low))

all_staying : (P : CachedPage → Type 0) (x : PageNo) (pages : List CachedPage) → All P pages → All P (without_page x pages)
all_staying P x pages all = by (place_of x pages) refl
  where
    by : (o : Option ℕ) → place_of x pages ≡ o → All P (without_page x pages)
    by None none = let whole : without_page x pages ≡ pages = rw none refl in subst (All P) (sym whole) all
    by (Some i) place = let rest : without_page x pages ≡ remove pages i = rw place refl in subst (All P) (sym rest) (all_without P pages i (got pages i _ (page_placed x pages i place).at).0 all)

-- another page is found as before
other_without : (x y : PageNo) (pages : List CachedPage) → x ≢ y → page_at y (without_page x pages) ≡ page_at y pages
other_without x y pages far = by (place_of x pages) refl
  where
    by : (o : Option ℕ) → place_of x pages ≡ o → page_at y (without_page x pages) ≡ page_at y pages
    by None none = let whole : without_page x pages ≡ pages = rw none refl in ap (page_at y) whole
    by (Some i) place =
        let at = page_placed x pages i place in
        let rest : without_page x pages ≡ remove pages i = rw place refl in
        ap (page_at y) rest ∙ other_found pages i at.page y at.at (λ same. far (sym at.is ∙ same))

-- ---- the node

pub up_given : (s : Shape) (pool new : List (Option (List ℕ))) (n : ℕ) (x : PageNo) (c d : CacheState) (seats : SeatsState) (b b' : ℕ → BlockState) (p : Plain) (m : Machine) → IsCache c.node c.pages → new ≡ freed (cons_option (page_at x c.pages) []) pool → d.pages ≡ without_page x c.pages → SameLog c.log d.log
    → ((xs : List (List ℕ)) → IsLogOn c.log b xs → IsLogOn d.log b' xs) → ShowsUp s pool n c seats b p m → ShowsUp s new n d seats b' p (one (Drop x.0) m)
up_given s pool new n x c d seats b b' p m is frames pages same log was =
    let start : d.log.start ≡ c.log.start = same.start in
    record {
      records = record { legal = was.records.legal; on = log _ was.records.on };
      told = subst (λ k. AreTold seats k (p.live n)) (sym start) was.told;
      start = was.start ∙ sym start;
      cached = subst (All (λ q. Shows new q.frame (image_in s p q.ticket.page))) (sym pages) (λ k e below.
          shows_same pool new _ _ (subst (λ f. frame_at f (slice_index_or (without_page x c.pages) k e).frame ≡ frame_at pool (slice_index_or (without_page x c.pages) k e).frame) (sym frames) (frames_stay x c.pages pool is.apart k e below))
          (all_staying (λ q. Shows pool q.frame (image_in s p q.ticket.page)) x c.pages was.cached k e below));
      lives = subst (All (λ q. option_map ident_of q.entry ≡ option_map ident_of (entry_in s p q.ticket.page))) (sym pages) (all_staying (λ q. option_map ident_of q.entry ≡ option_map ident_of (entry_in s p q.ticket.page)) x c.pages was.lives);
      deeds = λ seat low. subst (λ k. map (λ e. e.number) (deeds_in seat (m.pending n)) ≡ numbers_of (6 * k) (p.live n) (txn_in seats seat)) (sym start) (was.deeds seat low);
      within = was.within;
    }

-- ---- which pages no node has changed

module _ (nodes : List Node) (owners : List Own) (n : NodeId) (x : PageNo) (c d : CacheState) (seats after : SeatsState) (eight : length nodes ≡ 8) (place : IsPlace n.0) (up : node_at nodes n.0 ≡ Up c seats)
    (held : IsHeldBy n (owner_of owners x.0)) (known : (y : ℕ) (k : NodeId) → IsHeldBy k (owner_of owners y) → IsPlace k.0) (pages : d.pages ≡ without_page x c.pages) where
  -- it was so before, where the node hadn't changed it
  pub settled_given : (y : PageNo) → is_changed y c ≡ false → IsSettled (with_node nodes n.0 (Up d after)) (slice_set owners x.0 Nobody) y → IsSettled nodes owners y
  settled_given y clean now = settled_earlier nodes owners (slice_set owners x.0 Nobody) n.0 c d seats after eight place up (λ m far. owner_given owners x n m far held) y (known y.0) clean now

  -- and it hadn't, but for the page that it gave up
  pub clean_given : (y : PageNo) → y.0 ≢ x.0 → IsSettled (with_node nodes n.0 (Up d after)) (slice_set owners x.0 Nobody) y → is_changed y c ≡ false
  clean_given y far now =
      let later = clean_later nodes owners (slice_set owners x.0 Nobody) n.0 c d seats after eight place up (λ m apart. owner_given owners x n m apart held) y now in
      let same : page_at y d.pages ≡ page_at y c.pages = ap (page_at y) pages ∙ other_without x y c.pages (λ e. far (ap (λ (z : PageNo). z.0) (sym e))) in
      ap has_more (sym same) ∙ later

-- ---- the disk

module _ (s : Shape) (pool : List (Option (List ℕ))) (owners : List Own) (nodes : List Node) (n : NodeId) (x : PageNo) (c d : CacheState) (seats after : SeatsState) (b b' : ℕ → BlockState) (p : Plain)
    (eight : length nodes ≡ 8) (place : IsPlace n.0) (up : node_at nodes n.0 ≡ Up c seats) (store : IsOfStore s c) (tie : IsTiedToLog c) (living : AreLiving s p) (shown : All (λ q. Shows pool q.frame (image_in s p q.ticket.page)) c.pages)
    (held : IsHeldBy n (owner_of owners x.0)) (known : (y : ℕ) (k : NodeId) → IsHeldBy k (owner_of owners y) → IsPlace k.0) (pages : d.pages ≡ without_page x c.pages)
    (narrows : NarrowsButPages s c.log pool (cons_option (page_at x c.pages) []) b b') (holds : HoldsPages s pool (cons_option (page_at x c.pages) []) b') (idle : is_changed x c ≡ false → b' ≡ b)
    (was : (y : PageNo) → y.0 < page_count s → IsSettled nodes owners y → IsOnDisk s b p y) where
  abbrev Settled : PageNo → Type 0
  Settled y = IsSettled (with_node nodes n.0 (Up d after)) (slice_set owners x.0 Nobody) y

  earlier : (y : PageNo) → is_changed y c ≡ false → Settled y → IsSettled nodes owners y
  earlier = settled_given nodes owners n x c d seats after eight place up held known pages

  here : (y : PageNo) → y.0 < page_count s → y ≡ x → Settled y → IsOnDisk s b' p y
  here y within same now = by (is_changed x c) refl
    where
      by : (t : Bool) → is_changed x c ≡ t → IsOnDisk s b' p y
      by false clean = subst (λ a. IsOnDisk s a p y) (sym (idle clean)) (was y within (earlier y (ap (λ z. is_changed z c) same ∙ clean) now))
      by true dirty = found_here (page_at x c.pages) refl
        where
          some : (q : CachedPage) → page_at x c.pages ≡ Some q → q.changes ≢ None
          some q there none =
              let first : first_change q ≡ None = rw none refl in
              let no : is_changed x c ≡ false = ap (λ o. is_some (option_and_then first_change o)) there ∙ ap is_some first in
              cc

          found_here : (o : Option CachedPage) → page_at x c.pages ≡ o → IsOnDisk s b' p y
          found_here None none = let no : is_changed x c ≡ false = ap (λ o. is_some (option_and_then first_change o)) none in absurd cc
          found_here (Some q) there =
              let page : q.ticket.page ≡ x = is_page-same x q (found (is_page x) c.pages q there) in
              let block = (subst (λ o. HoldsPages s pool (cons_option o []) b') there holds) 0 q (omega arith) (some q there) in
              written_stored s p y q pool b' living within (page ∙ sym same) (find_all (λ r. Shows pool r.frame (image_in s p r.ticket.page)) (is_page x) c.pages q there shown) block

  pub stored_given : (y : PageNo) → y.0 < page_count s → Settled y → IsOnDisk s b' p y
  stored_given y within now = elim (cases_eq y.0 x.0) [
    | inl same ↦ here y within (ap (λ k. record { 0 = k }) same) now
    | inr far ↦
        let clean = clean_given nodes owners n x c d seats after eight place up held known pages y far now in
        still_stored s p y c (cons_option (page_at x c.pages) []) pool b b' store tie living within (all_found (λ q. Shows pool q.frame (image_in s p q.ticket.page)) x c.pages shown) narrows (was y within (earlier y clean now))
  ]
