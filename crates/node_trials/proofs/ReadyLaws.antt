-- What the calls of a cache leave of what their caller carries.
use Rattle.std.specs.Prelude.{◌≡◌, ◌⊎◌, ◌+◌, ◌≤◌, ◌<◌, ℕ, zero, suc, Bool, true, false, IsTrue, List, [], Option, Some, None, Result, Ok, Err, IsOk, IfSome, OnOk, OnErr, All, is_some, length, slice_set, map, replicate, refl}
use Rattle.std.specs.List.{cons_option}
use Rattle.std.proofs.Common.{arith, ap, subst, sym, inl, inr, ◌∙◌, length-set}
use Rattle.std.proofs.lemmas.List.Elements.{All-cons}
use Rattle.sd_base.specs.Disk.{BlockState, DiskState, IsFreeFor}
use Rattle.sd_base.specs.Calls.{Keeps, NoNewWriterBut}
use Rattle.sd_base.specs.Faults.{StaysLive}
use Rattle.sd_base.specs.declared.fault.DevFault.{DevFault}
use Rattle.sd_base.specs.declared.fault.DevFault.TheVariants.{Stopped, Failed, Lost, Damaged}
use Rattle.sd_base.specs.declared.device.NodeId.{NodeId}
use Rattle.sd_base.specs.declared.names.PageNo.{PageNo}
use Rattle.sd_base.specs.declared.page_op.PageOp.{PageOp}
use Rattle.sd_base.specs.declared.shape.Shape.{Shape}
use Rattle.frame_pool.specs.Frames.{IsOut, frame_at, free_count}
use Rattle.page_image.specs.declared.page_view.PageView.{PageView}
use Rattle.page_image.specs.Image.{IsTextOf}
use Rattle.space_map.specs.Image.{MapImage, IsMapText}
use Rattle.page_owner.specs.declared.owners.Own.{Own}
use Rattle.page_owner.specs.declared.owners.Own.TheVariants.{Nobody, Out, Parked}
use Rattle.page_owner.specs.Owners.{owner_of}
use Rattle.private_log.specs.Log.{SameLog}
use Rattle.state_ids.specs.PageImage.{PageImage, data_page, map_page, page_of}
use Rattle.state_ids.specs.Held.{Shows, KeepsFrames}
use Rattle.state_ids.specs.Blocks.{IsOfKind, ShowsPage, page_place}
use Rattle.state_ids.proofs.PageLaws.{Shows-text}
use Rattle.node_cache.specs.Cache.{CachedPage, CacheState, AreOut, AreOwned, AreShown, FitsCached, IsOfStore, IsTiedToLog, SamePages, changed_by, is_cached, is_page, page_at, with_page, written_back}
use Rattle.node_cache.specs.Room.{Missed, leaving, parked}
use Rattle.node_cache.specs.Writes.{AreInReach}
use Rattle.node_cache.proofs.OnePage.{found, is_page-same}
use Rattle.node_cache.proofs.SamePages.{all_same, same_length, with_same}
use Rattle.node_trials.specs.Bench.{IsBroken, IsReady, IsViewed, IsWhole}
use Rattle.sd_base.proofs.Positions.{find_all}
use Rattle.node_cache.proofs.ChangedPages.{free_kept, out_of_shown, owned_same, store_same}
use Rattle.node_cache.proofs.Leaving.{all_left}
use Rattle.node_cache.proofs.Parking.{length-parked}

-- what follows where a call was done
pub ok_given : {T E Q : Type 0} (r : Result T E) → (IsOk r → Q) → OnOk r Q
ok_given (Ok x) f = f refl
ok_given (Err e) f = tt

pub ok_of : {T E P : Type 0} (r : Result T E) → IsOk r → OnOk r P → P
ok_of (Ok x) is p = p
ok_of (Err e) is p = cc

-- and where the port is live
pub live_then : {T P Q : Type 0} (r : Result T DevFault) → StaysLive r P → (P → Q) → StaysLive r Q
live_then (Ok x) p f = f p
live_then (Err (Stopped n)) p f = tt
live_then (Err (Failed n)) p f = tt
live_then (Err (Lost at)) p f = f p
live_then (Err (Damaged at)) p f = f p

-- a cached page that was looked at
pub viewed : (s : Shape) (pool : List (Option (List ℕ))) (c : CacheState) (x : PageNo) (bytes : List ℕ) → AreShown s pool c → IsTrue (is_cached x c) → IfSome (page_at x c.pages) (λ p. frame_at pool p.frame ≡ Some bytes)
    → IsViewed s pool c.pages x bytes
viewed s pool c x bytes shown cached holds = by (page_at x c.pages) refl cached holds
  where
    by : (o : Option CachedPage) → page_at x c.pages ≡ o → IsTrue (is_some o) → IfSome o (λ p. frame_at pool p.frame ≡ Some bytes) → IsViewed s pool c.pages x bytes
    by None e cached holds = cc
    by (Some p) e cached holds =
        let there = find_all (λ q. ShowsPage s q.ticket.page pool q.frame) (is_page x) c.pages p e shown in
        record { page = p; there = e; image = there.0; shows = there.1; number = there.2 ∙ is_page-same x p (found (is_page x) c.pages p e); kind = there.3; held = holds }

-- a page is of the kind that its number says
pub record IsViewedData (pool : List (Option (List ℕ))) (pages : List CachedPage) (x : PageNo) (bytes : List ℕ) : Type 0 where
  pub page : CachedPage
  pub there : page_at x pages ≡ Some page
  pub image : PageView
  pub shows : Shows pool page.frame (data_page image)
  pub number : image.page ≡ x
  pub text : IsTextOf image bytes

pub viewed_data : (s : Shape) (pool : List (Option (List ℕ))) (pages : List CachedPage) (x : PageNo) (bytes : List ℕ) → s.maps ≤ x.0 → IsViewed s pool pages x bytes → IsViewedData pool pages x bytes
viewed_data s pool pages x bytes high v = by v.image v.shows v.number v.kind
  where
    by : (image : PageImage) → Shows pool v.page.frame image → page_of image ≡ x → IsOfKind s image → IsViewedData pool pages x bytes
    by (data_page w) shows number kind = record { page = v.page; there = v.there; image = w; shows = shows; number = number; text = Shows-text pool v.page.frame (data_page w) bytes shows v.held }
    by (map_page m) shows number kind = absurd (omega (arith, kind, high, ap (λ (y : PageNo). y.0) number))

pub record IsViewedMap (pool : List (Option (List ℕ))) (pages : List CachedPage) (x : PageNo) (bytes : List ℕ) : Type 0 where
  pub page : CachedPage
  pub there : page_at x pages ≡ Some page
  pub image : MapImage
  pub shows : Shows pool page.frame (map_page image)
  pub text : IsMapText image bytes

pub viewed_map : (s : Shape) (pool : List (Option (List ℕ))) (pages : List CachedPage) (x : PageNo) (bytes : List ℕ) → x.0 < s.maps → IsViewed s pool pages x bytes → IsViewedMap pool pages x bytes
viewed_map s pool pages x bytes low v = by v.image v.shows v.number v.kind
  where
    by : (image : PageImage) → Shows pool v.page.frame image → page_of image ≡ x → IsOfKind s image → IsViewedMap pool pages x bytes
    by (data_page w) shows number kind = absurd (omega (arith, kind, low, ap (λ (y : PageNo). y.0) number))
    by (map_page m) shows number kind = record { page = v.page; there = v.there; image = m; shows = shows; text = Shows-text pool v.page.frame (map_page m) bytes shows v.held }

-- the blocks of cached pages are those of the store
pub in_reach : (s : Shape) (told : Bool) (d : DiskState) (pool : List (Option (List ℕ))) (owners : List Own) (c : CacheState) → IsReady s told d pool owners c → AreInReach s c.pages d.reach
in_reach s told d pool owners c was k e below = let within = was.store.pages k e below in was.whole _ (omega (arith, within))

pub leaving_in_reach : (s : Shape) (told : Bool) (d : DiskState) (pool : List (Option (List ℕ))) (owners : List Own) (c : CacheState) (x : PageNo) → IsReady s told d pool owners c → AreInReach s (leaving s x c.pages) d.reach
leaving_in_reach s told d pool owners c x was = all_left (λ p. d.reach (page_place s p.ticket.page) ≡ true) s x c.pages (in_reach s told d pool owners c was)

pub all_at : (P : CachedPage → Type 0) (x : PageNo) (pages : List CachedPage) → All P pages → All P (cons_option (page_at x pages) [])
all_at P x pages all = by (page_at x pages) refl
  where
    by : (o : Option CachedPage) → page_at x pages ≡ o → All P (cons_option (page_at x pages) [])
    by None e = rw e (λ i d below. absurd (omega (arith, below)))
    by (Some p) e = rw e (All-cons P p [] (find_all P (is_page x) pages p e all) (λ i d below. absurd (omega (arith, below))))

pub page_in_reach : (s : Shape) (told : Bool) (d : DiskState) (pool : List (Option (List ℕ))) (owners : List Own) (c : CacheState) (x : PageNo) → IsReady s told d pool owners c → AreInReach s (cons_option (page_at x c.pages) []) d.reach
page_in_reach s told d pool owners c x was = all_at (λ p. d.reach (page_place s p.ticket.page) ≡ true) x c.pages (in_reach s told d pool owners c was)

-- the device, through the calls of the node
pub still_whole : (s : Shape) (n : ℕ) (d d' : DiskState) → Keeps n d d' → IsWhole s d → IsWhole s d'
still_whole s n d d' keeps whole k below = ap (λ reach. reach k) keeps.reach ∙ whole k below

pub still_free : (at n : ℕ) (b b' : ℕ → BlockState) → NoNewWriterBut at n b b' → ((k : ℕ) → IsFreeFor n (b k)) → (k : ℕ) → IsFreeFor n (b' k)
still_free at n b b' writers free k = elim (writers k) [
  | inl same ↦ elim (free k) [ inl mine ↦ inl (same ∙ mine) | inr none ↦ inr (same ∙ none) ]
  | inr (inl none) ↦ inr none
  | inr (inr here) ↦ inl here.1
]

-- What a caller carries, after a call that left the same pages.
module _ (s : Shape) (told : Bool) (d d' : DiskState) (pool pool' : List (Option (List ℕ))) (owners : List Own) (c c' : CacheState) (at : ℕ) (was : IsReady s told d pool owners c)
    (keeps : Keeps c.node.0 d d') (live : d'.live c.node.0 ≡ true) (writers : IsTrue told → NoNewWriterBut at c.node.0 d.block d'.block) (node : c'.node ≡ c.node) (log : SameLog c.log c'.log) (tie : IsTiedToLog c') where
  pub ready_same : SamePages c.pages c'.pages → AreShown s pool' c' → free_count pool' ≡ free_count pool → IsReady s told d' pool' owners c'
  ready_same same shown free = record {
    store = store_same s c c' node log same was.store;
    log_tie = tie;
    out = out_of_shown s pool' c' shown;
    shown = shown;
    owned = owned_same owners c c' node same was.owned;
    table = was.table;
    frames = omega (arith, was.frames, free, same_length c.pages c'.pages same);
    live = ap (λ (m : NodeId). d'.live m.0) node ∙ live;
    whole = still_whole s c.node.0 d d' keeps was.whole;
    free = λ t k. subst (λ (m : NodeId). IsFreeFor m.0 (d'.block k)) (sym node) (still_free at c.node.0 d.block d'.block (writers t) (was.free t) k);
  }

  -- the pages were written, in frames that stay
  pub ready_written : SamePages c.pages c'.pages → pool' ≡ pool → IsReady s told d' pool' owners c'
  ready_written same frames = ready_same same (subst (λ p. AreShown s p c') (sym frames) (all_same (λ q. ShowsPage s q.ticket.page pool q.frame) c.pages c'.pages same was.shown)) (ap free_count frames)

  -- a page was changed
  pub ready_paged : (x : PageNo) (number : ℕ) (p : CachedPage) → page_at x c.pages ≡ Some p → c'.pages ≡ with_page x (changed_by number) c.pages → KeepsFrames p.frame pool pool' → AreShown s pool' c' → IsReady s told d' pool' owners c'
  ready_paged x number p there pages frames shows =
      let same : SamePages c.pages c'.pages = ap (map written_back) pages ∙ with_same x (changed_by number) (λ q. refl) c.pages in
      let out = all_same (λ q. IsOut pool' q.frame) c'.pages c.pages (sym same) (out_of_shown s pool' c' shows) in
      ready_same same shows
      (free_kept p.frame pool pool' frames (find_all (λ q. IsOut pool q.frame) (is_page x) c.pages p there was.out) (find_all (λ q. IsOut pool' q.frame) (is_page x) c.pages p there out))

  -- a page was changed by a record
  pub ready_changed : (o : Option (PageNo × ℕ × PageOp)) → IsTrue (is_some o) → ((x : PageNo) (ident : ℕ) (op : PageOp) → o ≡ Some (x, ident, op) → FitsCached pool c.pages x ident op)
      → ((x : PageNo) (ident : ℕ) (op : PageOp) → o ≡ Some (x, ident, op) → c'.pages ≡ with_page x (changed_by c.log.tail) c.pages)
      → ((x : PageNo) (ident : ℕ) (op : PageOp) (p : CachedPage) → o ≡ Some (x, ident, op) → page_at x c.pages ≡ Some p → KeepsFrames p.frame pool pool') → ((t : Shape) → AreShown t pool c → AreShown t pool' c') → IsReady s told d' pool' owners c'
  ready_changed None some fits pages frames shown = cc
  ready_changed (Some change) some fits pages frames shown =
      let fit = fits change.0 change.1 change.2 refl in
      ready_paged change.0 c.log.tail fit.page fit.there (pages change.0 change.1 change.2 refl) (frames change.0 change.1 change.2 fit.page refl fit.there) (shown s was.shown)

-- the port stopped while the pages were written
pub broken_written : (s : Shape) (told : Bool) (d d' : DiskState) (pool : List (Option (List ℕ))) (owners : List Own) (c c' : CacheState) → IsReady s told d pool owners c → Keeps c.node.0 d d' → d'.live c.node.0 ≡ false → c'.node ≡ c.node
    → SamePages c.pages c'.pages → IsBroken s d' pool owners c'
broken_written s told d d' pool owners c c' was keeps stopped node same = record {
  stopped = ap (λ (m : NodeId). d'.live m.0) node ∙ stopped;
  out = all_same (λ q. IsOut pool q.frame) c.pages c'.pages same was.out;
  owned = owned_same owners c c' node same was.owned;
  table = was.table;
  whole = still_whole s c.node.0 d d' keeps was.whole;
}

-- the table of owners through a fetch
fetched_table : (x : ℕ) (own : Own) (left : List CachedPage) (owners owners' : List Own) → owners' ≡ parked left (slice_set owners x own) → length owners' ≡ length owners
fetched_table x own left owners owners' e = ap length e ∙ length-parked left (slice_set owners x own) ∙ length-set owners x own

pub table_fetched : {T : Type 0} (r : Result T DevFault) (x : PageNo) (node : NodeId) (cached : Bool) (left staying pages : List CachedPage) (pool pool' : List (Option (List ℕ))) (owners owners' : List Own) (c : CacheState) → (IsTrue cached → owners' ≡ owners)
    → OnOk r (cached ≡ false → owners' ≡ parked left (slice_set owners x.0 (Out node))) → OnErr r (Missed x [] pages pool owners c pool' owners' ⊎ Missed x left staying pool owners c pool' owners') → length owners' ≡ length owners
table_fetched (Ok v) x node true left staying pages pool pool' owners owners' c hit done broken = ap length (hit refl)
table_fetched (Ok v) x node false left staying pages pool pool' owners owners' c hit done broken = fetched_table x.0 (Out node) left owners owners' (done refl)
table_fetched (Err e) x node cached left staying pages pool pool' owners owners' c hit done (inl m) = fetched_table x.0 (Parked c.node) [] owners owners' m.parks
table_fetched (Err e) x node cached left staying pages pool pool' owners owners' c hit done (inr m) = fetched_table x.0 (Parked c.node) left owners owners' m.parks

-- what a caller carries, after a page was fetched
pub ready_fetched : (s : Shape) (told : Bool) (d d' : DiskState) (pool pool' : List (Option (List ℕ))) (owners owners' : List Own) (c c' : CacheState) (at : ℕ) → IsReady s told d pool owners c → Keeps c.node.0 d d' → d'.live c.node.0 ≡ true
    → (IsTrue told → NoNewWriterBut at c.node.0 d.block d'.block) → c'.node ≡ c.node → IsOfStore s c' → IsTiedToLog c' → AreOut pool' c' → AreShown s pool' c' → AreOwned owners' c' → free_count pool' + length c'.pages ≡ free_count pool + length c.pages
    → length owners' ≡ length owners → IsReady s told d' pool' owners' c'
ready_fetched s told d d' pool pool' owners owners' c c' at was keeps live writers node store tie out shown owned counted table = record {
  store = store;
  log_tie = tie;
  out = out;
  shown = shown;
  owned = owned;
  table = omega (arith, was.table, table);
  frames = omega (arith, was.frames, counted);
  live = ap (λ (m : NodeId). d'.live m.0) node ∙ live;
  whole = still_whole s c.node.0 d d' keeps was.whole;
  free = λ t k. subst (λ (m : NodeId). IsFreeFor m.0 (d'.block k)) (sym node) (still_free at c.node.0 d.block d'.block (writers t) (was.free t) k);
}

-- in a new table each page is nobody's
pub nobody_at : (pages x : ℕ) → owner_of (replicate pages Nobody) x ≡ Nobody
nobody_at zero x = refl
nobody_at (suc n) zero = refl
nobody_at (suc n) (suc x) = nobody_at n x
