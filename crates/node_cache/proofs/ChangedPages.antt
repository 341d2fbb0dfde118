-- What a call that changes one page of a cache leaves of the others, of their frames and of their owners.
use Rattle.std.specs.Prelude.{◌≡◌, ◌≢◌, ◌+◌, ◌≤◌, ◌<◌, ℕ, Bool, true, false, IsTrue, List, [], ◌∷◌, Option, Some, None, All, is_some, is_none, slice_index_or, refl, if◌then◌else◌}
use Rattle.std.proofs.Common.{arith, ap, subst, sym, ◌∙◌}
use Rattle.std.proofs.lemmas.Bool.{eq-eqb}
use Rattle.std.proofs.lemmas.List.{get_or-set_other}
use Rattle.std.proofs.lemmas.List.Sums.{sum_by-set}
use Rattle.sd_base.specs.Shape.{page_count}
use Rattle.sd_base.specs.declared.device.NodeId.{NodeId}
use Rattle.sd_base.specs.declared.names.PageNo.{PageNo}
use Rattle.sd_base.specs.declared.shape.Shape.{Shape}
use Rattle.frame_pool.specs.Frames.{IsOut, frame_at, free_count}
use Rattle.frame_pool.proofs.PoolLaws.{IsOut-within}
use Rattle.page_owner.specs.declared.owners.Own.{Own}
use Rattle.page_owner.specs.declared.owners.Own.TheVariants.{Out}
use Rattle.private_log.specs.Log.{SameLog}
use Rattle.state_ids.specs.Held.{KeepsFrames}
use Rattle.state_ids.specs.Blocks.{ShowsPage}
use Rattle.state_ids.proofs.PageLaws.{Shows-out}
use Rattle.node_cache.specs.Cache.{AreOut, AreOwned, AreShown, CachedPage, CacheState, IsCache, IsOfStore, SamePages, changed_by, is_page, page_at, with_page}
use Rattle.node_cache.proofs.OnePage.{is_page-same, only}
use Rattle.node_cache.proofs.SamePages.{all_same, cached_same, with_same}

-- ---- pages that are the same but for their changes

-- what is out at a node is out at it still
pub owned_same : (owners : List Own) (c d : CacheState) → d.node ≡ c.node → SamePages c.pages d.pages → AreOwned owners c → AreOwned owners d
owned_same owners c d node same owned x =
    let cached = cached_same x c.pages d.pages same in
    (λ out. cached ∙ (owned x).0 (out ∙ ap Out node), λ is. (owned x).1 (sym cached ∙ is) ∙ ap Out (sym node))

-- their frames are out as before, and show their pages
pub out_same : (pool : List (Option (List ℕ))) (c d : CacheState) → SamePages c.pages d.pages → AreOut pool c → AreOut pool d
out_same pool c d same out = all_same (λ p. IsOut pool p.frame) c.pages d.pages same out

pub shown_same : (s : Shape) (pool : List (Option (List ℕ))) (c d : CacheState) → SamePages c.pages d.pages → AreShown s pool c → AreShown s pool d
shown_same s pool c d same shown = all_same (λ p. ShowsPage s p.ticket.page pool p.frame) c.pages d.pages same shown

-- the store of a cache
pub store_same : (s : Shape) (c d : CacheState) → d.node ≡ c.node → SameLog c.log d.log → SamePages c.pages d.pages → IsOfStore s c → IsOfStore s d
store_same s c d node log same store = record {
  valid = store.valid;
  shape = log.shape ∙ store.shape;
  node = subst (λ (n : NodeId). (1 ≤ n.0) × (n.0 ≤ s.nodes)) (sym node) store.node;
  pages = all_same (λ p. p.ticket.page.0 < page_count s) c.pages d.pages same store.pages;
}

-- a page of another number than x isn't x
pub other_page : (x : PageNo) (p : CachedPage) → is_page x p ≡ false → p.ticket.page ≢ x
other_page x p other e =
    let yes : is_page x p ≡ true = eq-eqb p.ticket.page.0 x.0 (ap (λ (y : PageNo). y.0) e) in
    let never : true ≡ false = sym yes ∙ other in
    cc

-- ---- the frames

-- a page that is shown in its frame has its frame out
pub out_of_shown : (s : Shape) (pool : List (Option (List ℕ))) (c : CacheState) → AreShown s pool c → AreOut pool c
out_of_shown s pool c all k d below = let image = all k d below in Shows-out pool _ image.0 image.1

-- a frame that was written is out as before, so as many are free
pub free_kept : (f : ℕ) (pool new : List (Option (List ℕ))) → KeepsFrames f pool new → IsOut pool f → IsOut new f → free_count new ≡ free_count pool
free_kept f pool new keeps out still =
    let after : free_count new + counted (frame_at pool f) ≡ free_count pool + counted (frame_at new f) = ap (λ p. free_count p + counted (frame_at pool f)) keeps ∙ sum_by-set counted pool f (frame_at new f) None (IsOut-within pool f out) in
    omega (arith, after, none_counted (frame_at pool f) out, none_counted (frame_at new f) still)
  where
    counted : Option (List ℕ) → ℕ
    counted o = if is_none o then 1 else 0

    none_counted : (o : Option (List ℕ)) → IsTrue (is_some o) → counted o ≡ 0
    none_counted None out = cc
    none_counted (Some bytes) out = refl

-- the frame of each other cached page holds what it held
pub frames_beside : (node : NodeId) (pages : List CachedPage) (x : PageNo) (page : CachedPage) (pool new : List (Option (List ℕ))) → IsCache node pages → page_at x pages ≡ Some page → KeepsFrames page.frame pool new
    → All (λ q. is_page x q ≡ false → frame_at new q.frame ≡ frame_at pool q.frame) pages
frames_beside node pages x page pool new is there keeps = λ i k below other.
    let q : CachedPage = slice_index_or pages i k in
    let apart = (only x pages page is.once is.apart there i k below).1 other in
    ap (λ frames. frame_at frames q.frame) keeps ∙ get_or-set_other pool page.frame q.frame (frame_at new page.frame) None apart

-- another page is found as before
pub page_beside : (x y : PageNo) (f : CachedPage → CachedPage) (pages : List CachedPage) → ((p : CachedPage) → is_page y (f p) ≡ is_page y p) → y ≢ x → page_at y (with_page x f pages) ≡ page_at y pages
page_beside x y f [] same other = refl
page_beside x y f (p ∷ ps) same other = by (is_page x p) (is_page y p) refl refl (page_beside x y f ps same other)
  where
    by : (here there : Bool) → is_page x p ≡ here → is_page y p ≡ there → page_at y (with_page x f ps) ≡ page_at y ps → page_at y (with_page x f (p ∷ ps)) ≡ page_at y (p ∷ ps)
    by true true here there rest = absurd (other (sym (is_page-same y p there) ∙ is_page-same x p here))
    by true false here there rest = let no : is_page y (f p) ≡ false = same p ∙ there in rw (here, there) (rw no rest)
    by false true here there rest = rw here (rw there refl)
    by false false here there rest = rw here (rw there rest)

-- a page that is changed in its frame comes and goes no more than the others
pub cached_changed : (x y : PageNo) (number : ℕ) (pages : List CachedPage) → is_some (page_at y (with_page x (changed_by number) pages)) ≡ is_some (page_at y pages)
cached_changed x y number pages = cached_same y pages (with_page x (changed_by number) pages) (with_same x (changed_by number) (λ p. refl) pages)
