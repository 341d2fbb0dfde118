-- A cached page of a node that is up has an image: a map page has entries, and a data page slots.
use Rattle.std.specs.Prelude.{◌≡◌, ◌≤◌, ◌<◌, ℕ, IsTrue, List, Option, Some, None, IfSome, is_some, refl}
use Rattle.std.proofs.Common.{arith, ap, subst, sym, ◌∙◌}
use Rattle.sd_base.specs.declared.names.PageNo.{PageNo}
use Rattle.sd_base.specs.declared.shape.Shape.{Shape}
use Rattle.frame_pool.specs.Frames.{frame_at}
use Rattle.page_image.specs.declared.page_view.PageView.{PageView}
use Rattle.page_image.specs.Image.{IsTextOf}
use Rattle.space_map.specs.Image.{IsMapText, MapImage}
use Rattle.space_map.specs.PageImage.{PageImage, data_page, map_page, page_of}
use Rattle.state_ids.specs.Held.{Shows}
use Rattle.state_ids.specs.Blocks.{IsOfKind, ShowsPage}
use Rattle.node_cache.specs.Cache.{AreShown, CachedPage, CacheState, is_cached, is_page, page_at}
use Rattle.node_cache.proofs.OnePage.{found, is_page-same}
use Rattle.txn_core.specs.Seats.{SeatsState}
use Rattle.txn_core.specs.Updates.{HasPage}
use Rattle.store_nodes.specs.declared.node.Node.{Node}
use Rattle.store_nodes.specs.declared.node.Node.TheVariants.{Down, Idle, Up}
use Rattle.store_nodes.specs.declared.store.Store.{Store}
use Rattle.store_nodes.specs.Nodes.{IsPlace, IsStore, OnUp, node_at}
use Rattle.store_nodes.specs.Pages.{HasCached, HasMap, ShowsData, ShowsMap}
use Rattle.store_nodes.proofs.Works.{work_at}
use Rattle.sd_base.proofs.Positions.{find_all}

module _ (s : Shape) (pool : List (Option (List ℕ))) (c : CacheState) (x : PageNo) (bytes : List ℕ) (shown : AreShown s pool c) where
  -- what its frame shows
  shown_at : (p : CachedPage) → page_at x c.pages ≡ Some p → ShowsPage s x pool p.frame
  shown_at p at = subst (λ y. ShowsPage s y pool p.frame) (is_page-same x p (found (is_page x) c.pages p at)) (find_all (λ q. ShowsPage s q.ticket.page pool q.frame) (is_page x) c.pages p at shown)

  pub map_at : x.0 < s.maps → IsTrue (is_cached x c) → IfSome (page_at x c.pages) (λ p. frame_at pool p.frame ≡ Some bytes) → (image : MapImage) × HasMap pool c.pages x image × IsMapText image bytes
  map_at low cached holds = by (page_at x c.pages) refl cached holds
    where
      of : (p : CachedPage) → page_at x c.pages ≡ Some p → frame_at pool p.frame ≡ Some bytes → (image : PageImage) → Shows pool p.frame image → page_of image ≡ x → IsOfKind s image → (image : MapImage) × HasMap pool c.pages x image × IsMapText image bytes
      of p at here (data_page v) shows number kind = let n : v.page.0 ≡ x.0 = ap (λ (y : PageNo). y.0) number in absurd (omega (arith, kind, n, low))
      of p at here (map_page image) shows number kind =
          let both : Some shows.bytes ≡ Some bytes = sym shows.held ∙ here in
          let same : shows.bytes ≡ bytes = cc in
          (image, record { page = p; there = at; shows = shows; number = number }, subst (IsMapText image) same shows.text)

      by : (o : Option CachedPage) → page_at x c.pages ≡ o → IsTrue (is_some o) → IfSome o (λ p. frame_at pool p.frame ≡ Some bytes) → (image : MapImage) × HasMap pool c.pages x image × IsMapText image bytes
      by None at some here = cc
      by (Some p) at some here = let is = shown_at p at in of p at here is.0 is.1 is.2 is.3

  pub data_at : s.maps ≤ x.0 → IsTrue (is_cached x c) → IfSome (page_at x c.pages) (λ p. frame_at pool p.frame ≡ Some bytes) → (v : PageView) × HasPage pool c.pages x v × IsTextOf v bytes
  data_at far cached holds = by (page_at x c.pages) refl cached holds
    where
      of : (p : CachedPage) → page_at x c.pages ≡ Some p → frame_at pool p.frame ≡ Some bytes → (image : PageImage) → Shows pool p.frame image → page_of image ≡ x → IsOfKind s image → (v : PageView) × HasPage pool c.pages x v × IsTextOf v bytes
      of p at here (map_page image) shows number kind = let n : image.page.0 ≡ x.0 = ap (λ (y : PageNo). y.0) number in absurd (omega (arith, kind, n, far))
      of p at here (data_page v) shows number kind =
          let both : Some shows.bytes ≡ Some bytes = sym shows.held ∙ here in
          let same : shows.bytes ≡ bytes = cc in
          (v, record { page = p; there = at; shows = shows; number = number }, subst (IsTextOf v) same shows.text)

      by : (o : Option CachedPage) → page_at x c.pages ≡ o → IsTrue (is_some o) → IfSome o (λ p. frame_at pool p.frame ≡ Some bytes) → (v : PageView) × HasPage pool c.pages x v × IsTextOf v bytes
      by None at some here = cc
      by (Some p) at some here = let is = shown_at p at in of p at here is.0 is.1 is.2 is.3

-- what a frame shows of a page that a node of the store has cached
module _ (c : Store) (n : ℕ) (x : PageNo) (bytes : List ℕ) (k : CacheState) (seats : SeatsState) (is : IsStore c) (place : IsPlace n) (at : node_at c.nodes n ≡ Up k seats) (has : HasCached c n x) (holds : IfSome (page_at x k.pages) (λ p. frame_at c.shared.pool p.frame ≡ Some bytes)) where
  cached : IsTrue (is_cached x k)
  cached = subst (λ node. OnUp node (λ d seats. IsTrue (is_cached x d))) at has

  pub map_in : x.0 < c.shape.maps → (image : MapImage) × ShowsMap c n x image × IsMapText image bytes
  map_in low =
      let found = map_at c.shape c.shared.pool k x bytes (work_at c.shape c.shared.pool c.shared.owners c.nodes n k seats place at is).shown low cached holds in
      (found.0, subst (λ node. OnUp node (λ d seats. HasMap c.shared.pool d.pages x found.0)) (sym at) found.1, found.2)

  pub data_in : c.shape.maps ≤ x.0 → (v : PageView) × ShowsData c n x v × IsTextOf v bytes
  data_in far =
      let found = data_at c.shape c.shared.pool k x bytes (work_at c.shape c.shared.pool c.shared.owners c.nodes n k seats place at is).shown far cached holds in
      (found.0, subst (λ node. OnUp node (λ d seats. HasPage c.shared.pool d.pages x found.0)) (sym at) found.1, found.2)

-- a page with an image is cached
pub cached_map : (c : Store) (n : ℕ) (x : PageNo) (image : MapImage) → ShowsMap c n x image → HasCached c n x
cached_map c n x image shows = by (node_at c.nodes n) shows
  where
    by : (node : Node) → OnUp node (λ k seats. HasMap c.shared.pool k.pages x image) → OnUp node (λ k seats. IsTrue (is_cached x k))
    by Idle has = tt
    by (Up k seats) has = ap is_some has.there
    by Down has = tt
