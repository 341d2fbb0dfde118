-- The record that takes an update back, and the page of the update.
use Rattle.std.specs.Prelude.{◌≡◌, ◌≤◌, ℕ, true, false, List, Option, Some, None, IfSome, IsTrue, is_some, refl}
use Rattle.std.proofs.Common.{arith, ap, subst, sym, ◌∙◌}
use Rattle.sd_base.specs.declared.names.PageNo.{PageNo}
use Rattle.sd_base.specs.declared.page_op.PageOp.{PageOp}
use Rattle.sd_base.specs.declared.shape.Shape.{Shape}
use Rattle.log_record.specs.declared.record.LogRecord.{LogRecord}
use Rattle.log_record.specs.Record.{page_op_of}
use Rattle.page_image.specs.declared.page_view.PageView.{PageView}
use Rattle.state_ids.specs.Held.{Shows}
use Rattle.state_ids.specs.Blocks.{IsOfKind, ShowsPage}
use Rattle.state_ids.specs.PageImage.{PageImage, data_page, map_page, page_of}
use Rattle.state_ids.proofs.OneImage.{one_shown}
use Rattle.node_cache.specs.Cache.{AreShown, CachedPage, CacheState, is_cached, is_page, page_at}
use Rattle.node_cache.proofs.OnePage.{found, is_page-same}
use Rattle.txn_core.specs.Undo.{IsPageOf}
use Rattle.txn_core.specs.Updates.{HasPage}
use Rattle.sd_base.proofs.Positions.{find_all}

-- the cached page x is shown in its frame
shown_of : (s : Shape) (pool : List (Option (List ℕ))) (c : CacheState) (x : PageNo) (p : CachedPage) → AreShown s pool c → page_at x c.pages ≡ Some p → ShowsPage s x pool p.frame
shown_of s pool c x p all is =
    let same : p.ticket.page ≡ x = is_page-same x p (found (is_page x) c.pages p is) in
    subst (λ y. ShowsPage s y pool p.frame) same (find_all (λ q. ShowsPage s q.ticket.page pool q.frame) (is_page x) c.pages p is all)

-- a cached page with the number of a data page is one
pub data_cached : (s : Shape) (pool : List (Option (List ℕ))) (c : CacheState) (x : PageNo) → AreShown s pool c → s.maps ≤ x.0 → IsTrue (is_cached x c) → (v : PageView) × HasPage pool c.pages x v
data_cached s pool c x all own cached = by (page_at x c.pages) refl cached
  where
    of_kind : (p : CachedPage) → page_at x c.pages ≡ Some p → (image : PageImage) → Shows pool p.frame image → page_of image ≡ x → IsOfKind s image → (v : PageView) × HasPage pool c.pages x v
    of_kind p is (data_page v) shows number kind = (v, record { page = p; there = is; shows = shows; number = number })
    of_kind p is (map_page m) shows number kind = absurd (let same : m.page.0 ≡ x.0 = ap (λ y. y.0) number in omega (arith, same, kind, own))

    by : (o : Option CachedPage) → page_at x c.pages ≡ o → IsTrue (is_some o) → (v : PageView) × HasPage pool c.pages x v
    by None is none = absurd (let never : false ≡ true = none in cc)
    by (Some p) is some = let image = shown_of s pool c x p all is in of_kind p is image.0 image.1 image.2 image.3

-- a cached data page has the number of one
pub data_number : (s : Shape) (pool : List (Option (List ℕ))) (c : CacheState) (x : PageNo) (v : PageView) → AreShown s pool c → HasPage pool c.pages x v → s.maps ≤ x.0
data_number s pool c x v all has =
    let image = shown_of s pool c x has.page all has.there in
    let same : data_page v ≡ image.0 = one_shown pool has.page.frame (data_page v) image.0 has.shows image.1 (has.number ∙ sym image.2) in
    let kind : IsOfKind s (data_page v) = subst (IsOfKind s) (sym same) image.3 in
    subst (λ y. s.maps ≤ y.0) has.number kind

-- and is cached
pub is_there : (pool : List (Option (List ℕ))) (c : CacheState) (x : PageNo) (v : PageView) → HasPage pool c.pages x v → is_cached x c ≡ true
is_there pool c x v has = ap is_some has.there

-- the page of a record is the one that it changes
pub own_page : (update : LogRecord) (v : PageView) (change : PageNo × ℕ × PageOp) → page_op_of update ≡ Some change → IsPageOf update v → v.page ≡ change.0
own_page update v change is of_page = sym (subst (λ o. IfSome o (λ q. q.0 ≡ v.page)) is of_page)
