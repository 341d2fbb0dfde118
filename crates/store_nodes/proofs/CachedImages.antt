-- What the frame of a cached page shows of the store, and a store with another data page in place of one.
use Rattle.std.specs.Prelude.{◌≡◌, ◌≤◌, ◌<◌, ℕ, true, false, List, Option, Some, All, nat_lt, option_map, if◌then◌else◌, refl}
use Rattle.std.proofs.Common.{arith, ap, subst, sym, ◌∙◌}
use Rattle.std.proofs.lemmas.Bool.Decides.{nat_tests}
use Rattle.sd_base.specs.Shape.{page_count}
use Rattle.sd_base.specs.declared.names.PageNo.{PageNo}
use Rattle.sd_base.specs.declared.shape.Shape.{Shape}
use Rattle.page_image.specs.declared.page_view.PageView.{PageView}
use Rattle.space_map.specs.Image.{MapImage}
use Rattle.space_map.specs.PageImage.{PageImage, data_page, map_page, page_of}
use Rattle.state_ids.specs.Held.{Shows}
use Rattle.state_ids.proofs.OneImage.{one_shown}
use Rattle.node_cache.specs.Cache.{CachedPage, changed_by, is_page, page_at, with_page}
use Rattle.node_cache.proofs.OnePage.{found, is_page-same}
use Rattle.txn_core.specs.Updates.{HasPage}
use Rattle.txn_core.proofs.UpdateLaws.{page_with}
use Rattle.record_machine.specs.Meaning as meaning
use Rattle.record_machine.specs.Meaning.{Plain}
use Rattle.record_machine.proofs.Put.{put_other, put_same}
use Rattle.store_nodes.specs.Pages.{HasMap}
use Rattle.store_nodes.specs.Shows.{image_in}
use Rattle.store_nodes.proofs.Living.{AreLiving}
use Rattle.store_nodes.proofs.ShownChange.{OnlyPage}
use Rattle.sd_base.proofs.Positions.{find_all}

-- a data page, and a map page, as the store has them
pub data_image : (s : Shape) (p : Plain) (x : PageNo) → s.maps ≤ x.0 → image_in s p x ≡ data_page (p.pages x.0)
data_image s p x far = let high : nat_lt x.0 s.maps ≡ false = grind (arith, nat_tests) in rw high refl

pub map_image : (s : Shape) (p : Plain) (x : PageNo) → x.0 < s.maps → image_in s p x ≡ map_page (p.maps x.0)
map_image s p x near = let low : nat_lt x.0 s.maps ≡ true = grind (arith, nat_tests) in rw low refl

-- what the frame of a cached page shows is the page as the store has it
image_shown : (s : Shape) (p : Plain) (pool : List (Option (List ℕ))) (pages : List CachedPage) (x : PageNo) (page : CachedPage) (image : PageImage) → AreLiving s p → x.0 < page_count s → All (λ q. Shows pool q.frame (image_in s p q.ticket.page)) pages
    → page_at x pages ≡ Some page → Shows pool page.frame image → page_of image ≡ x → image ≡ image_in s p x
image_shown s p pool pages x page image living within cached there shows number =
    let here : Shows pool page.frame (image_in s p x) = subst (λ y. Shows pool page.frame (image_in s p y)) (is_page-same x page (found (is_page x) pages page there)) (find_all (λ q. Shows pool q.frame (image_in s p q.ticket.page)) (is_page x) pages page there cached) in
    one_shown pool page.frame image (image_in s p x) shows here (number ∙ sym (living x within).0)

pub data_shown : (s : Shape) (p : Plain) (pool : List (Option (List ℕ))) (pages : List CachedPage) (x : PageNo) (v : PageView) → AreLiving s p → s.maps ≤ x.0 → x.0 < page_count s → All (λ q. Shows pool q.frame (image_in s p q.ticket.page)) pages → HasPage pool pages x v → v ≡ p.pages x.0
data_shown s p pool pages x v living far within cached has =
    let same : data_page v ≡ data_page (p.pages x.0) = image_shown s p pool pages x has.page (data_page v) living within cached has.there has.shows has.number ∙ data_image s p x far in
    cc

pub map_shown : (s : Shape) (p : Plain) (pool : List (Option (List ℕ))) (pages : List CachedPage) (x : PageNo) (m : MapImage) → AreLiving s p → x.0 < s.maps → x.0 < page_count s → All (λ q. Shows pool q.frame (image_in s p q.ticket.page)) pages → HasMap pool pages x m → m ≡ p.maps x.0
map_shown s p pool pages x m living near within cached has =
    let same : map_page m ≡ map_page (p.maps x.0) = image_shown s p pool pages x has.page (map_page m) living within cached has.there has.shows has.number ∙ map_image s p x near in
    cc

-- a page keeps its frame as it changes
pub frame_kept : (x : PageNo) (number : ℕ) (old new : List CachedPage) (page after : CachedPage) → new ≡ with_page x (changed_by number) old → page_at x old ≡ Some page → page_at x new ≡ Some after → after.frame ≡ page.frame
frame_kept x number old new page after pages there now =
    let same : Some after ≡ Some (changed_by number page) = sym now ∙ ap (page_at x) pages ∙ page_with x (changed_by number) old (λ p. refl) ∙ ap (option_map (changed_by number)) there in
    let one : after ≡ changed_by number page = cc in
    ap (λ (p : CachedPage). p.frame) one

-- another data page in place of one
pub only_data : (s : Shape) (p : Plain) (x : PageNo) (v : PageView) → OnlyPage s p (meaning.with_page x.0 v p) x
only_data s p x v = record {
  live = λ n. refl;
  others = λ y other. ap (λ w. if nat_lt y.0 s.maps then map_page (p.maps y.0) else data_page w) (put_other x.0 v p.pages y.0 (λ same. other (ap (λ n. record { 0 = n }) same)));
  entries = λ y. refl;
}

pub data_new : (s : Shape) (p : Plain) (x : PageNo) (v : PageView) → s.maps ≤ x.0 → image_in s (meaning.with_page x.0 v p) x ≡ data_page v
data_new s p x v far = data_image s (meaning.with_page x.0 v p) x far ∙ ap data_page (put_same x.0 v p.pages x.0 refl)
