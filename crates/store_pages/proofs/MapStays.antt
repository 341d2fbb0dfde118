-- The map page of a page that is fetched stays in the cache.
use Rattle.std.specs.Prelude.{◌≡◌, ◌≤◌, ℕ, List, [], ◌∷◌, Option, Some, None}
use Rattle.std.specs.List.{find}
use Rattle.std.specs.Option.{option_or}
use Rattle.std.proofs.Common.{ap, ◌∙◌}
use Rattle.std.proofs.lemmas.List.Folds.{find-append}
use Rattle.sd_base.specs.declared.names.PageNo.{PageNo}
use Rattle.sd_base.specs.declared.shape.Shape.{Shape}
use Rattle.sd_base.specs.Places.{map_of_data}
use Rattle.frame_pool.specs.Frames.{frame_at}
use Rattle.space_map.specs.declared.map_entry.MapEntry.{MapEntry}
use Rattle.space_map.specs.Image.{MapImage}
use Rattle.space_map.specs.PageImage.{map_page}
use Rattle.node_cache.specs.Cache.{AreOut, CacheState, IsCache, is_page, page_at}
use Rattle.node_cache.specs.Room.{Arrived, freed, leaving, staying}
use Rattle.node_cache.proofs.Fetched.{frames_stay, map_stays}
use Rattle.node_cache.proofs.Without.{shows_same}
use Rattle.store_nodes.specs.Pages.{HasMap}
use Rattle.sd_base.proofs.Positions.{find_all}

pub map_kept : (s : Shape) (x : PageNo) (e : Option MapEntry) (c d : CacheState) (pool new : List (Option (List ℕ))) (image : MapImage) → IsCache c.node c.pages → AreOut pool c → Arrived s x e (staying s x c.pages) (freed (leaving s x c.pages) pool) d new → s.maps ≤ x.0
    → HasMap pool c.pages (map_of_data s x) image → HasMap new d.pages (map_of_data s x) image
map_kept s x e c d pool new image is out came far has =
    let stays : page_at (map_of_data s x) (staying s x c.pages) ≡ Some has.page = map_stays s x c.pages far ∙ has.there in
    record {
      page = has.page;
      there = ap (page_at (map_of_data s x)) came.last ∙ find-append (is_page (map_of_data s x)) (staying s x c.pages) _ ∙ ap (λ o. option_or o (find (is_page (map_of_data s x)) (record { ticket = record { page = x; node = d.node }; frame = came.frame; entry = e; changes = None } ∷ []))) stays;
      shows = shows_same pool new has.page.frame (map_page image) (find_all (λ q. frame_at new q.frame ≡ frame_at pool q.frame) (is_page (map_of_data s x)) (staying s x c.pages) has.page stays (frames_stay s x e c d pool new is out came)) has.shows;
      number = has.number;
    }
