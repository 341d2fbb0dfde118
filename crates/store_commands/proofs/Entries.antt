-- The entry of a data page is read of its map page, which the node has cached.
use Rattle.std.specs.Prelude.{◌≡◌, ◌≤◌, ◌-◌, ℕ, Some}
use Rattle.std.specs.List.{slice_get}
use Rattle.std.proofs.Common.{arith, ap, sym, ◌∙◌}
use Rattle.sd_base.specs.declared.names.PageNo.{PageNo}
use Rattle.sd_base.specs.declared.shape.Shape.{Shape}
use Rattle.sd_base.specs.Places.{map_of_data, page_of_place, place_of_page}
use Rattle.sd_base.proofs.PlaceLaws.{at_its_place, map_of_its_place, one_place_of_page, place_of_page-below}
use Rattle.space_map.specs.declared.map_entry.MapEntry.{MapEntry}
use Rattle.space_map.specs.Image.{MapImage}
use Rattle.node_cache.specs.Cache.{page_at}
use Rattle.node_cache.specs.Room.{IsEntryOf}
use Rattle.store_nodes.specs.declared.node.Node.{Node}
use Rattle.store_nodes.specs.declared.node.Node.TheVariants.{Down, Idle, Up}
use Rattle.store_nodes.specs.declared.store.Store.{Store}
use Rattle.store_nodes.specs.Nodes.{OnUp, node_at}
use Rattle.store_nodes.specs.Pages.{HasMap, ShowsMap}

-- the place of a page, by its number
its_place : (s : Shape) (x map : PageNo) (place : ℕ) → place ≤ 251 → s.maps ≤ x.0 → x.0 ≡ page_of_place s map.0 place → place_of_page s x ≡ place
its_place s x map place low far at = (one_place_of_page s (map_of_data s x).0 map.0 (place_of_page s x) place (place_of_page-below s x) (omega (arith, low)) (at_its_place s x far ∙ at)).1

pub entry_of : (c : Store) (n : ℕ) (map x : PageNo) (place : ℕ) (image : MapImage) (e : MapEntry) → place ≤ 251 → c.shape.maps ≤ x.0 → x.0 ≡ page_of_place c.shape map.0 place → ShowsMap c n map image → slice_get image.entries place ≡ Some e
    → OnUp (node_at c.nodes n) (λ k seats. IsEntryOf c.shape c.shared.pool k x (Some e))
entry_of c n map x place image e low far at shows is = by (node_at c.nodes n) shows
  where
    here : map_of_data c.shape x ≡ map
    here = map_of_its_place c.shape x map place (omega (arith, low)) at

    by : (node : Node) → OnUp node (λ k seats. HasMap c.shared.pool k.pages map image) → OnUp node (λ k seats. IsEntryOf c.shape c.shared.pool k x (Some e))
    by Idle shows = tt
    by (Up k seats) shows = record {
      none = λ near. absurd (omega (arith, near, far));
      some = λ beyond. (shows.page, image, ap (λ y. page_at y k.pages) here ∙ shows.there, shows.shows, sym (ap (slice_get image.entries) (its_place c.shape x map place low far at) ∙ is));
    }
    by Down shows = tt
