-- Map pages, their places and data pages belong to one another, each to one.
use Rattle.std.specs.Prelude.{◌≡◌, ◌≤◌, ◌<◌, ℕ, false, nat_lt, refl}
use Rattle.std.proofs.Common.{arith, ap}
use Rattle.std.proofs.lemmas.Bool.Decides.{nat_tests}
use Rattle.sd_base.specs.Shape.{IsShape, page_count, pages_per_map}
use Rattle.sd_base.specs.Places.{map_of_data, map_of_key, map_of_page, page_of_place, place_of_page}
use Rattle.sd_base.specs.declared.names.PageNo.{PageNo}
use Rattle.sd_base.specs.declared.shape.Shape.{Shape}

-- the map page of a key is one
pub map_of_key-below : (s : Shape) (key : ℕ) → IsShape s → map_of_key s key < s.maps
map_of_key-below s key shape = let some = shape.maps.0 in omega (arith, some)

-- a page has one place
pub one_place_of_page : (s : Shape) (a b i j : ℕ) → i < pages_per_map → j < pages_per_map → page_of_place s a i ≡ page_of_place s b j → (a ≡ b) × (i ≡ j)
one_place_of_page s a b i j low small same = (omega (arith, low, small, same), omega (arith, low, small, same))

-- the page of a place is a data page of the store
pub data_of_place : (s : Shape) (map place : ℕ) → map < s.maps → place < pages_per_map → (s.maps ≤ page_of_place s map place) × (page_of_place s map place < page_count s)
data_of_place s map place within low = (omega arith, omega (arith, within, low))

-- a data page is that of its place
pub at_its_place : (s : Shape) (x : PageNo) → s.maps ≤ x.0 → page_of_place s (map_of_data s x).0 (place_of_page s x) ≡ x.0
at_its_place s x behind = omega (arith, behind)

-- and the map page of it as of any page
pub map_of_page-data : (s : Shape) (x : PageNo) → s.maps ≤ x.0 → map_of_page s x ≡ map_of_data s x
map_of_page-data s x behind = let not : nat_lt x.0 s.maps ≡ false = grind (arith, nat_tests) in rw not refl

-- its place is one of a map page
pub map_of_data-below : (s : Shape) (x : PageNo) → s.maps ≤ x.0 → x.0 < page_count s → (map_of_data s x).0 < s.maps
map_of_data-below s x behind page = omega (arith, behind, page)

pub place_of_page-below : (s : Shape) (x : PageNo) → place_of_page s x < pages_per_map
place_of_page-below s x = omega arith

-- the map page of the page of a place
pub map_of_its_place : (s : Shape) (x map : PageNo) (place : ℕ) → place < pages_per_map → x.0 ≡ page_of_place s map.0 place → map_of_data s x ≡ map
map_of_its_place s x map place low at = let number : (map_of_data s x).0 ≡ map.0 = omega (arith, low, at) in ap (λ n. record { 0 = n }) number
