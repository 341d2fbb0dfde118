-- The pages of a store that means a state of the machine are what they are said to be.
use Rattle.std.specs.Prelude.{◌≡◌, ◌<◌, ◌≤◌, ℕ, Bool, true, false, Some, nat_lt, slice_index_or, refl}
use Rattle.std.specs.List.{slice_get}
use Rattle.std.proofs.Common.{arith, ap, subst, ◌∙◌}
use Rattle.std.proofs.lemmas.Bool.Decides.{nat_tests}
use Rattle.std.proofs.lemmas.Option.{slice_get-get_or}
use Rattle.sd_base.specs.Shape.{page_count}
use Rattle.sd_base.specs.declared.names.PageNo.{PageNo}
use Rattle.sd_base.specs.declared.shape.Shape.{Shape}
use Rattle.sd_base.specs.Places.{map_of_data, page_of_place, place_of_page}
use Rattle.sd_base.proofs.PlaceLaws.{at_its_place, map_of_data-below, place_of_page-below}
use Rattle.space_map.specs.declared.map_entry.MapEntry.TheVariants.{Free}
use Rattle.space_map.specs.Entry.{ident_of}
use Rattle.space_map.specs.PageImage.{data_of, data_page, in_life, page_of, view_of}
use Rattle.state_ids.specs.Blocks.{IsOfKind}
use Rattle.node_cache.proofs.ChangeLaws.{present_by}
use Rattle.record_machine.specs.Machine.{Machine}
use Rattle.record_machine.specs.Meaning.{ArePages, Plain}
use Rattle.store_nodes.specs.Shows.{entry_in, image_in}

-- each page of the store has its number and its kind, and is of its life
abbrev pub AreLiving : Shape → Plain → Type 0
AreLiving s p = (y : PageNo) → y.0 < page_count s → (page_of (image_in s p y) ≡ y) × IsOfKind s (image_in s p y) × (in_life (entry_in s p y) (image_in s p y) ≡ image_in s p y)

-- a number as a page's
numbered : (x : PageNo) (n : ℕ) → n ≡ x.0 → record { 0 = n } ≡ x
numbered x n same = ap (λ k. record { 0 = k }) same

pub living : (s : Shape) (p : Plain) (m : Machine) → m.shape ≡ s → ArePages p m → AreLiving s p
living s p m shape pages y within = by (nat_lt y.0 s.maps) refl
  where
    maps : m.shape.maps ≡ s.maps
    maps = ap (λ t. t.maps) shape

    -- a data page is of the life that its entry has begun
    alive : s.maps ≤ y.0 → in_life (slice_get (p.maps (map_of_data s y).0).entries (place_of_page s y)) (data_page (p.pages y.0)) ≡ data_page (p.pages y.0)
    alive far =
        let map : (map_of_data s y).0 < m.shape.maps = omega (arith, map_of_data-below s y far within, maps) in
        let place = place_of_page-below s y in
        let here : page_of_place m.shape (map_of_data s y).0 (place_of_page s y) ≡ y.0 = ap (λ t. page_of_place t (map_of_data s y).0 (place_of_page s y)) shape ∙ at_its_place s y far in
        let old = pages.alive (map_of_data s y).0 (place_of_page s y) map place in
        let entry = pages.entries (map_of_data s y).0 map in
        let count = pages.count (map_of_data s y).0 map in
        let e = slice_index_or (m.entries (map_of_data s y).0) (place_of_page s y) (Free 0) in
        let is : slice_get (p.maps (map_of_data s y).0).entries (place_of_page s y) ≡ Some e = ap (λ es. slice_get es (place_of_page s y)) entry ∙ slice_get-get_or (m.entries (map_of_data s y).0) (place_of_page s y) (Free 0) (omega (arith, place, count)) in
        let high : ident_of e ≤ (p.pages y.0).ident = subst (λ n. ident_of e ≤ (p.pages n).ident) here old in
        ap (λ o. in_life o (data_page (p.pages y.0))) is ∙ ap (λ d. data_page (view_of (p.pages y.0).page d)) (present_by (data_of (p.pages y.0)) (ident_of e) high)

    by : (b : Bool) → nat_lt y.0 s.maps ≡ b → (page_of (image_in s p y) ≡ y) × IsOfKind s (image_in s p y) × (in_life (entry_in s p y) (image_in s p y) ≡ image_in s p y)
    by true low =
        let lt : y.0 < s.maps = grind (arith, nat_tests) in
        let number = pages.map_number y.0 (omega (arith, lt, maps)) in
        rw low (numbered y (p.maps y.0).page.0 number, omega (arith, number, lt), refl)
    by false high =
        let far : s.maps ≤ y.0 = grind (arith, nat_tests) in
        let number = pages.number y.0 (omega (arith, far, maps)) (omega (arith, within, maps)) in
        rw high (numbered y (p.pages y.0).page.0 number, omega (arith, number, far), alive far)
