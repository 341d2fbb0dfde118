-- A store that endures means the state of the machine at present.
use Rattle.std.specs.Prelude.{◌≡◌, ◌⊎◌, ◌<◌, ◌≤◌, ℕ, Bool, true, false, List, Option, Some, None, MatchOption, if◌then◌else◌, nat_lt, length, slice_index_or, refl}
use Rattle.std.specs.List.{slice_get}
use Rattle.std.proofs.Common.{arith, inl, inr, ap, subst, sym, ◌∙◌}
use Rattle.std.proofs.lemmas.Bool.{cases_lt}
use Rattle.std.proofs.lemmas.Bool.Decides.{nat_tests}
use Rattle.std.proofs.lemmas.Option.{slice_get-get_or}
use Rattle.sd_base.specs.Disk.{BlockState, MayHold}
use Rattle.sd_base.specs.Places.{map_of_data, page_of_place, place_of_page}
use Rattle.sd_base.specs.Shape.{page_count}
use Rattle.sd_base.specs.declared.names.PageNo.{PageNo}
use Rattle.sd_base.specs.declared.shape.Shape.{Shape}
use Rattle.sd_base.proofs.PlaceLaws.{at_its_place, map_of_data-below, place_of_page-below}
use Rattle.space_map.specs.declared.map_entry.MapEntry.{MapEntry}
use Rattle.space_map.specs.declared.map_entry.MapEntry.TheVariants.{Free}
use Rattle.state_ids.specs.Blocks.{HoldsPage, page_place}
use Rattle.state_ids.specs.PageImage.{PageImage, data_page, map_page, in_life}
use Rattle.recovery_theory.specs.History.{History, entry_now, image_now}
use Rattle.recovery_theory.specs.Pages.{IsImageOf, birth_of, in_life_from}
use Rattle.recovery_theory.proofs.PageLaws.{in_life_from-same}
use Rattle.recovery_theory.proofs.Words.{life_is_of_its_entry}
use Rattle.record_machine.specs.Machine.{Machine}
use Rattle.record_machine.specs.Meaning.{Means, Plain}
use Rattle.record_machine.specs.Recoverable.{Recoverable}
use Rattle.record_machine.proofs.ToldNow.{standing, tie_now}
use Rattle.store_nodes.specs.declared.store.Store.{Store}
use Rattle.store_nodes.specs.Endures.{Endures, EnduresAs, with_held}
use Rattle.store_nodes.specs.Shows.{IsOnDisk, IsShown, ShowsNodes, ShowsStore, entry_in, image_in}
use Rattle.store_nodes.proofs.CachedImages.{data_image, map_image}
use Rattle.store_nodes.proofs.Living.{living}

-- what a block holds is an image of the page
image_of : (s : Shape) (x : PageNo) (i : PageImage) (o : Option (List ℕ)) → HoldsPage s x i o → IsImageOf s x.0 i
image_of s x (data_page v) o holds = (subst (λ k. s.maps ≤ k) (ap (λ (y : PageNo). y.0) holds.3) holds.4, ap (λ (y : PageNo). y.0) holds.3, holds.2.image.slots)
image_of s x (map_page i) o holds = (subst (λ k. k < s.maps) (ap (λ (y : PageNo). y.0) holds.3) holds.4, ap (λ (y : PageNo). y.0) holds.3, holds.2.image.count)

module _ (c : Store) (b : ℕ → BlockState) (p : Plain) (m : Machine) (e : EnduresAs c b p m) where
  abbrev h : History
  h = e.history

  abbrev s : Shape
  s = c.shape

  abbrev m1 : Machine
  m1 = with_held e.held m

  abbrev r : Recoverable e.dirty h p m1
  r = e.survives.survives.recoverable

  abbrev means : Means p m1
  means = e.survives.survives.means

  -- the history has the pages as they are at present
  pub image_kept : (x : PageNo) → x.0 < page_count s → image_in s p x ≡ image_now h x.0
  image_kept x within = elim (cases_lt x.0 s.maps) [
    | inl near ↦ map_image s p x near ∙ sym (e.survives.survives.recoverable.maps x.0 (subst (λ (z : Shape). x.0 < z.maps) (sym e.nodes.shape) near))
    | inr far ↦ data_image s p x far ∙ sym (e.survives.survives.recoverable.pages x.0 (subst (λ (z : Shape). z.maps ≤ x.0) (sym e.nodes.shape) far) (subst (λ z. x.0 < page_count z) (sym e.nodes.shape) within))
  ]

  -- and an image of a page is of the life that the history says
  life_kept : (x : PageNo) (i : PageImage) → x.0 < page_count s → IsImageOf s x.0 i → in_life (entry_in s p x) i ≡ in_life_from x.0 (birth_of (entry_now h x.0)) i
  life_kept x i within is = by (nat_lt x.0 s.maps) refl
    where
      maps : m.shape.maps ≡ s.maps
      maps = ap (λ (z : Shape). z.maps) e.nodes.shape

      by : (t : Bool) → nat_lt x.0 s.maps ≡ t → in_life (if t then None else slice_get (p.maps (map_of_data s x).0).entries (place_of_page s x)) i ≡ in_life_from x.0 (birth_of (entry_now h x.0)) i
      by true low =
          let near : x.0 < s.maps = grind (arith, nat_tests) in
          let none : birth_of (entry_now h x.0) ≡ 0 = (standing e.dirty h p m1 r means).map_pages x.0 (subst (λ (z : Shape). x.0 < z.maps) (sym (r.shape ∙ e.nodes.shape)) near) in
          sym (ap (λ k. in_life_from x.0 k i) none ∙ (life_is_of_its_entry s x.0 (entry_now h x.0) i is).1 near)
      by false high =
          let far : s.maps ≤ x.0 = grind (arith, nat_tests) in
          let map : (map_of_data s x).0 < m.shape.maps = (let low = map_of_data-below s x far within in omega (arith, low, maps)) in
          let place = place_of_page-below s x in
          let here : page_of_place m.shape (map_of_data s x).0 (place_of_page s x) ≡ x.0 = ap (λ z. page_of_place z (map_of_data s x).0 (place_of_page s x)) e.nodes.shape ∙ at_its_place s x far in
          let count = means.pages.count (map_of_data s x).0 map in
          let at = slice_index_or (m.entries (map_of_data s x).0) (place_of_page s x) (Free 0) in
          let is_at : slice_get (p.maps (map_of_data s x).0).entries (place_of_page s x) ≡ Some at = ap (λ es. slice_get es (place_of_page s x)) (means.pages.entries (map_of_data s x).0 map) ∙ slice_get-get_or (m.entries (map_of_data s x).0) (place_of_page s x) (Free 0) (omega (arith, place, count)) in
          let now : entry_now h x.0 ≡ at = ap (entry_now h) (sym here) ∙ tie_now e.dirty h p m1 r means (map_of_data s x).0 (place_of_page s x) map place in
          ap (λ o. in_life o i) is_at ∙ sym ((life_is_of_its_entry s x.0 at i is).0 far) ∙ ap (λ a. in_life_from x.0 (birth_of a) i) (sym now)

  -- a page that the disk has is there, whatever a stop leaves of its block
  pub stored_kept : (x : PageNo) → x.0 < page_count s → e.dirty x.0 ≡ false → (h.devices.disk x.0 ≡ None → ⊥) → IsOnDisk s b p x
  stored_kept x within clean has o may = elim (e.survives.survives.recoverable.stored x.0 clean).clean [
    | inl none ↦ absurd (has none)
    | inr is ↦
        let holds = subst (λ d. MatchOption d (o ≡ None) (λ image. HoldsPage s x image o)) is.1 (e.tied.page x within o may) in
        (is.0, holds, life_kept x is.0 within (image_of s x is.0 o holds) ∙ is.2 ∙ sym (image_kept x within))
  ]

  -- the locks are those that the store has
  own : m.reopening ≡ false → m1 ≡ m
  own whole = ap (λ l. record m { locks = l }) (e.survives.own whole)

  -- where no page is gone
  pub shown_kept : m.reopening ≡ false → ((x : ℕ) → x < page_count s → m.gone x ≡ false) → ShowsStore c b p m
  shown_kept whole there =
      let nodes = subst (ShowsNodes s c.shared.pool c.shared.owners c.nodes b p) (own whole) e.nodes in
      record {
        nodes = record {
          means = nodes.means;
          shape = nodes.shape;
          node = nodes.node;
          hold = nodes.hold;
          stored = λ x within settled. stored_kept x within (e.clean whole x within settled) (λ none. (let never : true ≡ false = sym (e.lost x.0 within none) ∙ there x.0 within in cc));
        };
        locks = e.locks;
        reopening = e.reopening;
      }

pub endures_shown : (c : Store) (b : ℕ → BlockState) (m : Machine) → m.reopening ≡ false → ((x : ℕ) → x < page_count c.shape → m.gone x ≡ false) → Endures c b m → IsShown c b m
endures_shown c b m whole there is = (is.0, shown_kept c b is.0 m is.1 whole there)
