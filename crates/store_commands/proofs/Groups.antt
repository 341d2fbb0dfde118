-- The page of a key's group, looked up in its map page, is the one that the machine says the group has.
use Rattle.std.specs.Prelude.{◌≡◌, ◌≤◌, ◌<◌, ℕ, true, Option, Some, None, IfSome, option_map}
use Rattle.std.specs.List.{position}
use Rattle.std.proofs.Common.{ap, inr, subst, sym, ◌∙◌}
use Rattle.sd_base.specs.Shape.{page_count}
use Rattle.sd_base.specs.Disk.{BlockState}
use Rattle.sd_base.specs.declared.names.GroupNo.{GroupNo}
use Rattle.sd_base.specs.declared.names.Key.{Key}
use Rattle.sd_base.specs.declared.names.PageNo.{PageNo}
use Rattle.sd_base.specs.declared.shape.Shape.{Shape}
use Rattle.sd_base.specs.Places.{group_of, map_of_key, page_of_place}
use Rattle.space_map.specs.Entry.{is_used_by}
use Rattle.space_map.specs.Image.{MapImage}
use Rattle.record_machine.specs.Machine.{Machine, home}
use Rattle.record_machine.specs.Parts.{Take, one}
use Rattle.store_nodes.specs.declared.store.Store.{Store}
use Rattle.store_nodes.specs.Nodes.{IsPlace, IsStore, is_up, node_at}
use Rattle.store_nodes.specs.Pages.{HasCached, ShowsMap}
use Rattle.store_nodes.specs.Shows.{IsShown}
use Rattle.store_commands.specs.Reasons.{HasNoPage, IsPageFor}
use Rattle.store_commands.proofs.ShownImages.{home_is}

module _ (s : Shape) (d : Store) (n key : ℕ) (map : PageNo) (g : GroupNo) (found : Option ℕ) (shape : d.shape ≡ s) (at : map.0 ≡ map_of_key s key) (group : g ≡ group_of key) (first : (image : MapImage) → ShowsMap d n map image → found ≡ position (is_used_by g) image.entries) where
  -- the place in an image of the map page
  pub place_is : (image : MapImage) → ShowsMap d n map image → position (is_used_by (group_of key)) image.entries ≡ found
  place_is image has = sym (ap (λ h. position (is_used_by h) image.entries) group) ∙ sym (first image has)

  -- and the page
  pub group_home : (b : ℕ → BlockState) (m : Machine) → IsStore d → IsPlace n → is_up (node_at d.nodes n) ≡ true → map.0 < s.maps → (image : MapImage) × ShowsMap d n map image → IsShown d b (one (Take map.0 n) m) → home m key ≡ option_map (page_of_place s map.0) found
  group_home b m is place up near there shown =
      home_is d n b (one (Take map.0 n) m) is place up shown key map there.0 (subst (λ t. map.0 ≡ map_of_key t key) (sym shape) at) (subst (λ t. map.0 < t.maps) (sym shape) near) there.1
      ∙ ap (option_map (page_of_place d.shape map.0)) (place_is there.0 there.1)
      ∙ ap (λ t. option_map (page_of_place t map.0) found) shape

  -- where there is none, no entry is the group's
  pub no_page_for : (k : Key) → k.0 ≡ key → found ≡ None → (image : MapImage) × ShowsMap d n map image → HasNoPage d n k
  no_page_for k is none there =
      let number : map.0 ≡ map_of_key d.shape k.0 = at ∙ sym (ap (λ t. map_of_key t key) shape) ∙ ap (map_of_key d.shape) (sym is) in
      (there.0, subst (λ j. ShowsMap d n (record { 0 = j }) there.0) number there.1, ap (λ j. position (is_used_by (group_of j)) there.0.entries) is ∙ place_is there.0 there.1 ∙ none)

-- a page at a place of the key's map page is one for the key
pub page_for : (s : Shape) (key : Key) (map x : PageNo) (place : ℕ) → map.0 ≡ map_of_key s key.0 → place ≤ 251 → x.0 ≡ page_of_place s map.0 place → IsPageFor s key x
page_for s key map x place at low is = inr (place, low, is ∙ ap (λ k. page_of_place s k place) at)

-- the page that the group has is cached, if it has one
pub both_cached : (d : Store) (n : ℕ) (found : Option PageNo) (o : Option ℕ) (s : Shape) → IfSome found (λ x. (s.maps ≤ x.0) × (x.0 < page_count s) × HasCached d n x) → option_map (λ x. x.0) found ≡ o → IfSome o (λ y. HasCached d n (record { 0 = y }))
both_cached d n None o s page is = subst (λ p. IfSome p (λ y. HasCached d n (record { 0 = y }))) is tt
both_cached d n (Some x) o s page is = subst (λ p. IfSome p (λ y. HasCached d n (record { 0 = y }))) is page.2
