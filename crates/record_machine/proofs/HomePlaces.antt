-- Where the groups have their pages, by the entries of a history: a group's page is the one whose entry has the group.
use Rattle.std.specs.Prelude.{◌≡◌, ◌+◌, ◌*◌, ◌<◌, ℕ, true, false, Option, Some, None, List, length, option_map, slice_index_or, refl}
use Rattle.std.specs.List.{position}
use Rattle.std.proofs.Common.{arith, ap, subst, sym, ◌∙◌}
use Rattle.std.proofs.lemmas.List.Quantifiers.{position-Some}
use Rattle.sd_base.specs.Shape.{IsShape, pages_per_map}
use Rattle.sd_base.specs.Places.{group_of, map_of_key, page_of_place, slot_of_key}
use Rattle.sd_base.proofs.PlaceLaws.{map_of_key-below}
use Rattle.space_map.specs.declared.map_entry.MapEntry.TheVariants.{Free}
use Rattle.space_map.specs.Entry.{is_used_by}
use Rattle.recovery_theory.specs.Pages.{entry_group, is_used}
use Rattle.recovery_theory.specs.History.{History, entry_at, entry_now}
use Rattle.recovery_theory.specs.Records.{HasRecords, Holds}
use Rattle.record_machine.specs.Machine.{Machine, home}
use Rattle.record_machine.proofs.Homes.{none_passes}
use Rattle.record_machine.proofs.RecoverableEnds.{is_used_of}

-- the place of a group's page, and its entry
pub record IsHome (g : History) (o : Machine) (key x : ℕ) : Type 0 where
  pub place : ℕ
  pub page : x ≡ page_of_place o.shape (map_of_key o.shape key) place
  pub within : place < pages_per_map
  pub map : map_of_key o.shape key < o.shape.maps
  pub used : is_used_by (group_of key) (entry_now g x) ≡ true

module _ (g : History) (records : ℕ → Option (List ℕ)) (o : Machine) (holds : Holds g records) (shape : g.devices.shape ≡ o.shape) (legal : IsShape o.shape)
    (count : (x : ℕ) → x < o.shape.maps → length (o.entries x) ≡ pages_per_map)
    (tie : (k q : ℕ) → k < o.shape.maps → q < pages_per_map → entry_now g (page_of_place o.shape k q) ≡ slice_index_or (o.entries k) q (Free 0)) where
  abbrev end : ℕ → ℕ
  end k = length (g.live k)

  keys : HasRecords g.devices.shape (entry_at g end) g.settled records
  keys = holds.keys end (λ k. (holds.history.sound k, omega arith))

  pub page_of_home : (key x : ℕ) → home o key ≡ Some x → IsHome g o key x
  page_of_home key x is = by (position (is_used_by (group_of key)) (o.entries (map_of_key o.shape key))) refl is
    where
      map : map_of_key o.shape key < o.shape.maps
      map = map_of_key-below o.shape key legal

      by : (i : Option ℕ) → position (is_used_by (group_of key)) (o.entries (map_of_key o.shape key)) ≡ i → option_map (page_of_place o.shape (map_of_key o.shape key)) i ≡ Some x → IsHome g o key x
      by None none is = cc
      by (Some place) some is =
          let at = position-Some (is_used_by (group_of key)) (o.entries (map_of_key o.shape key)) place (Free 0) some in
          let low = at.0 in
          let many = count (map_of_key o.shape key) map in
          let small : place < pages_per_map = omega (arith, low, many) in
          let page : page_of_place o.shape (map_of_key o.shape key) place ≡ x = cc in
          record {
            place = place;
            page = sym page;
            within = small;
            map = map;
            used = ap (λ y. is_used_by (group_of key) (entry_now g y)) (sym page) ∙ (ap (is_used_by (group_of key)) (tie (map_of_key o.shape key) place map small) ∙ at.1);
          }

  pub home_of_page : (key place : ℕ) → place < pages_per_map → is_used_by (group_of key) (entry_now g (page_of_place o.shape (map_of_key o.shape key) place)) ≡ true → home o key ≡ Some (page_of_place o.shape (map_of_key o.shape key) place)
  home_of_page key place low used = by (position (is_used_by (group_of key)) (o.entries (map_of_key o.shape key))) refl
    where
      map : map_of_key o.shape key < o.shape.maps
      map = map_of_key-below o.shape key legal

      here : is_used_by (group_of key) (slice_index_or (o.entries (map_of_key o.shape key)) place (Free 0)) ≡ true
      here = ap (is_used_by (group_of key)) (sym (tie (map_of_key o.shape key) place map low)) ∙ used

      by : (i : Option ℕ) → position (is_used_by (group_of key)) (o.entries (map_of_key o.shape key)) ≡ i → option_map (page_of_place o.shape (map_of_key o.shape key)) (position (is_used_by (group_of key)) (o.entries (map_of_key o.shape key))) ≡ Some (page_of_place o.shape (map_of_key o.shape key) place)
      by None none =
          let many = count (map_of_key o.shape key) map in
          let never : true ≡ false = sym here ∙ none_passes (is_used_by (group_of key)) (o.entries (map_of_key o.shape key)) place (Free 0) none (omega (arith, low, many)) in
          absurd cc
      by (Some first) some =
          let at = position-Some (is_used_by (group_of key)) (o.entries (map_of_key o.shape key)) first (Free 0) some in
          let bound = at.0 in
          let many = count (map_of_key o.shape key) map in
          let small : first < pages_per_map = omega (arith, bound, many) in
          let a = is_used_of (group_of key) (entry_now g (page_of_place o.shape (map_of_key o.shape key) first)) (ap (is_used_by (group_of key)) (tie (map_of_key o.shape key) first map small) ∙ at.1) in
          let b = is_used_of (group_of key) (entry_now g (page_of_place o.shape (map_of_key o.shape key) place)) used in
          let all : HasRecords o.shape (entry_at g end) g.settled records = subst (λ z. HasRecords z (entry_at g end) g.settled records) shape keys in
          let one : first ≡ place = all.once (map_of_key o.shape key) first place map small low a.0 b.0 (a.1 ∙ sym b.1) in
          ap (option_map (page_of_place o.shape (map_of_key o.shape key))) some ∙ ap (λ i. Some (page_of_place o.shape (map_of_key o.shape key) i)) one

  -- the committed record of a key stands in the slot of its group's page, but for what is left of it
  pub settled_there : (key x : ℕ) → home o key ≡ Some x → records key ≡ g.settled x (slot_of_key key)
  settled_there key x is =
      let a = page_of_home key x is in
      let u = is_used_of (group_of key) (entry_now g x) a.used in
      let all : HasRecords o.shape (entry_at g end) g.settled records = subst (λ z. HasRecords z (entry_at g end) g.settled records) shape keys in
      let used_there : is_used (entry_now g (page_of_place o.shape (map_of_key o.shape key) a.place)) ≡ true = ap (λ y. is_used (entry_now g y)) (sym a.page) ∙ u.0 in
      let value = all.value (map_of_key o.shape key) a.place (slot_of_key key) a.map a.within (omega arith) used_there in
      let group : entry_group (entry_now g (page_of_place o.shape (map_of_key o.shape key) a.place)) ≡ (group_of key).0 = ap (λ y. entry_group (entry_now g y)) (sym a.page) ∙ u.1 in
      let key_is : 16 * entry_group (entry_now g (page_of_place o.shape (map_of_key o.shape key) a.place)) + slot_of_key key ≡ key = omega (arith, group) in
      ap records (sym key_is) ∙ (value ∙ ap (λ y. g.settled y (slot_of_key key)) (sym a.page))
