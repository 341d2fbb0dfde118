-- What a write is refused for by what the node has cached, the machine refuses it for too.
use Rattle.std.specs.Prelude.{◌≡◌, ◌≤◌, ◌<◌, ◌*◌, ◌+◌, ◌^◌, ◌∷◌, [], ℕ, Bool, true, false, nat_le, nat_lt, Option, Some, None, Ok, Err, IsTrue, option_map, refl, if◌then◌else◌}
use Rattle.std.specs.List.{position}
use Rattle.std.proofs.Common.{ap, sym, ◌∙◌}
use Rattle.sd_base.specs.Disk.{BlockState}
use Rattle.sd_base.specs.Shape.{page_count}
use Rattle.sd_base.specs.declared.device.NodeId.{NodeId}
use Rattle.sd_base.specs.declared.names.Key.{Key}
use Rattle.sd_base.specs.declared.names.PageNo.{PageNo}
use Rattle.sd_base.specs.declared.names.TxnId.{TxnId}
use Rattle.sd_base.specs.Places.{map_of_key, page_of_place, slot_of_key}
use Rattle.page_image.specs.declared.page_view.PageView.{PageView}
use Rattle.space_map.specs.Entry.{is_free}
use Rattle.space_map.specs.Image.{MapImage}
use Rattle.record_locks.specs.declared.mode.Mode.TheVariants as locks
use Rattle.record_locks.specs.Answer.{lock_answer, may_take}
use Rattle.script_text.specs.declared.reply.Reply.{Reply}
use Rattle.script_text.specs.declared.reply.Reply.TheVariants as says
use Rattle.record_machine.specs.Machine.{Machine, free_place, home, new_home, seen}
use Rattle.record_machine.specs.Commands.{first_of, no_page, where_so}
use Rattle.record_machine.specs.Commands as wants
use Rattle.compensation.specs.Inverse.{content}
use Rattle.txn_core.specs.declared.change.Change as txn
use Rattle.store_nodes.specs.declared.store.Store.{Store}
use Rattle.store_nodes.specs.Known as known
use Rattle.store_nodes.specs.Known.{checked}
use Rattle.store_nodes.specs.Nodes.{IsPlace, IsStore, is_up, node_at}
use Rattle.store_nodes.specs.Pages.{ShowsData, ShowsMap}
use Rattle.store_nodes.specs.Shows.{IsShown}
use Rattle.store_commands.specs.Changing.{length_refusal, new_place, why_full}
use Rattle.store_commands.proofs.ShownImages.{data_ident_is, free_is, map_ident_is, map_of_key_is, up_room}
use Rattle.store_commands.proofs.ShownLocks.{blank_shown, seen_none, seen_there}
use Rattle.store_commands.proofs.Testing.{first_behind}

-- the place for a group that is found is a free one
pub place_found : (map : PageNo) (image : MapImage) (place : ℕ) → new_place map image ≡ Ok place → position is_free image.entries ≡ Some place
place_found map image place is = by (position is_free image.entries) refl
  where
    by : (o : Option ℕ) → position is_free image.entries ≡ o → position is_free image.entries ≡ Some place
    by None none = let never : Err (why_full map image) ≡ Ok place = sym (rw none refl) ∙ is in cc
    by (Some other) some = let same : Ok other ≡ Ok place = sym (rw some refl) ∙ is in let one : other ≡ place = cc in some ∙ ap Some one

-- ---- what the machine refuses a write for

pub there_refusal : (m : Machine) (n : NodeId) (key x : ℕ) (extra : Option Reply) → home m key ≡ Some x → no_page m n key extra ≡ first_of (wants.at_limit m x ∷ extra ∷ wants.no_room m n 2 ∷ [])
there_refusal m n key x extra is = rw is refl

module _ (m : Machine) (n : NodeId) (key : ℕ) (extra : Option Reply) (none : home m key ≡ None) where
  pub full_refusal : free_place m key ≡ None → no_page m n key extra ≡ first_of (wants.at_limit m (map_of_key m.shape key) ∷ Some (says.NoSpace (record { 0 = map_of_key m.shape key })) ∷ [])
  full_refusal full = rw (none, full) refl

  pub new_refusal : (place : ℕ) → free_place m key ≡ Some place
      → no_page m n key extra ≡ first_of (wants.at_limit m (map_of_key m.shape key) ∷ wants.at_limit m (page_of_place m.shape (map_of_key m.shape key) place) ∷ extra ∷ wants.no_room m n 3 ∷ [])
  new_refusal place free = rw (none, free) refl

-- why a map page has no place, as a test
full_test : (map : PageNo) (high : Bool) → first_of (where_so high (says.Limit map) ∷ Some (says.NoSpace map) ∷ []) ≡ Some (if high then says.Limit map else says.NoSpace map)
full_test map true = refl
full_test map false = refl

module _ (c : Store) (b : ℕ → BlockState) (m : Machine) (n : NodeId) (is : IsStore c) (node : IsPlace n.0) (up : is_up (node_at c.nodes n.0) ≡ true) (shown : IsShown c b m) where
  -- the tests of a page, of the value and of the room
  write_tests : (x : PageNo) (v : PageView) (need : ℕ) (extra : Option Reply) → c.shape.maps ≤ x.0 → x.0 < page_count c.shape → ShowsData c n.0 x v
      → first_of (wants.at_limit m x.0 ∷ extra ∷ wants.no_room m n need ∷ []) ≡ first_of (where_so (nat_le (2 ^ 63) v.ident) (says.Limit x) ∷ extra ∷ known.no_room c n need ∷ [])
  write_tests x v need extra far within has =
      ap (λ k. first_of (where_so (nat_le (2 ^ 63) k) (says.Limit x) ∷ extra ∷ wants.no_room m n need ∷ [])) (sym (data_ident_is c n.0 b m is node up shown x v far within has))
      ∙ ap (λ k. first_of (where_so (nat_le (2 ^ 63) v.ident) (says.Limit x) ∷ extra ∷ where_so (nat_lt k need) (says.LogFull need k) ∷ [])) (up_room c n.0 b m is node up shown)

  -- the place for a group that has none
  pub place_tests : (key : ℕ) (map : PageNo) (image : MapImage) (extra : Option Reply) (why : Reply) → home m key ≡ None → map.0 ≡ map_of_key c.shape key → map.0 < c.shape.maps → ShowsMap c n.0 map image → new_place map image ≡ Err why
      → (no_page m n key extra ≡ Some why) × (new_home m key ≡ None)
  place_tests key map image extra why none at near has failed = by (position is_free image.entries) refl
    where
      number : map_of_key m.shape key ≡ map.0
      number = map_of_key_is c n.0 b m is node up shown key ∙ sym at

      by : (o : Option ℕ) → position is_free image.entries ≡ o → (no_page m n key extra ≡ Some why) × (new_home m key ≡ None)
      by None full_is =
          let same : Err (why_full map image) ≡ Err why = sym (rw full_is refl) ∙ failed in
          let one : why_full map image ≡ why = cc in
          let full : free_place m key ≡ None = free_is c n.0 b m is node up shown key map image at near has ∙ full_is in (
            full_refusal m n key extra none full ∙ ap (λ k. first_of (wants.at_limit m k ∷ Some (says.NoSpace (record { 0 = k })) ∷ [])) number
                ∙ ap (λ i. first_of (where_so (nat_le (2 ^ 63) i) (says.Limit map) ∷ Some (says.NoSpace map) ∷ [])) (sym (map_ident_is c n.0 b m is node up shown map image near has)) ∙ full_test map (nat_le (2 ^ 63) image.ident) ∙ ap Some one,
            ap (option_map (page_of_place m.shape (map_of_key m.shape key))) full,
          )
      by (Some place) place_is = let never : Ok place ≡ Err why = sym (rw place_is refl) ∙ failed in cc

  pub new_tests : (key place : ℕ) (map : PageNo) (image : MapImage) (extra : Option Reply) → home m key ≡ None → map.0 ≡ map_of_key c.shape key → map.0 < c.shape.maps → ShowsMap c n.0 map image → new_place map image ≡ Ok place
      → (free_place m key ≡ Some place) × (map_of_key m.shape key ≡ map.0) × (new_home m key ≡ Some (page_of_place c.shape map.0 place)) × (no_page m n key extra ≡ first_of (wants.at_limit m map.0 ∷ wants.at_limit m (page_of_place c.shape map.0 place) ∷ extra ∷ wants.no_room m n 3 ∷ []))
  new_tests key place map image extra none at near has found =
      let number : map_of_key m.shape key ≡ map.0 = map_of_key_is c n.0 b m is node up shown key ∙ sym at in
      let free : free_place m key ≡ Some place = free_is c n.0 b m is node up shown key map image at near has ∙ place_found map image place found in
      let maps : m.shape.maps ≡ c.shape.maps = ap (λ t. t.maps) shown.1.nodes.shape in
      let page : page_of_place m.shape (map_of_key m.shape key) place ≡ page_of_place c.shape map.0 place = ap (λ k. page_of_place m.shape k place) number ∙ ap (λ k. k + 252 * map.0 + place) maps in
      let tests = new_refusal m n key extra none place free ∙ ap (λ x. first_of (wants.at_limit m (map_of_key m.shape key) ∷ wants.at_limit m x ∷ extra ∷ wants.no_room m n 3 ∷ [])) page in
      (free, number, ap (option_map (page_of_place m.shape (map_of_key m.shape key))) free ∙ ap Some page, tests ∙ ap (λ k. first_of (wants.at_limit m k ∷ wants.at_limit m (page_of_place c.shape map.0 place) ∷ extra ∷ wants.no_room m n 3 ∷ [])) number)

-- ---- the tests of a transaction's write

module _ (c : Store) (b : ℕ → BlockState) (m : Machine) (t : TxnId) (is : IsStore c) (node : IsPlace t.node.0) (up : is_up (node_at c.nodes t.node.0) ≡ true) (shown : IsShown c b m) (key : Key) (what : txn.Change) where
  -- of a record, in the page that its group has
  pub tested_there : (x : PageNo) (v : PageView) → IsTrue (may_take (lock_answer c.shared.locks key t locks.Write)) → home m key.0 ≡ Some x.0
      → c.shape.maps ≤ x.0 → x.0 < page_count c.shape → ShowsData c t.node.0 x v
      → checked (first_of (wants.at_limit m x.0 ∷ length_refusal what (seen m t key.0) ∷ wants.no_room m t.node 2 ∷ [])) ≡ checked (first_of (where_so (nat_le (2 ^ 63) v.ident) (says.Limit x) ∷ length_refusal what (content v (slot_of_key key.0)) ∷ known.no_room c t.node 2 ∷ []))
  tested_there x v free here far within has =
      ap checked (write_tests c b m t.node is node up shown x v 2 (length_refusal what (seen m t key.0)) far within has
      ∙ ap (λ o. first_of (where_so (nat_le (2 ^ 63) v.ident) (says.Limit x) ∷ length_refusal what o ∷ known.no_room c t.node 2 ∷ [])) (sym (seen_there c t.node.0 b m is node up key t locks.Write x v free here far within has shown)))

  -- and of one in the page that its group gets, with the map page that gives it
  pub tested_new : (place : ℕ) (map : PageNo) (image : MapImage) (x : PageNo) (v : PageView) → home m key.0 ≡ None → free_place m key.0 ≡ Some place
      → new_home m key.0 ≡ Some x.0 → map.0 < c.shape.maps → ShowsMap c t.node.0 map image → c.shape.maps ≤ x.0 → x.0 < page_count c.shape → ShowsData c t.node.0 x v
      → first_of (wants.at_limit m map.0 ∷ wants.at_limit m x.0 ∷ length_refusal what (seen m t key.0) ∷ wants.no_room m t.node 3 ∷ [])
      ≡ first_of (where_so (nat_le (2 ^ 63) image.ident) (says.Limit map) ∷ where_so (nat_le (2 ^ 63) v.ident) (says.Limit x) ∷ length_refusal what (content v (slot_of_key key.0)) ∷ known.no_room c t.node 3 ∷ [])
  tested_new place map image x v none free page near has_map far within has =
      ap (λ i. first_of (where_so (nat_le (2 ^ 63) i) (says.Limit map) ∷ wants.at_limit m x.0 ∷ length_refusal what (seen m t key.0) ∷ wants.no_room m t.node 3 ∷ [])) (sym (map_ident_is c t.node.0 b m is node up shown map image near has_map))
      ∙ first_behind (where_so (nat_le (2 ^ 63) image.ident) (says.Limit map)) _ _
      (write_tests c b m t.node is node up shown x v 3 (length_refusal what (seen m t key.0)) far within has
      ∙ ap (λ o. first_of (where_so (nat_le (2 ^ 63) v.ident) (says.Limit x) ∷ length_refusal what o ∷ known.no_room c t.node 3 ∷ [])) (seen_none c b m key.0 t none shown ∙ sym (blank_shown c t.node.0 b m is node up key.0 place x v free page far within has shown)))
