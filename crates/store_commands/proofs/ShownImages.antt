-- What a node that is up has cached is what the machine says of the page.
use Rattle.std.specs.Prelude.{◌≡◌, ◌≤◌, ◌<◌, ℕ, true, Some, option_map}
use Rattle.std.specs.List.{position}
use Rattle.std.proofs.Common.{arith, ap, subst, sym, ◌∙◌}
use Rattle.sd_base.specs.Disk.{BlockState}
use Rattle.sd_base.specs.Shape.{page_count}
use Rattle.sd_base.specs.declared.names.PageNo.{PageNo}
use Rattle.sd_base.specs.Places.{group_of, map_of_key, page_of_place}
use Rattle.page_image.specs.declared.page_view.PageView.{PageView}
use Rattle.space_map.specs.Entry.{is_free, is_used_by}
use Rattle.space_map.specs.Image.{MapImage}
use Rattle.space_map.specs.PageImage.{map_page}
use Rattle.state_ids.specs.Held.{Shows}
use Rattle.state_ids.proofs.OneImage.{one_shown}
use Rattle.txn_core.specs.Updates.{HasPage}
use Rattle.record_machine.specs.Machine.{Machine, free_place, home, room}
use Rattle.store_nodes.specs.declared.node.Node.{Node}
use Rattle.store_nodes.specs.declared.node.Node.TheVariants.{Down, Idle, Up}
use Rattle.store_nodes.specs.declared.store.Store.{Store}
use Rattle.store_nodes.specs.Nodes.{IsNode, IsPlace, IsStore, OnUp, is_up, node_at}
use Rattle.store_nodes.specs.Pages.{HasMap, ShowsData, ShowsMap, room_in}
use Rattle.store_nodes.specs.Shows.{IsShown, ShowsNode}
use Rattle.store_nodes.proofs.CachedImages.{data_shown, map_shown}
use Rattle.store_nodes.proofs.Living.{living}
use Rattle.store_nodes.proofs.Works.{up_most}
use Rattle.store_commands.proofs.Room.{room_shown}

-- two images of a cached map page are the same
pub one_image : (c : Store) (n : ℕ) (x : PageNo) (i j : MapImage) → is_up (node_at c.nodes n) ≡ true → ShowsMap c n x i → ShowsMap c n x j → i ≡ j
one_image c n x i j up a b = by (node_at c.nodes n) up a b
  where
    by : (node : Node) → is_up node ≡ true → OnUp node (λ k seats. HasMap c.shared.pool k.pages x i) → OnUp node (λ k seats. HasMap c.shared.pool k.pages x j) → i ≡ j
    by Idle up a b = cc
    by (Up k seats) up a b =
        let both : Some b.page ≡ Some a.page = sym b.there ∙ a.there in
        let same : b.page ≡ a.page = cc in
        let one : map_page i ≡ map_page j = one_shown c.shared.pool a.page.frame (map_page i) (map_page j) a.shows (subst (λ q. Shows c.shared.pool q.frame (map_page j)) same b.shows) (a.number ∙ sym b.number) in cc
    by Down up a b = cc

module _ (c : Store) (n : ℕ) (b : ℕ → BlockState) (m : Machine) (is : IsStore c) (place : IsPlace n) (up : is_up (node_at c.nodes n) ≡ true) (shown : IsShown c b m) where
  mine : ShowsNode c.shape c.shared.pool n (node_at c.nodes n) b shown.0 m
  mine = shown.1.nodes.node n place (up_most c.shape c.shared.pool c.shared.owners c.nodes is n place up)

  pub data_is : (x : PageNo) (v : PageView) → c.shape.maps ≤ x.0 → x.0 < page_count c.shape → ShowsData c n x v → v ≡ shown.0.pages x.0
  data_is x v far within has = by (node_at c.nodes n) up mine has
    where
      by : (node : Node) → is_up node ≡ true → ShowsNode c.shape c.shared.pool n node b shown.0 m → OnUp node (λ k seats. HasPage c.shared.pool k.pages x v) → v ≡ shown.0.pages x.0
      by Idle up node has = cc
      by (Up k seats) up node has = data_shown c.shape shown.0 c.shared.pool k.pages x v (living c.shape shown.0 m shown.1.nodes.shape shown.1.nodes.means.pages) far within node.1.cached has
      by Down up node has = cc

  pub map_is : (x : PageNo) (image : MapImage) → x.0 < c.shape.maps → ShowsMap c n x image → image ≡ shown.0.maps x.0
  map_is x image near has = by (node_at c.nodes n) up mine has
    where
      by : (node : Node) → is_up node ≡ true → ShowsNode c.shape c.shared.pool n node b shown.0 m → OnUp node (λ k seats. HasMap c.shared.pool k.pages x image) → image ≡ shown.0.maps x.0
      by Idle up node has = cc
      by (Up k seats) up node has = map_shown c.shape shown.0 c.shared.pool k.pages x image (living c.shape shown.0 m shown.1.nodes.shape shown.1.nodes.means.pages) near (omega (arith, near)) node.1.cached has
      by Down up node has = cc

  maps : m.shape.maps ≡ c.shape.maps
  maps = ap (λ t. t.maps) shown.1.nodes.shape

  -- its entries, and its identifier
  pub entries_is : (x : PageNo) (image : MapImage) → x.0 < c.shape.maps → ShowsMap c n x image → image.entries ≡ m.entries x.0
  entries_is x image near has = ap (λ i. i.entries) (map_is x image near has) ∙ shown.1.nodes.means.pages.entries x.0 (omega (arith, near, maps))

  pub map_ident_is : (x : PageNo) (image : MapImage) → x.0 < c.shape.maps → ShowsMap c n x image → image.ident ≡ m.ident x.0
  map_ident_is x image near has = ap (λ i. i.ident) (map_is x image near has) ∙ shown.1.nodes.means.pages.map_ident x.0 (omega (arith, near, maps))

  pub data_ident_is : (x : PageNo) (v : PageView) → c.shape.maps ≤ x.0 → x.0 < page_count c.shape → ShowsData c n x v → v.ident ≡ m.ident x.0
  data_ident_is x v far within has = ap (λ i. i.ident) (data_is x v far within has) ∙ shown.1.nodes.means.pages.ident x.0 (omega (arith, far, maps)) (omega (arith, within, maps))

  -- the map page of a key, the page of its group, and the place that it gets if it has none
  pub map_of_key_is : (key : ℕ) → map_of_key m.shape key ≡ map_of_key c.shape key
  map_of_key_is key = ap (λ s. map_of_key s key) shown.1.nodes.shape

  pub home_is : (key : ℕ) (map : PageNo) (image : MapImage) → map.0 ≡ map_of_key c.shape key → map.0 < c.shape.maps → ShowsMap c n map image
      → home m key ≡ option_map (page_of_place c.shape map.0) (position (is_used_by (group_of key)) image.entries)
  home_is key map image at near has =
      let number : map_of_key m.shape key ≡ map.0 = map_of_key_is key ∙ sym at in
      ap (λ k. option_map (page_of_place m.shape k) (position (is_used_by (group_of key)) (m.entries k))) number
      ∙ ap (λ es. option_map (page_of_place m.shape map.0) (position (is_used_by (group_of key)) es)) (sym (entries_is map image near has))
      ∙ ap (λ s. option_map (page_of_place s map.0) (position (is_used_by (group_of key)) image.entries)) shown.1.nodes.shape

  pub free_is : (key : ℕ) (map : PageNo) (image : MapImage) → map.0 ≡ map_of_key c.shape key → map.0 < c.shape.maps → ShowsMap c n map image → free_place m key ≡ position is_free image.entries
  free_is key map image at near has =
      ap (λ k. position is_free (m.entries k)) (map_of_key_is key ∙ sym at) ∙ ap (position is_free) (sym (entries_is map image near has))

  -- the room of its log
  pub up_room : room m n ≡ room_in (node_at c.nodes n)
  up_room = by (node_at c.nodes n) up (is.is n place) mine
    where
      by : (node : Node) → is_up node ≡ true → IsNode c.shape c.shared.pool c.shared.owners n node → ShowsNode c.shape c.shared.pool n node b shown.0 m → room m n ≡ room_in node
      by Idle up work node = cc
      by (Up d seats) up work node = room_shown n c.shape c.shared.pool d seats b shown.0 m work.store.shape shown.1.nodes.shape work.eight shown.1.nodes.means.logs node.1
      by Down up work node = cc
