-- What a node has in memory of what a command needs, and which pages make room for others.
use Rattle.std.specs.Prelude.{◌≡◌, ◌⊎◌, ◌<◌, ℕ, None, Option, IfSome}
use Rattle.std.specs.List.{position}
use Rattle.sd_base.specs.Disk.{BlockState}
use Rattle.sd_base.specs.Shape.{page_count}
use Rattle.sd_base.specs.declared.device.NodeId.{NodeId}
use Rattle.sd_base.specs.declared.names.Key.{Key}
use Rattle.sd_base.specs.declared.names.PageNo.{PageNo}
use Rattle.sd_base.specs.Places.{group_of, map_of_key, page_of_place}
use Rattle.page_owner.specs.Owners.{owner_of}
use Rattle.space_map.specs.Entry.{is_free, is_used_by}
use Rattle.space_map.specs.Image.{MapImage}
use Rattle.record_machine.specs.Machine.{Machine}
use Rattle.node_cache.specs.Room.{IsOpenTo}
use Rattle.store_nodes.specs.declared.store.Store.{Store}
use Rattle.store_nodes.specs.Footprint.{FillsNoBlock, IsFull, KeepsPage}
use Rattle.store_nodes.specs.Pages.{HasCached, ShowsMap}
use Rattle.store_commands.specs.Reasons.{IsPageFor}

-- node n has the data page of this place of a map page cached
abbrev pub HasPlace : Store → ℕ → ℕ → ℕ → Type 0
HasPlace c n map place = HasCached c n (record { 0 = page_of_place c.shape map place })

-- it has, and so many records can be logged in memory alone
abbrev pub CanWriteAt : Store → ℕ → ℕ → ℕ → ℕ → Type 0
CanWriteAt c n map count place = HasPlace c n map place × FillsNoBlock c n count

-- All that a change of the key's record needs is in the node's memory, if the record is there: the map page of its group,
-- and the page that the group has.
pub record IsAtHandToDelete (c : Store) (n key : ℕ) : Type 0 where
  pub image : MapImage
  pub map : ShowsMap c n (record { 0 = map_of_key c.shape key }) image
  pub used : IfSome (position (is_used_by (group_of key)) image.entries) (CanWriteAt c n (map_of_key c.shape key) 1)

-- And so is what a write needs: where the group has no page it goes into the first free one, which takes a record more to
-- come into use.
pub record IsAtHand (c : Store) (n key : ℕ) : Type 0 where
  pub there : IsAtHandToDelete c n key
  pub free : position (is_used_by (group_of key)) there.image.entries ≡ None → IfSome (position is_free there.image.entries) (CanWriteAt c n (map_of_key c.shape key) 2)

-- A page whose block has changed was in the node's cache before, and that is full now; or it is one that the key needs, and
-- another node had it, which wrote it as it gave it up.
abbrev pub MakesRoomWith : NodeId → Key → Store → Store → (ℕ → BlockState) → (ℕ → BlockState) → Type 0
MakesRoomWith n key c d old new = (y : PageNo) → y.0 < page_count c.shape → KeepsPage c.shape y old new ⊎ (HasCached c n.0 y × IsFull d n.0) ⊎ (IsPageFor c.shape key y × ¬ (IsOpenTo n (owner_of c.shared.owners y.0)))

-- the map page of the key's group is in the node's cache, and this page is, if there is one
abbrev pub HasBoth : Store → ℕ → Machine → ℕ → Option ℕ → Type 0
HasBoth c n m key x = HasCached c n (record { 0 = map_of_key m.shape key }) × IfSome x (λ y. HasCached c n (record { 0 = y }))
