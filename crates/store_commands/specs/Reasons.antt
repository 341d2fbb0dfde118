-- Why a command on a record gives another answer than that it is done, whatever its devices hold.
use Rattle.std.specs.Prelude.{◌≡◌, ◌⊎◌, ◌^◌, ◌≤◌, ◌<◌, ℕ, List, Option, Some, None}
use Rattle.std.specs.List.{position}
use Rattle.sd_base.specs.declared.names.Key.{Key}
use Rattle.sd_base.specs.declared.names.PageNo.{PageNo}
use Rattle.sd_base.specs.declared.shape.Shape.{Shape}
use Rattle.sd_base.specs.Places.{group_of, map_of_key, page_of_place, slot_of_key}
use Rattle.page_image.specs.declared.page_view.PageView.{PageView}
use Rattle.space_map.specs.Entry.{is_free, is_used_by}
use Rattle.space_map.specs.Image.{MapImage}
use Rattle.compensation.specs.Inverse.{content}
use Rattle.script_text.specs.declared.reply.Reply.{Reply}
use Rattle.script_text.specs.declared.reply.Reply.TheVariants as says
use Rattle.txn_core.specs.declared.change.Change.{Change}
use Rattle.store_nodes.specs.declared.store.Store.{Store}
use Rattle.store_nodes.specs.Nodes.{node_at}
use Rattle.store_nodes.specs.Pages.{ShowsData, ShowsMap, room_in}
use Rattle.store_commands.specs.Changing.{length_refusal}

-- A page that a command on a key may need: the map page of its group, or a data page whose entry that has.
abbrev pub IsPageFor : Shape → Key → PageNo → Type 0
IsPageFor s key x = (x.0 ≡ map_of_key s key.0) ⊎ ((place : ℕ) × (place ≤ 251) × (x.0 ≡ page_of_place s (map_of_key s key.0) place))

-- ---- what a write is refused for

-- the identifier of the page, which node n has cached, is at its limit
abbrev pub IsAtLimit : Store → ℕ → PageNo → Type 0
IsAtLimit c n x = ((image : MapImage) × ShowsMap c n x image × (2 ^ 63 ≤ image.ident)) ⊎ ((v : PageView) × ShowsData c n x v × (2 ^ 63 ≤ v.ident))

-- no place of the map page, which it has cached, is the group's
abbrev pub HasNoPage : Store → ℕ → Key → Type 0
HasNoPage c n key = (image : MapImage) × ShowsMap c n (record { 0 = map_of_key c.shape key.0 }) image × (position (is_used_by (group_of key.0)) image.entries ≡ None)

-- all places of the map page, which it has cached, are used
abbrev pub HasNoPlace : Store → ℕ → PageNo → Type 0
HasNoPlace c n x = (image : MapImage) × ShowsMap c n x image × (position is_free image.entries ≡ None)

-- The change, of a record of the key, is refused for what node n has in memory as the command leaves it. Its log is to have
-- room for the write and the end of its transaction, and where the group has no page for that too.
abbrev pub IsWriteRefusal : Store → ℕ → Key → Change → Reply → Type 0
IsWriteRefusal c n key what (says.Limit x) = IsPageFor c.shape key x × IsAtLimit c n x
IsWriteRefusal c n key what (says.NoSpace x) = (x.0 ≡ map_of_key c.shape key.0) × HasNoPlace c n x × HasNoPage c n key
IsWriteRefusal c n key what (says.TooLong len) = (x : PageNo) × IsPageFor c.shape key x × (v : PageView) × ShowsData c n x v × (length_refusal what (content v (slot_of_key key.0)) ≡ Some (says.TooLong len))
IsWriteRefusal c n key what (says.LogFull need room) = ((need ≡ 2) ⊎ ((need ≡ 3) × HasNoPage c n key)) × (room ≡ room_in (node_at c.nodes n)) × (room < need)
IsWriteRefusal c n key what reply = ⊥

-- ---- what is found

-- What node n has in memory says so of the record: its group has no page, or the page shows it, or that there is none.
abbrev pub IsFoundIn : Store → ℕ → Key → Option (List ℕ) → Type 0
IsFoundIn c n key found = ((found ≡ None) × HasNoPage c n key) ⊎ ((x : PageNo) × IsPageFor c.shape key x × (v : PageView) × ShowsData c n x v × (found ≡ content v (slot_of_key key.0)))
