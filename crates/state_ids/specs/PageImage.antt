-- Pages of both kinds and their texts, and which changes of them can be made.
use Rattle.std.specs.Prelude.{◌≤◌, ◌<◌, ◌+◌, ◌^◌, ℕ, List}
use Rattle.sd_base.specs.declared.page_op.PageOp.{PageOp}
use Rattle.sd_base.specs.declared.page_op.PageOp.TheVariants.{Put, Append, Cut, MapUse, MapFree}
use Rattle.page_image.specs.Image.{IsTextOf}
use Rattle.space_map.specs.Image.{IsMapText}
pub use Rattle.space_map.specs.PageImage.{PageImage, data_page, map_page, page_of, ident_of, is_map, is_map_op, changed, data_of, view_of, in_life}

-- these bytes are the text of the page
abbrev pub IsText : PageImage → List ℕ → Type 0
IsText (data_page v) bytes = IsTextOf v bytes
IsText (map_page m) bytes = IsMapText m bytes

-- a change of a slot or of a map entry, with its numbers in their ranges
abbrev pub IsPageOp : PageOp → Type 0
IsPageOp (Put slot after) = slot ≤ 15
IsPageOp (Append slot bytes) = slot ≤ 15
IsPageOp (Cut slot present len) = slot ≤ 15
IsPageOp (MapUse place group) = (place ≤ 251) × (group.0 ≤ 268435455)
IsPageOp (MapFree place ident) = (place ≤ 251) × (ident ≤ 2 ^ 63 + 2 ^ 40)

-- a change of a page that has this identifier can be made
abbrev pub IsInRange : ℕ → PageOp → Type 0
IsInRange ident op = (ident < 2 ^ 63 + 2 ^ 40) × IsPageOp op
