-- Pages of both kinds, as plain values: what a change makes of a page, and which page an image stands for.
use Rattle.std.specs.Prelude.{ℕ, Bool, true, false, Option, Some, None}
use Rattle.sd_base.specs.declared.names.PageNo.{PageNo}
use Rattle.sd_base.specs.declared.page_op.PageOp.{PageOp}
use Rattle.sd_base.specs.declared.page_op.PageOp.TheVariants.{Put, Append, Cut, MapUse, MapFree}
use Rattle.page_image.specs.declared.page_view.PageView.{PageView}
use Rattle.page_image.specs.Change.{applied}
use Rattle.space_map.specs.declared.map_entry.MapEntry.{MapEntry}
use Rattle.space_map.specs.Image.{MapImage}
use Rattle.space_map.specs.Change.{applied_map}
use Rattle.space_map.specs.Life.{DataPage, page_in_life}

-- a page: a data page, or a map page
pub data PageImage : Type 0 where
  data_page : PageView → PageImage
  map_page : MapImage → PageImage

-- the page's number
abbrev pub page_of : PageImage → PageNo
page_of (data_page v) = v.page
page_of (map_page m) = m.page

-- the page's identifier
abbrev pub ident_of : PageImage → ℕ
ident_of (data_page v) = v.ident
ident_of (map_page m) = m.ident

-- a change of an entry
abbrev pub is_map_op : PageOp → Bool
is_map_op (Put slot after) = false
is_map_op (Append slot bytes) = false
is_map_op (Cut slot present len) = false
is_map_op (MapUse place group) = true
is_map_op (MapFree place ident) = true

-- whether a page is a map page
abbrev pub is_map : PageImage → Bool
is_map (data_page v) = false
is_map (map_page m) = true

-- the page after a change
abbrev pub changed : PageOp → PageImage → PageImage
changed op (data_page v) = data_page (applied op v)
changed op (map_page m) = map_page (applied_map op m)

-- what a data page holds besides its number, and the data page that has a number and holds this
abbrev pub data_of : PageView → DataPage
data_of v = record { ident = v.ident; slots = v.slots }

abbrev pub view_of : PageNo → DataPage → PageView
view_of x page = record { page = x; ident = page.ident; slots = page.slots }

-- the page that an image stands for: of a data page under its map entry, where that is known
abbrev pub in_life : Option MapEntry → PageImage → PageImage
in_life None image = image
in_life (Some e) (data_page v) = data_page (view_of v.page (page_in_life e (data_of v)))
in_life (Some e) (map_page m) = map_page m
