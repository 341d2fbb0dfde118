-- What a change, and the life of a page, leave of a page.
use Rattle.std.specs.Prelude.{◌≡◌, ◌+◌, true, false, Option, Some, None, refl}
use Rattle.sd_base.specs.declared.page_op.PageOp.{PageOp}
use Rattle.sd_base.specs.declared.page_op.PageOp.TheVariants.{Put, Append, Cut, MapUse, MapFree}
use Rattle.space_map.specs.declared.map_entry.MapEntry.{MapEntry}
use Rattle.space_map.specs.PageImage.{PageImage, data_page, map_page, page_of, ident_of, is_map, changed, in_life}

-- a change leaves the number and the kind of a page
pub changed-page : (op : PageOp) (image : PageImage) → page_of (changed op image) ≡ page_of image
changed-page (Put slot after) (data_page v) = refl
changed-page (Append slot bytes) (data_page v) = refl
changed-page (Cut slot true len) (data_page v) = refl
changed-page (Cut slot false len) (data_page v) = refl
changed-page (MapUse place group) (data_page v) = refl
changed-page (MapFree place ident) (data_page v) = refl
changed-page (Put slot after) (map_page m) = refl
changed-page (Append slot bytes) (map_page m) = refl
changed-page (Cut slot present len) (map_page m) = refl
changed-page (MapUse place group) (map_page m) = refl
changed-page (MapFree place ident) (map_page m) = refl

pub changed-map : (op : PageOp) (image : PageImage) → is_map (changed op image) ≡ is_map image
changed-map op (data_page v) = refl
changed-map op (map_page m) = refl

-- the identifier of a page counts its changes
pub changed-ident : (op : PageOp) (image : PageImage) → ident_of (changed op image) ≡ ident_of image + 1
changed-ident (Put slot after) (data_page v) = refl
changed-ident (Append slot bytes) (data_page v) = refl
changed-ident (Cut slot true len) (data_page v) = refl
changed-ident (Cut slot false len) (data_page v) = refl
changed-ident (MapUse place group) (data_page v) = refl
changed-ident (MapFree place ident) (data_page v) = refl
changed-ident (Put slot after) (map_page m) = refl
changed-ident (Append slot bytes) (map_page m) = refl
changed-ident (Cut slot present len) (map_page m) = refl
changed-ident (MapUse place group) (map_page m) = refl
changed-ident (MapFree place ident) (map_page m) = refl

-- a page under its map entry keeps its number and its kind
pub in_life-page : (e : Option MapEntry) (image : PageImage) → page_of (in_life e image) ≡ page_of image
in_life-page None image = refl
in_life-page (Some e) (data_page v) = refl
in_life-page (Some e) (map_page m) = refl

pub in_life-map : (e : Option MapEntry) (image : PageImage) → is_map (in_life e image) ≡ is_map image
in_life-map None image = refl
in_life-map (Some e) (data_page v) = refl
in_life-map (Some e) (map_page m) = refl
