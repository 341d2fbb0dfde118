-- Map pages and their texts.
use Rattle.std.specs.Prelude.{◌≡◌, ◌+◌, ◌^◌, ◌≤◌, ℕ, List, All, length, replicate}
use Rattle.std.specs.List.{flat_map}
use Rattle.sd_base.specs.Page.{page_text}
use Rattle.sd_base.specs.declared.names.PageNo.{PageNo}
use Rattle.space_map.specs.declared.map_entry.MapEntry.{MapEntry}
use Rattle.space_map.specs.declared.map_entry.MapEntry.TheVariants.{Free}
use Rattle.space_map.specs.Entry.{IsEntry, entry_text}

-- what a map page holds: its number, its identifier, and an entry for each of its data pages
pub record MapImage : Type 0 where
  pub page : PageNo
  pub ident : ℕ
  pub entries : List MapEntry

-- a map page: its identifier is in range, and it has 252 entries, whose numbers are in range
pub record IsMapImage (m : MapImage) : Type 0 where
  pub ident : m.ident ≤ 2 ^ 63 + 2 ^ 40
  pub count : length m.entries ≡ 252
  pub entries : All IsEntry m.entries

-- the text of a map page: a page of kind 1, whose body is its entries
unfoldable pub map_text : MapImage → List ℕ
map_text m = page_text 1 m.page.0 m.ident (flat_map entry_text m.entries)

-- the block is the text of this map page
pub record IsMapText (m : MapImage) (b : List ℕ) : Type 0 where
  pub image : IsMapImage m
  pub text : b ≡ map_text m

-- the map page as it is born: each entry is free, with the page's own identifier
abbrev pub birth_map : PageNo → ℕ → MapImage
birth_map x ident = record { page = x; ident = ident; entries = replicate 252 (Free ident) }
