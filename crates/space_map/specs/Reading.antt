-- What is read at the places of a map page, whatever stands there.
use Rattle.std.specs.Prelude.{◌+◌, ◌*◌, ℕ, List, map, drop}
use Rattle.std.specs.List.{range_with_len}
use Rattle.sd_base.specs.Page.{header_ident}
use Rattle.sd_base.specs.declared.names.PageNo.{PageNo}
use Rattle.space_map.specs.declared.map_entry.MapEntry.{MapEntry}
use Rattle.space_map.specs.Entry.{entry_of_text}
use Rattle.space_map.specs.Image.{MapImage}

-- what is read at the places of all entries
abbrev pub entries_at : List ℕ → List MapEntry
entries_at b = map (λ k. entry_of_text (drop (64 + 16 * k) b)) (range_with_len 0 252)

-- the map page that has what is read
abbrev pub image_at : PageNo → List ℕ → MapImage
image_at x b = record { page = x; ident = header_ident b; entries = entries_at b }
