-- What a change does to a map page.
use Rattle.std.specs.Prelude.{◌+◌, ◌^◌, ◌≤◌, ℕ, slice_index_or, slice_set}
use Rattle.sd_base.specs.declared.page_op.PageOp.{PageOp}
use Rattle.sd_base.specs.declared.page_op.PageOp.TheVariants.{Put, Append, Cut, MapUse, MapFree}
use Rattle.space_map.specs.declared.map_entry.MapEntry.{MapEntry}
use Rattle.space_map.specs.declared.map_entry.MapEntry.TheVariants.{Free, Used}
use Rattle.space_map.specs.Entry.{ident_of}
use Rattle.space_map.specs.Image.{MapImage}

-- a change of a map entry, with its numbers in their ranges
abbrev pub IsMapOp : PageOp → Type 0
IsMapOp (Put slot after) = ⊥
IsMapOp (Append slot bytes) = ⊥
IsMapOp (Cut slot present len) = ⊥
IsMapOp (MapUse place group) = (place ≤ 251) × (group.0 ≤ 268435455)
IsMapOp (MapFree place ident) = (place ≤ 251) × (ident ≤ 2 ^ 63 + 2 ^ 40)

-- the identifier of the entry at a place
abbrev pub entry_ident : MapImage → ℕ → ℕ
entry_ident m place = ident_of (slice_index_or m.entries place (Free 0))

-- the map page with this entry at a place, and the next identifier
abbrev pub with_entry : ℕ → MapEntry → MapImage → MapImage
with_entry place e m = record m { ident = m.ident + 1; entries = slice_set m.entries place e }

-- The map page after a change: an entry that comes into use keeps its identifier, and one that becomes free gets a new one. Each
-- change gives the next identifier of the page, so that it counts the changes; one of a slot does nothing else.
abbrev pub applied_map : PageOp → MapImage → MapImage
applied_map (Put slot after) m = record m { ident = m.ident + 1 }
applied_map (Append slot bytes) m = record m { ident = m.ident + 1 }
applied_map (Cut slot present len) m = record m { ident = m.ident + 1 }
applied_map (MapUse place group) m = with_entry place (Used group (entry_ident m place)) m
applied_map (MapFree place ident) m = with_entry place (Free ident) m
