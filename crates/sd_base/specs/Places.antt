-- Where a record stands: its group and slot, the map page of the group, and the place that the group has there.
use Rattle.std.specs.Prelude.{◌+◌, ◌-◌, ◌*◌, ◌/◌, ◌%◌, ℕ, nat_lt, if◌then◌else◌}
use Rattle.sd_base.specs.Shape.{pages_per_map}
use Rattle.sd_base.specs.declared.names.GroupNo.{GroupNo}
use Rattle.sd_base.specs.declared.names.PageNo.{PageNo}
use Rattle.sd_base.specs.declared.shape.Shape.{Shape}

-- how many keys are a group: as many as a data page has slots
abbrev pub keys_per_group : ℕ
keys_per_group = 16

-- the group of a key
abbrev pub group_of : ℕ → GroupNo
group_of key = record { 0 = key / keys_per_group }

-- the slot of a key in the page of its group
abbrev pub slot_of_key : ℕ → ℕ
slot_of_key key = key % keys_per_group

-- the first key of a group
abbrev pub first_key : ℕ → ℕ
first_key group = keys_per_group * group

-- the map page that may have an entry for a group
abbrev pub map_of_group : Shape → GroupNo → ℕ
map_of_group s g = g.0 % s.maps

-- that of the group of a key
abbrev pub map_of_key : Shape → ℕ → ℕ
map_of_key s key = map_of_group s (group_of key)

-- the map page that has the entry of a data page
abbrev pub map_of_data : Shape → PageNo → PageNo
map_of_data s x = record { 0 = (x.0 - s.maps) / pages_per_map }

-- the map page of any page: of a map page, the page itself
abbrev pub map_of_page : Shape → PageNo → PageNo
map_of_page s x = if nat_lt x.0 s.maps then x else map_of_data s x

-- the place of the entry of a data page in its map page
abbrev pub place_of_page : Shape → PageNo → ℕ
place_of_page s x = (x.0 - s.maps) % pages_per_map

-- the data page of a place of a map page
abbrev pub page_of_place : Shape → ℕ → ℕ → ℕ
page_of_place s map place = s.maps + pages_per_map * map + place
