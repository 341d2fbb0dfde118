-- Pages as the theory sees them: the slots of a data page, the entries of a map page, and what a change makes of one of them.
use Rattle.std.specs.Prelude.{◌≡◌, ◌≤◌, ◌<◌, ℕ, Bool, true, false, cond, ltb, List, [], ◌++◌, length, take, Option, Some, None, unwrap_or, slice_index_or}
use Rattle.sd_base.specs.Shape.{pages_per_map}
use Rattle.sd_base.specs.declared.names.PageNo.{PageNo}
use Rattle.sd_base.specs.declared.page_op.PageOp.{PageOp}
use Rattle.sd_base.specs.declared.page_op.PageOp.TheVariants.{Put, Append, Cut, MapUse, MapFree}
use Rattle.sd_base.specs.declared.shape.Shape.{Shape}
use Rattle.page_image.specs.Image.{birth_image}
use Rattle.space_map.specs.declared.map_entry.MapEntry.{MapEntry}
use Rattle.space_map.specs.declared.map_entry.MapEntry.TheVariants.{Free, Used}
use Rattle.space_map.specs.Entry as entry
use Rattle.space_map.specs.Image.{birth_map}
use Rattle.space_map.specs.PageImage.{PageImage, data_page, map_page, ident_of, in_life}

-- the page with this number
abbrev pub page_named : ℕ → PageNo
page_named x = record { 0 = x }

-- ---- slots

-- what a slot of a data page holds
abbrev pub SlotValue : Type 0
SlotValue = Option (List ℕ)

-- what a slot of the page holds; a map page has none
abbrev pub slots_of : PageImage → ℕ → SlotValue
slots_of (data_page v) s = slice_index_or v.slots s None
slots_of (map_page m) s = None

-- ---- entries

-- the entry at a place of the page; a data page has none
abbrev pub entries_of : PageImage → ℕ → MapEntry
entries_of (data_page v) q = Free 0
entries_of (map_page m) q = slice_index_or m.entries q (Free 0)

-- the identifier with which the life of the entry's page began, or begins next
abbrev pub birth_of : MapEntry → ℕ
birth_of e = entry.ident_of e

-- some group has the page
abbrev pub is_used : MapEntry → Bool
is_used (Free ident) = false
is_used (Used group ident) = true

-- the group that has the page, where one has
abbrev pub entry_group : MapEntry → ℕ
entry_group (Free ident) = 0
entry_group (Used group ident) = group.0

-- ---- changes

-- the slot or the place that a change names
abbrev pub place_of : PageOp → ℕ
place_of (Put slot after) = slot
place_of (Append slot bytes) = slot
place_of (Cut slot present len) = slot
place_of (MapUse place group) = place
place_of (MapFree place ident) = place

-- a change of a slot, whose number is in range
abbrev pub IsSlotChange : PageOp → Type 0
IsSlotChange (Put slot after) = slot < 16
IsSlotChange (Append slot bytes) = slot < 16
IsSlotChange (Cut slot present len) = slot < 16
IsSlotChange (MapUse place group) = ⊥
IsSlotChange (MapFree place ident) = ⊥

-- what a change makes of the slot that it names
abbrev pub slot_after : PageOp → SlotValue → SlotValue
slot_after (Put slot after) v = after
slot_after (Append slot bytes) v = Some (take 248 (unwrap_or v [] ++ bytes))
slot_after (Cut slot present len) v = cond present (Some (take len (unwrap_or v []))) None
slot_after (MapUse place group) v = v
slot_after (MapFree place ident) v = v

-- what a change makes of the entry that it names
abbrev pub entry_after : PageOp → MapEntry → MapEntry
entry_after (Put slot after) e = e
entry_after (Append slot bytes) e = e
entry_after (Cut slot present len) e = e
entry_after (MapUse place group) e = Used group (birth_of e)
entry_after (MapFree place ident) e = Free ident

-- ---- images

-- the data page without a record
abbrev pub blank : ℕ → ℕ → PageImage
blank x ident = data_page (birth_image (page_named x) ident)

-- The page that an image of page x stands for, where its life began with this identifier: an image below it is of an earlier
-- life, and stands for the blank page with which the present one began. A map page has one life, which began with 0.
abbrev pub in_life_from : ℕ → ℕ → PageImage → PageImage
in_life_from x birth i = cond (ltb (ident_of i) birth) (blank x birth) i

-- the image of page x as the store is formatted
abbrev pub formatted_page : Shape → ℕ → PageImage
formatted_page s x = cond (ltb x s.maps) (map_page (birth_map (page_named x) s.birth)) (blank x s.birth)

-- an image of page x: its kind, its number, and as many slots or entries as it has
abbrev pub IsImageOf : Shape → ℕ → PageImage → Type 0
IsImageOf s x (data_page v) = (s.maps ≤ x) × (v.page.0 ≡ x) × (length v.slots ≡ 16)
IsImageOf s x (map_page m) = (x < s.maps) × (m.page.0 ≡ x) × (length m.entries ≡ pages_per_map)

-- ---- laws

-- a data page has the life that its map entry says, and a map page has one life
abbrev pub LifeIsOfItsEntry : Type 0
LifeIsOfItsEntry = (s : Shape) (x : ℕ) (e : MapEntry) (i : PageImage) → IsImageOf s x i → (s.maps ≤ x → in_life_from x (birth_of e) i ≡ in_life (Some e) i) × (x < s.maps → in_life_from x 0 i ≡ i)
