-- The entries of a map page, and their texts.
use Rattle.std.specs.Prelude.{◌≤◌, ◌+◌, ◌^◌, ◌==◌, ℕ, Bool, true, false, List, [], ◌∷◌, ◌++◌, slice_index, if◌then◌else◌}
use Rattle.byteorder.specs.Endian.{big_bytes}
use Rattle.sd_base.specs.Text.{number_at}
use Rattle.sd_base.specs.declared.names.GroupNo.{GroupNo}
use Rattle.space_map.specs.declared.map_entry.MapEntry.{MapEntry}
use Rattle.space_map.specs.declared.map_entry.MapEntry.TheVariants.{Free, Used}

-- the identifier of an entry
abbrev pub ident_of : MapEntry → ℕ
ident_of (Free ident) = ident
ident_of (Used group ident) = ident

-- no group has the page
abbrev pub is_free : MapEntry → Bool
is_free (Free ident) = true
is_free (Used group ident) = false

-- this group has the page
abbrev pub is_used_by : GroupNo → MapEntry → Bool
is_used_by g (Free ident) = false
is_used_by g (Used group ident) = group.0 == g.0

-- the numbers of an entry are in their ranges
abbrev pub IsEntry : MapEntry → Type 0
IsEntry (Free ident) = ident ≤ 2 ^ 63 + 2 ^ 40
IsEntry (Used group ident) = (group.0 ≤ 268435455) × (ident ≤ 2 ^ 63 + 2 ^ 40)

-- a state, three zero bytes, a group and an identifier
abbrev pub fields_text : ℕ → ℕ → ℕ → List ℕ
fields_text state group ident = (state ∷ 0 ∷ 0 ∷ 0 ∷ []) ++ big_bytes 4 group ++ big_bytes 8 ident

-- the text of an entry
abbrev pub entry_text : MapEntry → List ℕ
entry_text (Free ident) = fields_text 0 0 ident
entry_text (Used group ident) = fields_text 1 group.0 ident

abbrev group_in : List ℕ → GroupNo
group_in text = record { 0 = number_at 4 4 text }

-- what is read where an entry begins, whatever stands there
abbrev pub entry_of_text : List ℕ → MapEntry
entry_of_text text = if slice_index text 0 == 0 then Free (number_at 8 8 text) else Used (group_in text) (number_at 8 8 text)
