-- What a change does to a data page.
use Rattle.std.specs.Prelude.{◌+◌, ◌++◌, ℕ, ⊤, Bool, true, false, List, [], Option, Some, None, take, unwrap_or, slice_index_or, slice_set}
use Rattle.sd_base.specs.declared.page_op.PageOp.{PageOp}
use Rattle.sd_base.specs.declared.page_op.PageOp.TheVariants.{Put, Append, Cut, MapUse, MapFree}
use Rattle.page_image.specs.declared.page_view.PageView.{PageView}

-- a change of a slot, and not of a map entry
abbrev pub IsSlotOp : PageOp → Type 0
IsSlotOp (Put slot after) = ⊤
IsSlotOp (Append slot bytes) = ⊤
IsSlotOp (Cut slot present len) = ⊤
IsSlotOp (MapUse place group) = ⊥
IsSlotOp (MapFree place ident) = ⊥

-- the slot that a change writes
abbrev pub slot_of : PageOp → ℕ
slot_of (Put slot after) = slot
slot_of (Append slot bytes) = slot
slot_of (Cut slot present len) = slot
slot_of (MapUse place group) = 0
slot_of (MapFree place ident) = 0

-- the value in a slot of the page, where an absent one counts as empty
abbrev pub value_in : PageView → ℕ → List ℕ
value_in v slot = unwrap_or (slice_index_or v.slots slot None) []

-- the page with this in a slot, and the next identifier
abbrev pub with_put : ℕ → Option (List ℕ) → PageView → PageView
with_put slot after v = record v { ident = v.ident + 1; slots = slice_set v.slots slot after }

-- the page with these bytes behind a slot's value, of which the first 248 stay
abbrev pub with_append : ℕ → List ℕ → PageView → PageView
with_append slot bytes v = with_put slot (Some (take 248 (value_in v slot ++ bytes))) v

-- the page with the first bytes of a slot's value, or with the slot absent
abbrev pub with_cut : ℕ → Bool → ℕ → PageView → PageView
with_cut slot true len v = with_put slot (Some (take len (value_in v slot))) v
with_cut slot false len v = with_put slot None v

-- The page after a change. Each change gives the next identifier, so that a page's identifier counts its changes; one of a map
-- entry does nothing else.
abbrev pub applied : PageOp → PageView → PageView
applied (Put slot after) v = with_put slot after v
applied (Append slot bytes) v = with_append slot bytes v
applied (Cut slot present len) v = with_cut slot present len v
applied (MapUse place group) v = record v { ident = v.ident + 1 }
applied (MapFree place ident) v = record v { ident = v.ident + 1 }
