-- The places of a cache.
use Rattle.std.specs.Prelude.{◌≡◌, Bool, false, ◌-◌, ◌++◌, ◌≤◌, ℕ, List, [], ◌∷◌, Option, Some, None, map, replicate, length, take, drop, slice_index_or, ◌<◌, ◌⊎◌}
use Rattle.node_cache.specs.declared.slot.Slot.{Slot}
use Rattle.node_cache.specs.declared.slot.Slot.TheVariants.{Clean, Dirty}
use Rattle.sd_base.specs.declared.names.PageNo.{PageNo}
use Rattle.node_cache.specs.Cache.{CachedPage, is_page, written_back}

-- what a place holds
abbrev pub shown : Slot → CachedPage
shown (Clean page entry) = record { ticket = page.ticket; frame = page.frame; entry = entry; changes = None }
shown (Dirty page entry first) = record { ticket = page.ticket; frame = page.frame; entry = entry; changes = Some (record { first = first; last = page.last }) }

-- what stands in the filled places, which come first
abbrev pub filled : List (Option Slot) → List Slot
filled [] = []
filled (None ∷ rest) = []
filled (Some x ∷ rest) = x ∷ filled rest

-- the first places hold these, and so many more are free
abbrev pub packed : List Slot → ℕ → List (Option Slot)
packed xs free = map Some xs ++ replicate free None

-- the first places are filled, so many as `len` says, and the others are free
pub record IsPacked (slots : List (Option Slot)) (len : ℕ) : Type 0 where
  pub few : len ≤ 16
  pub count : length (filled slots) ≡ len
  pub packed : slots ≡ packed (filled slots) (16 - len)

-- whether a place holds the page x
abbrev pub is_in : PageNo → Option Slot → Bool
is_in x None = false
is_in x (Some slot) = is_page x (shown slot)

-- the pages from one place to another
abbrev pub between : ℕ → ℕ → List CachedPage → List CachedPage
between from to pages = take (to - from) (drop from pages)

-- the pages from one place to another were written, and no other ones
pub record IsWrittenWithin (from to : ℕ) (old new : List CachedPage) : Type 0 where
  pub count : length new ≡ length old
  pub inside : (i : ℕ) (d : CachedPage) → from ≤ i → i < to → i < length old → slice_index_or new i d ≡ written_back (slice_index_or old i d)
  pub outside : (i : ℕ) (d : CachedPage) → (i < from) ⊎ (to ≤ i) → slice_index_or new i d ≡ slice_index_or old i d
