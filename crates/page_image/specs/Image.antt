-- Data pages and their texts.
use Rattle.std.specs.Prelude.{◌≡◌, ◌+◌, ◌*◌, ◌^◌, ◌≤◌, ◌<◌, ℕ, List, All, length, drop, replicate, None, slice_index_or}
use Rattle.std.specs.List.{flat_map}
use Rattle.sd_base.specs.Page.{page_text, header_ident}
use Rattle.sd_base.specs.declared.names.PageNo.{PageNo}
use Rattle.page_image.specs.declared.page_view.PageView.{PageView}
use Rattle.page_image.specs.Slot.{slot_text, slot_of_text, FitsSlot}

-- the text of a data page: a page of kind 2, whose body is its slots
unfoldable pub image_text : PageView → List ℕ
image_text v = page_text 2 v.page.0 v.ident (flat_map slot_text v.slots)

-- a data page: its identifier is in range, and it has sixteen slots, each with at most 248 bytes
pub record IsImage (v : PageView) : Type 0 where
  pub ident : v.ident ≤ 2 ^ 63 + 2 ^ 40
  pub slots : length v.slots ≡ 16
  pub values : All FitsSlot v.slots

-- the block is the text of this data page
pub record IsTextOf (v : PageView) (b : List ℕ) : Type 0 where
  pub image : IsImage v
  pub text : b ≡ image_text v

-- the data page as it is born: no slot holds a record
abbrev pub birth_image : PageNo → ℕ → PageView
birth_image x ident = record { page = x; ident = ident; slots = replicate 16 None }

-- these identifier and slots are read at the places of a data page
pub record HasFields (v : PageView) (b : List ℕ) : Type 0 where
  pub ident : v.ident ≡ header_ident b
  pub count : length v.slots ≡ 16
  pub slots : (k : ℕ) → k < 16 → slice_index_or v.slots k None ≡ slot_of_text (drop (64 + 252 * k) b)
