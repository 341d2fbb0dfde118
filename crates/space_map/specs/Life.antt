-- The stale-image rule: which page an image of a data page stands for.
use Rattle.std.specs.Prelude.{◌≡◌, ◌+◌, ◌^◌, ◌≤◌, ℕ, List, All, length, replicate, Option, None, nat_lt, if◌then◌else◌}
use Rattle.std.specs.List.{flat_map}
use Rattle.sd_base.specs.Page.{page_text}
use Rattle.sd_base.specs.Slot.{FitsSlot, slot_text}
use Rattle.sd_base.specs.declared.names.PageNo.{PageNo}
use Rattle.space_map.specs.declared.map_entry.MapEntry.{MapEntry}
use Rattle.space_map.specs.Entry.{ident_of}

-- what a data page holds: its identifier, and a value or none in each slot
pub record DataPage : Type 0 where
  pub ident : ℕ
  pub slots : List (Option (List ℕ))

-- the data page with this identifier and no record
abbrev pub blank_page : ℕ → DataPage
blank_page ident = record { ident = ident; slots = replicate 16 None }

-- the page that an image stands for under its map entry. One whose identifier is below the entry's is
-- of an earlier life, and stands for the blank page with which the present one began
abbrev pub page_in_life : MapEntry → DataPage → DataPage
page_in_life e page = if nat_lt page.ident (ident_of e) then blank_page (ident_of e) else page

-- a data page: its identifier is in range, and it has sixteen slots, each with at most 248 bytes
pub record IsDataPage (page : DataPage) : Type 0 where
  pub ident : page.ident ≤ 2 ^ 63 + 2 ^ 40
  pub slots : length page.slots ≡ 16
  pub values : All FitsSlot page.slots

-- the block is the text of the data page x that holds this: a page of kind 2, whose body is its slots
pub record IsDataText (x : PageNo) (page : DataPage) (b : List ℕ) : Type 0 where
  pub image : IsDataPage page
  pub text : b ≡ page_text 2 x.0 page.ident (flat_map slot_text page.slots)
