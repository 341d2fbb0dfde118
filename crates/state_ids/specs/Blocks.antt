-- What the calls on a page say of its block.
use Rattle.std.specs.Prelude.{◌≡◌, ◌≢◌, ◌+◌, ◌^◌, ◌≤◌, ◌<◌, ℕ, ⊤, List, Option, Some, None}
use Rattle.sd_base.specs.Disk.{BlockState}
use Rattle.sd_base.specs.Shape.{first_page}
use Rattle.sd_base.specs.declared.shape.Shape.{Shape}
use Rattle.sd_base.specs.declared.names.PageNo.{PageNo}
use Rattle.sd_base.specs.declared.fault.DevFault.{DevFault}
use Rattle.sd_base.specs.declared.fault.DevFault.TheVariants.{Stopped, Failed, Lost, Damaged}
use Rattle.space_map.specs.declared.map_entry.MapEntry.{MapEntry}
use Rattle.space_map.specs.Entry.{ident_of}
use Rattle.state_ids.specs.Held.{Shows}
use Rattle.state_ids.specs.PageImage.{PageImage, page_of, IsText, data_page, map_page}

-- the block of a page
abbrev pub page_place : Shape → PageNo → ℕ
page_place s x = first_page s + x.0

-- the page x is of the kind that its number says: the first pages of a store are map pages
abbrev pub IsOfKind : Shape → PageImage → Type 0
IsOfKind s (data_page v) = s.maps ≤ v.page.0
IsOfKind s (map_page m) = m.page.0 < s.maps

-- what a block holds is the page x
abbrev pub HoldsPage : Shape → PageNo → PageImage → Option (List ℕ) → Type 0
HoldsPage s x image content = (bytes : List ℕ) × (content ≡ Some bytes) × IsText image bytes × (page_of image ≡ x) × IsOfKind s image

-- a frame of a pool holds the page x
abbrev pub ShowsPage : Shape → PageNo → List (Option (List ℕ)) → ℕ → Type 0
ShowsPage s x pool frame = (image : PageImage) × Shows pool frame image × (page_of image ≡ x) × IsOfKind s image

-- why a page isn't loaded: its port stopped or failed, or its block is lost or damaged
abbrev pub IsPageFault : Shape → PageNo → ℕ → DevFault → Type 0
IsPageFault s x port (Stopped n) = n.0 ≡ port
IsPageFault s x port (Failed n) = n.0 ≡ port
IsPageFault s x port (Lost at) = at.0 ≡ page_place s x
IsPageFault s x port (Damaged at) = at.0 ≡ page_place s x

-- a block that is said to be lost is, and one that is said to be damaged is no image of the page
abbrev pub IsToldOfPage : Shape → PageNo → Option (List ℕ) → DevFault → Type 0
IsToldOfPage s x content (Stopped n) = ⊤
IsToldOfPage s x content (Failed n) = ⊤
IsToldOfPage s x content (Lost at) = content ≡ None
IsToldOfPage s x content (Damaged at) = (content ≢ None) × ((image : PageImage) → ¬ (HoldsPage s x image content))

-- the port has no uncovered write
abbrev pub HasSettled : ℕ → (ℕ → BlockState) → Type 0
HasSettled port b = (k : ℕ) → (b k).writer ≢ Some port

-- P unless the port stopped or failed
abbrev pub UnlessStopped : DevFault → Type 0 → Type 0
UnlessStopped (Stopped n) P = ⊤
UnlessStopped (Failed n) P = ⊤
UnlessStopped (Lost at) P = P
UnlessStopped (Damaged at) P = P

-- the map entry of a page is given for data pages alone, and in its range
abbrev pub FitsPage : Shape → PageNo → Option MapEntry → Type 0
FitsPage s x None = ⊤
FitsPage s x (Some e) = (s.maps ≤ x.0) × (ident_of e ≤ 2 ^ 63 + 2 ^ 40)
