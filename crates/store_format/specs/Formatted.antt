-- What the devices of a store hold once it is formatted, whatever a stop leaves of them.
use Rattle.std.specs.Prelude.{◌≡◌, ◌⊎◌, ◌+◌, ◌≤◌, ◌<◌, ℕ, true, false, List, Option, Some}
use Rattle.sd_base.specs.Disk.{BlockState, MayHold, Holds}
use Rattle.sd_base.specs.Text.{zero_block}
use Rattle.sd_base.specs.Anchors.{anchor_text}
use Rattle.sd_base.specs.Supers.{super_text}
use Rattle.sd_base.specs.Shape.{first_page, page_count, disk_need, anchor_place, ring_place, first_image, vault_need}
use Rattle.sd_base.specs.declared.shape.Shape.{Shape}
use Rattle.page_image.specs.Image.{image_text, birth_image}
use Rattle.space_map.specs.Image.{map_text, birth_map}
use Rattle.store_format.specs.Device.{IsAllCovered, NarrowsAt}

-- the disk behind its super: each node's log is empty and starts with log block 0, and each page is as it is born
pub record IsBornDisk (s : Shape) (b : ℕ → BlockState) : Type 0 where
  pub anchors : (n : ℕ) → 1 ≤ n → n ≤ s.nodes → Holds b (anchor_place false s n) (Some (anchor_text false n 0))
  pub rings : (n number : ℕ) → 1 ≤ n → n ≤ s.nodes → Holds b (ring_place s n number) (Some zero_block)
  pub maps : (x : ℕ) → x < s.maps → Holds b (first_page s + x) (Some (map_text (birth_map (record { 0 = x }) s.birth)))
  pub pages : (x : ℕ) → s.maps ≤ x → x < page_count s → Holds b (first_page s + x) (Some (image_text (birth_image (record { 0 = x }) s.birth)))

-- the disk of a store that was formatted
pub record IsFormattedDisk (s : Shape) (b : ℕ → BlockState) : Type 0 where
  pub super : Holds b 0 (Some (super_text false s))
  pub born : IsBornDisk s b

-- the vault of a store that was formatted: no log block is kept, and no page has an image
pub record IsFormattedVault (s : Shape) (b : ℕ → BlockState) : Type 0 where
  pub super : Holds b 0 (Some (super_text true s))
  pub anchors : (n : ℕ) → 1 ≤ n → n ≤ s.nodes → Holds b (anchor_place true s n) (Some (anchor_text true n 0))
  pub images : (x : ℕ) → x < page_count s → Holds b (first_image s + x) (Some zero_block)

-- What a format does to the blocks of a disk, whatever it answers: block 0 has no new outcome but the super, no block
-- behind the store is touched, and none has an uncovered write.
pub record FormatsDisk (s : Shape) (old new : ℕ → BlockState) : Type 0 where
  pub super : (o : Option (List ℕ)) → MayHold new 0 o → MayHold old 0 o ⊎ (o ≡ Some (super_text false s))
  pub behind : (k : ℕ) → disk_need s ≤ k → new k ≡ old k
  pub quiet : IsAllCovered new

-- a block of the vault in which a log block may be kept, or one that the store doesn't need
abbrev pub IsSpare : Shape → ℕ → Type 0
IsSpare s k = ((s.nodes < k) × (k < first_image s)) ⊎ (vault_need s ≤ k)

-- What it does to the blocks of a vault.
pub record FormatsVault (s : Shape) (old new : ℕ → BlockState) : Type 0 where
  pub spare : (k : ℕ) → IsSpare s k → new k ≡ old k
  pub quiet : IsAllCovered new

-- What it does to the blocks of a disk where it has stopped all ports first.
pub record TakesDisk (s : Shape) (old new : ℕ → BlockState) : Type 0 where
  pub super : (o : Option (List ℕ)) → MayHold new 0 o → MayHold old 0 o ⊎ (o ≡ Some (super_text false s))
  pub behind : (k : ℕ) → disk_need s ≤ k → NarrowsAt k old new
  pub quiet : IsAllCovered new

-- And to those of a vault.
pub record TakesVault (s : Shape) (old new : ℕ → BlockState) : Type 0 where
  pub spare : (k : ℕ) → IsSpare s k → NarrowsAt k old new
  pub quiet : IsAllCovered new
