-- The shape of a store: its numbers, and where its parts lie on a device.
use Rattle.std.specs.Prelude.{◌+◌, ◌-◌, ◌*◌, ◌%◌, ◌≤◌, ◌^◌, ℕ, Bool, true, false}
use Rattle.sd_base.specs.declared.shape.Shape.{Shape}

-- the numbers are in their ranges
pub record IsShape (s : Shape) : Type 0 where
  pub nodes : (1 ≤ s.nodes) × (s.nodes ≤ 8)
  pub ring : (4 ≤ s.ring) × (s.ring ≤ 4096)
  pub maps : (1 ≤ s.maps) × (s.maps ≤ 256)
  pub keep : (1 ≤ s.keep) × (s.keep ≤ 65536)
  pub birth : s.birth ≤ 2 ^ 63

-- how many data pages have their entries in a map page
abbrev pub pages_per_map : ℕ
pages_per_map = 252

-- the number of pages: each map page, and its data pages
abbrev pub page_count : Shape → ℕ
page_count s = (1 + pages_per_map) * s.maps

-- the block of page 0: behind the super and, for each node, its anchor and its ring
abbrev pub first_page : Shape → ℕ
first_page s = 1 + s.nodes * (s.ring + 1)

-- how many blocks the disk needs
abbrev pub disk_need : Shape → ℕ
disk_need s = first_page s + page_count s

-- the block of a node's anchor: on the vault behind the super, on the disk in front of the node's ring
abbrev pub anchor_place : Bool → Shape → ℕ → ℕ
anchor_place true s n = n
anchor_place false s n = 1 + (n - 1) * (s.ring + 1)

-- the block of the disk in which the log block of a node with this number stands: the blocks of a ring are taken in turns
abbrev pub ring_place : Shape → ℕ → ℕ → ℕ
ring_place s n number = anchor_place false s n + 1 + number % s.ring

-- the block of the vault for the image of page 0: behind the super, the nodes' anchors, and the log blocks that are kept of each node
abbrev pub first_image : Shape → ℕ
first_image s = 1 + s.nodes + s.nodes * s.keep

-- how many blocks the vault needs
abbrev pub vault_need : Shape → ℕ
vault_need s = first_image s + page_count s
