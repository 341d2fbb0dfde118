-- A part of a device.
use Rattle.std.specs.Prelude.{◌≡◌, ◌&&◌, ◌||◌, ◌+◌, ◌∷◌, ℕ, Bool, true, nat_le, nat_lt}
use Rattle.sd_base.specs.Disk.{DiskState, extent}
use Rattle.sd_base.specs.Calls.{Keeps}
use Rattle.disk_model.specs.declared.range.Range.{Range}

-- a block of the range
abbrev pub is_in : Range → ℕ → Bool
is_in r k = nat_le r.first.0 k && nat_lt k (r.first.0 + r.count)

-- a block of one of the two ranges
abbrev pub is_within : Range → Range → ℕ → Bool
is_within one two k = is_in one k || is_in two k

-- the two ranges of a device, lent under this name
abbrev pub window_state : ℕ → DiskState → Range → Range → DiskState
window_state name s one two = record s {
  name = name;
  size = 0;
  reach = is_within one two;
  below = extent s.name s.size s.reach ∷ s.below;
}

-- the ranges are in the device's reach
abbrev pub IsInReach : (ℕ → Bool) → Range → Range → Type 0
IsInReach reach one two = (k : ℕ) → is_within one two k ≡ true → reach k ≡ true

-- what calls through a window keep, they keep of the device
pub Keeps-below : (n name name' : ℕ) (s t : DiskState) (one two one' two' : Range) → Keeps n (window_state name s one two) (window_state name' t one' two') → Keeps n s t
Keeps-below n name name' s t one two one' two' k =
    let e : extent t.name t.size t.reach ∷ t.below ≡ extent s.name s.size s.reach ∷ s.below = k.below in
    record {
      name = cc;
      size = cc;
      reach = cc;
      below = cc;
      orders = k.orders;
      live = k.live;
      other_faults = k.other_faults;
      other_cuts = k.other_cuts;
      faults = k.faults;
      cuts = k.cuts;
    }
