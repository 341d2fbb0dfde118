-- Where the regions of the logs lie.
use Rattle.std.proofs.Common.{◌≢◌, ◌≤◌, ◌<◌, ◌+◌, ◌-◌, ◌*◌, ℕ, inl, inr, arith}
use Rattle.std.proofs.lemmas.Bool.{cases_lt}
use Rattle.std.proofs.Math.Nat.{mul-le-mul_left}
use Rattle.sd_base.specs.Shape.{IsShape, first_page}
use Rattle.sd_base.specs.declared.shape.Shape.{Shape}
use Rattle.private_log.specs.Content.{region_of}
use Rattle.private_log.specs.Reading.{IsInRegion}

-- n regions and one more are no more than m, where n is below m
regions_before : (size n m : ℕ) → n < m → n * size + size ≤ m * size
regions_before size n m less = omega (arith, mul-le-mul_left size less)

pub before_pages : (s : Shape) (n at : ℕ) → IsShape s → 1 ≤ n → n ≤ s.nodes → IsInRegion (region_of s n) at → at < first_page s
before_pages s n at shape some most within = omega (arith, regions_before (s.ring + 1) (n - 1) s.nodes (omega arith))

-- a region ends before the next one begins
ends_before : (s : Shape) (n m at : ℕ) → 1 ≤ n → n < m → IsInRegion (region_of s n) at → ¬ (IsInRegion (region_of s m) at)
ends_before s n m at some less here there = omega (arith, regions_before (s.ring + 1) (n - 1) (m - 1) (omega arith))

pub regions_apart : (s : Shape) (n m at : ℕ) → IsShape s → 1 ≤ n → n ≤ s.nodes → 1 ≤ m → m ≤ s.nodes → n ≢ m → IsInRegion (region_of s n) at → ¬ (IsInRegion (region_of s m) at)
regions_apart s n m at shape some most some' most' other here there = elim (cases_lt n m) [
  | inl less ↦ ends_before s n m at some less here there
  | inr more ↦ ends_before s m n at some' (omega arith) there here
]
