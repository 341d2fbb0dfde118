use Rattle.std.proofs.Common.{◌≡◌, ◌≤◌, vec_capacity}
use Rattle.std.specs.List.{range_with_len}
use Rattle.frame_pool.proofs.pool.all_numbers.Given as goal

-- the numbers before this one stand, and there is room for all
abbrev pub invariant-loop-number : goal.invariant-loop-number
invariant-loop-number l = (l.numbers.items ≡ range_with_len 0 l.number) × (l.frames ≤ vec_capacity l.numbers)
