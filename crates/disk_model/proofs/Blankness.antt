-- The blocks of a device that was made.
use Rattle.std.proofs.Common.{◌≡◌, ◌<◌, ◌*◌, ℕ, Bool, false, List, [], ◌∷◌, Some, None, refl, replicate}
use Rattle.std.proofs.lemmas.List.{get_or-replicate}
use Rattle.disk_model.specs.Lazy.{zero_block}
use Rattle.disk_model.specs.Memory.{block_at, cell_at, copy_at, waiter_at, place_of}
use Rattle.disk_model.specs.declared.cell.Cell.{Cell}
use Rattle.disk_model.specs.declared.cell.Mark.TheVariants.{Covered}
use Rattle.disk_model.proofs.BlockSteps.{place_of-within}
use Rattle.disk_model.proofs.Reaching.{cell_at-blank}

-- no block waits
pub waiter_at-blank : (cells : List Cell) (count k : ℕ) → cells ≡ replicate count record { mark = Covered; second = false } → waiter_at cells k ≡ None
waiter_at-blank cells count k e = rw (e, cell_at-blank count k) refl

-- each copy of a block is zero
copy_at-blank : (count k : ℕ) (second : Bool) → k < count → copy_at (replicate (2 * count) zero_block) k second ≡ zero_block
copy_at-blank count k second lt = get_or-replicate (2 * count) (place_of k second) zero_block _ (place_of-within k second count lt)

-- each of them is covered and zero
pub block_at-blank : (cells : List Cell) (copies : List (List ℕ)) (count k : ℕ) → cells ≡ replicate count record { mark = Covered; second = false } → copies ≡ replicate (2 * count) zero_block → k < count → block_at cells copies k ≡ record { current = Some (replicate 4096 0); outcomes = Some (replicate 4096 0) ∷ []; writer = None }
unfolding zero_block
block_at-blank cells copies count k e f lt =
    let one : copy_at copies k false ≡ zero_block = rw f (copy_at-blank count k false lt) in
    let cell : cell_at cells k ≡ record { mark = Covered; second = false } = rw e (cell_at-blank count k) in
    rw (cell, one) refl
