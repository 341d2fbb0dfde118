-- The loan of a frame's bytes.
use Rattle.std.specs.Prelude.{ℕ, List, Option, Some, slice_set}
use Rattle.std.specs.Borrow.{Lends, MutBor, Fml, Array, u8}
use Rattle.frame_pool.specs.contracts.pool.Pool.{the_row}

-- the pool ends with the last bytes behind r in frame f, and with all other frames as they were
abbrev pub LendsFrame : MutBor (List (Option (List ℕ))) → ℕ → MutBor (List ℕ) → Fml
LendsFrame pool f r = Lends the_row (Array u8 4096) pool r (λ bytes. slice_set pool.now f (Some bytes))
