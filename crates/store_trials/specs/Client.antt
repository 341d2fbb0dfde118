-- What a client leaves that writes two blocks one after the other.
use Rattle.std.specs.Prelude.{◌≡◌, ◌≢◌, ◌⊎◌, ℕ, List, Option, Some}
use Rattle.sd_base.specs.Disk.{BlockState, MayHold, IsOutcome, IsCovered, IsFreeFor}

-- whatever a stop leaves: what stands in the second block stood there before, or x stands in the first
abbrev pub IsInOrder : ℕ → List ℕ → ℕ → (ℕ → BlockState) → (ℕ → BlockState) → Type 0
IsInOrder first x second old new =
    (image : ℕ → Option (List ℕ)) → IsOutcome new image → MayHold old second (image second) ⊎ (image first ≡ Some x)

-- no block has a new outcome, but for x in the first and y in the second
abbrev pub NarrowsButTwo : ℕ → List ℕ → ℕ → List ℕ → (ℕ → BlockState) → (ℕ → BlockState) → Type 0
NarrowsButTwo first x second y old new =
    (k : ℕ) (o : Option (List ℕ)) → MayHold new k o → MayHold old k o ⊎ ((k ≡ first) × (o ≡ Some x)) ⊎ ((k ≡ second) × (o ≡ Some y))

-- the blocks that the port had not written stay, but for these two
abbrev pub KeepsForeignButTwo : ℕ → ℕ → ℕ → (ℕ → BlockState) → (ℕ → BlockState) → Type 0
KeepsForeignButTwo first second n old new =
    (k : ℕ) → k ≢ first → k ≢ second → (old k).writer ≢ Some n → new k ≡ old k

-- each block that no other port had written is covered
abbrev pub LeavesCovered : ℕ → (ℕ → BlockState) → (ℕ → BlockState) → Type 0
LeavesCovered n old new = (k : ℕ) → IsFreeFor n (old k) → IsCovered new k

-- both blocks hold what was written, and each other block what it held
pub record WritesBoth (first : ℕ) (x : List ℕ) (second : ℕ) (y : List ℕ) (old new : ℕ → BlockState) : Type 0 where
  pub first_content : (new first).current ≡ Some x
  pub second_content : (new second).current ≡ Some y
  pub others : (k : ℕ) → k ≢ first → k ≢ second → (new k).current ≡ (old k).current
