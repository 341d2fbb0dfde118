-- What the calls of a log leave of the blocks of a device.
use Rattle.std.specs.Prelude.{◌≡◌, ◌≢◌, ◌⊎◌, ◌+◌, ◌≤◌, ℕ, Bool, true, List, Option}
use Rattle.sd_base.specs.Disk.{BlockState, MayHold}
use Rattle.private_log.specs.Content.{Region}

-- each block of the region may be named
abbrev pub IsInReach : Region → (ℕ → Bool) → Type 0
IsInReach g reach = (i : ℕ) → i ≤ g.ring → reach (g.anchor + i) ≡ true

-- no block has a new outcome, but for this one
abbrev pub NarrowsBeside : ℕ → (ℕ → BlockState) → (ℕ → BlockState) → Type 0
NarrowsBeside at old new = (k : ℕ) (o : Option (List ℕ)) → MayHold new k o → MayHold old k o ⊎ (k ≡ at)

-- each block but this one has the content that it had
abbrev pub KeepsContents : ℕ → (ℕ → BlockState) → (ℕ → BlockState) → Type 0
KeepsContents at old new = (k : ℕ) → k ≢ at → (new k).current ≡ (old k).current
