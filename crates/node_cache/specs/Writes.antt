-- What the calls that write pages leave of the blocks of a device. Such a call has a list of the pages that it may write,
-- of which it writes those that have changes.
use Rattle.std.specs.Prelude.{◌≡◌, ◌≢◌, ◌⊎◌, ℕ, Bool, true, List, Option, Some, None, All, Any}
use Rattle.sd_base.specs.Disk.{BlockState, MayHold, Holds, IsFreeFor, IsOutcome}
use Rattle.sd_base.specs.declared.shape.Shape.{Shape}
use Rattle.frame_pool.specs.Frames.{frame_at}
use Rattle.private_log.specs.Content.{HoldsFront}
use Rattle.private_log.specs.Log.{LogState, region, tail_place}
use Rattle.state_ids.specs.Blocks.{page_place}
use Rattle.node_cache.specs.Cache.{CachedPage}

-- this is the block of the page, which has changes
abbrev pub IsBlockOf : Shape → ℕ → CachedPage → Type 0
IsBlockOf s k p = (p.changes ≢ None) × (k ≡ page_place s p.ticket.page)

-- and this is what the page's frame holds
abbrev pub IsImageOf : Shape → List (Option (List ℕ)) → ℕ → Option (List ℕ) → CachedPage → Type 0
IsImageOf s pool k o p = IsBlockOf s k p × (o ≡ frame_at pool p.frame)

-- no block has a new outcome but that of a changed page, with what its frame holds
abbrev pub NarrowsToPages : Shape → List (Option (List ℕ)) → List CachedPage → (ℕ → BlockState) → (ℕ → BlockState) → Type 0
NarrowsToPages s pool pages old new = (k : ℕ) (o : Option (List ℕ)) → MayHold new k o → MayHold old k o ⊎ Any (IsImageOf s pool k o) pages

-- the blocks that the port had not written stay, but for those of changed pages
abbrev pub KeepsForeignOfPages : Shape → List CachedPage → ℕ → (ℕ → BlockState) → (ℕ → BlockState) → Type 0
KeepsForeignOfPages s pages n old new = (k : ℕ) → ¬ (Any (IsBlockOf s k) pages) → (old k).writer ≢ Some n → new k ≡ old k

-- each block has the content that it had, but for those of changed pages
abbrev pub KeepsContentsOfPages : Shape → List CachedPage → (ℕ → BlockState) → (ℕ → BlockState) → Type 0
KeepsContentsOfPages s pages old new = (k : ℕ) → ¬ (Any (IsBlockOf s k) pages) → (new k).current ≡ (old k).current

-- the same, but for the last block of the log too
-- no block has a new outcome but the last one of the log, and the block of a changed page, with what its frame holds
abbrev pub NarrowsButPages : Shape → LogState → List (Option (List ℕ)) → List CachedPage → (ℕ → BlockState) → (ℕ → BlockState) → Type 0
NarrowsButPages s log pool pages old new =
    (k : ℕ) (o : Option (List ℕ)) → MayHold new k o → MayHold old k o ⊎ (k ≡ tail_place log) ⊎ Any (IsImageOf s pool k o) pages

-- the blocks that the port had not written stay, but for the last one of the log and those of changed pages
abbrev pub KeepsForeignButPages : Shape → LogState → List CachedPage → ℕ → (ℕ → BlockState) → (ℕ → BlockState) → Type 0
KeepsForeignButPages s log pages n old new = (k : ℕ) → k ≢ tail_place log → ¬ (Any (IsBlockOf s k) pages) → (old k).writer ≢ Some n → new k ≡ old k

-- each block has the content that it had, but for the last one of the log and those of changed pages
abbrev pub KeepsContentsButPages : Shape → LogState → List CachedPage → (ℕ → BlockState) → (ℕ → BlockState) → Type 0
KeepsContentsButPages s log pages old new = (k : ℕ) → k ≢ tail_place log → ¬ (Any (IsBlockOf s k) pages) → (new k).current ≡ (old k).current

-- the block of each changed page holds what its frame does
abbrev pub HoldsPages : Shape → List (Option (List ℕ)) → List CachedPage → (ℕ → BlockState) → Type 0
HoldsPages s pool pages b = All (λ p. p.changes ≢ None → Holds b (page_place s p.ticket.page) (frame_at pool p.frame)) pages

-- The log is written ahead of the pages: where a stop leaves what it could not have left before, it is in the last block
-- of the log, or all records of the log are there.
abbrev pub IsWrittenAhead : LogState → List (List ℕ) → (ℕ → BlockState) → (ℕ → BlockState) → Type 0
IsWrittenAhead log xs old new = (image : ℕ → Option (List ℕ)) (k : ℕ) → IsOutcome new image
    → MayHold old k (image k) ⊎ (k ≡ tail_place log) ⊎ HoldsFront (region log) log.start log.tail xs image

-- the blocks of these pages may be named, and no other port than n has an uncovered write to one
abbrev pub AreInReach : Shape → List CachedPage → (ℕ → Bool) → Type 0
AreInReach s pages reach = All (λ p. reach (page_place s p.ticket.page) ≡ true) pages

abbrev pub AreFree : Shape → List CachedPage → ℕ → (ℕ → BlockState) → Type 0
AreFree s pages n b = All (λ p. IsFreeFor n (b (page_place s p.ticket.page))) pages
