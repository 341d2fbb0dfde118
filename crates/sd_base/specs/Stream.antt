-- What a source and a sink of bytes mean, and what their calls do to that.
use Rattle.std.specs.Prelude.{◌≡◌, ◌+◌, ◌-◌, ◌≤◌, ◌<◌, ◌^◌, ℕ, Bool, true, false, List, [], ◌++◌, length, take, min}
use Rattle.sd_base.specs.Disk.{Rose}
use Rattle.sd_base.specs.declared.stream.Took.{Took}
use Rattle.sd_base.specs.declared.stream.Took.TheVariants as gave
use Rattle.sd_base.specs.declared.stream.Put.{Put}
use Rattle.sd_base.specs.declared.stream.Put.TheVariants as put

-- A source: the bytes that are left, how many it has given, and how often it has failed.
pub record SourceState : Type 0 where
  pub left : List ℕ
  pub given : ℕ
  pub faults : ℕ

-- A sink: the bytes that it has taken, how many of them are passed on, and how often it has failed.
pub record SinkState : Type 0 where
  pub taken : List ℕ
  pub flushed : ℕ
  pub faults : ℕ

-- what a read into a slice of this length does to the counts
abbrev pub GivesCount : Took → ℕ → SourceState → SourceState → Type 0
GivesCount (gave.Got n) room old new = (n ≤ room) × (new.given ≡ min (old.given + n) (2 ^ 64 - 1))
GivesCount gave.End room old new = new.given ≡ old.given
GivesCount gave.Failed room old new = (new.given ≡ old.given) × Rose old.faults new.faults

-- what a read does to the bytes that are left, where the slice then holds `buf`
abbrev pub GivesBytes : Took → List ℕ → SourceState → SourceState → Type 0
GivesBytes (gave.Got n) buf old new = (old.left ≡ take n buf ++ new.left) × (0 < length buf → n ≡ 0 → old.left ≡ [])
GivesBytes gave.End buf old new = (old.left ≡ []) × (new.left ≡ [])
GivesBytes gave.Failed buf old new = new.left ≡ old.left

-- what a write of a piece of this length does to the counts
abbrev pub TakesCount : Put → ℕ → SinkState → SinkState → Type 0
TakesCount (put.Took n) size old new = (n ≤ size) × (0 < size → n ≡ 0 → Rose old.faults new.faults)
TakesCount put.Failed size old new = Rose old.faults new.faults

-- what a write does to the bytes that were taken
abbrev pub TakesBytes : Put → List ℕ → SinkState → SinkState → Type 0
TakesBytes (put.Took n) piece old new = new.taken ≡ old.taken ++ take n piece
TakesBytes put.Failed piece old new = new.taken ≡ old.taken

-- what a flush does to the counts
abbrev pub FlushesCount : Bool → SinkState → SinkState → Type 0
FlushesCount true old new = Unit {0}
FlushesCount false old new = Rose old.faults new.faults

-- what a flush does to the bytes: it takes none, and passes on all
abbrev pub FlushesBytes : Bool → SinkState → SinkState → Type 0
FlushesBytes true old new = (new.taken ≡ old.taken) × (new.flushed ≡ length new.taken)
FlushesBytes false old new = new.taken ≡ old.taken
