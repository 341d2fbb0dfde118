-- What the answers of a device's calls say.
use Rattle.std.specs.Prelude.{◌≡◌, ℕ, true, false, List, Some, None}
use Rattle.sd_base.specs.Disk.{BlockState, DiskState, Rose}
use Rattle.sd_base.specs.Calls.{Settles}
use Rattle.sd_base.specs.declared.device.ReadAnswer.{ReadAnswer}
use Rattle.sd_base.specs.declared.device.WriteAnswer.{WriteAnswer}
use Rattle.sd_base.specs.declared.device.ReadAnswer.TheVariants as read
use Rattle.sd_base.specs.declared.device.WriteAnswer.TheVariants as write

-- why a write or a barrier ended so: a stop only where the port's cuts rose, a failure only where its faults rose
abbrev pub WriteCause : WriteAnswer → ℕ → DiskState → DiskState → Type 0
WriteCause write.Done n old new = new.live n ≡ true
WriteCause write.Stopped n old new = Rose (old.cuts n) (new.cuts n) × (new.live n ≡ false)
WriteCause write.Failed n old new = Rose (old.faults n) (new.faults n) × (new.live n ≡ false)

-- the same of a read
abbrev pub ReadCause : ReadAnswer → ℕ → DiskState → DiskState → Type 0
ReadCause read.Done n old new = new.live n ≡ true
ReadCause read.Lost n old new = new.live n ≡ true
ReadCause read.Stopped n old new = Rose (old.cuts n) (new.cuts n) × (new.live n ≡ false)
ReadCause read.Failed n old new = Rose (old.faults n) (new.faults n) × (new.live n ≡ false)

-- P where it was done, Q where the port stopped
abbrev pub OnWrite : WriteAnswer → Type 0 → Type 0 → Type 0
OnWrite write.Done P Q = P
OnWrite write.Stopped P Q = Q
OnWrite write.Failed P Q = Q

-- what a read says of the block and of the buffer: it changes no block unless the port stopped
abbrev pub Reads : ReadAnswer → ℕ → ℕ → List ℕ → (ℕ → BlockState) → (ℕ → BlockState) → Type 0
Reads read.Done n at out old new = ((old at).current ≡ Some out) × (new ≡ old)
Reads read.Lost n at out old new = ((old at).current ≡ None) × (new ≡ old)
Reads read.Stopped n at out old new = Settles n old new
Reads read.Failed n at out old new = Settles n old new
