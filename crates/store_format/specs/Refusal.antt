-- What a format answers before it writes.
use Rattle.std.specs.Prelude.{◌≡◌, ◌⊎◌, ◌≤◌, ◌<◌, ⊤, ℕ, Bool, true, false, List, Option, Some, Result, Ok, Err}
use Rattle.sd_base.specs.Disk.{DiskState, MayHold, Rose}
use Rattle.sd_base.specs.Shape.{IsShape, disk_need, vault_need}
use Rattle.sd_base.specs.Supers.{super_text}
use Rattle.sd_base.specs.declared.shape.Shape.{Shape}
use Rattle.script_text.specs.declared.reply.Reply.{Reply}
use Rattle.script_text.specs.declared.reply.Reply.TheVariants.{Formatted, NoMem, SmallDisk, SmallVault, Stopped, Fault}

-- a content that is a disk super
abbrev pub IsSuper : Option (List ℕ) → Type 0
IsSuper content = (s : Shape) × IsShape s × (content ≡ Some (super_text false s))

-- block 0 of a disk is a super; a disk without blocks has none
abbrev pub HasSuper : DiskState → Type 0
HasSuper d = (0 < d.size) × IsSuper (d.block 0).current

-- a stop may leave a super there
abbrev pub MayHaveSuper : DiskState → Type 0
MayHaveSuper d = (0 < d.size) × ((o : Option (List ℕ)) × MayHold d.block 0 o × IsSuper o)

-- a stop leaves nothing but a super there
abbrev pub MustHaveSuper : DiskState → Type 0
MustHaveSuper d = (0 < d.size) × ((o : Option (List ℕ)) → MayHold d.block 0 o → IsSuper o)

-- P where the answer is that a store stands on the disk, and Q where it is one that comes only where none does; a stop
-- comes before either
abbrev pub OnFound : {T : Type 0} → Result T Reply → Type 0 → Type 0 → Type 0
OnFound (Ok x) P Q = Q
OnFound (Err Formatted) P Q = P
OnFound (Err (SmallDisk need have)) P Q = Q
OnFound (Err (SmallVault need have)) P Q = Q
OnFound (Err NoMem) P Q = Q
OnFound (Err reply) P Q = ⊤

-- what an answer says of the sizes of the two devices
abbrev pub FitsSizes : {T : Type 0} → Shape → Result T Reply → ℕ → ℕ → Type 0
FitsSizes s (Ok x) disk vault = (disk_need s ≤ disk) × (vault_need s ≤ vault)
FitsSizes s (Err (SmallDisk need have)) disk vault = (disk < disk_need s) × (need ≡ disk_need s) × (have ≡ disk)
FitsSizes s (Err (SmallVault need have)) disk vault = (disk_need s ≤ disk) × (vault < vault_need s) × (need ≡ vault_need s) × (have ≡ vault)
FitsSizes s (Err NoMem) disk vault = (disk_need s ≤ disk) × (vault_need s ≤ vault)
FitsSizes s (Err reply) disk vault = ⊤

-- the answer is a stop or a fault of node 1, and that count of the node's port rose
abbrev pub IsStopAt : Reply → DiskState → DiskState → Type 0
IsStopAt (Stopped n) old new = (n.0 ≡ 1) × Rose (old.cuts 1) (new.cuts 1)
IsStopAt (Fault n) old new = (n.0 ≡ 1) × Rose (old.faults 1) (new.faults 1)
IsStopAt reply old new = ⊥

-- why a format is refused before it writes: by one of the three tests, or by a stop of the disk's port
abbrev pub IsRefusal : Reply → DiskState → DiskState → Type 0
IsRefusal Formatted old new = ⊤
IsRefusal (SmallDisk need have) old new = ⊤
IsRefusal (SmallVault need have) old new = ⊤
IsRefusal reply old new = IsStopAt reply old new

-- why a store isn't formatted: there is no memory, a test refuses it, or a port stopped while it was written
abbrev pub IsFormatRefusal : Reply → DiskState → DiskState → DiskState → DiskState → Type 0
IsFormatRefusal reply disk disk' vault vault' = (reply ≡ NoMem) ⊎ IsRefusal reply disk disk' ⊎ IsStopAt reply vault vault'

-- what a look for a super says of a disk
abbrev pub FindsSuper : Bool → DiskState → Type 0
FindsSuper true d = HasSuper d
FindsSuper false d = ¬ (HasSuper d)
