-- What an armed device over one in memory counts where nothing is due: nothing.
use Rattle.std.specs.Prelude.{◌≡◌, ◌⊎◌, ℕ, true, List}
use Rattle.sd_base.specs.declared.device.ReadAnswer.{ReadAnswer}
use Rattle.sd_base.specs.declared.device.WriteAnswer.{WriteAnswer}
use Rattle.sd_base.specs.declared.device.ReadAnswer.TheVariants as read
use Rattle.sd_base.specs.declared.device.WriteAnswer.TheVariants as write
use Rattle.disk_model.specs.Below.{IsRead, IsWrite, IsBarrier}
use Rattle.disk_model.specs.Fuse.{CountsNothing, fuse_at, fused_state}
use Rattle.disk_model.specs.MemState.{mem_state}
use Rattle.disk_model.specs.declared.fuse.Fuse.{Fuse}
use Rattle.disk_model.specs.declared.memory.MemDisk.{MemDisk}

-- a write that a device in memory is given is done
abbrev pub WritesAreDone : Type 0
WritesAreDone = (answer : WriteAnswer) (n at : ℕ) (content : List ℕ) (old new : MemDisk)
    → IsWrite true answer n at content (mem_state old) (mem_state new) → answer ≡ write.Done

-- so is a barrier
abbrev pub BarriersAreDone : Type 0
BarriersAreDone = (answer : WriteAnswer) (n : ℕ) (old new : MemDisk)
    → IsBarrier true answer n (mem_state old) (mem_state new) → answer ≡ write.Done

-- a read of it is done or shows that the block is lost
abbrev pub ReadsAreDone : Type 0
ReadsAreDone = (answer : ReadAnswer) (n at : ℕ) (out : List ℕ) (old new : MemDisk)
    → IsRead true answer n at out (mem_state old) (mem_state new) → (answer ≡ read.Done) ⊎ (answer ≡ read.Lost)

-- where the port's own counts stay, the device's do
abbrev pub CountsAreItsOwn : Type 0
CountsAreItsOwn = (n orders orders' : ℕ) (fuses fuses' : List Fuse) (old new : MemDisk) → CountsNothing (fuse_at fuses n) (fuse_at fuses' n)
    → ((fused_state (mem_state new) fuses' orders').faults n ≡ (fused_state (mem_state old) fuses orders).faults n)
    × ((fused_state (mem_state new) fuses' orders').cuts n ≡ (fused_state (mem_state old) fuses orders).cuts n)
