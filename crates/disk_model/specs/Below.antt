-- A call that was made of a device, by all that is said of such a call.
use Rattle.std.specs.Prelude.{◌≡◌, ℕ, Bool, false, IsTrue, List}
use Rattle.sd_base.specs.Disk.{DiskState}
use Rattle.sd_base.specs.Calls.{Keeps, CountsStay, Narrows, NarrowsBut, NoNewWriter, NoNewWriterBut, KeepsForeign, KeepsForeignBut, Writes, CutsWrite, Covers, Settles}
use Rattle.sd_base.specs.Answers.{ReadCause, WriteCause, Reads, OnWrite}
use Rattle.sd_base.specs.declared.device.ReadAnswer.{ReadAnswer}
use Rattle.sd_base.specs.declared.device.WriteAnswer.{WriteAnswer}

-- a read
pub record IsRead (told : Bool) (answer : ReadAnswer) (n at : ℕ) (out : List ℕ) (old new : DiskState) : Type 0 where
  pub keeps : Keeps n old new
  pub cause : ReadCause answer n old new
  pub outcomes : IsTrue told → Narrows old.block new.block
  pub writers : IsTrue told → NoNewWriter old.block new.block
  pub foreign : IsTrue told → KeepsForeign n old.block new.block
  pub blocks : IsTrue told → Reads answer n at out old.block new.block

-- a write
pub record IsWrite (told : Bool) (answer : WriteAnswer) (n at : ℕ) (content : List ℕ) (old new : DiskState) : Type 0 where
  pub keeps : Keeps n old new
  pub cause : WriteCause answer n old new
  pub outcomes : IsTrue told → NarrowsBut at content old.block new.block
  pub writers : IsTrue told → NoNewWriterBut at n old.block new.block
  pub foreign : IsTrue told → KeepsForeignBut at n old.block new.block
  pub blocks : IsTrue told → OnWrite answer (Writes n at content old.block new.block) (CutsWrite n at old.block new.block)

-- a barrier
pub record IsBarrier (told : Bool) (answer : WriteAnswer) (n : ℕ) (old new : DiskState) : Type 0 where
  pub keeps : Keeps n old new
  pub cause : WriteCause answer n old new
  pub outcomes : IsTrue told → Narrows old.block new.block
  pub writers : IsTrue told → NoNewWriter old.block new.block
  pub foreign : IsTrue told → KeepsForeign n old.block new.block
  pub blocks : IsTrue told → OnWrite answer (Covers n old.block new.block) (Settles n old.block new.block)

-- a stop
pub record IsStop (told : Bool) (n : ℕ) (old new : DiskState) : Type 0 where
  pub keeps : Keeps n old new
  pub counts : CountsStay n old new
  pub live : new.live n ≡ false
  pub outcomes : IsTrue told → Narrows old.block new.block
  pub writers : IsTrue told → NoNewWriter old.block new.block
  pub foreign : IsTrue told → KeepsForeign n old.block new.block
  pub blocks : IsTrue told → Settles n old.block new.block

-- A write and then a stop, so that the write's content is among what the stop may leave.
pub record IsCutWrite (D : Type 0) (state : D → DiskState) (told : Bool) (n at : ℕ) (content : List ℕ) (old new : D) : Type 0 where
  pub answer : WriteAnswer
  pub middle : D
  pub write : IsWrite told answer n at content (state old) (state middle)
  pub stop : IsStop told n (state middle) (state new)
