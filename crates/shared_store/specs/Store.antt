-- What the store of a session asks of its devices, and what it shows.
use Rattle.std.specs.Prelude.{◌≡◌, ⊤, ℕ, Some}
use Rattle.sd_base.specs.Disk.{BlockState, DiskState}
use Rattle.script_text.specs.declared.command.Command.{Command}
use Rattle.script_text.specs.declared.command.Command.TheVariants as asks
use Rattle.script_text.specs.declared.reply.Reply.{Reply}
use Rattle.record_machine.specs.Machine.{Machine}
use Rattle.store_format.specs.Device.{ComesToRest}
use Rattle.store_format.specs.Refusal.{MayHaveSuper, MustHaveSuper}
use Rattle.store_nodes.specs.declared.store.Store as nodes
use Rattle.store_nodes.specs.Known.{known}
use Rattle.store_nodes.specs.Ports.{IsQuiet, IsReady}
use Rattle.store_nodes.specs.Shows.{IsShown}
use Rattle.shared_store.specs.Devices.{OpensNoPort}
use Rattle.shared_store.specs.StoreState.{Seal, Sealed, Blank, Unsure, StoreState, shut, opened, stopped}
use Rattle.shared_store.specs.declared.store.Store.{Store}
use Rattle.shared_store.specs.declared.store.Store.TheVariants.{Closed, Open}

-- an open store is whole, and its devices serve it: they have its blocks, and the ports of its nodes that are up
abbrev pub CanServe : Store → DiskState → DiskState → Type 0
CanServe Closed disk vault = ⊤
CanServe (Open c) disk vault = IsReady c disk vault

-- each uncovered write of an open store's disk is one of a node that is up, to its own log
abbrev pub IsQuietStore : Store → (ℕ → BlockState) → Type 0
IsQuietStore Closed b = ⊤
IsQuietStore (Open c) b = IsQuiet c b

-- the command is answered without a device: with no store open each one but a `format`, and with one what is refused for
-- what is in memory
abbrev pub IsAnsweredAlone : Store → Command → Type 0
IsAnsweredAlone Closed (asks.Format s) = ⊥
IsAnsweredAlone Closed command = ⊤
IsAnsweredAlone (Open c) command = (why : Reply) × (known c command ≡ Some why)

-- where no store is open, no port may be used that couldn't be used at first
abbrev pub KeepsPorts : Store → DiskState → DiskState → Type 0
KeepsPorts Closed first now = OpensNoPort first now
KeepsPorts (Open c) first now = ⊤

-- what a disk shows of its block 0
abbrev pub ShowsSeal : DiskState → Seal → Type 0
ShowsSeal d Sealed = MustHaveSuper d
ShowsSeal d Blank = ¬ (MayHaveSuper d)
ShowsSeal d Unsure = ⊤

-- a store and its disk show this state
abbrev pub Shows : Store → DiskState → StoreState → Type 0
Shows Closed d (shut seal) = ShowsSeal d seal
Shows Closed d (opened m) = ⊥
Shows Closed d stopped = ⊥
Shows (Open c) d (shut seal) = ⊥
Shows (Open c) d (opened m) = IsShown c d.block m
Shows (Open c) d stopped = ⊤

-- The blocks of a disk whose store was open until all its ports were stopped: then it showed this machine.
pub record IsClosedAt (m : Machine) (b : ℕ → BlockState) : Type 0 where
  pub store : nodes.Store
  pub before : ℕ → BlockState
  pub shown : IsShown store before m
  pub rest : ComesToRest before b

-- what a run leaves on the disk that ends in this state
abbrev pub Leaves : DiskState → StoreState → Type 0
Leaves d (shut seal) = ShowsSeal d seal
Leaves d (opened m) = IsClosedAt m d.block
Leaves d stopped = ⊤
