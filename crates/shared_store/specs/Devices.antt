-- The two devices of a store, and what a command leaves of them, whatever it answers.
use Rattle.std.specs.Prelude.{◌≡◌, ℕ, List, true}
use Rattle.std.proofs.Common.{◌∙◌, refl}
use Rattle.sd_base.specs.Disk.{DiskState, IsPort}
use Rattle.sd_base.specs.Faults.{Grew, Grew-same, Grew-then}
use Rattle.store_format.specs.Device.{TakesOver}
use Rattle.store_nodes.specs.declared.node.Node.{Node}
use Rattle.store_nodes.specs.Ports as nodes

-- A disk and a vault.
pub record Devices : Type 0 where
  pub disk : DiskState
  pub vault : DiskState

abbrev pub both : DiskState → DiskState → Devices
both disk vault = record { disk = disk; vault = vault }

-- The device is as large as before, no count of it has fallen, and no order was given to it.
pub record GoesOn (old new : DiskState) : Type 0 where
  pub size : new.size ≡ old.size
  pub orders : new.orders ≡ old.orders
  pub grew : Grew old new

-- no port may be used that couldn't be used before
abbrev pub OpensNoPort : DiskState → DiskState → Type 0
OpensNoPort old new = (p : ℕ) → IsPort p → new.live p ≡ true → old.live p ≡ true

pub GoesOn-same : (a : DiskState) → GoesOn a a
GoesOn-same a = record { size = refl; orders = refl; grew = Grew-same a }

pub GoesOn-then : (a b c : DiskState) → GoesOn a b → GoesOn b c → GoesOn a c
GoesOn-then a b c p q = record { size = q.size ∙ p.size; orders = q.orders ∙ p.orders; grew = Grew-then a b c p.grew q.grew }

-- after a call of a store, and after all ports were stopped
pub GoesOn-keeps : (n : ℕ) (up : List Node) (a b : DiskState) → nodes.KeepsPorts n up a b → GoesOn a b
GoesOn-keeps n up a b k = record { size = k.size; orders = k.orders; grew = k.grew }

pub GoesOn-takes : (a b : DiskState) → TakesOver a b → GoesOn a b
GoesOn-takes a b t = record { size = t.size; orders = t.orders; grew = t.grew }
