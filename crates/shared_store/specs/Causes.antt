-- Why a node stops, and how often nodes may.
use Rattle.std.specs.Prelude.{◌≡◌, ◌⊎◌, ◌==◌, ◌+◌, ◌-◌, ◌≤◌, ◌<◌, ◌^◌, ⊤, ℕ, Bool, false, List, count_by}
use Rattle.sd_base.specs.Disk.{Rose}
use Rattle.script_text.specs.declared.reply.Reply.{Reply}
use Rattle.script_text.specs.declared.reply.Reply.TheVariants as says
use Rattle.shared_store.specs.Devices.{Devices}

-- a stop or a fault of a node is answered only where that count of its port rose at a device
abbrev pub HasCause : Reply → Devices → Devices → Type 0
HasCause (says.Stopped n) old new = Rose (old.disk.cuts n.0) (new.disk.cuts n.0) ⊎ Rose (old.vault.cuts n.0) (new.vault.cuts n.0)
HasCause (says.Fault n) old new = Rose (old.disk.faults n.0) (new.disk.faults n.0) ⊎ Rose (old.vault.faults n.0) (new.vault.faults n.0)
HasCause reply old new = ⊤

-- the reply says that this node was stopped, or that a device call of it failed
abbrev pub is_stop_of : ℕ → Reply → Bool
is_stop_of n (says.Stopped node) = node.0 == n
is_stop_of n reply = false

abbrev pub is_fault_of : ℕ → Reply → Bool
is_fault_of n (says.Fault node) = node.0 == n
is_fault_of n reply = false

-- a count of the disk and one of the vault rose by so much together, unless one of them stands at its end
abbrev pub RoseBy : ℕ → ℕ → ℕ → ℕ → ℕ → Type 0
RoseBy times disk vault disk' vault' = disk' < 2 ^ 64 - 1 → vault' < 2 ^ 64 - 1 → (disk + vault) + times ≤ disk' + vault'

-- Of each node, there are at most as many stops and faults as the counts of its ports rose.
pub record AreCounted (replies : List Reply) (old new : Devices) : Type 0 where
  pub stops : (n : ℕ) → RoseBy (count_by (is_stop_of n) replies) (old.disk.cuts n) (old.vault.cuts n) (new.disk.cuts n) (new.vault.cuts n)
  pub faults : (n : ℕ) → RoseBy (count_by (is_fault_of n) replies) (old.disk.faults n) (old.vault.faults n) (new.disk.faults n) (new.vault.faults n)

-- No count of the devices has risen, and none of them stands at its end.
pub record StandStill (old new : Devices) : Type 0 where
  pub cuts : (n : ℕ) → (new.disk.cuts n ≡ old.disk.cuts n) × (new.vault.cuts n ≡ old.vault.cuts n) × (new.disk.cuts n < 2 ^ 64 - 1) × (new.vault.cuts n < 2 ^ 64 - 1)
  pub faults : (n : ℕ) → (new.disk.faults n ≡ old.disk.faults n) × (new.vault.faults n ≡ old.vault.faults n) × (new.disk.faults n < 2 ^ 64 - 1) × (new.vault.faults n < 2 ^ 64 - 1)
