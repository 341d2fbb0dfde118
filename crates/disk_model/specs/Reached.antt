-- Where the blocks lie that wait for a port.
use Rattle.std.specs.Prelude.{◌≡◌, ◌<◌, ◌≤◌, ℕ, List, Some, length}
use Rattle.sd_base.specs.Disk.{IsPort}
use Rattle.disk_model.specs.Memory.{waiter_at, port_at}
use Rattle.disk_model.specs.declared.cell.Cell.{Cell}
use Rattle.disk_model.specs.declared.port.Port.{Port}

-- block k is in reach of port n
pub record Reaches (ports : List Port) (n k : ℕ) : Type 0 where
  pub port : IsPort n
  pub first : (port_at ports n).first ≤ k
  pub end : k < (port_at ports n).end

-- each block that waits is in reach of its port, and what a port reaches are blocks
pub record IsReached (cells : List Cell) (ports : List Port) : Type 0 where
  pub ends : (n : ℕ) → (port_at ports n).end ≤ length cells
  pub waiting : (n k : ℕ) → waiter_at cells k ≡ Some n → Reaches ports n k
