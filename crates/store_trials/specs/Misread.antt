-- What a device means that reads one block as something else, but for its blocks, of which it tells nothing.
use Rattle.std.specs.Prelude.{◌≡◌, ℕ, Bool, false, List, [], Option, Some, None, slice_index_or}
use Rattle.disk_model.specs.Memory.{is_below}
use Rattle.sd_base.specs.Disk.{BlockState, DiskState, IsPort}
use Rattle.sd_base.specs.declared.device.ReadAnswer.{ReadAnswer}
use Rattle.sd_base.specs.declared.device.ReadAnswer.TheVariants as read

-- a block of which nothing is told
abbrev pub untold_block : ℕ → BlockState
untold_block k = record { current = None; outcomes = []; writer = None }

abbrev pub live_at : List Bool → ℕ → Bool
live_at live n = slice_index_or live n false

-- a device of this size, with these live ports and orders, of which no port has stopped or failed in a call
abbrev pub misread_state : ℕ → List Bool → ℕ → DiskState
misread_state size live orders = record {
  name = 0;
  size = size;
  reach = is_below size;
  below = [];
  block = untold_block;
  live = live_at live;
  faults = λ n. 0;
  cuts = λ n. 0;
  orders = orders;
}

-- no port was used yet
pub record IsUnused (blocks : ℕ) (s : DiskState) : Type 0 where
  pub size : s.size ≡ blocks
  pub live : (n : ℕ) → IsPort n → s.live n ≡ false
  pub orders : s.orders ≡ 0

-- this content was read, or that the block is lost
abbrev pub IsReadAs : Option (List ℕ) → ReadAnswer → List ℕ → Type 0
IsReadAs None answer out = answer ≡ read.Lost
IsReadAs (Some content) answer out = (answer ≡ read.Done) × (out ≡ content)
