-- What a device in memory means, as one word.
use Rattle.std.specs.Prelude.{[]}
use Rattle.sd_base.specs.Disk.{DiskState}
use Rattle.disk_model.specs.Memory.{block_at, is_below, zero_count, live_at}
use Rattle.disk_model.specs.declared.memory.MemDisk.{MemDisk}

-- the device
unfoldable pub mem_state : MemDisk → DiskState
mem_state m = record {
  name = 0;
  size = m.size;
  reach = is_below m.size;
  below = [];
  block = block_at m.cells.items m.copies;
  live = live_at m.ports;
  faults = zero_count;
  cuts = zero_count;
  orders = m.orders;
}
