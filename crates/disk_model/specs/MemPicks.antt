-- What a stop of a device in memory takes into account, as one word.
use Rattle.disk_model.specs.Memory.{stood_at, bit_at, next_at}
use Rattle.disk_model.specs.Picks.{Picks}
use Rattle.disk_model.specs.declared.memory.MemDisk.{MemDisk}

-- what stands, and the bits
unfoldable pub mem_picks : MemDisk → Picks
mem_picks m = record {
  stood = stood_at m.cells.items m.copies;
  bit = bit_at m.cells.items;
  next = next_at m.ports;
}
