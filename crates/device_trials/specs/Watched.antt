-- What a device means of which one call is stopped.
use Rattle.std.specs.Prelude.{◌+◌, ◌-◌, ◌^◌, ℕ, List, min, slice_index}
use Rattle.sd_base.specs.Disk.{DiskState}

-- the device below, with these stops of each port beside its own
abbrev pub watched_state : DiskState → List ℕ → DiskState
watched_state below cuts = record below { cuts = λ n. min (below.cuts n + slice_index cuts n) (2 ^ 64 - 1) }
