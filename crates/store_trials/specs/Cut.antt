-- What a device means of which one call is stopped.
use Rattle.std.specs.Prelude.{◌+◌, ◌-◌, ◌^◌, ℕ, List, min, slice_index}
use Rattle.sd_base.specs.Disk.{DiskState}

abbrev pub counts_at : List ℕ → ℕ → ℕ
counts_at counts n = slice_index counts n

-- the stops of a port: those of the device below, and these
abbrev pub all_cuts : DiskState → List ℕ → ℕ → ℕ
all_cuts below cuts n = min (below.cuts n + counts_at cuts n) (2 ^ 64 - 1)

-- the device below, with these stops beside its own
abbrev pub cut_state : DiskState → List ℕ → DiskState
cut_state below cuts = record below { cuts = all_cuts below cuts }
