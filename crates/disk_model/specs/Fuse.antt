-- What is armed at the ports of a device that stands on another one, and what that makes of it.
use Rattle.std.specs.Prelude.{◌≡◌, ◌≢◌, ◌+◌, ◌-◌, ◌^◌, ℕ, List, min, slice_index_or}
use Rattle.sd_base.specs.Disk.{DiskState}
use Rattle.sd_base.specs.Arm.{Armed}
use Rattle.disk_model.specs.declared.fuse.Fuse.{Fuse}
use Rattle.disk_model.specs.declared.fuse.Due.{Due}
use Rattle.disk_model.specs.declared.fuse.Due.TheVariants.{Nothing, Cut, Fault}

-- port n; past the end nothing was ever armed
abbrev pub fuse_at : List Fuse → ℕ → Fuse
fuse_at fuses n = slice_index_or fuses n record { writes = 0; calls = 0; picks = 0; cuts = 0; faults = 0 }

-- what is armed at port n
abbrev pub armed_at : List Fuse → ℕ → Armed
armed_at fuses n = record { writes = (fuse_at fuses n).writes; picks = (fuse_at fuses n).picks; calls = (fuse_at fuses n).calls }

-- two counts as one, which stays at its end
abbrev pub together : ℕ → ℕ → ℕ
together below own = min (below + own) (2 ^ 64 - 1)

-- the device below, with what came due beside its own counts
abbrev pub fused_state : DiskState → List Fuse → ℕ → DiskState
fused_state below fuses orders = record below {
  faults = λ n. together (below.faults n) (fuse_at fuses n).faults;
  cuts = λ n. together (below.cuts n) (fuse_at fuses n).cuts;
  orders = together below.orders orders;
}

-- what is due at a write by the two counts, of which the first goes before the second
abbrev pub IsDueAtWrite : Due → ℕ → ℕ → Type 0
IsDueAtWrite Nothing writes calls = (writes ≢ 1) × (calls ≢ 1)
IsDueAtWrite Cut writes calls = writes ≡ 1
IsDueAtWrite Fault writes calls = (writes ≢ 1) × (calls ≡ 1)

-- a write of port n was counted, and no other port has changed
pub record CountsWrite (n : ℕ) (old new : ℕ → Armed) : Type 0 where
  pub here : new n ≡ record { writes = (old n).writes - 1; picks = (old n).picks; calls = (old n).calls - 1 }
  pub others : (m : ℕ) → m ≢ n → new m ≡ old m

-- a read or a barrier of port n was counted, and no other port has changed
pub record CountsCall (n : ℕ) (old new : ℕ → Armed) : Type 0 where
  pub here : new n ≡ record { writes = (old n).writes; picks = (old n).picks; calls = (old n).calls - 1 }
  pub others : (m : ℕ) → m ≢ n → new m ≡ old m

-- a cut was counted at the port, and no failure
pub record CountsCut (old new : Fuse) : Type 0 where
  pub cuts : new.cuts ≡ min (old.cuts + 1) (2 ^ 64 - 1)
  pub faults : new.faults ≡ old.faults

-- a failure was counted at the port, and no cut
pub record CountsFault (old new : Fuse) : Type 0 where
  pub cuts : new.cuts ≡ old.cuts
  pub faults : new.faults ≡ min (old.faults + 1) (2 ^ 64 - 1)

-- neither a cut nor a failure was counted at the port
pub record CountsNothing (old new : Fuse) : Type 0 where
  pub cuts : new.cuts ≡ old.cuts
  pub faults : new.faults ≡ old.faults
