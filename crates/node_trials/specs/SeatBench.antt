-- What a caller of the seats carries from one call to the next.
use Rattle.std.specs.Prelude.{◌≡◌, ◌+◌, ◌≤◌, ℕ, Bool, List, Option, Some, slice_index}
use Rattle.sd_base.specs.Disk.{DiskState}
use Rattle.sd_base.specs.declared.shape.Shape.{Shape}
use Rattle.page_owner.specs.declared.owners.Own.{Own}
use Rattle.private_log.specs.Log.{space}
use Rattle.node_cache.specs.Cache.{CacheState}
use Rattle.txn_core.specs.Seats.{AreTied, OpenTxn, SeatsState, owed, txn_in}
use Rattle.node_trials.specs.Bench.{IsReady}

-- the log has room for two records more than are owed
abbrev pub HasRoom : SeatsState → CacheState → Type 0
HasRoom s c = owed s + 2 ≤ space c.log

-- of each open transaction as many updates are left as were counted
abbrev pub AreCounted : List ℕ → SeatsState → Type 0
AreCounted left s = (seat : ℕ) (t : OpenTxn) → txn_in s seat ≡ Some t → slice_index left seat ≡ t.left

-- All is as the calls of the seats ask: the cache is as its calls ask, the seats are tied to it, and what is left of the
-- transactions was counted.
pub record IsSeated (s : Shape) (told : Bool) (d : DiskState) (pool : List (Option (List ℕ))) (owners : List Own) (c : CacheState) (seats : SeatsState) (left : List ℕ) : Type 0 where
  pub ready : IsReady s told d pool owners c
  pub tied : AreTied seats c
  pub counted : AreCounted left seats
