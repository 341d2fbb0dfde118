-- The seats of a node, as their user sees them.
use Rattle.std.specs.Prelude.{◌≡◌, ◌≢◌, ◌+◌, ◌*◌, ◌≤◌, ◌<◌, ℕ, Bool, List, Option, Some, None, All, AllPairs, Any, IfSome, is_some, option_map, slice_index_or}
use Rattle.std.specs.List.{sum_by}
use Rattle.sd_base.specs.declared.device.NodeId.{NodeId}
use Rattle.private_log.specs.Log.{space}
use Rattle.node_cache.specs.Cache.{CacheState}

-- An open transaction: the number of the record that began it, of its last record, and how many of its updates are
-- still to be taken back if it is given up.
pub record OpenTxn : Type 0 where
  pub begin : ℕ
  pub last : ℕ
  pub left : ℕ

-- The seats of a node: in each there is a transaction, or none.
pub record SeatsState : Type 0 where
  pub node : NodeId
  pub seats : List (Option OpenTxn)

-- the transaction in a seat
abbrev pub txn_in : SeatsState → ℕ → Option OpenTxn
txn_in s seat = slice_index_or s.seats seat None

abbrev pub is_busy : SeatsState → ℕ → Bool
is_busy s seat = is_some (txn_in s seat)

-- how many records a seat may still need: an end record, and a compensation for each update that is left
abbrev pub owed_in : Option OpenTxn → ℕ
owed_in None = 0
owed_in (Some t) = 1 + t.left

abbrev pub owed : SeatsState → ℕ
owed s = sum_by owed_in s.seats

-- this is the least number of a record that began an open transaction
pub record IsFirstOpen (s : SeatsState) (number : ℕ) : Type 0 where
  pub some : Any (λ o. option_map (λ t. t.begin) o ≡ Some number) s.seats
  pub least : All (λ o. IfSome o (λ t. number ≤ t.begin)) s.seats

-- two seats have different transactions
abbrev pub AreApart : Option OpenTxn → Option OpenTxn → Type 0
AreApart o p = IfSome o (λ t. IfSome p (λ u. t.begin ≢ u.begin))

-- The tie of the seats to a cache: both are of one node, the log has room for all that is owed, and the records of the
-- open transactions lie in it.
pub record AreTied (s : SeatsState) (c : CacheState) : Type 0 where
  pub node : s.node ≡ c.node
  pub room : owed s ≤ space c.log
  pub within : All (λ o. IfSome o (λ t. (6 * c.log.start ≤ t.begin) × (t.begin ≤ t.last) × (t.last < c.log.tail))) s.seats
  pub apart : AllPairs AreApart s.seats
