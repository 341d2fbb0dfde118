-- The locks that transactions have: a finite map from locks to modes.
use Rattle.std.specs.Prelude.{◌≡◌, ◌==◌, ◌&&◌, ◌||◌, Bool, true, false, not, List, Option, Some, None, filter, fold, map, IsSome, if◌then◌else◌, refl}
use Rattle.std.specs.Coded.{Coded, code_by, coded_bool}
use Rattle.std.specs.Ordering.{is_gt}
use Rattle.std.specs.FinMap as finite
use Rattle.sd_base.specs.declared.device.NodeId.{NodeId}
use Rattle.sd_base.specs.declared.names.GroupNo.{GroupNo}
use Rattle.sd_base.specs.declared.names.Key.{Key}
use Rattle.sd_base.specs.declared.names.TxnId.{TxnId}
use Rattle.sd_base.specs.Places.{group_of}
use Rattle.record_locks.specs.declared.mode.Mode.{Mode}
use Rattle.record_locks.specs.declared.mode.Mode.TheVariants.{Read, Write}
use Rattle.record_locks.specs.Order.{Lock, lock, lock_cmp, lock_code, txn_cmp, same_txn}

-- which locks are held, each in its mode
abbrev pub Held : Type 0
Held = finite.FinMap lock_cmp Mode

-- a lock in this mode is to write
abbrev pub is_write : Mode → Bool
is_write Read = false
is_write Write = true

abbrev mode_for : Bool → Mode
mode_for false = Read
mode_for true = Write

pub mode_for-is_write : (mode : Mode) → mode_for (is_write mode) ≡ mode
mode_for-is_write Read = refl
mode_for-is_write Write = refl

abbrev pub mode_code : Coded Mode
mode_code = code_by Bool coded_bool is_write mode_for mode_for-is_write

-- how `Held` is stored
abbrev pub held_code : Coded Held
held_code = finite.code lock_code mode_code

-- the mode in which the transaction has the lock on the key, if it has it
abbrev pub mode_of : Held → Key → TxnId → Option Mode
mode_of m key t = finite.get m (lock key t)

-- the mode that a transaction has lets it do what this one is for
abbrev pub covers : Option Mode → Mode → Bool
covers None mode = false
covers (Some Write) mode = true
covers (Some Read) Read = true
covers (Some Read) Write = false

-- the mode that a transaction has after it took this one
abbrev pub raised : Option Mode → Mode → Mode
raised None mode = mode
raised (Some Write) mode = Write
raised (Some Read) mode = mode

-- two transactions can't have the lock on one key in these modes: one of them is to write
abbrev pub excludes : Mode → Mode → Bool
excludes Read Read = false
excludes Read Write = true
excludes Write mode = true

-- a lock that keeps the transaction from having the key in this mode
abbrev pub conflicts : Key → TxnId → Mode → Lock → Mode → Bool
conflicts key t mode l had = l.key.0 == key.0 && not (same_txn l.txn t) && excludes had mode

-- a lock on a key of this group
abbrev pub is_in_group : GroupNo → Lock → Mode → Bool
is_in_group g l mode = (group_of l.key.0).0 == g.0

-- the lesser of two transactions, where there may be but one
abbrev pub lesser : Option TxnId → TxnId → Option TxnId
lesser None t = Some t
lesser (Some u) t = Some (if is_gt (txn_cmp u t) then t else u)

-- the least of these transactions, if there is one
abbrev pub least_of : List TxnId → Option TxnId
least_of ts = fold lesser None ts

-- the least transaction that has a lock which passes the test, if one has
unfoldable pub least_where : (Lock → Mode → Bool) → Held → Option TxnId
least_where test m = least_of (map (λ e. e.0.txn) (filter (λ e. test e.0 e.1) (finite.entries m)))

-- the mode in which a lock is held, where the lock passes the test
abbrev pub passing : (Lock → Mode → Bool) → Lock → Option Mode → Option Mode
passing test l None = None
passing test l (Some mode) = if test l mode then Some mode else None

-- the lock is held and passes the test
abbrev pub Passes : (Lock → Mode → Bool) → Held → Lock → Type 0
Passes test m l = IsSome (passing test l (finite.get m l))

-- the least transaction that has a lock which passes the test, or none where no lock passes
abbrev pub IsLeast : (Lock → Mode → Bool) → Held → Option TxnId → Type 0
IsLeast test m None = (l : Lock) → ¬ Passes test m l
IsLeast test m (Some t) = ((key : Key) × Passes test m (lock key t)) × ((l : Lock) → Passes test m l → is_gt (txn_cmp t l.txn) ≡ false)

-- the locks that pass the test
unfoldable pub locks_where : (Lock → Mode → Bool) → Held → Held
locks_where test m = finite.from_entries (filter (λ e. test e.0 e.1) (finite.entries m))

-- the transaction took the lock on the key, or raised its mode
abbrev pub taken : Held → Key → TxnId → Mode → Held
taken m key t mode = finite.insert m (lock key t) (raised (mode_of m key t) mode)

-- where a transaction may write, no other has the lock on the key
abbrev pub IsCompatible : Held → Type 0
IsCompatible m = (key : Key) (t u : TxnId) (a b : Mode) → mode_of m key t ≡ Some a → mode_of m key u ≡ Some b → excludes a b ≡ true → t ≡ u

-- without the locks of the transaction
abbrev pub without_txn : TxnId → Held → Held
without_txn t m = locks_where (λ l mode. not (same_txn l.txn t)) m

-- without the locks of the node
abbrev pub without_node : NodeId → Held → Held
without_node n m = locks_where (λ l mode. not (l.txn.node.0 == n.0)) m

-- without the locks of the node that are to read
abbrev pub without_reads_of : NodeId → Held → Held
without_reads_of n m = locks_where (λ l mode. not (l.txn.node.0 == n.0) || is_write mode) m
