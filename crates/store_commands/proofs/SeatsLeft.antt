-- What an abort's parts leave of the transactions of its node.
use Rattle.std.specs.Prelude.{◌≡◌, ◌<◌, ℕ, true, false, Option, Some, None, IsTrue}
use Rattle.std.proofs.Common.{arith, ap, subst, sym, ◌∙◌}
use Rattle.sd_base.specs.declared.names.TxnId.{TxnId}
use Rattle.node_cache.specs.Cache.{CacheState}
use Rattle.txn_core.specs.Seats.{OpenTxn, SeatsState, is_busy, txn_in}
use Rattle.txn_core.proofs.SeatLaws.{txn_of}
use Rattle.store_nodes.specs.declared.node.Node.{Node}
use Rattle.store_nodes.specs.declared.node.Node.TheVariants.{Down, Idle, Up}
use Rattle.store_nodes.specs.declared.store.Store.{Store}
use Rattle.store_nodes.specs.Nodes.{OnUp, is_up, node_at}
use Rattle.store_nodes.specs.Pages.{KeepsSeats, KeepsWork, LeavesLess, has_txn}
use Rattle.store_commands.specs.Aborts.{KeepsOpen}
use Rattle.store_commands.proofs.Told.{busy_kept}

-- a transaction that is open, in the seats of its node
pub busy_up : (node : Node) (t : TxnId) → has_txn node t ≡ true → OnUp node (λ c seats. IsTrue (is_busy seats t.seat))
busy_up Idle t busy = tt
busy_up (Up c seats) t busy = busy
busy_up Down t busy = tt

pub busy_txn : (node : Node) (t : TxnId) → is_up node ≡ true → OnUp node (λ c seats. IsTrue (is_busy seats t.seat)) → has_txn node t ≡ true
busy_txn Idle t up busy = cc
busy_txn (Up c seats) t up busy = busy
busy_txn Down t up busy = cc

-- what is said of the seats of a node stays so where they do
pub seats_still : (a b : Node) (P : SeatsState → Type 0) → KeepsSeats a b → OnUp a (λ c seats. P seats) → is_up a ≡ true → OnUp b (λ c seats. P seats)
seats_still Idle b P keeps p up = cc
seats_still (Up c seats) Idle P keeps p up = tt
seats_still (Up c seats) (Up d after) P keeps p up = subst P (sym keeps.1) p
seats_still (Up c seats) Down P keeps p up = tt
seats_still Down b P keeps p up = cc

-- what follows of a node that is up
pub on_up : (node : Node) (P Q : CacheState → SeatsState → Type 0) → OnUp node P → ((c : CacheState) (seats : SeatsState) → P c seats → Q c seats) → OnUp node Q
on_up Idle P Q p then = tt
on_up (Up c seats) P Q p then = then c seats p
on_up Down P Q p then = tt

-- how many updates are left of it
abbrev left_of : Option OpenTxn → ℕ
left_of None = 0
left_of (Some t) = t.left

abbrev pub left_in : Node → ℕ → ℕ
left_in Idle seat = 0
left_in (Up c seats) seat = left_of (txn_in seats seat)
left_in Down seat = 0

-- they are less after one was taken back
pub left_less : (a b : Node) (seat : ℕ) → is_up a ≡ true → is_up b ≡ true → OnUp a (λ c seats. IsTrue (is_busy seats seat)) → OnUp b (λ c seats. IsTrue (is_busy seats seat)) → OnUp a (λ c old. OnUp b (λ d new. LeavesLess seat old new)) → left_in b seat < left_in a seat
left_less Idle b seat up after busy still less = let never : false ≡ true = up in cc
left_less (Up c seats) Idle seat up after busy still less = let never : false ≡ true = after in cc
left_less (Up c seats) (Up d new) seat up after busy still less =
    let t = txn_of seats seat busy in
    let u = txn_of new seat still in
    let one = less t.0 u.0 t.1 u.1 in
    subst (λ o. left_of o < left_of (txn_in seats seat)) (sym u.1) (subst (λ o. u.0.left < left_of o) (sym t.1) (omega (arith, one)))
left_less (Up c seats) Down seat up after busy still less = let never : false ≡ true = after in cc
left_less Down b seat up after busy still less = let never : false ≡ true = up in cc

-- and a node whose transactions stay has as many left
pub left_same : (a b c : Node) (seat : ℕ) → is_up b ≡ true → KeepsSeats a b → OnUp b (λ d old. OnUp c (λ e new. LeavesLess seat old new)) → OnUp a (λ d old. OnUp c (λ e new. LeavesLess seat old new))
left_same Idle b c seat up keeps less = tt
left_same (Up k seats) Idle c seat up keeps less = let never : false ≡ true = up in cc
left_same (Up k seats) (Up d mid) Idle seat up keeps less = tt
left_same (Up k seats) (Up d mid) (Up e after) seat up keeps less = subst (λ s. LeavesLess seat s after) keeps.1 less
left_same (Up k seats) (Up d mid) Down seat up keeps less = tt
left_same (Up k seats) Down c seat up keeps less = let never : false ≡ true = up in cc
left_same Down b c seat up keeps less = tt

-- ---- the transaction stays open

pub open_kept : (a b : Store) (t : TxnId) → KeepsWork t.node.0 a b → has_txn (node_at a.nodes t.node.0) t ≡ true → KeepsOpen t a b
open_kept a b t work busy = record { locks = work.locks; reopening = work.reopening; busy = busy_kept a b t.node.0 t work busy }

pub open_same : (a b : Store) (t : TxnId) → b ≡ a → has_txn (node_at a.nodes t.node.0) t ≡ true → KeepsOpen t a b
open_same a b t same busy = record { locks = ap (λ (v : Store). v.shared.locks) same; reopening = ap (λ (v : Store). v.shared.reopening) same; busy = ap (λ (v : Store). has_txn (node_at v.nodes t.node.0) t) same ∙ busy }

pub open_then : (a b c : Store) (t : TxnId) → KeepsOpen t a b → KeepsOpen t b c → KeepsOpen t a c
open_then a b c t first next = record { locks = next.locks ∙ first.locks; reopening = next.reopening ∙ first.reopening; busy = next.busy }
