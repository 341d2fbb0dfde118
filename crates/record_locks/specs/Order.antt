-- Locks and their order.
use Rattle.std.specs.Prelude.{◌==◌, ◌&&◌, ℕ, Bool, refl}
use Rattle.std.specs.Coded.{Coded, code_by, coded×, coded_ℕ}
use Rattle.std.specs.Ordering.{nat_cmp, on, then_cmp}
use Rattle.std.specs.declared.cmp.Ordering.{Ordering}
use Rattle.sd_base.specs.declared.names.Key.{Key}
use Rattle.sd_base.specs.declared.names.TxnId.{TxnId}

-- what a transaction may have: the lock on a key
pub record Lock : Type 0 where
  pub txn : TxnId
  pub key : Key

-- the lock of a transaction on a key
abbrev pub lock : Key → TxnId → Lock
lock key t = record { txn = t; key = key }

-- transactions are ordered by node, then seat
abbrev pub txn_cmp : TxnId → TxnId → Ordering
txn_cmp = then_cmp (on (λ t. t.node.0) nat_cmp) (on (λ t. t.seat) nat_cmp)

-- locks are ordered by transaction, then key
abbrev pub lock_cmp : Lock → Lock → Ordering
lock_cmp = then_cmp (on (λ l. l.txn) txn_cmp) (on (λ l. l.key.0) nat_cmp)

-- both are the same transaction
abbrev pub same_txn : TxnId → TxnId → Bool
same_txn t u = t.node.0 == u.node.0 && t.seat == u.seat

-- a lock is stored as the numbers of its node, its seat and its key
abbrev pub lock_code : Coded Lock
lock_code = code_by (ℕ × (ℕ × ℕ)) (coded× coded_ℕ (coded× coded_ℕ coded_ℕ))
    (λ l. (l.txn.node.0, (l.txn.seat, l.key.0)))
    (λ n. record { txn = record { node = record { 0 = n.0 }; seat = n.1.0 }; key = record { 0 = n.1.1 } })
    (λ _. refl)
