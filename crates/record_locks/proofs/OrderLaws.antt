-- Locks are in a total order, in which only a lock ties with itself.
use Rattle.std.proofs.Common.{◌≡◌, ◌==◌, ◌&&◌, refl, ◌∙◌}
use Rattle.std.specs.Ordering.{is_eq, ordering_then, eq_by_cmp, nat_cmp}
use Rattle.std.specs.FinMap.{IsAntisymmetric, nat_cmp-IsAntisymmetric}
use Rattle.std.specs.Cmp.{IsTotalOrder, nat_cmp_total, on_total, then_total, unsigned_tied, eq_by_cmp_equiv}
use Rattle.std.specs.declared.cmp.Ordering.{Ordering}
use Rattle.std.specs.declared.cmp.Ordering.TheVariants.{Less, Equal, Greater}
use Rattle.sd_base.specs.declared.names.TxnId.{TxnId}
use Rattle.record_locks.specs.Order.{Lock, txn_cmp, lock_cmp, same_txn}

pub txn_cmp_total : IsTotalOrder txn_cmp
txn_cmp_total = then_total (on_total (λ (t : TxnId). t.node.0) nat_cmp_total) (on_total (λ (t : TxnId). t.seat) nat_cmp_total)

pub lock_cmp_total : IsTotalOrder lock_cmp
lock_cmp_total = then_total (on_total (λ (l : Lock). l.txn) txn_cmp_total) (on_total (λ (l : Lock). l.key.0) nat_cmp_total)

both_equal : (r s : Ordering) → ordering_then r s ≡ Equal → (r ≡ Equal) × (s ≡ Equal)
both_equal Less s e = cc
both_equal Equal s e = (refl, e)
both_equal Greater s e = cc

pub txn_cmp_antisymmetric : IsAntisymmetric txn_cmp
txn_cmp_antisymmetric t u e =
    let parts = both_equal (nat_cmp t.node.0 u.node.0) (nat_cmp t.seat u.seat) e in
    let node : t.node.0 ≡ u.node.0 = nat_cmp-IsAntisymmetric t.node.0 u.node.0 parts.0 in
    let seat : t.seat ≡ u.seat = nat_cmp-IsAntisymmetric t.seat u.seat parts.1 in
    λ i. record { node = record { 0 = node i }; seat = seat i }

pub lock_cmp_antisymmetric : IsAntisymmetric lock_cmp
lock_cmp_antisymmetric l k e =
    let parts = both_equal (txn_cmp l.txn k.txn) (nat_cmp l.key.0 k.key.0) e in
    let txn : l.txn ≡ k.txn = txn_cmp_antisymmetric l.txn k.txn parts.0 in
    let key : l.key.0 ≡ k.key.0 = nat_cmp-IsAntisymmetric l.key.0 k.key.0 parts.1 in
    λ i. record { txn = txn i; key = record { 0 = key i } }

is_eq-then : (r s : Ordering) → is_eq (ordering_then r s) ≡ (is_eq r && is_eq s)
is_eq-then Less s = refl
is_eq-then Equal s = refl
is_eq-then Greater s = refl

-- transactions tie where they are the same
pub txn_ties : (t u : TxnId) → eq_by_cmp txn_cmp t u ≡ same_txn t u
txn_ties t u =
    is_eq-then (nat_cmp t.node.0 u.node.0) (nat_cmp t.seat u.seat)
    ∙ (λ i. unsigned_tied t.node.0 u.node.0 i && unsigned_tied t.seat u.seat i)

-- locks tie where their keys and transactions are the same
pub lock_ties : (l k : Lock) → eq_by_cmp lock_cmp l k ≡ (same_txn l.txn k.txn && l.key.0 == k.key.0)
lock_ties l k =
    is_eq-then (txn_cmp l.txn k.txn) (nat_cmp l.key.0 k.key.0)
    ∙ (λ i. txn_ties l.txn k.txn i && unsigned_tied l.key.0 k.key.0 i)

pub lock_ties-sym : (l k : Lock) → eq_by_cmp lock_cmp l k ≡ eq_by_cmp lock_cmp k l
lock_ties-sym l k = (eq_by_cmp_equiv lock_cmp_total).symm l k
