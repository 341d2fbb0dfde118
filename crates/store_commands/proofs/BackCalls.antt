-- What taking one update back leaves of who holds the pages, and of the transaction.
use Rattle.std.specs.Prelude.{◌≡◌, ℕ, true, false, not, Result, Ok, Err, IfErr, IsTrue, OnOk, refl}
use Rattle.std.proofs.Common.{inl, inr, ap, sym, ◌∙◌}
use Rattle.std.proofs.lemmas.Bool.{cases_eq}
use Rattle.sd_base.specs.declared.device.NodeId.{NodeId}
use Rattle.sd_base.specs.declared.names.PageNo.{PageNo}
use Rattle.sd_base.specs.declared.names.TxnId.{TxnId}
use Rattle.page_owner.specs.declared.owners.Own.{Own}
use Rattle.page_owner.specs.declared.owners.Own.TheVariants.{Nobody, Out, Parked}
use Rattle.page_owner.specs.Owners.{owner_of}
use Rattle.record_machine.specs.Commands.{where_so}
use Rattle.script_text.specs.declared.reply.Reply.{Reply}
use Rattle.script_text.specs.declared.reply.Reply.TheVariants as says
use Rattle.txn_core.specs.Seats.{is_busy}
use Rattle.store_nodes.specs.declared.store.Store.{Store}
use Rattle.store_nodes.specs.Known.{held_by, held_in}
use Rattle.store_nodes.specs.Nodes.{IsHeldBy, IsPlace, IsStore, OnUp, OthersStay, is_up, node_at}
use Rattle.store_nodes.specs.Pages.{has_txn}
use Rattle.store_nodes.specs.Ports.{UnlessStop, says_stop}
use Rattle.store_commands.specs.Aborts.{KeepsOpen}
use Rattle.store_commands.proofs.SeatsLeft.{busy_txn, open_same}

-- the same nodes are up, and each page has the owner that it had
holders_stay : (c d : Store) (n : ℕ) → IsStore c → d.shared.owners ≡ c.shared.owners → OthersStay n c.nodes d.nodes → is_up (node_at c.nodes n) ≡ true → is_up (node_at d.nodes n) ≡ true → (y : PageNo) → held_in d y ≡ held_in c y
holders_stay c d n is owners others was now y = ap (λ os. held_by d y (owner_of os y.0)) owners ∙ each (owner_of c.shared.owners y.0) (λ k has. same k.0 (is.shared.holders y.0 k has))
  where
    same : (k : ℕ) → IsPlace k → is_up (node_at d.nodes k) ≡ is_up (node_at c.nodes k)
    same k place = elim (cases_eq k n) [
      | inl here ↦ ap (λ j. is_up (node_at d.nodes j)) here ∙ now ∙ sym was ∙ sym (ap (λ j. is_up (node_at c.nodes j)) here)
      | inr far ↦ ap is_up (others k place far)
    ]

    each : (own : Own) → ((k : NodeId) → IsHeldBy k own → is_up (node_at d.nodes k.0) ≡ is_up (node_at c.nodes k.0)) → held_by d y own ≡ held_by c y own
    each Nobody ups = refl
    each (Parked k) ups = ap (λ o. where_so (not o) (says.Held y k)) (ups k (inl refl))
    each (Out k) ups = ap (λ o. where_so (not o) (says.Held y k)) (ups k (inr refl))

pub holders_back : {T : Type 0} (r : Result T Reply) (c d : Store) (n : ℕ) → IsStore c → OthersStay n c.nodes d.nodes → is_up (node_at c.nodes n) ≡ true → OnOk r (is_up (node_at d.nodes n) ≡ true) → OnOk r (d.shared.owners ≡ c.shared.owners) → IfErr r (λ why. says_stop why ≡ false → d ≡ c) → UnlessStop r ((y : PageNo) → held_in d y ≡ held_in c y)
holders_back (Ok x) c d n is others was now owners kept = holders_stay c d n is owners others was now
holders_back (Err why) c d n is others was now owners kept = λ runs y. ap (λ (v : Store). held_in v y) (kept runs)

-- the transaction is open still
pub open_back : {T : Type 0} (r : Result T Reply) (c d : Store) (t : TxnId) → has_txn (node_at c.nodes t.node.0) t ≡ true → OnOk r (is_up (node_at d.nodes t.node.0) ≡ true) → OnOk r (d.shared.locks ≡ c.shared.locks) → OnOk r (d.shared.reopening ≡ c.shared.reopening)
    → OnOk r (OnUp (node_at d.nodes t.node.0) (λ k seats. IsTrue (is_busy seats t.seat))) → IfErr r (λ why. says_stop why ≡ false → d ≡ c) → UnlessStop r (KeepsOpen t c d)
open_back (Ok x) c d t was now locks reopening busy kept = record { locks = locks; reopening = reopening; busy = busy_txn (node_at d.nodes t.node.0) t now busy }
open_back (Err why) c d t was now locks reopening busy kept = λ runs. open_same c d t (kept runs) was
