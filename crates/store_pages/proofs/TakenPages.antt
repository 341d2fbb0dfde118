-- What is left where a node takes a page that no other node had, or has it cached already.
use Rattle.std.specs.Prelude.{◌≡◌, ℕ, true, IsTrue, refl}
use Rattle.std.proofs.Common.{inl, inr, ap, ◌∙◌}
use Rattle.sd_base.specs.Disk.{BlockState}
use Rattle.sd_base.specs.declared.device.NodeId.{NodeId}
use Rattle.sd_base.specs.declared.names.PageNo.{PageNo}
use Rattle.page_owner.specs.declared.owners.Own.TheVariants.{Out}
use Rattle.page_owner.specs.Owners.{owner_of}
use Rattle.node_cache.specs.Cache.{is_cached}
use Rattle.store_nodes.specs.declared.node.Node.{Node}
use Rattle.store_nodes.specs.declared.node.Node.TheVariants.{Down, Idle, Up}
use Rattle.store_nodes.specs.declared.store.Store.{Store}
use Rattle.store_nodes.specs.Footprint.{MadeRoom, TookPage}
use Rattle.store_nodes.specs.Nodes.{IsPlace, IsStore, OnUp, is_up, node_at}
use Rattle.store_nodes.specs.Pages.{HasCached}
use Rattle.store_nodes.specs.Ports.{IsQuiet, WritesWith}
use Rattle.store_nodes.proofs.Works.{work_at}

-- nothing is written
pub writes_same : (n : ℕ) (c : Store) (b : ℕ → BlockState) → IsQuiet c b → WritesWith n c c b b
writes_same n c b quiet = record { quiet = quiet; besides = λ k o page ring may. may }

-- a page that a node which is up has cached is its own
pub cached_own : (c : Store) (n : NodeId) (x : PageNo) → IsStore c → IsPlace n.0 → is_up (node_at c.nodes n.0) ≡ true → HasCached c n.0 x → owner_of c.shared.owners x.0 ≡ Out n
cached_own c n x is place up has = by (node_at c.nodes n.0) refl up has
  where
    by : (o : Node) → node_at c.nodes n.0 ≡ o → is_up o ≡ true → OnUp o (λ d seats. IsTrue (is_cached x d)) → owner_of c.shared.owners x.0 ≡ Out n
    by Idle at up has = cc
    by (Up d seats) at up has =
        let work = work_at c.shape c.shared.pool c.shared.owners c.nodes n.0 d seats place at is in
        (work.owned x).1 has ∙ ap Out (ap (λ k. record { 0 = k }) work.number)
    by Down at up has = cc

-- the node made room for it
pub made_took : (n : NodeId) (x : PageNo) (c d : Store) (a b : ℕ → BlockState) → MadeRoom n.0 x c d a b → TookPage n x c d a b
made_took n x c d a b made = record {
  came = made.came;
  full = made.full;
  room = λ y low. elim (made.room y low) [ inl still ↦ inl still | inr gone ↦ inr (inl gone) ];
}
