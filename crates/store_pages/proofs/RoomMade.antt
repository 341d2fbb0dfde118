-- Which pages are written to make room.
use Rattle.std.specs.Prelude.{◌≡◌, ℕ, IsTrue, length}
use Rattle.std.proofs.Common.{inl, inr, subst, sym}
use Rattle.sd_base.specs.Disk.{BlockState}
use Rattle.sd_base.specs.declared.names.PageNo.{PageNo}
use Rattle.node_cache.specs.Cache.{CacheState, is_cached}
use Rattle.node_cache.proofs.Fetched.{CacheRoom}
use Rattle.txn_core.specs.Seats.{SeatsState}
use Rattle.store_nodes.specs.declared.node.Node.TheVariants.{Up}
use Rattle.store_nodes.specs.declared.store.Store.{Store}
use Rattle.store_nodes.specs.Footprint.{MadeRoom}
use Rattle.store_nodes.specs.Nodes.{OnUp, node_at}
use Rattle.store_nodes.specs.Pages.{HasCached}

pub made_room : (x : PageNo) (c d : Store) (n : ℕ) (k j : CacheState) (old now : SeatsState) (a b : ℕ → BlockState) → node_at c.nodes n ≡ Up k old → node_at d.nodes n ≡ Up j now → CacheRoom c.shape x k j a b → MadeRoom n x c d a b
made_room x c d n k j old now a b was is room = record {
  came = λ y has. elim (room.came y (after y has)) [ inl same ↦ inl same | inr there ↦ inr (before y there) ];
  full = λ full. subst (λ o. OnUp o (λ q seats. length q.pages ≡ 16)) (sym is) (room.full (subst (λ o. OnUp o (λ q seats. length q.pages ≡ 16)) was full));
  room = λ y low. elim (room.room y low) [
    | inl same ↦ inl same
    | inr made ↦ inr (before y made.0, subst (λ o. OnUp o (λ q seats. length q.pages ≡ 16)) (sym is) made.1, made.2)
  ];
}
  where
    after : (y : PageNo) → HasCached d n y → IsTrue (is_cached y j)
    after y has = subst (λ o. OnUp o (λ q seats. IsTrue (is_cached y q))) is has

    before : (y : PageNo) → IsTrue (is_cached y k) → HasCached c n y
    before y has = subst (λ o. OnUp o (λ q seats. IsTrue (is_cached y q))) (sym was) has
