-- What a flush leaves, in its two calls: the first leaves the pages in the cache, and the second writes those that have
-- changes.
use Rattle.std.specs.Prelude.{◌≡◌, ◌≢◌, ℕ, true, false, IsTrue, Option, Some, None, All, is_some, option_and_then, slice_index_or, refl}
use Rattle.std.specs.List.{count_by}
use Rattle.std.proofs.Common.{arith, ap, subst, sym, ◌∙◌}
use Rattle.sd_base.specs.Disk.{BlockState}
use Rattle.sd_base.specs.declared.device.NodeId.{NodeId}
use Rattle.sd_base.specs.declared.names.PageNo.{PageNo}
use Rattle.page_owner.specs.declared.owners.Own.TheVariants.{Out}
use Rattle.page_owner.specs.Owners.{owner_of}
use Rattle.private_log.specs.Content.{place, region_of}
use Rattle.state_ids.specs.Blocks.{page_place}
use Rattle.node_cache.specs.Cache.{CachedPage, CacheState, first_change, has_changes, is_cached, is_changed, page_at}
use Rattle.node_cache.specs.Writes.{HoldsPages}
use Rattle.node_cache.proofs.DiskTie.{not_in_ring}
use Rattle.node_cache.proofs.PageWrites.{one_place}
use Rattle.txn_core.specs.Seats.{SeatsState}
use Rattle.store_nodes.specs.declared.node.Node.{Node}
use Rattle.store_nodes.specs.declared.node.Node.TheVariants.{Idle, Up, Down}
use Rattle.store_nodes.specs.declared.store.Store.{Store}
use Rattle.store_pages.specs.Flushes.{HoldsChanged, IsApart, KeepsAllButChanged, KeepsOthers, NarrowsNoOthers, NarrowsToChanged, has_changed}
use Rattle.store_nodes.specs.Footprint.{KeepsAllButLog, NarrowsToRing}
use Rattle.store_nodes.specs.Nodes.{IsNode, IsPlace, IsStore, OnUp, is_up, node_at, pages_of}
use Rattle.store_nodes.specs.Pages.{KeepsPages, WritesBack}
use Rattle.store_nodes.proofs.Changed.{found_by}
use Rattle.store_nodes.proofs.Works.{region_at, work_at}

-- a node that is up
the_node : (node : Node) → is_up node ≡ true → (c : CacheState) × (seats : SeatsState) × (node ≡ Up c seats)
the_node Idle up = cc
the_node (Up c seats) up = (c, seats, refl)
the_node Down up = cc

-- ---- the log, before the pages

-- a block besides the log and the changed pages has no new outcome
pub ring_to_changed : (n : ℕ) (a : Store) (b b' : ℕ → BlockState) → NarrowsToRing n a.shape b b' → NarrowsToChanged n a b b'
ring_to_changed n a b b' narrows k o apart may = narrows k o apart.log may

-- the same pages have changes
changed_before : (old new : Node) → is_up old ≡ true → is_up new ≡ true → OnUp old (λ c o. OnUp new (λ d w. KeepsPages c d)) → (x : PageNo) → has_changed new x ≡ has_changed old x
changed_before Idle new up later same x = cc
changed_before Down new up later same x = cc
changed_before (Up c seats) Idle up later same x = cc
changed_before (Up c seats) Down up later same x = cc
changed_before (Up c seats) (Up d after) up later same x = ap (λ ps. is_some (option_and_then first_change (page_at x ps))) same

module _ (n : ℕ) (a m : Store) where
  pub before_changed : m.shape ≡ a.shape → is_up (node_at a.nodes n) ≡ true → is_up (node_at m.nodes n) ≡ true → OnUp (node_at a.nodes n) (λ c o. OnUp (node_at m.nodes n) (λ d w. KeepsPages c d)) → (k : ℕ) → IsApart a n k → IsApart m n k
  before_changed shape up later same k apart = record {
    log = λ number here. apart.log number (subst (λ s. k ≡ place (region_of s n) number) shape here);
    pages = λ x has here. apart.pages x (sym (changed_before (node_at a.nodes n) (node_at m.nodes n) up later same x) ∙ has) (here ∙ ap (λ s. page_place s x) shape);
  }

  pub before_contents : (x y z : ℕ → BlockState) → m.shape ≡ a.shape → is_up (node_at a.nodes n) ≡ true → is_up (node_at m.nodes n) ≡ true → OnUp (node_at a.nodes n) (λ c o. OnUp (node_at m.nodes n) (λ d w. KeepsPages c d)) → KeepsAllButLog n a.shape x y → KeepsAllButChanged n m y z → KeepsAllButChanged n a x z
  before_contents x y z shape up later same first next k apart = next k (before_changed shape up later same k apart) ∙ first k apart.log

  pub before_holds : (z : ℕ → BlockState) → m.shape ≡ a.shape → m.shared.pool ≡ a.shared.pool → is_up (node_at a.nodes n) ≡ true → is_up (node_at m.nodes n) ≡ true → OnUp (node_at a.nodes n) (λ c o. OnUp (node_at m.nodes n) (λ d w. KeepsPages c d)) → HoldsChanged n m z → HoldsChanged n a z
  before_holds z shape pool up later same holds = by (node_at a.nodes n) (node_at m.nodes n) up later same holds
    where
      by : (old new : Node) → is_up old ≡ true → is_up new ≡ true → OnUp old (λ c o. OnUp new (λ d w. KeepsPages c d)) → OnUp new (λ d w. HoldsPages m.shape m.shared.pool d.pages z) → OnUp old (λ d w. HoldsPages a.shape a.shared.pool d.pages z)
      by Idle new up later same holds = tt
      by Down new up later same holds = tt
      by (Up c seats) Idle up later same holds = cc
      by (Up c seats) Down up later same holds = cc
      by (Up c seats) (Up d after) up later same holds = subst (λ ps. HoldsPages a.shape a.shared.pool ps z) same (subst (λ f. HoldsPages a.shape f d.pages z) pool (subst (λ s. HoldsPages s m.shared.pool d.pages z) shape holds))

  module _ (e : Store) where
    pub before_written : (count : ℕ) → is_up (node_at a.nodes n) ≡ true → is_up (node_at m.nodes n) ≡ true → OnUp (node_at a.nodes n) (λ c o. OnUp (node_at m.nodes n) (λ d w. KeepsPages c d)) → OnUp (node_at m.nodes n) (λ c o. OnUp (node_at e.nodes n) (λ d w. WritesBack c d count)) → OnUp (node_at a.nodes n) (λ c o. OnUp (node_at e.nodes n) (λ d w. WritesBack c d count))
    before_written count up later same written = by (node_at a.nodes n) (node_at m.nodes n) (node_at e.nodes n) up later same written
      where
        by : (old mid new : Node) → is_up old ≡ true → is_up mid ≡ true → OnUp old (λ c o. OnUp mid (λ d w. KeepsPages c d)) → OnUp mid (λ c o. OnUp new (λ d w. WritesBack c d count)) → OnUp old (λ c o. OnUp new (λ d w. WritesBack c d count))
        by Idle mid new up later same written = tt
        by Down mid new up later same written = tt
        by (Up c seats) Idle new up later same written = cc
        by (Up c seats) Down new up later same written = cc
        by (Up c seats) (Up d after) Idle up later same written = tt
        by (Up c seats) (Up d after) Down up later same written = tt
        by (Up c seats) (Up d after) (Up f last) up later same written = record { number = written.number ∙ ap (count_by has_changes) same; clean = written.clean; stable = written.stable }

-- ---- the pages of the other nodes

module _ (n : ℕ) (a : Store) (b b' : ℕ → BlockState) (is : IsStore a) (place_is : IsPlace n) (up : is_up (node_at a.nodes n) ≡ true) where
  -- a page that another node has cached is neither in the log nor changed by this one
  apart_other : (m : ℕ) → IsPlace m → m ≢ n → All (λ q. IsApart a n (page_place a.shape q.ticket.page)) (pages_of (node_at a.nodes m))
  apart_other m m_is far = by (node_at a.nodes m) (is.is m m_is)
    where
      own : (c : CacheState) × (seats : SeatsState) × (node_at a.nodes n ≡ Up c seats)
      own = the_node (node_at a.nodes n) up

      by : (o : Node) → IsNode a.shape a.shared.pool a.shared.owners m o → All (λ q. IsApart a n (page_place a.shape q.ticket.page)) (pages_of o)
      by Idle rest = λ j e low. absurd (omega (arith, low))
      by Down rest = λ j e low. absurd (omega (arith, low))
      by (Up e seats) theirs = λ j f low.
          let work = work_at a.shape a.shared.pool a.shared.owners a.nodes n own.0 own.1 place_is own.2 is in
          let x = (slice_index_or e.pages j f).ticket.page in
          record {
            log = λ number here. not_in_ring a.shape own.0 work.store work.log_tie number x (here ∙ ap (λ g. place g number) (sym (region_at a.shape n own.0 work.number work.store work.log_tie)));
            pages = λ y has here.
                let same : x ≡ y = one_place a.shape x y here in
                let mine : is_changed y own.0 ≡ true = subst (λ o. has_changed o y ≡ true) own.2 has in
                let out = (theirs.owned x).1 (found_by x e.pages j f low refl) in
                let out' = (work.owned y).1 (cached_changed y own.0 mine) in
                let both : Out e.node ≡ Out own.0.node = sym out ∙ ap (λ z. owner_of a.shared.owners z.0) same ∙ out' in
                let one : e.node ≡ own.0.node = cc in
                far (sym theirs.number ∙ ap (λ (k : NodeId). k.0) one ∙ work.number);
          }
        where
          cached_changed : (y : PageNo) (c : CacheState) → is_changed y c ≡ true → IsTrue (is_cached y c)
          cached_changed y c more = here (page_at y c.pages) refl
            where
              here : (o : Option CachedPage) → page_at y c.pages ≡ o → IsTrue (is_cached y c)
              here None none = let never : is_changed y c ≡ false = rw none refl in cc
              here (Some q) some = rw some refl

  pub others_narrowed : NarrowsToChanged n a b b' → NarrowsNoOthers n a b b'
  others_narrowed narrows m m_is far = λ j f low o may. narrows _ o (apart_other m m_is far j f low) may

  pub others_kept : KeepsAllButChanged n a b b' → KeepsOthers n a b b'
  others_kept keeps m m_is far = λ j f low. keeps _ (apart_other m m_is far j f low)
