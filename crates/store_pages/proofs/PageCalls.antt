-- What a call of one node leaves of the store and of the disk that writes pages, where the node is up after it.
use Rattle.std.specs.Prelude.{◌≡◌, ◌≢◌, ◌-◌, ◌/◌, ◌<◌, ◌≤◌, [], ℕ, List, Option, Some, None, All, slice_set, refl}
use Rattle.std.specs.List.{cons_option}
use Rattle.std.proofs.Common.{arith, inl, inr, ap, subst, subst₂, sym, ◌∙◌}
use Rattle.std.proofs.lemmas.Bool.{cases_eq}
use Rattle.std.proofs.lemmas.List.{set-set}
use Rattle.std.proofs.lemmas.List.Elements.{All-cons, All-nil}
use Rattle.sd_base.proofs.Positions.{find_all}
use Rattle.sd_base.specs.Disk.{BlockState, DiskState}
use Rattle.sd_base.specs.Calls.{NoNewWriterBut}
use Rattle.sd_base.specs.Faults.{IsStopOf, OnStop}
use Rattle.sd_base.specs.Shape.{page_count}
use Rattle.sd_base.specs.declared.device.NodeId.{NodeId}
use Rattle.sd_base.specs.declared.fault.DevFault.{DevFault}
use Rattle.sd_base.specs.declared.fault.DevFault.TheVariants.{Damaged, Failed, Lost, Stopped}
use Rattle.sd_base.specs.declared.names.PageNo.{PageNo}
use Rattle.page_owner.specs.declared.owners.Own.{Own}
use Rattle.page_owner.specs.Owners.{owner_of}
use Rattle.private_log.specs.Content.{place, region_of}
use Rattle.private_log.specs.Log.{SameLog, tail_place}
use Rattle.record_locks.specs.Held.{without_reads_of}
use Rattle.node_cache.specs.Cache.{AreOwned, AreShown, CachedPage, CacheState, IsCache, IsOfStore, IsTiedToLog, is_page, page_at}
use Rattle.node_cache.specs.Room.{freed, given_up}
use Rattle.node_cache.specs.Writes.{KeepsForeignButPages, NarrowsButPages}
use Rattle.node_cache.proofs.OnePage.{found, is_page-same}
use Rattle.txn_core.specs.Seats.{SeatsState}
use Rattle.store_nodes.specs.declared.node.Node.{Node}
use Rattle.store_nodes.specs.declared.node.Node.TheVariants.{Down, Up}
use Rattle.store_nodes.specs.declared.store.Shared.{Shared}
use Rattle.store_nodes.specs.declared.store.Store.{Store}
use Rattle.store_nodes.specs.Halting.{Halts}
use Rattle.store_nodes.specs.Nodes.{IsAtWork, IsPlace, IsStore, OthersStay, is_up, node_at, pages_of, with_node}
use Rattle.store_nodes.specs.Pages.{KeepsSeats}
use Rattle.store_nodes.specs.Ports.{IsQuiet, IsQuietButOf, IsQuietOf, NarrowsBesides}
use Rattle.txn_core.proofs.SeatLaws.{tied_same}
use Rattle.store_nodes.proofs.Eight.{at_same, others_stay}
use Rattle.store_nodes.proofs.OtherLogs.{LeavesRegion, pages_leave}
use Rattle.store_nodes.proofs.Works.{place_inside, quiet_but, quiet_still, region_at, up_most, work_at}

-- where the port stopped
pub on_stop : (n : ℕ) (f : DevFault) (P : Type 0) → IsStopOf n f → OnStop f P → P
on_stop n (Stopped m) P is p = p
on_stop n (Failed m) P is p = p
on_stop n (Lost at) P is p = absurd is
on_stop n (Damaged at) P is p = absurd is

-- what holds of the pages of a cache holds of the one that is found
pub all_found : (P : CachedPage → Type 0) (x : PageNo) (pages : List CachedPage) → All P pages → All P (cons_option (page_at x pages) [])
all_found P x pages all = by (page_at x pages) refl
  where
    by : (o : Option CachedPage) → page_at x pages ≡ o → All P (cons_option o [])
    by None none = All-nil P
    by (Some q) there = All-cons P q [] (find_all P (is_page x) pages q there all) (All-nil P)

-- and it isn't another one
pub found_apart : (x y : PageNo) (pages : List CachedPage) → y ≢ x → All (λ q. q.ticket.page ≢ y) (cons_option (page_at x pages) [])
found_apart x y pages far = by (page_at x pages) refl
  where
    by : (o : Option CachedPage) → page_at x pages ≡ o → All (λ q. q.ticket.page ≢ y) (cons_option o [])
    by None none = All-nil (λ q. q.ticket.page ≢ y)
    by (Some q) there = All-cons (λ q. q.ticket.page ≢ y) q [] (λ same. far (sym same ∙ is_page-same x q (found (is_page x) pages q there))) (All-nil (λ q. q.ticket.page ≢ y))

module _ (me : Store) (n i : ℕ) (c d : CacheState) (seats : SeatsState) (is : IsStore me) (place_is : IsPlace n) (at : i ≡ n - 1) (up : node_at me.nodes n ≡ Up c seats) where
  abbrev nodes' : List Node
  nodes' = with_node me.nodes n (Up d seats)

  work : IsAtWork me.shape me.shared.pool me.shared.owners n c seats
  work = work_at me.shape me.shared.pool me.shared.owners me.nodes n c seats place_is up is

  low : n ≤ me.shape.nodes
  low = (let last = work.store.node.1 in let same = work.number in omega (arith, last, same))

  others : OthersStay n me.nodes nodes'
  others = others_stay me.nodes n (Up d seats) is.shared.eight place_is

  pub now_at : node_at (slice_set me.nodes i (Up d seats)) n ≡ Up d seats
  now_at = ap (λ j. node_at (slice_set me.nodes j (Up d seats)) n) at ∙ at_same me.nodes n (Up d seats) is.shared.eight place_is

  -- the same nodes are up
  pub up_same : (k : ℕ) → IsPlace k → is_up (node_at (slice_set me.nodes i (Up d seats)) k) ≡ is_up (node_at me.nodes k)
  up_same k k_is = elim (cases_eq k n) [
    | inl same ↦ ap (λ j. is_up (node_at (slice_set me.nodes i (Up d seats)) j)) same ∙ ap is_up now_at ∙ sym (ap is_up up) ∙ ap (λ j. is_up (node_at me.nodes j)) (sym same)
    | inr far ↦ ap is_up (ap (λ j. node_at (slice_set me.nodes j (Up d seats)) k) at ∙ others k k_is far)
  ]

  there : (P : List Node → Type 0) → P nodes' → P (slice_set me.nodes i (Up d seats))
  there P was = subst (λ j. P (slice_set me.nodes j (Up d seats))) (sym at) was

  pub seats_kept : KeepsSeats (node_at me.nodes n) (node_at (slice_set me.nodes i (Up d seats)) n)
  seats_kept = subst₂ KeepsSeats (sym up) (sym now_at) (refl, refl)

  pub work_after : (pool : List (Option (List ℕ))) (owners : List Own) → d.node ≡ c.node → IsCache d.node d.pages → IsOfStore me.shape d → AreShown me.shape pool d → AreOwned owners d → IsTiedToLog d → SameLog c.log d.log → d.log.tail ≡ c.log.tail → IsAtWork me.shape pool owners n d seats
  work_after pool owners node cache store shown owned log_tie same tail = record {
    number = ap (λ (k : NodeId). k.0) node ∙ work.number;
    cache = cache;
    store = store;
    shown = shown;
    owned = owned;
    log_tie = log_tie;
    tie = tied_same seats c d node same tail work.tie;
    eight = work.eight;
  }

  module _ (b b' : ℕ → BlockState) where
    pub quiet_paged : NoNewWriterBut (tail_place c.log) c.node.0 b b' → IsQuiet me b → IsQuietOf me.shape (slice_set me.nodes i (Up d seats)) b'
    quiet_paged writers quiet = there (λ os. IsQuietOf me.shape os b')
        (quiet_still me.shape me.nodes nodes' n (tail_place c.log) b b' place_is (place_inside me.shape n c ((c.log.tail - 1) / 6) work.number work.store work.log_tie) (ap is_up (at_same me.nodes n (Up d seats) is.shared.eight place_is)) others (subst (λ k. NoNewWriterBut (tail_place c.log) k b b') work.number writers) quiet)

    pub quiet_but_paged : NoNewWriterBut (tail_place c.log) c.node.0 b b' → IsQuiet me b → IsQuietButOf n me.shape (slice_set me.nodes i (Up d seats)) b'
    quiet_but_paged writers quiet = there (λ os. IsQuietButOf n me.shape os b')
        (quiet_but me.shape me.nodes nodes' n (tail_place c.log) b b' others (subst (λ k. NoNewWriterBut (tail_place c.log) k b b') work.number writers) quiet)

    pub besides_paged : (pages : List CachedPage) → All (λ q. q.ticket.page.0 < page_count me.shape) pages → NarrowsButPages me.shape c.log me.shared.pool pages b b' → NarrowsBesides n me.shape b b'
    besides_paged pages within narrows k o page ring may = elim (narrows k o may) [
      | inl old ↦ old
      | inr (inl last) ↦ absurd (ring ((c.log.tail - 1) / 6) (subst (λ g. k ≡ place g ((c.log.tail - 1) / 6)) (region_at me.shape n c work.number work.store work.log_tie) last))
      | inr (inr written) ↦
          let q = written.1 in
          let small : q.ticket.page.0 < page_count me.shape = subst (λ (r : CachedPage). r.ticket.page.0 < page_count me.shape) written.3 (within written.0 q written.2) in
          absurd (page q.ticket.page small written.4.0.1)
    ]

    pub logs_paged : (pages : List CachedPage) → KeepsForeignButPages me.shape c.log pages c.node.0 b b' → IsQuiet me b → (k : ℕ) → IsPlace k → k ≤ me.shape.nodes → k ≢ n → LeavesRegion (region_of me.shape k) b b'
    logs_paged pages foreign quiet = pages_leave me.shape me.nodes n c pages b b' is.shared.shape place_is low (up_most me.shape me.shared.pool me.shared.owners me.nodes is) work.number work.store work.log_tie quiet foreign

-- a node that halted behind a call that left its pages and what the nodes share
pub halts_before : (me me' : Store) (n : NodeId) (i : ℕ) (c d : CacheState) (seats after : SeatsState) (shared : Shared) (disk vault : DiskState) → IsStore me → IsPlace n.0 → i ≡ n.0 - 1 → node_at me.nodes n.0 ≡ Up c seats
    → shared.pool ≡ me.shared.pool → shared.owners ≡ me.shared.owners → shared.locks ≡ me.shared.locks → shared.reopening ≡ me.shared.reopening → d.pages ≡ c.pages
    → Halts n (record { shape = me.shape; shared = shared; nodes = slice_set me.nodes i (Up d after) }) me' disk vault → Halts n me me' disk vault
halts_before me me' n i c d seats after shared disk vault is place_is at up pool owners locks reopening pages halts = record {
  nodes = halts.nodes ∙ ap (λ j. with_node (slice_set me.nodes j (Up d after)) n.0 Down) at ∙ set-set me.nodes (n.0 - 1) (Up d after) Down;
  pool = halts.pool ∙ ap (λ ps. freed ps shared.pool) (ap pages_of (ap (λ j. node_at (slice_set me.nodes j (Up d after)) n.0) at ∙ at_same me.nodes n.0 (Up d after) is.shared.eight place_is) ∙ pages ∙ sym (ap pages_of up)) ∙ ap (freed (pages_of (node_at me.nodes n.0))) pool;
  kept = λ any. let k = halts.kept any in record { locks = k.locks ∙ ap (without_reads_of n) locks; owners = λ x. k.owners x ∙ ap (λ os. given_up n (owner_of os x)) owners; reopening = k.reopening ∙ reopening };
  lost = halts.lost;
  port = halts.port;
  vault_port = halts.vault_port;
}
