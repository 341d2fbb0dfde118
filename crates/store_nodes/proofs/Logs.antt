-- What a call of one node leaves of the store and of the disk that logs a record, where the node is up after it.
use Rattle.std.specs.Prelude.{◌≡◌, ◌≢◌, ◌-◌, ◌/◌, ◌≤◌, ℕ, true, List, Option, length, refl, slice_index_or, slice_set}
use Rattle.std.proofs.Common.{arith, inl, inr, ap, subst, sym, ◌∙◌}
use Rattle.sd_base.specs.Disk.{BlockState, DiskState}
use Rattle.sd_base.specs.Calls.{Keeps, Keeps-then, KeepsForeignBut, NoNewWriterBut}
use Rattle.private_log.specs.Content.{place, region_of}
use Rattle.private_log.specs.Frames.{KeepsContents, NarrowsBeside}
use Rattle.private_log.specs.Log.{SameLog, next_place, region}
use Rattle.private_log.specs.Spread.{IsFreeRegion}
use Rattle.node_cache.specs.Cache.{CacheState, IsCache, IsTiedToLog}
use Rattle.txn_core.specs.Seats.{AreTied, SeatsState}
use Rattle.store_nodes.specs.declared.node.Node.{Node}
use Rattle.store_nodes.specs.declared.node.Node.TheVariants.{Up}
use Rattle.store_nodes.specs.declared.store.Shared.{Shared}
use Rattle.store_nodes.specs.declared.store.Store.{Store}
use Rattle.store_nodes.specs.Footprint.{KeepsAllButLog, NarrowsToRing}
use Rattle.store_nodes.specs.Nodes.{IsAtWork, IsPlace, IsStore, IsStoreButOf, IsStoreOf, KeepsFramesBut, KeepsFramesOf, OthersStay, is_up, node_at, pages_of, with_node}
use Rattle.store_nodes.specs.Ports.{IsQuiet, IsQuietButOf, IsQuietOf, IsServedOf, NarrowsBesides, Works}
use Rattle.store_nodes.proofs.Eight.{at_same, found_at, others_stay, same_there}
use Rattle.store_nodes.proofs.OtherLogs.{LeavesRegion, others_leave}
use Rattle.store_nodes.proofs.Works.{ends_logged, free_at, place_inside, quiet_but, quiet_still, region_at, served_still, store_logged, up_most, work_at}

-- a device that no call has touched
pub keeps_same : (n : ℕ) (a : DiskState) → Keeps n a a
keeps_same n a = record { name = refl; size = refl; reach = refl; below = refl; orders = refl; live = λ m far. refl; other_faults = λ m far. refl; other_cuts = λ m far. refl; faults = omega arith; cuts = omega arith }

-- the node at a place of a store
pub up_at : (me : Store) (n i : ℕ) (o : Node) (c : CacheState) (seats : SeatsState) → IsStore me → IsPlace n → i ≡ n - 1 → slice_index_or me.nodes i o ≡ Up c seats → node_at me.nodes n ≡ Up c seats
up_at me n i o c seats is place at here = found_at me.nodes n i o (Up c seats) is.shared.eight place at here

module _ (me : Store) (n i : ℕ) (c d : CacheState) (seats after : SeatsState) (is : IsStore me) (place_is : IsPlace n) (at : i ≡ n - 1) (up : node_at me.nodes n ≡ Up c seats) where
  abbrev nodes' : List Node
  nodes' = with_node me.nodes n (Up d after)

  pub work : IsAtWork me.shape me.shared.pool me.shared.owners n c seats
  work = work_at me.shape me.shared.pool me.shared.owners me.nodes n c seats place_is up is

  pub low : n ≤ me.shape.nodes
  low = (let last = work.store.node.1 in let same = work.number in omega (arith, last, same))

  others : OthersStay n me.nodes nodes'
  others = others_stay me.nodes n (Up d after) is.shared.eight place_is

  up_after : is_up (node_at nodes' n) ≡ true
  up_after = ap is_up (at_same me.nodes n (Up d after) is.shared.eight place_is)

  -- what holds of the nodes with this one in its place holds of them as the code has them
  pub there : (P : List Node → Type 0) → P nodes' → P (slice_set me.nodes i (Up d after))
  there P was = subst (λ j. P (slice_set me.nodes j (Up d after))) (sym at) was

  -- ---- before it

  pub region_here : region c.log ≡ region_of me.shape n
  region_here = region_at me.shape n c work.number work.store work.log_tie

  pub region_free : (a : ℕ → BlockState) → IsQuiet me a → IsFreeRegion (region c.log) c.node.0 a
  region_free a quiet = free_at me.shape me.nodes n c a place_is work.number work.store work.log_tie (up_most me.shape me.shared.pool me.shared.owners me.nodes is) quiet

  -- ---- the store after it

  pub store_after : d.node ≡ c.node → d.pages ≡ c.pages → IsCache d.node d.pages → SameLog c.log d.log → IsTiedToLog d → AreTied after d → length after.seats ≡ length seats.seats → IsStoreOf me.shape me.shared.pool me.shared.owners (slice_set me.nodes i (Up d after))
  store_after node pages cache same log_tie tie count = there (IsStoreOf me.shape me.shared.pool me.shared.owners) (store_logged me.shape me.shared.pool me.shared.owners me.nodes n c d seats after place_is up is node pages cache same log_tie tie count)

  pub but_after : d.node ≡ c.node → d.pages ≡ c.pages → IsCache d.node d.pages → IsStoreButOf n me.shape me.shared.pool me.shared.owners (slice_set me.nodes i (Up d after))
  but_after node pages cache = there (IsStoreButOf n me.shape me.shared.pool me.shared.owners) (ends_logged me.shape me.shared.pool me.shared.owners me.nodes n c d seats after place_is up is node pages cache)

  -- ---- the devices after it

  pub served_after : (disk disk' vault : DiskState) → Keeps n disk disk' → Keeps n vault vault → disk'.live n ≡ true → IsServedOf me.shape me.nodes disk vault → IsServedOf me.shape (slice_set me.nodes i (Up d after)) disk' vault
  served_after disk disk' vault keeps vault_keeps live was = there (λ os. IsServedOf me.shape os disk' vault)
      (served_still me.shape me.nodes nodes' n disk disk' vault vault keeps vault_keeps (live ∙ sym up_after) (was.vault_live n place_is ∙ ap is_up up ∙ sym up_after) others was)

  -- the whole of it
  pub works_with : (shared : Shared) (disk disk' vault : DiskState) → IsStoreOf me.shape shared.pool shared.owners (slice_set me.nodes i (Up d after)) → KeepsFramesBut n me.nodes me.shared.pool shared.pool
      → Keeps c.node.0 disk disk' → disk'.live c.node.0 ≡ true → IsServedOf me.shape me.nodes disk vault → Works n me (record { shape = me.shape; shared = shared; nodes = slice_set me.nodes i (Up d after) }) disk disk' vault vault
  works_with shared disk disk' vault store frames keeps live served =
      let mine : Keeps n disk disk' = subst (λ k. Keeps k disk disk') work.number keeps in
      record {
        ready = record { is = store; served = served_after disk disk' vault mine (keeps_same n vault) (subst (λ k. disk'.live k ≡ true) work.number live) served };
        shape = refl;
        keeps = mine;
        vault_keeps = keeps_same n vault;
        others = there (OthersStay n me.nodes) others;
        frames = frames;
      }

  -- and where the frames and the owners stay
  pub works_after : (shared : Shared) (disk disk' vault : DiskState) → shared.pool ≡ me.shared.pool → shared.owners ≡ me.shared.owners → IsStoreOf me.shape me.shared.pool me.shared.owners (slice_set me.nodes i (Up d after))
      → Keeps c.node.0 disk disk' → disk'.live c.node.0 ≡ true → IsServedOf me.shape me.nodes disk vault → Works n me (record { shape = me.shape; shared = shared; nodes = slice_set me.nodes i (Up d after) }) disk disk' vault vault
  works_after shared disk disk' vault pool owners store keeps live served =
      works_with shared disk disk' vault (subst (λ f. IsStoreOf me.shape f shared.owners (slice_set me.nodes i (Up d after))) (sym pool) (subst (λ o. IsStoreOf me.shape me.shared.pool o (slice_set me.nodes i (Up d after))) (sym owners) store))
      (λ k is far. subst (KeepsFramesOf (pages_of (node_at me.nodes k)) me.shared.pool) (sym pool) (λ j e below. refl)) keeps live served

  -- and where the node has stopped after it
  pub works_stopped : (shared : Shared) (me' : Store) (disk disk' disk'' vault vault' : DiskState) → shared.pool ≡ me.shared.pool → Keeps c.node.0 disk disk' → Works n (record { shape = me.shape; shared = shared; nodes = slice_set me.nodes i (Up d after) }) me' disk' disk'' vault vault' → Works n me me' disk disk'' vault vault'
  works_stopped shared me' disk disk' disk'' vault vault' pool keeps rest =
      let same : OthersStay n me.nodes (slice_set me.nodes i (Up d after)) = there (OthersStay n me.nodes) others in
      record {
        ready = rest.ready;
        shape = rest.shape;
        keeps = Keeps-then n disk disk' disk'' (subst (λ k. Keeps k disk disk') work.number keeps) rest.keeps;
        vault_keeps = rest.vault_keeps;
        others = λ k is far. rest.others k is far ∙ same k is far;
        frames = λ k is far. subst (λ o. KeepsFramesOf (pages_of o) me.shared.pool me'.shared.pool) (same k is far) (subst (λ f. KeepsFramesOf (pages_of (node_at (slice_set me.nodes i (Up d after)) k)) f me'.shared.pool) pool (rest.frames k is far));
      }

  -- the store is the same where the frames, the node's cache and its transactions are
  pub store_same : (pool : List (Option (List ℕ))) → pool ≡ me.shared.pool → d ≡ c → after ≡ seats
      → record { shape = me.shape; shared = record { pool = pool; owners = me.shared.owners; locks = me.shared.locks; reopening = me.shared.reopening }; nodes = slice_set me.nodes i (Up d after) } ≡ me
  store_same pool frames cache txns =
      let there_still : slice_set me.nodes i (Up d after) ≡ me.nodes =
      ap (λ j. slice_set me.nodes j (Up d after)) at ∙ ap (λ e. with_node me.nodes n (Up e after)) cache ∙ ap (λ e. with_node me.nodes n (Up c e)) txns ∙ ap (λ o. with_node me.nodes n o) (sym up) ∙ same_there me.nodes n is.shared.eight place_is in
      ap (λ ps. record { shape = me.shape; shared = record { pool = ps; owners = me.shared.owners; locks = me.shared.locks; reopening = me.shared.reopening }; nodes = slice_set me.nodes i (Up d after) }) frames
      ∙ ap (λ os. record { shape = me.shape; shared = me.shared; nodes = os }) there_still

  module _ (b b' : ℕ → BlockState) where
    pub quiet_after : NoNewWriterBut (next_place c.log) c.node.0 b b' → IsQuiet me b → IsQuietOf me.shape (slice_set me.nodes i (Up d after)) b'
    quiet_after writers quiet = there (λ os. IsQuietOf me.shape os b')
        (quiet_still me.shape me.nodes nodes' n (next_place c.log) b b' place_is (place_inside me.shape n c (c.log.tail / 6) work.number work.store work.log_tie) up_after others (subst (λ k. NoNewWriterBut (next_place c.log) k b b') work.number writers) quiet)

    pub quiet_but_after : NoNewWriterBut (next_place c.log) c.node.0 b b' → IsQuiet me b → IsQuietButOf n me.shape (slice_set me.nodes i (Up d after)) b'
    quiet_but_after writers quiet = there (λ os. IsQuietButOf n me.shape os b')
        (quiet_but me.shape me.nodes nodes' n (next_place c.log) b b' others (subst (λ k. NoNewWriterBut (next_place c.log) k b b') work.number writers) quiet)

    -- the block into which the record goes is one of the ring
    next_here : next_place c.log ≡ place (region_of me.shape n) (c.log.tail / 6)
    next_here = ap (λ g. place g (c.log.tail / 6)) region_here

    pub besides_after : NarrowsBeside (next_place c.log) b b' → NarrowsBesides n me.shape b b'
    besides_after narrows k o page ring may = elim (narrows k o may) [
      | inl old ↦ old
      | inr here ↦ absurd (ring (c.log.tail / 6) (here ∙ next_here))
    ]

    pub ring_after : NarrowsBeside (next_place c.log) b b' → NarrowsToRing n me.shape b b'
    ring_after narrows k o ring may = elim (narrows k o may) [
      | inl old ↦ old
      | inr here ↦ absurd (ring (c.log.tail / 6) (here ∙ next_here))
    ]

    pub alone_after : KeepsContents (next_place c.log) b b' → KeepsAllButLog n me.shape b b'
    alone_after keeps k beside = keeps k (λ here. beside (c.log.tail / 6) (here ∙ next_here))

    pub logs_after : KeepsForeignBut (next_place c.log) c.node.0 b b' → IsQuiet me b → (k : ℕ) → IsPlace k → k ≤ me.shape.nodes → k ≢ n → LeavesRegion (region_of me.shape k) b b'
    logs_after foreign quiet = others_leave me.shape me.nodes n (next_place c.log) b b' is.shared.shape place_is.0 low (up_most me.shape me.shared.pool me.shared.owners me.nodes is)
        (place_inside me.shape n c (c.log.tail / 6) work.number work.store work.log_tie) quiet (subst (λ k. KeepsForeignBut (next_place c.log) k b b') work.number foreign)
