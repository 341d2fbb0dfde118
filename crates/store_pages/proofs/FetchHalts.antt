-- A store endures that a node stops as it fetches a page that no other one has: the page is the node's then.
use Rattle.std.specs.Prelude.{◌≡◌, ◌≢◌, ◌-◌, ◌<◌, ◌≤◌, ⊤, ℕ, true, false, List, Option, Some, None, length, map, refl}
use Rattle.std.proofs.Common.{arith, inl, inr, ap, subst, sym, ◌∙◌, length-set}
use Rattle.std.proofs.lemmas.Bool.{cases_eq}
use Rattle.sd_base.specs.Disk.{BlockState, IsLawful}
use Rattle.sd_base.specs.Calls.{KeepsForeign, Narrows}
use Rattle.sd_base.specs.Shape.{page_count}
use Rattle.sd_base.specs.declared.device.NodeId.{NodeId}
use Rattle.sd_base.specs.declared.names.PageNo.{PageNo}
use Rattle.page_owner.specs.declared.owners.Own.{Own}
use Rattle.page_owner.specs.declared.owners.Own.TheVariants.{Nobody, Out, Parked}
use Rattle.page_owner.specs.Owners.{owner_of}
use Rattle.log_record.specs.Text.{record_text}
use Rattle.private_log.specs.Content.{region_of}
use Rattle.private_log.specs.Log.{region}
use Rattle.private_log.specs.Spread.{IsCutLog, IsStill}
use Rattle.space_map.specs.declared.map_entry.MapEntry.{MapEntry}
use Rattle.state_ids.specs.Blocks.{page_place}
use Rattle.state_ids.specs.Held.{Shows}
use Rattle.node_cache.specs.Cache.{CacheState, is_cached}
use Rattle.node_cache.specs.Room.{IsEntryOf, IsOpenTo, leaving}
use Rattle.node_cache.specs.Writes.{IsWrittenAhead, KeepsForeignButPages, NarrowsButPages}
use Rattle.node_cache.proofs.Leaving.{all_left}
use Rattle.txn_core.specs.Seats.{SeatsState}
use Rattle.recovery_theory.specs.Steps.{passed}
use Rattle.record_machine.specs.Machine.{Machine, put}
use Rattle.record_machine.specs.Meaning.{Plain}
use Rattle.record_machine.specs.Parts.{Take, one}
use Rattle.record_machine.proofs.LostTables.{taken_still}
use Rattle.record_machine.proofs.Put.{put_other, put_same}
use Rattle.store_nodes.specs.declared.node.Node.{Node}
use Rattle.store_nodes.specs.declared.node.Node.TheVariants.{Down, Up}
use Rattle.store_nodes.specs.declared.store.Store.{Store}
use Rattle.store_nodes.specs.Endures.{EnduresAs, MayHaltAs, with_held}
use Rattle.store_nodes.specs.Nodes.{IsPlace, IsStore, KeepsFramesBut, KeepsFramesOf, is_up, node_at, pages_of, with_node}
use Rattle.store_nodes.specs.Ports.{IsQuiet}
use Rattle.store_nodes.specs.Shows.{IsHolderUp, ShowsNode, holder, image_in}
use Rattle.store_nodes.proofs.Eight.{at_other, at_same}
use Rattle.store_nodes.proofs.Holders.{put_at}
use Rattle.store_nodes.proofs.OtherLogs.{region_same, regions_at}
use Rattle.store_nodes.proofs.ShownOthers.{node_left}
use Rattle.store_nodes.proofs.Ties.{tie_left}
use Rattle.store_nodes.proofs.Works.{work_at}
use Rattle.store_pages.proofs.FetchEndures.{clean_here, map_held}
use Rattle.store_pages.proofs.PagedEndures.{all_of, halts_clean}

-- whether a page's holder is up hangs on who it is alone
abbrev up_of : List Node → Option ℕ → Type 0
up_of nodes None = ⊤
up_of nodes (Some k) = is_up (node_at nodes k) ≡ true

to_up : (nodes : List Node) (own : Own) → IsHolderUp nodes own → up_of nodes (holder own)
to_up nodes Nobody was = tt
to_up nodes (Parked k) was = was
to_up nodes (Out k) was = was

from_up : (nodes : List Node) (own : Own) → up_of nodes (holder own) → IsHolderUp nodes own
from_up nodes Nobody was = tt
from_up nodes (Parked k) was = was
from_up nodes (Out k) was = was

module _ (me : Store) (n : NodeId) (x : PageNo) (e : Option MapEntry) (c d : CacheState) (seats : SeatsState) (b b' : ℕ → BlockState) (p : Plain) (m : Machine) (w : EnduresAs me b p m)
    (is : IsStore me) (place : IsPlace n.0) (up : node_at me.nodes n.0 ≡ Up c seats) (within : x.0 < page_count me.shape) (free : IsOpenTo n (owner_of me.shared.owners x.0)) (missing : is_cached x c ≡ false) (entry : IsEntryOf me.shape me.shared.pool c x e) (new : List (Option (List ℕ))) (owners' : List Own) where
  abbrev nodes' : List Node
  nodes' = with_node me.nodes n.0 (Up d seats)

  abbrev gone : List Node
  gone = with_node nodes' n.0 Down

  eight' : length nodes' ≡ 8
  eight' = length-set me.nodes _ (Up d seats) ∙ is.shared.eight

  -- The node may halt with the page that it was to get, where the disk has the page.
  pub halts_taken : (v : MayHaltAs n.0 (record { shape = me.shape; shared = me.shared; nodes = nodes' }) b' p m) → v.dirty x.0 ≡ false → KeepsFramesBut n.0 me.nodes me.shared.pool new → ((y : ℕ) → holder (owner_of owners' y) ≡ put x.0 (Some n.0) (λ k. holder (owner_of me.shared.owners k)) y)
      → MayHaltAs n.0 (record { shape = me.shape; shared = record { pool = new; owners = owners'; locks = me.shared.locks; reopening = me.shared.reopening }; nodes = nodes' }) b' p (one (Take x.0 n.0) m)
  halts_taken v clean frames holds = record {
    held = v.held;
    dirty = v.dirty;
    history = passed v.history x.0 n.0;
    up = v.up;
    known = v.known;
    shape = v.shape;
    others = λ k k_is low far. (
      node_left me.shape me.shared.pool new k b' b' p p (with_held v.held m) (with_held v.held (one (Take x.0 n.0) m)) is.shared.shape (region_same (region_of me.shape k) b') (node_at nodes' k)
          (λ f after at. regions_at me.shape me.shared.pool me.shared.owners me.nodes is k f after k_is (sym (before k k_is far) ∙ at)) (subst (λ o. KeepsFramesOf (pages_of o) me.shared.pool new) (sym (before k k_is far)) (frames k k_is far))
          (record { live = refl; mode = refl; start = refl; pending = refl; images = λ j a below. refl; lives = λ j a below. refl }) (v.others k k_is low far).0,
      tie_left me.shape k (node_at nodes' k) b' b' v.history (passed v.history x.0 n.0) (region_same (region_of me.shape k) b') (record { live = refl; stable = refl; first = refl }) (v.others k k_is low far).1,
    );
    hold = λ y inside. put_at x.0 (Some n.0) m.hold (λ k. holder (owner_of me.shared.owners k)) y (v.hold y inside) ∙ sym (holds y);
    locks = v.locks;
    reopening = v.reopening;
    lockers = v.lockers;
    clean = λ whole y inside settled. v.clean whole y inside (record { holder = from_up gone (owner_of me.shared.owners y.0) (held_up y (to_up gone (owner_of owners' y.0) settled.holder)); clean = settled.clean });
    lost = v.lost;
    cut = v.cut;
    place = record { low = v.place.low; high = v.place.high };
    left = record { start = v.left.start; first = v.left.first; legal = v.left.legal; stable = v.left.stable; still = v.left.still; log = v.left.log };
    page = v.page;
    survives = taken_still v.held v.dirty v.history p m x.0 n.0 v.survives clean (map_held me n x e c seats b p m w is place up within free missing entry);
  }
    where
      before : (k : ℕ) → IsPlace k → k ≢ n.0 → node_at nodes' k ≡ node_at me.nodes k
      before k k_is far = at_other me.nodes n.0 (Up d seats) is.shared.eight place k k_is far

      -- a node that is down is the holder of no page that is settled
      held_up : (y : PageNo) → up_of gone (holder (owner_of owners' y.0)) → up_of gone (holder (owner_of me.shared.owners y.0))
      held_up y now = elim (cases_eq y.0 x.0) [
        | inl here ↦
            let live : is_up (node_at gone n.0) ≡ true = subst (up_of gone) (holds y.0 ∙ put_same x.0 (Some n.0) (λ k. holder (owner_of me.shared.owners k)) y.0 here) now in
            let never : false ≡ true = sym (ap is_up (at_same nodes' n.0 Down eight' place)) ∙ live in
            absurd cc
        | inr far ↦ subst (up_of gone) (holds y.0 ∙ put_other x.0 (Some n.0) (λ k. holder (owner_of me.shared.owners k)) y.0 far) now
      ]

  -- So it may where the port stopped: the page that was to make room for it is written, or is as it was.
  pub fetch_halts : m.reopening ≡ false → (bm : ℕ → BlockState) → NarrowsButPages me.shape c.log me.shared.pool (leaving me.shape x c.pages) b bm → KeepsForeignButPages me.shape c.log (leaving me.shape x c.pages) c.node.0 b bm → IsQuiet me b
      → Narrows bm b' → KeepsForeign n.0 bm b' → ((k : ℕ) → IsLawful b' k) → ((y : PageNo) → y.0 < page_count me.shape → (b' (page_place me.shape y)).writer ≡ None) → IsStill (region c.log) bm
      → IsCutLog (region c.log) c.log.start c.log.stable bm (map record_text (p.live n.0)) → IsWrittenAhead c.log (map record_text (p.live n.0)) b bm → KeepsFramesBut n.0 me.nodes me.shared.pool new → ((y : ℕ) → holder (owner_of owners' y) ≡ put x.0 (Some n.0) (λ k. holder (owner_of me.shared.owners k)) y)
      → MayHaltAs n.0 (record { shape = me.shape; shared = record { pool = new; owners = owners'; locks = me.shared.locks; reopening = me.shared.reopening }; nodes = nodes' }) b' p (one (Take x.0 n.0) m)
  fetch_halts unlost bm narrows foreign quiet settled stops law single still cut ahead =
      let work = work_at me.shape me.shared.pool me.shared.owners me.nodes n.0 c seats place up is in
      let low : n.0 ≤ me.shape.nodes = (let last = work.store.node.1 in let number = work.number in omega (arith, last, number)) in
      let mine = subst (λ o. ShowsNode me.shape me.shared.pool n.0 o b p (with_held w.held m)) up (w.nodes.node n.0 place low) in
      let v = halts_clean me n.0 (n.0 - 1) c d seats is place refl up (leaving me.shape x c.pages) b bm p m w (all_left (λ q. is_cached q.ticket.page c ≡ true) me.shape x c.pages (all_of c))
      (all_left (λ q. Shows me.shared.pool q.frame (image_in me.shape p q.ticket.page)) me.shape x c.pages mine.1.cached) (all_left (λ q. q.ticket.page.0 < page_count me.shape) me.shape x c.pages work.store.pages) narrows foreign quiet b' settled stops law single still cut ahead in
      halts_taken v.0 (v.1 x.0 (clean_here me n x e c seats b p m w is place up within free missing entry unlost))
