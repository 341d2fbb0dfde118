-- A store endures that a node writes all pages which it has changed.
use Rattle.std.specs.Prelude.{◌≡◌, ◌≢◌, ◌⊎◌, ◌-◌, ◌<◌, ℕ, Bool, true, false, List, None, map, refl}
use Rattle.std.proofs.Common.{inl, inr, subst}
use Rattle.sd_base.specs.Disk.{BlockState, IsLawful}
use Rattle.sd_base.specs.Calls.{KeepsForeign, Narrows}
use Rattle.sd_base.specs.Shape.{page_count}
use Rattle.sd_base.specs.declared.names.PageNo.{PageNo}
use Rattle.log_record.specs.Text.{record_text}
use Rattle.private_log.specs.Log.{IsLogOn, SameLog, region}
use Rattle.private_log.specs.Spread.{IsCutLog, IsStill}
use Rattle.state_ids.specs.Blocks.{page_place}
use Rattle.node_cache.specs.Cache.{CacheState, SamePages, is_changed}
use Rattle.node_cache.specs.Writes.{HoldsPages, IsWrittenAhead, KeepsForeignButPages, NarrowsButPages}
use Rattle.txn_core.specs.Seats.{SeatsState}
use Rattle.record_machine.specs.Machine.{Machine}
use Rattle.record_machine.specs.Meaning.{Plain}
use Rattle.record_machine.proofs.WholeLogs.{whole}
use Rattle.store_nodes.specs.declared.node.Node.TheVariants.{Up}
use Rattle.store_nodes.specs.declared.store.Store.{Store}
use Rattle.store_nodes.specs.Endures.{EnduresAs, MayHaltAs, with_held}
use Rattle.store_nodes.specs.Nodes.{IsAtWork, IsPlace, IsStore, node_at, with_node}
use Rattle.store_nodes.specs.Ports.{IsQuiet}
use Rattle.store_nodes.specs.Shows.{IsSettled, ShowsNode}
use Rattle.store_nodes.proofs.Logs as logs
use Rattle.store_nodes.proofs.ShownWith.{nodes_with, settled_before}
use Rattle.store_pages.proofs.Flushed.{up_kept}
use Rattle.store_pages.proofs.GivenEndures.{found_changed}
use Rattle.store_pages.proofs.PageCalls as calls
use Rattle.store_pages.proofs.PagedEndures.{all_of, done_tied, done_written, paged_halts}
use Rattle.store_pages.proofs.PagesWritten.{AreWritten, with_disk}

module _ (me : Store) (n i : ℕ) (c d : CacheState) (seats : SeatsState) (is : IsStore me) (place : IsPlace n) (at : i ≡ n - 1) (up : node_at me.nodes n ≡ Up c seats) (b b' : ℕ → BlockState) (p : Plain) (m : Machine) (e : EnduresAs me b p m)
    (narrows : NarrowsButPages me.shape c.log me.shared.pool c.pages b b') (foreign : KeepsForeignButPages me.shape c.log c.pages c.node.0 b b') (quiet : IsQuiet me b) where
  abbrev m1 : Machine
  m1 = with_held e.held m

  work : IsAtWork me.shape me.shared.pool me.shared.owners n c seats
  work = logs.work me n i c d seats seats is place at up

  mine : ShowsNode me.shape me.shared.pool n (Up c seats) b p m1
  mine = subst (λ o. ShowsNode me.shape me.shared.pool n o b p m1) up (e.nodes.node n place (logs.low me n i c d seats seats is place at up))

  abbrev S : Store
  S = record { shape = me.shape; shared = me.shared; nodes = with_node me.nodes n (Up d seats) }

  -- they are written, behind the whole log
  pub flushed_endures : SamePages c.pages d.pages → SameLog c.log d.log → d.log.stable ≡ c.log.tail → ((xs : List (List ℕ)) → IsLogOn c.log b xs → IsLogOn d.log b' xs) → HoldsPages me.shape me.shared.pool c.pages b' → EnduresAs S b' p m
  flushed_endures pages same stable records holds = record {
    held = e.held;
    dirty = w.now;
    history = with_disk w.disk (whole e.history n);
    nodes = nodes_with me.shape me.shared.pool me.shared.pool me.shared.owners me.shared.owners me.nodes n d seats b b' p p m1 m1 is place e.nodes
        (calls.logs_paged me n i c d seats is place at up b b' c.pages foreign quiet) (λ k k_is far j q below. refl)
        (λ k k_is far. record { live = refl; mode = refl; start = refl; pending = refl; images = λ j q below. refl; lives = λ j q below. refl })
        e.nodes.means e.nodes.shape mine.0 (up_kept me.shape me.shared.pool n c d seats b b' p m1 m1 refl refl pages same records mine.1) e.nodes.hold;
    locks = e.locks;
    reopening = e.reopening;
    lockers = e.lockers;
    clean = λ unlost x inside settled. clean unlost x inside settled (is_changed x c) refl;
    lost = λ x inside none. e.lost x inside (w.lost x none);
    tied = done_tied me n i c d seats is place at up c.pages b b' p m e (all_of c) mine.1.cached work.store.pages narrows foreign quiet w same.start stable;
    survives = w.survives;
  }
    where
      w : AreWritten me.shape e.held e.dirty (whole e.history n) p m b' (λ q. ⊥) c.pages
      w = done_written me n i c d seats is place at up c.pages b b' p m e (all_of c) mine.1.cached work.store.pages narrows foreign quiet holds

      clean : m.reopening ≡ false → (x : PageNo) → x.0 < page_count me.shape → IsSettled (with_node me.nodes n (Up d seats)) me.shared.owners x → (t : Bool) → is_changed x c ≡ t → w.now x.0 ≡ false
      clean unlost x inside settled true more =
          let one = found_changed (λ q. q.changes ≢ None → ⊥ ⊎ (w.now q.ticket.page.0 ≡ false)) x c.pages more (calls.all_found (λ q. q.changes ≢ None → ⊥ ⊎ (w.now q.ticket.page.0 ≡ false)) x c.pages w.written) in
          elim (one.3 one.2) [ inl never ↦ absurd never | inr there ↦ subst (λ (y : PageNo). w.now y.0 ≡ false) one.1 there ]
      clean unlost x inside settled false none =
          w.clean x.0 (e.clean unlost x inside (settled_before me.nodes me.shared.owners n c d seats seats is.shared.eight place up x (is.shared.holders x.0) (λ later. none) settled))

  -- or the node is about to halt, whose port has stopped in it
  pub flushed_halts : (b'' : ℕ → BlockState) → Narrows b' b'' → KeepsForeign n b' b'' → ((k : ℕ) → IsLawful b'' k) → ((x : PageNo) → x.0 < page_count me.shape → (b'' (page_place me.shape x)).writer ≡ None) → IsStill (region c.log) b'
      → IsCutLog (region c.log) c.log.start c.log.stable b' (map record_text (p.live n)) → IsWrittenAhead c.log (map record_text (p.live n)) b b' → MayHaltAs n S b'' p m
  flushed_halts = paged_halts me n i c d seats is place at up c.pages b b' p m e (all_of c) mine.1.cached work.store.pages narrows foreign quiet
