-- A store endures that a node gives up a page.
use Rattle.std.specs.Prelude.{◌≡◌, ◌≢◌, ◌⊎◌, ◌-◌, ◌*◌, ◌<◌, ◌≤◌, [], ℕ, zero, suc, Bool, true, false, All, List, Option, Some, None, length, is_some, option_and_then, refl, slice_set, slice_index_or}
use Rattle.std.specs.List.{cons_option}
use Rattle.std.proofs.Common.{arith, inl, inr, ap, subst, sym, ◌∙◌}
use Rattle.std.proofs.lemmas.Bool.{cases_eq}
use Rattle.sd_base.specs.Disk.{BlockState}
use Rattle.sd_base.specs.Shape.{page_count}
use Rattle.sd_base.specs.declared.device.NodeId.{NodeId}
use Rattle.sd_base.specs.declared.names.PageNo.{PageNo}
use Rattle.page_owner.specs.declared.owners.Own.TheVariants.{Nobody}
use Rattle.page_owner.specs.Owners.{owner_of}
use Rattle.private_log.specs.Content.{region_of}
use Rattle.private_log.specs.Log.{IsLogOn, LogState, SameLog}
use Rattle.state_ids.specs.Held.{Shows}
use Rattle.node_cache.specs.Cache.{CachedPage, CacheState, first_change, is_cached, is_changed, is_page, page_at}
use Rattle.node_cache.specs.Room.{freed, without_page}
use Rattle.node_cache.specs.Writes.{HoldsPages, KeepsForeignButPages, NarrowsButPages}
use Rattle.node_cache.proofs.OnePage.{found, is_page-same}
use Rattle.txn_core.specs.Seats.{SeatsState}
use Rattle.recovery_theory.specs.History.{History}
use Rattle.record_machine.specs.Cuts.{SurvivesAs}
use Rattle.record_machine.specs.Machine.{Machine}
use Rattle.record_machine.specs.Meaning.{Plain}
use Rattle.record_machine.specs.Parts.{Drop, one}
use Rattle.record_machine.proofs.LostTables.{dropped_still}
use Rattle.record_machine.proofs.RestSteps.{means_dropped}
use Rattle.record_machine.proofs.WholeLogs.{whole}
use Rattle.store_nodes.specs.declared.node.Node.TheVariants.{Up}
use Rattle.store_nodes.specs.declared.store.Store.{Store}
use Rattle.store_nodes.specs.Endures.{AreGone, EnduresAs, with_held}
use Rattle.store_nodes.specs.Nodes.{IsAtWork, IsHeldBy, IsPlace, IsStore, KeepsFramesBut, node_at, with_node}
use Rattle.store_nodes.specs.Ports.{IsQuiet}
use Rattle.store_nodes.specs.Shows.{IsSettled, ShowsNode, holder, image_in}
use Rattle.store_nodes.specs.Tied.{IsTied, TiesNode, TiesUp, TiesPage}
use Rattle.store_nodes.proofs.Holders.{holder_set, put_at}
use Rattle.store_nodes.proofs.Logs as logs
use Rattle.store_nodes.proofs.OtherLogs.{LeavesRegion}
use Rattle.store_nodes.proofs.ShownWith.{nodes_with}
use Rattle.store_nodes.proofs.Ties.{tied_with}
use Rattle.store_pages.proofs.PageCalls as calls
use Rattle.store_pages.proofs.PagedEndures.{AreOf, done_tied, done_written}
use Rattle.store_pages.proofs.PagesWritten.{with_disk}
use Rattle.store_pages.proofs.ShownGiven.{clean_given, settled_given, up_given}
use Rattle.store_pages.proofs.ShownTaken.{settled_clean}

-- a page that is changed is among the pages that are written
pub found_changed : (P : CachedPage → Type 0) (x : PageNo) (pages : List CachedPage) → is_some (option_and_then first_change (page_at x pages)) ≡ true → All P (cons_option (page_at x pages) []) → (q : CachedPage) × (q.ticket.page ≡ x) × (q.changes ≢ None) × P q
found_changed P x pages more all = by (page_at x pages) refl more all
  where
    some : (q : CachedPage) → is_some (first_change q) ≡ true → q.changes ≢ None
    some q is none = let never : is_some (first_change q) ≡ false = rw none refl in cc

    by : (o : Option CachedPage) → page_at x pages ≡ o → is_some (option_and_then first_change o) ≡ true → All P (cons_option o []) → (q : CachedPage) × (q.ticket.page ≡ x) × (q.changes ≢ None) × P q
    by None none is all' = absurd cc
    by (Some q) there is all' = (q, is_page-same x q (found (is_page x) pages q there), some q is, all' 0 q (omega arith))

-- the page that is found is cached
pub found_cached : (x : PageNo) (c : CacheState) → AreOf c (cons_option (page_at x c.pages) [])
found_cached x c = by (page_at x c.pages) refl
  where
    by : (o : Option CachedPage) → page_at x c.pages ≡ o → AreOf c (cons_option o [])
    by None none k d low = absurd (omega (arith, low))
    by (Some q) there k d low = one k low
      where
        cached : is_cached q.ticket.page c ≡ true
        cached = let page : q.ticket.page ≡ x = is_page-same x q (found (is_page x) c.pages q there) in ap (λ y. is_cached y c) page ∙ ap is_some there

        one : (j : ℕ) → j < length (cons_option (Some q) []) → is_cached (slice_index_or (cons_option (Some q) []) j d).ticket.page c ≡ true
        one zero below = cached
        one (suc j) below = absurd (omega (arith, below))

module _ (me : Store) (h : NodeId) (x : PageNo) (i : ℕ) (c d : CacheState) (seats : SeatsState) (is : IsStore me) (place : IsPlace h.0) (at : i ≡ h.0 - 1) (up : node_at me.nodes h.0 ≡ Up c seats) (pool' : List (Option (List ℕ))) (b b' : ℕ → BlockState) (p : Plain) (m : Machine) (e : EnduresAs me b p m)
    (held : IsHeldBy h (owner_of me.shared.owners x.0)) (within : x.0 < page_count me.shape) (frames : KeepsFramesBut h.0 me.nodes me.shared.pool pool') (pool : pool' ≡ freed (cons_option (page_at x c.pages) []) me.shared.pool) (pages : d.pages ≡ without_page x c.pages) (same : SameLog c.log d.log)
    (records : (xs : List (List ℕ)) → IsLogOn c.log b xs → IsLogOn d.log b' xs) (logs_left : (k : ℕ) → IsPlace k → k ≤ me.shape.nodes → k ≢ h.0 → LeavesRegion (region_of me.shape k) b b') where
  abbrev n : ℕ
  n = h.0

  abbrev m1 : Machine
  m1 = with_held e.held m

  work : IsAtWork me.shape me.shared.pool me.shared.owners n c seats
  work = logs.work me n i c d seats seats is place at up

  low : n ≤ me.shape.nodes
  low = logs.low me n i c d seats seats is place at up

  mine : ShowsNode me.shape me.shared.pool n (Up c seats) b p m1
  mine = subst (λ o. ShowsNode me.shape me.shared.pool n o b p m1) up (e.nodes.node n place low)

  abbrev S : Store
  S = record { shape = me.shape; shared = record { pool = pool'; owners = slice_set me.shared.owners x.0 Nobody; locks = me.shared.locks; reopening = me.shared.reopening }; nodes = with_node me.nodes n (Up d seats) }

  -- by a history of which the disk has the page
  given_with : (dirty : ℕ → Bool) (h' : History) → ((y : ℕ) → e.dirty y ≡ false → dirty y ≡ false) → dirty x.0 ≡ false → AreGone me.shape h' m → IsTied me.shape (with_node me.nodes n (Up d seats)) b' h' → SurvivesAs e.held dirty h' p m → EnduresAs S b' p (one (Drop x.0) m)
  given_with dirty h' cleaner here lost tied survives = record {
    held = e.held;
    dirty = dirty;
    history = h';
    nodes = nodes_with me.shape me.shared.pool pool' me.shared.owners (slice_set me.shared.owners x.0 Nobody) me.nodes n d seats b b' p p m1 (one (Drop x.0) m1) is place e.nodes logs_left frames
        (λ k k_is far. record { live = refl; mode = refl; start = refl; pending = refl; images = λ j a below. refl; lives = λ j a below. refl })
        (means_dropped p m1 x.0 e.nodes.means) e.nodes.shape mine.0
        (up_given me.shape me.shared.pool pool' n x c d seats b b' p m1 work.cache pool pages same records mine.1)
        (λ y inside. put_at x.0 None m.hold (λ k. holder (owner_of me.shared.owners k)) y (e.nodes.hold y inside) ∙ sym (holder_set me.shared.owners x.0 Nobody (let table = is.shared.table in omega (arith, table, within)) y));
    locks = e.locks;
    reopening = e.reopening;
    lockers = e.lockers;
    clean = λ unlost y inside settled. elim (cases_eq y.0 x.0) [
      | inl this ↦ ap dirty this ∙ here
      | inr far ↦
          let none = clean_given me.nodes me.shared.owners h x c d seats seats is.shared.eight place up held is.shared.holders pages y far settled in
          cleaner y.0 (e.clean unlost y inside (settled_given me.nodes me.shared.owners h x c d seats seats is.shared.eight place up held is.shared.holders pages y none settled))
    ];
    lost = lost;
    tied = tied;
    survives = dropped_still e.held dirty h' p m x.0 survives here;
  }

  -- a page without changes is on the disk already
  pub given_clean : m.reopening ≡ false → is_changed x c ≡ false → b' ≡ b → d.log.stable ≡ c.log.stable → EnduresAs S b' p (one (Drop x.0) m)
  given_clean unlost clean blocks stable =
      let settled : IsSettled me.nodes me.shared.owners x = settled_clean me h x c seats is place up (inr held) clean in
      let was : TiesUp n c seats e.history = subst (λ o. TiesNode me.shape n o b e.history) up (e.tied.node n place low) in
      given_with e.dirty e.history (λ y no. no) (e.clean unlost x within settled) e.lost
      (tied_with me.shape me.nodes n (Up d seats) b b' e.history e.history is.shared.eight place e.tied logs_left (λ k far. record { live = refl; stable = refl; first = refl })
      (record { first = was.first ∙ ap (λ k. 6 * k) (sym same.start); stable = (let old = was.stable in let start = same.start in omega (arith, old, start, stable)); latest = was.latest })
      (subst (λ a. (y : PageNo) → y.0 < page_count me.shape → TiesPage me.shape a e.history y) (sym blocks) e.tied.page)) e.survives

  -- one with changes is written
  pub given_changed : NarrowsButPages me.shape c.log me.shared.pool (cons_option (page_at x c.pages) []) b b' → KeepsForeignButPages me.shape c.log (cons_option (page_at x c.pages) []) c.node.0 b b' → IsQuiet me b → HoldsPages me.shape me.shared.pool (cons_option (page_at x c.pages) []) b'
      → is_changed x c ≡ true → d.log.stable ≡ c.log.tail → EnduresAs S b' p (one (Drop x.0) m)
  given_changed narrows foreign quiet holds more stable =
      let of_cache = found_cached x c in
      let shown = calls.all_found (λ q. Shows me.shared.pool q.frame (image_in me.shape p q.ticket.page)) x c.pages mine.1.cached in
      let inside = calls.all_found (λ q. q.ticket.page.0 < page_count me.shape) x c.pages work.store.pages in
      let w = done_written me n i c d seats is place at up (cons_option (page_at x c.pages) []) b b' p m e of_cache shown inside narrows foreign quiet holds in
      let one = found_changed (λ q. q.changes ≢ None → ⊥ ⊎ (w.now q.ticket.page.0 ≡ false)) x c.pages more w.written in
      let here : w.now x.0 ≡ false = elim (one.3 one.2) [ inl never ↦ absurd never | inr clean ↦ subst (λ (y : PageNo). w.now y.0 ≡ false) one.1 clean ] in
      given_with w.now (with_disk w.disk (whole e.history n)) w.clean here (λ y in_store none. e.lost y in_store (w.lost y none))
      (done_tied me n i c d seats is place at up (cons_option (page_at x c.pages) []) b b' p m e of_cache shown inside narrows foreign quiet w same.start stable) w.survives

  pub given_endures : m.reopening ≡ false → NarrowsButPages me.shape c.log me.shared.pool (cons_option (page_at x c.pages) []) b b' → KeepsForeignButPages me.shape c.log (cons_option (page_at x c.pages) []) c.node.0 b b' → IsQuiet me b → HoldsPages me.shape me.shared.pool (cons_option (page_at x c.pages) []) b'
      → (is_changed x c ≡ false → b' ≡ b) → (is_changed x c ≡ false → d.log ≡ c.log) → (is_changed x c ≡ true → d.log.stable ≡ c.log.tail) → EnduresAs S b' p (one (Drop x.0) m)
  given_endures unlost narrows foreign quiet holds idle kept stable = by (is_changed x c) refl
    where
      by : (t : Bool) → is_changed x c ≡ t → EnduresAs S b' p (one (Drop x.0) m)
      by false clean = given_clean unlost clean (idle clean) (ap (λ (l : LogState). l.stable) (kept clean))
      by true more = given_changed narrows foreign quiet holds more (stable more)
