-- What a call of a node leaves that writes the last block of its log, and pages that it has changed.
use Rattle.std.specs.Prelude.{◌≡◌, ◌≢◌, ◌*◌, ◌-◌, ◌/◌, ◌<◌, ◌≤◌, ◌∷◌, [], ℕ, zero, suc, Bool, true, false, List, Option, Some, None, All, AllPairs, is_some, length, map, option_map, slice_index_or, slice_set, refl}
use Rattle.std.specs.List.{count_by}
use Rattle.std.proofs.Common.{arith, inl, inr, ap, subst, sym, ◌∙◌, length-set}
use Rattle.std.proofs.lemmas.Bool.{eq-eqb}
use Rattle.sd_base.specs.Disk.{BlockState, DiskState, Holds}
use Rattle.sd_base.specs.Calls.{KeepsForeignBut, NoNewWriterBut}
use Rattle.sd_base.specs.Shape.{disk_need, page_count}
use Rattle.sd_base.specs.declared.device.NodeId.{NodeId}
use Rattle.sd_base.specs.declared.names.PageNo.{PageNo}
use Rattle.sd_base.specs.declared.shape.Shape.{Shape}
use Rattle.sd_base.proofs.Positions.{find_all}
use Rattle.frame_pool.specs.Frames.{frame_at}
use Rattle.space_map.specs.Entry.{ident_of}
use Rattle.private_log.specs.Content.{place, region_of}
use Rattle.private_log.specs.Frames.{KeepsContents, NarrowsBeside}
use Rattle.private_log.specs.Log.{IsLogOn, SameLog, tail_place}
use Rattle.state_ids.specs.Held.{Shows}
use Rattle.state_ids.specs.Blocks.{page_place}
use Rattle.node_cache.specs.Cache.{AreOut, CachedPage, CacheState, Changes, IsCache, IsTiedToLog, SamePages, first_change, has_changes, is_changed, is_page, page_at, written_back}
use Rattle.node_cache.specs.Writes.{AreFree, AreInReach, HoldsPages, KeepsContentsButPages, KeepsForeignButPages, NarrowsButPages}
use Rattle.node_cache.proofs.ChangedPages.{out_of_shown, out_same, owned_same, shown_same, store_same}
use Rattle.node_cache.proofs.OnePage.{found, head_pairs, is_page-other, is_page-same, tail_pairs}
use Rattle.node_cache.proofs.SamePages.{all_same, same_length}
use Rattle.txn_core.specs.Seats.{SeatsState, txn_in}
use Rattle.txn_core.specs.Told.{AreTold}
use Rattle.record_machine.specs.Machine.{Deed, Machine}
use Rattle.record_machine.specs.Meaning.{Plain}
use Rattle.store_nodes.specs.declared.node.Node.TheVariants.{Up}
use Rattle.store_nodes.specs.declared.store.Store.{Store}
use Rattle.store_pages.specs.Flushes.{KeepsAllButChanged, NarrowsToChanged, has_changed}
use Rattle.store_nodes.specs.Footprint.{KeepsAllButLog, NarrowsToRing}
use Rattle.store_nodes.specs.Nodes.{AreApart, AreShared, CanHalt, IsAtWork, IsNode, IsPlace, IsStore, IsStoreButOf, IsStoreOf, OnUp, OthersStay, count_of, is_up, node_at, pages_of, with_node}
use Rattle.store_nodes.specs.Pages.{KeepsSeats, KeepsWork}
use Rattle.store_nodes.specs.Ports.{IsQuiet, IsQuietButOf, IsQuietOf, NarrowsBesides}
use Rattle.store_nodes.specs.Shows.{IsOnDisk, IsSettled, ShowsNode, ShowsStoreOf, ShowsUp, deeds_in, entry_in, image_in, numbers_of}
use Rattle.txn_core.proofs.SeatLaws.{tied_same}
use Rattle.store_nodes.proofs.Eight.{apart_with, at_other, at_same, cached_with, each_with, others_stay}
use Rattle.store_nodes.proofs.Living.{living}
use Rattle.store_nodes.proofs.Logs as logs
use Rattle.store_nodes.proofs.OtherLogs.{pages_leave}
use Rattle.store_nodes.proofs.ShownWith.{settled_before, shown_with}
use Rattle.store_pages.proofs.Stored.{still_stored, written_stored}
use Rattle.store_nodes.proofs.Works.{page_still, place_inside, quiet_but, quiet_still, up_most}

-- ---- the pages that are changed

-- a page of a cache is found by its number
page_there : (pages : List CachedPage) (j : ℕ) (q : CachedPage) → AllPairs (λ p r. p.ticket.page ≢ r.ticket.page) pages → j < length pages → slice_index_or pages j q ≡ q → page_at q.ticket.page pages ≡ Some q
page_there [] j q once low here = absurd (omega (arith, low))
page_there (p ∷ pages) zero q once low here = let is : is_page q.ticket.page p ≡ true = eq-eqb p.ticket.page.0 q.ticket.page.0 (ap (λ (r : CachedPage). r.ticket.page.0) here) in rw is (ap Some here)
page_there (p ∷ pages) (suc j) q once low here =
    let apart : p.ticket.page ≢ q.ticket.page = subst (λ r. p.ticket.page ≢ r.ticket.page) here (head_pairs (λ a r. a.ticket.page ≢ r.ticket.page) p pages once j q (omega (arith, low))) in
    rw (is_page-other q.ticket.page p apart) (page_there pages j q (tail_pairs (λ a r. a.ticket.page ≢ r.ticket.page) p pages once) (omega (arith, low)) here)

-- and has changes where it is said to have
changed_there : (c : CacheState) (j : ℕ) (q : CachedPage) → IsCache c.node c.pages → j < length c.pages → slice_index_or c.pages j q ≡ q → q.changes ≢ None → is_changed q.ticket.page c ≡ true
changed_there c j q is low here some = rw (page_there c.pages j q is.once low here) (by q.changes refl)
  where
    by : (o : Option Changes) → q.changes ≡ o → is_some (first_change q) ≡ true
    by None none = absurd (some none)
    by (Some ch) dirty = rw dirty refl

-- none has changes once all are written
pub none_left : (pages : List CachedPage) → count_by has_changes (map written_back pages) ≡ 0
none_left [] = refl
none_left (q ∷ pages) = none_left pages

-- and all records of the log are stable still
pub still_stable : (c d : CacheState) (count : ℕ) → c.log.stable ≡ c.log.tail → d.log.tail ≡ c.log.tail → (1 ≤ count → d.log.stable ≡ c.log.tail) → (count ≡ 0 → d ≡ c) → d.log.stable ≡ d.log.tail
still_stable c d count was tail some none = by count some none
  where
    by : (k : ℕ) → (1 ≤ k → d.log.stable ≡ c.log.tail) → (k ≡ 0 → d ≡ c) → d.log.stable ≡ d.log.tail
    by zero some none = subst (λ (e : CacheState). e.log.stable ≡ e.log.tail) (sym (none refl)) was
    by (suc k) some none = some (omega arith) ∙ sym tail

-- ---- what the node shows

-- a node that is up shows what it did, where no record and no page was changed
pub up_kept : (s : Shape) (pool : List (Option (List ℕ))) (n : ℕ) (c d : CacheState) (seats : SeatsState) (b b' : ℕ → BlockState) (p : Plain) (m m' : Machine) → m'.start n ≡ m.start n → m'.pending n ≡ m.pending n → SamePages c.pages d.pages → SameLog c.log d.log → ((xs : List (List ℕ)) → IsLogOn c.log b xs → IsLogOn d.log b' xs)
    → ShowsUp s pool n c seats b p m → ShowsUp s pool n d seats b' p m'
up_kept s pool n c d seats b b' p m m' begins pending pages log records was =
    let start : d.log.start ≡ c.log.start = log.start in
    record {
      records = record { legal = was.records.legal; on = records _ was.records.on };
      told = subst (λ k. AreTold seats k (p.live n)) (sym start) was.told;
      start = begins ∙ was.start ∙ sym start;
      cached = all_same (λ q. Shows pool q.frame (image_in s p q.ticket.page)) c.pages d.pages pages was.cached;
      lives = all_same (λ q. option_map ident_of q.entry ≡ option_map ident_of (entry_in s p q.ticket.page)) c.pages d.pages pages was.lives;
      deeds = λ seat low. ap (λ ds. map (λ (e : Deed). e.number) (deeds_in seat ds)) pending ∙ subst (λ k. map (λ (e : Deed). e.number) (deeds_in seat (m.pending n)) ≡ numbers_of (6 * k) (p.live n) (txn_in seats seat)) (sym start) (was.deeds seat low);
      within = subst (All (λ (e : Deed). e.seat < 8)) (sym pending) was.within;
    }

module _ (me : Store) (n i : ℕ) (c d : CacheState) (seats : SeatsState) (is : IsStore me) (place_is : IsPlace n) (at : i ≡ n - 1) (up : node_at me.nodes n ≡ Up c seats) where
  work : IsAtWork me.shape me.shared.pool me.shared.owners n c seats
  work = logs.work me n i c d seats seats is place_is at up

  now : node_at (with_node me.nodes n (Up d seats)) n ≡ Up d seats
  now = at_same me.nodes n (Up d seats) is.shared.eight place_is

  others : OthersStay n me.nodes (with_node me.nodes n (Up d seats))
  others = others_stay me.nodes n (Up d seats) is.shared.eight place_is

  -- what holds of the node after it, and of the node before and after it
  pub on_now : (P : CacheState → SeatsState → Type 0) → P d seats → OnUp (node_at (slice_set me.nodes i (Up d seats)) n) P
  on_now P is_so = logs.there me n i c d seats seats is place_is at up (λ os. OnUp (node_at os n) P) (subst (λ o. OnUp o P) (sym now) is_so)

  pub on_both : (R : CacheState → CacheState → Type 0) → R c d → OnUp (node_at me.nodes n) (λ e old. OnUp (node_at (slice_set me.nodes i (Up d seats)) n) (λ f new. R e f))
  on_both R is_so = subst (λ o. OnUp o (λ e old. OnUp (node_at (slice_set me.nodes i (Up d seats)) n) (λ f new. R e f))) (sym up) (on_now (λ f new. R c f) is_so)

  pub work_kept : KeepsWork n me (record { shape = me.shape; shared = me.shared; nodes = slice_set me.nodes i (Up d seats) })
  work_kept = record {
    locks = refl;
    reopening = refl;
    seats = subst (λ o. KeepsSeats o (node_at (slice_set me.nodes i (Up d seats)) n)) (sym up)
        (logs.there me n i c d seats seats is place_is at up (λ os. KeepsSeats (Up c seats) (node_at os n)) (subst (KeepsSeats (Up c seats)) (sym now) (refl, refl)));
  }

  -- ---- the store after it

  module _ (node : d.node ≡ c.node) (same : SamePages c.pages d.pages) (cache : IsCache d.node d.pages) where
    shared : AreShared me.shape me.shared.pool me.shared.owners (with_node me.nodes n (Up d seats))
    shared =
        let all = is.shared in
        let sum = cached_with me.nodes n (Up d seats) all.eight place_is in
        let before : count_of (node_at me.nodes n) ≡ length c.pages = ap count_of up in
        let long = same_length c.pages d.pages same in
        record {
          shape = all.shape;
          table = all.table;
          eight = length-set me.nodes (n - 1) (Up d seats) ∙ all.eight;
          frames = (let old = all.frames in omega (arith, old, sum, before, long));
          apart = apart_with me.nodes n (Up d seats) all.eight place_is
              (λ m other far. all_same (λ p. All (λ q. p.frame ≢ q.frame) (pages_of (node_at me.nodes m))) c.pages d.pages same (subst (λ ps. AreApart ps (pages_of (node_at me.nodes m))) (ap pages_of up) (all.apart n m place_is other (λ e. far (sym e))))) all.apart;
          holders = all.holders;
        }

    pub store_flushed : SameLog c.log d.log → d.log.tail ≡ c.log.tail → IsTiedToLog d → IsStoreOf me.shape me.shared.pool me.shared.owners (slice_set me.nodes i (Up d seats))
    store_flushed log tail log_tie = logs.there me n i c d seats seats is place_is at up (IsStoreOf me.shape me.shared.pool me.shared.owners) (record {
      shared = shared;
      is = each_with me.nodes n (Up d seats) is.shared.eight place_is (IsNode me.shape me.shared.pool me.shared.owners) (record {
        number = ap (λ (k : NodeId). k.0) node ∙ work.number;
        cache = cache;
        store = store_same me.shape c d node log same work.store;
        shown = shown_same me.shape me.shared.pool c d same work.shown;
        owned = owned_same me.shared.owners c d node same work.owned;
        log_tie = log_tie;
        tie = tied_same seats c d node log tail work.tie;
        eight = work.eight;
      }) (λ m other far. is.is m other);
    })

    pub but_flushed : IsStoreButOf n me.shape me.shared.pool me.shared.owners (slice_set me.nodes i (Up d seats))
    but_flushed = logs.there me n i c d seats seats is place_is at up (IsStoreButOf n me.shape me.shared.pool me.shared.owners) (record {
      shared = shared;
      ends = subst (CanHalt me.shape me.shared.pool me.shared.owners n) (sym now) (record {
        number = ap (λ (k : NodeId). k.0) node ∙ work.number;
        known = logs.low me n i c d seats seats is place_is at up;
        cache = cache;
        out = out_same me.shared.pool c d same (out_of_shown me.shape me.shared.pool c work.shown);
        owned = owned_same me.shared.owners c d node same work.owned;
      });
      others = λ m other far. subst (IsNode me.shape me.shared.pool me.shared.owners m) (sym (at_other me.nodes n (Up d seats) is.shared.eight place_is m other far)) (is.is m other);
    })

  -- ---- the blocks

  tail_here : tail_place c.log ≡ place (region_of me.shape n) ((c.log.tail - 1) / 6)
  tail_here = ap (λ g. place g ((c.log.tail - 1) / 6)) (logs.region_here me n i c d seats seats is place_is at up)

  -- the frames of its pages are out, and their blocks may be named and have no uncovered write
  pub out_pages : AreOut me.shared.pool c
  out_pages = out_of_shown me.shape me.shared.pool c work.shown

  pub reach_pages : (disk : DiskState) → ((k : ℕ) → k < disk_need me.shape → disk.reach k ≡ true) → AreInReach me.shape c.pages disk.reach
  reach_pages disk whole = λ j q low. whole (page_place me.shape (slice_index_or c.pages j q).ticket.page) (let within = work.store.pages j q low in omega (arith, within))

  pub free_pages : (b : ℕ → BlockState) → IsQuiet me b → AreFree me.shape c.pages c.node.0 b
  free_pages b quiet = λ j q low. inr (page_still me.shape me.nodes b (slice_index_or c.pages j q).ticket.page is.shared.shape (up_most me.shape me.shared.pool me.shared.owners me.nodes is) quiet)

  -- a page of the cache that has changes is one that the node has changed
  marked : (j : ℕ) (q : CachedPage) → j < length c.pages → slice_index_or c.pages j q ≡ q → q.changes ≢ None → has_changed (node_at me.nodes n) q.ticket.page ≡ true
  marked j q low here some = subst (λ o. has_changed o q.ticket.page ≡ true) (sym up) (changed_there c j q work.cache low here some)

  module _ (b b' : ℕ → BlockState) where
    pub quiet_flushed : NoNewWriterBut (tail_place c.log) c.node.0 b b' → IsQuiet me b → IsQuietOf me.shape (slice_set me.nodes i (Up d seats)) b'
    quiet_flushed writers quiet = logs.there me n i c d seats seats is place_is at up (λ os. IsQuietOf me.shape os b')
        (quiet_still me.shape me.nodes (with_node me.nodes n (Up d seats)) n (tail_place c.log) b b' place_is (place_inside me.shape n c ((c.log.tail - 1) / 6) work.number work.store work.log_tie) (ap is_up now) others (subst (λ k. NoNewWriterBut (tail_place c.log) k b b') work.number writers) quiet)

    pub quiet_but_flushed : NoNewWriterBut (tail_place c.log) c.node.0 b b' → IsQuiet me b → IsQuietButOf n me.shape (slice_set me.nodes i (Up d seats)) b'
    quiet_but_flushed writers quiet = logs.there me n i c d seats seats is place_is at up (λ os. IsQuietButOf n me.shape os b')
        (quiet_but me.shape me.nodes (with_node me.nodes n (Up d seats)) n (tail_place c.log) b b' others (subst (λ k. NoNewWriterBut (tail_place c.log) k b b') work.number writers) quiet)

    pub besides_flushed : NarrowsButPages me.shape c.log me.shared.pool c.pages b b' → NarrowsBesides n me.shape b b'
    besides_flushed narrows k o page ring may = elim (narrows k o may) [
      | inl old ↦ old
      | inr (inl last) ↦ absurd (ring ((c.log.tail - 1) / 6) (last ∙ tail_here))
      | inr (inr written) ↦
          let low : written.1.ticket.page.0 < page_count me.shape = subst (λ (r : CachedPage). r.ticket.page.0 < page_count me.shape) written.3 (work.store.pages written.0 written.1 written.2) in
          absurd (page written.1.ticket.page low written.4.0.1)
    ]

    pub changed_flushed : NarrowsButPages me.shape c.log me.shared.pool c.pages b b' → NarrowsToChanged n me b b'
    changed_flushed narrows k o apart may = elim (narrows k o may) [
      | inl old ↦ old
      | inr (inl last) ↦ absurd (apart.log ((c.log.tail - 1) / 6) (last ∙ tail_here))
      | inr (inr written) ↦ absurd (apart.pages written.1.ticket.page (marked written.0 written.1 written.2 written.3 written.4.0.0) written.4.0.1)
    ]

    pub contents_flushed : KeepsContentsButPages me.shape c.log c.pages b b' → KeepsAllButChanged n me b b'
    contents_flushed keeps k apart = keeps k (λ last. apart.log ((c.log.tail - 1) / 6) (last ∙ tail_here)) (λ any. apart.pages any.1.ticket.page (marked any.0 any.1 any.2 any.3 any.4.0) any.4.1)

    -- where the last block of the log alone was written
    pub ring_forced : NarrowsBeside (tail_place c.log) b b' → NarrowsToRing n me.shape b b'
    ring_forced narrows k o ring may = elim (narrows k o may) [ inl old ↦ old | inr last ↦ absurd (ring ((c.log.tail - 1) / 6) (last ∙ tail_here)) ]

    pub alone_forced : KeepsContents (tail_place c.log) b b' → KeepsAllButLog n me.shape b b'
    alone_forced keeps k beside = keeps k (λ last. beside ((c.log.tail - 1) / 6) (last ∙ tail_here))

    pub pages_forced : NarrowsBeside (tail_place c.log) b b' → NarrowsButPages me.shape c.log me.shared.pool c.pages b b'
    pages_forced narrows k o may = elim (narrows k o may) [ inl old ↦ inl old | inr last ↦ inr (inl last) ]

    pub foreign_forced : KeepsForeignBut (tail_place c.log) c.node.0 b b' → KeepsForeignButPages me.shape c.log c.pages c.node.0 b b'
    foreign_forced foreign k last pages other = foreign k last other

    -- ---- what the store shows

    module _ (p : Plain) (m : Machine) (was : ShowsStoreOf me.shape me.shared.pool me.shared.owners me.nodes b p m) where
      mine : ShowsNode me.shape me.shared.pool n (Up c seats) b p m
      mine = subst (λ o. ShowsNode me.shape me.shared.pool n o b p m) up (was.node n place_is (logs.low me n i c d seats seats is place_is at up))

      -- a page whose block was written with what its frame holds is on the disk
      pub on_disk : HoldsPages me.shape me.shared.pool c.pages b' → (x : PageNo) → x.0 < page_count me.shape → is_changed x c ≡ true → IsOnDisk me.shape b' p x
      on_disk holds x low more = by (page_at x c.pages) refl
        where
          by : (o : Option CachedPage) → page_at x c.pages ≡ o → IsOnDisk me.shape b' p x
          by None here = let never : is_changed x c ≡ false = rw here refl in cc
          by (Some q) here =
              written_stored me.shape p x q me.shared.pool b' (living me.shape p m was.shape was.means.pages) low (is_page-same x q (found (is_page x) c.pages q here))
              (find_all (λ r. Shows me.shared.pool r.frame (image_in me.shape p r.ticket.page)) (is_page x) c.pages q here mine.1.cached)
              (find_all (λ r. r.changes ≢ None → Holds b' (page_place me.shape r.ticket.page) (frame_at me.shared.pool r.frame)) (is_page x) c.pages q here holds (λ none. let never : is_changed x c ≡ false = rw here (rw none refl) in cc))

      up_same : SamePages c.pages d.pages → SameLog c.log d.log → ((xs : List (List ℕ)) → IsLogOn c.log b xs → IsLogOn d.log b' xs) → ShowsUp me.shape me.shared.pool n d seats b' p m
      up_same pages log records = up_kept me.shape me.shared.pool n c d seats b b' p m m refl refl pages log records mine.1

      -- each page that no node has changed since is on it
      stored : NarrowsButPages me.shape c.log me.shared.pool c.pages b b' → ((x : PageNo) → x.0 < page_count me.shape → is_changed x c ≡ true → is_changed x d ≡ false → IsOnDisk me.shape b' p x)
          → (x : PageNo) → x.0 < page_count me.shape → IsSettled (with_node me.nodes n (Up d seats)) me.shared.owners x → IsOnDisk me.shape b' p x
      stored narrows written x low settled = by (is_changed x c) refl
        where
          clean : is_changed x d ≡ false
          clean = subst (λ o. OnUp o (λ e those. is_changed x e ≡ false)) now (settled.clean n place_is)

          by : (t : Bool) → is_changed x c ≡ t → IsOnDisk me.shape b' p x
          by true more = written x low more clean
          by false none =
              still_stored me.shape p x c c.pages me.shared.pool b b' work.store work.log_tie (living me.shape p m was.shape was.means.pages) low mine.1.cached narrows
              (was.stored x low (settled_before me.nodes me.shared.owners n c d seats seats is.shared.eight place_is up x (is.shared.holders x.0) (λ later. none) settled))

      pub shows_flushed : SamePages c.pages d.pages → SameLog c.log d.log → ((xs : List (List ℕ)) → IsLogOn c.log b xs → IsLogOn d.log b' xs) → KeepsForeignButPages me.shape c.log c.pages c.node.0 b b' → IsQuiet me b → NarrowsButPages me.shape c.log me.shared.pool c.pages b b'
          → ((x : PageNo) → x.0 < page_count me.shape → is_changed x c ≡ true → is_changed x d ≡ false → IsOnDisk me.shape b' p x) → ShowsStoreOf me.shape me.shared.pool me.shared.owners (slice_set me.nodes i (Up d seats)) b' p m
      shows_flushed pages log records foreign quiet narrows written = logs.there me n i c d seats seats is place_is at up (λ os. ShowsStoreOf me.shape me.shared.pool me.shared.owners os b' p m)
          (shown_with me.shape me.shared.pool me.shared.pool me.shared.owners me.shared.owners me.nodes n d seats b b' p p m m is place_is was
          (pages_leave me.shape me.nodes n c c.pages b b' is.shared.shape place_is (logs.low me n i c d seats seats is place_is at up) (up_most me.shape me.shared.pool me.shared.owners me.nodes is) work.number work.store work.log_tie quiet foreign)
          (λ k k_is far j e below. refl) (λ k k_is far. record { live = refl; mode = refl; start = refl; pending = refl; images = λ j e below. refl; lives = λ j e below. refl })
          was.means was.shape mine.0 (up_same pages log records) (stored narrows written) was.hold)
