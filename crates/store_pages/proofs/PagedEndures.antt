-- A store endures a call of a node that writes pages which it has changed, and before them its log: what it leaves, done or stopped.
use Rattle.std.specs.Prelude.{◌≡◌, ◌≢◌, ◌+◌, ◌-◌, ◌*◌, ◌<◌, ◌≤◌, ⊤, ℕ, Bool, true, false, All, List, Option, Some, None, count_by, is_some, length, map, refl, slice_index_or}
use Rattle.std.proofs.Common.{arith, inl, inr, ap, subst, sym, ◌∙◌, length-set}
use Rattle.std.proofs.lemmas.Bool.{cases_lt}
use Rattle.std.proofs.lemmas.List.{length-map, take_all}
use Rattle.sd_base.specs.Disk.{BlockState, IsLawful}
use Rattle.sd_base.specs.Calls.{KeepsForeign, Narrows}
use Rattle.sd_base.specs.Shape.{page_count}
use Rattle.sd_base.specs.declared.names.PageNo.{PageNo}
use Rattle.sd_base.specs.declared.shape.Shape.{Shape}
use Rattle.log_record.specs.Legal.{IsLegal}
use Rattle.log_record.specs.Text.{record_text}
use Rattle.private_log.specs.Content.{HoldsFront, region_of}
use Rattle.private_log.specs.Log.{SameLog, region}
use Rattle.private_log.specs.Spread.{IsCutLog, IsSpread, IsStill}
use Rattle.record_locks.specs.Held.{Held}
use Rattle.state_ids.specs.Blocks.{page_place}
use Rattle.state_ids.specs.Held.{Shows}
use Rattle.node_cache.specs.Cache.{CachedPage, CacheState, Changes, has_changes, is_cached}
use Rattle.store_nodes.proofs.HaltedNodes.{cached_there}
use Rattle.node_cache.proofs.Ranges.{unchanged}
use Rattle.node_cache.proofs.WriteAhead.{stable_below}
use Rattle.node_cache.specs.Writes.{HoldsPages, IsWrittenAhead, KeepsForeignButPages, NarrowsButPages}
use Rattle.txn_core.specs.Seats.{SeatsState}
use Rattle.recovery_theory.specs.History.{History, image_now}
use Rattle.recovery_theory.proofs.Cuts.{set_at-other}
use Rattle.record_machine.specs.Cuts.{SurvivesAs}
use Rattle.record_machine.specs.Machine.{Machine}
use Rattle.record_machine.specs.Meaning.{Plain}
use Rattle.record_machine.proofs.LostTables.{survives_still}
use Rattle.record_machine.proofs.WholeLogs.{whole, whole_stable, whole_sure, whole_survives}
use Rattle.page_owner.specs.declared.owners.Own.TheVariants.{Out}
use Rattle.page_owner.specs.Owners.{owner_of}
use Rattle.store_nodes.specs.declared.node.Node.{Node}
use Rattle.store_nodes.specs.declared.node.Node.TheVariants.{Down, Up}
use Rattle.store_nodes.specs.declared.store.Store.{Store}
use Rattle.store_nodes.specs.Endures.{AreClean, AreGone, EnduresAs, MayHaltAs, with_held}
use Rattle.store_nodes.specs.Nodes.{IsAtWork, IsPlace, IsStore, node_at, with_node}
use Rattle.store_nodes.specs.Ports.{IsQuiet}
use Rattle.store_nodes.specs.Shows.{ShowsNode, holder, image_in}
use Rattle.store_nodes.specs.Tied.{IsTied, TiesNode, TiesPage, TiesUp}
use Rattle.store_nodes.proofs.Eight.{others_stay}
use Rattle.store_nodes.proofs.Living.{AreLiving, living}
use Rattle.store_nodes.proofs.Logs as logs
use Rattle.store_nodes.proofs.MayHalts.{clean_halting, may_halt_lacking}
use Rattle.store_nodes.proofs.OtherLogs.{LeavesRegion, pages_leave, pages_settle, region_settled, region_then}
use Rattle.store_nodes.proofs.ShownLogged.{length_shown}
use Rattle.store_nodes.proofs.Ties.{LeavesLog, down_tied, place_cut, stable_cut, tied_with, up_tied}
use Rattle.store_nodes.proofs.Works.{up_most}
use Rattle.store_pages.proofs.PageOutcomes.{image_there, there_written, ties_or_among, ties_or_settled, whole_cut, whole_log_or_old, whole_or_old}
use Rattle.store_pages.proofs.PagesWritten.{AreWritten, pages_written, with_disk}

-- What a call leaves that is done: nodes and disk have the logs and pages of a history, whose disk has each of these pages that had
-- changes. `now` are the pages that it may lack still.
pub record HasWritten (s : Shape) (nodes : List Node) (held : Held) (old : History) (dirty : ℕ → Bool) (b : ℕ → BlockState) (p : Plain) (m : Machine) (pages : List CachedPage) : Type 0 where
  pub history : History
  pub now : ℕ → Bool
  pub survives : SurvivesAs held now history p m
  pub tied : IsTied s nodes b history
  pub clean : (x : ℕ) → dirty x ≡ false → now x ≡ false
  pub lost : (x : ℕ) → history.devices.disk x ≡ None → old.devices.disk x ≡ None
  pub written : All (λ q. q.changes ≢ None → now q.ticket.page.0 ≡ false) pages

-- a page without changes has none
has_none : (q : CachedPage) → has_changes q ≡ false → q.changes ≡ None
has_none q not = by q.changes refl
  where
    by : (o : Option Changes) → q.changes ≡ o → q.changes ≡ None
    by None is = is
    by (Some ch) is = let never : true ≡ false = sym (ap is_some is) ∙ not in absurd cc

-- these are pages of the cache
abbrev pub AreOf : CacheState → List CachedPage → Type 0
AreOf c pages = All (λ q. is_cached q.ticket.page c ≡ true) pages

-- as all of them are
pub all_of : (c : CacheState) → AreOf c c.pages
all_of c k d low = cached_there (slice_index_or c.pages k d).ticket.page c.pages k d low refl

module _ (me : Store) (n i : ℕ) (c d : CacheState) (seats : SeatsState) (is : IsStore me) (place : IsPlace n) (at : i ≡ n - 1) (up : node_at me.nodes n ≡ Up c seats) (pages : List CachedPage) (b b' : ℕ → BlockState) (p : Plain) (m : Machine) (e : EnduresAs me b p m)
    (of_cache : AreOf c pages) (shown : All (λ q. Shows me.shared.pool q.frame (image_in me.shape p q.ticket.page)) pages) (within : All (λ q. q.ticket.page.0 < page_count me.shape) pages)
    (narrows : NarrowsButPages me.shape c.log me.shared.pool pages b b') (foreign : KeepsForeignButPages me.shape c.log pages c.node.0 b b') (quiet : IsQuiet me b) where
  work : IsAtWork me.shape me.shared.pool me.shared.owners n c seats
  work = logs.work me n i c d seats seats is place at up

  low : n ≤ me.shape.nodes
  low = logs.low me n i c d seats seats is place at up

  abbrev m1 : Machine
  m1 = with_held e.held m

  abbrev h : History
  h = e.history

  mine : ShowsNode me.shape me.shared.pool n (Up c seats) b p m1
  mine = subst (λ o. ShowsNode me.shape me.shared.pool n o b p m1) up (e.nodes.node n place low)

  was_tied : TiesUp n c seats h
  was_tied = subst (λ o. TiesNode me.shape n o b h) up (e.tied.node n place low)

  alive : AreLiving me.shape p
  alive = living me.shape p m1 e.nodes.shape e.nodes.means.pages

  others : (k : ℕ) → IsPlace k → k ≤ me.shape.nodes → k ≢ n → LeavesRegion (region_of me.shape k) b b'
  others = pages_leave me.shape me.nodes n c pages b b' is.shared.shape place low (up_most me.shape me.shared.pool me.shared.owners me.nodes is) work.number work.store work.log_tie quiet foreign

  -- a cached page is guarded by the node
  pub guards_cached : (x : PageNo) → x.0 < page_count me.shape → is_cached x c ≡ true → h.guard x.0 ≡ n
  guards_cached x inside cached =
      let out : owner_of me.shared.owners x.0 ≡ Out c.node = (work.owned x).1 cached in
      e.survives.survives.recoverable.guard x.0 n (e.nodes.hold x.0 inside ∙ ap holder out ∙ ap Some work.number)

  now_there : (x : PageNo) → x.0 < page_count me.shape → image_in me.shape p x ≡ image_now h x.0
  now_there = image_there e.dirty h p m1 me.shape e.survives.survives.recoverable e.nodes.shape

  -- ---- the history, where the whole log is stable

  abbrev hw : History
  hw = whole h n

  whole_here : SurvivesAs e.held e.dirty hw p m
  whole_here = survives_still e.held e.dirty e.dirty h hw p p m e.survives (whole_survives e.dirty h p m1 n e.survives.survives)

  sure : All (λ (q : CachedPage). q.changes ≢ None → hw.last q.ticket.page.0 ≤ hw.stable (hw.guard q.ticket.page.0)) pages
  sure k a below some = whole_sure h n (slice_index_or pages k a).ticket.page.0 (guards_cached (slice_index_or pages k a).ticket.page (within k a below) (of_cache k a below))

  others_logged : (k : ℕ) → k ≢ n → LeavesLog k h hw
  others_logged k far = record { live = refl; stable = set_at-other n (length (h.live n)) h.stable k far; first = refl }

  long : 6 * c.log.start + length (p.live n) ≡ c.log.tail
  long = length_shown n me.shape me.shared.pool c seats b p m1 mine.1

  live_long : length (h.live n) ≡ length (p.live n)
  live_long = ap length (e.survives.survives.recoverable.live n)

  -- ---- the call is done

  -- the pages that had changes are written, behind the whole log
  pub done_written : HoldsPages me.shape me.shared.pool pages b' → AreWritten me.shape e.held e.dirty hw p m b' (λ q. ⊥) pages
  done_written holds = pages_written me.shape e.held hw p m b' (λ q. ⊥) pages e.dirty whole_here
      (ties_or_among me.shape me.shared.pool c pages b b' hw p work.store work.log_tie alive now_there within shown e.tied.page narrows)
      sure (λ k a below some. inr (there_written me.shape me.shared.pool c pages b b' hw p work.store work.log_tie alive now_there within shown e.tied.page holds k a below some))

  -- so nodes and disk have the logs and pages of the history
  pub done_tied : (w : AreWritten me.shape e.held e.dirty hw p m b' (λ q. ⊥) pages) → d.log.start ≡ c.log.start → d.log.stable ≡ c.log.tail → IsTied me.shape (with_node me.nodes n (Up d seats)) b' (with_disk w.disk hw)
  done_tied w start stable = tied_with me.shape me.nodes n (Up d seats) b b' h (with_disk w.disk hw) is.shared.eight place e.tied others (λ k far. record { live = refl; stable = (others_logged k far).stable; first = refl }) (record {
    first = was_tied.first ∙ ap (λ k. 6 * k) (sym start);
    latest = was_tied.latest;
    stable = (let all = whole_stable h n in omega (arith, all, live_long, long, start, stable));
  }) w.page

  -- where none had changes, nothing is written
  none_written : All (λ q. has_changes q ≡ false) pages → SameLog c.log d.log → c.log.stable ≤ d.log.stable → HasWritten me.shape (with_node me.nodes n (Up d seats)) e.held h e.dirty b' p m pages
  none_written none same rises = record {
    history = h;
    now = e.dirty;
    survives = e.survives;
    tied = tied_with me.shape me.nodes n (Up d seats) b b' h h is.shared.eight place e.tied others (λ k far. record { live = refl; stable = refl; first = refl }) (up_tied n c d seats seats h h refl refl same rises was_tied.latest was_tied)
        (λ x inside. elim (ties_or_among me.shape me.shared.pool c pages b b' h p work.store work.log_tie alive now_there within shown e.tied.page narrows x inside) [
          | inl tie ↦ tie
          | inr among ↦ absurd (among.4.0 (has_none among.1 (subst (λ q. has_changes q ≡ false) among.3 (none among.0 among.1 among.2))))
        ]);
    clean = λ x was. was;
    lost = λ x none_there. none_there;
    written = λ k a below some. absurd (some (has_none (slice_index_or pages k a) (none k a below)));
  }

  -- in each case
  pub has_written : SameLog c.log d.log → c.log.stable ≤ d.log.stable → (1 ≤ count_by has_changes pages → d.log.stable ≡ c.log.tail) → HoldsPages me.shape me.shared.pool pages b' → HasWritten me.shape (with_node me.nodes n (Up d seats)) e.held h e.dirty b' p m pages
  has_written same rises stable holds = elim (cases_lt 0 (count_by has_changes pages)) [
    | inr none ↦ none_written (unchanged pages (omega (arith, none))) same rises
    | inl some ↦
        let w = done_written holds in
        record {
          history = with_disk w.disk hw;
          now = w.now;
          survives = w.survives;
          tied = done_tied w same.start (stable (omega (arith, some)));
          clean = w.clean;
          lost = w.lost;
          written = λ k a below had. elim (w.written k a below had) [ inl never ↦ absurd never | inr clean ↦ clean ];
        }
  ]

  -- ---- the node's port stopped in it

  module _ (b'' : ℕ → BlockState) (settled : Narrows b' b'') (stops : KeepsForeign n b' b'') (law : (k : ℕ) → IsLawful b'' k) (single : (x : PageNo) → x.0 < page_count me.shape → (b'' (page_place me.shape x)).writer ≡ None) (still : IsStill (region c.log) b') where
    own : region c.log ≡ region_of me.shape n
    own = logs.region_here me n i c d seats seats is place at up

    begins : h.devices.first n ≡ 6 * c.log.start
    begins = was_tied.first

    legal : All IsLegal (h.live n)
    legal = subst (All IsLegal) (sym (e.survives.survives.recoverable.live n)) mine.1.records.legal

    others_then : (k : ℕ) → IsPlace k → k ≤ me.shape.nodes → k ≢ n → LeavesRegion (region_of me.shape k) b b''
    others_then k k_is most far = region_then (region_of me.shape k) b b' b'' (others k k_is most far)
        (pages_settle me.shape me.nodes n c pages b b' is.shared.shape place low (up_most me.shape me.shared.pool me.shared.owners me.nodes is) work.number work.store work.log_tie quiet foreign b'' stops k k_is most far)

    abbrev nodes' : List Node
    nodes' = with_node me.nodes n (Up d seats)

    eight' : length nodes' ≡ 8
    eight' = length-set me.nodes (n - 1) (Up d seats) ∙ is.shared.eight

    abbrev Halts : Type 0
    Halts = MayHaltAs n (record { shape = me.shape; shared = me.shared; nodes = nodes' }) b'' p m

    clean_here : AreClean me.shape me.shared.owners (with_node nodes' n Down) e.dirty m
    clean_here = clean_halting me n c seats is place up nodes' eight' (others_stay me.nodes n (Up d seats) is.shared.eight place) e.dirty m m refl e.clean

    -- what the disk had, it has
    abbrev Halted : Type 0
    Halted = (w : Halts) × ((x : ℕ) → e.dirty x ≡ false → w.dirty x ≡ false)

    halts_with : (dirty : ℕ → Bool) (h' : History) (bx : ℕ → BlockState) → ((x : ℕ) → e.dirty x ≡ false → dirty x ≡ false) → AreGone me.shape h' m → ((k : ℕ) → k ≢ n → LeavesLog k h h') → h'.devices.first n ≡ 6 * c.log.start → All IsLegal (h'.live n)
        → (cut : IsCutLog (region c.log) c.log.start c.log.stable bx (map record_text (h'.live n))) → h'.stable n ≤ cut.count → IsStill (region c.log) bx → KeepsForeign n bx b'' → ((x : PageNo) → x.0 < page_count me.shape → TiesPage me.shape b'' h' x) → SurvivesAs e.held dirty h' p m → Halted
    unfolding may_halt_lacking
    halts_with dirty h' bx cleaner lost logged first legal cut sure still settles page survives = (
      may_halt_lacking me n c seats is place up nodes' eight' (others_stay me.nodes n (Up d seats) is.shared.eight place) b b'' p p m m e me.shared.pool dirty h' cut.count mine.0 refl refl refl lost (λ x. refl) others_then
          (λ k k_is far j a below. refl) (λ k k_is far. record { live = refl; mode = refl; start = refl; pending = refl; images = λ j a below. refl; lives = λ j a below. refl }) logged (λ key t how has up far. e.lockers key t how has up)
          (λ unlost x inside at_rest. cleaner x.0 (clean_here unlost x inside at_rest))
          (place_cut me.shape n c bx b'' h' own first legal cut sure still settles) (down_tied me.shape n c bx b'' h' own first legal cut sure still settles) page survives,
      cleaner,
    )

    -- no block holds another thing than it held: the log is cut where the stop left it
    halts_old : IsCutLog (region c.log) c.log.start c.log.stable b' (map record_text (p.live n)) → All (λ q. q.changes ≢ None → TiesPage me.shape b'' h q.ticket.page) pages → Halted
    halts_old cut old =
        let there : IsCutLog (region c.log) c.log.start c.log.stable b' (map record_text (h.live n)) = subst (λ l. IsCutLog (region c.log) c.log.start c.log.stable b' (map record_text l)) (sym (e.survives.survives.recoverable.live n)) cut in
        halts_with e.dirty h b' (λ x was. was) e.lost (λ k far. record { live = refl; stable = refl; first = refl }) begins legal there (stable_cut n c b' h (map record_text (h.live n)) there was_tied.stable) still stops
        (λ x inside. elim (ties_or_settled me.shape me.shared.pool c pages b b' h p work.store work.log_tie alive now_there within shown e.tied.page narrows b'' settled law single x inside) [
          | inl tie ↦ tie
          | inr one ↦ subst (TiesPage me.shape b'' h) one.4.1 (subst (λ (q : CachedPage). q.changes ≢ None → TiesPage me.shape b'' h q.ticket.page) one.3 (old one.0 one.1 one.2) one.4.0)
        ])
        e.survives

    -- or all records of the log are there, and some of the pages
    halts_whole : HoldsFront (region c.log) c.log.start c.log.tail (map record_text (p.live n)) (λ k. (b'' k).current) → Halted
    halts_whole front =
        let w = pages_written me.shape e.held hw p m b'' (λ q. ⊤) pages e.dirty whole_here
        (ties_or_settled me.shape me.shared.pool c pages b b' hw p work.store work.log_tie alive now_there within shown e.tied.page narrows b'' settled law single)
        sure (λ k a below some. elim (whole_or_old me.shape me.shared.pool c pages b b' hw p work.store work.log_tie alive now_there within shown e.tied.page narrows b'' settled law single k a below some) [ inl old ↦ inl (tt, old) | inr there ↦ inr there ]) in
        let texts = map record_text (h.live n) in
        let still' = (region_settled (region c.log) n b' b'' still stops).still still in
        let count : length texts ≡ length (h.live n) = length-map (h.live n) record_text in
        let end : 6 * c.log.start + length texts ≡ c.log.tail = omega (arith, count, live_long, long) in
        let stable : c.log.stable ≤ c.log.tail = stable_below c.log b (map record_text (p.live n)) mine.1.records.on in
        let same : map record_text (p.live n) ≡ texts = ap (map record_text) (sym (e.survives.survives.recoverable.live n)) in
        let all = whole_cut (region c.log) c.log.start c.log.stable c.log.tail b'' texts law still' end stable (subst (λ ts. HoldsFront (region c.log) c.log.start c.log.tail ts (λ k. (b'' k).current)) same front) in
        let cut : IsCutLog (region c.log) c.log.start c.log.stable b'' texts = record {
          count = length texts;
          low = omega (arith, end, stable);
          high = omega arith;
          log = subst (IsSpread (region c.log) c.log.start (length texts) b'') (sym (take_all (length texts) texts (omega arith))) all;
        } in
        halts_with w.now (with_disk w.disk hw) b'' w.clean (λ x inside none. e.lost x inside (w.lost x none)) (λ k far. record { live = refl; stable = (others_logged k far).stable; first = refl }) begins legal
        cut (let sure_all = whole_stable h n in omega (arith, sure_all, count)) still' (λ k other. refl) w.page w.survives

    pub halts_clean : IsCutLog (region c.log) c.log.start c.log.stable b' (map record_text (p.live n)) → IsWrittenAhead c.log (map record_text (p.live n)) b b' → Halted
    halts_clean cut ahead = elim (whole_log_or_old me.shape me.shared.pool c pages b b' h p work.store work.log_tie alive now_there within shown e.tied.page narrows b'' settled law single (map record_text (p.live n)) ahead) [
      | inl old ↦ halts_old cut old
      | inr front ↦ halts_whole front
    ]

    pub paged_halts : IsCutLog (region c.log) c.log.start c.log.stable b' (map record_text (p.live n)) → IsWrittenAhead c.log (map record_text (p.live n)) b b' → Halts
    paged_halts cut ahead = (halts_clean cut ahead).0
