use Rattle.std.specs.Prelude.{◌≡◌, ◌-◌, ◌≤◌, ◌++◌, ◌∷◌, [], true, false, IsTrue, All, List, Option, Some, None, IfSome, is_some, length, map, refl, slice_index_or, slice_set}
use Rattle.std.proofs.Common.{arith, ap, subst, sym, ◌∙◌, length-set}
use Rattle.std.proofs.lemmas.List.{get_or-set_same}
use Rattle.std.proofs.lemmas.List.Elements.{All-push}
use Rattle.sd_base.specs.Faults.{IsStopOf}
use Rattle.sd_base.specs.Shape.{first_page}
use Rattle.sd_base.specs.declared.names.PageNo.{PageNo}
use Rattle.page_image.specs.Change.{applied}
use Rattle.compensation.specs.Inverse.{Undoes}
use Rattle.frame_pool.specs.Frames.{frame_at}
use Rattle.log_record.specs.declared.record.LogRecord.{LogRecord}
use Rattle.log_record.specs.Legal.{IsLegal}
use Rattle.log_record.specs.Text.{record_text}
use Rattle.private_log.specs.Content.{region_of}
use Rattle.private_log.specs.Log.{region}
use Rattle.private_log.specs.Spread.{IsCutLog}
use Rattle.node_cache.specs.Cache as cache
use Rattle.node_cache.specs.Cache.{AreShown, CachedPage, changed_by, is_cached, page_at}
use Rattle.txn_core.specs.Seats.{OpenTxn, is_busy, txn_in}
use Rattle.txn_core.specs.Updates.{HasPage}
use Rattle.txn_core.proofs.SeatLaws.{seats_state, txn_of}
use Rattle.txn_core.proofs.TakeBackLaws.{change_back}
use Rattle.recovery_theory.specs.Steps.{changed_page}
use Rattle.recovery_theory.proofs.Cuts.{with_record-other, with_record-same}
use Rattle.record_machine.specs.Led.{LedErr}
use Rattle.record_machine.specs.Machine.{put}
use Rattle.record_machine.specs.Meaning.{logged, with_page}
use Rattle.record_machine.specs.Parts.{Back, one, taken_back}
use Rattle.record_machine.proofs.BackSteps.{back_is}
use Rattle.record_machine.proofs.Put.{put_other}
use Rattle.store_nodes.specs.declared.node.Node.TheVariants.{Down, Up}
use Rattle.store_nodes.specs.Causes.{IsLogReply}
use Rattle.store_nodes.specs.Endures.{Endures, EnduresAs, MayHalt, MayHaltAs, with_held}
use Rattle.store_nodes.specs.Nodes.{IsAtWork, IsStoreButOf, OnUp, node_at, pages_of, with_node}
use Rattle.store_nodes.specs.Pages.{LeavesLess}
use Rattle.store_nodes.specs.Ports.{IsStopReply, says_stop}
use Rattle.store_nodes.specs.Shows.{ShowsNode, ShowsStoreOf, ShowsUp}
use Rattle.store_nodes.specs.Tied.{TiesNode}
use Rattle.store_nodes.proofs.BackEndures.{latest_back, lockers_back, survives_back}
use Rattle.store_nodes.proofs.Broken.{broke_here, led_fault, no_unlock, of_stop}
use Rattle.store_nodes.proofs.CachedImages.{only_data}
use Rattle.store_nodes.proofs.Changed.{frames_changed, page_alone, store_changed}
use Rattle.store_nodes.proofs.ChangedEndures.{changed_endures, changed_halts, clean_where_changed}
use Rattle.store_nodes.proofs.Eight.{at_same, others_stay}
use Rattle.store_nodes.proofs.LogReplies.{log_says, stop_says, unless_live, unless_stopped, where_live, where_stopped}
use Rattle.store_nodes.proofs.Logs as logs
use Rattle.store_nodes.proofs.MayHalts.{clean_changed, clean_halting}
use Rattle.store_nodes.proofs.ShownBack.{back, back_cached, means_taken_back, slot_taken_back, up_taken_back}
use Rattle.store_nodes.proofs.ShownChange.{changed_others, changed_stored}
use Rattle.store_nodes.proofs.ShownWith.{shown_with}
use Rattle.store_nodes.proofs.Ties.{stable_cut}
use Rattle.store_nodes.proofs.store.Store.take_back_one.Given as given
use Rattle.store_nodes.proofs.store.Store.take_back_one.Goals as goal

-- the node, the transaction, and the page that was changed, in a call that was done
up_of : (g : given.Over) (c : goal.In-Ok g) → node_at c.args.self.now.nodes c.args.t.node.0 ≡ Up c.in-Up.cache c.in-Up.seats
up_of g c = logs.up_at c.args.self.now c.args.t.node.0 c.place.result c.index-self-place.result c.in-Up.cache c.in-Up.seats c.requires.ready.is c.requires.node c.place.ensures.is c.in-Up.is

work_of : (g : given.Over) (c : goal.In-Ok g) → IsAtWork c.args.self.now.shape c.args.self.now.shared.pool c.args.self.now.shared.owners c.args.t.node.0 c.in-Up.cache c.in-Up.seats
work_of g c = logs.work c.args.self.now c.args.t.node.0 c.place.result c.in-Up.cache c.in-Up.cache c.in-Up.seats c.in-Up.seats c.requires.ready.is c.requires.node c.place.ensures.is (up_of g c)

the_txn : (g : given.Over) (c : goal.In-Ok g) → (u : OpenTxn) × (txn_in c.in-Up.seats c.args.t.seat ≡ Some u)
the_txn g c = txn_of c.in-Up.seats c.args.t.seat (subst (λ n. OnUp n (λ d seats. IsTrue (is_busy seats c.args.t.seat))) (up_of g c) c.requires.busy)

the_page : (o : Option CachedPage) → is_some o ≡ true → (q : CachedPage) × (o ≡ Some q)
the_page None some = cc
the_page (Some q) some = (q, refl)

pub take_back_one-done-requires-clause-shown : goal.take_back_one-done-requires-clause-shown
take_back_one-done-requires-clause-shown g c =
    let me = c.args.self.now in
    let n = c.args.t.node.0 in
    let is = c.requires.ready.is in
    let up = logs.up_at me n c.place.result c.index-self-place.result c.in-Up.cache c.in-Up.seats is c.requires.node c.place.ensures.is c.in-Up.is in
    let work = logs.work me n c.place.result c.in-Up.cache c.in-Up.cache c.in-Up.seats c.in-Up.seats is c.requires.node c.place.ensures.is up in
    subst (λ s. AreShown s me.shared.pool c.in-Up.cache) (sym work.store.shape) work.shown

pub take_back_one-done-requires-clause-free : goal.take_back_one-done-requires-clause-free
take_back_one-done-requires-clause-free g c = λ told.
    let me = c.args.self.now in
    let n = c.args.t.node.0 in
    let is = c.requires.ready.is in
    let up = logs.up_at me n c.place.result c.index-self-place.result c.in-Up.cache c.in-Up.seats is c.requires.node c.place.ensures.is c.in-Up.is in
    logs.region_free me n c.place.result c.in-Up.cache c.in-Up.cache c.in-Up.seats c.in-Up.seats is c.requires.node c.place.ensures.is up (g.D.Disk.state c.args.disk.now).block (c.requires.quiet told)

-- ---- where it gives up

pub give_up-requires-clause-is : goal.give_up-requires-clause-is
give_up-requires-clause-is g c =
    let me = c.args.self.now in
    let n = c.args.t.node.0 in
    let is = c.requires.ready.is in
    let up = logs.up_at me n c.place.result c.index-self-place.result c.in-Up.cache c.in-Up.seats is c.requires.node c.place.ensures.is c.in-Up.is in
    let done = c.take_back_one-done in
    subst (λ pool. IsStoreButOf n me.shape pool me.shared.owners (slice_set me.nodes c.place.result (Up done.new.c done.new.self))) (sym c.in-Err.ensures.frames_kept)
    (logs.but_after me n c.place.result c.in-Up.cache done.new.c c.in-Up.seats done.new.self is c.requires.node c.place.ensures.is up done.ensures.cache_node c.in-Err.ensures.pages_kept c.law_of_pages.ensures)

pub give_up-requires-clause-quiet : goal.give_up-requires-clause-quiet
give_up-requires-clause-quiet g c = λ told.
    let me = c.args.self.now in
    let n = c.args.t.node.0 in
    let is = c.requires.ready.is in
    let up = logs.up_at me n c.place.result c.index-self-place.result c.in-Up.cache c.in-Up.seats is c.requires.node c.place.ensures.is c.in-Up.is in
    let done = c.take_back_one-done in
    logs.quiet_but_after me n c.place.result c.in-Up.cache done.new.c c.in-Up.seats done.new.self is c.requires.node c.place.ensures.is up (g.D.Disk.state c.args.disk.now).block (g.D.Disk.state done.new.disk).block (done.ensures.writers told) (c.requires.quiet told)

pub give_up-requires-clause-ready : goal.give_up-requires-clause-ready
give_up-requires-clause-ready g c =
    let me = c.args.self.now in
    let n = c.args.t.node.0 in
    let is = c.requires.ready.is in
    let up = logs.up_at me n c.place.result c.index-self-place.result c.in-Up.cache c.in-Up.seats is c.requires.node c.place.ensures.is c.in-Up.is in
    let done = c.take_back_one-done in
    unless_live c.in-Err.fault _ _ _ _ c.in-Err.ensures.live c.in-Err.ensures.log_tie c.in-Err.ensures.tie (λ live log_tie tie. (logs.works_after me n c.place.result c.in-Up.cache done.new.c c.in-Up.seats done.new.self is c.requires.node c.place.ensures.is up
    (record { pool = done.new.pool; owners = me.shared.owners; locks = me.shared.locks; reopening = me.shared.reopening }) (g.D.Disk.state c.args.disk.now) (g.D.Disk.state done.new.disk) (g.V.Disk.state c.args.vault.now) c.in-Err.ensures.frames_kept refl
    (logs.store_after me n c.place.result c.in-Up.cache done.new.c c.in-Up.seats done.new.self is c.requires.node c.place.ensures.is up done.ensures.cache_node c.in-Err.ensures.pages_kept c.law_of_pages.ensures done.ensures.same log_tie tie (ap length c.in-Err.ensures.seats_kept))
    done.ensures.keeps live c.requires.ready.served).ready)

pub give_up-requires-clause-quiet_all : goal.give_up-requires-clause-quiet_all
give_up-requires-clause-quiet_all g c =
    let me = c.args.self.now in
    let n = c.args.t.node.0 in
    let is = c.requires.ready.is in
    let up = logs.up_at me n c.place.result c.index-self-place.result c.in-Up.cache c.in-Up.seats is c.requires.node c.place.ensures.is c.in-Up.is in
    let done = c.take_back_one-done in
    unless_stopped c.in-Err.fault _ (λ told. logs.quiet_after me n c.place.result c.in-Up.cache done.new.c c.in-Up.seats done.new.self is c.requires.node c.place.ensures.is up (g.D.Disk.state c.args.disk.now).block (g.D.Disk.state done.new.disk).block (done.ensures.writers told) (c.requires.quiet told))

pub returns-clause-works : goal.returns-clause-works
returns-clause-works g c =
    let me = c.args.self.now in
    let n = c.args.t.node.0 in
    let is = c.requires.ready.is in
    let up = logs.up_at me n c.place.result c.index-self-place.result c.in-Up.cache c.in-Up.seats is c.requires.node c.place.ensures.is c.in-Up.is in
    let done = c.take_back_one-done in
    logs.works_stopped me n c.place.result c.in-Up.cache done.new.c c.in-Up.seats done.new.self is c.requires.node c.place.ensures.is up (record { pool = done.new.pool; owners = me.shared.owners; locks = me.shared.locks; reopening = me.shared.reopening }) c.give_up.new.self
    (g.D.Disk.state c.args.disk.now) (g.D.Disk.state done.new.disk) (g.D.Disk.state c.give_up.new.disk) (g.V.Disk.state c.args.vault.now) (g.V.Disk.state c.give_up.new.vault) c.in-Err.ensures.frames_kept done.ensures.keeps c.give_up.ensures.works

pub returns-clause-writes : goal.returns-clause-writes
returns-clause-writes g c = λ told.
    let me = c.args.self.now in
    let n = c.args.t.node.0 in
    let is = c.requires.ready.is in
    let up = logs.up_at me n c.place.result c.index-self-place.result c.in-Up.cache c.in-Up.seats is c.requires.node c.place.ensures.is c.in-Up.is in
    let done = c.take_back_one-done in
    let a = (g.D.Disk.state c.args.disk.now).block in
    let b = (g.D.Disk.state done.new.disk).block in
    record {
      quiet = c.give_up.ensures.quiet told;
      besides = λ k o page ring may. logs.besides_after me n c.place.result c.in-Up.cache done.new.c c.in-Up.seats done.new.self is c.requires.node c.place.ensures.is up a b (done.ensures.outcomes told) k o page ring (c.give_up.ensures.outcomes told k o may);
    }

pub returns-clause-fault : goal.returns-clause-fault
returns-clause-fault g c =
    let me = c.args.self.now in
    let n = c.args.t.node.0 in
    let is = c.requires.ready.is in
    let up = logs.up_at me n c.place.result c.index-self-place.result c.in-Up.cache c.in-Up.seats is c.requires.node c.place.ensures.is c.in-Up.is in
    let work = logs.work me n c.place.result c.in-Up.cache c.in-Up.cache c.in-Up.seats c.in-Up.seats is c.requires.node c.place.ensures.is up in
    subst (IsLogReply n (region_of me.shape n)) (sym c.give_up.ensures.says) (log_says me.shape me.shared.pool me.shared.owners n c.in-Up.cache c.in-Up.seats c.in-Err.fault work c.in-Err.ensures.fault)

pub returns-clause-down : goal.returns-clause-down
returns-clause-down g c = λ stop.
    let me = c.args.self.now in
    let n = c.args.t.node.0 in
    let nodes = slice_set me.nodes c.place.result (Up c.take_back_one-done.new.c c.take_back_one-done.new.self) in
    let eight : length nodes ≡ 8 = length-set me.nodes c.place.result _ ∙ c.requires.ready.is.shared.eight in
    let halts = where_stopped (first_page me.shape) c.in-Err.fault _ (subst (λ r. says_stop r ≡ true) c.give_up.ensures.says stop) c.give_up.ensures.halts in
    ap (λ os. node_at os n) halts.nodes ∙ at_same nodes n Down eight c.requires.node

pub returns-clause-kept : goal.returns-clause-kept
returns-clause-kept g c = λ live.
    let me = c.args.self.now in
    let n = c.args.t.node.0 in
    let is = c.requires.ready.is in
    let up = logs.up_at me n c.place.result c.index-self-place.result c.in-Up.cache c.in-Up.seats is c.requires.node c.place.ensures.is c.in-Up.is in
    let done = c.take_back_one-done in
    let says = subst (λ r. says_stop r ≡ false) c.give_up.ensures.says live in
    let cache = where_live (first_page me.shape) c.in-Err.fault (done.new.c ≡ c.in-Up.cache) says c.in-Err.ensures.kept in
    let same = where_live (first_page me.shape) c.in-Err.fault _ says c.give_up.ensures.kept in
    same.0 ∙ logs.store_same me n c.place.result c.in-Up.cache done.new.c c.in-Up.seats done.new.self is c.requires.node c.place.ensures.is up done.new.pool c.in-Err.ensures.frames_kept cache
    (seats_state (λ o. o ≡ c.in-Up.seats) c.in-Up.seats done.new.self.node done.new.self.seats done.ensures.node c.in-Err.ensures.seats_kept refl)

pub returns-clause-stopped : goal.returns-clause-stopped
returns-clause-stopped g c = λ told m e w newest write cached shown_by.
    let me = c.args.self.now in
    let s = me.shape in
    let pool = me.shared.pool in
    let t = c.args.t in
    let n = t.node.0 in
    let is = c.requires.ready.is in
    let k = c.in-Up.cache in
    let seats = c.in-Up.seats in
    let up = logs.up_at me n c.place.result c.index-self-place.result k seats is c.requires.node c.place.ensures.is c.in-Up.is in
    let a = (g.D.Disk.state c.args.disk.now).block in
    let x : PageNo = record { 0 = w.page } in
    let p = shown_by.0 in
    let was = shown_by.1.nodes in
    let work = logs.work me n c.place.result k k seats seats is c.requires.node c.place.ensures.is up in
    let last = logs.low me n c.place.result k k seats seats is c.requires.node c.place.ensures.is up in
    let mine = subst (λ o. ShowsNode s pool n o a p m) up (was.node n c.requires.node last) in
    let hit : IsTrue (is_cached x k) = subst (λ o. OnUp o (λ f seats. IsTrue (is_cached x f))) up cached in
    let has = back_cached n s pool k seats a p m t e w was.shape newest write was.means mine.1 work.shown hit in
    let txn = txn_of seats t.seat (subst (λ o. OnUp o (λ f those. IsTrue (is_busy those t.seat))) up c.requires.busy) in
    let it = back n s pool pool me.shared.owners k k seats seats a a p m t e w txn.0 x work was.shape refl c.requires.seat txn.1 newest write refl was.means mine.1 has in
    subst (IsStopReply n) (sym c.give_up.ensures.says) (stop_says n (first_page s) c.in-Err.fault (subst (λ j. IsStopOf j c.in-Err.fault) work.number (c.in-Err.ensures.there told (p.live n) txn.0 (p.pages w.page) txn.1 mine.1.records mine.1.told it.1.undo)))

-- ---- where it was done

-- the seat after it
now_in : (g : given.Over) (c : goal.In-Ok g) (u : OpenTxn) → txn_in c.in-Up.seats c.args.t.seat ≡ Some u → (1 ≤ u.left) × (txn_in c.take_back_one-done.new.self c.args.t.seat ≡ Some (record { begin = u.begin; last = c.in-Up.cache.log.tail; left = u.left - 1 }))
now_in g c u busy =
    let seats = c.in-Ok.ensures.seats u busy in
    let eight = (work_of g c).eight in
    let low = c.requires.seat in
    (seats.0, ap (λ os. slice_index_or os c.args.t.seat None) seats.1 ∙ get_or-set_same c.in-Up.seats.seats c.args.t.seat _ None (omega (arith, eight, low)))

-- the node after it
up_after : (g : given.Over) (c : goal.In-Ok g) → node_at (slice_set c.args.self.now.nodes c.place.result (Up c.take_back_one-done.new.c c.take_back_one-done.new.self)) c.args.t.node.0 ≡ Up c.take_back_one-done.new.c c.take_back_one-done.new.self
up_after g c =
    let me = c.args.self.now in
    let n = c.args.t.node.0 in
    let d = c.take_back_one-done.new.c in
    let after = c.take_back_one-done.new.self in
    logs.there me n c.place.result c.in-Up.cache d c.in-Up.seats after c.requires.ready.is c.requires.node c.place.ensures.is (up_of g c) (λ os. node_at os n ≡ Up d after) (at_same me.nodes n (Up d after) c.requires.ready.is.shared.eight c.requires.node)

pub returns-in-Ok-clause-busy : goal.returns-in-Ok-clause-busy
returns-in-Ok-clause-busy g c = let txn = the_txn g c in subst (λ o. OnUp o (λ d seats. IsTrue (is_busy seats c.args.t.seat))) (sym (up_after g c)) (ap is_some (now_in g c txn.0 txn.1).1)

pub returns-in-Ok-clause-fewer : goal.returns-in-Ok-clause-fewer
returns-in-Ok-clause-fewer g c =
    let me = c.args.self.now in
    let n = c.args.t.node.0 in
    let d = c.take_back_one-done.new.c in
    let new = c.take_back_one-done.new.self in
    let seat = c.args.t.seat in
    let less : LeavesLess seat c.in-Up.seats new = λ u v was now.
    let it = now_in g c u was in
    let same : Some v ≡ Some (record { begin = u.begin; last = c.in-Up.cache.log.tail; left = u.left - 1 }) = sym now ∙ it.1 in
    let left : v.left ≡ u.left - 1 = cc in
    let some = it.0 in
    omega (arith, left, some) in
    subst (λ o. OnUp o (λ e old. OnUp (node_at (slice_set me.nodes c.place.result (Up d new)) n) (λ f later. LeavesLess seat old later))) (sym (up_of g c)) (subst (λ o. OnUp o (λ f later. LeavesLess seat c.in-Up.seats later)) (sym (up_after g c)) less)

pub returns-in-Ok-clause-works : goal.returns-in-Ok-clause-works
returns-in-Ok-clause-works g c =
    let me = c.args.self.now in
    let n = c.args.t.node.0 in
    let is = c.requires.ready.is in
    let up = up_of g c in
    let k = c.in-Up.cache in
    let done = c.take_back_one-done in
    let txn = the_txn g c in
    let seats = c.in-Ok.ensures.seats txn.0 txn.1 in
    let changes = c.in-Ok.ensures.page in
    let page = the_page (page_at changes.0 k.pages) changes.1.cached in
    let keeps = changes.1.frames page.0 page.1 in
    let work = work_of g c in
    logs.works_with me n c.place.result k done.new.c c.in-Up.seats done.new.self is c.requires.node c.place.ensures.is up (record { pool = done.new.pool; owners = me.shared.owners; locks = me.shared.locks; reopening = me.shared.reopening }) (g.D.Disk.state c.args.disk.now) (g.D.Disk.state done.new.disk) (g.V.Disk.state c.args.vault.now)
    (store_changed me done.new.pool n c.place.result k done.new.c c.in-Up.seats done.new.self changes.0 k.log.tail page.0 is c.requires.node c.place.ensures.is up page.1 done.ensures.cache_node changes.1.pages keeps (done.ensures.shown me.shape work.shown) done.ensures.same c.in-Ok.ensures.log_tie c.in-Ok.ensures.tie
    (ap length seats.1 ∙ length-set c.in-Up.seats.seats c.args.t.seat _) c.law_of_pages.ensures)
    (frames_changed me done.new.pool n c.place.result k done.new.c c.in-Up.seats done.new.self changes.0 k.log.tail page.0 is c.requires.node c.place.ensures.is up page.1 keeps)
    done.ensures.keeps c.in-Ok.ensures.live c.requires.ready.served

pub returns-in-Ok-clause-writes : goal.returns-in-Ok-clause-writes
returns-in-Ok-clause-writes g c = λ told.
    let me = c.args.self.now in
    let n = c.args.t.node.0 in
    let is = c.requires.ready.is in
    let up = up_of g c in
    let done = c.take_back_one-done in
    let a = (g.D.Disk.state c.args.disk.now).block in
    let b = (g.D.Disk.state done.new.disk).block in
    record {
      quiet = logs.quiet_after me n c.place.result c.in-Up.cache done.new.c c.in-Up.seats done.new.self is c.requires.node c.place.ensures.is up a b (done.ensures.writers told) (c.requires.quiet told);
      besides = logs.besides_after me n c.place.result c.in-Up.cache done.new.c c.in-Up.seats done.new.self is c.requires.node c.place.ensures.is up a b (done.ensures.outcomes told);
    }

pub returns-in-Ok-clause-shows : goal.returns-in-Ok-clause-shows
returns-in-Ok-clause-shows g c = λ told m e w newest write cached shown_by.
    let me = c.args.self.now in
    let s = me.shape in
    let pool = me.shared.pool in
    let owners = me.shared.owners in
    let t = c.args.t in
    let n = t.node.0 in
    let i = c.place.result in
    let at = c.place.ensures.is in
    let is = c.requires.ready.is in
    let place = c.requires.node in
    let up = up_of g c in
    let k = c.in-Up.cache in
    let seats = c.in-Up.seats in
    let done = c.take_back_one-done in
    let d = done.new.c in
    let after = done.new.self in
    let new = done.new.pool in
    let a = (g.D.Disk.state c.args.disk.now).block in
    let b = (g.D.Disk.state done.new.disk).block in
    let x : PageNo = record { 0 = w.page } in
    let p = shown_by.0 in
    let was = shown_by.1.nodes in
    let work = work_of g c in
    let last = logs.low me n i k d seats after is place at up in
    let mine = subst (λ o. ShowsNode s pool n o a p m) up (was.node n place last) in
    let hit : IsTrue (is_cached x k) = subst (λ o. OnUp o (λ f seats. IsTrue (is_cached x f))) up cached in
    let has = back_cached n s pool k seats a p m t e w was.shape newest write was.means mine.1 work.shown hit in
    let txn = the_txn g c in
    let it = back n s pool new owners k d seats after a b p m t e w txn.0 x work was.shape refl c.requires.seat txn.1 newest write refl was.means mine.1 has in
    let image = c.in-Ok.ensures.image told (p.live n) txn.0 (p.pages w.page) it.0 txn.1 mine.1.records mine.1.told it.1 in
    let op = change_back txn.0 _ (p.pages w.page) it.1.undo.update it.0 it.1.is it.1.undo.of_page in
    let now = subst (λ o. IfSome o (λ op. HasPage new d.pages (p.pages w.page).page (applied op (p.pages w.page)) × Undoes it.1.undo.update op)) op.1 image.1 in
    let same = back_is m t e w newest write in
    let next = applied op.0 (p.pages x.0) in
    let q = with_page x.0 next p in
    let only = only_data s p x next in
    let pages : d.pages ≡ cache.with_page x (changed_by k.log.tail) k.pages = subst (λ y. d.pages ≡ cache.with_page y (changed_by k.log.tail) k.pages) has.number image.0.pages in
    let keeps = image.0.frames has.page (subst (λ y. page_at y k.pages ≡ Some has.page) (sym has.number) has.there) in (
      logged n it.0 q,
      record {
        nodes = logs.there me n i k d seats after is place at up (λ os. ShowsStoreOf s new owners os b (logged n it.0 q) (one (Back t) m))
            (shown_with s pool new owners owners me.nodes n d after a b p (logged n it.0 q) m (one (Back t) m) is place was
            (logs.logs_after me n i k d seats after is place at up a b (done.ensures.foreign told) (c.requires.quiet told))
            (frames_changed me new n i k d seats after x k.log.tail has.page is place at up has.there keeps)
            (changed_others s me.nodes n it.0 p q m (one (Back t) m) x only (page_alone me new n i k d seats after x k.log.tail has.page is place at up has.there)
            (λ j far. (ap (λ o. o.mode j) same, ap (λ o. o.start j) same, ap (λ o. o.pending j) same ∙ put_other n _ m.pending j far)))
            (means_taken_back n s pool new owners k d seats after a b p m t e w txn.0 x work was.shape refl c.requires.seat txn.1 newest write refl was.means mine.1 has op.0 op.1)
            (ap (λ o. o.shape) same ∙ was.shape) (ap (λ o. o.mode n) same ∙ mine.0)
            (up_taken_back n s pool new owners k d seats after a b p m t e w txn.0 x work was.shape refl c.requires.seat txn.1 newest write refl was.means mine.1 has op.0 image.0 now.0 done.ensures.same (c.in-Ok.ensures.seats txn.0 txn.1).1
            (c.in-Ok.ensures.records told (p.live n) txn.0 (p.pages w.page) it.0 txn.1 mine.1.records mine.1.told it.1) (c.in-Ok.ensures.told told (p.live n) txn.0 (p.pages w.page) it.0 txn.1 mine.1.records mine.1.told it.1))
            (changed_stored s pool owners me.nodes n k d seats after a b p q m x has.page k.log.tail it.0 is place up work.store work.log_tie only has.there pages (done.ensures.outcomes told) was)
            (λ y low. ap (λ o. o.hold y) same ∙ was.hold y low));
        locks = ap (λ o. o.locks) same ∙ shown_by.1.locks;
        reopening = ap (λ o. o.reopening) same ∙ shown_by.1.reopening;
      },
    )

pub returns-in-Ok-clause-led : goal.returns-in-Ok-clause-led
returns-in-Ok-clause-led g c = λ told m e w newest write cached open_still endured.
    let me = c.args.self.now in
    let s = me.shape in
    let pool = me.shared.pool in
    let owners = me.shared.owners in
    let t = c.args.t in
    let n = t.node.0 in
    let i = c.place.result in
    let at = c.place.ensures.is in
    let is = c.requires.ready.is in
    let place = c.requires.node in
    let up = up_of g c in
    let k = c.in-Up.cache in
    let seats = c.in-Up.seats in
    let done = c.take_back_one-done in
    let d = done.new.c in
    let after = done.new.self in
    let new = done.new.pool in
    let a = (g.D.Disk.state c.args.disk.now).block in
    let b = (g.D.Disk.state done.new.disk).block in
    let x : PageNo = record { 0 = w.page } in
    let p = endured.0 in
    let was = endured.1 in
    let whole = sym was.reopening ∙ open_still in
    let m1 = with_held was.held m in
    let work = work_of g c in
    let low = logs.low me n i k d seats after is place at up in
    let mine = subst (λ o. ShowsNode s pool n o a p m1) up (was.nodes.node n place low) in
    let hit : is_cached x k ≡ true = subst (λ o. OnUp o (λ f seats. IsTrue (is_cached x f))) up cached in
    let has = back_cached n s pool k seats a p m1 t e w was.nodes.shape newest write was.nodes.means mine.1 work.shown hit in
    let txn = the_txn g c in
    let it = back n s pool new owners k d seats after a b p m1 t e w txn.0 x work was.nodes.shape refl c.requires.seat txn.1 newest write refl was.nodes.means mine.1 has in
    let image = c.in-Ok.ensures.image told (p.live n) txn.0 (p.pages w.page) it.0 txn.1 mine.1.records mine.1.told it.1 in
    let op = change_back txn.0 _ (p.pages w.page) it.1.undo.update it.0 it.1.is it.1.undo.of_page in
    let now = subst (λ o. IfSome o (λ op. HasPage new d.pages (p.pages w.page).page (applied op (p.pages w.page)) × Undoes it.1.undo.update op)) op.1 image.1 in
    let slot = slot_taken_back n s pool new owners k d seats after a b p m1 t e w txn.0 x work was.nodes.shape refl c.requires.seat txn.1 newest write refl was.nodes.means mine.1 has op.0 op.1 in
    let next = applied op.0 (p.pages x.0) in
    let q = with_page x.0 next p in
    let only = only_data s p x next in
    let pages : d.pages ≡ cache.with_page x (changed_by k.log.tail) k.pages = subst (λ y. d.pages ≡ cache.with_page y (changed_by k.log.tail) k.pages) has.number image.0.pages in
    let keeps = image.0.frames has.page (subst (λ y. page_at y k.pages ≡ Some has.page) (sym has.number) has.there) in
    let m' = taken_back t (Some w) m in
    let h' = changed_page was.history n it.0 w.page op.0 in
    subst (Endures (record { shape = s; shared = record { pool = new; owners = owners; locks = me.shared.locks; reopening = me.shared.reopening }; nodes = slice_set me.nodes i (Up d after) }) b) (sym (back_is m t e w newest write)) (
      logged n it.0 q,
      logs.there me n i k d seats after is place at up (λ os. EnduresAs (record { shape = s; shared = record { pool = new; owners = owners; locks = me.shared.locks; reopening = me.shared.reopening }; nodes = os }) b (logged n it.0 q) m')
          (changed_endures me new n i k d seats after is place at up a b p (logged n it.0 q) m m' None was h' (put w.page true was.dirty) (done.ensures.outcomes told) (done.ensures.foreign told) (c.requires.quiet told) refl refl refl (λ y. refl) refl refl
          (changed_others s me.nodes n it.0 p q m1 (taken_back t (Some w) m1) x only (page_alone me new n i k d seats after x k.log.tail has.page is place at up has.there) (λ j far. (refl, refl, put_other n _ m.pending j far)))
          (λ j far. record { live = with_record-other n it.0 was.history.live j far; stable = refl; first = refl })
          (frames_changed me new n i k d seats after x k.log.tail has.page is place at up has.there keeps)
          None mine.0 done.ensures.same refl c.in-Ok.ensures.rises
          (latest_back me a p m t k seats e w txn.0 it.0 op.0 is place low up was whole c.requires.seat txn.1 newest write hit has.number it.1 op.1 slot after (c.in-Ok.ensures.seats txn.0 txn.1).1)
          (lockers_back me a p m t k seats e w txn.0 it.0 op.0 is place low up was whole c.requires.seat txn.1 newest write hit has.number it.1 op.1 slot) refl
          (subst (ShowsUp s new n d after b (logged n it.0 q)) (back_is m1 t e w newest write)
          (up_taken_back n s pool new owners k d seats after a b p m1 t e w txn.0 x work was.nodes.shape refl c.requires.seat txn.1 newest write refl was.nodes.means mine.1 has op.0 image.0 now.0 done.ensures.same (c.in-Ok.ensures.seats txn.0 txn.1).1
          (c.in-Ok.ensures.records told (p.live n) txn.0 (p.pages w.page) it.0 txn.1 mine.1.records mine.1.told it.1) (c.in-Ok.ensures.told told (p.live n) txn.0 (p.pages w.page) it.0 txn.1 mine.1.records mine.1.told it.1)))
          (clean_where_changed s pool owners me.nodes n k d seats after x has.page k.log.tail is place up has.there pages was.dirty m m' refl (λ still y within settled far. was.clean still y within settled))
          (survives_back me a p m t k seats e w txn.0 it.0 op.0 is place low up was whole c.requires.seat txn.1 newest write hit has.number it.1 op.1 slot)),
    )

pub returns-clause-led : goal.returns-clause-led
returns-clause-led g c = λ told m e w newest write cached open_still endured.
    let me = c.args.self.now in
    let s = me.shape in
    let pool = me.shared.pool in
    let owners = me.shared.owners in
    let t = c.args.t in
    let n = t.node.0 in
    let i = c.place.result in
    let at = c.place.ensures.is in
    let is = c.requires.ready.is in
    let place = c.requires.node in
    let k = c.in-Up.cache in
    let seats = c.in-Up.seats in
    let up = logs.up_at me n i c.index-self-place.result k seats is place at c.in-Up.is in
    let done = c.take_back_one-done in
    let d = done.new.c in
    let after = done.new.self in
    let new = done.new.pool in
    let a = (g.D.Disk.state c.args.disk.now).block in
    let b = (g.D.Disk.state done.new.disk).block in
    let b2 = (g.D.Disk.state c.give_up.new.disk).block in
    let x : PageNo = record { 0 = w.page } in
    let p = endured.0 in
    let was = endured.1 in
    let whole = sym was.reopening ∙ open_still in
    let m1 = with_held was.held m in
    let work = logs.work me n i k d seats after is place at up in
    let low = logs.low me n i k d seats after is place at up in
    let mine = subst (λ o. ShowsNode s pool n o a p m1) up (was.nodes.node n place low) in
    let tied = subst (λ o. TiesNode s n o a was.history) up (was.tied.node n place low) in
    let hit : is_cached x k ≡ true = subst (λ o. OnUp o (λ f seats. IsTrue (is_cached x f))) up cached in
    let has = back_cached n s pool k seats a p m1 t e w was.nodes.shape newest write was.nodes.means mine.1 work.shown hit in
    let txn = txn_of seats t.seat (subst (λ o. OnUp o (λ f those. IsTrue (is_busy those t.seat))) up c.requires.busy) in
    let it = back n s pool new owners k d seats after a b p m1 t e w txn.0 x work was.nodes.shape refl c.requires.seat txn.1 newest write refl was.nodes.means mine.1 has in
    let op = change_back txn.0 _ (p.pages w.page) it.1.undo.update it.0 it.1.is it.1.undo.of_page in
    let slot = slot_taken_back n s pool new owners k d seats after a b p m1 t e w txn.0 x work was.nodes.shape refl c.requires.seat txn.1 newest write refl was.nodes.means mine.1 has op.0 op.1 in
    let rec = it.0 in
    let next = applied op.0 (p.pages x.0) in
    let q = with_page x.0 next p in
    let only = only_data s p x next in
    let m' = taken_back t (Some w) m in
    let h' = changed_page was.history n rec w.page op.0 in
    let live : h'.live n ≡ p.live n ++ rec ∷ [] = with_record-same n rec was.history.live ∙ ap (λ (l : List LogRecord). l ++ rec ∷ []) (was.survives.survives.recoverable.live n) in
    let stop = subst (λ j. IsStopOf j c.in-Err.fault) work.number (c.in-Err.ensures.there told (p.live n) txn.0 (p.pages w.page) txn.1 mine.1.records mine.1.told it.1.undo) in
    let fell = of_stop n c.in-Err.fault _ stop c.in-Err.ensures.cut told (p.live n) txn.0 (p.pages w.page) rec txn.1 mine.1.records mine.1.told it.1 in
    let cut = subst (λ (l : List LogRecord). IsCutLog (region k.log) k.log.start k.log.stable b (map record_text l)) (sym live) fell in
    let legal = subst (All IsLegal) (sym live) (All-push IsLegal (p.live n) rec mine.1.records.legal (done.ensures.legal told (p.live n) txn.0 (p.pages w.page) rec txn.1 mine.1.records mine.1.told it.1)) in
    let eight' = length-set me.nodes (n - 1) (Up d after) ∙ is.shared.eight in
    let stay = others_stay me.nodes n (Up d after) is.shared.eight place in
    let halts : MayHalt n (record { shape = s; shared = record { pool = new; owners = owners; locks = me.shared.locks; reopening = me.shared.reopening }; nodes = slice_set me.nodes i (Up d after) }) b2 m' = (
      logged n rec q,
      logs.there me n i k d seats after is place at up (λ os. MayHaltAs n (record { shape = s; shared = record { pool = new; owners = owners; locks = me.shared.locks; reopening = me.shared.reopening }; nodes = os }) b2 (logged n rec q) m')
          (changed_halts me new n i k d seats after is place at up a b p (logged n rec q) m m' None was h' (put w.page true was.dirty) (done.ensures.outcomes told) (done.ensures.foreign told) (c.requires.quiet told) refl refl refl (λ y. refl) refl refl
          (changed_others s me.nodes n rec p q m1 (taken_back t (Some w) m1) x only (page_alone me new n i k d seats after x k.log.tail has.page is place at up has.there) (λ j far. (refl, refl, put_other n _ m.pending j far)))
          (λ j far. record { live = with_record-other n rec was.history.live j far; stable = refl; first = refl })
          (λ j j_is far r page below. ap (λ frames. frame_at frames (slice_index_or (pages_of (node_at me.nodes j)) r page).frame) c.in-Err.ensures.frames_kept)
          b2 mine.0 (c.give_up.ensures.outcomes told) (c.give_up.ensures.foreign told) legal cut (stable_cut n k b h' _ cut tied.stable) (of_stop n c.in-Err.fault _ stop c.in-Err.ensures.still told)
          (lockers_back me a p m t k seats e w txn.0 rec op.0 is place low up was whole c.requires.seat txn.1 newest write hit has.number it.1 op.1 slot) refl
          (clean_changed me n k seats is place up (with_node me.nodes n (Up d after)) eight' stay x was.dirty m' hit
          (clean_halting me n k seats is place up (with_node me.nodes n (Up d after)) eight' stay was.dirty m m' refl was.clean))
          (survives_back me a p m t k seats e w txn.0 rec op.0 is place low up was whole c.requires.seat txn.1 newest write hit has.number it.1 op.1 slot)),
    ) in
    let led = of_stop n c.in-Err.fault _ stop c.give_up.ensures.led told (one (Back t) m) (subst (MayHalt n (record { shape = s; shared = record { pool = new; owners = owners; locks = me.shared.locks; reopening = me.shared.reopening }; nodes = slice_set me.nodes i (Up d after) }) b2) (sym (back_is m t e w newest write)) halts) in
    subst (λ why. LedErr n why (Back t ∷ []) m (Endures c.give_up.new.self b2)) (sym c.give_up.ensures.says)
    (led_fault n (first_page s) c.in-Err.fault (Back t ∷ []) m (Endures c.give_up.new.self b2) stop
    (broke_here n (Back t ∷ []) 1 m (Endures c.give_up.new.self b2) (no_unlock (Back t ∷ []) refl) led))
