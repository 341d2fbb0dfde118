use Rattle.std.specs.Prelude.{◌≡◌, ◌<◌, ◌≤◌, ◌^◌, ◌+◌, ◌-◌, ◌++◌, ◌∷◌, [], true, All, List, None, Some, IsTrue, is_some, length, map, refl, slice_index_or, slice_set}
use Rattle.std.proofs.Common.{arith, ap, subst, sym, ◌∙◌, length-set}
use Rattle.std.proofs.lemmas.List.Elements.{All-push}
use Rattle.sd_base.specs.Faults.{IsStopOf}
use Rattle.sd_base.specs.Shape.{first_page}
use Rattle.frame_pool.specs.Frames.{frame_at}
use Rattle.log_record.specs.declared.record.LogRecord.{LogRecord}
use Rattle.log_record.specs.Legal.{IsLegal}
use Rattle.log_record.specs.Text.{record_text}
use Rattle.private_log.specs.Log.{region, space}
use Rattle.private_log.specs.Spread.{IsCutLog}
use Rattle.recovery_theory.specs.Steps as step
use Rattle.recovery_theory.proofs.Cuts.{with_record-other, with_record-same}
use Rattle.record_machine.specs.Led.{LedErr}
use Rattle.record_machine.specs.Machine.{put}
use Rattle.store_nodes.specs.Endures.{Endures, EnduresAs, MayHalt, MayHaltAs, with_held}
use Rattle.store_nodes.specs.Tied.{TiesNode}
use Rattle.page_image.specs.declared.page_view.PageView.{PageView}
use Rattle.page_image.specs.Change.{applied}
use Rattle.txn_core.specs.Seats.{OpenTxn, is_busy, owed, txn_in}
use Rattle.txn_core.specs.Updates.{FitsSlotOf, HasPage, op_of, update_of}
use Rattle.txn_core.proofs.SeatLaws.{txn_of}
use Rattle.node_cache.proofs.ChangedPages.{out_of_shown}
use Rattle.record_machine.specs.Meaning.{logged, with_page}
use Rattle.record_machine.specs.Parts.{Change as Changed, one}
use Rattle.record_machine.proofs.Put.{put_other}
use Rattle.store_nodes.specs.declared.node.Node.TheVariants.{Up}
use Rattle.store_nodes.specs.Nodes.{IsStoreButOf, OnUp, node_at, pages_of, with_node}
use Rattle.store_nodes.specs.Shows.{ShowsNode, ShowsStoreOf}
use Rattle.store_nodes.proofs.CachedImages.{data_shown, only_data}
use Rattle.store_nodes.proofs.Changed.{frames_changed, page_alone, pages_kept, store_changed}
use Rattle.store_nodes.proofs.Broken.{broke_here, led_fault, no_unlock, of_stop}
use Rattle.store_nodes.proofs.ChangedEndures.{changed_endures, changed_halts, clean_where_changed}
use Rattle.store_nodes.proofs.EnduresChanged.{latest_changed, lockers_changed, survives_changed}
use Rattle.store_nodes.proofs.Eight.{others_stay}
use Rattle.store_nodes.proofs.MayHalts.{clean_changed, clean_halting_but}
use Rattle.store_nodes.proofs.Ties.{stable_cut}
use Rattle.store_nodes.proofs.Living.{living}
use Rattle.store_nodes.proofs.Logs as logs
use Rattle.store_nodes.proofs.Owing.{owes_few}
use Rattle.store_nodes.proofs.ShownChange.{changed_others, changed_stored}
use Rattle.store_nodes.proofs.ShownLogged.{length_shown}
use Rattle.store_nodes.proofs.ShownUpdate.{means_updated, up_updated}
use Rattle.store_nodes.proofs.ShownWith.{shown_with}
use Rattle.store_nodes.proofs.store.Store.change.Given as given
use Rattle.store_nodes.proofs.store.Store.change.Goals as goal

-- the node, the page that is to be changed, and the transaction that changes it, in a call that was done
up_of : (g : given.Over) (c : goal.In-Ok g) → node_at c.args.self.now.nodes c.args.t.node.0 ≡ Up c.in-Up.cache c.in-Up.seats
up_of g c = logs.up_at c.args.self.now c.args.t.node.0 c.place.result c.index-self-place.result c.in-Up.cache c.in-Up.seats c.requires.ready.is c.requires.node c.place.ensures.is c.in-Up.is

page_of : (g : given.Over) (c : goal.In-Ok g) → (v : PageView) × HasPage c.args.self.now.shared.pool c.in-Up.cache.pages c.args.x v × (v.ident < 2 ^ 63) × FitsSlotOf v c.args.slot c.args.what.now
page_of g c = subst (λ n. OnUp n (λ d seats. (v : PageView) × HasPage c.args.self.now.shared.pool d.pages c.args.x v × (v.ident < 2 ^ 63) × FitsSlotOf v c.args.slot c.args.what.now)) (up_of g c) c.requires.page

the_txn : (g : given.Over) (c : goal.In-Ok g) → (u : OpenTxn) × (txn_in c.in-Up.seats c.args.t.seat ≡ Some u)
the_txn g c = txn_of c.in-Up.seats c.args.t.seat (subst (λ n. OnUp n (λ d seats. IsTrue (is_busy seats c.args.t.seat))) (up_of g c) c.requires.busy)

pub change-done-requires-clause-out : goal.change-done-requires-clause-out
change-done-requires-clause-out g c =
    let me = c.args.self.now in
    let n = c.args.t.node.0 in
    let is = c.requires.ready.is in
    let up = logs.up_at me n c.place.result c.index-self-place.result c.in-Up.cache c.in-Up.seats is c.requires.node c.place.ensures.is c.in-Up.is in
    out_of_shown me.shape me.shared.pool c.in-Up.cache (logs.work me n c.place.result c.in-Up.cache c.in-Up.cache c.in-Up.seats c.in-Up.seats is c.requires.node c.place.ensures.is up).shown

pub change-done-requires-clause-free : goal.change-done-requires-clause-free
change-done-requires-clause-free g c = λ told.
    let me = c.args.self.now in
    let n = c.args.t.node.0 in
    let is = c.requires.ready.is in
    let up = logs.up_at me n c.place.result c.index-self-place.result c.in-Up.cache c.in-Up.seats is c.requires.node c.place.ensures.is c.in-Up.is in
    logs.region_free me n c.place.result c.in-Up.cache c.in-Up.cache c.in-Up.seats c.in-Up.seats is c.requires.node c.place.ensures.is up (g.D.Disk.state c.args.disk.now).block (c.requires.quiet told)

pub give_up-requires-clause-is : goal.give_up-requires-clause-is
give_up-requires-clause-is g c =
    let me = c.args.self.now in
    let n = c.args.t.node.0 in
    let is = c.requires.ready.is in
    let up = logs.up_at me n c.place.result c.index-self-place.result c.in-Up.cache c.in-Up.seats is c.requires.node c.place.ensures.is c.in-Up.is in
    subst (λ pool. IsStoreButOf n me.shape pool me.shared.owners (slice_set me.nodes c.place.result (Up c.change-done.new.c c.change-done.new.self))) (sym c.in-Err.ensures.frames_kept)
    (logs.but_after me n c.place.result c.in-Up.cache c.change-done.new.c c.in-Up.seats c.change-done.new.self is c.requires.node c.place.ensures.is up c.change-done.ensures.cache_node c.in-Err.ensures.pages_kept c.law_of_pages.ensures)

pub give_up-requires-clause-quiet : goal.give_up-requires-clause-quiet
give_up-requires-clause-quiet g c = λ told.
    let me = c.args.self.now in
    let n = c.args.t.node.0 in
    let is = c.requires.ready.is in
    let up = logs.up_at me n c.place.result c.index-self-place.result c.in-Up.cache c.in-Up.seats is c.requires.node c.place.ensures.is c.in-Up.is in
    logs.quiet_but_after me n c.place.result c.in-Up.cache c.change-done.new.c c.in-Up.seats c.change-done.new.self is c.requires.node c.place.ensures.is up (g.D.Disk.state c.args.disk.now).block (g.D.Disk.state c.change-done.new.disk).block (c.change-done.ensures.writers told) (c.requires.quiet told)

pub returns-in-Ok-clause-works : goal.returns-in-Ok-clause-works
returns-in-Ok-clause-works g c =
    let me = c.args.self.now in
    let n = c.args.t.node.0 in
    let is = c.requires.ready.is in
    let up = up_of g c in
    let k = c.in-Up.cache in
    let done = c.change-done in
    let has = (page_of g c).1 in
    let txn = the_txn g c in
    let keeps = done.ensures.frames has.page has.there in
    let work = logs.work me n c.place.result k done.new.c c.in-Up.seats done.new.self is c.requires.node c.place.ensures.is up in
    logs.works_with me n c.place.result k done.new.c c.in-Up.seats done.new.self is c.requires.node c.place.ensures.is up (record { pool = done.new.pool; owners = me.shared.owners; locks = me.shared.locks; reopening = me.shared.reopening }) (g.D.Disk.state c.args.disk.now) (g.D.Disk.state done.new.disk) (g.V.Disk.state c.args.vault.now)
    (store_changed me done.new.pool n c.place.result k done.new.c c.in-Up.seats done.new.self c.args.x k.log.tail has.page is c.requires.node c.place.ensures.is up has.there done.ensures.cache_node c.in-Ok.ensures.pages keeps (done.ensures.shown me.shape work.shown) done.ensures.same c.in-Ok.ensures.log_tie c.in-Ok.ensures.tie
    (ap length (c.in-Ok.ensures.seats txn.0 txn.1) ∙ length-set c.in-Up.seats.seats c.args.t.seat _) c.law_of_pages.ensures)
    (frames_changed me done.new.pool n c.place.result k done.new.c c.in-Up.seats done.new.self c.args.x k.log.tail has.page is c.requires.node c.place.ensures.is up has.there keeps)
    done.ensures.keeps c.in-Ok.ensures.live c.requires.ready.served

pub returns-in-Ok-clause-writes : goal.returns-in-Ok-clause-writes
returns-in-Ok-clause-writes g c = λ told.
    let me = c.args.self.now in
    let n = c.args.t.node.0 in
    let is = c.requires.ready.is in
    let up = up_of g c in
    let a = (g.D.Disk.state c.args.disk.now).block in
    let b = (g.D.Disk.state c.change-done.new.disk).block in
    record {
      quiet = logs.quiet_after me n c.place.result c.in-Up.cache c.change-done.new.c c.in-Up.seats c.change-done.new.self is c.requires.node c.place.ensures.is up a b (c.change-done.ensures.writers told) (c.requires.quiet told);
      besides = logs.besides_after me n c.place.result c.in-Up.cache c.change-done.new.c c.in-Up.seats c.change-done.new.self is c.requires.node c.place.ensures.is up a b (c.change-done.ensures.outcomes told);
    }

pub returns-clause-works : goal.returns-clause-works
returns-clause-works g c =
    let me = c.args.self.now in
    let n = c.args.t.node.0 in
    let is = c.requires.ready.is in
    let up = logs.up_at me n c.place.result c.index-self-place.result c.in-Up.cache c.in-Up.seats is c.requires.node c.place.ensures.is c.in-Up.is in
    let done = c.change-done in
    logs.works_stopped me n c.place.result c.in-Up.cache done.new.c c.in-Up.seats done.new.self is c.requires.node c.place.ensures.is up (record { pool = done.new.pool; owners = me.shared.owners; locks = me.shared.locks; reopening = me.shared.reopening }) c.give_up.new.self
    (g.D.Disk.state c.args.disk.now) (g.D.Disk.state done.new.disk) (g.D.Disk.state c.give_up.new.disk) (g.V.Disk.state c.args.vault.now) (g.V.Disk.state c.give_up.new.vault) c.in-Err.ensures.frames_kept done.ensures.keeps c.give_up.ensures.works

pub returns-clause-writes : goal.returns-clause-writes
returns-clause-writes g c = λ told.
    let me = c.args.self.now in
    let n = c.args.t.node.0 in
    let is = c.requires.ready.is in
    let up = logs.up_at me n c.place.result c.index-self-place.result c.in-Up.cache c.in-Up.seats is c.requires.node c.place.ensures.is c.in-Up.is in
    let a = (g.D.Disk.state c.args.disk.now).block in
    let b = (g.D.Disk.state c.change-done.new.disk).block in
    record {
      quiet = c.give_up.ensures.quiet told;
      besides = λ k o page ring may. logs.besides_after me n c.place.result c.in-Up.cache c.change-done.new.c c.in-Up.seats c.change-done.new.self is c.requires.node c.place.ensures.is up a b (c.change-done.ensures.outcomes told) k o page ring (c.give_up.ensures.outcomes told k o may);
    }

pub returns-in-Ok-clause-pages : goal.returns-in-Ok-clause-pages
returns-in-Ok-clause-pages g c = λ told.
    let me = c.args.self.now in
    let done = c.change-done in
    let has = (page_of g c).1 in
    pages_kept me done.new.pool c.args.t.node.0 c.place.result c.in-Up.cache done.new.c c.in-Up.seats done.new.self c.args.x c.in-Up.cache.log.tail has.page c.requires.ready.is c.requires.node c.place.ensures.is (up_of g c) has.there done.ensures.cache_node c.in-Ok.ensures.pages
    (record { pool = done.new.pool; owners = me.shared.owners; locks = me.shared.locks; reopening = me.shared.reopening }) (g.D.Disk.state c.args.disk.now).block (g.D.Disk.state done.new.disk).block (c.in-Ok.ensures.contents told)

pub returns-in-Ok-clause-shows : goal.returns-in-Ok-clause-shows
returns-in-Ok-clause-shows g c = λ told m w here page slot lock value shown_by.
    let me = c.args.self.now in
    let s = me.shape in
    let n = c.args.t.node.0 in
    let is = c.requires.ready.is in
    let up = up_of g c in
    let k = c.in-Up.cache in
    let seats = c.in-Up.seats in
    let done = c.change-done in
    let d = done.new.c in
    let after = done.new.self in
    let new = done.new.pool in
    let x = c.args.x in
    let what = c.args.what.now in
    let a = (g.D.Disk.state c.args.disk.now).block in
    let b = (g.D.Disk.state done.new.disk).block in
    let p = shown_by.0 in
    let was = shown_by.1.nodes in
    let work = logs.work me n c.place.result k d seats after is c.requires.node c.place.ensures.is up in
    let low = logs.low me n c.place.result k d seats after is c.requires.node c.place.ensures.is up in
    let mine = subst (λ o. ShowsNode s me.shared.pool n o a p m) up (was.node n c.requires.node low) in
    let range = c.requires.place in
    let old = page_of g c in
    let txn = the_txn g c in
    let same : old.0 ≡ p.pages x.0 = data_shown s p me.shared.pool k.pages x old.0 (living s p m was.shape was.means.pages) range.0 range.1 mine.1.cached old.1 in
    let has : HasPage me.shared.pool k.pages x (p.pages x.0) = subst (HasPage me.shared.pool k.pages x) same old.1 in
    let rec = update_of txn.0 (p.pages x.0) c.args.slot what in
    let next = applied (op_of c.args.slot what) (p.pages x.0) in
    let q = with_page x.0 next p in
    let only = only_data s p x next in
    let keeps = done.ensures.frames has.page has.there in
    let count = has.shows.text.image.slots in
    let few = c.requires.slot in (
      logged n rec q,
      record {
        nodes = logs.there me n c.place.result k d seats after is c.requires.node c.place.ensures.is up (λ os. ShowsStoreOf s new me.shared.owners os b (logged n rec q) (one (Changed c.args.t w) m))
            (shown_with s me.shared.pool new me.shared.owners me.shared.owners me.nodes n d after a b p (logged n rec q) m (one (Changed c.args.t w) m) is c.requires.node was
            (logs.logs_after me n c.place.result k d seats after is c.requires.node c.place.ensures.is up a b (done.ensures.foreign told) (c.requires.quiet told))
            (frames_changed me new n c.place.result k d seats after x k.log.tail has.page is c.requires.node c.place.ensures.is up has.there keeps)
            (changed_others s me.nodes n rec p q m (one (Changed c.args.t w) m) x only (page_alone me new n c.place.result k d seats after x k.log.tail has.page is c.requires.node c.place.ensures.is up has.there) (λ j far. (refl, refl, put_other n _ m.pending j far)))
            (means_updated p m c.args.t w txn.0 x c.args.slot what here page slot lock value has.number (subst (λ v. v.ident < 2 ^ 63) same old.2) (omega (arith, few, count)) (subst (λ v. FitsSlotOf v c.args.slot what) same old.3) was.means (owes_few s me.shared.pool me.shared.owners me.nodes a p m is was))
            was.shape mine.0
            (up_updated n s me.shared.pool new me.shared.owners k d seats after a b p m c.args.t w txn.0 x c.args.slot what work range.0 refl c.requires.seat txn.1 was.means.logs has done.ensures.frames (c.in-Ok.ensures.image _ has) c.in-Ok.ensures.pages done.ensures.same (c.in-Ok.ensures.seats txn.0 txn.1)
            (c.in-Ok.ensures.records told _ txn.0 _ txn.1 has mine.1.records) (c.in-Ok.ensures.told _ txn.0 _ txn.1 has (length_shown n s me.shared.pool k seats a p m mine.1) mine.1.told) mine.1)
            (changed_stored s me.shared.pool me.shared.owners me.nodes n k d seats after a b p q m x has.page k.log.tail rec is c.requires.node up work.store work.log_tie only has.there c.in-Ok.ensures.pages (done.ensures.outcomes told) was)
            was.hold);
        locks = shown_by.1.locks;
        reopening = shown_by.1.reopening;
      },
    )

pub returns-in-Ok-clause-led : goal.returns-in-Ok-clause-led
returns-in-Ok-clause-led g c = λ told m w here page slot lock value open_still was.
    let me = c.args.self.now in
    let s = me.shape in
    let t = c.args.t in
    let n = t.node.0 in
    let is = c.requires.ready.is in
    let up = up_of g c in
    let k = c.in-Up.cache in
    let seats = c.in-Up.seats in
    let done = c.change-done in
    let d = done.new.c in
    let after = done.new.self in
    let new = done.new.pool in
    let x = c.args.x in
    let what = c.args.what.now in
    let a = (g.D.Disk.state c.args.disk.now).block in
    let b = (g.D.Disk.state done.new.disk).block in
    let p = was.0 in
    let e = was.1 in
    let m1 = with_held e.held m in
    let work = logs.work me n c.place.result k d seats after is c.requires.node c.place.ensures.is up in
    let low = logs.low me n c.place.result k d seats after is c.requires.node c.place.ensures.is up in
    let mine = subst (λ o. ShowsNode s me.shared.pool n o a p m1) up (e.nodes.node n c.requires.node low) in
    let range = c.requires.place in
    let old = page_of g c in
    let txn = the_txn g c in
    let room : owed seats + 2 ≤ space k.log = subst (λ o. OnUp o (λ e those. owed those + 2 ≤ space e.log)) up c.requires.room in
    let same : old.0 ≡ p.pages x.0 = data_shown s p me.shared.pool k.pages x old.0 (living s p m1 e.nodes.shape e.nodes.means.pages) range.0 range.1 mine.1.cached old.1 in
    let has : HasPage me.shared.pool k.pages x (p.pages x.0) = subst (HasPage me.shared.pool k.pages x) same old.1 in
    let rec = update_of txn.0 (p.pages x.0) c.args.slot what in
    let op = op_of c.args.slot what in
    let next = applied op (p.pages x.0) in
    let q = with_page x.0 next p in
    let only = only_data s p x next in
    let keeps = done.ensures.frames has.page has.there in
    let h' = step.changed_page e.history n rec x.0 op in (
      logged n rec q,
      logs.there me n c.place.result k d seats after is c.requires.node c.place.ensures.is up (λ os. EnduresAs (record { shape = s; shared = record { pool = new; owners = me.shared.owners; locks = me.shared.locks; reopening = me.shared.reopening }; nodes = os }) b (logged n rec q) (one (Changed t w) m))
          (changed_endures me new n c.place.result k d seats after is c.requires.node c.place.ensures.is up a b p (logged n rec q) m (one (Changed t w) m) (Some x.0) e h' (put x.0 true e.dirty) (done.ensures.outcomes told) (done.ensures.foreign told) (c.requires.quiet told) refl refl refl (λ y. refl) refl refl
          (changed_others s me.nodes n rec p q m1 (one (Changed t w) m1) x only (page_alone me new n c.place.result k d seats after x k.log.tail has.page is c.requires.node c.place.ensures.is up has.there) (λ j far. (refl, refl, put_other n _ m.pending j far)))
          (λ j far. record { live = with_record-other n rec e.history.live j far; stable = refl; first = refl })
          (frames_changed me new n c.place.result k d seats after x k.log.tail has.page is c.requires.node c.place.ensures.is up has.there keeps)
          None mine.0 done.ensures.same refl c.in-Ok.ensures.rises
          (latest_changed me a p m t k seats is c.requires.node low up (Some x.0) e w txn.0 x c.args.slot what c.requires.seat txn.1 after (c.in-Ok.ensures.seats txn.0 txn.1))
          (lockers_changed me a p m t k seats is c.requires.node low up (Some x.0) e w txn.0 x c.args.slot what c.requires.seat txn.1) refl
          (up_updated n s me.shared.pool new me.shared.owners k d seats after a b p m1 t w txn.0 x c.args.slot what work range.0 refl c.requires.seat txn.1 e.nodes.means.logs has done.ensures.frames (c.in-Ok.ensures.image _ has) c.in-Ok.ensures.pages done.ensures.same (c.in-Ok.ensures.seats txn.0 txn.1)
          (c.in-Ok.ensures.records told _ txn.0 _ txn.1 has mine.1.records) (c.in-Ok.ensures.told _ txn.0 _ txn.1 has (length_shown n s me.shared.pool k seats a p m1 mine.1) mine.1.told) mine.1)
          (clean_where_changed s me.shared.pool me.shared.owners me.nodes n k d seats after x has.page k.log.tail is c.requires.node up has.there c.in-Ok.ensures.pages e.dirty m (one (Changed t w) m) refl e.clean)
          (survives_changed me a p m t k seats is c.requires.node low up (Some x.0) e w txn.0 x c.args.slot what c.requires.seat txn.1 (sym e.reopening ∙ open_still) room range.1 has (subst (λ v. v.ident < 2 ^ 63) same old.2) c.requires.slot (subst (λ v. FitsSlotOf v c.args.slot what) same old.3) here page slot lock value)),
    )

pub returns-clause-led : goal.returns-clause-led
returns-clause-led g c = λ told m w here page slot lock value open_still was.
    let me = c.args.self.now in
    let s = me.shape in
    let t = c.args.t in
    let n = t.node.0 in
    let is = c.requires.ready.is in
    let up = logs.up_at me n c.place.result c.index-self-place.result c.in-Up.cache c.in-Up.seats is c.requires.node c.place.ensures.is c.in-Up.is in
    let k = c.in-Up.cache in
    let seats = c.in-Up.seats in
    let done = c.change-done in
    let d = done.new.c in
    let after = done.new.self in
    let new = done.new.pool in
    let x = c.args.x in
    let what = c.args.what.now in
    let a = (g.D.Disk.state c.args.disk.now).block in
    let b = (g.D.Disk.state done.new.disk).block in
    let b2 = (g.D.Disk.state c.give_up.new.disk).block in
    let p = was.0 in
    let e = was.1 in
    let m1 = with_held e.held m in
    let work = logs.work me n c.place.result k d seats after is c.requires.node c.place.ensures.is up in
    let low = logs.low me n c.place.result k d seats after is c.requires.node c.place.ensures.is up in
    let mine = subst (λ o. ShowsNode s me.shared.pool n o a p m1) up (e.nodes.node n c.requires.node low) in
    let tied = subst (λ o. TiesNode s n o a e.history) up (e.tied.node n c.requires.node low) in
    let range = c.requires.place in
    let old : (v : PageView) × HasPage me.shared.pool k.pages x v × (v.ident < 2 ^ 63) × FitsSlotOf v c.args.slot what = subst (λ o. OnUp o (λ e seats. (v : PageView) × HasPage me.shared.pool e.pages x v × (v.ident < 2 ^ 63) × FitsSlotOf v c.args.slot what)) up c.requires.page in
    let txn = txn_of seats t.seat (subst (λ o. OnUp o (λ e those. IsTrue (is_busy those t.seat))) up c.requires.busy) in
    let room : owed seats + 2 ≤ space k.log = subst (λ o. OnUp o (λ e those. owed those + 2 ≤ space e.log)) up c.requires.room in
    let same : old.0 ≡ p.pages x.0 = data_shown s p me.shared.pool k.pages x old.0 (living s p m1 e.nodes.shape e.nodes.means.pages) range.0 range.1 mine.1.cached old.1 in
    let has : HasPage me.shared.pool k.pages x (p.pages x.0) = subst (HasPage me.shared.pool k.pages x) same old.1 in
    let rec = update_of txn.0 (p.pages x.0) c.args.slot what in
    let op = op_of c.args.slot what in
    let next = applied op (p.pages x.0) in
    let q = with_page x.0 next p in
    let only = only_data s p x next in
    let h' = step.changed_page e.history n rec x.0 op in
    let live : h'.live n ≡ p.live n ++ rec ∷ [] = with_record-same n rec e.history.live ∙ ap (λ (l : List LogRecord). l ++ rec ∷ []) (e.survives.survives.recoverable.live n) in
    let stop = subst (λ j. IsStopOf j c.in-Err.fault) work.number c.in-Err.ensures.fault in
    let cut = subst (λ (l : List LogRecord). IsCutLog (region k.log) k.log.start k.log.stable b (map record_text l)) (sym live) (c.in-Err.ensures.cut told (p.live n) txn.0 (p.pages x.0) txn.1 has mine.1.records) in
    let legal = subst (All IsLegal) (sym live) (All-push IsLegal (p.live n) rec mine.1.records.legal (done.ensures.legal txn.0 (p.pages x.0) txn.1 has)) in
    let eight' = length-set me.nodes (n - 1) (Up d after) ∙ is.shared.eight in
    let stay = others_stay me.nodes n (Up d after) is.shared.eight c.requires.node in
    let cached = ap is_some has.there in
    let halts : MayHalt n (record { shape = s; shared = record { pool = new; owners = me.shared.owners; locks = me.shared.locks; reopening = me.shared.reopening }; nodes = slice_set me.nodes c.place.result (Up d after) }) b2 (one (Changed t w) m) = (
      logged n rec q,
      logs.there me n c.place.result k d seats after is c.requires.node c.place.ensures.is up (λ os. MayHaltAs n (record { shape = s; shared = record { pool = new; owners = me.shared.owners; locks = me.shared.locks; reopening = me.shared.reopening }; nodes = os }) b2 (logged n rec q) (one (Changed t w) m))
          (changed_halts me new n c.place.result k d seats after is c.requires.node c.place.ensures.is up a b p (logged n rec q) m (one (Changed t w) m) (Some x.0) e h' (put x.0 true e.dirty) (done.ensures.outcomes told) (done.ensures.foreign told) (c.requires.quiet told) refl refl refl (λ y. refl) refl refl
          (changed_others s me.nodes n rec p q m1 (one (Changed t w) m1) x only (page_alone me new n c.place.result k d seats after x k.log.tail has.page is c.requires.node c.place.ensures.is up has.there) (λ j far. (refl, refl, put_other n _ m.pending j far)))
          (λ j far. record { live = with_record-other n rec e.history.live j far; stable = refl; first = refl })
          (λ j j_is far i page below. ap (λ pool. frame_at pool (slice_index_or (pages_of (node_at me.nodes j)) i page).frame) c.in-Err.ensures.frames_kept)
          b2 mine.0 (c.give_up.ensures.outcomes told) (c.give_up.ensures.foreign told) legal cut (stable_cut n k b h' _ cut tied.stable) (c.in-Err.ensures.still told)
          (lockers_changed me a p m t k seats is c.requires.node low up (Some x.0) e w txn.0 x c.args.slot what c.requires.seat txn.1) refl
          (clean_changed me n k seats is c.requires.node up (with_node me.nodes n (Up d after)) eight' stay x e.dirty (one (Changed t w) m) cached
          (clean_halting_but me n k seats is c.requires.node up (with_node me.nodes n (Up d after)) eight' stay x e.dirty m (one (Changed t w) m) cached refl e.clean))
          (survives_changed me a p m t k seats is c.requires.node low up (Some x.0) e w txn.0 x c.args.slot what c.requires.seat txn.1 (sym e.reopening ∙ open_still) room range.1 has (subst (λ v. v.ident < 2 ^ 63) same old.2) c.requires.slot (subst (λ v. FitsSlotOf v c.args.slot what) same old.3) here page slot lock value)),
    ) in
    subst (λ why. LedErr n why (Changed t w ∷ []) m (Endures c.give_up.new.self b2)) (sym c.give_up.ensures.says)
    (led_fault n (first_page s) c.in-Err.fault (Changed t w ∷ []) m (Endures c.give_up.new.self b2) stop
    (broke_here n (Changed t w ∷ []) 1 m (Endures c.give_up.new.self b2) (no_unlock (Changed t w ∷ []) refl) (of_stop n c.in-Err.fault _ stop c.give_up.ensures.led told (one (Changed t w) m) halts)))
