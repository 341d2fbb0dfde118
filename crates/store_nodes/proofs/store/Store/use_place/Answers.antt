use Rattle.std.specs.Prelude.{◌≡◌, ◌+◌, ◌-◌, ◌*◌, ◌≤◌, ◌<◌, ◌^◌, ◌++◌, ◌∷◌, [], true, All, List, None, Some, IfSome, is_some, refl, slice_index_or, slice_set}
use Rattle.std.specs.Prelude as list
use Rattle.std.proofs.Common.{arith, ap, subst, sym, ◌∙◌, length-set}
use Rattle.std.proofs.lemmas.List.{map-append}
use Rattle.std.proofs.lemmas.List.Elements.{All-push}
use Rattle.sd_base.specs.Faults.{IsStopOf}
use Rattle.sd_base.specs.Places.{page_of_place}
use Rattle.sd_base.specs.Shape.{first_page, page_count}
use Rattle.sd_base.proofs.PlaceLaws.{data_of_place}
use Rattle.sd_base.specs.declared.page_op.PageOp.TheVariants as ops
use Rattle.frame_pool.specs.Frames.{frame_at}
use Rattle.space_map.specs.Change.{applied_map}
use Rattle.space_map.specs.Image.{IsMapText, MapImage}
use Rattle.space_map.specs.PageImage.{map_page}
use Rattle.log_record.specs.declared.record.LogRecord.{LogRecord}
use Rattle.log_record.specs.declared.record.LogRecord.TheVariants.{MapUse}
use Rattle.log_record.specs.Legal.{IsLegal}
use Rattle.log_record.specs.Text.{record_text}
use Rattle.private_log.specs.Log.{region, space}
use Rattle.private_log.specs.Spread.{IsCutLog}
use Rattle.state_ids.proofs.PageLaws.{Shows-text}
use Rattle.node_cache.specs.Cache.{changed_by, with_page}
use Rattle.node_cache.proofs.ChangedPages.{out_of_shown}
use Rattle.txn_core.specs.Seats.{owed}
use Rattle.recovery_theory.specs.Steps as step
use Rattle.recovery_theory.proofs.Cuts.{with_record-other, with_record-same}
use Rattle.record_machine.specs.Led.{LedErr}
use Rattle.record_machine.specs.Machine.{put}
use Rattle.record_machine.specs.Meaning.{logged, with_map}
use Rattle.record_machine.specs.Parts.{Use, one}
use Rattle.store_nodes.specs.declared.node.Node.TheVariants.{Up}
use Rattle.store_nodes.specs.Endures.{Endures, EnduresButAs, MayHalt, MayHaltAs, with_held}
use Rattle.store_nodes.specs.Nodes.{IsAtWork, IsStoreButOf, OnUp, node_at, with_node}
use Rattle.store_nodes.specs.Nodes as nodes
use Rattle.store_nodes.specs.Pages.{HasMap, UsesPlace}
use Rattle.store_nodes.specs.Shows.{ShowsNode, ShowsStoreOf}
use Rattle.store_nodes.specs.Tied.{TiesNode}
use Rattle.store_nodes.proofs.Broken.{broke_here, led_fault, no_unlock, of_stop}
use Rattle.store_nodes.proofs.CachedImages.{map_shown}
use Rattle.store_nodes.proofs.Changed.{frames_changed, page_alone, pages_kept, store_changed}
use Rattle.store_nodes.proofs.ChangedEndures.{changed_endures, changed_halts, clean_where_used}
use Rattle.store_nodes.proofs.Eight.{at_same, others_stay}
use Rattle.store_nodes.proofs.EnduresUsed.{latest_used, lockers_used, survives_used}
use Rattle.store_nodes.proofs.Living.{living}
use Rattle.store_nodes.proofs.Logs as logs
use Rattle.store_nodes.proofs.MayHalts.{clean_changed, clean_halting, clean_held}
use Rattle.store_nodes.proofs.OtherRecords.{change_lies, legal_use, records_more, tied_more, told_none, use_is_none}
use Rattle.store_nodes.proofs.ShownChange.{changed_others, changed_stored}
use Rattle.store_nodes.proofs.ShownUse.{means_placed, only_used, up_used, uses_place}
use Rattle.store_nodes.proofs.ShownWith.{shown_with}
use Rattle.store_nodes.proofs.Ties.{stable_cut}
use Rattle.store_nodes.proofs.store.Store.use_place.Given as given
use Rattle.store_nodes.proofs.store.Store.use_place.Goals as goal

-- the node, the map page, and what is owed, in a call that was done
up_of : (g : given.Over) (c : goal.In-Ok g) → node_at c.args.self.now.nodes c.args.n.0 ≡ Up c.in-Up.cache c.in-Up._seats
up_of g c = logs.up_at c.args.self.now c.args.n.0 c.place.result c.index-self-place.result c.in-Up.cache c.in-Up._seats c.requires.ready.is c.requires.node c.place.ensures.is c.in-Up.is

work_of : (g : given.Over) (c : goal.In-Ok g) → IsAtWork c.args.self.now.shape c.args.self.now.shared.pool c.args.self.now.shared.owners c.args.n.0 c.in-Up.cache c.in-Up._seats
work_of g c = logs.work c.args.self.now c.args.n.0 c.place.result c.in-Up.cache c.in-Up.cache c.in-Up._seats c.in-Up._seats c.requires.ready.is c.requires.node c.place.ensures.is (up_of g c)

image_of : (g : given.Over) (c : goal.In-Ok g) → (image : MapImage) × HasMap c.args.self.now.shared.pool c.in-Up.cache.pages c.args.map image × (image.ident < 2 ^ 63)
image_of g c = subst (λ n. OnUp n (λ d seats. (image : MapImage) × HasMap c.args.self.now.shared.pool d.pages c.args.map image × (image.ident < 2 ^ 63))) (up_of g c) c.requires.image

-- what was read is its text
text_of : (g : given.Over) (c : goal.In-Ok g) → IsMapText (image_of g c).0 c.view.result.now
text_of g c =
    let has = (image_of g c).1 in
    Shows-text c.args.self.now.shared.pool has.page.frame (map_page (image_of g c).0) c.view.result.now has.shows (subst (λ o. IfSome o (λ page. frame_at c.args.self.now.shared.pool page.frame ≡ Some c.view.result.now)) has.there c.view.ensures)

room_of : (g : given.Over) (c : goal.In-Ok g) → owed c.in-Up._seats + 1 ≤ space c.in-Up.cache.log
room_of g c = subst (λ n. OnUp n (λ d seats. owed seats + 1 ≤ space d.log)) (up_of g c) c.requires.room

pages_of : (g : given.Over) (c : goal.In-Ok g) → c.change-done.new.self.pages ≡ with_page c.args.map (changed_by c.in-Up.cache.log.tail) c.in-Up.cache.pages
pages_of g c = c.in-Ok.ensures.pages c.args.map c.map_identifier-bsi.result (ops.MapUse c.args.place c.args.group) refl

-- the log's first record lies before its end
low_of : (g : given.Over) (c : goal.In-Ok g) → 6 * c.in-Up.cache.log.start ≤ c.in-Up.cache.log.tail
low_of g c =
    let has = (image_of g c).1 in
    let start = c.change-done.ensures.same.start in
    let low = change_lies c.change-done.new.self c.args.map c.in-Up.cache.log.tail c.in-Up.cache.pages has.page (pages_of g c) has.there c.in-Ok.ensures.log_tie in
    omega (arith, start, low)

pub view-requires-clause-out : goal.view-requires-clause-out
view-requires-clause-out g c =
    let me = c.args.self.now in
    let n = c.args.n.0 in
    let is = c.requires.ready.is in
    let up = logs.up_at me n c.place.result c.index-self-place.result c.in-Up.cache c.in-Up._seats is c.requires.node c.place.ensures.is c.in-Up.is in
    out_of_shown me.shape me.shared.pool c.in-Up.cache (logs.work me n c.place.result c.in-Up.cache c.in-Up.cache c.in-Up._seats c.in-Up._seats is c.requires.node c.place.ensures.is up).shown

pub change-done-requires-clause-out : goal.change-done-requires-clause-out
change-done-requires-clause-out g c =
    let me = c.args.self.now in
    let n = c.args.n.0 in
    let is = c.requires.ready.is in
    let up = logs.up_at me n c.place.result c.index-self-place.result c.in-Up.cache c.in-Up._seats is c.requires.node c.place.ensures.is c.in-Up.is in
    out_of_shown me.shape me.shared.pool c.in-Up.cache (logs.work me n c.place.result c.in-Up.cache c.in-Up.cache c.in-Up._seats c.in-Up._seats is c.requires.node c.place.ensures.is up).shown

pub change-done-requires-clause-free : goal.change-done-requires-clause-free
change-done-requires-clause-free g c = λ told.
    let me = c.args.self.now in
    let n = c.args.n.0 in
    let is = c.requires.ready.is in
    let up = logs.up_at me n c.place.result c.index-self-place.result c.in-Up.cache c.in-Up._seats is c.requires.node c.place.ensures.is c.in-Up.is in
    logs.region_free me n c.place.result c.in-Up.cache c.in-Up.cache c.in-Up._seats c.in-Up._seats is c.requires.node c.place.ensures.is up (g.D.Disk.state c.args.disk.now).block (c.requires.quiet told)

pub give_up-requires-clause-is : goal.give_up-requires-clause-is
give_up-requires-clause-is g c =
    let me = c.args.self.now in
    let n = c.args.n.0 in
    let is = c.requires.ready.is in
    let up = logs.up_at me n c.place.result c.index-self-place.result c.in-Up.cache c.in-Up._seats is c.requires.node c.place.ensures.is c.in-Up.is in
    subst (λ pool. IsStoreButOf n me.shape pool me.shared.owners (slice_set me.nodes c.place.result (Up c.change-done.new.self c.in-Up._seats))) (sym c.in-Err.ensures.frames_kept)
    (logs.but_after me n c.place.result c.in-Up.cache c.change-done.new.self c.in-Up._seats c.in-Up._seats is c.requires.node c.place.ensures.is up c.change-done.ensures.node c.in-Err.ensures.pages_kept c.law_of_pages.ensures)

pub give_up-requires-clause-quiet : goal.give_up-requires-clause-quiet
give_up-requires-clause-quiet g c = λ told.
    let me = c.args.self.now in
    let n = c.args.n.0 in
    let is = c.requires.ready.is in
    let up = logs.up_at me n c.place.result c.index-self-place.result c.in-Up.cache c.in-Up._seats is c.requires.node c.place.ensures.is c.in-Up.is in
    logs.quiet_but_after me n c.place.result c.in-Up.cache c.change-done.new.self c.in-Up._seats c.in-Up._seats is c.requires.node c.place.ensures.is up (g.D.Disk.state c.args.disk.now).block (g.D.Disk.state c.change-done.new.disk).block (c.change-done.ensures.writers told) (c.requires.quiet told)

pub returns-in-Ok-clause-works : goal.returns-in-Ok-clause-works
returns-in-Ok-clause-works g c =
    let me = c.args.self.now in
    let n = c.args.n.0 in
    let is = c.requires.ready.is in
    let up = up_of g c in
    let k = c.in-Up.cache in
    let seats = c.in-Up._seats in
    let done = c.change-done in
    let has = (image_of g c).1 in
    let work = work_of g c in
    let keeps = done.ensures.frames c.args.map c.map_identifier-bsi.result (ops.MapUse c.args.place c.args.group) has.page refl has.there in
    logs.works_with me n c.place.result k done.new.self seats seats is c.requires.node c.place.ensures.is up (record { pool = done.new.pool; owners = me.shared.owners; locks = me.shared.locks; reopening = me.shared.reopening }) (g.D.Disk.state c.args.disk.now) (g.D.Disk.state done.new.disk) (g.V.Disk.state c.args.vault.now)
    (store_changed me done.new.pool n c.place.result k done.new.self seats seats c.args.map k.log.tail has.page is c.requires.node c.place.ensures.is up has.there done.ensures.node (pages_of g c) keeps (done.ensures.shown me.shape work.shown) done.ensures.same c.in-Ok.ensures.log_tie
    (tied_more seats k done.new.self (low_of g c) done.ensures.node done.ensures.same c.in-Ok.ensures.tail (room_of g c) work.tie) refl c.law_of_pages.ensures)
    (frames_changed me done.new.pool n c.place.result k done.new.self seats seats c.args.map k.log.tail has.page is c.requires.node c.place.ensures.is up has.there keeps)
    done.ensures.keeps c.in-Ok.ensures.live c.requires.ready.served

pub returns-in-Ok-clause-writes : goal.returns-in-Ok-clause-writes
returns-in-Ok-clause-writes g c = λ told.
    let me = c.args.self.now in
    let n = c.args.n.0 in
    let is = c.requires.ready.is in
    let up = up_of g c in
    let a = (g.D.Disk.state c.args.disk.now).block in
    let b = (g.D.Disk.state c.change-done.new.disk).block in
    record {
      quiet = logs.quiet_after me n c.place.result c.in-Up.cache c.change-done.new.self c.in-Up._seats c.in-Up._seats is c.requires.node c.place.ensures.is up a b (c.change-done.ensures.writers told) (c.requires.quiet told);
      besides = logs.besides_after me n c.place.result c.in-Up.cache c.change-done.new.self c.in-Up._seats c.in-Up._seats is c.requires.node c.place.ensures.is up a b (c.change-done.ensures.outcomes told);
    }

pub returns-clause-works : goal.returns-clause-works
returns-clause-works g c =
    let me = c.args.self.now in
    let n = c.args.n.0 in
    let is = c.requires.ready.is in
    let up = logs.up_at me n c.place.result c.index-self-place.result c.in-Up.cache c.in-Up._seats is c.requires.node c.place.ensures.is c.in-Up.is in
    let done = c.change-done in
    logs.works_stopped me n c.place.result c.in-Up.cache done.new.self c.in-Up._seats c.in-Up._seats is c.requires.node c.place.ensures.is up (record { pool = done.new.pool; owners = me.shared.owners; locks = me.shared.locks; reopening = me.shared.reopening }) c.give_up.new.self
    (g.D.Disk.state c.args.disk.now) (g.D.Disk.state done.new.disk) (g.D.Disk.state c.give_up.new.disk) (g.V.Disk.state c.args.vault.now) (g.V.Disk.state c.give_up.new.vault) c.in-Err.ensures.frames_kept done.ensures.keeps c.give_up.ensures.works

pub returns-clause-writes : goal.returns-clause-writes
returns-clause-writes g c = λ told.
    let me = c.args.self.now in
    let n = c.args.n.0 in
    let is = c.requires.ready.is in
    let up = logs.up_at me n c.place.result c.index-self-place.result c.in-Up.cache c.in-Up._seats is c.requires.node c.place.ensures.is c.in-Up.is in
    let a = (g.D.Disk.state c.args.disk.now).block in
    let b = (g.D.Disk.state c.change-done.new.disk).block in
    record {
      quiet = c.give_up.ensures.quiet told;
      besides = λ k o page ring may. logs.besides_after me n c.place.result c.in-Up.cache c.change-done.new.self c.in-Up._seats c.in-Up._seats is c.requires.node c.place.ensures.is up a b (c.change-done.ensures.outcomes told) k o page ring (c.give_up.ensures.outcomes told k o may);
    }

pub returns-in-Ok-clause-kept : goal.returns-in-Ok-clause-kept
returns-in-Ok-clause-kept g c =
    let me = c.args.self.now in
    let n = c.args.n.0 in
    let is = c.requires.ready.is in
    let up = up_of g c in
    let k = c.in-Up.cache in
    let d = c.change-done.new.self in
    let seats = c.in-Up._seats in
    let new = c.change-done.new.pool in
    let old = image_of g c in
    let some = room_of g c in
    let now : node_at (slice_set me.nodes c.place.result (Up d seats)) n ≡ Up d seats = logs.there me n c.place.result k d seats seats is c.requires.node c.place.ensures.is up (λ os. node_at os n ≡ Up d seats) (at_same me.nodes n (Up d seats) is.shared.eight c.requires.node) in
    subst (λ o. OnUp o (λ a before. OnUp (node_at (slice_set me.nodes c.place.result (Up d seats)) n) (λ b later. UsesPlace me.shape.maps me.shared.pool new a b before later))) (sym up)
    (subst (λ o. OnUp o (λ b later. UsesPlace me.shape.maps me.shared.pool new k b seats later)) (sym now)
    (uses_place n me.shape me.shared.pool new me.shared.owners k d seats c.args.map old.0 (work_of g c) old.1
    (c.change-done.ensures.frames c.args.map c.map_identifier-bsi.result (ops.MapUse c.args.place c.args.group) old.1.page refl old.1.there) (pages_of g c) c.change-done.ensures.same c.requires.map c.in-Ok.ensures.tail (low_of g c) (omega (arith, some))))

pub returns-in-Ok-clause-pages : goal.returns-in-Ok-clause-pages
returns-in-Ok-clause-pages g c = λ told.
    let me = c.args.self.now in
    let done = c.change-done in
    let has = (image_of g c).1 in
    pages_kept me done.new.pool c.args.n.0 c.place.result c.in-Up.cache done.new.self c.in-Up._seats c.in-Up._seats c.args.map c.in-Up.cache.log.tail has.page c.requires.ready.is c.requires.node c.place.ensures.is (up_of g c) has.there done.ensures.node (pages_of g c)
    (record { pool = done.new.pool; owners = me.shared.owners; locks = me.shared.locks; reopening = me.shared.reopening }) (g.D.Disk.state c.args.disk.now).block (g.D.Disk.state done.new.disk).block (c.in-Ok.ensures.contents told)

pub returns-in-Ok-clause-shows : goal.returns-in-Ok-clause-shows
returns-in-Ok-clause-shows g c = λ told m key none free group map shown_by.
    let me = c.args.self.now in
    let s = me.shape in
    let n = c.args.n.0 in
    let is = c.requires.ready.is in
    let up = up_of g c in
    let k = c.in-Up.cache in
    let seats = c.in-Up._seats in
    let done = c.change-done in
    let d = done.new.self in
    let new = done.new.pool in
    let x = c.args.map in
    let bsi = c.map_identifier-bsi.result in
    let op = ops.MapUse c.args.place c.args.group in
    let a = (g.D.Disk.state c.args.disk.now).block in
    let b = (g.D.Disk.state done.new.disk).block in
    let p = shown_by.0 in
    let was = shown_by.1.nodes in
    let work = work_of g c in
    let last = logs.low me n c.place.result k d seats seats is c.requires.node c.place.ensures.is up in
    let mine = subst (λ o. ShowsNode s me.shared.pool n o a p m) up (was.node n c.requires.node last) in
    let near = c.requires.map in
    let old = image_of g c in
    let few = is.shared.shape.maps.1 in
    let low = low_of g c in
    let same : old.0 ≡ p.maps x.0 = map_shown s p me.shared.pool k.pages x old.0 (living s p m was.shape was.means.pages) near (omega (arith, near)) mine.1.cached old.1 in
    let ident : bsi < 2 ^ 63 = subst (λ i. i < 2 ^ 63) (sym (c.map_identifier-bsi.ensures old.0 (text_of g c))) old.2 in
    let rec = MapUse x bsi c.args.place c.args.group in
    let q = with_map x.0 (applied_map op (p.maps x.0)) p in
    let only = only_used s p x c.args.place c.args.group in
    let keeps = done.ensures.frames x bsi op old.1.page refl old.1.there in (
      logged n rec q,
      record {
        nodes = logs.there me n c.place.result k d seats seats is c.requires.node c.place.ensures.is up (λ os. ShowsStoreOf s new me.shared.owners os b (logged n rec q) (one (Use n x.0 c.args.place c.args.group) m))
            (shown_with s me.shared.pool new me.shared.owners me.shared.owners me.nodes n d seats a b p (logged n rec q) m (one (Use n x.0 c.args.place c.args.group) m) is c.requires.node was
            (logs.logs_after me n c.place.result k d seats seats is c.requires.node c.place.ensures.is up a b (done.ensures.foreign told) (c.requires.quiet told))
            (frames_changed me new n c.place.result k d seats seats x k.log.tail old.1.page is c.requires.node c.place.ensures.is up old.1.there keeps)
            (changed_others s me.nodes n rec p q m (one (Use n x.0 c.args.place c.args.group) m) x only (page_alone me new n c.place.result k d seats seats x k.log.tail old.1.page is c.requires.node c.place.ensures.is up old.1.there) (λ j far. (refl, refl, refl)))
            (means_placed n p m x c.args.place key c.args.group rec none free group map (subst (λ z. x.0 < z.maps) (sym was.shape) near) was.means)
            was.shape mine.0
            (up_used n s me.shared.pool new me.shared.owners k d seats x old.0 work old.1 keeps (pages_of g c) done.ensures.same a b p m bsi c.args.place c.args.group near same
            (c.in-Ok.ensures.image x bsi op old.1.page (map_page old.0) refl old.1.there old.1.shows refl)
            (records_more d.log b (p.live n) rec (legal_use x bsi c.args.place c.args.group (omega (arith, near, few)) ident c.requires.place c.requires.group) mine.1.records.legal (c.in-Ok.ensures.log told _ mine.1.records.on))
            (told_none seats k.log.start (p.live n) rec (use_is_none x bsi c.args.place c.args.group) (omega arith) mine.1.told) mine.1)
            (changed_stored s me.shared.pool me.shared.owners me.nodes n k d seats seats a b p q m x old.1.page k.log.tail rec is c.requires.node up work.store work.log_tie only old.1.there (pages_of g c) (done.ensures.outcomes told) was)
            was.hold);
        locks = shown_by.1.locks;
        reopening = shown_by.1.reopening;
      },
    )

pub returns-in-Ok-clause-led : goal.returns-in-Ok-clause-led
returns-in-Ok-clause-led g c = λ told m key none free group map holds open_still was.
    let me = c.args.self.now in
    let s = me.shape in
    let n = c.args.n.0 in
    let is = c.requires.ready.is in
    let up = up_of g c in
    let k = c.in-Up.cache in
    let seats = c.in-Up._seats in
    let done = c.change-done in
    let d = done.new.self in
    let new = done.new.pool in
    let x = c.args.map in
    let bsi = c.map_identifier-bsi.result in
    let op = ops.MapUse c.args.place c.args.group in
    let a = (g.D.Disk.state c.args.disk.now).block in
    let b = (g.D.Disk.state done.new.disk).block in
    let p = was.0 in
    let e = was.1 in
    let m1 = with_held e.held m in
    let m2 = one (Use n x.0 c.args.place c.args.group) m in
    let work = work_of g c in
    let last = logs.low me n c.place.result k d seats seats is c.requires.node c.place.ensures.is up in
    let mine = subst (λ o. ShowsNode s me.shared.pool n o a p m1) up (e.nodes.node n c.requires.node last) in
    let near = c.requires.map in
    let within : x.0 < page_count s = omega (arith, near) in
    let old = image_of g c in
    let few = is.shared.shape.maps.1 in
    let same : old.0 ≡ p.maps x.0 = map_shown s p me.shared.pool k.pages x old.0 (living s p m1 e.nodes.shape e.nodes.means.pages) near within mine.1.cached old.1 in
    let says = c.map_identifier-bsi.ensures old.0 (text_of g c) in
    let ident : bsi < 2 ^ 63 = subst (λ i. i < 2 ^ 63) (sym says) old.2 in
    let rec = MapUse x bsi c.args.place c.args.group in
    let q = with_map x.0 (applied_map op (p.maps x.0)) p in
    let only = only_used s p x c.args.place c.args.group in
    let keeps = done.ensures.frames x bsi op old.1.page refl old.1.there in
    let whole = sym e.reopening ∙ open_still in
    let room = room_of g c in
    let cached = ap is_some old.1.there in
    let its_ident : bsi ≡ (p.maps x.0).ident = says ∙ ap (λ (i : MapImage). i.ident) same in
    let fresh = page_of_place m.shape x.0 c.args.place in
    let used = survives_used me a p m n k seats is c.requires.node last up e whole x bsi c.args.place key c.args.group room near within cached its_ident none free group map holds in
    let h' = step.with_locks (step.used_page e.history n rec x.0 c.args.place c.args.group) used.0 in (
      logged n rec q,
      logs.there me n c.place.result k d seats seats is c.requires.node c.place.ensures.is up (λ os. EnduresButAs (Some fresh) (record { shape = s; shared = record { pool = new; owners = me.shared.owners; locks = me.shared.locks; reopening = me.shared.reopening }; nodes = os }) b (logged n rec q) m2)
          (changed_endures me new n c.place.result k d seats seats is c.requires.node c.place.ensures.is up a b p (logged n rec q) m m2 None e h' (put fresh true (put x.0 true e.dirty)) (done.ensures.outcomes told) (done.ensures.foreign told) (c.requires.quiet told) refl refl refl (λ y. refl) refl refl
          (changed_others s me.nodes n rec p q m1 (one (Use n x.0 c.args.place c.args.group) m1) x only (page_alone me new n c.place.result k d seats seats x k.log.tail old.1.page is c.requires.node c.place.ensures.is up old.1.there) (λ j far. (refl, refl, refl)))
          (λ j far. record { live = with_record-other n rec e.history.live j far; stable = refl; first = refl })
          (frames_changed me new n c.place.result k d seats seats x k.log.tail old.1.page is c.requires.node c.place.ensures.is up old.1.there keeps)
          (Some fresh) mine.0 done.ensures.same refl c.in-Ok.ensures.rises
          (latest_used me a p m n k seats is c.requires.node last up e whole x bsi c.args.place key c.args.group room near within cached its_ident none free group map holds)
          (lockers_used me a p m n k seats is c.requires.node last up e whole x bsi c.args.place key c.args.group room near within cached its_ident none free group map holds) refl
          (up_used n s me.shared.pool new me.shared.owners k d seats x old.0 work old.1 keeps (pages_of g c) done.ensures.same a b p m1 bsi c.args.place c.args.group near same
          (c.in-Ok.ensures.image x bsi op old.1.page (map_page old.0) refl old.1.there old.1.shows refl)
          (records_more d.log b (p.live n) rec (legal_use x bsi c.args.place c.args.group (omega (arith, near, few)) ident c.requires.place c.requires.group) mine.1.records.legal (c.in-Ok.ensures.log told _ mine.1.records.on))
          (told_none seats k.log.start (p.live n) rec (use_is_none x bsi c.args.place c.args.group) (omega arith) mine.1.told) mine.1)
          (clean_where_used s me.shared.pool me.shared.owners me.nodes n k d seats seats x old.1.page k.log.tail is c.requires.node up old.1.there (pages_of g c) e.dirty m m2 refl fresh e.clean)
          used.1),
    )

pub returns-clause-broke : goal.returns-clause-broke
returns-clause-broke g c = λ told m key none free group map holds open_still was.
    let me = c.args.self.now in
    let s = me.shape in
    let n = c.args.n.0 in
    let is = c.requires.ready.is in
    let up = logs.up_at me n c.place.result c.index-self-place.result c.in-Up.cache c.in-Up._seats is c.requires.node c.place.ensures.is c.in-Up.is in
    let k = c.in-Up.cache in
    let seats = c.in-Up._seats in
    let done = c.change-done in
    let d = done.new.self in
    let new = done.new.pool in
    let x = c.args.map in
    let bsi = c.map_identifier-bsi.result in
    let op = ops.MapUse c.args.place c.args.group in
    let a = (g.D.Disk.state c.args.disk.now).block in
    let b = (g.D.Disk.state done.new.disk).block in
    let b2 = (g.D.Disk.state c.give_up.new.disk).block in
    let p = was.0 in
    let e = was.1 in
    let m1 = with_held e.held m in
    let comes = Use n x.0 c.args.place c.args.group in
    let work = logs.work me n c.place.result k d seats seats is c.requires.node c.place.ensures.is up in
    let last = logs.low me n c.place.result k d seats seats is c.requires.node c.place.ensures.is up in
    let mine = subst (λ o. ShowsNode s me.shared.pool n o a p m1) up (e.nodes.node n c.requires.node last) in
    let tied = subst (λ o. TiesNode s n o a e.history) up (e.tied.node n c.requires.node last) in
    let near = c.requires.map in
    let within : x.0 < page_count s = omega (arith, near) in
    let old : (image : MapImage) × HasMap me.shared.pool k.pages x image × (image.ident < 2 ^ 63) = subst (λ o. OnUp o (λ e those. (image : MapImage) × HasMap me.shared.pool e.pages x image × (image.ident < 2 ^ 63))) up c.requires.image in
    let same : old.0 ≡ p.maps x.0 = map_shown s p me.shared.pool k.pages x old.0 (living s p m1 e.nodes.shape e.nodes.means.pages) near within mine.1.cached old.1 in
    let text : IsMapText old.0 c.view.result.now = Shows-text me.shared.pool old.1.page.frame (map_page old.0) c.view.result.now old.1.shows (subst (λ o. IfSome o (λ page. frame_at me.shared.pool page.frame ≡ Some c.view.result.now)) old.1.there c.view.ensures) in
    let says = c.map_identifier-bsi.ensures old.0 text in
    let rec = MapUse x bsi c.args.place c.args.group in
    let q = with_map x.0 (applied_map op (p.maps x.0)) p in
    let only = only_used s p x c.args.place c.args.group in
    let whole = sym e.reopening ∙ open_still in
    let room : owed seats + 1 ≤ space k.log = subst (λ o. OnUp o (λ e those. owed those + 1 ≤ space e.log)) up c.requires.room in
    let cached = ap is_some old.1.there in
    let its_ident : bsi ≡ (p.maps x.0).ident = says ∙ ap (λ (i : MapImage). i.ident) same in
    let fresh = page_of_place m.shape x.0 c.args.place in
    let used = survives_used me a p m n k seats is c.requires.node last up e whole x bsi c.args.place key c.args.group room near within cached its_ident none free group map holds in
    let h' = step.with_locks (step.used_page e.history n rec x.0 c.args.place c.args.group) used.0 in
    let live : h'.live n ≡ p.live n ++ rec ∷ [] = with_record-same n rec e.history.live ∙ ap (λ (l : List LogRecord). l ++ rec ∷ []) (e.survives.survives.recoverable.live n) in
    let stop = subst (λ j. IsStopOf j c.in-Err.fault) work.number c.in-Err.ensures.fault in
    let cut = subst (IsCutLog (region k.log) k.log.start k.log.stable b) (sym (ap (list.map record_text) live ∙ map-append record_text (p.live n) (rec ∷ []))) (c.in-Err.ensures.cut told (list.map record_text (p.live n)) mine.1.records.on) in
    let legal = subst (All IsLegal) (sym live) (All-push IsLegal (p.live n) rec mine.1.records.legal done.ensures.legal) in
    let eight' = length-set me.nodes (n - 1) (Up d seats) ∙ is.shared.eight in
    let stay = others_stay me.nodes n (Up d seats) is.shared.eight c.requires.node in
    let low_place = c.requires.place in
    let fresh_in : fresh < page_count s = subst (λ z. page_of_place z x.0 c.args.place < page_count s) (sym e.nodes.shape) (data_of_place s x.0 c.args.place near (omega (arith, low_place))).1 in
    let holder_is = sym (e.nodes.hold fresh fresh_in) ∙ holds in
    let halts : MayHalt n (record { shape = s; shared = record { pool = new; owners = me.shared.owners; locks = me.shared.locks; reopening = me.shared.reopening }; nodes = slice_set me.nodes c.place.result (Up d seats) }) b2 (one comes m) = (
      logged n rec q,
      logs.there me n c.place.result k d seats seats is c.requires.node c.place.ensures.is up (λ os. MayHaltAs n (record { shape = s; shared = record { pool = new; owners = me.shared.owners; locks = me.shared.locks; reopening = me.shared.reopening }; nodes = os }) b2 (logged n rec q) (one comes m))
          (changed_halts me new n c.place.result k d seats seats is c.requires.node c.place.ensures.is up a b p (logged n rec q) m (one comes m) None e h' (put fresh true (put x.0 true e.dirty)) (done.ensures.outcomes told) (done.ensures.foreign told) (c.requires.quiet told) refl refl refl (λ y. refl) refl refl
          (changed_others s me.nodes n rec p q m1 (one comes m1) x only (page_alone me new n c.place.result k d seats seats x k.log.tail old.1.page is c.requires.node c.place.ensures.is up old.1.there) (λ j far. (refl, refl, refl)))
          (λ j far. record { live = with_record-other n rec e.history.live j far; stable = refl; first = refl })
          (λ j j_is far i page below. ap (λ pool. frame_at pool (slice_index_or (nodes.pages_of (node_at me.nodes j)) i page).frame) c.in-Err.ensures.frames_kept)
          b2 mine.0 (c.give_up.ensures.outcomes told) (c.give_up.ensures.foreign told) legal cut (stable_cut n k b h' _ cut tied.stable) (c.in-Err.ensures.still told)
          (lockers_used me a p m n k seats is c.requires.node last up e whole x bsi c.args.place key c.args.group room near within cached its_ident none free group map holds) refl
          (clean_held me n k seats is c.requires.node up (with_node me.nodes n (Up d seats)) eight' stay fresh (put x.0 true e.dirty) (one comes m) holder_is
          (clean_changed me n k seats is c.requires.node up (with_node me.nodes n (Up d seats)) eight' stay x e.dirty (one comes m) cached
          (clean_halting me n k seats is c.requires.node up (with_node me.nodes n (Up d seats)) eight' stay e.dirty m (one comes m) refl e.clean)))
          used.1),
    ) in
    subst (λ why. LedErr n why (comes ∷ []) m (Endures c.give_up.new.self b2)) (sym c.give_up.ensures.says)
    (led_fault n (first_page s) c.in-Err.fault (comes ∷ []) m (Endures c.give_up.new.self b2) stop
    (broke_here n (comes ∷ []) 1 m (Endures c.give_up.new.self b2) (no_unlock (comes ∷ []) refl) (of_stop n c.in-Err.fault _ stop c.give_up.ensures.led told (one comes m) halts)))
