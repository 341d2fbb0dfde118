use Rattle.std.specs.Prelude.{◌≡◌, ◌<◌, ◌≤◌, [], true, None, refl, length, map, slice_set}
use Rattle.std.specs.List.{cons_option}
use Rattle.std.proofs.Common.{arith, inr, ap, subst, subst₂, sym, ◌∙◌, length-set}
use Rattle.sd_base.specs.Disk.{IsFreeFor}
use Rattle.record_machine.specs.Led.{LedErr}
use Rattle.sd_base.specs.Faults.{IsStopOf}
use Rattle.sd_base.specs.declared.names.PageNo.{PageNo}
use Rattle.sd_base.specs.Shape.{first_page, page_count}
use Rattle.log_record.specs.Text.{record_text}
use Rattle.state_ids.specs.Held.{Shows}
use Rattle.store_nodes.specs.Endures.{Endures, EnduresAs, MayHalt, MayHaltAs, with_held}
use Rattle.store_nodes.proofs.Broken.{broke_here, led_fault, no_unlock, of_stop}
use Rattle.store_pages.proofs.GivenEndures.{found_cached, given_endures}
use Rattle.store_pages.proofs.PagedEndures.{paged_halts}
use Rattle.page_owner.specs.declared.owners.Own.TheVariants.{Nobody}
use Rattle.page_owner.specs.Owners.{owner_of}
use Rattle.state_ids.specs.Blocks.{page_place}
use Rattle.node_cache.specs.Cache.{page_at}
use Rattle.node_cache.proofs.ChangedPages.{out_of_shown}
use Rattle.node_cache.proofs.RoomLaws.{same_content}
use Rattle.record_machine.specs.Parts.{Drop, one}
use Rattle.record_machine.proofs.RestSteps.{means_dropped}
use Rattle.store_nodes.specs.declared.node.Node.TheVariants.{Down, Up}
use Rattle.store_nodes.specs.Nodes.{AreApart, IsAtWork, IsStoreButOf, IsStoreOf, KeepsFramesBut, OnUp, node_at, pages_of, with_node}
use Rattle.store_nodes.specs.Pages.{GivesUp}
use Rattle.store_nodes.specs.Shows.{ShowsNode, ShowsStoreOf, holder, image_in}
use Rattle.store_nodes.proofs.Eight.{at_same}
use Rattle.store_nodes.proofs.Holders.{holder_set, put_at}
use Rattle.store_nodes.proofs.Living.{living}
use Rattle.store_nodes.proofs.Logs as logs
use Rattle.store_nodes.proofs.Others.{KeepsHeldBy}
use Rattle.store_pages.proofs.PageCalls as calls
use Rattle.store_pages.proofs.Shares.{apart_given, frames_given, owner_given, store_worked}
use Rattle.store_pages.proofs.ShownGiven.{stored_given, up_given}
use Rattle.store_nodes.proofs.ShownWith.{shown_with}
use Rattle.store_nodes.proofs.Works.{page_still, up_most}
use Rattle.store_pages.proofs.surrendering.surrender.Given as given
use Rattle.store_pages.proofs.surrendering.surrender.Goals as goal

-- the node, in a call that was done
up_of : (g : given.Over) (c : goal.In-Ok g) → node_at c.args.store.now.nodes c.args.h.0 ≡ Up c.in-Up.cache c.in-Up._seats
up_of g c = logs.up_at c.args.store.now c.args.h.0 c.place.result c.index-store-place.result c.in-Up.cache c.in-Up._seats c.requires.ready.is c.requires.node c.place.ensures.is c.in-Up.is

work_of : (g : given.Over) (c : goal.In-Ok g) → IsAtWork c.args.store.now.shape c.args.store.now.shared.pool c.args.store.now.shared.owners c.args.h.0 c.in-Up.cache c.in-Up._seats
work_of g c = logs.work c.args.store.now c.args.h.0 c.place.result c.in-Up.cache c.in-Up.cache c.in-Up._seats c.in-Up._seats c.requires.ready.is c.requires.node c.place.ensures.is (up_of g c)

-- the frames of the others stay
frames_of : (g : given.Over) (c : goal.In-Ok g) → KeepsFramesBut c.args.h.0 c.args.store.now.nodes c.args.store.now.shared.pool c.surrender-done.new.pool
frames_of g c =
    let me = c.args.store.now in
    let at = up_of g c in
    subst (λ p. KeepsFramesBut c.args.h.0 me.nodes me.shared.pool p) (sym c.in-Ok.ensures.pool)
    (λ m other far. frames_given c.args.x c.in-Up.cache.pages (pages_of (node_at me.nodes m)) (subst (λ ps. AreApart ps (pages_of (node_at me.nodes m))) (ap pages_of at) (c.requires.ready.is.shared.apart c.args.h.0 m c.requires.node other (λ e. far (sym e)))) me.shared.pool)

-- ---- before it

pub surrender-done-requires-clause-out : goal.surrender-done-requires-clause-out
surrender-done-requires-clause-out g c =
    let me = c.args.store.now in
    let up = logs.up_at me c.args.h.0 c.place.result c.index-store-place.result c.in-Up.cache c.in-Up._seats c.requires.ready.is c.requires.node c.place.ensures.is c.in-Up.is in
    out_of_shown me.shape me.shared.pool c.in-Up.cache (logs.work me c.args.h.0 c.place.result c.in-Up.cache c.in-Up.cache c.in-Up._seats c.in-Up._seats c.requires.ready.is c.requires.node c.place.ensures.is up).shown

pub surrender-done-requires-clause-page_reach : goal.surrender-done-requires-clause-page_reach
surrender-done-requires-clause-page_reach g c =
    let me = c.args.store.now in
    let up = logs.up_at me c.args.h.0 c.place.result c.index-store-place.result c.in-Up.cache c.in-Up._seats c.requires.ready.is c.requires.node c.place.ensures.is c.in-Up.is in
    let work = logs.work me c.args.h.0 c.place.result c.in-Up.cache c.in-Up.cache c.in-Up._seats c.in-Up._seats c.requires.ready.is c.requires.node c.place.ensures.is up in
    calls.all_found (λ p. (g.D.Disk.state c.args.disk.now).reach (page_place me.shape p.ticket.page) ≡ true) c.args.x c.in-Up.cache.pages (λ k d low. let within = work.store.pages k d low in c.requires.ready.served.whole _ (omega (arith, within)))

pub surrender-done-requires-clause-log_free : goal.surrender-done-requires-clause-log_free
surrender-done-requires-clause-log_free g c = λ told.
    let me = c.args.store.now in
    let up = logs.up_at me c.args.h.0 c.place.result c.index-store-place.result c.in-Up.cache c.in-Up._seats c.requires.ready.is c.requires.node c.place.ensures.is c.in-Up.is in
    logs.region_free me c.args.h.0 c.place.result c.in-Up.cache c.in-Up.cache c.in-Up._seats c.in-Up._seats c.requires.ready.is c.requires.node c.place.ensures.is up (g.D.Disk.state c.args.disk.now).block (c.requires.quiet told)

pub surrender-done-requires-clause-page_free : goal.surrender-done-requires-clause-page_free
surrender-done-requires-clause-page_free g c = λ told.
    let me = c.args.store.now in
    let up = logs.up_at me c.args.h.0 c.place.result c.index-store-place.result c.in-Up.cache c.in-Up._seats c.requires.ready.is c.requires.node c.place.ensures.is c.in-Up.is in
    let work = logs.work me c.args.h.0 c.place.result c.in-Up.cache c.in-Up.cache c.in-Up._seats c.in-Up._seats c.requires.ready.is c.requires.node c.place.ensures.is up in
    calls.all_found (λ p. IsFreeFor c.in-Up.cache.node.0 ((g.D.Disk.state c.args.disk.now).block (page_place me.shape p.ticket.page))) c.args.x c.in-Up.cache.pages (λ k d low. inr (page_still me.shape me.nodes (g.D.Disk.state c.args.disk.now).block _ work.store.valid (up_most me.shape me.shared.pool me.shared.owners me.nodes c.requires.ready.is) (c.requires.quiet told)))

-- ---- where it was done

pub returns-in-Ok-clause-works : goal.returns-in-Ok-clause-works
returns-in-Ok-clause-works g c =
    let me = c.args.store.now in
    let n = c.args.h.0 in
    let is = c.requires.ready.is in
    let up = up_of g c in
    let work = work_of g c in
    let k = c.in-Up.cache in
    let d = c.surrender-done.new.self in
    let done = c.surrender-done in
    let store = store_worked me.shape me.shared.pool done.new.pool me.shared.owners done.new.owners me.nodes n k d c.in-Up._seats c.in-Up._seats c.requires.node up is
    (calls.work_after me n c.place.result k d c.in-Up._seats is c.requires.node c.place.ensures.is up done.new.pool done.new.owners done.ensures.node c.law_of_pages.ensures done.ensures.store (done.ensures.shown work.shown) done.ensures.owned done.ensures.log_tie done.ensures.same done.ensures.tail)
    done.ensures.counted (ap length c.in-Ok.ensures.owners ∙ length-set me.shared.owners c.args.x.0 Nobody) (frames_of g c)
    (λ m far. subst (KeepsHeldBy m me.shared.owners) (sym c.in-Ok.ensures.owners) (owner_given me.shared.owners c.args.x c.args.h m far c.requires.held))
    (λ m other far. subst (λ ps. AreApart ps (pages_of (node_at me.nodes m))) (sym c.in-Ok.ensures.pages) (apart_given c.args.x k.pages (pages_of (node_at me.nodes m)) (subst (λ ps. AreApart ps (pages_of (node_at me.nodes m))) (ap pages_of up) (is.shared.apart n m c.requires.node other (λ e. far (sym e)))))) in
    logs.works_with me n c.place.result k d c.in-Up._seats c.in-Up._seats is c.requires.node c.place.ensures.is up (record { pool = done.new.pool; owners = done.new.owners; locks = me.shared.locks; reopening = me.shared.reopening }) (g.D.Disk.state c.args.disk.now) (g.D.Disk.state done.new.disk) (g.V.Disk.state c.args.vault.now)
    (subst (λ i. IsStoreOf me.shape done.new.pool done.new.owners (slice_set me.nodes i (Up d c.in-Up._seats))) (sym c.place.ensures.is) store)
    (frames_of g c) done.ensures.keeps c.in-Ok.ensures.live c.requires.ready.served

pub returns-in-Ok-clause-writes : goal.returns-in-Ok-clause-writes
returns-in-Ok-clause-writes g c = λ told.
    let me = c.args.store.now in
    let n = c.args.h.0 in
    let is = c.requires.ready.is in
    let up = up_of g c in
    let work = work_of g c in
    let done = c.surrender-done in
    let a = (g.D.Disk.state c.args.disk.now).block in
    let b = (g.D.Disk.state done.new.disk).block in
    record {
      quiet = calls.quiet_paged me n c.place.result c.in-Up.cache done.new.self c.in-Up._seats is c.requires.node c.place.ensures.is up a b (done.ensures.writers told) (c.requires.quiet told);
      besides = calls.besides_paged me n c.place.result c.in-Up.cache done.new.self c.in-Up._seats is c.requires.node c.place.ensures.is up a b _ (calls.all_found (λ q. q.ticket.page.0 < page_count me.shape) c.args.x c.in-Up.cache.pages work.store.pages) (done.ensures.outcomes told);
    }

pub returns-in-Ok-clause-work : goal.returns-in-Ok-clause-work
returns-in-Ok-clause-work g c =
    let me = c.args.store.now in
    record {
      locks = refl;
      reopening = refl;
      seats = calls.seats_kept me c.args.h.0 c.place.result c.in-Up.cache c.surrender-done.new.self c.in-Up._seats c.requires.ready.is c.requires.node c.place.ensures.is (up_of g c);
    }

pub returns-in-Ok-clause-given : goal.returns-in-Ok-clause-given
returns-in-Ok-clause-given g c =
    let me = c.args.store.now in
    let n = c.args.h.0 in
    let k = c.in-Up.cache in
    let d = c.surrender-done.new.self in
    let up = up_of g c in
    let now = calls.now_at me n c.place.result k d c.in-Up._seats c.requires.ready.is c.requires.node c.place.ensures.is up in
    let gives : GivesUp c.args.x k d = record { pages = c.in-Ok.ensures.pages; same = c.surrender-done.ensures.same; tail = c.surrender-done.ensures.tail; stable = c.in-Ok.ensures.stable; kept = c.in-Ok.ensures.stable_kept } in
    subst₂ (λ a b. OnUp a (λ e old. OnUp b (λ f new. GivesUp c.args.x e f))) (sym up) (sym now) gives

pub returns-in-Ok-clause-pages : goal.returns-in-Ok-clause-pages
returns-in-Ok-clause-pages g c = λ told y low far.
    let work = work_of g c in
    same_content c.args.store.now.shape c.in-Up.cache (cons_option (page_at c.args.x c.in-Up.cache.pages) []) y (g.D.Disk.state c.args.disk.now).block (g.D.Disk.state c.surrender-done.new.disk).block work.store work.log_tie (calls.found_apart c.args.x y c.in-Up.cache.pages far) (c.in-Ok.ensures.contents told)

pub returns-in-Ok-clause-shows : goal.returns-in-Ok-clause-shows
returns-in-Ok-clause-shows g c = λ told m shown_by.
    let me = c.args.store.now in
    let s = me.shape in
    let n = c.args.h.0 in
    let x = c.args.x in
    let is = c.requires.ready.is in
    let up = up_of g c in
    let work = work_of g c in
    let k = c.in-Up.cache in
    let d = c.surrender-done.new.self in
    let done = c.surrender-done in
    let seats = c.in-Up._seats in
    let a = (g.D.Disk.state c.args.disk.now).block in
    let b = (g.D.Disk.state done.new.disk).block in
    let p = shown_by.0 in
    let was = shown_by.1.nodes in
    let low : n ≤ s.nodes = (let last = work.store.node.1 in let same = work.number in omega (arith, last, same)) in
    let mine = subst (λ o. ShowsNode s me.shared.pool n o a p m) up (was.node n c.requires.node low) in
    let alive = living s p m was.shape was.means.pages in
    let stored = stored_given s me.shared.pool me.shared.owners me.nodes c.args.h x k d seats seats a b p is.shared.eight c.requires.node up work.store work.log_tie alive mine.1.cached c.requires.held is.shared.holders c.in-Ok.ensures.pages (done.ensures.outcomes told) (c.in-Ok.ensures.holds told)
    (λ same. ap (λ v. (g.D.Disk.state v).block) (done.ensures.idle same)) was.stored in (
      p,
      record {
        nodes = subst (λ i. ShowsStoreOf s done.new.pool done.new.owners (slice_set me.nodes i (Up d seats)) b p (one (Drop x.0) m)) (sym c.place.ensures.is)
            (subst (λ os. ShowsStoreOf s done.new.pool os (with_node me.nodes n (Up d seats)) b p (one (Drop x.0) m)) (sym c.in-Ok.ensures.owners)
            (shown_with s me.shared.pool done.new.pool me.shared.owners (slice_set me.shared.owners x.0 Nobody) me.nodes n d seats a b p p m (one (Drop x.0) m) is c.requires.node was
            (calls.logs_paged me n c.place.result k d seats is c.requires.node c.place.ensures.is up a b _ (done.ensures.foreign told) (c.requires.quiet told)) (frames_of g c)
            (λ j j_is far. record { live = refl; mode = refl; start = refl; pending = refl; images = λ i e below. refl; lives = λ i e below. refl })
            (means_dropped p m x.0 was.means) was.shape mine.0
            (up_given s me.shared.pool done.new.pool n x k d seats a b p m work.cache c.in-Ok.ensures.pool c.in-Ok.ensures.pages done.ensures.same (c.in-Ok.ensures.log told) mine.1)
            stored
            (λ y within. put_at x.0 None m.hold (λ k. holder (owner_of me.shared.owners k)) y (was.hold y within) ∙ sym (holder_set me.shared.owners x.0 Nobody (let table = is.shared.table in let page = c.requires.page in omega (arith, table, page)) y))));
        locks = shown_by.1.locks;
        reopening = shown_by.1.reopening;
      },
    )

pub returns-in-Ok-clause-led : goal.returns-in-Ok-clause-led
returns-in-Ok-clause-led g c = λ told m unlost was.
    let me = c.args.store.now in
    let s = me.shape in
    let n = c.args.h.0 in
    let x = c.args.x in
    let is = c.requires.ready.is in
    let up = up_of g c in
    let k = c.in-Up.cache in
    let d = c.surrender-done.new.self in
    let done = c.surrender-done in
    let seats = c.in-Up._seats in
    let a = (g.D.Disk.state c.args.disk.now).block in
    let b = (g.D.Disk.state done.new.disk).block in (
      was.0,
      subst (λ own. EnduresAs (record { shape = s; shared = record { pool = done.new.pool; owners = own; locks = me.shared.locks; reopening = me.shared.reopening }; nodes = slice_set me.nodes c.place.result (Up d seats) }) b was.0 (one (Drop x.0) m)) (sym c.in-Ok.ensures.owners)
          (logs.there me n c.place.result k d seats seats is c.requires.node c.place.ensures.is up (λ os. EnduresAs (record { shape = s; shared = record { pool = done.new.pool; owners = slice_set me.shared.owners x.0 Nobody; locks = me.shared.locks; reopening = me.shared.reopening }; nodes = os }) b was.0 (one (Drop x.0) m))
          (given_endures me c.args.h x c.place.result k d seats is c.requires.node c.place.ensures.is up done.new.pool a b was.0 m was.1 c.requires.held c.requires.page (frames_of g c) c.in-Ok.ensures.pool c.in-Ok.ensures.pages done.ensures.same (c.in-Ok.ensures.log told)
          (calls.logs_paged me n c.place.result k d seats is c.requires.node c.place.ensures.is up a b (cons_option (page_at x k.pages) []) (done.ensures.foreign told) (c.requires.quiet told))
          unlost (done.ensures.outcomes told) (done.ensures.foreign told) (c.requires.quiet told) (c.in-Ok.ensures.holds told) (λ same. ap (λ v. (g.D.Disk.state v).block) (done.ensures.idle same)) c.in-Ok.ensures.stable_kept c.in-Ok.ensures.stable)),
    )

-- ---- where it gives up

pub give_up-requires-clause-is : goal.give_up-requires-clause-is
give_up-requires-clause-is g c =
    let me = c.args.store.now in
    let n = c.args.h.0 in
    let is = c.requires.ready.is in
    let up = logs.up_at me n c.place.result c.index-store-place.result c.in-Up.cache c.in-Up._seats is c.requires.node c.place.ensures.is c.in-Up.is in
    subst₂ (λ pool own. IsStoreButOf n me.shape pool own (slice_set me.nodes c.place.result (Up c.surrender-done.new.self c.in-Up._seats))) (sym c.in-Err.ensures.pool_kept) (sym c.in-Err.ensures.owners_kept)
    (logs.but_after me n c.place.result c.in-Up.cache c.surrender-done.new.self c.in-Up._seats c.in-Up._seats is c.requires.node c.place.ensures.is up c.surrender-done.ensures.node c.in-Err.ensures.pages_kept c.law_of_pages.ensures)

pub give_up-requires-clause-quiet : goal.give_up-requires-clause-quiet
give_up-requires-clause-quiet g c = λ told.
    let me = c.args.store.now in
    let n = c.args.h.0 in
    let is = c.requires.ready.is in
    let up = logs.up_at me n c.place.result c.index-store-place.result c.in-Up.cache c.in-Up._seats is c.requires.node c.place.ensures.is c.in-Up.is in
    calls.quiet_but_paged me n c.place.result c.in-Up.cache c.surrender-done.new.self c.in-Up._seats is c.requires.node c.place.ensures.is up (g.D.Disk.state c.args.disk.now).block (g.D.Disk.state c.surrender-done.new.disk).block (c.surrender-done.ensures.writers told) (c.requires.quiet told)

pub returns-clause-works : goal.returns-clause-works
returns-clause-works g c =
    let me = c.args.store.now in
    let n = c.args.h.0 in
    let is = c.requires.ready.is in
    let up = logs.up_at me n c.place.result c.index-store-place.result c.in-Up.cache c.in-Up._seats is c.requires.node c.place.ensures.is c.in-Up.is in
    let done = c.surrender-done in
    logs.works_stopped me n c.place.result c.in-Up.cache done.new.self c.in-Up._seats c.in-Up._seats is c.requires.node c.place.ensures.is up (record { pool = done.new.pool; owners = done.new.owners; locks = me.shared.locks; reopening = me.shared.reopening }) c.give_up.new.self
    (g.D.Disk.state c.args.disk.now) (g.D.Disk.state done.new.disk) (g.D.Disk.state c.give_up.new.disk) (g.V.Disk.state c.args.vault.now) (g.V.Disk.state c.give_up.new.vault) c.in-Err.ensures.pool_kept done.ensures.keeps c.give_up.ensures.works

pub returns-clause-writes : goal.returns-clause-writes
returns-clause-writes g c = λ told.
    let me = c.args.store.now in
    let n = c.args.h.0 in
    let is = c.requires.ready.is in
    let up = logs.up_at me n c.place.result c.index-store-place.result c.in-Up.cache c.in-Up._seats is c.requires.node c.place.ensures.is c.in-Up.is in
    let work = logs.work me n c.place.result c.in-Up.cache c.in-Up.cache c.in-Up._seats c.in-Up._seats is c.requires.node c.place.ensures.is up in
    let done = c.surrender-done in
    let a = (g.D.Disk.state c.args.disk.now).block in
    let b = (g.D.Disk.state done.new.disk).block in
    record {
      quiet = c.give_up.ensures.quiet told;
      besides = λ k o page ring may. calls.besides_paged me n c.place.result c.in-Up.cache done.new.self c.in-Up._seats is c.requires.node c.place.ensures.is up a b _ (calls.all_found (λ q. q.ticket.page.0 < page_count me.shape) c.args.x c.in-Up.cache.pages work.store.pages) (done.ensures.outcomes told) k o page ring (c.give_up.ensures.outcomes told k o may);
    }

pub returns-clause-halts : goal.returns-clause-halts
returns-clause-halts g c =
    let me = c.args.store.now in
    let n = c.args.h.0 in
    let is = c.requires.ready.is in
    let up = logs.up_at me n c.place.result c.index-store-place.result c.in-Up.cache c.in-Up._seats is c.requires.node c.place.ensures.is c.in-Up.is in
    let done = c.surrender-done in
    calls.halts_before me c.give_up.new.self c.args.h c.place.result c.in-Up.cache done.new.self c.in-Up._seats c.in-Up._seats (record { pool = done.new.pool; owners = done.new.owners; locks = me.shared.locks; reopening = me.shared.reopening }) (g.D.Disk.state c.give_up.new.disk) (g.V.Disk.state c.give_up.new.vault)
    is c.requires.node c.place.ensures.is up c.in-Err.ensures.pool_kept c.in-Err.ensures.owners_kept refl refl c.in-Err.ensures.pages_kept
    (calls.on_stop c.in-Up.cache.node.0 c.in-Err.fault _ c.in-Err.ensures.fault c.give_up.ensures.halts)

pub returns-clause-down : goal.returns-clause-down
returns-clause-down g c =
    let me = c.args.store.now in
    let n = c.args.h.0 in
    let nodes : c.give_up.new.self.nodes ≡ with_node (slice_set me.nodes c.place.result (Up c.surrender-done.new.self c.in-Up._seats)) n Down = (calls.on_stop c.in-Up.cache.node.0 c.in-Err.fault _ c.in-Err.ensures.fault c.give_up.ensures.halts).nodes in
    ap (λ os. node_at os n) nodes ∙ at_same (slice_set me.nodes c.place.result (Up c.surrender-done.new.self c.in-Up._seats)) n Down (length-set me.nodes c.place.result _ ∙ c.requires.ready.is.shared.eight) c.requires.node

pub returns-clause-led : goal.returns-clause-led
returns-clause-led g c = λ told m unlost was.
    let me = c.args.store.now in
    let s = me.shape in
    let n = c.args.h.0 in
    let x = c.args.x in
    let i = c.place.result in
    let is = c.requires.ready.is in
    let k = c.in-Up.cache in
    let d = c.surrender-done.new.self in
    let done = c.surrender-done in
    let seats = c.in-Up._seats in
    let up = logs.up_at me n i c.index-store-place.result k seats is c.requires.node c.place.ensures.is c.in-Up.is in
    let a = (g.D.Disk.state c.args.disk.now).block in
    let b = (g.D.Disk.state done.new.disk).block in
    let b2 = (g.D.Disk.state c.give_up.new.disk).block in
    let new = c.give_up.new.self in
    let p = was.0 in
    let e = was.1 in
    let m1 = with_held e.held m in
    let work = logs.work me n i k k seats seats is c.requires.node c.place.ensures.is up in
    let low = logs.low me n i k k seats seats is c.requires.node c.place.ensures.is up in
    let mine = subst (λ o. ShowsNode s me.shared.pool n o a p m1) up (e.nodes.node n c.requires.node low) in
    let stop = subst (λ j. IsStopOf j c.in-Err.fault) work.number c.in-Err.ensures.fault in
    let after = c.give_up.ensures.works.ready.is in
    let single : (y : PageNo) → y.0 < page_count s → (b2 (page_place s y)).writer ≡ None = λ y inside. subst (λ z. (b2 (page_place z y)).writer ≡ None) c.give_up.ensures.works.shape (page_still new.shape new.nodes b2 y after.shared.shape (up_most new.shape new.shared.pool new.shared.owners new.nodes after) (c.give_up.ensures.quiet told)) in
    let halts = paged_halts me n i k d seats is c.requires.node c.place.ensures.is up (cons_option (page_at x k.pages) []) a b p m e (found_cached x k)
    (calls.all_found (λ q. Shows me.shared.pool q.frame (image_in s p q.ticket.page)) x k.pages mine.1.cached) (calls.all_found (λ q. q.ticket.page.0 < page_count s) x k.pages work.store.pages)
    (done.ensures.outcomes told) (done.ensures.foreign told) (c.requires.quiet told) b2 (c.give_up.ensures.outcomes told) (c.give_up.ensures.foreign told) (λ j. g.met.D.Disk.lawful c.give_up.new.disk j told) single (c.in-Err.ensures.still told)
    (c.in-Err.ensures.cut told (map record_text (p.live n)) mine.1.records.on) (done.ensures.ahead told (map record_text (p.live n)) mine.1.records.on) in
    let there : MayHalt n (record { shape = s; shared = record { pool = done.new.pool; owners = done.new.owners; locks = me.shared.locks; reopening = me.shared.reopening }; nodes = slice_set me.nodes i (Up d seats) }) b2 m = (
      p,
      subst₂ (λ pool own. MayHaltAs n (record { shape = s; shared = record { pool = pool; owners = own; locks = me.shared.locks; reopening = me.shared.reopening }; nodes = slice_set me.nodes i (Up d seats) }) b2 p m) (sym c.in-Err.ensures.pool_kept) (sym c.in-Err.ensures.owners_kept)
          (logs.there me n i k d seats seats is c.requires.node c.place.ensures.is up (λ os. MayHaltAs n (record { shape = s; shared = me.shared; nodes = os }) b2 p m) halts),
    ) in
    subst (λ why. LedErr n why [] m (Endures new b2)) (sym c.give_up.ensures.says)
    (led_fault n (first_page s) c.in-Err.fault [] m (Endures new b2) stop
    (broke_here n [] 0 m (Endures new b2) (no_unlock [] refl) (of_stop n c.in-Err.fault _ stop c.give_up.ensures.led told m there)))
