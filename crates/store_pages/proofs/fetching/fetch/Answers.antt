use Rattle.std.specs.Prelude.{◌≡◌, ◌≢◌, ◌<◌, ◌≤◌, [], ℕ, Bool, true, false, IsTrue, Some, None, Err, refl, length, slice_set}
use Rattle.std.proofs.Common.{arith, inl, inr, ap, subst, subst₂, sym, ◌∙◌, length-set}
use Rattle.sd_base.specs.Calls.{Keeps, Keeps-then}
use Rattle.sd_base.specs.Disk.{IsFreeFor}
use Rattle.sd_base.specs.Faults.{IsStopOf, StaysLive}
use Rattle.sd_base.specs.Places.{map_of_data}
use Rattle.sd_base.specs.Shape.{first_page, page_count}
use Rattle.sd_base.specs.declared.device.NodeId.{NodeId}
use Rattle.sd_base.specs.declared.names.PageNo.{PageNo}
use Rattle.page_owner.specs.declared.owners.Own.TheVariants.{Out, Parked}
use Rattle.page_owner.specs.Owners.{owner_of}
use Rattle.space_map.specs.Image.{MapImage}
use Rattle.private_log.specs.Reading.{contents}
use Rattle.state_ids.specs.Blocks.{IsPageFault, page_place}
use Rattle.node_cache.specs.Cache.{is_cached}
use Rattle.node_cache.specs.Room.{IsEntryOf, leaving}
use Rattle.node_cache.specs.Writes.{KeepsContentsButPages}
use Rattle.node_cache.proofs.ChangedPages.{out_of_shown}
use Rattle.node_cache.proofs.Fetched.{CacheRoom, room_arrived, room_hit}
use Rattle.node_cache.proofs.Leaving.{all_left}
use Rattle.node_cache.proofs.Parking.{length-parked}
use Rattle.record_machine.specs.Led.{LedOnStop}
use Rattle.record_machine.specs.Machine.{Machine, put}
use Rattle.record_machine.specs.Parts.{Take, one}
use Rattle.record_machine.proofs.Put.{put_other}
use Rattle.store_nodes.specs.declared.node.Node.TheVariants.{Down, Up}
use Rattle.store_nodes.specs.declared.store.Store.{Store}
use Rattle.store_nodes.specs.Causes.{IsFaultOfPage, IsToldOfPages}
use Rattle.store_nodes.specs.Endures.{Endures, EnduresAs, MayHalt, MayHaltAs}
use Rattle.store_nodes.specs.Halting.{Halts}
use Rattle.store_nodes.specs.Known.{held_in}
use Rattle.store_nodes.specs.Nodes.{AreApart, IsStoreButOf, IsStoreOf, KeepsFramesBut, KeepsFramesOf, OnUp, OthersStay, is_up, node_at, pages_of, with_node}
use Rattle.store_nodes.specs.Pages.{HasMap, KeepsWork}
use Rattle.store_nodes.specs.Ports.{IsServedButOf, reply_to, says_stop}
use Rattle.store_nodes.specs.Shows.{IsShown, ShowsStoreOf, holder}
use Rattle.store_nodes.proofs.Broken.{broke_here, no_unlock, of_stop}
use Rattle.store_nodes.proofs.Eight.{at_same, others_stay}
use Rattle.store_nodes.proofs.Holders.{held_after, open_free}
use Rattle.store_nodes.proofs.LogReplies.{where_live, where_stopped}
use Rattle.store_nodes.proofs.Logs as logs
use Rattle.store_pages.proofs.FetchEndures.{endures_again, endures_arrived, endures_missed, room_written}
use Rattle.store_pages.proofs.FetchHalts.{fetch_halts}
use Rattle.store_pages.proofs.MapStays.{map_kept}
use Rattle.store_nodes.proofs.Others.{KeepsHeldBy}
use Rattle.store_pages.proofs.PageCalls as calls
use Rattle.store_pages.proofs.PageReplies.{block_kept, fault_says, never, stays_unless, stop_says, stop_then, told_says, unless, unless_then}
use Rattle.store_pages.proofs.ReadEndures.{led_on_stop, log_shown, page_stop}
use Rattle.store_pages.proofs.RoomMade.{made_room}
use Rattle.store_pages.proofs.Shares.{store_worked}
use Rattle.store_pages.proofs.ShownTaken.{holder_fetched, holder_missed, settled_open, shown_taken, store_again, store_taken}
use Rattle.store_pages.proofs.Takes.{all_out, apart_arrived, apart_broken, but_of, frames_arrived, frames_broken, long_broken, out_at, owner_broken, owner_fetched, room_at, store_hit}
use Rattle.store_nodes.proofs.Works.{page_still, served_but, up_most}
use Rattle.store_pages.proofs.fetching.fetch.Given as given
use Rattle.store_pages.proofs.fetching.fetch.Goals as goal

-- ---- before it

pub fetch-done-requires-clause-out : goal.fetch-done-requires-clause-out
fetch-done-requires-clause-out g c =
    let me = c.args.store.now in
    let s = me.shape in
    let n = c.args.n.0 in
    let is = c.requires.ready.is in
    let k = c.in-Up.cache in
    let seats = c.in-Up._seats in
    let up = logs.up_at me n c.place.result c.index-store-place.result k seats is c.requires.node c.place.ensures.is c.in-Up.is in
    let work = logs.work me n c.place.result k k seats seats is c.requires.node c.place.ensures.is up in
    out_of_shown s me.shared.pool k work.shown

pub fetch-done-requires-clause-frame : goal.fetch-done-requires-clause-frame
fetch-done-requires-clause-frame g c =
    let me = c.args.store.now in
    let s = me.shape in
    let n = c.args.n.0 in
    let is = c.requires.ready.is in
    let k = c.in-Up.cache in
    let seats = c.in-Up._seats in
    let up = logs.up_at me n c.place.result c.index-store-place.result k seats is c.requires.node c.place.ensures.is c.in-Up.is in
    let work = logs.work me n c.place.result k k seats seats is c.requires.node c.place.ensures.is up in
    λ few. let enough = room_at s me.shared.pool me.shared.owners me.nodes n k seats is c.requires.node (let last = work.store.node.1 in let same = work.number in omega (arith, last, same)) up in omega (arith, few, enough)

pub fetch-done-requires-clause-page_reach : goal.fetch-done-requires-clause-page_reach
fetch-done-requires-clause-page_reach g c =
    let me = c.args.store.now in
    let s = me.shape in
    let n = c.args.n.0 in
    let is = c.requires.ready.is in
    let k = c.in-Up.cache in
    let seats = c.in-Up._seats in
    let up = logs.up_at me n c.place.result c.index-store-place.result k seats is c.requires.node c.place.ensures.is c.in-Up.is in
    let work = logs.work me n c.place.result k k seats seats is c.requires.node c.place.ensures.is up in
    all_left (λ p. (g.D.Disk.state c.args.disk.now).reach (page_place s p.ticket.page) ≡ true) s c.args.x k.pages (λ j e low. let within = work.store.pages j e low in c.requires.ready.served.whole _ (omega (arith, within)))

pub fetch-done-requires-clause-log_free : goal.fetch-done-requires-clause-log_free
fetch-done-requires-clause-log_free g c = λ told.
    let me = c.args.store.now in
    let n = c.args.n.0 in
    let is = c.requires.ready.is in
    let k = c.in-Up.cache in
    let seats = c.in-Up._seats in
    let up = logs.up_at me n c.place.result c.index-store-place.result k seats is c.requires.node c.place.ensures.is c.in-Up.is in
    logs.region_free me n c.place.result k k seats seats is c.requires.node c.place.ensures.is up (g.D.Disk.state c.args.disk.now).block (c.requires.quiet told)

pub fetch-done-requires-clause-page_free : goal.fetch-done-requires-clause-page_free
fetch-done-requires-clause-page_free g c = λ told.
    let me = c.args.store.now in
    let s = me.shape in
    let n = c.args.n.0 in
    let is = c.requires.ready.is in
    let k = c.in-Up.cache in
    let seats = c.in-Up._seats in
    let up = logs.up_at me n c.place.result c.index-store-place.result k seats is c.requires.node c.place.ensures.is c.in-Up.is in
    let work = logs.work me n c.place.result k k seats seats is c.requires.node c.place.ensures.is up in
    all_left (λ p. IsFreeFor k.node.0 ((g.D.Disk.state c.args.disk.now).block (page_place s p.ticket.page))) s c.args.x k.pages (λ j e low. inr (page_still s me.nodes (g.D.Disk.state c.args.disk.now).block _ work.store.valid (up_most s me.shared.pool me.shared.owners me.nodes is) (c.requires.quiet told)))

-- ---- where it was done, the store

frames_of : (g : given.Over) (c : goal.In-Ok g) → (b : Bool) → is_cached c.args.x c.in-Up.cache ≡ b → KeepsFramesBut c.args.n.0 c.args.store.now.nodes c.args.store.now.shared.pool c.fetch-done.new.pool
frames_of g c true hit = let same = c.fetch-done.ensures.hit hit in subst (λ p. KeepsFramesBut c.args.n.0 c.args.store.now.nodes c.args.store.now.shared.pool p) (sym same.2) (λ m other far j e low. refl)
frames_of g c false fresh =
    let me = c.args.store.now in
    let s = me.shape in
    let n = c.args.n.0 in
    let is = c.requires.ready.is in
    let k = c.in-Up.cache in
    let d = c.fetch-done.new.self in
    let done = c.fetch-done in
    let seats = c.in-Up._seats in
    let up = logs.up_at me n c.place.result c.index-store-place.result k seats is c.requires.node c.place.ensures.is c.in-Up.is in
    λ m other far. frames_arrived s c.args.x c.args.e k d me.shared.pool done.new.pool (pages_of (node_at me.nodes m)) (subst (λ ps. AreApart ps (pages_of (node_at me.nodes m))) (ap pages_of up) (is.shared.apart n m c.requires.node other (λ e. far (sym e)))) (out_at s me.shared.pool me.shared.owners m (node_at me.nodes m) (is.is m other)) (c.in-Ok.ensures.arrived fresh)

store_of : (g : given.Over) (c : goal.In-Ok g) → (b : Bool) → is_cached c.args.x c.in-Up.cache ≡ b → IsStoreOf c.args.store.now.shape c.fetch-done.new.pool c.fetch-done.new.owners (with_node c.args.store.now.nodes c.args.n.0 (Up c.fetch-done.new.self c.in-Up._seats))
store_of g c true hit =
    let me = c.args.store.now in
    let s = me.shape in
    let n = c.args.n.0 in
    let is = c.requires.ready.is in
    let k = c.in-Up.cache in
    let d = c.fetch-done.new.self in
    let done = c.fetch-done in
    let seats = c.in-Up._seats in
    let up = logs.up_at me n c.place.result c.index-store-place.result k seats is c.requires.node c.place.ensures.is c.in-Up.is in
    let work = logs.work me n c.place.result k k seats seats is c.requires.node c.place.ensures.is up in
    let same = done.ensures.hit hit in
    subst₂ (λ p o. IsStoreOf s p o (with_node me.nodes n (Up d seats))) (sym same.2) (sym same.3) (store_hit s me.shared.pool me.shared.owners me.nodes n k d seats is.shared.eight c.requires.node up same.1 is)
store_of g c false fresh =
    let me = c.args.store.now in
    let s = me.shape in
    let n = c.args.n.0 in
    let is = c.requires.ready.is in
    let k = c.in-Up.cache in
    let d = c.fetch-done.new.self in
    let done = c.fetch-done in
    let seats = c.in-Up._seats in
    let up = logs.up_at me n c.place.result c.index-store-place.result k seats is c.requires.node c.place.ensures.is c.in-Up.is in
    let work = logs.work me n c.place.result k k seats seats is c.requires.node c.place.ensures.is up in
    let name : k.node ≡ c.args.n = ap (λ i. record { 0 = i }) work.number in
    store_worked s me.shared.pool done.new.pool me.shared.owners done.new.owners me.nodes n k d seats seats c.requires.node up is
    (calls.work_after me n c.place.result k d seats is c.requires.node c.place.ensures.is up done.new.pool done.new.owners done.ensures.node c.law_of_pages.ensures done.ensures.store (done.ensures.shown work.shown) done.ensures.owned done.ensures.log_tie done.ensures.same done.ensures.tail)
    done.ensures.counted (ap length (c.in-Ok.ensures.owners fresh) ∙ length-parked (leaving s c.args.x k.pages) _ ∙ length-set me.shared.owners c.args.x.0 _)
    (frames_of g c false fresh)
    (λ m far. subst (KeepsHeldBy m me.shared.owners) (sym (c.in-Ok.ensures.owners fresh)) (owner_fetched m c.args.n c.args.x me.shared.owners (Out k.node) (leaving s c.args.x k.pages) far (inr (ap Out name)) c.requires.open (all_left (λ p. p.ticket.node ≡ c.args.n) s c.args.x k.pages (λ j e low. work.cache.own j e low ∙ name)) (all_left (λ p. owner_of me.shared.owners p.ticket.page.0 ≡ Out c.args.n) s c.args.x k.pages (all_out me.shared.owners c.args.n k name work.cache work.owned))))
    (λ m other far. apart_arrived s c.args.x c.args.e k d me.shared.pool done.new.pool (pages_of (node_at me.nodes m)) (subst (λ ps. AreApart ps (pages_of (node_at me.nodes m))) (ap pages_of up) (is.shared.apart n m c.requires.node other (λ e. far (sym e)))) (out_at s me.shared.pool me.shared.owners m (node_at me.nodes m) (is.is m other)) (c.in-Ok.ensures.arrived fresh))

pub returns-in-Ok-clause-works : goal.returns-in-Ok-clause-works
returns-in-Ok-clause-works g c =
    let me = c.args.store.now in
    let s = me.shape in
    let n = c.args.n.0 in
    let is = c.requires.ready.is in
    let k = c.in-Up.cache in
    let d = c.fetch-done.new.self in
    let done = c.fetch-done in
    let seats = c.in-Up._seats in
    let up = logs.up_at me n c.place.result c.index-store-place.result k seats is c.requires.node c.place.ensures.is c.in-Up.is in
    logs.works_with me n c.place.result k d seats seats is c.requires.node c.place.ensures.is up (record { pool = done.new.pool; owners = done.new.owners; locks = me.shared.locks; reopening = me.shared.reopening }) (g.D.Disk.state c.args.disk.now) (g.D.Disk.state done.new.disk) (g.V.Disk.state c.args.vault.now)
    (subst (λ i. IsStoreOf s done.new.pool done.new.owners (slice_set me.nodes i (Up d seats))) (sym c.place.ensures.is) (store_of g c (is_cached c.args.x k) refl))
    (frames_of g c (is_cached c.args.x k) refl) done.ensures.keeps c.in-Ok.ensures.live c.requires.ready.served

pub returns-in-Ok-clause-writes : goal.returns-in-Ok-clause-writes
returns-in-Ok-clause-writes g c = λ told.
    let me = c.args.store.now in
    let s = me.shape in
    let n = c.args.n.0 in
    let is = c.requires.ready.is in
    let k = c.in-Up.cache in
    let d = c.fetch-done.new.self in
    let done = c.fetch-done in
    let seats = c.in-Up._seats in
    let up = logs.up_at me n c.place.result c.index-store-place.result k seats is c.requires.node c.place.ensures.is c.in-Up.is in
    let work = logs.work me n c.place.result k k seats seats is c.requires.node c.place.ensures.is up in
    let a = (g.D.Disk.state c.args.disk.now).block in
    let b = (g.D.Disk.state done.new.disk).block in
    record { quiet = calls.quiet_paged me n c.place.result k d seats is c.requires.node c.place.ensures.is up a b (done.ensures.writers told) (c.requires.quiet told); besides = calls.besides_paged me n c.place.result k d seats is c.requires.node c.place.ensures.is up a b _ (all_left (λ q. q.ticket.page.0 < page_count s) s c.args.x k.pages work.store.pages) (done.ensures.outcomes told) }

pub returns-in-Ok-clause-work : goal.returns-in-Ok-clause-work
returns-in-Ok-clause-work g c =
    let me = c.args.store.now in
    let n = c.args.n.0 in
    let is = c.requires.ready.is in
    let k = c.in-Up.cache in
    let d = c.fetch-done.new.self in
    let seats = c.in-Up._seats in
    let up = logs.up_at me n c.place.result c.index-store-place.result k seats is c.requires.node c.place.ensures.is c.in-Up.is in
    record { locks = refl; reopening = refl; seats = calls.seats_kept me n c.place.result k d seats is c.requires.node c.place.ensures.is up }

-- ---- where it gives up

pub give_up-requires-clause-is : goal.give_up-requires-clause-is
give_up-requires-clause-is g c =
    let me = c.args.store.now in
    let s = me.shape in
    let n = c.args.n.0 in
    let is = c.requires.ready.is in
    let k = c.in-Up.cache in
    let d = c.fetch-done.new.self in
    let done = c.fetch-done in
    let seats = c.in-Up._seats in
    let up = logs.up_at me n c.place.result c.index-store-place.result k seats is c.requires.node c.place.ensures.is c.in-Up.is in
    let work = logs.work me n c.place.result k k seats seats is c.requires.node c.place.ensures.is up in
    let name : k.node ≡ c.args.n = ap (λ i. record { 0 = i }) work.number in
    let store = (store_worked s me.shared.pool done.new.pool me.shared.owners done.new.owners me.nodes n k d seats seats c.requires.node up is (calls.work_after me n c.place.result k d seats is c.requires.node c.place.ensures.is up done.new.pool done.new.owners done.ensures.node c.law_of_pages.ensures done.ensures.store (done.ensures.shown work.shown) done.ensures.owned done.ensures.log_tie done.ensures.same done.ensures.tail) done.ensures.counted (long_broken s c.args.x me.shared.pool done.new.pool me.shared.owners done.new.owners k d c.in-Err.ensures.broken) (λ m other far. frames_broken s c.args.x c.args.e k d me.shared.pool done.new.pool (pages_of (node_at me.nodes m)) (subst (λ ps. AreApart ps (pages_of (node_at me.nodes m))) (ap pages_of up) (is.shared.apart n m c.requires.node other (λ e. far (sym e)))) (out_at s me.shared.pool me.shared.owners m (node_at me.nodes m) (is.is m other)) me.shared.owners done.new.owners c.in-Err.ensures.broken) (λ m far. owner_broken m c.args.n s c.args.x me.shared.pool done.new.pool me.shared.owners done.new.owners k d far (done.ensures.node ∙ name) c.requires.open (all_left (λ p. p.ticket.node ≡ c.args.n) s c.args.x k.pages (λ j e low. work.cache.own j e low ∙ name)) (all_left (λ p. owner_of me.shared.owners p.ticket.page.0 ≡ Out c.args.n) s c.args.x k.pages (all_out me.shared.owners c.args.n k name work.cache work.owned)) c.in-Err.ensures.broken) (λ m other far. apart_broken s c.args.x c.args.e k d me.shared.pool done.new.pool (pages_of (node_at me.nodes m)) (subst (λ ps. AreApart ps (pages_of (node_at me.nodes m))) (ap pages_of up) (is.shared.apart n m c.requires.node other (λ e. far (sym e)))) (out_at s me.shared.pool me.shared.owners m (node_at me.nodes m) (is.is m other)) me.shared.owners done.new.owners c.in-Err.ensures.broken)) in
    subst (λ i. IsStoreButOf n s done.new.pool done.new.owners (slice_set me.nodes i (Up d seats))) (sym c.place.ensures.is) (but_of s done.new.pool done.new.owners (with_node me.nodes n (Up d seats)) n d seats c.requires.node (at_same me.nodes n (Up d seats) is.shared.eight c.requires.node) store)

pub give_up-requires-clause-quiet : goal.give_up-requires-clause-quiet
give_up-requires-clause-quiet g c = λ told.
    let me = c.args.store.now in
    let n = c.args.n.0 in
    let is = c.requires.ready.is in
    let k = c.in-Up.cache in
    let d = c.fetch-done.new.self in
    let done = c.fetch-done in
    let seats = c.in-Up._seats in
    let up = logs.up_at me n c.place.result c.index-store-place.result k seats is c.requires.node c.place.ensures.is c.in-Up.is in
    let a = (g.D.Disk.state c.args.disk.now).block in
    let b = (g.D.Disk.state done.new.disk).block in
    calls.quiet_but_paged me n c.place.result k d seats is c.requires.node c.place.ensures.is up a b (done.ensures.writers told) (c.requires.quiet told)

pub give_up-requires-clause-ready : goal.give_up-requires-clause-ready
give_up-requires-clause-ready g c =
    let me = c.args.store.now in
    let s = me.shape in
    let n = c.args.n.0 in
    let is = c.requires.ready.is in
    let k = c.in-Up.cache in
    let d = c.fetch-done.new.self in
    let done = c.fetch-done in
    let seats = c.in-Up._seats in
    let up = logs.up_at me n c.place.result c.index-store-place.result k seats is c.requires.node c.place.ensures.is c.in-Up.is in
    let work = logs.work me n c.place.result k k seats seats is c.requires.node c.place.ensures.is up in
    let name : k.node ≡ c.args.n = ap (λ i. record { 0 = i }) work.number in
    let store = (store_worked s me.shared.pool done.new.pool me.shared.owners done.new.owners me.nodes n k d seats seats c.requires.node up is (calls.work_after me n c.place.result k d seats is c.requires.node c.place.ensures.is up done.new.pool done.new.owners done.ensures.node c.law_of_pages.ensures done.ensures.store (done.ensures.shown work.shown) done.ensures.owned done.ensures.log_tie done.ensures.same done.ensures.tail) done.ensures.counted (long_broken s c.args.x me.shared.pool done.new.pool me.shared.owners done.new.owners k d c.in-Err.ensures.broken) (λ m other far. frames_broken s c.args.x c.args.e k d me.shared.pool done.new.pool (pages_of (node_at me.nodes m)) (subst (λ ps. AreApart ps (pages_of (node_at me.nodes m))) (ap pages_of up) (is.shared.apart n m c.requires.node other (λ e. far (sym e)))) (out_at s me.shared.pool me.shared.owners m (node_at me.nodes m) (is.is m other)) me.shared.owners done.new.owners c.in-Err.ensures.broken) (λ m far. owner_broken m c.args.n s c.args.x me.shared.pool done.new.pool me.shared.owners done.new.owners k d far (done.ensures.node ∙ name) c.requires.open (all_left (λ p. p.ticket.node ≡ c.args.n) s c.args.x k.pages (λ j e low. work.cache.own j e low ∙ name)) (all_left (λ p. owner_of me.shared.owners p.ticket.page.0 ≡ Out c.args.n) s c.args.x k.pages (all_out me.shared.owners c.args.n k name work.cache work.owned)) c.in-Err.ensures.broken) (λ m other far. apart_broken s c.args.x c.args.e k d me.shared.pool done.new.pool (pages_of (node_at me.nodes m)) (subst (λ ps. AreApart ps (pages_of (node_at me.nodes m))) (ap pages_of up) (is.shared.apart n m c.requires.node other (λ e. far (sym e)))) (out_at s me.shared.pool me.shared.owners m (node_at me.nodes m) (is.is m other)) me.shared.owners done.new.owners c.in-Err.ensures.broken)) in
    stays_unless c.in-Err.fault _ _ c.in-Err.ensures.live (λ live. (logs.works_with me n c.place.result k d seats seats is c.requires.node c.place.ensures.is up (record { pool = done.new.pool; owners = done.new.owners; locks = me.shared.locks; reopening = me.shared.reopening }) (g.D.Disk.state c.args.disk.now) (g.D.Disk.state done.new.disk) (g.V.Disk.state c.args.vault.now)
    (subst (λ i. IsStoreOf s done.new.pool done.new.owners (slice_set me.nodes i (Up d seats))) (sym c.place.ensures.is) store)
    (λ m other far. frames_broken s c.args.x c.args.e k d me.shared.pool done.new.pool (pages_of (node_at me.nodes m)) (subst (λ ps. AreApart ps (pages_of (node_at me.nodes m))) (ap pages_of up) (is.shared.apart n m c.requires.node other (λ e. far (sym e)))) (out_at s me.shared.pool me.shared.owners m (node_at me.nodes m) (is.is m other)) me.shared.owners done.new.owners c.in-Err.ensures.broken) done.ensures.keeps live c.requires.ready.served).ready)

pub give_up-requires-clause-quiet_all : goal.give_up-requires-clause-quiet_all
give_up-requires-clause-quiet_all g c =
    let me = c.args.store.now in
    let n = c.args.n.0 in
    let is = c.requires.ready.is in
    let k = c.in-Up.cache in
    let d = c.fetch-done.new.self in
    let done = c.fetch-done in
    let seats = c.in-Up._seats in
    let up = logs.up_at me n c.place.result c.index-store-place.result k seats is c.requires.node c.place.ensures.is c.in-Up.is in
    let a = (g.D.Disk.state c.args.disk.now).block in
    let b = (g.D.Disk.state done.new.disk).block in
    unless c.in-Err.fault (λ told. calls.quiet_paged me n c.place.result k d seats is c.requires.node c.place.ensures.is up a b (done.ensures.writers told) (c.requires.quiet told))

pub returns-clause-works : goal.returns-clause-works
returns-clause-works g c =
    let me = c.args.store.now in
    let s = me.shape in
    let n = c.args.n.0 in
    let is = c.requires.ready.is in
    let k = c.in-Up.cache in
    let d = c.fetch-done.new.self in
    let done = c.fetch-done in
    let seats = c.in-Up._seats in
    let up = logs.up_at me n c.place.result c.index-store-place.result k seats is c.requires.node c.place.ensures.is c.in-Up.is in
    let work = logs.work me n c.place.result k k seats seats is c.requires.node c.place.ensures.is up in
    let rest = c.give_up.ensures.works in
    let same : OthersStay n me.nodes (slice_set me.nodes c.place.result (Up d seats)) = subst (λ i. OthersStay n me.nodes (slice_set me.nodes i (Up d seats))) (sym c.place.ensures.is) (others_stay me.nodes n (Up d seats) is.shared.eight c.requires.node) in
    record {
      ready = rest.ready;
      shape = rest.shape;
      keeps = Keeps-then n (g.D.Disk.state c.args.disk.now) (g.D.Disk.state done.new.disk) (g.D.Disk.state c.give_up.new.disk) (subst (λ j. Keeps j (g.D.Disk.state c.args.disk.now) (g.D.Disk.state done.new.disk)) work.number done.ensures.keeps) rest.keeps;
      vault_keeps = rest.vault_keeps;
      others = λ m other far. rest.others m other far ∙ same m other far;
      frames = λ m other far j e low. subst (λ o. KeepsFramesOf (pages_of o) done.new.pool c.give_up.new.self.shared.pool) (same m other far) (rest.frames m other far) j e low ∙ (frames_broken s c.args.x c.args.e k d me.shared.pool done.new.pool (pages_of (node_at me.nodes m)) (subst (λ ps. AreApart ps (pages_of (node_at me.nodes m))) (ap pages_of up) (is.shared.apart n m c.requires.node other (λ e. far (sym e)))) (out_at s me.shared.pool me.shared.owners m (node_at me.nodes m) (is.is m other)) me.shared.owners done.new.owners c.in-Err.ensures.broken) j e low;
    }

pub returns-clause-writes : goal.returns-clause-writes
returns-clause-writes g c = λ told.
    let me = c.args.store.now in
    let s = me.shape in
    let n = c.args.n.0 in
    let is = c.requires.ready.is in
    let k = c.in-Up.cache in
    let d = c.fetch-done.new.self in
    let done = c.fetch-done in
    let seats = c.in-Up._seats in
    let up = logs.up_at me n c.place.result c.index-store-place.result k seats is c.requires.node c.place.ensures.is c.in-Up.is in
    let work = logs.work me n c.place.result k k seats seats is c.requires.node c.place.ensures.is up in
    let a = (g.D.Disk.state c.args.disk.now).block in
    let b = (g.D.Disk.state done.new.disk).block in
    record { quiet = c.give_up.ensures.quiet told; besides = λ i o page ring may. calls.besides_paged me n c.place.result k d seats is c.requires.node c.place.ensures.is up a b _ (all_left (λ q. q.ticket.page.0 < page_count s) s c.args.x k.pages work.store.pages) (done.ensures.outcomes told) i o page ring (c.give_up.ensures.outcomes told i o may) }

-- ---- why the page couldn't be taken

pub returns-clause-fault : goal.returns-clause-fault
returns-clause-fault g c =
    let me = c.args.store.now in
    let s = me.shape in
    let n = c.args.n.0 in
    let is = c.requires.ready.is in
    let k = c.in-Up.cache in
    let seats = c.in-Up._seats in
    let up = logs.up_at me n c.place.result c.index-store-place.result k seats is c.requires.node c.place.ensures.is c.in-Up.is in
    let work = logs.work me n c.place.result k k seats seats is c.requires.node c.place.ensures.is up in
    subst (IsFaultOfPage s n c.args.x) (sym c.give_up.ensures.says) (subst (λ j. IsFaultOfPage s j c.args.x (reply_to (first_page s) c.in-Err.fault)) work.number (fault_says s c.args.x k.node.0 c.in-Err.fault c.in-Err.ensures.fault))

pub returns-clause-told : goal.returns-clause-told
returns-clause-told g c = λ told.
    let me = c.args.store.now in
    let s = me.shape in
    let n = c.args.n.0 in
    let is = c.requires.ready.is in
    let k = c.in-Up.cache in
    let done = c.fetch-done in
    let seats = c.in-Up._seats in
    let up = logs.up_at me n c.place.result c.index-store-place.result k seats is c.requires.node c.place.ensures.is c.in-Up.is in
    let work = logs.work me n c.place.result k k seats seats is c.requires.node c.place.ensures.is up in
    let a = (g.D.Disk.state c.args.disk.now).block in
    let b = (g.D.Disk.state done.new.disk).block in
    subst (IsToldOfPages s (contents (g.D.Disk.state c.give_up.new.disk).block)) (sym c.give_up.ensures.says)
    (told_says s c.args.x k.node.0 c.in-Err.fault (contents a) (contents (g.D.Disk.state c.give_up.new.disk).block) c.in-Err.ensures.fault (c.in-Err.ensures.told told)
    (unless_then _ (KeepsContentsButPages s k.log (leaving s c.args.x k.pages) a b) done.result c.in-Err.fault c.in-Err.is (done.ensures.contents told) c.give_up.ensures.kept
    (λ keeps kept. ap (λ v. ((g.D.Disk.state v).block (page_place s c.args.x)).current) kept.1 ∙ block_kept s k c.args.x a b work.store work.log_tie (missed (is_cached c.args.x k) refl) keeps)))
  where
    missed : (b : Bool) → is_cached c.args.x c.in-Up.cache ≡ b → is_cached c.args.x c.in-Up.cache ≡ false
    missed true hit = absurd (never c.fetch-done.result c.in-Err.fault (c.fetch-done.ensures.hit hit).0 c.in-Err.is)
    missed false new = new

pub returns-clause-down : goal.returns-clause-down
returns-clause-down g c = λ stops.
    let me = c.args.store.now in
    let s = me.shape in
    let n = c.args.n.0 in
    let is = c.requires.ready.is in
    let d = c.fetch-done.new.self in
    let done = c.fetch-done in
    let seats = c.in-Up._seats in
    let nodes = λ (h : Halts c.args.n (record { shape = s; shared = (record { pool = done.new.pool; owners = done.new.owners; locks = me.shared.locks; reopening = me.shared.reopening }); nodes = slice_set me.nodes c.place.result (Up d seats) }) c.give_up.new.self (g.D.Disk.state c.give_up.new.disk) (g.V.Disk.state c.give_up.new.vault)). h.nodes in
    where_stopped (first_page s) c.in-Err.fault (node_at c.give_up.new.self.nodes n ≡ Down) (subst (λ r. says_stop r ≡ true) c.give_up.ensures.says stops)
    (stop_then c.in-Err.fault _ _ c.give_up.ensures.halts (λ halts. ap (λ os. node_at os n) (nodes halts) ∙ at_same (slice_set me.nodes c.place.result (Up d seats)) n Down (length-set me.nodes c.place.result _ ∙ is.shared.eight) c.requires.node))

pub returns-in-Ok-clause-cached : goal.returns-in-Ok-clause-cached
returns-in-Ok-clause-cached g c =
    let me = c.args.store.now in
    let n = c.args.n.0 in
    let is = c.requires.ready.is in
    let k = c.in-Up.cache in
    let d = c.fetch-done.new.self in
    let seats = c.in-Up._seats in
    let up = logs.up_at me n c.place.result c.index-store-place.result k seats is c.requires.node c.place.ensures.is c.in-Up.is in
    subst (λ o. OnUp o (λ e those. IsTrue (is_cached c.args.x e))) (sym (calls.now_at me n c.place.result k d seats is c.requires.node c.place.ensures.is up)) c.in-Ok.ensures.cached

pub returns-in-Ok-clause-hit : goal.returns-in-Ok-clause-hit
returns-in-Ok-clause-hit g c = λ cached.
    let me = c.args.store.now in
    let n = c.args.n.0 in
    let is = c.requires.ready.is in
    let k = c.in-Up.cache in
    let d = c.fetch-done.new.self in
    let done = c.fetch-done in
    let seats = c.in-Up._seats in
    let up = logs.up_at me n c.place.result c.index-store-place.result k seats is c.requires.node c.place.ensures.is c.in-Up.is in
    let same = done.ensures.hit (subst (λ o. OnUp o (λ e those. IsTrue (is_cached c.args.x e))) up cached) in
    (refl, store_again me n c.place.result k d seats done.new.pool done.new.owners is c.requires.node c.place.ensures.is up same.2 same.3 same.1, same.4, refl)

pub returns-clause-hit : goal.returns-clause-hit
returns-clause-hit g c = λ cached.
    let me = c.args.store.now in
    let n = c.args.n.0 in
    let is = c.requires.ready.is in
    let k = c.in-Up.cache in
    let done = c.fetch-done in
    let seats = c.in-Up._seats in
    let up = logs.up_at me n c.place.result c.index-store-place.result k seats is c.requires.node c.place.ensures.is c.in-Up.is in
    absurd (never done.result c.in-Err.fault (done.ensures.hit (subst (λ o. OnUp o (λ e those. IsTrue (is_cached c.args.x e))) up cached)).0 c.in-Err.is)

entry_of : (g : given.Over) (c : goal.In-Ok g) → IsEntryOf c.args.store.now.shape c.args.store.now.shared.pool c.in-Up.cache c.args.x c.args.e
entry_of g c =
    let me = c.args.store.now in
    let s = me.shape in
    let n = c.args.n.0 in
    let is = c.requires.ready.is in
    let k = c.in-Up.cache in
    let seats = c.in-Up._seats in
    let up = logs.up_at me n c.place.result c.index-store-place.result k seats is c.requires.node c.place.ensures.is c.in-Up.is in
    subst (λ o. OnUp o (λ d those. IsEntryOf s me.shared.pool d c.args.x c.args.e)) up c.requires.entry

abbrev After : (g : given.Over) (c : goal.In-Ok g) → Store
After g c = record { shape = c.args.store.now.shape; shared = record { pool = c.fetch-done.new.pool; owners = c.fetch-done.new.owners; locks = c.args.store.now.shared.locks; reopening = c.args.store.now.shared.reopening }; nodes = slice_set c.args.store.now.nodes c.place.result (Up c.fetch-done.new.self c.in-Up._seats) }

shows_of : (g : given.Over) (c : goal.In-Ok g) → (b : Bool) → is_cached c.args.x c.in-Up.cache ≡ b → IsTrue g.D.Disk.told → (m : Machine) → IsShown c.args.store.now (g.D.Disk.state c.args.disk.now).block m → IsShown (After g c) (g.D.Disk.state c.fetch-done.new.disk).block (one (Take c.args.x.0 c.args.n.0) m)
shows_of g c true hit told m shown =
    let me = c.args.store.now in
    let s = me.shape in
    let n = c.args.n.0 in
    let is = c.requires.ready.is in
    let k = c.in-Up.cache in
    let d = c.fetch-done.new.self in
    let done = c.fetch-done in
    let seats = c.in-Up._seats in
    let up = logs.up_at me n c.place.result c.index-store-place.result k seats is c.requires.node c.place.ensures.is c.in-Up.is in
    let work = logs.work me n c.place.result k k seats seats is c.requires.node c.place.ensures.is up in
    let same = done.ensures.hit hit in
    let name : k.node ≡ c.args.n = ap (λ i. record { 0 = i }) work.number in
    let whole = store_again me n c.place.result k d seats done.new.pool done.new.owners is c.requires.node c.place.ensures.is up same.2 same.3 same.1 in
    subst₂ (λ v w. IsShown v (g.D.Disk.state w).block (one (Take c.args.x.0 n) m)) (sym whole) (sym same.4)
    (shown_taken me (g.D.Disk.state c.args.disk.now).block m c.args.x.0 n (ap holder ((work.owned c.args.x).1 hit) ∙ ap (λ (i : NodeId). Some i.0) name) shown)
shows_of g c false fresh told m shown =
    let me = c.args.store.now in
    let s = me.shape in
    let n = c.args.n.0 in
    let is = c.requires.ready.is in
    let k = c.in-Up.cache in
    let d = c.fetch-done.new.self in
    let done = c.fetch-done in
    let seats = c.in-Up._seats in
    let up = logs.up_at me n c.place.result c.index-store-place.result k seats is c.requires.node c.place.ensures.is c.in-Up.is in
    let a = (g.D.Disk.state c.args.disk.now).block in
    let b = (g.D.Disk.state done.new.disk).block in (
      shown.0,
      record {
        nodes = subst (λ i. ShowsStoreOf s done.new.pool done.new.owners (slice_set me.nodes i (Up d seats)) b shown.0 (one (Take c.args.x.0 n) m)) (sym c.place.ensures.is)
            (store_taken me c.args.n c.args.x c.args.e k d seats done.new.pool done.new.owners a b shown.0 m is c.requires.node up c.requires.page c.requires.open fresh shown.1.nodes (λ i. g.met.D.Disk.lawful c.args.disk.now i told) (entry_of g c) done.ensures.node done.ensures.same
            (c.in-Ok.ensures.arrived fresh) (done.ensures.outcomes told) (c.in-Ok.ensures.holds told fresh) (c.in-Ok.ensures.image told fresh) (λ xs on. c.in-Ok.ensures.log told xs on) (c.in-Ok.ensures.owners fresh)
            (calls.logs_paged me n c.place.result k d seats is c.requires.node c.place.ensures.is up a b _ (done.ensures.foreign told) (c.requires.quiet told)) (frames_of g c false fresh));
        locks = shown.1.locks;
        reopening = shown.1.reopening;
      },
    )

pub returns-in-Ok-clause-shows : goal.returns-in-Ok-clause-shows
returns-in-Ok-clause-shows g c = λ told m shown.
    shows_of g c (is_cached c.args.x c.in-Up.cache) refl told m shown

pub returns-clause-stopped : goal.returns-clause-stopped
returns-clause-stopped g c = λ told m shown.
    let me = c.args.store.now in
    let s = me.shape in
    let n = c.args.n.0 in
    let is = c.requires.ready.is in
    let k = c.in-Up.cache in
    let seats = c.in-Up._seats in
    let up = logs.up_at me n c.place.result c.index-store-place.result k seats is c.requires.node c.place.ensures.is c.in-Up.is in
    subst (λ r. says_stop r ≡ true) (sym c.give_up.ensures.says) (stop_says k.node.0 (first_page s) c.in-Err.fault (by told m shown (is_cached c.args.x k) refl))
  where
    by : IsTrue g.D.Disk.told → (m : Machine) → IsShown c.args.store.now (g.D.Disk.state c.args.disk.now).block m → (o : Bool) → is_cached c.args.x c.in-Up.cache ≡ o → IsStopOf c.in-Up.cache.node.0 c.in-Err.fault
    by told m shown true hit = absurd (never c.fetch-done.result c.in-Err.fault (c.fetch-done.ensures.hit hit).0 c.in-Err.is)
    by told m shown false fresh =
        let me = c.args.store.now in
        let s = me.shape in
        let n = c.args.n.0 in
        let is = c.requires.ready.is in
        let k = c.in-Up.cache in
        let seats = c.in-Up._seats in
        let up = logs.up_at me n c.place.result c.index-store-place.result k seats is c.requires.node c.place.ensures.is c.in-Up.is in
        let place = page_place s c.args.x in
        let settled = settled_open me c.args.n c.args.x k seats is c.requires.node up c.requires.open fresh in
        let found = shown.1.nodes.stored c.args.x c.requires.page settled ((g.D.Disk.state c.args.disk.now).block place).current (g.met.D.Disk.lawful c.args.disk.now place told).current in
        c.in-Err.ensures.there told found.0 found.1

map_of : (g : given.Over) (c : goal.In-Ok g) → (b : Bool) → is_cached c.args.x c.in-Up.cache ≡ b → c.args.store.now.shape.maps ≤ c.args.x.0 → (image : MapImage) → HasMap c.args.store.now.shared.pool c.in-Up.cache.pages (map_of_data c.args.store.now.shape c.args.x) image → HasMap c.fetch-done.new.pool c.fetch-done.new.self.pages (map_of_data c.args.store.now.shape c.args.x) image
map_of g c true hit far image has =
    let same = c.fetch-done.ensures.hit hit in
    subst₂ (λ l e. HasMap l e.pages (map_of_data c.args.store.now.shape c.args.x) image) (sym same.2) (sym same.1) has
map_of g c false fresh far image has =
    let me = c.args.store.now in
    let s = me.shape in
    let n = c.args.n.0 in
    let is = c.requires.ready.is in
    let k = c.in-Up.cache in
    let d = c.fetch-done.new.self in
    let done = c.fetch-done in
    let seats = c.in-Up._seats in
    let up = logs.up_at me n c.place.result c.index-store-place.result k seats is c.requires.node c.place.ensures.is c.in-Up.is in
    let work = logs.work me n c.place.result k k seats seats is c.requires.node c.place.ensures.is up in
    map_kept s c.args.x c.args.e k d me.shared.pool done.new.pool image work.cache (out_of_shown s me.shared.pool k work.shown) (c.in-Ok.ensures.arrived fresh) far has

pub returns-in-Ok-clause-map : goal.returns-in-Ok-clause-map
returns-in-Ok-clause-map g c = λ far image was.
    let me = c.args.store.now in
    let s = me.shape in
    let n = c.args.n.0 in
    let is = c.requires.ready.is in
    let k = c.in-Up.cache in
    let d = c.fetch-done.new.self in
    let done = c.fetch-done in
    let seats = c.in-Up._seats in
    let up = logs.up_at me n c.place.result c.index-store-place.result k seats is c.requires.node c.place.ensures.is c.in-Up.is in
    let has = subst (λ o. OnUp o (λ e those. HasMap me.shared.pool e.pages (map_of_data s c.args.x) image)) up was in
    subst (λ o. OnUp o (λ e those. HasMap done.new.pool e.pages (map_of_data s c.args.x) image)) (sym (calls.now_at me n c.place.result k d seats is c.requires.node c.place.ensures.is up)) (map_of g c (is_cached c.args.x k) refl far image has)

room_of : (g : given.Over) (c : goal.In-Ok g) → (b : Bool) → is_cached c.args.x c.in-Up.cache ≡ b → IsTrue g.D.Disk.told → CacheRoom c.args.store.now.shape c.args.x c.in-Up.cache c.fetch-done.new.self (g.D.Disk.state c.args.disk.now).block (g.D.Disk.state c.fetch-done.new.disk).block
room_of g c true hit told =
    let same = c.fetch-done.ensures.hit hit in
    subst₂ (λ e v. CacheRoom c.args.store.now.shape c.args.x c.in-Up.cache e (g.D.Disk.state c.args.disk.now).block (g.D.Disk.state v).block) (sym same.1) (sym same.4) (room_hit c.args.store.now.shape c.args.x c.in-Up.cache (g.D.Disk.state c.args.disk.now).block)
room_of g c false fresh told =
    let me = c.args.store.now in
    let s = me.shape in
    let n = c.args.n.0 in
    let is = c.requires.ready.is in
    let k = c.in-Up.cache in
    let d = c.fetch-done.new.self in
    let done = c.fetch-done in
    let seats = c.in-Up._seats in
    let up = logs.up_at me n c.place.result c.index-store-place.result k seats is c.requires.node c.place.ensures.is c.in-Up.is in
    let work = logs.work me n c.place.result k k seats seats is c.requires.node c.place.ensures.is up in
    let a = (g.D.Disk.state c.args.disk.now).block in
    let b = (g.D.Disk.state done.new.disk).block in
    room_arrived s c.args.x c.args.e k d _ done.new.pool a b c.law_of_pages.ensures.few work.store work.log_tie fresh (c.in-Ok.ensures.arrived fresh) (c.in-Ok.ensures.contents told)

pub returns-in-Ok-clause-made_room : goal.returns-in-Ok-clause-made_room
returns-in-Ok-clause-made_room g c = λ told.
    let me = c.args.store.now in
    let n = c.args.n.0 in
    let is = c.requires.ready.is in
    let k = c.in-Up.cache in
    let d = c.fetch-done.new.self in
    let done = c.fetch-done in
    let seats = c.in-Up._seats in
    let up = logs.up_at me n c.place.result c.index-store-place.result k seats is c.requires.node c.place.ensures.is c.in-Up.is in
    let a = (g.D.Disk.state c.args.disk.now).block in
    let b = (g.D.Disk.state done.new.disk).block in
    made_room c.args.x me (After g c) n k d seats seats a b up (calls.now_at me n c.place.result k d seats is c.requires.node c.place.ensures.is up) (room_of g c (is_cached c.args.x k) refl told)

pub returns-clause-work : goal.returns-clause-work
returns-clause-work g c =
    let me = c.args.store.now in
    let s = me.shape in
    let n = c.args.n.0 in
    let is = c.requires.ready.is in
    let k = c.in-Up.cache in
    let d = c.fetch-done.new.self in
    let done = c.fetch-done in
    let seats = c.in-Up._seats in
    let up = logs.up_at me n c.place.result c.index-store-place.result k seats is c.requires.node c.place.ensures.is c.in-Up.is in
    let kept : KeepsWork n me (record { shape = s; shared = (record { pool = done.new.pool; owners = done.new.owners; locks = me.shared.locks; reopening = me.shared.reopening }); nodes = slice_set me.nodes c.place.result (Up d seats) }) = record { locks = refl; reopening = refl; seats = calls.seats_kept me n c.place.result k d seats is c.requires.node c.place.ensures.is up } in
    λ live. subst (KeepsWork n me) (sym (where_live (first_page s) c.in-Err.fault _ (subst (λ r. says_stop r ≡ false) c.give_up.ensures.says live) c.give_up.ensures.kept).0) kept

pub give_up-requires-clause-served : goal.give_up-requires-clause-served
give_up-requires-clause-served g c =
    let me = c.args.store.now in
    let s = me.shape in
    let n = c.args.n.0 in
    let is = c.requires.ready.is in
    let k = c.in-Up.cache in
    let d = c.fetch-done.new.self in
    let done = c.fetch-done in
    let seats = c.in-Up._seats in
    let up = logs.up_at me n c.place.result c.index-store-place.result k seats is c.requires.node c.place.ensures.is c.in-Up.is in
    let work = logs.work me n c.place.result k k seats seats is c.requires.node c.place.ensures.is up in
    subst (λ i. IsServedButOf n s (slice_set me.nodes i (Up d seats)) (g.D.Disk.state done.new.disk) (g.V.Disk.state c.args.vault.now)) (sym c.place.ensures.is)
    (served_but s me.nodes (with_node me.nodes n (Up d seats)) n (g.D.Disk.state c.args.disk.now) (g.D.Disk.state done.new.disk) (g.V.Disk.state c.args.vault.now) (g.V.Disk.state c.args.vault.now) (subst (λ j. Keeps j (g.D.Disk.state c.args.disk.now) (g.D.Disk.state done.new.disk)) work.number done.ensures.keeps) (logs.keeps_same n (g.V.Disk.state c.args.vault.now)) (others_stay me.nodes n (Up d seats) is.shared.eight c.requires.node) c.requires.ready.served)

holders_of : (g : given.Over) (c : goal.In-Ok g) → (b : Bool) → is_cached c.args.x c.in-Up.cache ≡ b → (y : PageNo) → held_in (After g c) y ≡ held_in c.args.store.now y
holders_of g c true hit y =
    let me = c.args.store.now in
    let n = c.args.n.0 in
    let is = c.requires.ready.is in
    let k = c.in-Up.cache in
    let d = c.fetch-done.new.self in
    let done = c.fetch-done in
    let seats = c.in-Up._seats in
    let up = logs.up_at me n c.place.result c.index-store-place.result k seats is c.requires.node c.place.ensures.is c.in-Up.is in
    let work = logs.work me n c.place.result k k seats seats is c.requires.node c.place.ensures.is up in
    let same = done.ensures.hit hit in
    ap (λ v. held_in v y) (store_again me n c.place.result k d seats done.new.pool done.new.owners is c.requires.node c.place.ensures.is up same.2 same.3 same.1)
holders_of g c false fresh y =
    let me = c.args.store.now in
    let n = c.args.n.0 in
    let is = c.requires.ready.is in
    let k = c.in-Up.cache in
    let d = c.fetch-done.new.self in
    let done = c.fetch-done in
    let seats = c.in-Up._seats in
    let up = logs.up_at me n c.place.result c.index-store-place.result k seats is c.requires.node c.place.ensures.is c.in-Up.is in
    let work = logs.work me n c.place.result k k seats seats is c.requires.node c.place.ensures.is up in
    let name : k.node ≡ c.args.n = ap (λ i. record { 0 = i }) work.number in
    held_after me (After g c) c.args.x n (holder_fetched me c.args.n c.args.x k seats done.new.owners (Out k.node) is c.requires.node up c.requires.page (ap (λ (i : NodeId). Some i.0) name) (c.in-Ok.ensures.owners fresh)) is.shared.holders
    (calls.up_same me n c.place.result k d seats is c.requires.node c.place.ensures.is up) (ap is_up (calls.now_at me n c.place.result k d seats is c.requires.node c.place.ensures.is up)) (open_free me c.args.x c.args.n c.requires.up c.requires.open) y

pub returns-in-Ok-clause-holders : goal.returns-in-Ok-clause-holders
returns-in-Ok-clause-holders g c =
    holders_of g c (is_cached c.args.x c.in-Up.cache) refl

pub returns-clause-holders : goal.returns-clause-holders
returns-clause-holders g c =
    let me = c.args.store.now in
    let s = me.shape in
    let n = c.args.n.0 in
    let is = c.requires.ready.is in
    let k = c.in-Up.cache in
    let d = c.fetch-done.new.self in
    let done = c.fetch-done in
    let seats = c.in-Up._seats in
    let up = logs.up_at me n c.place.result c.index-store-place.result k seats is c.requires.node c.place.ensures.is c.in-Up.is in
    let work = logs.work me n c.place.result k k seats seats is c.requires.node c.place.ensures.is up in
    let name : k.node ≡ c.args.n = ap (λ i. record { 0 = i }) work.number in
    let mid : Store = record { shape = s; shared = (record { pool = done.new.pool; owners = done.new.owners; locks = me.shared.locks; reopening = me.shared.reopening }); nodes = slice_set me.nodes c.place.result (Up d seats) } in
    let own : holder (Parked d.node) ≡ Some n = ap (λ (i : NodeId). Some i.0) (done.ensures.node ∙ name) in
    let holds : (y : ℕ) → holder (owner_of done.new.owners y) ≡ put c.args.x.0 (Some n) (λ j. holder (owner_of me.shared.owners j)) y = elim c.in-Err.ensures.broken [
      | inl none ↦ holder_missed me c.args.n c.args.x done.new.owners (Parked d.node) is c.requires.page own none.parks
      | inr left ↦ holder_fetched me c.args.n c.args.x k seats done.new.owners (Parked d.node) is c.requires.node up c.requires.page own left.parks
    ] in
    let after = held_after me mid c.args.x n holds is.shared.holders
    (calls.up_same me n c.place.result k d seats is c.requires.node c.place.ensures.is up) (ap is_up (calls.now_at me n c.place.result k d seats is c.requires.node c.place.ensures.is up)) (open_free me c.args.x c.args.n c.requires.up c.requires.open) in
    λ live y. ap (λ v. held_in v y) (where_live (first_page s) c.in-Err.fault _ (subst (λ r. says_stop r ≡ false) c.give_up.ensures.says live) c.give_up.ensures.kept).0 ∙ after y

-- the other pages are held as they were
others_of : (g : given.Over) (c : goal.In-Ok g) → (b : Bool) → is_cached c.args.x c.in-Up.cache ≡ b → (y : PageNo) → y ≢ c.args.x → holder (owner_of (After g c).shared.owners y.0) ≡ holder (owner_of c.args.store.now.shared.owners y.0)
others_of g c true hit y far =
    let me = c.args.store.now in
    let n = c.args.n.0 in
    let is = c.requires.ready.is in
    let done = c.fetch-done in
    let seats = c.in-Up._seats in
    let up = logs.up_at me n c.place.result c.index-store-place.result c.in-Up.cache seats is c.requires.node c.place.ensures.is c.in-Up.is in
    let same = done.ensures.hit hit in
    ap (λ v. holder (owner_of v.shared.owners y.0)) (store_again me n c.place.result c.in-Up.cache done.new.self seats done.new.pool done.new.owners is c.requires.node c.place.ensures.is up same.2 same.3 same.1)
others_of g c false fresh y far =
    let me = c.args.store.now in
    let n = c.args.n.0 in
    let is = c.requires.ready.is in
    let k = c.in-Up.cache in
    let seats = c.in-Up._seats in
    let up = logs.up_at me n c.place.result c.index-store-place.result k seats is c.requires.node c.place.ensures.is c.in-Up.is in
    let work = logs.work me n c.place.result k k seats seats is c.requires.node c.place.ensures.is up in
    let name : k.node ≡ c.args.n = ap (λ i. record { 0 = i }) work.number in
    holder_fetched me c.args.n c.args.x k seats c.fetch-done.new.owners (Out k.node) is c.requires.node up c.requires.page (ap (λ (i : NodeId). Some i.0) name) (c.in-Ok.ensures.owners fresh) y.0
    ∙ put_other c.args.x.0 (Some n) (λ j. holder (owner_of me.shared.owners j)) y.0 (λ same. far (ap (λ j. record { 0 = j }) same))

pub returns-in-Ok-clause-owners : goal.returns-in-Ok-clause-owners
returns-in-Ok-clause-owners g c = others_of g c (is_cached c.args.x c.in-Up.cache) refl

-- ---- what the store endures

endures_of : (g : given.Over) (c : goal.In-Ok g) → (b : Bool) → is_cached c.args.x c.in-Up.cache ≡ b → IsTrue g.D.Disk.told → (m : Machine) → m.reopening ≡ false → Endures c.args.store.now (g.D.Disk.state c.args.disk.now).block m → Endures (After g c) (g.D.Disk.state c.fetch-done.new.disk).block (one (Take c.args.x.0 c.args.n.0) m)
endures_of g c true hit told m unlost was =
    let me = c.args.store.now in
    let n = c.args.n.0 in
    let is = c.requires.ready.is in
    let k = c.in-Up.cache in
    let d = c.fetch-done.new.self in
    let done = c.fetch-done in
    let seats = c.in-Up._seats in
    let up = logs.up_at me n c.place.result c.index-store-place.result k seats is c.requires.node c.place.ensures.is c.in-Up.is in
    let work = logs.work me n c.place.result k k seats seats is c.requires.node c.place.ensures.is up in
    let same = done.ensures.hit hit in
    let name : k.node ≡ c.args.n = ap (λ i. record { 0 = i }) work.number in
    let whole = store_again me n c.place.result k d seats done.new.pool done.new.owners is c.requires.node c.place.ensures.is up same.2 same.3 same.1 in
    let holds : holder (owner_of me.shared.owners c.args.x.0) ≡ Some n = ap holder ((work.owned c.args.x).1 hit) ∙ ap (λ (i : NodeId). Some i.0) name in
    subst₂ (λ v w. Endures v (g.D.Disk.state w).block (one (Take c.args.x.0 n) m)) (sym whole) (sym same.4) (was.0, endures_again me (g.D.Disk.state c.args.disk.now).block was.0 m c.args.x.0 n c.requires.page holds was.1)
endures_of g c false fresh told m unlost was =
    let me = c.args.store.now in
    let s = me.shape in
    let n = c.args.n.0 in
    let is = c.requires.ready.is in
    let k = c.in-Up.cache in
    let d = c.fetch-done.new.self in
    let done = c.fetch-done in
    let seats = c.in-Up._seats in
    let up = logs.up_at me n c.place.result c.index-store-place.result k seats is c.requires.node c.place.ensures.is c.in-Up.is in
    let a = (g.D.Disk.state c.args.disk.now).block in
    let b = (g.D.Disk.state done.new.disk).block in
    let p = was.0 in
    let written = room_written me c.args.n c.args.x c.args.e k seats a p m was.1 is c.requires.node up c.requires.page c.requires.open fresh (entry_of g c) d b (done.ensures.outcomes told) (done.ensures.foreign told) (c.requires.quiet told) done.ensures.same c.in-Ok.ensures.rises (c.in-Ok.ensures.stable fresh) (c.in-Ok.ensures.holds told fresh) in (
      p,
      subst (λ i. EnduresAs (record { shape = s; shared = record { pool = done.new.pool; owners = done.new.owners; locks = me.shared.locks; reopening = me.shared.reopening }; nodes = slice_set me.nodes i (Up d seats) }) b p (one (Take c.args.x.0 n) m)) (sym c.place.ensures.is)
          (endures_arrived me c.args.n c.args.x c.args.e k seats a p m was.1 is c.requires.node up c.requires.page c.requires.open fresh (entry_of g c) d done.new.pool done.new.owners b unlost written
          (calls.logs_paged me n c.place.result k d seats is c.requires.node c.place.ensures.is up a b _ (done.ensures.foreign told) (c.requires.quiet told)) (frames_of g c false fresh) (λ i. g.met.D.Disk.lawful c.args.disk.now i told) done.ensures.node done.ensures.same
          (c.in-Ok.ensures.arrived fresh) (c.in-Ok.ensures.found told fresh) (c.in-Ok.ensures.image told fresh) (λ xs on. c.in-Ok.ensures.log told xs on) (c.in-Ok.ensures.owners fresh)),
    )

pub returns-in-Ok-clause-led : goal.returns-in-Ok-clause-led
returns-in-Ok-clause-led g c = λ told m unlost was.
    endures_of g c (is_cached c.args.x c.in-Up.cache) refl told m unlost was

-- the page wasn't cached
fresh_of : (g : given.Over) (c : goal.After-give_up g) → (b : Bool) → is_cached c.args.x c.in-Up.cache ≡ b → is_cached c.args.x c.in-Up.cache ≡ false
fresh_of g c true hit = absurd (never c.fetch-done.result c.in-Err.fault (c.fetch-done.ensures.hit hit).0 c.in-Err.is)
fresh_of g c false new = new

-- the frames of the other nodes are as they were
frames_err : (g : given.Over) (c : goal.After-give_up g) → KeepsFramesBut c.args.n.0 c.args.store.now.nodes c.args.store.now.shared.pool c.fetch-done.new.pool
frames_err g c =
    let me = c.args.store.now in
    let s = me.shape in
    let n = c.args.n.0 in
    let is = c.requires.ready.is in
    let k = c.in-Up.cache in
    let seats = c.in-Up._seats in
    let done = c.fetch-done in
    let up = logs.up_at me n c.place.result c.index-store-place.result k seats is c.requires.node c.place.ensures.is c.in-Up.is in
    λ m other far. frames_broken s c.args.x c.args.e k done.new.self me.shared.pool done.new.pool (pages_of (node_at me.nodes m)) (subst (λ ps. AreApart ps (pages_of (node_at me.nodes m))) (ap pages_of up) (is.shared.apart n m c.requires.node other (λ e. far (sym e)))) (out_at s me.shared.pool me.shared.owners m (node_at me.nodes m) (is.is m other)) me.shared.owners done.new.owners c.in-Err.ensures.broken

-- and the page is the node's
holds_err : (g : given.Over) (c : goal.After-give_up g) → (y : ℕ) → holder (owner_of c.fetch-done.new.owners y) ≡ put c.args.x.0 (Some c.args.n.0) (λ j. holder (owner_of c.args.store.now.shared.owners j)) y
holds_err g c =
    let me = c.args.store.now in
    let n = c.args.n.0 in
    let is = c.requires.ready.is in
    let k = c.in-Up.cache in
    let seats = c.in-Up._seats in
    let done = c.fetch-done in
    let d = done.new.self in
    let up = logs.up_at me n c.place.result c.index-store-place.result k seats is c.requires.node c.place.ensures.is c.in-Up.is in
    let work = logs.work me n c.place.result k k seats seats is c.requires.node c.place.ensures.is up in
    let name : k.node ≡ c.args.n = ap (λ i. record { 0 = i }) work.number in
    let own : holder (Parked d.node) ≡ Some n = ap (λ (i : NodeId). Some i.0) (done.ensures.node ∙ name) in
    elim c.in-Err.ensures.broken [
      | inl none ↦ holder_missed me c.args.n c.args.x done.new.owners (Parked d.node) is c.requires.page own none.parks
      | inr left ↦ holder_fetched me c.args.n c.args.x k seats done.new.owners (Parked d.node) is c.requires.node up c.requires.page own left.parks
    ]

pub returns-clause-led : goal.returns-clause-led
returns-clause-led g c = λ live told m unlost was.
    let me = c.args.store.now in
    let s = me.shape in
    let n = c.args.n.0 in
    let is = c.requires.ready.is in
    let k = c.in-Up.cache in
    let d = c.fetch-done.new.self in
    let done = c.fetch-done in
    let seats = c.in-Up._seats in
    let f = c.in-Err.fault in
    let up = logs.up_at me n c.place.result c.index-store-place.result k seats is c.requires.node c.place.ensures.is c.in-Up.is in
    let a = (g.D.Disk.state c.args.disk.now).block in
    let b = (g.D.Disk.state done.new.disk).block in
    let p = was.0 in
    let fresh = fresh_of g c (is_cached c.args.x k) refl in
    let entry = subst (λ o. OnUp o (λ d those. IsEntryOf s me.shared.pool d c.args.x c.args.e)) up c.requires.entry in
    let goes : says_stop (reply_to (first_page s) f) ≡ false = subst (λ r. says_stop r ≡ false) c.give_up.ensures.says live in
    let stays = λ (P : Type 0) (so : StaysLive {T = Unit {0}} (Err f) P). where_live (first_page s) f P goes (stays_unless f P P so (λ x. x)) in
    let left = where_live (first_page s) f _ goes c.give_up.ensures.kept in
    let missed = where_live (first_page s) f _ goes c.in-Err.ensures.missed in
    let written = room_written me c.args.n c.args.x c.args.e k seats a p m was.1 is c.requires.node up c.requires.page c.requires.open fresh entry d b (done.ensures.outcomes told) (done.ensures.foreign told) (c.requires.quiet told) done.ensures.same
    (stays _ c.in-Err.ensures.rises) (stays _ c.in-Err.ensures.stable fresh) (stays _ (c.in-Err.ensures.holds told) fresh) in
    let now = endures_missed me c.args.n c.args.x c.args.e k seats a p m was.1 is c.requires.node up c.requires.page c.requires.open fresh entry d done.new.pool done.new.owners b unlost written
    (calls.logs_paged me n c.place.result k d seats is c.requires.node c.place.ensures.is up a b _ (done.ensures.foreign told) (c.requires.quiet told)) (frames_err g c) done.ensures.node done.ensures.same missed (λ xs on. stays _ (c.in-Err.ensures.log told xs on)) in
    subst₂ (λ v w. Endures v (g.D.Disk.state w).block (one (Take c.args.x.0 n) m)) (sym left.0) (sym left.1)
    (p, subst (λ i. EnduresAs (record { shape = s; shared = record { pool = done.new.pool; owners = done.new.owners; locks = me.shared.locks; reopening = me.shared.reopening }; nodes = slice_set me.nodes i (Up d seats) }) b p (one (Take c.args.x.0 n) m)) (sym c.place.ensures.is) now)

pub returns-clause-halts : goal.returns-clause-halts
returns-clause-halts g c = λ told m unlost was.
    let me = c.args.store.now in
    let s = me.shape in
    let n = c.args.n.0 in
    let is = c.requires.ready.is in
    let k = c.in-Up.cache in
    let d = c.fetch-done.new.self in
    let done = c.fetch-done in
    let seats = c.in-Up._seats in
    let f = c.in-Err.fault in
    let new = c.give_up.new.self in
    let up = logs.up_at me n c.place.result c.index-store-place.result k seats is c.requires.node c.place.ensures.is c.in-Up.is in
    let work = logs.work me n c.place.result k k seats seats is c.requires.node c.place.ensures.is up in
    let a = (g.D.Disk.state c.args.disk.now).block in
    let b = (g.D.Disk.state done.new.disk).block in
    let b2 = (g.D.Disk.state c.give_up.new.disk).block in
    let p = was.0 in
    let fresh = fresh_of g c (is_cached c.args.x k) refl in
    let entry = subst (λ o. OnUp o (λ d those. IsEntryOf s me.shared.pool d c.args.x c.args.e)) up c.requires.entry in
    let after = c.give_up.ensures.works.ready.is in
    let single : (y : PageNo) → y.0 < page_count s → (b2 (page_place s y)).writer ≡ None = λ y inside. subst (λ z. (b2 (page_place z y)).writer ≡ None) c.give_up.ensures.works.shape (page_still new.shape new.nodes b2 y after.shared.shape (up_most new.shape new.shared.pool new.shared.owners new.nodes after) (c.give_up.ensures.quiet told)) in
    let recs = (log_shown me n c.place.result k seats is c.requires.node c.place.ensures.is up a p m was.1).on in
    subst (λ why. LedOnStop n why [] (one (Take c.args.x.0 n) m) (Endures new b2)) (sym c.give_up.ensures.says)
    (led_on_stop n (first_page s) f [] (one (Take c.args.x.0 n) m) (Endures new b2) (page_stop s c.args.x n f (subst (λ j. IsPageFault s c.args.x j f) work.number c.in-Err.ensures.fault)) (λ stop.
    let halts : MayHalt n (record { shape = s; shared = record { pool = done.new.pool; owners = done.new.owners; locks = me.shared.locks; reopening = me.shared.reopening }; nodes = slice_set me.nodes c.place.result (Up d seats) }) b2 (one (Take c.args.x.0 n) m) = (
      p,
      subst (λ i. MayHaltAs n (record { shape = s; shared = record { pool = done.new.pool; owners = done.new.owners; locks = me.shared.locks; reopening = me.shared.reopening }; nodes = slice_set me.nodes i (Up d seats) }) b2 p (one (Take c.args.x.0 n) m)) (sym c.place.ensures.is)
          (fetch_halts me c.args.n c.args.x c.args.e k d seats a b2 p m was.1 is c.requires.node up c.requires.page c.requires.open fresh entry done.new.pool done.new.owners unlost b (done.ensures.outcomes told) (done.ensures.foreign told) (c.requires.quiet told)
          (c.give_up.ensures.outcomes told) (c.give_up.ensures.foreign told) (λ j. g.met.D.Disk.lawful c.give_up.new.disk j told) single (of_stop n f _ stop c.in-Err.ensures.still told) (of_stop n f _ stop (c.in-Err.ensures.cut told _ recs)) (done.ensures.ahead told _ recs) (frames_err g c) (holds_err g c)),
    ) in
    broke_here n [] 0 (one (Take c.args.x.0 n) m) (Endures new b2) (no_unlock [] refl) (of_stop n f _ stop c.give_up.ensures.led told (one (Take c.args.x.0 n) m) halts)))
