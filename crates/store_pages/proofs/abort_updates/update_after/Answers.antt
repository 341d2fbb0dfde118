use Rattle.std.specs.Prelude.{◌≡◌, ◌*◌, ◌<◌, [], true, false, None, Some, IsTrue, IfSome, MatchOption, length, slice_set, refl}
use Rattle.std.proofs.Common.{arith, ap, subst, sym, ◌∙◌, length-set}
use Rattle.sd_base.specs.Faults.{IsStopOf}
use Rattle.sd_base.specs.Shape.{first_page}
use Rattle.private_log.specs.Content.{region_of}
use Rattle.private_log.specs.Log.{region}
use Rattle.private_log.specs.Reading.{IsLogFault}
use Rattle.compensation.specs.Left.{uncompensated}
use Rattle.state_ids.specs.Blocks.{UnlessStopped}
use Rattle.txn_core.specs.Seats.{is_busy}
use Rattle.txn_core.proofs.SeatLaws.{txn_of}
use Rattle.record_machine.specs.Led.{LedOnStop}
use Rattle.record_machine.specs.Machine.{Deed, Write, newest_of}
use Rattle.store_nodes.specs.declared.node.Node.TheVariants.{Down, Up}
use Rattle.store_nodes.specs.Causes.{IsLogReply}
use Rattle.store_nodes.specs.Endures.{Endures, MayHalt, MayHaltAs}
use Rattle.store_nodes.specs.Nodes.{OnUp, node_at}
use Rattle.store_nodes.specs.Ports.{IsReady, IsStopReply, Works, Writes, says_stop}
use Rattle.store_nodes.specs.Shows.{ShowsNode}
use Rattle.store_pages.specs.Updates.{IsLeftAfter, IsNumberOf, IsWithin}
use Rattle.store_nodes.proofs.Broken.{broke_here, no_unlock, of_stop}
use Rattle.store_nodes.proofs.Eight.{at_same}
use Rattle.store_pages.proofs.FoundWrites.{found_first, found_number, found_range, left_after}
use Rattle.store_nodes.proofs.LeftWrites.{numbers_back}
use Rattle.store_nodes.proofs.LogReplies.{log_says, stop_says, unless_live, unless_stopped, where_live, where_stopped}
use Rattle.store_nodes.proofs.Logs as logs
use Rattle.store_pages.proofs.LogReads.{block_cause, block_says, block_stays, but_read, quiet_but_read, quiet_read, ready_read, store_read, works_read}
use Rattle.store_pages.proofs.ReadEndures.{block_led, led_on_stop, log_shown, log_stop, read_halts}
use Rattle.store_pages.proofs.Results.{err_then, never, no_err, ok_then, on_ok}
use Rattle.store_pages.proofs.Sequences.{writes_none}
use Rattle.store_pages.proofs.abort_updates.update_after.Goals as goal

-- ---- what it asks of the log

pub find_update-requires-clause-within : goal.find_update-requires-clause-within
find_update-requires-clause-within g c =
    let me = c.args.store.now in
    let n = c.args.t.node.0 in
    let i = c.place.result in
    let k = c.in-Up.cache in
    let seats = c.in-Up.seats in
    let is = c.requires.ready.is in
    let up = logs.up_at me n i c.index-store-place.result k seats is c.requires.node c.place.ensures.is c.in-Up.is in
    subst (λ o. IfSome c.args.after (λ number. OnUp o (λ e those. IsWithin those c.args.t.seat number))) up c.requires.within

pub of_store-requires-clause-node : goal.of_store-requires-clause-node
of_store-requires-clause-node g c =
    let me = c.args.store.now in
    let n = c.args.t.node.0 in
    let i = c.place.result in
    let k = c.in-Up.cache in
    let seats = c.in-Up.seats in
    let is = c.requires.ready.is in
    let up = logs.up_at me n i c.index-store-place.result k seats is c.requires.node c.place.ensures.is c.in-Up.is in
    (c.requires.node.0, logs.low me n i k k seats seats is c.requires.node c.place.ensures.is up)

-- ---- where it gives up

pub give_up-requires-clause-is : goal.give_up-requires-clause-is
give_up-requires-clause-is g c =
    let me = c.args.store.now in
    let n = c.args.t.node.0 in
    let i = c.place.result in
    let k = c.in-Up.cache in
    let seats = c.in-Up.seats in
    let is = c.requires.ready.is in
    let up = logs.up_at me n i c.index-store-place.result k seats is c.requires.node c.place.ensures.is c.in-Up.is in
    but_read me n i k seats is c.requires.node c.place.ensures.is up

pub give_up-requires-clause-quiet : goal.give_up-requires-clause-quiet
give_up-requires-clause-quiet g c = λ told.
    let me = c.args.store.now in
    let n = c.args.t.node.0 in
    let i = c.place.result in
    let k = c.in-Up.cache in
    let seats = c.in-Up.seats in
    let is = c.requires.ready.is in
    let up = logs.up_at me n i c.index-store-place.result k seats is c.requires.node c.place.ensures.is c.in-Up.is in
    let a = (g.D.Disk.state c.args.disk.now).block in
    let b = (g.D.Disk.state c.find_update.new.disk).block in
    quiet_but_read me n i k seats is c.requires.node c.place.ensures.is up a b (c.find_update.ensures.writers told) (c.requires.quiet told)

pub give_up-requires-clause-ready : goal.give_up-requires-clause-ready
give_up-requires-clause-ready g c =
    let me = c.args.store.now in
    let n = c.args.t.node.0 in
    let i = c.place.result in
    let k = c.in-Up.cache in
    let seats = c.in-Up.seats in
    let is = c.requires.ready.is in
    let up = logs.up_at me n i c.index-store-place.result k seats is c.requires.node c.place.ensures.is c.in-Up.is in
    subst (λ v. UnlessStopped c.in-Err.fault (IsReady v (g.D.Disk.state c.find_update.new.disk) (g.V.Disk.state c.args.vault.now))) (sym (store_read me n i k seats is c.requires.node c.place.ensures.is up))
    (unless_live c.in-Err.fault _ _ _ _ c.in-Err.ensures.live c.in-Err.ensures.live c.in-Err.ensures.live (λ live same again. ready_read me n i k seats is c.requires.node c.place.ensures.is up (g.D.Disk.state c.args.disk.now) (g.D.Disk.state c.find_update.new.disk) (g.V.Disk.state c.args.vault.now) c.find_update.ensures.keeps live c.requires.ready))

pub give_up-requires-clause-quiet_all : goal.give_up-requires-clause-quiet_all
give_up-requires-clause-quiet_all g c =
    let me = c.args.store.now in
    let n = c.args.t.node.0 in
    let i = c.place.result in
    let k = c.in-Up.cache in
    let seats = c.in-Up.seats in
    let is = c.requires.ready.is in
    let up = logs.up_at me n i c.index-store-place.result k seats is c.requires.node c.place.ensures.is c.in-Up.is in
    let a = (g.D.Disk.state c.args.disk.now).block in
    let b = (g.D.Disk.state c.find_update.new.disk).block in
    unless_stopped c.in-Err.fault _ (λ told. quiet_read me n i k seats is c.requires.node c.place.ensures.is up a b (c.find_update.ensures.writers told) (c.requires.quiet told))

pub returns-clause-works : goal.returns-clause-works
returns-clause-works g c =
    let me = c.args.store.now in
    let n = c.args.t.node.0 in
    let i = c.place.result in
    let k = c.in-Up.cache in
    let seats = c.in-Up.seats in
    let is = c.requires.ready.is in
    let up = logs.up_at me n i c.index-store-place.result k seats is c.requires.node c.place.ensures.is c.in-Up.is in
    logs.works_stopped me n i k k seats seats is c.requires.node c.place.ensures.is up me.shared c.give_up.new.self
    (g.D.Disk.state c.args.disk.now) (g.D.Disk.state c.find_update.new.disk) (g.D.Disk.state c.give_up.new.disk) (g.V.Disk.state c.args.vault.now) (g.V.Disk.state c.give_up.new.vault) refl c.find_update.ensures.keeps c.give_up.ensures.works

pub returns-clause-writes : goal.returns-clause-writes
returns-clause-writes g c = λ told.
    let me = c.args.store.now in
    let n = c.args.t.node.0 in
    let i = c.place.result in
    let k = c.in-Up.cache in
    let seats = c.in-Up.seats in
    let is = c.requires.ready.is in
    let up = logs.up_at me n i c.index-store-place.result k seats is c.requires.node c.place.ensures.is c.in-Up.is in
    record {
      quiet = c.give_up.ensures.quiet told;
      besides = λ j o page ring may. c.find_update.ensures.outcomes told j o (c.give_up.ensures.outcomes told j o may);
    }

pub returns-clause-fault : goal.returns-clause-fault
returns-clause-fault g c =
    let me = c.args.store.now in
    let n = c.args.t.node.0 in
    let i = c.place.result in
    let k = c.in-Up.cache in
    let seats = c.in-Up.seats in
    let is = c.requires.ready.is in
    let up = logs.up_at me n i c.index-store-place.result k seats is c.requires.node c.place.ensures.is c.in-Up.is in
    let work = logs.work me n i k k seats seats is c.requires.node c.place.ensures.is up in
    subst (IsLogReply n (region_of me.shape n)) (sym c.give_up.ensures.says) (log_says me.shape me.shared.pool me.shared.owners n k seats c.in-Err.fault work c.in-Err.ensures.fault)

pub returns-clause-down : goal.returns-clause-down
returns-clause-down g c = λ stop.
    let me = c.args.store.now in
    let n = c.args.t.node.0 in
    let nodes = slice_set me.nodes c.place.result (Up c.in-Up.cache c.in-Up.seats) in
    let eight : length nodes ≡ 8 = length-set me.nodes c.place.result _ ∙ c.requires.ready.is.shared.eight in
    let halts = where_stopped (first_page me.shape) c.in-Err.fault _ (subst (λ r. says_stop r ≡ true) c.give_up.ensures.says stop) c.give_up.ensures.halts in
    ap (λ os. node_at os n) halts.nodes ∙ at_same nodes n Down eight c.requires.node

pub returns-clause-kept : goal.returns-clause-kept
returns-clause-kept g c = λ live.
    let me = c.args.store.now in
    let n = c.args.t.node.0 in
    let i = c.place.result in
    let k = c.in-Up.cache in
    let seats = c.in-Up.seats in
    let is = c.requires.ready.is in
    let up = logs.up_at me n i c.index-store-place.result k seats is c.requires.node c.place.ensures.is c.in-Up.is in
    let says = subst (λ r. says_stop r ≡ false) c.give_up.ensures.says live in
    let same = where_live (first_page me.shape) c.in-Err.fault _ says c.give_up.ensures.kept in (
      same.0 ∙ store_read me n i k seats is c.requires.node c.place.ensures.is up,
      λ told.
          let d = g.D.Disk.state c.find_update.new.disk in
          let read = where_live (first_page me.shape) c.in-Err.fault (d.block ≡ (g.D.Disk.state c.args.disk.now).block) says (unless_live c.in-Err.fault _ _ _ _ (c.in-Err.ensures.blocks told) (c.in-Err.ensures.blocks told) (c.in-Err.ensures.blocks told) (λ blocks again once. blocks)) in
          ap (λ e. (g.D.Disk.state e).block) same.1 ∙ read,
    )

pub returns-clause-stopped : goal.returns-clause-stopped
returns-clause-stopped g c = λ told m shown some.
    let me = c.args.store.now in
    let n = c.args.t.node.0 in
    let i = c.place.result in
    let k = c.in-Up.cache in
    let seats = c.in-Up.seats in
    let is = c.requires.ready.is in
    let up = logs.up_at me n i c.index-store-place.result k seats is c.requires.node c.place.ensures.is c.in-Up.is in
    let s = me.shape in
    let pool = me.shared.pool in
    let a = (g.D.Disk.state c.args.disk.now).block in
    let p = shown.0 in
    let work = logs.work me n i k k seats seats is c.requires.node c.place.ensures.is up in
    let mine = (subst (λ o. ShowsNode s pool n o a p m) up (shown.1.nodes.node n c.requires.node (logs.low me n i k k seats seats is c.requires.node c.place.ensures.is up))).1 in
    let u = txn_of seats c.args.t.seat (subst (λ o. OnUp o (λ e those. IsTrue (is_busy those c.args.t.seat))) up c.requires.busy) in
    let low : c.args.t.seat < 8 = (let at = c.requires.seat in omega (arith, at)) in
    let it = left_after n s pool k seats a p m c.args.t u.0 mine shown.1.nodes.means.logs refl low u.1 c.args.after some in
    subst (IsStopReply n) (sym c.give_up.ensures.says) (stop_says n (first_page s) c.in-Err.fault (subst (λ j. IsStopOf j c.in-Err.fault) work.number (c.in-Err.ensures.there told (p.live n) u.0 (numbers_back it.0) u.1 mine.records mine.told it.3)))

pub returns-clause-led : goal.returns-clause-led
returns-clause-led g c = λ told m was.
    let me = c.args.store.now in
    let s = me.shape in
    let n = c.args.t.node.0 in
    let i = c.place.result in
    let k = c.in-Up.cache in
    let seats = c.in-Up.seats in
    let is = c.requires.ready.is in
    let up = logs.up_at me n i c.index-store-place.result k seats is c.requires.node c.place.ensures.is c.in-Up.is in
    let a = (g.D.Disk.state c.args.disk.now).block in
    let b2 = (g.D.Disk.state c.give_up.new.disk).block in
    let f = c.in-Err.fault in
    let p = was.0 in
    let free = logs.region_free me n i k k seats seats is c.requires.node c.place.ensures.is up a (c.requires.quiet told) in
    let number = (logs.work me n i k k seats seats is c.requires.node c.place.ensures.is up).number in
    subst (λ why. LedOnStop n why [] m (Endures c.give_up.new.self b2)) (sym c.give_up.ensures.says)
    (led_on_stop n (first_page s) f [] m (Endures c.give_up.new.self b2) (log_stop (region k.log) n f (subst (λ j. IsLogFault (region k.log) j f) number c.in-Err.ensures.fault)) (λ stop.
    let halts : MayHalt n (record { shape = s; shared = me.shared; nodes = slice_set me.nodes i (Up k seats) }) b2 m = (
      p,
      logs.there me n i k k seats seats is c.requires.node c.place.ensures.is up (λ os. MayHaltAs n (record { shape = s; shared = me.shared; nodes = os }) b2 p m)
          (read_halts me n i k seats is c.requires.node c.place.ensures.is up a p m was.1 (g.D.Disk.state c.find_update.new.disk).block b2 (c.requires.quiet told) (c.find_update.ensures.outcomes told) (c.find_update.ensures.foreign told) (c.give_up.ensures.outcomes told) (c.give_up.ensures.foreign told)
          (of_stop n f _ stop c.in-Err.ensures.still told free) (of_stop n f _ stop c.in-Err.ensures.cut told free (p.live n) (log_shown me n i k seats is c.requires.node c.place.ensures.is up a p m was.1))),
    ) in
    broke_here n [] 0 m (Endures c.give_up.new.self b2) (no_unlock [] refl) (of_stop n f _ stop c.give_up.ensures.led told m halts)))

-- ---- where the log was read

pub returns-in-Ok-clause-works : goal.returns-in-Ok-clause-works
returns-in-Ok-clause-works g c =
    let me = c.args.store.now in
    let n = c.args.t.node.0 in
    let i = c.place.result in
    let k = c.in-Up.cache in
    let seats = c.in-Up.seats in
    let is = c.requires.ready.is in
    let up = logs.up_at me n i c.index-store-place.result k seats is c.requires.node c.place.ensures.is c.in-Up.is in
    subst (λ v. Works n me v (g.D.Disk.state c.args.disk.now) (g.D.Disk.state c.find_update.new.disk) (g.V.Disk.state c.args.vault.now) (g.V.Disk.state c.args.vault.now)) (sym (store_read me n i k seats is c.requires.node c.place.ensures.is up))
    (works_read me n i k seats is c.requires.node c.place.ensures.is up (g.D.Disk.state c.args.disk.now) (g.D.Disk.state c.find_update.new.disk) (g.V.Disk.state c.args.vault.now) c.find_update.ensures.keeps c.in-Ok.ensures.live c.requires.ready)

pub returns-in-Ok-clause-writes : goal.returns-in-Ok-clause-writes
returns-in-Ok-clause-writes g c = λ told.
    let me = c.args.store.now in
    let n = c.args.t.node.0 in
    let i = c.place.result in
    let k = c.in-Up.cache in
    let seats = c.in-Up.seats in
    let is = c.requires.ready.is in
    let up = logs.up_at me n i c.index-store-place.result k seats is c.requires.node c.place.ensures.is c.in-Up.is in
    let a = (g.D.Disk.state c.args.disk.now).block in
    let b = (g.D.Disk.state c.find_update.new.disk).block in
    subst (λ v. Writes n me v a b) (sym (store_read me n i k seats is c.requires.node c.place.ensures.is up)) (subst (Writes n me me a) (sym (c.in-Ok.ensures.blocks told)) (writes_none n me a (c.requires.quiet told)))

pub returns-in-Ok-clause-cause : goal.returns-in-Ok-clause-cause
returns-in-Ok-clause-cause g c =
    let me = c.args.store.now in
    let n = c.args.t.node.0 in
    let i = c.place.result in
    let k = c.in-Up.cache in
    let seats = c.in-Up.seats in
    let is = c.requires.ready.is in
    let up = logs.up_at me n i c.index-store-place.result k seats is c.requires.node c.place.ensures.is c.in-Up.is in
    err_then c.of_store.result _ _ c.of_store.ensures.fault (λ why is. block_cause (region_of me.shape n) why _ _ is)

pub returns-in-Ok-clause-fault : goal.returns-in-Ok-clause-fault
returns-in-Ok-clause-fault g c =
    let me = c.args.store.now in
    let n = c.args.t.node.0 in
    let i = c.place.result in
    let k = c.in-Up.cache in
    let seats = c.in-Up.seats in
    let is = c.requires.ready.is in
    let up = logs.up_at me n i c.index-store-place.result k seats is c.requires.node c.place.ensures.is c.in-Up.is in
    err_then c.of_store.result _ _ c.of_store.ensures.fault (λ why is. block_says n (region_of me.shape n) why is)

pub returns-in-Ok-clause-down : goal.returns-in-Ok-clause-down
returns-in-Ok-clause-down g c =
    let me = c.args.store.now in
    let n = c.args.t.node.0 in
    let i = c.place.result in
    let k = c.in-Up.cache in
    let seats = c.in-Up.seats in
    let is = c.requires.ready.is in
    let up = logs.up_at me n i c.index-store-place.result k seats is c.requires.node c.place.ensures.is c.in-Up.is in
    err_then c.of_store.result _ _ c.of_store.ensures.fault (λ why is stop. let live = block_stays (region_of me.shape n) why is in let never : false ≡ true = sym live ∙ stop in absurd cc)

pub returns-in-Ok-clause-kept : goal.returns-in-Ok-clause-kept
returns-in-Ok-clause-kept g c =
    let me = c.args.store.now in
    let n = c.args.t.node.0 in
    let i = c.place.result in
    let k = c.in-Up.cache in
    let seats = c.in-Up.seats in
    let is = c.requires.ready.is in
    let up = logs.up_at me n i c.index-store-place.result k seats is c.requires.node c.place.ensures.is c.in-Up.is in
    err_then c.of_store.result _ _ c.of_store.ensures.fault (λ why fault live. (store_read me n i k seats is c.requires.node c.place.ensures.is up, λ told. c.in-Ok.ensures.blocks told))

pub returns-in-Ok-clause-led : goal.returns-in-Ok-clause-led
returns-in-Ok-clause-led g c = err_then c.of_store.result _ _ c.of_store.ensures.fault (λ why is told m was. block_led c.args.t.node.0 (region_of c.args.store.now.shape c.args.t.node.0) why [] m _ is)

pub returns-in-Ok-clause-same : goal.returns-in-Ok-clause-same
returns-in-Ok-clause-same g c =
    let me = c.args.store.now in
    let n = c.args.t.node.0 in
    let i = c.place.result in
    let k = c.in-Up.cache in
    let seats = c.in-Up.seats in
    let is = c.requires.ready.is in
    let up = logs.up_at me n i c.index-store-place.result k seats is c.requires.node c.place.ensures.is c.in-Up.is in
    on_ok c.of_store.result (store_read me n i k seats is c.requires.node c.place.ensures.is up, λ told. c.in-Ok.ensures.blocks told)

pub returns-in-Ok-clause-stopped : goal.returns-in-Ok-clause-stopped
returns-in-Ok-clause-stopped g c = no_err c.of_store.result _ (λ why fails told m shown some.
    let me = c.args.store.now in
    let n = c.args.t.node.0 in
    let i = c.place.result in
    let k = c.in-Up.cache in
    let seats = c.in-Up.seats in
    let is = c.requires.ready.is in
    let up = logs.up_at me n i c.index-store-place.result k seats is c.requires.node c.place.ensures.is c.in-Up.is in
    let s = me.shape in
    let pool = me.shared.pool in
    let a = (g.D.Disk.state c.args.disk.now).block in
    let p = shown.0 in
    let work = logs.work me n i k k seats seats is c.requires.node c.place.ensures.is up in
    let mine = (subst (λ o. ShowsNode s pool n o a p m) up (shown.1.nodes.node n c.requires.node (logs.low me n i k k seats seats is c.requires.node c.place.ensures.is up))).1 in
    let u = txn_of seats c.args.t.seat (subst (λ o. OnUp o (λ e those. IsTrue (is_busy those c.args.t.seat))) up c.requires.busy) in
    let low : c.args.t.seat < 8 = (let at = c.requires.seat in omega (arith, at)) in
    let it = left_after n s pool k seats a p m c.args.t u.0 mine shown.1.nodes.means.logs refl low u.1 c.args.after some in
    let found = c.in-Ok.ensures.found told (p.live n) u.0 (numbers_back it.0) u.1 mine.records mine.told it.3 in
    absurd (never c.of_store.result why (c.of_store.ensures.there (found_range n s pool k seats a p m c.args.t u.0 mine shown.1.nodes.means.logs refl low u.1 shown.1.nodes.shape shown.1.nodes.means.pages it.0 it.1 c.in-Ok.found it.2 found)) fails))

pub returns-in-Ok-clause-next : goal.returns-in-Ok-clause-next
returns-in-Ok-clause-next g c = ok_then c.of_store.result _ _ c.of_store.ensures.same (λ o same told m shown some.
    let me = c.args.store.now in
    let n = c.args.t.node.0 in
    let i = c.place.result in
    let k = c.in-Up.cache in
    let seats = c.in-Up.seats in
    let is = c.requires.ready.is in
    let up = logs.up_at me n i c.index-store-place.result k seats is c.requires.node c.place.ensures.is c.in-Up.is in
    let s = me.shape in
    let pool = me.shared.pool in
    let a = (g.D.Disk.state c.args.disk.now).block in
    let p = shown.0 in
    let work = logs.work me n i k k seats seats is c.requires.node c.place.ensures.is up in
    let mine = (subst (λ o. ShowsNode s pool n o a p m) up (shown.1.nodes.node n c.requires.node (logs.low me n i k k seats seats is c.requires.node c.place.ensures.is up))).1 in
    let u = txn_of seats c.args.t.seat (subst (λ o. OnUp o (λ e those. IsTrue (is_busy those c.args.t.seat))) up c.requires.busy) in
    let low : c.args.t.seat < 8 = (let at = c.requires.seat in omega (arith, at)) in
    let it = left_after n s pool k seats a p m c.args.t u.0 mine shown.1.nodes.means.logs refl low u.1 c.args.after some in
    let found = c.in-Ok.ensures.found told (p.live n) u.0 (numbers_back it.0) u.1 mine.records mine.told it.3 in
    subst (λ q. IfSome q (λ v. IsNumberOf m c.args.t v.0)) (sym same) (found_number n s pool k seats a p m c.args.t u.0 mine shown.1.nodes.means.logs refl low u.1 shown.1.nodes.shape shown.1.nodes.means.pages it.0 it.1 c.in-Ok.found it.2 found))

pub returns-in-Ok-clause-newest : goal.returns-in-Ok-clause-newest
returns-in-Ok-clause-newest g c = λ none. ok_then c.of_store.result _ _ c.of_store.ensures.same (λ o same told m shown.
    let me = c.args.store.now in
    let n = c.args.t.node.0 in
    let i = c.place.result in
    let k = c.in-Up.cache in
    let seats = c.in-Up.seats in
    let is = c.requires.ready.is in
    let up = logs.up_at me n i c.index-store-place.result k seats is c.requires.node c.place.ensures.is c.in-Up.is in
    let s = me.shape in
    let pool = me.shared.pool in
    let a = (g.D.Disk.state c.args.disk.now).block in
    let p = shown.0 in
    let work = logs.work me n i k k seats seats is c.requires.node c.place.ensures.is up in
    let mine = (subst (λ o. ShowsNode s pool n o a p m) up (shown.1.nodes.node n c.requires.node (logs.low me n i k k seats seats is c.requires.node c.place.ensures.is up))).1 in
    let u = txn_of seats c.args.t.seat (subst (λ o. OnUp o (λ e those. IsTrue (is_busy those c.args.t.seat))) up c.requires.busy) in
    let low : c.args.t.seat < 8 = (let at = c.requires.seat in omega (arith, at)) in
    let left = uncompensated u.0.begin (6 * k.log.start) (p.live n) in
    let all : IsLeftAfter u.0.begin (6 * k.log.start) (p.live n) c.args.after left = subst (λ w. IsLeftAfter u.0.begin (6 * k.log.start) (p.live n) w left) (sym none) refl in
    let found = c.in-Ok.ensures.found told (p.live n) u.0 left u.1 mine.records mine.told all in
    subst (λ q. MatchOption q (newest_of m c.args.t ≡ None) (λ v. (d : Deed) × (w : Write) × (newest_of m c.args.t ≡ Some d) × (d.write ≡ Some w) × (w.page ≡ v.1.0))) (sym same) (found_first n s pool k seats a p m c.args.t u.0 mine shown.1.nodes.means.logs refl low u.1 shown.1.nodes.shape shown.1.nodes.means.pages c.in-Ok.found found))
