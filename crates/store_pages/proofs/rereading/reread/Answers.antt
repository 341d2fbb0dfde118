use Rattle.std.specs.Prelude.{◌≡◌, [], true, false, IsTrue, length, slice_set, refl}
use Rattle.std.proofs.Common.{inr, ap, subst, sym, ◌∙◌, length-set}
use Rattle.sd_base.specs.Faults.{IsStopOf}
use Rattle.sd_base.specs.Shape.{first_page}
use Rattle.page_owner.specs.declared.owners.Own.TheVariants.{Out}
use Rattle.page_owner.specs.Owners.{owner_of}
use Rattle.private_log.specs.Reading.{contents}
use Rattle.state_ids.specs.Blocks.{IsPageFault, UnlessStopped, page_place}
use Rattle.node_cache.specs.Cache.{is_cached, is_changed}
use Rattle.node_cache.specs.Room.{IsOpenTo}
use Rattle.store_nodes.specs.declared.node.Node.TheVariants.{Down, Up}
use Rattle.store_nodes.specs.Causes.{IsFaultOfPage, IsToldOfPages}
use Rattle.record_machine.specs.Led.{LedOnStop}
use Rattle.store_nodes.specs.Endures.{Endures, MayHalt, MayHaltAs}
use Rattle.store_nodes.specs.Nodes.{OnUp, node_at}
use Rattle.store_nodes.specs.Ports.{IsReady, IsStopReply, Works, Writes, reply_to, says_stop}
use Rattle.store_nodes.proofs.Broken.{broke_here, no_unlock, of_stop}
use Rattle.store_nodes.proofs.Eight.{at_same}
use Rattle.store_nodes.proofs.LogReplies.{stop_says, unless_live, unless_stopped, where_live, where_stopped}
use Rattle.store_nodes.proofs.Logs as logs
use Rattle.store_pages.proofs.LogReads.{but_read, quiet_but_read, quiet_read, ready_read, store_read, works_read}
use Rattle.store_pages.proofs.PageReplies.{fault_says, told_says, unless_then}
use Rattle.store_pages.proofs.ReadEndures.{led_on_stop, log_shown, page_stop, read_halts}
use Rattle.store_pages.proofs.Sequences.{writes_none}
use Rattle.store_pages.proofs.ShownTaken.{settled_clean}
use Rattle.store_pages.proofs.rereading.reread.Goals as goal

-- ---- where it gives up

pub give_up-requires-clause-is : goal.give_up-requires-clause-is
give_up-requires-clause-is g c =
    let me = c.args.store.now in
    let n = c.args.n.0 in
    let i = c.place.result in
    let k = c.in-Up.cache in
    let seats = c.in-Up._seats in
    let is = c.requires.ready.is in
    let up = logs.up_at me n i c.index-store-place.result k seats is c.requires.node c.place.ensures.is c.in-Up.is in
    but_read me n i k seats is c.requires.node c.place.ensures.is up

pub give_up-requires-clause-quiet : goal.give_up-requires-clause-quiet
give_up-requires-clause-quiet g c = λ told.
    let me = c.args.store.now in
    let n = c.args.n.0 in
    let i = c.place.result in
    let k = c.in-Up.cache in
    let seats = c.in-Up._seats in
    let is = c.requires.ready.is in
    let up = logs.up_at me n i c.index-store-place.result k seats is c.requires.node c.place.ensures.is c.in-Up.is in
    let a = (g.D.Disk.state c.args.disk.now).block in
    let b = (g.D.Disk.state c.reread.new.disk).block in
    quiet_but_read me n i k seats is c.requires.node c.place.ensures.is up a b (c.reread.ensures.writers told) (c.requires.quiet told)

pub give_up-requires-clause-ready : goal.give_up-requires-clause-ready
give_up-requires-clause-ready g c =
    let me = c.args.store.now in
    let n = c.args.n.0 in
    let i = c.place.result in
    let k = c.in-Up.cache in
    let seats = c.in-Up._seats in
    let is = c.requires.ready.is in
    let up = logs.up_at me n i c.index-store-place.result k seats is c.requires.node c.place.ensures.is c.in-Up.is in
    subst (λ v. UnlessStopped c.in-Err.fault (IsReady v (g.D.Disk.state c.reread.new.disk) (g.V.Disk.state c.args.vault.now))) (sym (store_read me n i k seats is c.requires.node c.place.ensures.is up))
    (unless_live c.in-Err.fault _ _ _ _ c.in-Err.ensures.live c.in-Err.ensures.live c.in-Err.ensures.live (λ live same again. ready_read me n i k seats is c.requires.node c.place.ensures.is up (g.D.Disk.state c.args.disk.now) (g.D.Disk.state c.reread.new.disk) (g.V.Disk.state c.args.vault.now) c.reread.ensures.keeps live c.requires.ready))

pub give_up-requires-clause-quiet_all : goal.give_up-requires-clause-quiet_all
give_up-requires-clause-quiet_all g c =
    let me = c.args.store.now in
    let n = c.args.n.0 in
    let i = c.place.result in
    let k = c.in-Up.cache in
    let seats = c.in-Up._seats in
    let is = c.requires.ready.is in
    let up = logs.up_at me n i c.index-store-place.result k seats is c.requires.node c.place.ensures.is c.in-Up.is in
    let a = (g.D.Disk.state c.args.disk.now).block in
    let b = (g.D.Disk.state c.reread.new.disk).block in
    unless_stopped c.in-Err.fault _ (λ told. quiet_read me n i k seats is c.requires.node c.place.ensures.is up a b (c.reread.ensures.writers told) (c.requires.quiet told))

pub returns-clause-works : goal.returns-clause-works
returns-clause-works g c =
    let me = c.args.store.now in
    let n = c.args.n.0 in
    let i = c.place.result in
    let k = c.in-Up.cache in
    let seats = c.in-Up._seats in
    let is = c.requires.ready.is in
    let up = logs.up_at me n i c.index-store-place.result k seats is c.requires.node c.place.ensures.is c.in-Up.is in
    logs.works_stopped me n i k k seats seats is c.requires.node c.place.ensures.is up me.shared c.give_up.new.self
    (g.D.Disk.state c.args.disk.now) (g.D.Disk.state c.reread.new.disk) (g.D.Disk.state c.give_up.new.disk) (g.V.Disk.state c.args.vault.now) (g.V.Disk.state c.give_up.new.vault) refl c.reread.ensures.keeps c.give_up.ensures.works

pub returns-clause-writes : goal.returns-clause-writes
returns-clause-writes g c = λ told.
    let me = c.args.store.now in
    let n = c.args.n.0 in
    let i = c.place.result in
    let k = c.in-Up.cache in
    let seats = c.in-Up._seats in
    let is = c.requires.ready.is in
    let up = logs.up_at me n i c.index-store-place.result k seats is c.requires.node c.place.ensures.is c.in-Up.is in
    record {
      quiet = c.give_up.ensures.quiet told;
      besides = λ j o page ring may. c.reread.ensures.outcomes told j o (c.give_up.ensures.outcomes told j o may);
    }

pub returns-clause-fault : goal.returns-clause-fault
returns-clause-fault g c =
    let me = c.args.store.now in
    let n = c.args.n.0 in
    let i = c.place.result in
    let k = c.in-Up.cache in
    let seats = c.in-Up._seats in
    let is = c.requires.ready.is in
    let up = logs.up_at me n i c.index-store-place.result k seats is c.requires.node c.place.ensures.is c.in-Up.is in
    let work = logs.work me n i k k seats seats is c.requires.node c.place.ensures.is up in
    subst (IsFaultOfPage me.shape n c.args.x) (sym c.give_up.ensures.says)
    (subst (λ j. IsFaultOfPage me.shape j c.args.x (reply_to (first_page me.shape) c.in-Err.fault)) work.number (fault_says me.shape c.args.x k.node.0 c.in-Err.fault c.in-Err.ensures.fault))

pub returns-clause-told : goal.returns-clause-told
returns-clause-told g c = λ told.
    let s = c.args.store.now.shape in
    let last = contents (g.D.Disk.state c.give_up.new.disk).block in
    subst (IsToldOfPages s last) (sym c.give_up.ensures.says)
    (told_says s c.args.x c.in-Up.cache.node.0 c.in-Err.fault (contents (g.D.Disk.state c.args.disk.now).block) last c.in-Err.ensures.fault (c.in-Err.ensures.told told)
    (unless_then _ ((g.D.Disk.state c.reread.new.disk).block ≡ (g.D.Disk.state c.args.disk.now).block) c.reread.result c.in-Err.fault c.in-Err.is (c.reread.ensures.blocks told) c.give_up.ensures.kept
    (λ same kept. ap (λ d. ((g.D.Disk.state d).block (page_place s c.args.x)).current) kept.1 ∙ ap (λ b. (b (page_place s c.args.x)).current) same)))

pub returns-clause-down : goal.returns-clause-down
returns-clause-down g c = λ stop.
    let me = c.args.store.now in
    let n = c.args.n.0 in
    let nodes = slice_set me.nodes c.place.result (Up c.in-Up.cache c.in-Up._seats) in
    let eight : length nodes ≡ 8 = length-set me.nodes c.place.result _ ∙ c.requires.ready.is.shared.eight in
    let halts = where_stopped (first_page me.shape) c.in-Err.fault _ (subst (λ r. says_stop r ≡ true) c.give_up.ensures.says stop) c.give_up.ensures.halts in
    ap (λ os. node_at os n) halts.nodes ∙ at_same nodes n Down eight c.requires.node

pub returns-clause-kept : goal.returns-clause-kept
returns-clause-kept g c = λ live.
    let me = c.args.store.now in
    let n = c.args.n.0 in
    let i = c.place.result in
    let k = c.in-Up.cache in
    let seats = c.in-Up._seats in
    let is = c.requires.ready.is in
    let up = logs.up_at me n i c.index-store-place.result k seats is c.requires.node c.place.ensures.is c.in-Up.is in
    let says = subst (λ r. says_stop r ≡ false) c.give_up.ensures.says live in
    let same = where_live (first_page me.shape) c.in-Err.fault _ says c.give_up.ensures.kept in (
      same.0 ∙ store_read me n i k seats is c.requires.node c.place.ensures.is up,
      λ told.
          let d = g.D.Disk.state c.reread.new.disk in
          let read = where_live (first_page me.shape) c.in-Err.fault (d.block ≡ (g.D.Disk.state c.args.disk.now).block) says (unless_live c.in-Err.fault _ _ _ _ (c.in-Err.ensures.blocks told) (c.in-Err.ensures.blocks told) (c.in-Err.ensures.blocks told) (λ blocks again once. blocks)) in
          ap (λ e. (g.D.Disk.state e).block) same.1 ∙ read,
    )

pub returns-clause-stopped : goal.returns-clause-stopped
returns-clause-stopped g c = λ clean told m shown.
    let me = c.args.store.now in
    let n = c.args.n.0 in
    let i = c.place.result in
    let k = c.in-Up.cache in
    let seats = c.in-Up._seats in
    let is = c.requires.ready.is in
    let up = logs.up_at me n i c.index-store-place.result k seats is c.requires.node c.place.ensures.is c.in-Up.is in
    let a = (g.D.Disk.state c.args.disk.now).block in
    let work = logs.work me n i k k seats seats is c.requires.node c.place.ensures.is up in
    let here = subst (λ o. OnUp o (λ d those. IsTrue (is_cached c.args.x d) × (is_changed c.args.x d ≡ false))) up clean in
    let name : k.node ≡ c.args.n = ap (λ j. record { 0 = j }) work.number in
    let free : IsOpenTo c.args.n (owner_of me.shared.owners c.args.x.0) = inr (inr ((work.owned c.args.x).1 here.0 ∙ ap Out name)) in
    let settled = settled_clean me c.args.n c.args.x k seats is c.requires.node up free here.1 in
    let found = shown.1.nodes.stored c.args.x c.requires.page settled (a (page_place me.shape c.args.x)).current (g.met.D.Disk.lawful c.args.disk.now (page_place me.shape c.args.x) told).current in
    subst (IsStopReply n) (sym c.give_up.ensures.says) (stop_says n (first_page me.shape) c.in-Err.fault (subst (λ j. IsStopOf j c.in-Err.fault) work.number (c.in-Err.ensures.there told found.0 found.1)))

pub returns-clause-led : goal.returns-clause-led
returns-clause-led g c = λ told m was.
    let me = c.args.store.now in
    let s = me.shape in
    let n = c.args.n.0 in
    let i = c.place.result in
    let k = c.in-Up.cache in
    let seats = c.in-Up._seats in
    let is = c.requires.ready.is in
    let up = logs.up_at me n i c.index-store-place.result k seats is c.requires.node c.place.ensures.is c.in-Up.is in
    let a = (g.D.Disk.state c.args.disk.now).block in
    let b = (g.D.Disk.state c.reread.new.disk).block in
    let b2 = (g.D.Disk.state c.give_up.new.disk).block in
    let f = c.in-Err.fault in
    let p = was.0 in
    let free = logs.region_free me n i k k seats seats is c.requires.node c.place.ensures.is up a (c.requires.quiet told) in
    let number = (logs.work me n i k k seats seats is c.requires.node c.place.ensures.is up).number in
    let recs = (log_shown me n i k seats is c.requires.node c.place.ensures.is up a p m was.1).on in
    subst (λ why. LedOnStop n why [] m (Endures c.give_up.new.self b2)) (sym c.give_up.ensures.says)
    (led_on_stop n (first_page s) f [] m (Endures c.give_up.new.self b2) (page_stop s c.args.x n f (subst (λ j. IsPageFault s c.args.x j f) number c.in-Err.ensures.fault)) (λ stop.
    let halts : MayHalt n (record { shape = s; shared = me.shared; nodes = slice_set me.nodes i (Up k seats) }) b2 m = (
      p,
      logs.there me n i k k seats seats is c.requires.node c.place.ensures.is up (λ os. MayHaltAs n (record { shape = s; shared = me.shared; nodes = os }) b2 p m)
          (read_halts me n i k seats is c.requires.node c.place.ensures.is up a p m was.1 b b2 (c.requires.quiet told) (c.reread.ensures.outcomes told) (c.reread.ensures.foreign told) (c.give_up.ensures.outcomes told) (c.give_up.ensures.foreign told)
          (of_stop n f _ stop (c.in-Err.ensures.still told free)) (of_stop n f _ stop (c.in-Err.ensures.cut told free _ recs))),
    ) in
    broke_here n [] 0 m (Endures c.give_up.new.self b2) (no_unlock [] refl) (of_stop n f _ stop c.give_up.ensures.led told m halts)))

-- ---- where the block was read

pub returns-in-Ok-clause-works : goal.returns-in-Ok-clause-works
returns-in-Ok-clause-works g c =
    let me = c.args.store.now in
    let n = c.args.n.0 in
    let i = c.place.result in
    let k = c.in-Up.cache in
    let seats = c.in-Up._seats in
    let is = c.requires.ready.is in
    let up = logs.up_at me n i c.index-store-place.result k seats is c.requires.node c.place.ensures.is c.in-Up.is in
    subst (λ v. Works n me v (g.D.Disk.state c.args.disk.now) (g.D.Disk.state c.reread.new.disk) (g.V.Disk.state c.args.vault.now) (g.V.Disk.state c.args.vault.now)) (sym (store_read me n i k seats is c.requires.node c.place.ensures.is up))
    (works_read me n i k seats is c.requires.node c.place.ensures.is up (g.D.Disk.state c.args.disk.now) (g.D.Disk.state c.reread.new.disk) (g.V.Disk.state c.args.vault.now) c.reread.ensures.keeps c.in-Ok.ensures.live c.requires.ready)

pub returns-in-Ok-clause-writes : goal.returns-in-Ok-clause-writes
returns-in-Ok-clause-writes g c = λ told.
    let me = c.args.store.now in
    let n = c.args.n.0 in
    let i = c.place.result in
    let k = c.in-Up.cache in
    let seats = c.in-Up._seats in
    let is = c.requires.ready.is in
    let up = logs.up_at me n i c.index-store-place.result k seats is c.requires.node c.place.ensures.is c.in-Up.is in
    let a = (g.D.Disk.state c.args.disk.now).block in
    let b = (g.D.Disk.state c.reread.new.disk).block in
    subst (λ v. Writes n me v a b) (sym (store_read me n i k seats is c.requires.node c.place.ensures.is up)) (subst (Writes n me me a) (sym (c.in-Ok.ensures.blocks told)) (writes_none n me a (c.requires.quiet told)))
