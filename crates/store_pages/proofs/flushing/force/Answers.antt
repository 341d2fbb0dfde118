use Rattle.std.specs.Prelude.{◌≡◌, ◌∷◌, [], true, false, map, slice_set, refl}
use Rattle.std.proofs.Common.{ap, subst, sym, ◌∙◌}
use Rattle.sd_base.specs.Faults.{IsStopOf}
use Rattle.sd_base.specs.Shape.{first_page}
use Rattle.record_machine.specs.Led.{LedErr}
use Rattle.record_machine.specs.Parts.{Sure, one}
use Rattle.node_cache.specs.Cache.{written_back}
use Rattle.store_nodes.specs.declared.node.Node.TheVariants.{Up}
use Rattle.store_nodes.specs.Endures.{Endures, MayHalt, with_held}
use Rattle.store_nodes.specs.Pages.{KeepsPages}
use Rattle.store_nodes.specs.Shows.{ShowsNode}
use Rattle.store_nodes.proofs.Broken.{broke_here, led_fault, no_unlock, of_stop}
use Rattle.store_pages.proofs.Flushed.{alone_forced, besides_flushed, but_flushed, foreign_forced, on_both, on_now, pages_forced, quiet_but_flushed, quiet_flushed, ring_forced, shows_flushed, store_flushed, work_kept}
use Rattle.store_nodes.proofs.Logs as logs
use Rattle.store_nodes.proofs.ShownWith.{changed_same}
use Rattle.store_pages.proofs.ForcedEndures.{forced_endures, forced_halts}
use Rattle.store_pages.proofs.Sure.{shown_sure}
use Rattle.store_pages.proofs.flushing.force.Goals as goal

pub force-done-requires-clause-free : goal.force-done-requires-clause-free
force-done-requires-clause-free g c = λ told.
    let me = c.args.store.now in
    let n = c.args.n.0 in
    let i = c.place.result in
    let k = c.in-Up.cache in
    let a = (g.D.Disk.state c.args.disk.now).block in
    let seats = c.in-Up._seats in
    let is = c.requires.ready.is in
    let up = logs.up_at me n i c.index-store-place.result k seats is c.requires.node c.place.ensures.is c.in-Up.is in
    logs.region_free me n i k k seats seats is c.requires.node c.place.ensures.is up a (c.requires.quiet told)

pub give_up-requires-clause-is : goal.give_up-requires-clause-is
give_up-requires-clause-is g c =
    let me = c.args.store.now in
    let n = c.args.n.0 in
    let i = c.place.result in
    let k = c.in-Up.cache in
    let d = c.force-done.new.self in
    let seats = c.in-Up._seats in
    let is = c.requires.ready.is in
    let up = logs.up_at me n i c.index-store-place.result k seats is c.requires.node c.place.ensures.is c.in-Up.is in
    but_flushed me n i k d seats is c.requires.node c.place.ensures.is up c.force-done.ensures.node (ap (map written_back) c.force-done.ensures.pages) c.law_of_pages.ensures

pub give_up-requires-clause-quiet : goal.give_up-requires-clause-quiet
give_up-requires-clause-quiet g c = λ told.
    let me = c.args.store.now in
    let n = c.args.n.0 in
    let i = c.place.result in
    let k = c.in-Up.cache in
    let d = c.force-done.new.self in
    let seats = c.in-Up._seats in
    let is = c.requires.ready.is in
    let up = logs.up_at me n i c.index-store-place.result k seats is c.requires.node c.place.ensures.is c.in-Up.is in
    let a = (g.D.Disk.state c.args.disk.now).block in
    let b = (g.D.Disk.state c.force-done.new.disk).block in
    quiet_but_flushed me n i k d seats is c.requires.node c.place.ensures.is up a b (c.force-done.ensures.writers told) (c.requires.quiet told)

pub returns-in-Ok-clause-works : goal.returns-in-Ok-clause-works
returns-in-Ok-clause-works g c =
    let me = c.args.store.now in
    let n = c.args.n.0 in
    let i = c.place.result in
    let k = c.in-Up.cache in
    let d = c.force-done.new.self in
    let seats = c.in-Up._seats in
    let is = c.requires.ready.is in
    let up = logs.up_at me n i c.index-store-place.result k seats is c.requires.node c.place.ensures.is c.in-Up.is in
    logs.works_after me n i k d seats seats is c.requires.node c.place.ensures.is up me.shared (g.D.Disk.state c.args.disk.now) (g.D.Disk.state c.force-done.new.disk) (g.V.Disk.state c.args.vault.now) refl refl
    (store_flushed me n i k d seats is c.requires.node c.place.ensures.is up c.force-done.ensures.node (ap (map written_back) c.force-done.ensures.pages) c.law_of_pages.ensures c.force-done.ensures.same c.force-done.ensures.tail c.force-done.ensures.log_tie)
    c.force-done.ensures.keeps c.in-Ok.ensures.live c.requires.ready.served

pub returns-in-Ok-clause-writes : goal.returns-in-Ok-clause-writes
returns-in-Ok-clause-writes g c = λ told.
    let me = c.args.store.now in
    let n = c.args.n.0 in
    let i = c.place.result in
    let k = c.in-Up.cache in
    let d = c.force-done.new.self in
    let seats = c.in-Up._seats in
    let is = c.requires.ready.is in
    let up = logs.up_at me n i c.index-store-place.result k seats is c.requires.node c.place.ensures.is c.in-Up.is in
    let a = (g.D.Disk.state c.args.disk.now).block in
    let b = (g.D.Disk.state c.force-done.new.disk).block in
    record {
      quiet = quiet_flushed me n i k d seats is c.requires.node c.place.ensures.is up a b (c.force-done.ensures.writers told) (c.requires.quiet told);
      besides = besides_flushed me n i k d seats is c.requires.node c.place.ensures.is up a b (pages_forced me n i k d seats is c.requires.node c.place.ensures.is up a b (c.force-done.ensures.outcomes told));
    }

pub returns-clause-writes : goal.returns-clause-writes
returns-clause-writes g c = λ told.
    let me = c.args.store.now in
    let n = c.args.n.0 in
    let i = c.place.result in
    let k = c.in-Up.cache in
    let d = c.force-done.new.self in
    let seats = c.in-Up._seats in
    let is = c.requires.ready.is in
    let up = logs.up_at me n i c.index-store-place.result k seats is c.requires.node c.place.ensures.is c.in-Up.is in
    let a = (g.D.Disk.state c.args.disk.now).block in
    let b = (g.D.Disk.state c.force-done.new.disk).block in
    record {
      quiet = c.give_up.ensures.quiet told;
      besides = λ j o page ring may. besides_flushed me n i k d seats is c.requires.node c.place.ensures.is up a b (pages_forced me n i k d seats is c.requires.node c.place.ensures.is up a b (c.force-done.ensures.outcomes told)) j o page ring (c.give_up.ensures.outcomes told j o may);
    }

pub returns-in-Ok-clause-kept : goal.returns-in-Ok-clause-kept
returns-in-Ok-clause-kept g c =
    let me = c.args.store.now in
    let n = c.args.n.0 in
    let i = c.place.result in
    let k = c.in-Up.cache in
    let d = c.force-done.new.self in
    let seats = c.in-Up._seats in
    let is = c.requires.ready.is in
    let up = logs.up_at me n i c.index-store-place.result k seats is c.requires.node c.place.ensures.is c.in-Up.is in
    work_kept me n i k d seats is c.requires.node c.place.ensures.is up

pub returns-in-Ok-clause-pages : goal.returns-in-Ok-clause-pages
returns-in-Ok-clause-pages g c =
    let me = c.args.store.now in
    let n = c.args.n.0 in
    let i = c.place.result in
    let k = c.in-Up.cache in
    let d = c.force-done.new.self in
    let seats = c.in-Up._seats in
    let is = c.requires.ready.is in
    let up = logs.up_at me n i c.index-store-place.result k seats is c.requires.node c.place.ensures.is c.in-Up.is in
    on_both me n i k d seats is c.requires.node c.place.ensures.is up (λ e o. KeepsPages e o) c.force-done.ensures.pages

pub returns-in-Ok-clause-stable : goal.returns-in-Ok-clause-stable
returns-in-Ok-clause-stable g c =
    let me = c.args.store.now in
    let n = c.args.n.0 in
    let i = c.place.result in
    let k = c.in-Up.cache in
    let d = c.force-done.new.self in
    let seats = c.in-Up._seats in
    let is = c.requires.ready.is in
    let up = logs.up_at me n i c.index-store-place.result k seats is c.requires.node c.place.ensures.is c.in-Up.is in
    on_now me n i k d seats is c.requires.node c.place.ensures.is up (λ e those. e.log.stable ≡ e.log.tail) (c.in-Ok.ensures.stable ∙ sym c.force-done.ensures.tail)

pub returns-in-Ok-clause-ring : goal.returns-in-Ok-clause-ring
returns-in-Ok-clause-ring g c = λ told.
    let me = c.args.store.now in
    let n = c.args.n.0 in
    let i = c.place.result in
    let k = c.in-Up.cache in
    let d = c.force-done.new.self in
    let seats = c.in-Up._seats in
    let is = c.requires.ready.is in
    let up = logs.up_at me n i c.index-store-place.result k seats is c.requires.node c.place.ensures.is c.in-Up.is in
    let a = (g.D.Disk.state c.args.disk.now).block in
    let b = (g.D.Disk.state c.force-done.new.disk).block in
    ring_forced me n i k d seats is c.requires.node c.place.ensures.is up a b (c.force-done.ensures.outcomes told)

pub returns-clause-ring : goal.returns-clause-ring
returns-clause-ring g c = λ told j o ring may.
    let me = c.args.store.now in
    let n = c.args.n.0 in
    let i = c.place.result in
    let k = c.in-Up.cache in
    let d = c.force-done.new.self in
    let seats = c.in-Up._seats in
    let is = c.requires.ready.is in
    let up = logs.up_at me n i c.index-store-place.result k seats is c.requires.node c.place.ensures.is c.in-Up.is in
    let a = (g.D.Disk.state c.args.disk.now).block in
    let b = (g.D.Disk.state c.force-done.new.disk).block in
    ring_forced me n i k d seats is c.requires.node c.place.ensures.is up a b (c.force-done.ensures.outcomes told) j o ring (c.give_up.ensures.outcomes told j o may)

pub returns-in-Ok-clause-contents : goal.returns-in-Ok-clause-contents
returns-in-Ok-clause-contents g c = λ told.
    let me = c.args.store.now in
    let n = c.args.n.0 in
    let i = c.place.result in
    let k = c.in-Up.cache in
    let d = c.force-done.new.self in
    let seats = c.in-Up._seats in
    let is = c.requires.ready.is in
    let up = logs.up_at me n i c.index-store-place.result k seats is c.requires.node c.place.ensures.is c.in-Up.is in
    let a = (g.D.Disk.state c.args.disk.now).block in
    let b = (g.D.Disk.state c.force-done.new.disk).block in
    alone_forced me n i k d seats is c.requires.node c.place.ensures.is up a b (c.in-Ok.ensures.contents told)

pub returns-in-Ok-clause-shows : goal.returns-in-Ok-clause-shows
returns-in-Ok-clause-shows g c = λ told m shown.
    let me = c.args.store.now in
    let n = c.args.n.0 in
    let i = c.place.result in
    let k = c.in-Up.cache in
    let d = c.force-done.new.self in
    let seats = c.in-Up._seats in
    let is = c.requires.ready.is in
    let up = logs.up_at me n i c.index-store-place.result k seats is c.requires.node c.place.ensures.is c.in-Up.is in
    let a = (g.D.Disk.state c.args.disk.now).block in
    let b = (g.D.Disk.state c.force-done.new.disk).block in
    let same = c.force-done.ensures.pages in
    shown_sure (record { shape = me.shape; shared = me.shared; nodes = slice_set me.nodes i (Up d seats) }) b n m (
      shown.0,
      record {
        nodes = shows_flushed me n i k d seats is c.requires.node c.place.ensures.is up a b shown.0 m shown.1.nodes (ap (map written_back) same) c.force-done.ensures.same (c.in-Ok.ensures.log told) (foreign_forced me n i k d seats is c.requires.node c.place.ensures.is up a b (c.force-done.ensures.foreign told)) (c.requires.quiet told) (pages_forced me n i k d seats is c.requires.node c.place.ensures.is up a b (c.force-done.ensures.outcomes told))
            (λ x low more clean. let never : true ≡ false = sym more ∙ sym (changed_same x k d same) ∙ clean in absurd cc);
        locks = shown.1.locks;
        reopening = shown.1.reopening;
      },
    )

pub returns-in-Ok-clause-led : goal.returns-in-Ok-clause-led
returns-in-Ok-clause-led g c = λ told m was.
    let me = c.args.store.now in
    let n = c.args.n.0 in
    let i = c.place.result in
    let k = c.in-Up.cache in
    let d = c.force-done.new.self in
    let seats = c.in-Up._seats in
    let is = c.requires.ready.is in
    let up = logs.up_at me n i c.index-store-place.result k seats is c.requires.node c.place.ensures.is c.in-Up.is in
    let a = (g.D.Disk.state c.args.disk.now).block in
    let b = (g.D.Disk.state c.force-done.new.disk).block in
    logs.there me n i k d seats seats is c.requires.node c.place.ensures.is up (λ os. Endures (record { shape = me.shape; shared = me.shared; nodes = os }) b (one (Sure n) m))
    (forced_endures me n i k d seats is c.requires.node c.place.ensures.is up a b m was (c.force-done.ensures.outcomes told) (c.force-done.ensures.foreign told) (c.requires.quiet told) c.force-done.ensures.pages c.force-done.ensures.same c.in-Ok.ensures.stable (c.in-Ok.ensures.log told))

pub returns-clause-led : goal.returns-clause-led
returns-clause-led g c = λ told m was.
    let me = c.args.store.now in
    let n = c.args.n.0 in
    let i = c.place.result in
    let k = c.in-Up.cache in
    let d = c.force-done.new.self in
    let seats = c.in-Up._seats in
    let is = c.requires.ready.is in
    let up = logs.up_at me n i c.index-store-place.result k seats is c.requires.node c.place.ensures.is c.in-Up.is in
    let a = (g.D.Disk.state c.args.disk.now).block in
    let b = (g.D.Disk.state c.force-done.new.disk).block in
    let b2 = (g.D.Disk.state c.give_up.new.disk).block in
    let work = logs.work me n i k d seats seats is c.requires.node c.place.ensures.is up in
    let stop = subst (λ j. IsStopOf j c.in-Err.fault) work.number c.in-Err.ensures.fault in
    let mine = subst (λ o. ShowsNode me.shape me.shared.pool n o a was.0 (with_held was.1.held m)) up (was.1.nodes.node n c.requires.node (logs.low me n i k d seats seats is c.requires.node c.place.ensures.is up)) in
    let halts : MayHalt n (record { shape = me.shape; shared = me.shared; nodes = slice_set me.nodes i (Up d seats) }) b2 m = logs.there me n i k d seats seats is c.requires.node c.place.ensures.is up (λ os. MayHalt n (record { shape = me.shape; shared = me.shared; nodes = os }) b2 m)
    (forced_halts me n i k d seats is c.requires.node c.place.ensures.is up a b m was (c.force-done.ensures.outcomes told) (c.force-done.ensures.foreign told) (c.requires.quiet told) b2 (c.give_up.ensures.outcomes told) (c.give_up.ensures.foreign told) (c.in-Err.ensures.cut told _ mine.1.records.on) (c.in-Err.ensures.still told)) in
    subst (λ why. LedErr n why (Sure n ∷ []) m (Endures c.give_up.new.self b2)) (sym c.give_up.ensures.says)
    (led_fault n (first_page me.shape) c.in-Err.fault (Sure n ∷ []) m (Endures c.give_up.new.self b2) stop
    (broke_here n (Sure n ∷ []) 0 m (Endures c.give_up.new.self b2) (no_unlock [] refl) (of_stop n c.in-Err.fault _ stop c.give_up.ensures.led told m halts)))
