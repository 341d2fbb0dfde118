use Rattle.std.proofs.Common.{◌≡◌, ◌∷◌, [], Some, IsTrue, ap, inl, inr, refl, subst, sym, length, length-set, ◌∙◌}
use Rattle.std.proofs.lemmas.Bool.{cases_lt}
use Rattle.sd_base.specs.Faults.{IsStopOf}
use Rattle.sd_base.specs.Shape.{first_page}
use Rattle.record_locks.specs.Held.{without_txn}
use Rattle.txn_core.specs.Ending.{end_record}
use Rattle.txn_core.specs.Seats.{OpenTxn, is_busy, txn_in}
use Rattle.txn_core.proofs.SeatLaws.{ends_alone, txn_of}
use Rattle.record_machine.specs.Led.{Broke, LedErr}
use Rattle.record_machine.specs.Machine.{Machine}
use Rattle.record_machine.specs.Meaning.{logged}
use Rattle.record_machine.specs.Parts.{Seal, Unlock, dos, one}
use Rattle.record_machine.proofs.SealSteps.{sealed_own}
use Rattle.record_machine.proofs.Steps.{means_sealed, means_unlocked}
use Rattle.store_nodes.specs.declared.node.Node.TheVariants.{Up}
use Rattle.store_nodes.specs.Endures.{Endures, MayHalt, Stops, with_held}
use Rattle.store_nodes.specs.Nodes.{OnUp, with_node}
use Rattle.store_nodes.specs.Shows.{ShowsNode, ShowsStoreOf}
use Rattle.record_machine.proofs.Put.{put_other}
use Rattle.store_nodes.proofs.Broken.{broke_here, led_fault, no_unlock, of_stop}
use Rattle.store_nodes.proofs.EnduresEnded.{ended_endures, gone_halts, sealed_halts}
use Rattle.store_nodes.proofs.Logs as logs
use Rattle.store_nodes.proofs.ShownEnd.{up_ended}
use Rattle.store_nodes.proofs.ShownLogged.{length_shown, logged_others, logged_stored}
use Rattle.store_nodes.proofs.ShownWith.{shown_with}
use Rattle.store_nodes.proofs.store.Store.end.Goals as goal

pub end-done-requires-clause-free : goal.end-done-requires-clause-free
end-done-requires-clause-free g c = λ told.
    let me = c.args.self.now in
    let n = c.args.t.node.0 in
    let is = c.requires.ready.is in
    let up = logs.up_at me n c.place.result c.index-self-place.result c.in-Up.cache c.in-Up.seats is c.requires.node c.place.ensures.is c.in-Up.is in
    logs.region_free me n c.place.result c.in-Up.cache c.in-Up.cache c.in-Up.seats c.in-Up.seats is c.requires.node c.place.ensures.is up (g.D.Disk.state c.args.disk.now).block (c.requires.quiet told)

pub give_up-requires-clause-is : goal.give_up-requires-clause-is
give_up-requires-clause-is g c =
    let me = c.args.self.now in
    let n = c.args.t.node.0 in
    let is = c.requires.ready.is in
    let up = logs.up_at me n c.place.result c.index-self-place.result c.in-Up.cache c.in-Up.seats is c.requires.node c.place.ensures.is c.in-Up.is in
    logs.but_after me n c.place.result c.in-Up.cache c.end-done.new.c c.in-Up.seats c.end-done.new.self is c.requires.node c.place.ensures.is up c.end-done.ensures.cache_node c.end-done.ensures.pages c.law_of_pages.ensures

pub give_up-requires-clause-quiet : goal.give_up-requires-clause-quiet
give_up-requires-clause-quiet g c = λ told.
    let me = c.args.self.now in
    let n = c.args.t.node.0 in
    let is = c.requires.ready.is in
    let up = logs.up_at me n c.place.result c.index-self-place.result c.in-Up.cache c.in-Up.seats is c.requires.node c.place.ensures.is c.in-Up.is in
    logs.quiet_but_after me n c.place.result c.in-Up.cache c.end-done.new.c c.in-Up.seats c.end-done.new.self is c.requires.node c.place.ensures.is up (g.D.Disk.state c.args.disk.now).block (g.D.Disk.state c.end-done.new.disk).block (c.end-done.ensures.writers told) (c.requires.quiet told)

pub returns-in-Ok-clause-works : goal.returns-in-Ok-clause-works
returns-in-Ok-clause-works g c =
    let me = c.args.self.now in
    let n = c.args.t.node.0 in
    let is = c.requires.ready.is in
    let up = logs.up_at me n c.place.result c.index-self-place.result c.in-Up.cache c.in-Up.seats is c.requires.node c.place.ensures.is c.in-Up.is in
    logs.works_after me n c.place.result c.in-Up.cache c.end-done.new.c c.in-Up.seats c.end-done.new.self is c.requires.node c.place.ensures.is up (record me.shared { locks = c.release_txn.new.self }) (g.D.Disk.state c.args.disk.now) (g.D.Disk.state c.end-done.new.disk) (g.V.Disk.state c.args.vault.now) refl refl
    (logs.store_after me n c.place.result c.in-Up.cache c.end-done.new.c c.in-Up.seats c.end-done.new.self is c.requires.node c.place.ensures.is up c.end-done.ensures.cache_node c.end-done.ensures.pages c.law_of_pages.ensures c.end-done.ensures.same c.in-Ok.ensures.log_tie c.in-Ok.ensures.tie
    (ap length c.in-Ok.ensures.seats ∙ length-set c.in-Up.seats.seats c.args.t.seat _))
    c.end-done.ensures.keeps c.in-Ok.ensures.live c.requires.ready.served

pub returns-in-Ok-clause-writes : goal.returns-in-Ok-clause-writes
returns-in-Ok-clause-writes g c = λ told.
    let me = c.args.self.now in
    let n = c.args.t.node.0 in
    let is = c.requires.ready.is in
    let up = logs.up_at me n c.place.result c.index-self-place.result c.in-Up.cache c.in-Up.seats is c.requires.node c.place.ensures.is c.in-Up.is in
    let a = (g.D.Disk.state c.args.disk.now).block in
    let b = (g.D.Disk.state c.end-done.new.disk).block in
    record {
      quiet = logs.quiet_after me n c.place.result c.in-Up.cache c.end-done.new.c c.in-Up.seats c.end-done.new.self is c.requires.node c.place.ensures.is up a b (c.end-done.ensures.writers told) (c.requires.quiet told);
      besides = logs.besides_after me n c.place.result c.in-Up.cache c.end-done.new.c c.in-Up.seats c.end-done.new.self is c.requires.node c.place.ensures.is up a b (c.end-done.ensures.outcomes told);
    }

pub returns-clause-writes : goal.returns-clause-writes
returns-clause-writes g c = λ told.
    let me = c.args.self.now in
    let n = c.args.t.node.0 in
    let is = c.requires.ready.is in
    let up = logs.up_at me n c.place.result c.index-self-place.result c.in-Up.cache c.in-Up.seats is c.requires.node c.place.ensures.is c.in-Up.is in
    let a = (g.D.Disk.state c.args.disk.now).block in
    let b = (g.D.Disk.state c.end-done.new.disk).block in
    record {
      quiet = c.give_up.ensures.quiet told;
      besides = λ k o page ring may. logs.besides_after me n c.place.result c.in-Up.cache c.end-done.new.c c.in-Up.seats c.end-done.new.self is c.requires.node c.place.ensures.is up a b (c.end-done.ensures.outcomes told) k o page ring (c.give_up.ensures.outcomes told k o may);
    }

pub end-done-requires-clause-nothing : goal.end-done-requires-clause-nothing
end-done-requires-clause-nothing g c = λ abort.
    let me = c.args.self.now in
    let n = c.args.t.node.0 in
    let is = c.requires.ready.is in
    let up = logs.up_at me n c.place.result c.index-self-place.result c.in-Up.cache c.in-Up.seats is c.requires.node c.place.ensures.is c.in-Up.is in
    subst (λ o. OnUp o (λ d seats. (u : OpenTxn) → txn_in seats c.args.t.seat ≡ Some u → u.left ≡ 0)) up (c.requires.nothing abort)

pub returns-in-Ok-clause-ring : goal.returns-in-Ok-clause-ring
returns-in-Ok-clause-ring g c = λ told.
    let me = c.args.self.now in
    let n = c.args.t.node.0 in
    let is = c.requires.ready.is in
    let up = logs.up_at me n c.place.result c.index-self-place.result c.in-Up.cache c.in-Up.seats is c.requires.node c.place.ensures.is c.in-Up.is in
    logs.ring_after me n c.place.result c.in-Up.cache c.end-done.new.c c.in-Up.seats c.end-done.new.self is c.requires.node c.place.ensures.is up (g.D.Disk.state c.args.disk.now).block (g.D.Disk.state c.end-done.new.disk).block (c.end-done.ensures.outcomes told)

pub returns-clause-ring : goal.returns-clause-ring
returns-clause-ring g c = λ told k o ring may.
    let me = c.args.self.now in
    let n = c.args.t.node.0 in
    let is = c.requires.ready.is in
    let up = logs.up_at me n c.place.result c.index-self-place.result c.in-Up.cache c.in-Up.seats is c.requires.node c.place.ensures.is c.in-Up.is in
    logs.ring_after me n c.place.result c.in-Up.cache c.end-done.new.c c.in-Up.seats c.end-done.new.self is c.requires.node c.place.ensures.is up (g.D.Disk.state c.args.disk.now).block (g.D.Disk.state c.end-done.new.disk).block (c.end-done.ensures.outcomes told) k o ring (c.give_up.ensures.outcomes told k o may)

pub returns-in-Ok-clause-shows : goal.returns-in-Ok-clause-shows
returns-in-Ok-clause-shows g c = λ told m shown_by.
    let me = c.args.self.now in
    let s = me.shape in
    let t = c.args.t in
    let n = t.node.0 in
    let is = c.requires.ready.is in
    let up = logs.up_at me n c.place.result c.index-self-place.result c.in-Up.cache c.in-Up.seats is c.requires.node c.place.ensures.is c.in-Up.is in
    let k = c.in-Up.cache in
    let d = c.end-done.new.c in
    let seats = c.in-Up.seats in
    let after = c.end-done.new.self in
    let a = (g.D.Disk.state c.args.disk.now).block in
    let b = (g.D.Disk.state c.end-done.new.disk).block in
    let p = shown_by.0 in
    let was = shown_by.1.nodes in
    let work = logs.work me n c.place.result k d seats after is c.requires.node c.place.ensures.is up in
    let low = logs.low me n c.place.result k d seats after is c.requires.node c.place.ensures.is up in
    let mine = subst (λ o. ShowsNode s me.shared.pool n o a p m) up (was.node n c.requires.node low) in
    let busy : IsTrue (is_busy seats t.seat) = subst (λ o. OnUp o (λ e those. IsTrue (is_busy those t.seat))) up c.requires.busy in
    let txn = txn_of seats t.seat busy in
    let rec = end_record c.args.ending txn.0 in
    let ended = dos (Seal t ∷ Unlock t ∷ []) m in (
      logged n rec p,
      record {
        nodes = logs.there me n c.place.result k d seats after is c.requires.node c.place.ensures.is up (λ os. ShowsStoreOf s me.shared.pool me.shared.owners os b (logged n rec p) ended)
            (shown_with s me.shared.pool me.shared.pool me.shared.owners me.shared.owners me.nodes n d after a b p (logged n rec p) m ended is c.requires.node was
            (logs.logs_after me n c.place.result k d seats after is c.requires.node c.place.ensures.is up a b (c.end-done.ensures.foreign told) (c.requires.quiet told)) (λ j j_is far i e below. refl)
            (logged_others s me.nodes n rec p m ended (λ j far. (refl, refl, put_other n _ m.pending j far)))
            (means_unlocked (logged n rec p) (one (Seal t) m) t (λ key. sealed_own t m key) (means_sealed p m t rec was.means)) was.shape mine.0
            (up_ended n s me.shared.pool k d seats after a b p m t rec (ends_alone c.args.ending txn.0) work.eight refl c.requires.seat c.end-done.ensures.pages c.end-done.ensures.same c.in-Ok.ensures.seats (c.in-Ok.ensures.records told _ txn.0 txn.1 mine.1.records)
            (c.in-Ok.ensures.told _ txn.0 txn.1 (length_shown n s me.shared.pool k seats a p m mine.1) mine.1.told) mine.1)
            (logged_stored s me.shared.pool me.shared.owners me.nodes n k d seats after a b p m rec is c.requires.node up work.store work.log_tie c.end-done.ensures.pages (c.end-done.ensures.outcomes told) was)
            was.hold);
        locks = ap (without_txn t) shown_by.1.locks ∙ sym c.release_txn.ensures;
        reopening = shown_by.1.reopening;
      },
    )

pub returns-in-Ok-clause-led : goal.returns-in-Ok-clause-led
returns-in-Ok-clause-led g c = λ told m open_still was.
    let me = c.args.self.now in
    let t = c.args.t in
    let n = t.node.0 in
    let is = c.requires.ready.is in
    let up = logs.up_at me n c.place.result c.index-self-place.result c.in-Up.cache c.in-Up.seats is c.requires.node c.place.ensures.is c.in-Up.is in
    let k = c.in-Up.cache in
    let d = c.end-done.new.c in
    let seats = c.in-Up.seats in
    let after = c.end-done.new.self in
    let a = (g.D.Disk.state c.args.disk.now).block in
    let b = (g.D.Disk.state c.end-done.new.disk).block in
    let e = was.1 in
    let m1 = with_held e.held m in
    let low = logs.low me n c.place.result k d seats after is c.requires.node c.place.ensures.is up in
    let mine = subst (λ o. ShowsNode me.shape me.shared.pool n o a was.0 m1) up (e.nodes.node n c.requires.node low) in
    let busy : IsTrue (is_busy seats t.seat) = subst (λ o. OnUp o (λ e those. IsTrue (is_busy those t.seat))) up c.requires.busy in
    let txn = txn_of seats t.seat busy in
    logs.there me n c.place.result k d seats after is c.requires.node c.place.ensures.is up (λ os. Endures (record { shape = me.shape; shared = record me.shared { locks = c.release_txn.new.self }; nodes = os }) b (dos (Seal t ∷ Unlock t ∷ []) m))
    (ended_endures me a was.0 m t k seats is c.requires.node low up e (sym e.reopening ∙ open_still) c.requires.seat txn.0 txn.1 c.args.ending c.place.result c.place.ensures.is d after b
    (c.end-done.ensures.outcomes told) (c.end-done.ensures.foreign told) (c.requires.quiet told) c.release_txn.new.self c.release_txn.ensures c.end-done.ensures.pages c.end-done.ensures.same c.in-Ok.ensures.tail c.in-Ok.ensures.stable c.in-Ok.ensures.seats
    (c.in-Ok.ensures.records told _ txn.0 txn.1 mine.1.records) (c.in-Ok.ensures.told _ txn.0 txn.1 (length_shown n me.shape me.shared.pool k seats a was.0 m1 mine.1) mine.1.told))

pub returns-clause-led : goal.returns-clause-led
returns-clause-led g c = λ told m open_still was.
    let me = c.args.self.now in
    let t = c.args.t in
    let n = t.node.0 in
    let is = c.requires.ready.is in
    let up = logs.up_at me n c.place.result c.index-self-place.result c.in-Up.cache c.in-Up.seats is c.requires.node c.place.ensures.is c.in-Up.is in
    let k = c.in-Up.cache in
    let d = c.end-done.new.c in
    let seats = c.in-Up.seats in
    let after = c.end-done.new.self in
    let a = (g.D.Disk.state c.args.disk.now).block in
    let b = (g.D.Disk.state c.end-done.new.disk).block in
    let b2 = (g.D.Disk.state c.give_up.new.disk).block in
    let p = was.0 in
    let e = was.1 in
    let work = logs.work me n c.place.result k d seats after is c.requires.node c.place.ensures.is up in
    let low = logs.low me n c.place.result k d seats after is c.requires.node c.place.ensures.is up in
    let mine = subst (λ o. ShowsNode me.shape me.shared.pool n o a p (with_held e.held m)) up (e.nodes.node n c.requires.node low) in
    let busy : IsTrue (is_busy seats t.seat) = subst (λ o. OnUp o (λ e those. IsTrue (is_busy those t.seat))) up c.requires.busy in
    let txn = txn_of seats t.seat busy in
    let stop = subst (λ j. IsStopOf j c.in-Err.fault) work.number c.in-Err.ensures.fault in
    let whole = sym e.reopening ∙ open_still in
    let cut = c.in-Err.ensures.cut told (p.live n) txn.0 txn.1 mine.1.records in
    let S = Endures c.give_up.new.self b2 in
    let ps = Seal t ∷ Unlock t ∷ [] in
    let halted : (m' : Machine) → MayHalt n (record { shape = me.shape; shared = me.shared; nodes = with_node me.nodes n (Up d after) }) b2 m' → Stops n m' S = λ m' halts. of_stop n c.in-Err.fault _ stop c.give_up.ensures.led told m'
    (logs.there me n c.place.result k d seats after is c.requires.node c.place.ensures.is up (λ os. MayHalt n (record { shape = me.shape; shared = me.shared; nodes = os }) b2 m') halts) in
    let broke : Broke n n ps m S = elim (cases_lt (length (p.live n)) cut.count) [
      | inl sure ↦ broke_here n ps 1 m S (no_unlock (Seal t ∷ []) refl) (halted (one (Seal t) m)
          (sealed_halts me a p m t k seats is c.requires.node low up e whole c.requires.seat txn.0 txn.1 c.args.ending c.place.result c.place.ensures.is d after b (c.end-done.ensures.outcomes told) (c.end-done.ensures.foreign told) (c.requires.quiet told) b2 (c.give_up.ensures.outcomes told) (c.give_up.ensures.foreign told)
          (c.end-done.ensures.legal txn.0 txn.1) cut (c.in-Err.ensures.still told) sure))
      | inr gone ↦ broke_here n ps 0 m S (no_unlock [] refl) (halted m
          (gone_halts me a p m t k seats is c.requires.node low up e whole c.requires.seat txn.0 txn.1 c.args.ending c.place.result c.place.ensures.is d after b (c.end-done.ensures.outcomes told) (c.end-done.ensures.foreign told) (c.requires.quiet told) b2 (c.give_up.ensures.outcomes told) (c.give_up.ensures.foreign told)
          (c.end-done.ensures.legal txn.0 txn.1) cut (c.in-Err.ensures.still told) gone))
    ] in
    subst (λ why. LedErr n why ps m S) (sym c.give_up.ensures.says) (led_fault n (first_page me.shape) c.in-Err.fault ps m S stop broke)
