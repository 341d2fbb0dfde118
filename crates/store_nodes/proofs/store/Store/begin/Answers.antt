use Rattle.std.proofs.Common.{◌≡◌, ◌+◌, ◌≤◌, ◌++◌, ◌∷◌, [], All, List, false, ap, map, refl, sym, subst, length, length-set, slice_set, ◌∙◌}
use Rattle.log_record.specs.declared.record.LogRecord.TheVariants.{Begin}
use Rattle.txn_core.specs.Seats.{is_busy, owed}
use Rattle.record_machine.specs.Meaning.{logged}
use Rattle.record_machine.specs.Parts.{Begin as Began, one}
use Rattle.record_machine.proofs.Steps.{means_begun}
use Rattle.store_nodes.specs.Nodes.{OnUp}
use Rattle.store_nodes.specs.Shows.{ShowsNode, ShowsStoreOf}
use Rattle.record_machine.proofs.Put.{put_other}
use Rattle.store_nodes.proofs.Broken.{broke_here, led_fault, no_unlock, of_stop}
use Rattle.store_nodes.proofs.EnduresBegun.{latest_begun, lockers_begun, survives_begun}
use Rattle.store_nodes.proofs.LoggedEndures.{logged_endures, logged_halts}
use Rattle.store_nodes.proofs.Logs as logs
use Rattle.store_nodes.proofs.Ties.{stable_cut}
use Rattle.store_nodes.specs.declared.node.Node.TheVariants.{Up}
use Rattle.store_nodes.specs.Endures.{Endures, EnduresAs, MayHalt, MayHaltAs, with_held}
use Rattle.store_nodes.specs.Tied.{TiesNode}
use Rattle.sd_base.specs.Faults.{IsStopOf}
use Rattle.sd_base.specs.Shape.{first_page}
use Rattle.log_record.specs.declared.record.LogRecord.{LogRecord}
use Rattle.log_record.specs.Legal.{IsLegal}
use Rattle.log_record.specs.Text.{record_text}
use Rattle.private_log.specs.Log.{region, space}
use Rattle.private_log.specs.Spread.{IsCutLog}
use Rattle.recovery_theory.specs.History.{entry_now, image_now}
use Rattle.recovery_theory.specs.Steps as step
use Rattle.recovery_theory.proofs.Cuts.{with_record-other, with_record-same}
use Rattle.record_machine.specs.Led.{LedErr}
use Rattle.std.proofs.lemmas.List.Elements.{All-push}
use Rattle.store_nodes.proofs.ShownBegin.{up_begun}
use Rattle.store_nodes.proofs.ShownLogged.{length_shown, logged_others, logged_stored}
use Rattle.store_nodes.proofs.ShownWith.{shown_with}
use Rattle.store_nodes.proofs.store.Store.begin.Goals as goal

pub begin-done-requires-clause-free : goal.begin-done-requires-clause-free
begin-done-requires-clause-free g c = λ told.
    let me = c.args.self.now in
    let n = c.args.t.node.0 in
    let is = c.requires.ready.is in
    let up = logs.up_at me n c.place.result c.index-self-place.result c.in-Up.cache c.in-Up.seats is c.requires.node c.place.ensures.is c.in-Up.is in
    logs.region_free me n c.place.result c.in-Up.cache c.in-Up.cache c.in-Up.seats c.in-Up.seats is c.requires.node c.place.ensures.is up (g.D.Disk.state c.args.disk.now).block (c.requires.quiet told)

pub give_up-requires-clause-is : goal.give_up-requires-clause-is
give_up-requires-clause-is g c =
    let me = c.args.self.now in
    let n = c.args.t.node.0 in
    let is = c.requires.ready.is in
    let up = logs.up_at me n c.place.result c.index-self-place.result c.in-Up.cache c.in-Up.seats is c.requires.node c.place.ensures.is c.in-Up.is in
    logs.but_after me n c.place.result c.in-Up.cache c.begin-done.new.c c.in-Up.seats c.begin-done.new.self is c.requires.node c.place.ensures.is up c.begin-done.ensures.cache_node c.begin-done.ensures.pages c.law_of_pages.ensures

pub give_up-requires-clause-quiet : goal.give_up-requires-clause-quiet
give_up-requires-clause-quiet g c = λ told.
    let me = c.args.self.now in
    let n = c.args.t.node.0 in
    let is = c.requires.ready.is in
    let up = logs.up_at me n c.place.result c.index-self-place.result c.in-Up.cache c.in-Up.seats is c.requires.node c.place.ensures.is c.in-Up.is in
    logs.quiet_but_after me n c.place.result c.in-Up.cache c.begin-done.new.c c.in-Up.seats c.begin-done.new.self is c.requires.node c.place.ensures.is up (g.D.Disk.state c.args.disk.now).block (g.D.Disk.state c.begin-done.new.disk).block (c.begin-done.ensures.writers told) (c.requires.quiet told)

pub returns-in-Ok-clause-works : goal.returns-in-Ok-clause-works
returns-in-Ok-clause-works g c =
    let me = c.args.self.now in
    let n = c.args.t.node.0 in
    let is = c.requires.ready.is in
    let up = logs.up_at me n c.place.result c.index-self-place.result c.in-Up.cache c.in-Up.seats is c.requires.node c.place.ensures.is c.in-Up.is in
    logs.works_after me n c.place.result c.in-Up.cache c.begin-done.new.c c.in-Up.seats c.begin-done.new.self is c.requires.node c.place.ensures.is up me.shared (g.D.Disk.state c.args.disk.now) (g.D.Disk.state c.begin-done.new.disk) (g.V.Disk.state c.args.vault.now) refl refl
    (logs.store_after me n c.place.result c.in-Up.cache c.begin-done.new.c c.in-Up.seats c.begin-done.new.self is c.requires.node c.place.ensures.is up c.begin-done.ensures.cache_node c.begin-done.ensures.pages c.law_of_pages.ensures c.begin-done.ensures.same c.in-Ok.ensures.log_tie c.in-Ok.ensures.tie
    (ap length c.in-Ok.ensures.seats ∙ length-set c.in-Up.seats.seats c.args.t.seat _))
    c.begin-done.ensures.keeps c.in-Ok.ensures.live c.requires.ready.served

pub returns-in-Ok-clause-writes : goal.returns-in-Ok-clause-writes
returns-in-Ok-clause-writes g c = λ told.
    let me = c.args.self.now in
    let n = c.args.t.node.0 in
    let is = c.requires.ready.is in
    let up = logs.up_at me n c.place.result c.index-self-place.result c.in-Up.cache c.in-Up.seats is c.requires.node c.place.ensures.is c.in-Up.is in
    let a = (g.D.Disk.state c.args.disk.now).block in
    let b = (g.D.Disk.state c.begin-done.new.disk).block in
    record {
      quiet = logs.quiet_after me n c.place.result c.in-Up.cache c.begin-done.new.c c.in-Up.seats c.begin-done.new.self is c.requires.node c.place.ensures.is up a b (c.begin-done.ensures.writers told) (c.requires.quiet told);
      besides = logs.besides_after me n c.place.result c.in-Up.cache c.begin-done.new.c c.in-Up.seats c.begin-done.new.self is c.requires.node c.place.ensures.is up a b (c.begin-done.ensures.outcomes told);
    }

pub returns-clause-writes : goal.returns-clause-writes
returns-clause-writes g c = λ told.
    let me = c.args.self.now in
    let n = c.args.t.node.0 in
    let is = c.requires.ready.is in
    let up = logs.up_at me n c.place.result c.index-self-place.result c.in-Up.cache c.in-Up.seats is c.requires.node c.place.ensures.is c.in-Up.is in
    let a = (g.D.Disk.state c.args.disk.now).block in
    let b = (g.D.Disk.state c.begin-done.new.disk).block in
    record {
      quiet = c.give_up.ensures.quiet told;
      besides = λ k o page ring may. logs.besides_after me n c.place.result c.in-Up.cache c.begin-done.new.c c.in-Up.seats c.begin-done.new.self is c.requires.node c.place.ensures.is up a b (c.begin-done.ensures.outcomes told) k o page ring (c.give_up.ensures.outcomes told k o may);
    }

pub returns-in-Ok-clause-shows : goal.returns-in-Ok-clause-shows
returns-in-Ok-clause-shows g c = λ told m shown_by.
    let me = c.args.self.now in
    let s = me.shape in
    let n = c.args.t.node.0 in
    let is = c.requires.ready.is in
    let up = logs.up_at me n c.place.result c.index-self-place.result c.in-Up.cache c.in-Up.seats is c.requires.node c.place.ensures.is c.in-Up.is in
    let k = c.in-Up.cache in
    let d = c.begin-done.new.c in
    let seats = c.in-Up.seats in
    let after = c.begin-done.new.self in
    let a = (g.D.Disk.state c.args.disk.now).block in
    let b = (g.D.Disk.state c.begin-done.new.disk).block in
    let p = shown_by.0 in
    let was = shown_by.1.nodes in
    let work = logs.work me n c.place.result k d seats after is c.requires.node c.place.ensures.is up in
    let low = logs.low me n c.place.result k d seats after is c.requires.node c.place.ensures.is up in
    let mine = subst (λ o. ShowsNode s me.shared.pool n o a p m) up (was.node n c.requires.node low) in
    let idle : is_busy seats c.args.t.seat ≡ false = subst (λ o. OnUp o (λ e those. is_busy those c.args.t.seat ≡ false)) up c.requires.idle in (
      logged n Begin p,
      record {
        nodes = logs.there me n c.place.result k d seats after is c.requires.node c.place.ensures.is up (λ os. ShowsStoreOf s me.shared.pool me.shared.owners os b (logged n Begin p) (one (Began c.args.t) m))
            (shown_with s me.shared.pool me.shared.pool me.shared.owners me.shared.owners me.nodes n d after a b p (logged n Begin p) m (one (Began c.args.t) m) is c.requires.node was
            (logs.logs_after me n c.place.result k d seats after is c.requires.node c.place.ensures.is up a b (c.begin-done.ensures.foreign told) (c.requires.quiet told)) (λ j j_is far i e below. refl)
            (logged_others s me.nodes n Begin p m (one (Began c.args.t) m) (λ j far. (refl, refl, put_other n _ m.pending j far)))
            (means_begun p m c.args.t was.means) was.shape mine.0
            (up_begun n s me.shared.pool k d seats after a b p m c.args.t work.eight refl c.requires.seat idle was.means.logs c.begin-done.ensures.pages c.begin-done.ensures.same c.in-Ok.ensures.seats (c.in-Ok.ensures.records told _ mine.1.records)
            (c.in-Ok.ensures.told _ (length_shown n s me.shared.pool k seats a p m mine.1) mine.1.told) mine.1)
            (logged_stored s me.shared.pool me.shared.owners me.nodes n k d seats after a b p m Begin is c.requires.node up work.store work.log_tie c.begin-done.ensures.pages (c.begin-done.ensures.outcomes told) was)
            was.hold);
        locks = shown_by.1.locks;
        reopening = shown_by.1.reopening;
      },
    )

pub returns-in-Ok-clause-led : goal.returns-in-Ok-clause-led
returns-in-Ok-clause-led g c = λ told m open_still was.
    let me = c.args.self.now in
    let s = me.shape in
    let n = c.args.t.node.0 in
    let is = c.requires.ready.is in
    let up = logs.up_at me n c.place.result c.index-self-place.result c.in-Up.cache c.in-Up.seats is c.requires.node c.place.ensures.is c.in-Up.is in
    let k = c.in-Up.cache in
    let d = c.begin-done.new.c in
    let seats = c.in-Up.seats in
    let after = c.begin-done.new.self in
    let a = (g.D.Disk.state c.args.disk.now).block in
    let b = (g.D.Disk.state c.begin-done.new.disk).block in
    let p = was.0 in
    let e = was.1 in
    let m1 = with_held e.held m in
    let work = logs.work me n c.place.result k d seats after is c.requires.node c.place.ensures.is up in
    let low = logs.low me n c.place.result k d seats after is c.requires.node c.place.ensures.is up in
    let mine = subst (λ o. ShowsNode s me.shared.pool n o a p m1) up (e.nodes.node n c.requires.node low) in
    let idle : is_busy seats c.args.t.seat ≡ false = subst (λ o. OnUp o (λ e those. is_busy those c.args.t.seat ≡ false)) up c.requires.idle in
    let room : owed seats + 2 ≤ space k.log = subst (λ o. OnUp o (λ e those. owed those + 2 ≤ space e.log)) up c.requires.room in
    let h' = step.logged e.history n Begin (entry_now e.history) (image_now e.history) e.history.last in (
      logged n Begin p,
      logs.there me n c.place.result k d seats after is c.requires.node c.place.ensures.is up (λ os. EnduresAs (record { shape = s; shared = me.shared; nodes = os }) b (logged n Begin p) (one (Began c.args.t) m))
          (logged_endures me n c.place.result k d seats after is c.requires.node c.place.ensures.is up a b p (logged n Begin p) m (one (Began c.args.t) m) e h' (c.begin-done.ensures.outcomes told) (c.begin-done.ensures.foreign told) (c.requires.quiet told) refl refl refl (λ x. refl) refl refl
          (logged_others s me.nodes n Begin p m1 (one (Began c.args.t) m1) (λ j far. (refl, refl, put_other n _ m.pending j far))) (λ j far. record { live = with_record-other n Begin e.history.live j far; stable = refl; first = refl })
          mine.0 c.begin-done.ensures.pages c.begin-done.ensures.same refl c.in-Ok.ensures.rises (latest_begun me a p m c.args.t k seats is c.requires.node low up e (sym e.reopening ∙ open_still) c.requires.seat idle room after c.in-Ok.ensures.seats) (lockers_begun me a p m c.args.t k seats is c.requires.node low up e (sym e.reopening ∙ open_still) c.requires.seat idle room) refl
          (up_begun n s me.shared.pool k d seats after a b p m1 c.args.t work.eight refl c.requires.seat idle e.nodes.means.logs c.begin-done.ensures.pages c.begin-done.ensures.same c.in-Ok.ensures.seats (c.in-Ok.ensures.records told _ mine.1.records)
          (c.in-Ok.ensures.told _ (length_shown n s me.shared.pool k seats a p m1 mine.1) mine.1.told) mine.1)
          (survives_begun me a p m c.args.t k seats is c.requires.node low up e (sym e.reopening ∙ open_still) c.requires.seat idle room)),
    )

pub returns-clause-led : goal.returns-clause-led
returns-clause-led g c = λ told m open_still was.
    let me = c.args.self.now in
    let s = me.shape in
    let n = c.args.t.node.0 in
    let is = c.requires.ready.is in
    let up = logs.up_at me n c.place.result c.index-self-place.result c.in-Up.cache c.in-Up.seats is c.requires.node c.place.ensures.is c.in-Up.is in
    let k = c.in-Up.cache in
    let d = c.begin-done.new.c in
    let seats = c.in-Up.seats in
    let after = c.begin-done.new.self in
    let a = (g.D.Disk.state c.args.disk.now).block in
    let b = (g.D.Disk.state c.begin-done.new.disk).block in
    let b2 = (g.D.Disk.state c.give_up.new.disk).block in
    let p = was.0 in
    let e = was.1 in
    let m1 = with_held e.held m in
    let work = logs.work me n c.place.result k d seats after is c.requires.node c.place.ensures.is up in
    let low = logs.low me n c.place.result k d seats after is c.requires.node c.place.ensures.is up in
    let mine = subst (λ o. ShowsNode s me.shared.pool n o a p m1) up (e.nodes.node n c.requires.node low) in
    let tied = subst (λ o. TiesNode s n o a e.history) up (e.tied.node n c.requires.node low) in
    let idle : is_busy seats c.args.t.seat ≡ false = subst (λ o. OnUp o (λ e those. is_busy those c.args.t.seat ≡ false)) up c.requires.idle in
    let room : owed seats + 2 ≤ space k.log = subst (λ o. OnUp o (λ e those. owed those + 2 ≤ space e.log)) up c.requires.room in
    let h' = step.logged e.history n Begin (entry_now e.history) (image_now e.history) e.history.last in
    let live : h'.live n ≡ p.live n ++ Begin ∷ [] = with_record-same n Begin e.history.live ∙ ap (λ (l : List LogRecord). l ++ Begin ∷ []) (e.survives.survives.recoverable.live n) in
    let stop = subst (λ j. IsStopOf j c.in-Err.fault) work.number c.in-Err.ensures.fault in
    let cut = subst (λ (l : List LogRecord). IsCutLog (region k.log) k.log.start k.log.stable b (map record_text l)) (sym live) (c.in-Err.ensures.cut told (p.live n) mine.1.records) in
    let legal = subst (All IsLegal) (sym live) (All-push IsLegal (p.live n) Begin mine.1.records.legal c.begin-done.ensures.legal) in
    let halts : MayHalt n (record { shape = s; shared = me.shared; nodes = slice_set me.nodes c.place.result (Up d after) }) b2 (one (Began c.args.t) m) = (
      logged n Begin p,
      logs.there me n c.place.result k d seats after is c.requires.node c.place.ensures.is up (λ os. MayHaltAs n (record { shape = s; shared = me.shared; nodes = os }) b2 (logged n Begin p) (one (Began c.args.t) m))
          (logged_halts me n c.place.result k d seats after is c.requires.node c.place.ensures.is up a b p (logged n Begin p) m (one (Began c.args.t) m) e h' (c.begin-done.ensures.outcomes told) (c.begin-done.ensures.foreign told) (c.requires.quiet told) refl refl refl (λ x. refl) refl refl
          (logged_others s me.nodes n Begin p m1 (one (Began c.args.t) m1) (λ j far. (refl, refl, put_other n _ m.pending j far))) (λ j far. record { live = with_record-other n Begin e.history.live j far; stable = refl; first = refl })
          b2 mine.0 (c.give_up.ensures.outcomes told) (c.give_up.ensures.foreign told) legal cut (stable_cut n k b h' _ cut tied.stable) (c.in-Err.ensures.still told)
          (lockers_begun me a p m c.args.t k seats is c.requires.node low up e (sym e.reopening ∙ open_still) c.requires.seat idle room) refl
          (survives_begun me a p m c.args.t k seats is c.requires.node low up e (sym e.reopening ∙ open_still) c.requires.seat idle room)),
    ) in
    subst (λ why. LedErr n why (Began c.args.t ∷ []) m (Endures c.give_up.new.self b2)) (sym c.give_up.ensures.says)
    (led_fault n (first_page s) c.in-Err.fault (Began c.args.t ∷ []) m (Endures c.give_up.new.self b2) stop
    (broke_here n (Began c.args.t ∷ []) 1 m (Endures c.give_up.new.self b2) (no_unlock (Began c.args.t ∷ []) refl) (of_stop n c.in-Err.fault _ stop c.give_up.ensures.led told (one (Began c.args.t) m) halts)))
