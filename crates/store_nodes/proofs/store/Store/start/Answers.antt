use Rattle.std.proofs.Common.{◌≡◌, ◌∷◌, [], ℕ, List, ap, map, refl, subst, sym, ◌∙◌}
use Rattle.sd_base.specs.Calls.{Keeps-then, KeepsForeign, NoNewWriter}
use Rattle.sd_base.specs.Disk.{BlockState}
use Rattle.sd_base.specs.declared.device.NodeId.{NodeId}
use Rattle.log_record.specs.Text.{record_text}
use Rattle.private_log.specs.Content.{HasNoFuture, LogContent, region_of}
use Rattle.private_log.specs.Log.{IsLogOn, region}
use Rattle.private_log.specs.Reading.{contents}
use Rattle.private_log.specs.Spread.{IsStill}
use Rattle.record_machine.specs.Led.{LedErr}
use Rattle.record_machine.specs.Parts.{Start, one}
use Rattle.store_nodes.specs.declared.node.Node.TheVariants.{Up}
use Rattle.store_nodes.specs.Endures.{Endures, EnduresAs, with_held}
use Rattle.store_nodes.specs.Nodes.{IsStoreOf, with_node}
use Rattle.store_nodes.specs.Ports.{IsQuietOf}
use Rattle.store_nodes.specs.Shows.{ShowsNode, ShowsStoreOf}
use Rattle.store_nodes.proofs.Broken.{broke_here, led_read, no_unlock, of_stop}
use Rattle.store_nodes.proofs.EnduresStarted.{idle_left, started_endures, started_halts}
use Rattle.store_nodes.proofs.Started.{moved, quiet_read, quiet_started, shown_started, store_started, works_started}
use Rattle.store_nodes.proofs.store.Store.start.Goals as goal

pub leave_out-requires-clause-quiet : goal.leave_out-requires-clause-quiet
leave_out-requires-clause-quiet g c = λ told k m is far.
    let me = c.args.self.now in
    let a = (g.D.Disk.state c.args.disk.now).block in
    let d = (g.D.Disk.state c.attach.new.disk).block in
    quiet_read me.shape me.nodes a d (subst (λ b. NoNewWriter b d) (c.start.ensures.blocks told) (c.attach.ensures.writers told)) (c.requires.quiet told) k m is

pub returns-in-Ok-clause-works : goal.returns-in-Ok-clause-works
returns-in-Ok-clause-works g c =
    let me = c.args.self.now in
    let n = c.args.n.0 in
    let cache = c.new-cache.result in
    let seats = c.new.result in
    let log_is = c.new-cache.ensures.log in
    let name = c.new-cache.ensures.node in
    let is = c.requires.ready.is in
    let store : IsStoreOf me.shape me.shared.pool me.shared.owners (with_node me.nodes n (Up cache seats)) =
    store_started me.shape me.shared.pool me.shared.owners me.nodes n cache seats is c.requires.node c.requires.known c.requires.idle (ap (λ (k : NodeId). k.0) name) c.new-cache.ensures.pages c.new.ensures.seats c.law_of_pages.ensures
    (ap (λ l. l.shape) log_is ∙ c.in-Ok.ensures.shape) (ap (λ l. l.node) log_is ∙ c.in-Ok.ensures.node ∙ sym name) (c.new.ensures.node ∙ sym name) in
    works_started me c.bring_up.new.self n cache seats c.bring_up.ensures.shape c.bring_up.ensures.shared c.bring_up.ensures.nodes
    (g.D.Disk.state c.args.disk.now) (g.D.Disk.state c.attach.new.disk) (g.V.Disk.state c.args.vault.now) (g.V.Disk.state c.start-2.new.self) c.requires.node is store c.requires.ready.served
    (Keeps-then n (g.D.Disk.state c.args.disk.now) (g.D.Disk.state c.start.new.self) (g.D.Disk.state c.attach.new.disk) c.start.ensures.keeps c.attach.ensures.keeps) c.start-2.ensures.keeps c.in-Ok.ensures.live c.start-2.ensures.live

pub returns-in-Ok-clause-quiet : goal.returns-in-Ok-clause-quiet
returns-in-Ok-clause-quiet g c = λ told.
    let me = c.args.self.now in
    let n = c.args.n.0 in
    let cache = c.new-cache.result in
    let seats = c.new.result in
    let a = (g.D.Disk.state c.args.disk.now).block in
    let d = (g.D.Disk.state c.attach.new.disk).block in
    moved me c.bring_up.new.self n cache seats c.bring_up.ensures.shape c.bring_up.ensures.shared c.bring_up.ensures.nodes (λ s h os. IsQuietOf s os d)
    (quiet_started me.shape me.nodes n (Up cache seats) d c.requires.ready.is.shared.eight c.requires.node c.requires.idle
    (quiet_read me.shape me.nodes a d (subst (λ b. NoNewWriter b d) (c.start.ensures.blocks told) (c.attach.ensures.writers told)) (c.requires.quiet told)))

pub returns-in-Ok-clause-shows : goal.returns-in-Ok-clause-shows
returns-in-Ok-clause-shows g c = λ told m shown_by.
    let p = shown_by.0 in
    let was = shown_by.1 in
    let me = c.args.self.now in
    let s = me.shape in
    let n = c.args.n.0 in
    let log = c.in-Ok.log in
    let cache = c.new-cache.result in
    let seats = c.new.result in
    let b = (g.D.Disk.state c.start.new.self).block in
    let d = (g.D.Disk.state c.attach.new.disk).block in
    let read_is : d ≡ b = c.in-Ok.ensures.blocks told in
    let log_is : cache.log ≡ log = c.new-cache.ensures.log in
    let region_is = ap region log_is ∙ ap (λ t. region_of t log.node.0) c.in-Ok.ensures.shape ∙ ap (λ (k : NodeId). region_of s k.0) c.in-Ok.ensures.node in
    let read = c.in-Ok.ensures.log told in
    let content = subst (λ l. LogContent (region_of s n) (contents d) l.start read.records) (sym log_is) (subst (λ (e : ℕ → BlockState). LogContent (region_of s n) (contents e) log.start read.records) (sym read_is) read.content) in
    let on = subst (λ l. (start : ℕ) (xs : List (List ℕ)) → IsStill (region l) d → LogContent (region l) (contents d) start xs → HasNoFuture (region l) (contents d) start xs → IsLogOn l d xs) (sym log_is)
    (subst (λ (e : ℕ → BlockState). (start : ℕ) (xs : List (List ℕ)) → IsStill (region log) e → LogContent (region log) (contents e) start xs → HasNoFuture (region log) (contents e) start xs → IsLogOn log d xs) (sym read_is) (c.in-Ok.ensures.on told)) in
    let before = subst (λ (e : ℕ → BlockState). ShowsStoreOf s me.shared.pool me.shared.owners me.nodes e p m) (sym (read_is ∙ c.start.ensures.blocks told)) was.nodes in (
      p,
      record {
        nodes = moved me c.bring_up.new.self n cache seats c.bring_up.ensures.shape c.bring_up.ensures.shared c.bring_up.ensures.nodes (λ t h os. ShowsStoreOf t h.pool h.owners os d p (one (Start n) m))
            (shown_started s me.shared.pool me.shared.owners me.nodes n cache seats c.requires.ready.is c.requires.node c.requires.known c.requires.idle (ap (λ (k : NodeId). k.0) c.new-cache.ensures.node) c.new-cache.ensures.pages c.new.ensures.seats
            d p m region_is read.records content on before);
        locks = was.locks ∙ ap (λ h. h.locks) (sym c.bring_up.ensures.shared);
        reopening = was.reopening ∙ ap (λ h. h.reopening) (sym c.bring_up.ensures.shared);
      },
    )

pub returns-in-Ok-clause-led : goal.returns-in-Ok-clause-led
returns-in-Ok-clause-led g c = λ told m was.
    let p = was.0 in
    let me = c.args.self.now in
    let s = me.shape in
    let n = c.args.n.0 in
    let log = c.in-Ok.log in
    let cache = c.new-cache.result in
    let seats = c.new.result in
    let b = (g.D.Disk.state c.start.new.self).block in
    let d = (g.D.Disk.state c.attach.new.disk).block in
    let read_is : d ≡ b = c.in-Ok.ensures.blocks told in
    let log_is : cache.log ≡ log = c.new-cache.ensures.log in
    let region_is = ap region log_is ∙ ap (λ t. region_of t log.node.0) c.in-Ok.ensures.shape ∙ ap (λ (k : NodeId). region_of s k.0) c.in-Ok.ensures.node in
    let read = c.in-Ok.ensures.log told in
    let content = subst (λ l. LogContent (region_of s n) (contents d) l.start read.records) (sym log_is) (subst (λ (e : ℕ → BlockState). LogContent (region_of s n) (contents e) log.start read.records) (sym read_is) read.content) in
    let on = subst (λ l. (start : ℕ) (xs : List (List ℕ)) → IsStill (region l) d → LogContent (region l) (contents d) start xs → HasNoFuture (region l) (contents d) start xs → IsLogOn l d xs) (sym log_is)
    (subst (λ (e : ℕ → BlockState). (start : ℕ) (xs : List (List ℕ)) → IsStill (region log) e → LogContent (region log) (contents e) start xs → HasNoFuture (region log) (contents e) start xs → IsLogOn log d xs) (sym read_is) (c.in-Ok.ensures.on told)) in
    let before = subst (λ (e : ℕ → BlockState). EnduresAs me e p m) (sym (read_is ∙ c.start.ensures.blocks told)) was.1 in
    let stable = subst (λ l. l.stable ≡ l.tail) (sym log_is) c.in-Ok.ensures.stable in (
      p,
      moved me c.bring_up.new.self n cache seats c.bring_up.ensures.shape c.bring_up.ensures.shared c.bring_up.ensures.nodes (λ t h os. EnduresAs (record { shape = t; shared = h; nodes = os }) d p (one (Start n) m))
          (started_endures me n c.requires.ready.is c.requires.node c.requires.known c.requires.idle d d (λ k. refl) p m before cache seats (ap (λ (k : NodeId). k.0) c.new-cache.ensures.node) c.new-cache.ensures.pages c.new.ensures.seats region_is read.records content on stable),
    )

pub returns-in-Err-clause-led : goal.returns-in-Err-clause-led
returns-in-Err-clause-led g c = λ told m was.
    let p = was.0 in
    let e = was.1 in
    let me = c.args.self.now in
    let n = c.args.n.0 in
    let a = (g.D.Disk.state c.args.disk.now).block in
    let b = (g.D.Disk.state c.start.new.self).block in
    let d = (g.D.Disk.state c.attach.new.disk).block in
    let b2 = (g.D.Disk.state c.leave_out.new.disk).block in
    let start_is : b ≡ a = c.start.ensures.blocks told in
    let mine = subst (λ o. ShowsNode me.shape me.shared.pool n o a p (with_held e.held m)) c.requires.idle (e.nodes.node n c.requires.node c.requires.known) in
    let stop = c.in-Err.ensures.legal told (m.start n) (map record_text (p.live n)) (subst (λ (f : ℕ → BlockState). LogContent (region_of me.shape n) (contents f) (m.start n) (map record_text (p.live n))) (sym start_is) mine.1.content) in
    let left = idle_left me n a d b2 c.requires.idle (c.requires.quiet told) (subst (λ f. KeepsForeign n f d) start_is (c.attach.ensures.foreign told)) (c.leave_out.ensures.foreign told) in
    let S = Endures c.leave_out.new.self b2 in
    subst (λ why. LedErr n why (Start n ∷ []) m S) (sym c.leave_out.ensures.says)
    (led_read n c.in-Err.fault (Start n ∷ []) m S stop
    (broke_here n (Start n ∷ []) 1 m S (no_unlock (Start n ∷ []) refl) (of_stop n c.in-Err.fault _ stop c.leave_out.ensures.led told (one (Start n) m)
    (p, started_halts me n c.requires.ready.is c.requires.node c.requires.known c.requires.idle a b2 left p m e))))
