use Rattle.std.proofs.Common.{rules, ◌≡◌, ◌≢◌, ◌<◌, ◌+◌, ◌-◌, None, true, All, Any, length, ap, arith, subst, sym, ◌∙◌}
use Rattle.std.specs.List.{count_by}
use Rattle.sd_base.specs.Disk.{IsFreeFor}
use Rattle.sd_base.specs.Calls.{KeepsForeignBut, NoNewWriterBut}
use Rattle.sd_base.specs.Shape.{page_count}
use Rattle.frame_pool.specs.Frames.{IsOut, frame_at}
use Rattle.state_ids.specs.Blocks.{page_place}
use Rattle.node_cache.specs.Cache.{CachedPage, IsStableTo}
use Rattle.node_cache.specs.Places.{between, shown}
use Rattle.node_cache.specs.Sending.{IsNext, IsPlaced}
use Rattle.node_cache.proofs.Finding.{all_at}
use Rattle.node_cache.proofs.PageWrites.{content_of, free_still, more_contents, more_foreign, more_outcomes, more_writers, other_placed, this_placed}
use Rattle.node_cache.proofs.Ranges.{all_here, any_here, length_between}
use Rattle.node_cache.proofs.SendOrder.{AreSent, all_counted, all_sent, at_range, changes_of, is_below, none_sent, not_sent, one_sent, pairs_range, room_for, up_to}
use Rattle.node_cache.proofs.pages.Pages.send_range.Goals as goal

pub loop-i-init : goal.loop-i-init
loop-i-init g c = record {
  keeps = search rules;
  live = c.requires.live;
  port = search rules;
  sent = subst (AreSent (between c.args.from c.args.to c.args.self.now) 0) (sym c.requires.fresh) (none_sent _);
  outcomes = search rules;
  writers = search rules;
  foreign = search rules;
  contents = search rules;
  placed = λ told k d below some less. absurd (omega (arith, less));
}

pub send-requires-clause-room : goal.send-requires-clause-room
send-requires-clause-room g c =
    let high = c.requires.range.1 in
    let at = c.slot-slot.ensures in
    let next = c.in-Some.ensures.2 _ at in
    let room : count_by (is_below c.loop-i.least) (between c.args.from c.args.to c.args.self.now) < length (between c.args.from c.args.to c.args.self.now) =
    room_for _ (pairs_range (λ q r. q.ticket.page ≢ r.ticket.page) c.args.from c.args.to c.args.self.now high c.requires.once) c.loop-i.least _ _ (at_range c.args.from c.args.to c.in-Some.i c.args.self.now _ high c.in-Some.ensures.0 c.in-Some.ensures.1 at) next in
    omega (arith, room, c.loop-i.invariant.sent.count, length_between c.args.from c.args.to c.args.self.now high, high, c.requires.few)

pub send-requires-clause-once : goal.send-requires-clause-once
send-requires-clause-once g c = not_sent c.loop-i.least _ _ (c.in-Some.ensures.2 _ c.slot-slot.ensures).waits.1 c.loop-i.invariant.sent.low

pub send-requires-clause-page : goal.send-requires-clause-page
send-requires-clause-page g c = all_at (λ q. q.ticket.page.0 < page_count c.args.s.now) _ _ _ c.requires.pages c.slot-slot.ensures

pub send-requires-clause-out : goal.send-requires-clause-out
send-requires-clause-out g c = all_at (λ q. IsOut c.args.pool.now q.frame) _ _ _ c.requires.out c.slot-slot.ensures

pub send-requires-clause-node : goal.send-requires-clause-node
send-requires-clause-node g c = all_at (λ q. c.args.log.now.node ≡ q.ticket.node) _ _ _ c.requires.node c.slot-slot.ensures

pub send-requires-clause-stable : goal.send-requires-clause-stable
send-requires-clause-stable g c = all_at (λ q. IsStableTo c.args.log.now.stable q.changes) _ _ _ c.requires.stable c.slot-slot.ensures

pub send-requires-clause-reach : goal.send-requires-clause-reach
send-requires-clause-reach g c =
    let p = shown c.slot-slot.result.now in
    ap (λ r. r (page_place c.args.s.now p.ticket.page)) c.loop-i.invariant.keeps.reach
    ∙ all_here (λ q. (g.D.Disk.state c.args.disk.now).reach (page_place c.args.s.now q.ticket.page) ≡ true) c.args.from c.args.to c.in-Some.i _ p c.requires.range.1 c.in-Some.ensures.0 c.in-Some.ensures.1 c.slot-slot.ensures c.requires.reach

pub send-requires-clause-free : goal.send-requires-clause-free
send-requires-clause-free g c = λ told.
    let p = shown c.slot-slot.result.now in
    let a = (g.D.Disk.state c.args.disk.now).block in
    let b = (g.D.Disk.state c.loop-i.disk).block in
    let was = all_here (λ q. IsFreeFor c.args.batch.now.port.0 (a (page_place c.args.s.now q.ticket.page))) c.args.from c.args.to c.in-Some.i _ p c.requires.range.1 c.in-Some.ensures.0 c.in-Some.ensures.1 c.slot-slot.ensures (c.requires.free told) in
    subst (λ n. IsFreeFor n.0 (b (page_place c.args.s.now p.ticket.page))) (sym c.loop-i.invariant.port)
    (free_still c.args.s.now (between c.args.from c.args.to c.args.self.now) c.args.batch.now.port.0 (page_place c.args.s.now p.ticket.page) a b (c.loop-i.invariant.writers told) was)

pub returns-in_err-send-clause-outcomes : goal.returns-in_err-send-clause-outcomes
returns-in_err-send-clause-outcomes g c = λ told.
    let p = shown c.slot-slot.result.now in
    more_outcomes c.args.s.now c.args.pool.now _ (g.D.Disk.state c.args.disk.now).block (g.D.Disk.state c.loop-i.disk).block (g.D.Disk.state c.send.new.disk).block p
    (all_at (λ q. IsOut c.args.pool.now q.frame) _ _ _ c.requires.out c.slot-slot.ensures) (λ P h. any_here P c.args.from c.args.to c.in-Some.i _ p c.requires.range.1 c.in-Some.ensures.0 c.in-Some.ensures.1 c.slot-slot.ensures h)
    (c.in-Some.ensures.2 p c.slot-slot.ensures).waits.0 (c.send.ensures.outcomes told) (c.loop-i.invariant.outcomes told)

pub returns-in_err-send-clause-foreign : goal.returns-in_err-send-clause-foreign
returns-in_err-send-clause-foreign g c = λ told.
    let p = shown c.slot-slot.result.now in
    let b = (g.D.Disk.state c.loop-i.disk).block in
    let d = (g.D.Disk.state c.send.new.disk).block in
    more_foreign c.args.s.now c.args.pool.now _ (g.D.Disk.state c.args.disk.now).block b d p
    (all_at (λ q. IsOut c.args.pool.now q.frame) _ _ _ c.requires.out c.slot-slot.ensures) (λ P h. any_here P c.args.from c.args.to c.in-Some.i _ p c.requires.range.1 c.in-Some.ensures.0 c.in-Some.ensures.1 c.slot-slot.ensures h)
    (c.in-Some.ensures.2 p c.slot-slot.ensures).waits.0 c.args.batch.now.port.0 (subst (λ n. KeepsForeignBut (page_place c.args.s.now p.ticket.page) n.0 b d) c.loop-i.invariant.port (c.send.ensures.foreign told)) (c.loop-i.invariant.foreign told)

pub overflow_add-least : goal.overflow_add-least
overflow_add-least g c =
    let page = all_at (λ q. q.ticket.page.0 < page_count c.args.s.now) _ _ _ c.requires.pages c.slot-slot.ensures in
    omega (arith, ap (λ x. x.0) c.page-least.ensures, page, c.requires.shape.maps.1)

pub loop-i-smaller : goal.loop-i-smaller
loop-i-smaller g c =
    let page = all_at (λ q. q.ticket.page.0 < page_count c.args.s.now) _ _ _ c.requires.pages c.slot-slot.ensures in
    let from = (c.in-Some.ensures.2 _ c.slot-slot.ensures).waits.1 in
    omega (arith, ap (λ x. x.0) c.page-least.ensures, page, from)

pub loop-i-preserved : goal.loop-i-preserved
loop-i-preserved g c =
    let s = c.args.s.now in
    let pool = c.args.pool.now in
    let high = c.requires.range.1 in
    let xs = between c.args.from c.args.to c.args.self.now in
    let p = shown c.slot-slot.result.now in
    let next : IsNext c.loop-i.least xs p = c.in-Some.ensures.2 p c.slot-slot.ensures in
    let once = pairs_range (λ q r. q.ticket.page ≢ r.ticket.page) c.args.from c.args.to c.args.self.now high c.requires.once in
    let at = at_range c.args.from c.args.to c.in-Some.i c.args.self.now p high c.in-Some.ensures.0 c.in-Some.ensures.1 c.slot-slot.ensures in
    let some = next.waits.0 in
    let changes = changes_of p.changes some in
    let out = all_at (λ q. IsOut pool q.frame) _ _ _ c.requires.out c.slot-slot.ensures in
    let content = content_of (frame_at pool p.frame) out in
    let among : (P : CachedPage → Type 0) → P p → Any P xs = λ P h. any_here P c.args.from c.args.to c.in-Some.i _ p high c.in-Some.ensures.0 c.in-Some.ensures.1 c.slot-slot.ensures h in
    let a = (g.D.Disk.state c.args.disk.now).block in
    let b = (g.D.Disk.state c.loop-i.disk).block in
    let d = (g.D.Disk.state c.send.new.disk).block in
    let n = c.args.batch.now.port.0 in
    let number : p.ticket.page.0 + 1 ≡ c.page-least.result.0 + 1 = ap (λ x. x.0 + 1) (sym c.page-least.ensures) in
    let one : AreSent xs (p.ticket.page.0 + 1) c.send.new.batch.sent =
    subst (AreSent xs (p.ticket.page.0 + 1)) (sym (c.in_ok-send.ensures.sent changes.0 changes.1)) (one_sent xs once c.loop-i.least (c.in-Some.i - c.args.from) p at next changes.0 changes.1 c.loop-i.batch.sent c.loop-i.invariant.sent) in
    record {
      keeps = search rules;
      live = search rules;
      port = c.send.ensures.port ∙ c.loop-i.invariant.port;
      sent = subst (λ k. AreSent xs k c.send.new.batch.sent) number one;
      outcomes = λ told. more_outcomes s pool xs a b d p out among some (c.send.ensures.outcomes told) (c.loop-i.invariant.outcomes told);
      writers = λ told. more_writers s pool xs a b d p out among some n (subst (λ m. NoNewWriterBut (page_place s p.ticket.page) m.0 b d) c.loop-i.invariant.port (c.send.ensures.writers told)) (c.loop-i.invariant.writers told);
      foreign = λ told. more_foreign s pool xs a b d p out among some n (subst (λ m. KeepsForeignBut (page_place s p.ticket.page) m.0 b d) c.loop-i.invariant.port (c.send.ensures.foreign told)) (c.loop-i.invariant.foreign told);
      contents = λ told. more_contents s pool xs a b d p out among some (c.in_ok-send.ensures.written told content.0 content.1).others (c.loop-i.invariant.contents told);
      placed = λ told. subst (λ k. All (λ q. q.changes ≢ None → q.ticket.page.0 < k → IsPlaced s pool d q) xs) number (up_to xs once c.loop-i.least (c.in-Some.i - c.args.from) p at next (IsPlaced s pool b) (IsPlaced s pool d)
          (λ q lower. other_placed s pool xs a b d p out among some c.loop-i.batch.port.0 (c.in_ok-send.ensures.written told) q (λ same. let number : q.ticket.page.0 ≡ p.ticket.page.0 = ap (λ x. x.0) same in omega (arith, lower, number)))
          (this_placed s pool xs a b d p out among some c.loop-i.batch.port.0 (c.in_ok-send.ensures.written told)) (c.loop-i.invariant.placed told));
    }

pub returns-clause-count : goal.returns-clause-count
returns-clause-count g c = c.loop-i.invariant.sent.count ∙ all_counted c.loop-i.least _ c.in_default.ensures

pub returns-clause-sent : goal.returns-clause-sent
returns-clause-sent g c = all_sent c.loop-i.least _ _ c.in_default.ensures c.loop-i.invariant.sent
