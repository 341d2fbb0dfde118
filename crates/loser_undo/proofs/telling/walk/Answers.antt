use Rattle.std.proofs.Common.{rules, arith, ◌∙◌}
use Rattle.loser_undo.specs.Logs.{first_of}
use Rattle.loser_undo.proofs.Breaches.{has_still}
use Rattle.loser_undo.proofs.Walks.{leads_earlier, walked_all, walked_names, walked_on}
use Rattle.loser_undo.proofs.telling.walk.Goals as goal

pub returns-in_err-rec-clause-there : goal.returns-in_err-rec-clause-there
returns-in_err-rec-clause-there g c = λ told recs has back is_last.
    let now = has_still c.args.log.now _ (g.D.Disk.state c.walk.disk).block recs (c.walk.invariant.blocks told) has in
    let stop = c.in_err-rec.ensures.there told recs now in
    search (rules, stop)

pub returns-in_default-clause-fault : goal.returns-in_default-clause-fault
returns-in_default-clause-fault g c = c.damaged.ensures.fault c.args.port.0

pub returns-in_default-clause-there : goal.returns-in_default-clause-there
returns-in_default-clause-there g c = λ told recs has back is_last.
    let now = has_still c.args.log.now _ (g.D.Disk.state c.walk.disk).block recs (c.walk.invariant.blocks told) has in
    let at = c.in_ok-rec.ensures.record told recs now in
    let walked = c.walk.invariant.walked told recs has back is_last in
    let names = walked_names (first_of c.args.log.now) recs c.args.t c.args.last c.walk.r c.walk.l c.in_ok-rec.rec walked (search rules) at in
    let going = (back c.walk.r c.in_ok-rec.rec at names).going in
    absurd (c.in_default.ensures.neither (names, going))

pub returns-then-s-t-clause-fault : goal.returns-then-s-t-clause-fault
returns-then-s-t-clause-fault g c = c.damaged-then-s-t.ensures.fault c.args.port.0

pub returns-then-s-r-clause-fault : goal.returns-then-s-r-clause-fault
returns-then-s-r-clause-fault g c = c.damaged-then-s-r.ensures.fault c.args.port.0

pub returns-then-s-t-clause-there : goal.returns-then-s-t-clause-there
returns-then-s-t-clause-there g c = λ told recs has back is_last.
    let now = has_still c.args.log.now _ (g.D.Disk.state c.walk.disk).block recs (c.walk.invariant.blocks told) has in
    let at = c.in_ok-rec.ensures.record told recs now in
    let walked = c.walk.invariant.walked told recs has back is_last in
    let names = walked_names (first_of c.args.log.now) recs c.args.t c.args.last c.walk.r c.walk.l c.in_ok-rec.rec walked (search rules) at in
    let earlier = leads_earlier (first_of c.args.log.now) recs c.args.t c.walk.r c.in-Some.s.to c.in_ok-rec.rec c.in-Some.s.is_update back at names (c.in-Some.ensures.update, c.in-Some.ensures.compensation) in
    absurd (omega (arith, earlier.from, c.if-s-t.true))

pub returns-then-s-r-clause-there : goal.returns-then-s-r-clause-there
returns-then-s-r-clause-there g c = λ told recs has back is_last.
    let now = has_still c.args.log.now _ (g.D.Disk.state c.walk.disk).block recs (c.walk.invariant.blocks told) has in
    let at = c.in_ok-rec.ensures.record told recs now in
    let walked = c.walk.invariant.walked told recs has back is_last in
    let names = walked_names (first_of c.args.log.now) recs c.args.t c.args.last c.walk.r c.walk.l c.in_ok-rec.rec walked (search rules) at in
    let earlier = leads_earlier (first_of c.args.log.now) recs c.args.t c.walk.r c.in-Some.s.to c.in_ok-rec.rec c.in-Some.s.is_update back at names (c.in-Some.ensures.update, c.in-Some.ensures.compensation) in
    absurd (omega (arith, earlier.below, c.if-s-r.true))

pub counted-l-requires : goal.counted-l-requires
counted-l-requires g c = omega (arith, c.walk.invariant.left, c.walk.invariant.low, c.requires.near)

pub walk-preserved : goal.walk-preserved
walk-preserved g c = record {
  keeps = search rules;
  live = search rules;
  blocks = λ t. c.in_ok-rec.ensures.blocks t ∙ c.walk.invariant.blocks t;
  low = c.if-s-t.false;
  high = omega (arith, c.if-s-r.false, c.walk.invariant.high);
  begin = c.counted-l.ensures.begin ∙ c.walk.invariant.begin;
  is_last = c.counted-l.ensures.last ∙ c.walk.invariant.is_last;
  left = omega (arith, c.counted-l.ensures.left, c.if-s-r.false, c.walk.invariant.left);
  walked = λ told recs has back is_last.
      let now = has_still c.args.log.now _ (g.D.Disk.state c.walk.disk).block recs (c.walk.invariant.blocks told) has in
      let at = c.in_ok-rec.ensures.record told recs now in
      let walked = c.walk.invariant.walked told recs has back is_last in
      let names = walked_names (first_of c.args.log.now) recs c.args.t c.args.last c.walk.r c.walk.l c.in_ok-rec.rec walked (search rules) at in
      walked_on (first_of c.args.log.now) recs c.args.t c.args.last c.walk.r c.in-Some.s.to c.walk.l c.counted-l.result c.in_ok-rec.rec c.in-Some.s.is_update back at names (c.in-Some.ensures.update, c.in-Some.ensures.compensation)
      c.counted-l.ensures.update c.counted-l.ensures.other walked;
}

pub returns-clause-loser : goal.returns-clause-loser
returns-clause-loser g c = λ told recs has back is_last.
    walked_all (first_of c.args.log.now) recs c.args.t c.args.last c.walk.r c.walk.l c.walk.invariant.begin c.walk.invariant.is_last (search rules) is_last (c.walk.invariant.walked told recs has back is_last)
