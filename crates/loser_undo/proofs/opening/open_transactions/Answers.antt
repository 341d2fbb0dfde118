use Rattle.std.proofs.Common.{rules, ◌≡◌, ◌+◌, Some, arith, ap, inl, inr, subst, sym, ◌∙◌}
use Rattle.std.proofs.lemmas.Bool.{cases_lt}
use Rattle.compensation.specs.Finding.{record_at}
use Rattle.compensation.proofs.LogRecords.{below_end}
use Rattle.recovery_theory.specs.Effect.{effect_of}
use Rattle.loser_undo.specs.Logs.{first_of}
use Rattle.loser_undo.specs.Rules.{AreBetween, MayFollow, open_at, open_by}
use Rattle.loser_undo.proofs.Breaches.{broken_at, has_still, has_tail, stop_is_breach}
use Rattle.loser_undo.proofs.Opened.{between_by, open_next, open_whole}
use Rattle.loser_undo.proofs.opening.open_transactions.Goals as goal

pub returns-in_err-rec-clause-breach : goal.returns-in_err-rec-clause-breach
returns-in_err-rec-clause-breach g c = λ told recs has.
    let now = has_still c.args.log.now _ (g.D.Disk.state c.loop-r.disk).block recs (c.loop-r.invariant.blocks told) has in
    let breach = stop_is_breach c.args.log.now recs c.args.port.0 c.in_err-rec.field-0.0 (c.in_err-rec.ensures.there told recs now) in
    search (rules, breach)

pub returns-then-not-follow-clause-breach : goal.returns-then-not-follow-clause-breach
returns-then-not-follow-clause-breach g c = λ told recs has.
    let now = has_still c.args.log.now _ (g.D.Disk.state c.loop-r.disk).block recs (c.loop-r.invariant.blocks told) has in
    let there = c.in_ok-rec.ensures.record told recs now in
    let begun = c.loop-r.invariant.begun told recs has in
    let broken = c.follow.ensures.broken (search rules) in
    broken_at c.args.log.now recs c.loop-r.r c.in_ok-rec.rec c.damaged.result c.damaged.ensures.is there
    (λ keeps. broken (subst (λ f. MayFollow f c.loop-r.open.items (effect_of c.in_ok-rec.rec)) (sym c.first_of-first.ensures.first) (subst (λ ts. MayFollow (first_of c.args.log.now) ts (effect_of c.in_ok-rec.rec)) (sym begun) keeps.follows)))

pub loop-r-preserved : goal.loop-r-preserved
loop-r-preserved g c =
    let after = c.follow.ensures.after (search rules) in
    let kept = c.follow.ensures.kept (search rules) in
    record {
      keeps = search rules;
      live = search rules;
      blocks = λ t. c.in_ok-rec.ensures.blocks t ∙ c.loop-r.invariant.blocks t;
      low = omega (arith, c.loop-r.invariant.low);
      within = subst (AreBetween (first_of c.args.log.now) (c.loop-r.r + 1)) (sym after) (between_by (first_of c.args.log.now) c.loop-r.r (effect_of c.in_ok-rec.rec) c.loop-r.open.items c.loop-r.invariant.low c.loop-r.invariant.within);
      begun = λ told recs has.
          let now = has_still c.args.log.now _ (g.D.Disk.state c.loop-r.disk).block recs (c.loop-r.invariant.blocks told) has in
          let there = c.in_ok-rec.ensures.record told recs now in
          after ∙ (ap (open_by c.loop-r.r (effect_of c.in_ok-rec.rec)) (c.loop-r.invariant.begun told recs has) ∙ sym (open_next (first_of c.args.log.now) recs c.loop-r.r c.in_ok-rec.rec there));
      follow = λ told recs has r rec below at.
          let now = has_still c.args.log.now _ (g.D.Disk.state c.loop-r.disk).block recs (c.loop-r.invariant.blocks told) has in
          let there = c.in_ok-rec.ensures.record told recs now in
          elim (cases_lt r c.loop-r.r) [
            | inl lt ↦ c.loop-r.invariant.follow told recs has r rec lt at
            | inr ge ↦
                let same : c.loop-r.r ≡ r = omega (arith, ge, below) in
                let here : record_at (first_of c.args.log.now) recs r ≡ Some c.in_ok-rec.rec = subst (λ k. record_at (first_of c.args.log.now) recs k ≡ Some c.in_ok-rec.rec) same there in
                let one : c.in_ok-rec.rec ≡ rec = cc in
                let first = subst (λ f. MayFollow f c.loop-r.open.items (effect_of c.in_ok-rec.rec)) c.first_of-first.ensures.first kept in
                let at_it = subst (λ ts. MayFollow (first_of c.args.log.now) ts (effect_of c.in_ok-rec.rec)) (c.loop-r.invariant.begun told recs has) first in
                subst (λ x. MayFollow (first_of c.args.log.now) (open_at (first_of c.args.log.now) recs r) (effect_of x)) one
                (subst (λ k. MayFollow (first_of c.args.log.now) (open_at (first_of c.args.log.now) recs k) (effect_of c.in_ok-rec.rec)) same at_it)
          ];
    }

pub returns-clause-begun : goal.returns-clause-begun
returns-clause-begun g c = λ told recs has.
    c.loop-r.invariant.begun told recs has ∙ open_whole (first_of c.args.log.now) recs c.loop-r.r (omega (arith, has_tail c.args.log.now _ recs has, c.loop-r-test.false, c.tail-r-end.ensures.tail))

pub returns-clause-follow : goal.returns-clause-follow
returns-clause-follow g c = λ told recs has r rec at.
    c.loop-r.invariant.follow told recs has r rec (omega (arith, below_end (first_of c.args.log.now) recs r rec at, has_tail c.args.log.now _ recs has, c.loop-r-test.false, c.tail-r-end.ensures.tail)) at
