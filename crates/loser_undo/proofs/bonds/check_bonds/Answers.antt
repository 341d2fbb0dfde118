use Rattle.std.proofs.Common.{rules, ◌≡◌, true, Some, arith, inl, inr, subst, sym, ◌∙◌}
use Rattle.std.proofs.lemmas.Bool.{cases_lt}
use Rattle.compensation.specs.Finding.{record_at}
use Rattle.compensation.proofs.LogRecords.{below_end}
use Rattle.loser_undo.specs.Logs.{first_of}
use Rattle.loser_undo.specs.Rules.{IsBound, Names}
use Rattle.loser_undo.proofs.Breaches.{has_still, has_tail, stop_is_breach}
use Rattle.loser_undo.proofs.bonds.check_bonds.Goals as goal

pub returns-in_err-rec-clause-breach : goal.returns-in_err-rec-clause-breach
returns-in_err-rec-clause-breach g c = λ told recs has begun.
    let now = has_still c.args.log.now _ (g.D.Disk.state c.loop-r.disk).block recs (c.loop-r.invariant.blocks told) has in
    let breach = stop_is_breach c.args.log.now recs c.args.port.0 c.in_err-rec.field-0.0 (c.in_err-rec.ensures.there told recs now) in
    search (rules, breach)

pub returns-in_err-kept-clause-breach : goal.returns-in_err-kept-clause-breach
returns-in_err-kept-clause-breach g c = λ told recs has begun.
    let now = has_still c.args.log.now _ (g.D.Disk.state c.read_record.new.disk).block recs (c.in_ok-rec.ensures.blocks told ∙ c.loop-r.invariant.blocks told) has in
    let breach = stop_is_breach c.args.log.now recs c.args.port.0 c.in_err-kept.field-0.0 (c.in_err-kept.ensures.there told recs now) in
    search (rules, breach)

pub loop-r-preserved : goal.loop-r-preserved
loop-r-preserved g c =
    let yes : c.in_ok-kept.kept ≡ true = search rules in
    record {
      keeps = search rules;
      live = search rules;
      blocks = λ t. c.in_ok-kept.ensures.blocks t ∙ (c.in_ok-rec.ensures.blocks t ∙ c.loop-r.invariant.blocks t);
      low = omega (arith, c.loop-r.invariant.low);
      bound = λ told recs has begun r rec below at t names.
          let before = has_still c.args.log.now _ (g.D.Disk.state c.loop-r.disk).block recs (c.loop-r.invariant.blocks told) has in
          let now = has_still c.args.log.now _ (g.D.Disk.state c.read_record.new.disk).block recs (c.in_ok-rec.ensures.blocks told ∙ c.loop-r.invariant.blocks told) has in
          let there = c.in_ok-rec.ensures.record told recs before in
          elim (cases_lt r c.loop-r.r) [
            | inl lt ↦ c.loop-r.invariant.bound told recs has begun r rec lt at t names
            | inr ge ↦
                let same : c.loop-r.r ≡ r = omega (arith, ge, below) in
                let here : record_at (first_of c.args.log.now) recs r ≡ Some c.in_ok-rec.rec = subst (λ k. record_at (first_of c.args.log.now) recs k ≡ Some c.in_ok-rec.rec) same there in
                let one : c.in_ok-rec.rec ≡ rec = cc in
                let bound = c.in_ok-kept.ensures.yes yes told recs now begun t (subst (Names t) (sym one) names) in
                subst (λ x. IsBound (first_of c.args.log.now) recs t r x) one (subst (λ k. IsBound (first_of c.args.log.now) recs t k c.in_ok-rec.rec) same bound)
          ];
    }

pub returns-clause-bound : goal.returns-clause-bound
returns-clause-bound g c = λ told recs has begun r rec at.
    c.loop-r.invariant.bound told recs has begun r rec (omega (arith, below_end (first_of c.args.log.now) recs r rec at, has_tail c.args.log.now _ recs has, c.loop-r-test.false, c.tail-r-end.ensures.tail)) at
