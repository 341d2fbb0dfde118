use Rattle.std.proofs.Common.{rules, ◌≡◌, false, Some, arith, inl, inr, subst, sym, ◌∙◌}
use Rattle.std.proofs.lemmas.Bool.{cases_lt}
use Rattle.compensation.specs.Finding.{record_at}
use Rattle.compensation.proofs.LogRecords.{below_end}
use Rattle.recovery_theory.specs.Effect.{effect_of}
use Rattle.recovery_theory.specs.Rules.{is_end}
use Rattle.loser_undo.specs.Logs.{first_of}
use Rattle.loser_undo.specs.Rules.{Names}
use Rattle.loser_undo.proofs.Breaches.{has_still, has_tail}
use Rattle.loser_undo.proofs.bonds.is_followed.Goals as goal

pub overflow_step-q : goal.overflow_step-q
overflow_step-q g c = let last = c.tail-end.ensures.log.last in let tail = c.tail-end.ensures.tail in omega (arith, c.requires.below)

pub returns-in_err-rec-clause-there : goal.returns-in_err-rec-clause-there
returns-in_err-rec-clause-there g c = λ told recs has.
    let now = has_still c.args.log.now _ (g.D.Disk.state c.loop-q.disk).block recs (c.loop-q.invariant.blocks told) has in
    let stop = c.in_err-rec.ensures.there told recs now in
    search (rules, stop)

pub returns-then-names_so-clause-yes : goal.returns-then-names_so-clause-yes
returns-then-names_so-clause-yes g c = λ is told recs has.
    let now = has_still c.args.log.now _ (g.D.Disk.state c.loop-q.disk).block recs (c.loop-q.invariant.blocks told) has in
    let names = c.names_so.ensures.yes (search rules) in
    record {
      number = c.loop-q.q;
      rec = c.in_ok-rec.rec;
      behind = c.loop-q.invariant.low;
      there = c.in_ok-rec.ensures.record told recs now;
      names = names.0;
      ends = names.1;
    }

pub loop-q-preserved : goal.loop-q-preserved
loop-q-preserved g c = record {
  keeps = search rules;
  live = search rules;
  blocks = λ t. c.in_ok-rec.ensures.blocks t ∙ c.loop-q.invariant.blocks t;
  low = omega (arith, c.loop-q.invariant.low);
  none = λ told recs has q rec low below at names.
      let now = has_still c.args.log.now _ (g.D.Disk.state c.loop-q.disk).block recs (c.loop-q.invariant.blocks told) has in
      let there = c.in_ok-rec.ensures.record told recs now in
      elim (cases_lt q c.loop-q.q) [
        | inl lt ↦ c.loop-q.invariant.none told recs has q rec low lt at names
        | inr ge ↦
            let same : c.loop-q.q ≡ q = omega (arith, ge, below) in
            let here : record_at (first_of c.args.log.now) recs q ≡ Some c.in_ok-rec.rec = subst (λ k. record_at (first_of c.args.log.now) recs k ≡ Some c.in_ok-rec.rec) same there in
            let one : rec ≡ c.in_ok-rec.rec = cc in
            let no = c.names_so.ensures.no (search rules) (subst (Names c.args.t) one names) in
            (no.0, subst (λ x. is_end (effect_of x) ≡ false) (sym one) no.1)
      ];
}

pub returns-clause-no : goal.returns-clause-no
returns-clause-no g c = λ is told recs has followed.
    let below = below_end (first_of c.args.log.now) recs followed.number followed.rec followed.there in
    let none = c.loop-q.invariant.none told recs has followed.number followed.rec followed.behind (omega (arith, below, has_tail c.args.log.now _ recs has, c.loop-q-test.false, c.tail-end.ensures.tail)) followed.there followed.names in
    let ends = followed.ends none.0 in
    let not = none.1 in
    cc
