use Rattle.std.proofs.Common.{rules, ◌≡◌, true, false, subst, sym, ◌∙◌}
use Rattle.loser_undo.specs.Logs.{first_of}
use Rattle.loser_undo.specs.Rules.{IsEarlier}
use Rattle.loser_undo.proofs.Answered.{if_ok_then}
use Rattle.loser_undo.proofs.Breaches.{has_still}
use Rattle.loser_undo.proofs.bonds.leads_back.Goals as goal

pub returns-in_err-before-clause-there : goal.returns-in_err-before-clause-there
returns-in_err-before-clause-there g c = λ told recs has.
    let stop = c.in_err-before.ensures.there told recs has in
    search (rules, stop)

pub returns-then-is_end-clause-no : goal.returns-then-is_end-clause-no
returns-then-is_end-clause-no g c = λ is told recs has leads.
    let end = c.if-is_end.true in
    let same = c.is_end.ensures in
    let going = leads.going in
    cc

pub returns-then-not-before-clause-no : goal.returns-then-not-before-clause-no
returns-then-not-before-clause-no g c = λ is told recs has leads.
    let none : c.in_ok-before.before ≡ false = search rules in
    c.in_ok-before.ensures.no none told recs has (subst (IsEarlier (first_of c.args.log.now) recs c.args.t c.args.r) (sym c.record_before.ensures) leads.before)

pub returns-in-None-clause-yes : goal.returns-in-None-clause-yes
returns-in-None-clause-yes g c = λ is told recs has.
    let some : c.in_ok-before.before ≡ true = search rules in
    record {
      going = sym c.is_end.ensures ∙ c.if-is_end.false;
      before = subst (IsEarlier (first_of c.args.log.now) recs c.args.t c.args.r) c.record_before.ensures (c.in_ok-before.ensures.yes some told recs has);
      next = λ n next. let none = c.in-None.is in let same = c.next_after.ensures in absurd cc;
    }

pub returns-in-Some-clause-there : goal.returns-in-Some-clause-there
returns-in-Some-clause-there g c = λ told recs has.
    c.is_earlier-in-Some.ensures.there told recs (has_still c.args.log.now _ (g.D.Disk.state c.is_earlier.new.disk).block recs (c.in_ok-before.ensures.blocks told) has)

pub returns-in-Some-clause-yes : goal.returns-in-Some-clause-yes
returns-in-Some-clause-yes g c =
    let some : c.in_ok-before.before ≡ true = search rules in
    if_ok_then _ _ c.is_earlier-in-Some.result c.is_earlier-in-Some.ensures.yes (λ leads earlier is told recs has. record {
      going = sym c.is_end.ensures ∙ c.if-is_end.false;
      before = subst (IsEarlier (first_of c.args.log.now) recs c.args.t c.args.r) c.record_before.ensures (c.in_ok-before.ensures.yes some told recs has);
      next = λ n next.
          let named = c.in-Some.is in
          let result = c.next_after.ensures in
          let same : c.in-Some.next ≡ n = cc in
          subst (IsEarlier (first_of c.args.log.now) recs c.args.t c.args.r) same
          (earlier is told recs (has_still c.args.log.now _ (g.D.Disk.state c.is_earlier.new.disk).block recs (c.in_ok-before.ensures.blocks told) has));
    })

pub returns-in-Some-clause-no : goal.returns-in-Some-clause-no
returns-in-Some-clause-no g c =
    if_ok_then _ _ c.is_earlier-in-Some.result c.is_earlier-in-Some.ensures.no (λ leads none is told recs has back.
    none is told recs (has_still c.args.log.now _ (g.D.Disk.state c.is_earlier.new.disk).block recs (c.in_ok-before.ensures.blocks told) has)
    (back.next c.in-Some.next (sym c.next_after.ensures ∙ c.in-Some.is)))
