use Rattle.std.proofs.Common.{◌≤◌, arith, subst}
use Rattle.std.specs.Prelude.{Contains}
use Rattle.loser_undo.specs.Logs.{first_of}
use Rattle.loser_undo.proofs.Answered.{if_ok_then}
use Rattle.loser_undo.proofs.bonds.is_bound.Goals as goal

pub returns-in-Some-clause-yes : goal.returns-in-Some-clause-yes
returns-in-Some-clause-yes g c = if_ok_then _ _ c.leads_back.result c.leads_back.ensures.yes (λ leads back is told recs has begun. record {
  past = λ lt. absurd (omega (arith, lt, c.if-t-first_of.false, c.first_of.ensures.first));
  back = λ ge open'. back is told recs has;
})

pub returns-in-Some-clause-no : goal.returns-in-Some-clause-no
returns-in-Some-clause-no g c = if_ok_then _ _ c.leads_back.result c.leads_back.ensures.no (λ leads none is told recs has begun bound.
    let from : first_of c.args.log.now ≤ c.args.t = omega (arith, c.if-t-first_of.false, c.first_of.ensures.first) in
    none is told recs has (bound.back from (subst (λ ts. Contains ts c.args.t) begun c.in-Some.ensures.some.1)))
