use Rattle.std.proofs.Common.{rules, ◌≡◌, true, false, sym, ◌∙◌}
use Rattle.loser_undo.proofs.Answered.{if_ok_then}
use Rattle.loser_undo.proofs.bonds.is_of_past.Goals as goal

pub returns-in_err-found-clause-there : goal.returns-in_err-found-clause-there
returns-in_err-found-clause-there g c = λ told recs has.
    let stop = c.in_err-found.ensures.there told recs has in
    search (rules, stop)

pub returns-then-is_end-clause-yes : goal.returns-then-is_end-clause-yes
returns-then-is_end-clause-yes g c = λ is told recs has.
    let none : c.in_ok-found.found ≡ false = search rules in
    record {
      ended = λ going. let end = c.if-is_end.true in let same = c.is_end.ensures in absurd cc;
      last = λ end. c.in_ok-found.ensures.no none told recs has;
    }

pub returns-then-is_end-clause-no : goal.returns-then-is_end-clause-no
returns-then-is_end-clause-no g c = λ is told recs has past.
    let some : c.in_ok-found.found ≡ true = search rules in
    past.last (sym c.is_end.ensures ∙ c.if-is_end.true) (c.in_ok-found.ensures.yes some told recs has)

pub returns-clause-yes : goal.returns-clause-yes
returns-clause-yes g c = if_ok_then _ _ c.is_followed-2.result c.is_followed-2.ensures.yes (λ found followed is told recs has. record {
  ended = λ going. followed is told recs has;
  last = λ end. let not = c.if-is_end.false in let same = c.is_end.ensures in absurd cc;
})

pub returns-clause-no : goal.returns-clause-no
returns-clause-no g c = if_ok_then _ _ c.is_followed-2.result c.is_followed-2.ensures.no (λ found none is told recs has past.
    none is told recs has (past.ended (sym c.is_end.ensures ∙ c.if-is_end.false)))
