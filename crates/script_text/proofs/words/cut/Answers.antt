use Rattle.std.proofs.Common.{◌+◌, ◌∙◌}
use Rattle.std.proofs.lemmas.List.{take_rest}
use Rattle.script_text.proofs.CutLaws.{no_cut, IsCut-one, IsCut-first}
use Rattle.script_text.proofs.words.cut.Goals as goal

pub returns-in_err-place-clause-only : goal.returns-in_err-place-clause-only
returns-in_err-place-clause-only c = λ front back is. absurd (no_cut c.args.mark c.args.text.now front back c.in_err-place.ensures.none is.whole)

pub returns-clause-only : goal.returns-clause-only
returns-clause-only c = λ front back is.
    let same = IsCut-one c.args.mark c.args.text.now _ _ front back (IsCut-first c.args.mark c.args.text.now c.in_ok-place.place c.in_ok-place.ensures.found) is in
    (same.0, take_rest c.args.text.now (c.in_ok-place.place + 1) ∙ same.1)
