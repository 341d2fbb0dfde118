use Rattle.std.proofs.Common.{◌∙◌, ℕ, List, sym, ap, subst, arith}
use Rattle.std.specs.Str.{IsUtf8}
use Rattle.std.specs.Result.{result_ok}
use Rattle.std.proofs.lemmas.Fmt.{parse-decimal, IsAscii-decimal}
use Rattle.std.proofs.lemmas.Str.{IsUtf8-from_ascii}
use Rattle.script_text.proofs.numbers.parse.Goals as goal

pub returns-in-Ok : goal.returns-in-Ok
returns-in-Ok c = λ n lt e.
    let h = parse-decimal 64 n c.in-Ok.text.now c.parse.result lt lt (c.in-Ok.ensures.cases.0 ∙ e) c.parse.ensures.value.0 in
    c.ok.ensures.value ∙ ap result_ok h

pub returns-in-Err : goal.returns-in-Err
returns-in-Err c = λ n lt e.
    absurd (c.in-Err.ensures.cases.0 (let P : List ℕ → Type 0 = IsUtf8 in subst P (sym e) (IsUtf8-from_ascii _ (IsAscii-decimal n (omega arith)))))
