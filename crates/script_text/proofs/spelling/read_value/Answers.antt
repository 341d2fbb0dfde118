use Rattle.std.proofs.Common.{◌≡◌, ◌<◌, ◌≤◌, ◌∙◌, ℕ, List, [], ◌∷◌, ◌++◌, length, take, drop, Option, Some, None, IsNone, IfSome, sym, ap, subst, refl, arith}
use Rattle.std.proofs.lemmas.List.{take_rest, length-append, length-drop, drop-drop, drop_at, drop_all}
use Rattle.std.proofs.lemmas.Bool.Decides.{nat_tests}
use Rattle.std.proofs.lemmas.List.Elements.{All-push}
use Rattle.std.proofs.Math.Seq.{take-add}
use Rattle.script_text.specs.Spelling.{spelled, spelled_byte, AreBytes}
use Rattle.script_text.proofs.SpellingLaws.{spelled-push, next_byte, no_byte}
use Rattle.script_text.proofs.spelling.read_value.Goals as goal

-- a value of few bytes is made
value_is : (made : Option (List ℕ)) (s v : List ℕ) → (IsNone made → 248 < length s) → IfSome made (λ x. x ≡ s) → s ≡ v → length v ≤ 248 → made ≡ Some v
value_is None s v long is e short = absurd (omega (arith, long refl, ap length e))
value_is (Some x) s v long is e short = ap Some (is ∙ e)

pub returns-in_default-clause-only : goal.returns-in_default-clause-only
returns-in_default-clause-only c = λ v value is.
    let left = c.loop-at.invariant.only v value is in
    let next = next_byte v c.loop-at.bytes.items left.0 (drop c.loop-at.at c.args.text.now) value.bytes left.1 left.2 (omega (arith, length-drop c.loop-at.at c.args.text.now)) in
    let read = c.read_byte.ensures.only next.0 (spelled next.1) next.2 (take_rest c.args.text.now c.loop-at.at ∙ next.4) in cc

pub returns-then-is_full-clause-only : goal.returns-then-is_full-clause-only
returns-then-is_full-clause-only c = λ v value is.
    let left = c.loop-at.invariant.only v value is in
    let next = next_byte v c.loop-at.bytes.items left.0 (drop c.loop-at.at c.args.text.now) value.bytes left.1 left.2 (omega (arith, length-drop c.loop-at.at c.args.text.now)) in
    let full : length c.loop-at.bytes.items ≡ 248 = grind (arith, nat_tests) in
    absurd (omega (arith, value.short, ap length next.3, length-append (c.loop-at.bytes.items ++ next.0 ∷ []) next.1, length-append c.loop-at.bytes.items (next.0 ∷ [])))

pub loop-at-preserved : goal.loop-at-preserved
loop-at-preserved c =
    let text : List ℕ = c.args.text.now in
    let at : ℕ = c.loop-at.at in
    let bytes : List ℕ = c.loop-at.bytes.items in
    let b : ℕ = c.in-Some.b in
    let len : ℕ = c.in-Some.len in
    let found = c.in-Some.ensures.found in
    let rest = take_rest text at in
    let front : take len (drop at text) ≡ spelled_byte b = ap (take len) (sym rest) ∙ found.front in
    record {
      within = omega (arith, found.within, ap length rest, length-drop at text);
      bytes = (let P : List ℕ → Type 0 = AreBytes in subst P (sym c.push.ensures.items) (All-push (λ x. x < 256) bytes b c.loop-at.invariant.bytes found.byte));
      front = take-add at len text ∙ ap (λ xs. xs ++ take len (drop at text)) c.loop-at.invariant.front ∙ ap (λ xs. spelled bytes ++ xs) front ∙ sym (spelled-push bytes b) ∙ ap spelled (sym c.push.ensures.items);
      only = λ v value is.
          let left = c.loop-at.invariant.only v value is in
          let next = next_byte v bytes left.0 (drop at text) value.bytes left.1 left.2 (omega (arith, length-drop at text)) in
          let read = c.read_byte.ensures.only next.0 (spelled next.1) next.2 (rest ∙ next.4) in
          let pair : (b, len) ≡ (next.0, length (spelled_byte next.0)) = cc in
          let same : b ≡ next.0 = ap (λ (p : ℕ × ℕ). p.0) pair in
          let long : len ≡ length (spelled_byte next.0) = ap (λ (p : ℕ × ℕ). p.1) pair in (
            next.1,
            next.3 ∙ ap (λ x. (bytes ++ x ∷ []) ++ next.1) (sym same) ∙ ap (λ xs. xs ++ next.1) (sym c.push.ensures.items),
            sym (drop-drop len at text) ∙ ap (drop len) next.4 ∙ drop_at (spelled_byte next.0) (spelled next.1) len (sym long),
          );
    }

pub returns-clause-only : goal.returns-clause-only
returns-clause-only c = λ v value is.
    let left = c.loop-at.invariant.only v value is in
    let whole = no_byte v c.loop-at.bytes.items left.0 (drop c.loop-at.at c.args.text.now) value.bytes left.1 left.2 (drop_all c.loop-at.at c.args.text.now c.loop-at-test.false) in
    value_is c.from_slice.result c.as_slice.result.now v c.from_slice.ensures.long.0 c.from_slice.ensures.value (c.as_slice.ensures.value ∙ sym whole) value.short
