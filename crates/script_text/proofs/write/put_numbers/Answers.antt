use Rattle.std.proofs.Common.{◌∙◌, ◌++◌, decimal, codes, get_or, sym, ap, arith}
use Rattle.script_text.proofs.Spacing.{spaced-number}
use Rattle.script_text.proofs.write.put_numbers.Goals as goal

pub loop-number-preserved : goal.loop-number-preserved
loop-number-preserved c = record {
  items =
      c.put_number.ensures.items
      ∙ ap (λ xs. xs ++ decimal (get_or c.args.numbers.now c.loop-number.number-index 0)) (c.put_text-in-loop-number.ensures.items ∙ ap (λ xs. xs ++ codes " ") c.loop-number.invariant.items)
      ∙ sym (spaced-number c.args.words.now c.args.numbers.now c.loop-number.number-index c.loop-number-test.true);
  len = omega (arith, c.loop-number.invariant.len, c.put_text-in-loop-number.ensures.len, c.put_number.ensures.len);
}
