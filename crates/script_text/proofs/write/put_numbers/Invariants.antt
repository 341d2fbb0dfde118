use Rattle.std.proofs.Common.{◌≡◌, ◌+◌, ◌*◌, ◌≤◌, ◌∷◌, decimal, length, take, map}
use Rattle.arrayvec.specs.ArrayVec.{array_vec_len}
use Rattle.script_text.specs.Words.{spaced}
use Rattle.script_text.proofs.write.put_numbers.Given as goal

abbrev pub invariant-loop-number : goal.invariant-loop-number
invariant-loop-number l = record {
  items : l.out.items ≡ spaced (l.words ∷ map decimal (take l.number-index l.numbers));
  len : array_vec_len l.out ≤ length l.words + 21 * l.number-index;
}
