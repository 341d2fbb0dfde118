use Rattle.std.proofs.Common.{◌≡◌, ◌+◌, ◌*◌, ◌≤◌, ◌++◌, take}
use Rattle.arrayvec.specs.ArrayVec.{array_vec_len}
use Rattle.script_text.specs.Spelling.{spelled}
use Rattle.script_text.proofs.text.put_spelled.Given as goal

abbrev pub invariant-loop-b : goal.invariant-loop-b
invariant-loop-b l = record {
  items : l.out.items ≡ l.initial.out.items ++ spelled (take l.b-index l.bytes);
  len : array_vec_len l.out ≤ array_vec_len l.initial.out + 4 * l.b-index;
}
