use Rattle.std.proofs.Common.{◌≡◌, ◌≤◌, ◌-◌, ◌++◌, ℕ, List, length, take, drop}
use Rattle.script_text.specs.Spelling.{spelled, AreBytes, IsValue}
use Rattle.script_text.proofs.spelling.read_value.Given as goal

abbrev pub invariant-loop-at : goal.invariant-loop-at
invariant-loop-at l = record {
  within : l.at ≤ length l.text;
  bytes : AreBytes l.bytes.items;
  front : take l.at l.text ≡ spelled l.bytes.items;
  only : (v : List ℕ) → IsValue v → l.text ≡ spelled v → (w : List ℕ) × (v ≡ l.bytes.items ++ w) × (drop l.at l.text ≡ spelled w);
}

abbrev pub decreases-loop-at : goal.decreases-loop-at
decreases-loop-at l = length l.text - l.at
