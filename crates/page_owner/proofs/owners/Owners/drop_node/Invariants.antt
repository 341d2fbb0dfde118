use Rattle.std.proofs.Common.{◌≡◌, ◌<◌, ◌≤◌, ℕ, length, get_or}
use Rattle.page_owner.specs.declared.owners.Own.{Own}
use Rattle.page_owner.specs.Owners.{without_node}
use Rattle.page_owner.proofs.owners.Owners.drop_node.Given as goal

abbrev pub invariant-loop-own : goal.invariant-loop-own
invariant-loop-own l = record {
  long : length l.own-items ≡ length l.initial.own-items;
  done : (k : ℕ) (d : Own) → k < l.own-index → k < length l.own-items → get_or l.own-items k d ≡ without_node l.n (get_or l.initial.own-items k d);
  rest : (k : ℕ) (d : Own) → l.own-index ≤ k → get_or l.own-items k d ≡ get_or l.initial.own-items k d;
}
