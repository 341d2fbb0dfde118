use Rattle.std.proofs.Common.{◌≡◌, ◌+◌, ◌*◌, ◌<◌, ℕ, false, drop}
use Rattle.space_map.specs.Entry.{is_used_by, entry_of_text}
use Rattle.space_map.proofs.search.find_group.Given as goal

-- no entry before this one is used by the group
abbrev pub invariant-loop-place : goal.invariant-loop-place
invariant-loop-place l = (k : ℕ) → k < l.place → is_used_by l.g (entry_of_text (drop (64 + 16 * k) l.b)) ≡ false
