use Rattle.std.proofs.Common.{◌≡◌, ◌+◌, ◌*◌, ◌<◌, ℕ, false, drop}
use Rattle.space_map.specs.Entry.{is_free, entry_of_text}
use Rattle.space_map.proofs.search.first_free.Given as goal

-- no entry before this one is free
abbrev pub invariant-loop-place : goal.invariant-loop-place
invariant-loop-place l = (k : ℕ) → k < l.place → is_free (entry_of_text (drop (64 + 16 * k) l.b)) ≡ false
