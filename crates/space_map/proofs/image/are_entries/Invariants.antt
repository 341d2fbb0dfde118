use Rattle.std.proofs.Common.{◌+◌, ◌*◌, ◌<◌, ℕ, drop}
use Rattle.space_map.specs.Entry.{IsEntry, entry_of_text}
use Rattle.space_map.proofs.image.are_entries.Given as goal

-- the entries before this one are in range
abbrev pub invariant-loop-place : goal.invariant-loop-place
invariant-loop-place l = (k : ℕ) → k < l.place → IsEntry (entry_of_text (drop (64 + 16 * k) l.b))
