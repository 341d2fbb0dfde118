use Rattle.node_cache.specs.Places.{IsWrittenWithin}
use Rattle.node_cache.proofs.pages.Pages.end_range.Given as goal

abbrev pub invariant-loop-i : goal.invariant-loop-i
invariant-loop-i l = record { written : IsWrittenWithin l.from l.i l.initial.self l.self }
