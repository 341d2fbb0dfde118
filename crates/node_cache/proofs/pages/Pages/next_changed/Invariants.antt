use Rattle.node_cache.specs.Sending.{IsNextPlace}
use Rattle.node_cache.proofs.pages.Pages.next_changed.Given as goal

abbrev pub invariant-loop-i : goal.invariant-loop-i
invariant-loop-i l = IsNextPlace l.least l.from l.i l.self l.next
