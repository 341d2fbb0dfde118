use Rattle.std.proofs.Common.{◌≡◌}
use Rattle.std.specs.List.{count_by}
use Rattle.node_cache.specs.Cache.{has_changes}
use Rattle.node_cache.specs.Places.{between}
use Rattle.node_cache.proofs.pages.Pages.count_changed.Given as goal

abbrev pub invariant-loop-i : goal.invariant-loop-i
invariant-loop-i l = record { count : l.count ≡ count_by has_changes (between l.from l.i l.self) }
