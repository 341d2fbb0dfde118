use Rattle.std.proofs.Common.{◌≤◌, ◌<◌, ℕ, IfSome}
use Rattle.std.specs.List.{slice_get}
use Rattle.space_map.specs.Image.{MapImage}
use Rattle.store_nodes.specs.Pages.{IsUnused, ShowsMap}
use Rattle.store_pages.proofs.cached_pages.next_group.Given as goal

abbrev pub invariant-loop-place : goal.invariant-loop-place
invariant-loop-place l = record {
  low : l.first ≤ l.least;
  high : l.least ≤ l.end;
  none : (image : MapImage) → ShowsMap l.store l.n.0 l.map image → (place : ℕ) → place < l.place → IfSome (slice_get image.entries place) (IsUnused l.first l.least);
  there : 0 < l.place → (image : MapImage) × ShowsMap l.store l.n.0 l.map image;
}
