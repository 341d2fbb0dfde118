use Rattle.std.proofs.Common.{◌≡◌, ◌≤◌, ◌<◌, ℕ, None}
use Rattle.sd_base.specs.Places.{slot_of_key}
use Rattle.page_image.specs.declared.page_view.PageView.{PageView}
use Rattle.compensation.specs.Inverse.{content}
use Rattle.store_nodes.specs.Pages.{ShowsData}
use Rattle.store_commands.proofs.dumping.next_in_page.Given as goal

abbrev pub invariant-loop-k : goal.invariant-loop-k
invariant-loop-k l = record {
  from : l.fn.first.0 ≤ l.k;
  before : (v : PageView) → ShowsData l.store l.n.0 l.x v → (k : ℕ) → l.fn.first.0 ≤ k → k < l.k → content v (slot_of_key k) ≡ None;
  there : l.fn.first.0 < l.k → (v : PageView) × ShowsData l.store l.n.0 l.x v;
}
