use Rattle.std.proofs.Common.{◌+◌, ap, sym, ◌∙◌}
use Rattle.std.specs.Option.{is_some}
use Rattle.node_cache.specs.Places.{shown}
use Rattle.node_cache.proofs.Ranges.{count_changed, count_unchanged, first_changed}
use Rattle.node_cache.proofs.pages.Pages.count_changed.Goals as goal
use Rattle.node_cache.proofs.pages.Pages.count_changed.Goals.{then-is_some, else-is_some}

pub loop-i-preserved : goal.loop-i-preserved
loop-i-preserved c =
    let is = sym (first_changed (shown c.slot.result.now)) ∙ ap is_some (sym c.first.ensures) ∙ sym c.is_some.ensures in
    elim c.if-is_some.branch [
      | then-is_some w ↦ record { count = w.count-is ∙ ap (λ n. n + 1) c.loop-i.invariant.count ∙ sym (count_changed c.args.from c.loop-i.i _ _ c.loop-i.auto.i c.slot.ensures (is ∙ w.if-is_some.true)) }
      | else-is_some w ↦ record { count = w.count-is ∙ c.loop-i.invariant.count ∙ sym (count_unchanged c.args.from c.loop-i.i _ _ c.loop-i.auto.i c.slot.ensures (is ∙ w.if-is_some.false)) }
    ]
