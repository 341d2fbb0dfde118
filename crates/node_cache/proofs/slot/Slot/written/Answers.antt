use Rattle.std.specs.Option.{is_some}
use Rattle.std.proofs.Common.{◌≡◌, Some, refl, ap, subst, sym, ◌∙◌}
use Rattle.state_ids.specs.Batch.{sent_at}
use Rattle.state_ids.specs.declared.held.WrittenPage.{WrittenPage}
use Rattle.node_cache.specs.Places.{shown}
use Rattle.node_cache.specs.Sending.{IsSent}
use Rattle.node_cache.proofs.slot.Slot.written.Goals as goal

-- what was sent of the page
pub written-w-requires : goal.written-w-requires
written-w-requires c =
    let sent = subst (λ x. IsSent c.args.covered.now (shown x)) c.in-Dirty.is c.requires in
    ap is_some (ap (λ x. sent_at x c.args.covered.now) c.page.ensures ∙ sent (record { first = c.in-Dirty._first; last = c.in-Dirty.page.last }) refl)

same : (c : goal.After-written-w) → c.written-w.result ≡ record { page = c.in-Dirty.page.ticket.page; node = c.in-Dirty.page.ticket.node; last = c.in-Dirty.page.last }
same c =
    let sent = subst (λ x. IsSent c.args.covered.now (shown x)) c.in-Dirty.is c.requires in
    let w : WrittenPage = record { page = c.in-Dirty.page.ticket.page; node = c.in-Dirty.page.ticket.node; last = c.in-Dirty.page.last } in
    let both : Some c.written-w.result ≡ Some w = sym c.written-w.ensures ∙ ap (λ x. sent_at x c.args.covered.now) c.page.ensures ∙ sent (record { first = c.in-Dirty._first; last = c.in-Dirty.page.last }) refl in
    cc

pub written-page-requires-clause-page : goal.written-page-requires-clause-page
written-page-requires-clause-page c = ap (λ w. w.page) (same c)

pub written-page-requires-clause-node : goal.written-page-requires-clause-node
written-page-requires-clause-node c = ap (λ w. w.node) (same c)

pub written-page-requires-clause-last : goal.written-page-requires-clause-last
written-page-requires-clause-last c = ap (λ w. w.last) (same c)
