use Rattle.std.proofs.Common.{◌≡◌, ◌∷◌, suc, All, slice_set, length, None, ap, sym, subst, subst₂, arith, ◌∙◌}
use Rattle.page_owner.specs.declared.owners.Own.TheVariants.{Nobody, Parked, Out}
use Rattle.page_owner.specs.Owners.{owner_of}
use Rattle.node_cache.specs.Places.{shown}
use Rattle.node_cache.specs.Room.{freed, parked}
use Rattle.node_cache.proofs.Finding.{all_at}
use Rattle.node_cache.proofs.Parking.{AreHeld, first_is, is_within, others_held}
use Rattle.node_cache.proofs.pages.Pages.wreck.Goals as goal

pub wreck-frame-requires-clause-node : goal.wreck-frame-requires-clause-node
wreck-frame-requires-clause-node g c = sym (all_at (λ p. p.ticket.node ≡ c.args.n) c.loop-n.self 0 _ c.loop-n.invariant.own c.remove.ensures.slot)

pub park-requires-clause-page : goal.park-requires-clause-page
park-requires-clause-page g c =
    let owned = all_at (λ p. owner_of c.loop-n.owners p.ticket.page.0 ≡ Out p.ticket.node) c.loop-n.self 0 _ c.loop-n.invariant.held.owned c.remove.ensures.slot in
    rw c.wreck-frame.ensures.ticket (is_within _ _ _ (λ (never : Out (shown c.remove.result).ticket.node ≡ Nobody). cc) owned)

pub loop-n-preserved : goal.loop-n-preserved
loop-n-preserved g c =
    let p = shown c.remove.result in
    let whole : c.loop-n.self ≡ p ∷ c.remove.new.self = first_is _ _ c.remove.ensures.slot ∙ ap (λ ps. p ∷ ps) (sym c.remove.ensures.pages) in
    let pool = c.give.ensures.free ∙ ap (λ f. slice_set c.loop-n.pool f None) c.wreck-frame.ensures.frame in
    let owners = c.park.ensures ∙ ap (λ t. slice_set c.loop-n.owners t.page.0 (Parked t.node)) c.wreck-frame.ensures.ticket in
    record {
      own = λ k d below. subst (All (λ q. q.ticket.node ≡ c.args.n)) whole c.loop-n.invariant.own (suc k) d (omega (arith, below));
      held = subst₂ (AreHeld c.remove.new.self) (sym pool) (sym owners) (others_held p c.remove.new.self c.loop-n.pool c.loop-n.owners (subst (λ ps. AreHeld ps c.loop-n.pool c.loop-n.owners) whole c.loop-n.invariant.held));
      pool = ap (freed c.remove.new.self) pool ∙ ap (λ ps. freed ps c.loop-n.pool) (sym whole) ∙ c.loop-n.invariant.pool;
      counted = omega (arith, c.loop-n.invariant.counted, c.give.ensures.counted, ap length whole);
      owners = ap (parked c.remove.new.self) owners ∙ ap (λ ps. parked ps c.loop-n.owners) (sym whole) ∙ c.loop-n.invariant.owners;
    }
