use Rattle.std.proofs.Common.{◌≡◌, [], Some, None, slice_set, inl, inr, ap, subst, sym, is_some, ◌∙◌}
use Rattle.std.specs.List.{cons_option}
use Rattle.std.proofs.lemmas.List.{set-set}
use Rattle.frame_pool.specs.Frames.{IsOut}
use Rattle.page_owner.specs.declared.owners.Own.TheVariants.{Nobody, Out}
use Rattle.page_owner.specs.Owners.{owner_of}
use Rattle.node_cache.specs.Cache.{AreOut, AreOwned, IsCache, is_changed, is_page, page_at}
use Rattle.node_cache.specs.Places.{shown}
use Rattle.node_cache.specs.Room.{IsHeldBy, freed}
use Rattle.sd_base.proofs.Positions.{not_placed}
use Rattle.node_cache.proofs.Finding.{all_at, got}
use Rattle.node_cache.proofs.Giving.{page_placed, unchanged_is}
use Rattle.node_cache.proofs.Parking.{all_owned}
use Rattle.node_cache.proofs.Without.{cache_without, out_within}
use Rattle.node_cache.proofs.cache.NodeCache.give_back.Goals as goal

pub release-frame-requires : goal.release-frame-requires
release-frame-requires c =
    let at = page_placed c.args.x c.self.inside.pages c.in-Some.i (sym c.find.ensures ∙ c.in-Some.is) in
    let there = c.remove.ensures.slot in
    let here = at.at in
    let same : at.page ≡ shown c.remove.result = cc in
    unchanged_is (page_at c.args.x c.self.inside.pages) (shown c.remove.result) (ap (λ v. is_changed c.args.x v) c.self.view_is ∙ c.requires.clean) (at.there ∙ ap Some same)

pub give-requires : goal.give-requires
give-requires c = rw c.release-frame.ensures.frame (all_at (λ p. IsOut c.args.pool.now p.frame) c.self.inside.pages c.in-Some.i (shown c.remove.result) (subst (AreOut c.args.pool.now) (sym c.self.view_is) c.requires.out) c.remove.ensures.slot)

pub give_back-requires-clause-page : goal.give_back-requires-clause-page
give_back-requires-clause-page c =
    let owned = all_at (λ p. owner_of c.args.owners.now p.ticket.page.0 ≡ Out p.ticket.node) c.self.inside.pages c.in-Some.i (shown c.remove.result)
    (all_owned (record { log = c.self.inside.log; node = c.self.inside.node; pages = c.self.inside.pages }) c.args.owners.now c.self.invariant.own (subst (AreOwned c.args.owners.now) (sym c.self.view_is) c.requires.owned)) c.remove.ensures.slot in
    rw c.release-frame.ensures.ticket (out_within c.args.owners.now (shown c.remove.result).ticket.page.0 (shown c.remove.result).ticket.node owned)

pub give_back-requires-clause-out : goal.give_back-requires-clause-out
give_back-requires-clause-out c =
    let owned = all_at (λ p. owner_of c.args.owners.now p.ticket.page.0 ≡ Out p.ticket.node) c.self.inside.pages c.in-Some.i (shown c.remove.result)
    (all_owned (record { log = c.self.inside.log; node = c.self.inside.node; pages = c.self.inside.pages }) c.args.owners.now c.self.invariant.own (subst (AreOwned c.args.owners.now) (sym c.self.view_is) c.requires.owned)) c.remove.ensures.slot in
    rw c.release-frame.ensures.ticket owned

pub invariant_of-self : goal.invariant_of-self
invariant_of-self c = subst (IsCache c.self.inside.node) (sym c.remove.ensures.pages) (cache_without c.self.inside.node c.self.inside.pages c.in-Some.i (got c.self.inside.pages c.in-Some.i _ c.remove.ensures.slot).0 c.self.invariant)

pub resume-parked-requires-clause-parked : goal.resume-parked-requires-clause-parked
resume-parked-requires-clause-parked c = elim (subst (λ v. IsHeldBy v.node (owner_of c.args.owners.now c.args.x.0)) (sym c.self.view_is) c.requires.held) [
  | inl parked ↦ parked
  | inr out ↦
      let cached = ((subst (AreOwned c.args.owners.now) (sym c.self.view_is) c.requires.owned) c.args.x).0 out in
      let none = ap is_some (not_placed (is_page c.args.x) c.self.inside.pages (sym c.find.ensures ∙ c.in-None.is)) in
      absurd cc
]

pub returns-in-Some-clause-pool : goal.returns-in-Some-clause-pool
returns-in-Some-clause-pool c =
    let at = page_placed c.args.x c.self.inside.pages c.in-Some.i (sym c.find.ensures ∙ c.in-Some.is) in
    let there = c.remove.ensures.slot in
    let here = at.at in
    let same : shown c.remove.result ≡ at.page = cc in
    c.give.ensures.free ∙ ap (λ f. slice_set c.args.pool.now f None) (c.release-frame.ensures.frame ∙ ap (λ p. p.frame) same)
    ∙ ap (λ o. freed (cons_option o []) c.args.pool.now) (sym at.there) ∙ ap (λ v. freed (cons_option (page_at c.args.x v.pages) []) c.args.pool.now) c.self.view_is

pub returns-in-Some-clause-owners : goal.returns-in-Some-clause-owners
returns-in-Some-clause-owners c =
    let at = page_placed c.args.x c.self.inside.pages c.in-Some.i (sym c.find.ensures ∙ c.in-Some.is) in
    let there = c.remove.ensures.slot in
    let here = at.at in
    let same : shown c.remove.result ≡ at.page = cc in
    c.give_back.ensures ∙ ap (λ y. slice_set c.args.owners.now y.0 Nobody) (ap (λ t. t.page) c.release-frame.ensures.ticket ∙ ap (λ p. p.ticket.page) same ∙ at.is)

pub returns-in-None-clause-pool : goal.returns-in-None-clause-pool
returns-in-None-clause-pool c = sym (ap (λ o. freed (cons_option o []) c.args.pool.now) (ap (λ v. page_at c.args.x v.pages) (sym c.self.view_is) ∙ not_placed (is_page c.args.x) c.self.inside.pages (sym c.find.ensures ∙ c.in-None.is)))

pub returns-in-None-clause-owners : goal.returns-in-None-clause-owners
returns-in-None-clause-owners c =
    c.give_back-in-None.ensures ∙ ap (λ y. slice_set c.resume-parked.new.self y.0 Nobody) c.resume-parked.ensures.page
    ∙ ap (λ os. slice_set os c.args.x.0 Nobody) c.resume-parked.ensures.table ∙ set-set c.args.owners.now c.args.x.0 (Out c.self.inside.node) Nobody
