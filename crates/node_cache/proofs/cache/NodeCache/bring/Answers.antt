use Rattle.std.proofs.Common.{◌≡◌, ◌≢◌, ◌<◌, ◌++◌, All, [], ◌∷◌, Some, None, length, ap, subst, sym, ◌∙◌}
use Rattle.std.specs.Option.{IfSome}
use Rattle.state_ids.specs.Held.{Shows}
use Rattle.state_ids.specs.PageImage.{in_life}
use Rattle.sd_base.specs.Faults.{IsStopOf}
use Rattle.node_cache.specs.Cache.{AreOut, CachedPage, IsCache, is_cached, page_at}
use Rattle.node_cache.proofs.Arriving.{none_is, found_last, cache_with, was_free, frames_apart, others_kept, all_back}
use Rattle.node_cache.proofs.cache.NodeCache.bring.Goals as goal

pub invariant_of-self : goal.invariant_of-self
invariant_of-self g c =
    let last : CachedPage = record { ticket = c.in-Ok.page.ticket; frame = c.in-Ok.page.frame; entry = c.args.e; changes = None } in
    let own = ap (λ t. t.node) c.in-Ok.ensures.ticket ∙ c.requires.own ∙ ap (λ s. s.node) (sym c.self.view_is) in
    let none = ap (is_cached c.args.ticket.page) c.self.view_is ∙ c.requires.new in
    let other = subst (λ t. All (λ q. q.ticket.page ≢ t.page) c.self.inside.pages) (sym c.in-Ok.ensures.ticket) (none_is c.args.ticket.page c.self.inside.pages none) in
    let apart = subst (λ f. All (λ q. q.frame ≢ f) c.self.inside.pages) (sym c.in-Ok.ensures.frame) (frames_apart c.args.pool.now c.take.new.self c.in-Some.frame c.self.inside.pages c.in-Some.ensures.others (subst (AreOut c.args.pool.now) (sym c.self.view_is) c.requires.out)) in
    let few = subst (λ s. length s.pages < 16) (sym c.self.view_is) c.requires.few in
    subst (IsCache c.self.inside.node) (sym c.push.ensures) (cache_with c.self.inside.node c.self.inside.pages last c.self.invariant few own other apart)

pub returns-in-Ok-clause-arrived : goal.returns-in-Ok-clause-arrived
returns-in-Ok-clause-arrived g c = record {
  frame = c.in-Some.frame;
  last =
      let own = c.requires.own ∙ ap (λ s. s.node) (sym c.self.view_is) in
      let pages = ap (λ s. s.pages) c.self.view_is in
      c.push.ensures
      ∙ ap (λ ps. ps ++ record { ticket = c.in-Ok.page.ticket; frame = c.in-Ok.page.frame; entry = c.args.e; changes = None } ∷ []) pages
      ∙ ap (λ t. c.args.self.now.pages ++ record { ticket = t; frame = c.in-Ok.page.frame; entry = c.args.e; changes = None } ∷ []) c.in-Ok.ensures.ticket
      ∙ ap (λ f. c.args.self.now.pages ++ record { ticket = c.args.ticket; frame = f; entry = c.args.e; changes = None } ∷ []) c.in-Ok.ensures.frame
      ∙ ap (λ n. c.args.self.now.pages ++ record { ticket = record { page = c.args.ticket.page; node = n }; frame = c.in-Some.frame; entry = c.args.e; changes = None } ∷ []) own;
  free = was_free _ _ _ c.in-Some.ensures.others;
  others = others_kept _ _ _ _ c.in-Some.ensures.others c.load.ensures.frames;
  shows = c.in-Ok.ensures.shows;
}

pub returns-in-Ok-clause-image : goal.returns-in-Ok-clause-image
returns-in-Ok-clause-image g c = λ told image holds.
    let last : CachedPage = record { ticket = c.in-Ok.page.ticket; frame = c.in-Ok.page.frame; entry = c.args.e; changes = None } in
    let none = ap (is_cached c.args.ticket.page) c.self.view_is ∙ c.requires.new in
    let there : page_at c.args.ticket.page c.push.new.self ≡ Some last = ap (page_at c.args.ticket.page) c.push.ensures ∙ found_last c.args.ticket.page c.self.inside.pages last none (ap (λ t. t.page) c.in-Ok.ensures.ticket) in
    subst (λ o. IfSome o (λ p. Shows c.load.new.pool p.frame (in_life c.args.e image))) (sym there)
    (subst (λ f. Shows c.load.new.pool f (in_life c.args.e image)) (sym c.in-Ok.ensures.frame) (c.in-Ok.ensures.image told image holds))

pub returns-in-Err-clause-pool_kept : goal.returns-in-Err-clause-pool_kept
returns-in-Err-clause-pool_kept g c = rw (c.give.ensures.free, c.in-Err.ensures.frame_back) (all_back _ _ _ _ c.in-Some.ensures.others c.load.ensures.frames)

pub returns-in-Err-clause-there : goal.returns-in-Err-clause-there
returns-in-Err-clause-there g c = λ told image holds. subst (λ s. IsStopOf s.node.0 c.in-Err.fault) c.self.view_is (c.in-Err.ensures.there told image holds)
