use Rattle.std.proofs.Common.{◌≢◌, [], AllPairs, is_some, option_and_then, refl, ap, arith, subst, sym, ◌∙◌}
use Rattle.std.specs.List.{cons_option, count_by}
use Rattle.std.specs.Result.{IsOk}
use Rattle.private_log.proofs.Outcomes.{on_outcome}
use Rattle.node_cache.specs.Cache.{first_change, has_changes, is_page, page_at, place_of}
use Rattle.node_cache.specs.Writes.{AreFree, AreInReach, HoldsPages, KeepsContentsButPages, KeepsForeignButPages, NarrowsButPages}
use Rattle.sd_base.proofs.Positions.{not_placed}
use Rattle.node_cache.proofs.FlushLaws.{page_range, unchanged_page, changed_page, page_written, page_missing}
use Rattle.node_cache.proofs.cache.NodeCache.flush_page.Goals as goal

pub write_back-requires-clause-page_reach : goal.write_back-requires-clause-page_reach
write_back-requires-clause-page_reach g c = subst (λ ws. AreInReach c.args.s.now ws (g.D.Disk.state c.args.disk.now).reach) (sym (page_range c.args.x c.args.self.now.pages c.in-Some.i (ap (λ v. place_of c.args.x v.pages) (sym c.self.view_is) ∙ sym c.find.ensures ∙ c.in-Some.is))) c.requires.page_reach

pub write_back-requires-clause-page_free : goal.write_back-requires-clause-page_free
write_back-requires-clause-page_free g c = λ told. subst (λ ws. AreFree c.args.s.now ws c.args.self.now.node.0 (g.D.Disk.state c.args.disk.now).block) (sym (page_range c.args.x c.args.self.now.pages c.in-Some.i (ap (λ v. place_of c.args.x v.pages) (sym c.self.view_is) ∙ sym c.find.ensures ∙ c.in-Some.is))) (c.requires.page_free told)

pub returns-in_err-write_back-clause-idle : goal.returns-in_err-write_back-clause-idle
returns-in_err-write_back-clause-idle g c = λ none.
    let quiet = c.write_back.ensures.idle (ap (count_by has_changes) (page_range c.args.x c.args.self.now.pages c.in-Some.i (ap (λ v. place_of c.args.x v.pages) (sym c.self.view_is) ∙ sym c.find.ensures ∙ c.in-Some.is)) ∙ unchanged_page (page_at c.args.x c.args.self.now.pages) none) in
    let never = subst (λ r. IsOk r) c.in_err-write_back.was quiet.0 in
    absurd cc

pub returns-in_err-write_back-clause-outcomes : goal.returns-in_err-write_back-clause-outcomes
returns-in_err-write_back-clause-outcomes g c = λ told. subst (λ ws. NarrowsButPages c.args.s.now c.args.self.now.log c.args.pool.now ws (g.D.Disk.state c.args.disk.now).block (g.D.Disk.state c.write_back.new.disk).block) (page_range c.args.x c.args.self.now.pages c.in-Some.i (ap (λ v. place_of c.args.x v.pages) (sym c.self.view_is) ∙ sym c.find.ensures ∙ c.in-Some.is)) (c.write_back.ensures.outcomes told)

pub returns-in_err-write_back-clause-foreign : goal.returns-in_err-write_back-clause-foreign
returns-in_err-write_back-clause-foreign g c = λ told. subst (λ ws. KeepsForeignButPages c.args.s.now c.args.self.now.log ws c.args.self.now.node.0 (g.D.Disk.state c.args.disk.now).block (g.D.Disk.state c.write_back.new.disk).block) (page_range c.args.x c.args.self.now.pages c.in-Some.i (ap (λ v. place_of c.args.x v.pages) (sym c.self.view_is) ∙ sym c.find.ensures ∙ c.in-Some.is)) (c.write_back.ensures.foreign told)

pub returns-in_ok-write_back-clause-idle : goal.returns-in_ok-write_back-clause-idle
returns-in_ok-write_back-clause-idle g c = λ none.
    let quiet = c.write_back.ensures.idle (ap (count_by has_changes) (page_range c.args.x c.args.self.now.pages c.in-Some.i (ap (λ v. place_of c.args.x v.pages) (sym c.self.view_is) ∙ sym c.find.ensures ∙ c.in-Some.is)) ∙ unchanged_page (page_at c.args.x c.args.self.now.pages) none) in
    (refl, quiet.1, quiet.2)

pub returns-in_ok-write_back-clause-stable : goal.returns-in_ok-write_back-clause-stable
returns-in_ok-write_back-clause-stable g c = λ some.
    let one = ap (count_by has_changes) (page_range c.args.x c.args.self.now.pages c.in-Some.i (ap (λ v. place_of c.args.x v.pages) (sym c.self.view_is) ∙ sym c.find.ensures ∙ c.in-Some.is)) ∙ changed_page (page_at c.args.x c.args.self.now.pages) some in
    c.in_ok-write_back.ensures.stable (omega (arith, one))

pub returns-in_ok-write_back-clause-pages : goal.returns-in_ok-write_back-clause-pages
returns-in_ok-write_back-clause-pages g c = page_written c.args.x c.args.self.now.pages c.write_back.new.self.pages c.in-Some.i (ap (λ v. place_of c.args.x v.pages) (sym c.self.view_is) ∙ sym c.find.ensures ∙ c.in-Some.is) (subst (λ v. AllPairs (λ p q. p.ticket.page ≢ q.ticket.page) v.pages) c.self.view_is c.self.invariant.once) c.in_ok-write_back.ensures.written

pub returns-in_ok-write_back-clause-outcomes : goal.returns-in_ok-write_back-clause-outcomes
returns-in_ok-write_back-clause-outcomes g c = λ told. subst (λ ws. NarrowsButPages c.args.s.now c.args.self.now.log c.args.pool.now ws (g.D.Disk.state c.args.disk.now).block (g.D.Disk.state c.write_back.new.disk).block) (page_range c.args.x c.args.self.now.pages c.in-Some.i (ap (λ v. place_of c.args.x v.pages) (sym c.self.view_is) ∙ sym c.find.ensures ∙ c.in-Some.is)) (c.write_back.ensures.outcomes told)

pub returns-in_ok-write_back-clause-foreign : goal.returns-in_ok-write_back-clause-foreign
returns-in_ok-write_back-clause-foreign g c = λ told. subst (λ ws. KeepsForeignButPages c.args.s.now c.args.self.now.log ws c.args.self.now.node.0 (g.D.Disk.state c.args.disk.now).block (g.D.Disk.state c.write_back.new.disk).block) (page_range c.args.x c.args.self.now.pages c.in-Some.i (ap (λ v. place_of c.args.x v.pages) (sym c.self.view_is) ∙ sym c.find.ensures ∙ c.in-Some.is)) (c.write_back.ensures.foreign told)

pub returns-in_ok-write_back-clause-contents : goal.returns-in_ok-write_back-clause-contents
returns-in_ok-write_back-clause-contents g c = λ told. subst (λ ws. KeepsContentsButPages c.args.s.now c.args.self.now.log ws (g.D.Disk.state c.args.disk.now).block (g.D.Disk.state c.write_back.new.disk).block) (page_range c.args.x c.args.self.now.pages c.in-Some.i (ap (λ v. place_of c.args.x v.pages) (sym c.self.view_is) ∙ sym c.find.ensures ∙ c.in-Some.is)) (c.in_ok-write_back.ensures.contents told)

pub returns-in_ok-write_back-clause-holds : goal.returns-in_ok-write_back-clause-holds
returns-in_ok-write_back-clause-holds g c = λ told. subst (λ ws. HoldsPages c.args.s.now c.args.pool.now ws (g.D.Disk.state c.write_back.new.disk).block) (page_range c.args.x c.args.self.now.pages c.in-Some.i (ap (λ v. place_of c.args.x v.pages) (sym c.self.view_is) ∙ sym c.find.ensures ∙ c.in-Some.is)) (c.in_ok-write_back.ensures.holds told)

pub returns-in_default-clause-stable : goal.returns-in_default-clause-stable
returns-in_default-clause-stable g c = λ some.
    let none = ap (λ o. is_some (option_and_then first_change o)) (ap (λ v. page_at c.args.x v.pages) (sym c.self.view_is) ∙ not_placed (is_page c.args.x) c.self.inside.pages (sym c.find.ensures ∙ c.in_default.is)) in
    absurd cc

pub returns-in_default-clause-pages : goal.returns-in_default-clause-pages
returns-in_default-clause-pages g c = sym (page_missing c.args.x _ c.args.self.now.pages (ap (λ v. page_at c.args.x v.pages) (sym c.self.view_is) ∙ not_placed (is_page c.args.x) c.self.inside.pages (sym c.find.ensures ∙ c.in_default.is)))

pub returns-in_default-clause-holds : goal.returns-in_default-clause-holds
returns-in_default-clause-holds g c = λ told. subst (λ o. HoldsPages c.args.s.now c.args.pool.now (cons_option o []) (g.D.Disk.state c.args.disk.now).block) (sym (ap (λ v. page_at c.args.x v.pages) (sym c.self.view_is) ∙ not_placed (is_page c.args.x) c.self.inside.pages (sym c.find.ensures ∙ c.in_default.is))) (λ i d below. absurd (omega (arith, below)))

pub returns-in_default-clause-any_outcome : goal.returns-in_default-clause-any_outcome
returns-in_default-clause-any_outcome g c = λ told xs on image is. on_outcome c.args.self.now.log (g.D.Disk.state c.args.disk.now).block xs image on is
