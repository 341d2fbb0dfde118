use Rattle.std.proofs.Common.{◌≡◌, All, map, refl, ap, subst, sym, ◌∙◌}
use Rattle.state_ids.specs.Held.{Shows}
use Rattle.node_cache.specs.Cache.{IsTiedToDisk, FitsCached, changed_by, is_page, page_at, with_page, written_back}
use Rattle.state_ids.specs.Blocks.{ShowsPage}
use Rattle.node_cache.proofs.ChangeLaws.{still_shown, still_tied}
use Rattle.node_cache.proofs.Finding.{all_at}
use Rattle.sd_base.proofs.Positions.{not_placed}
use Rattle.node_cache.proofs.OnePage.{found, is_page-same, place_holds, set_at_place}
use Rattle.node_cache.proofs.SamePages.{cache_same, with_same}
use Rattle.node_cache.proofs.cache.NodeCache.apply.Goals as goal

pub unreachable-requires : goal.unreachable-requires
unreachable-requires c =
    let none = not_placed (is_page c.page.result) c.self.inside.pages (sym c.find.ensures ∙ c.in_default.is) in
    let there = ap (page_at c.args.l.page) (ap (λ s. s.pages) c.self.view_is) ∙ c.requires.fits.there in
    cc

pub apply-requires-clause-page : goal.apply-requires-clause-page
apply-requires-clause-page c = λ p is.
    let fits = c.requires.fits in
    let at = place_holds _ _ _ _ _ c.page.ensures (sym c.find.ensures ∙ c.in-Some.is) (ap (λ s. page_at c.args.l.page s.pages) c.self.view_is ∙ fits.there) in
    let same : fits.page ≡ p = cc in
    sym (is_page-same c.args.l.page fits.page (found (is_page c.args.l.page) c.args.self.now.pages fits.page fits.there)) ∙ ap (λ q. q.ticket.page) same

pub apply-requires-clause-node : goal.apply-requires-clause-node
apply-requires-clause-node c = λ p is. c.requires.node ∙ sym (ap (λ v. v.node) c.self.view_is) ∙ sym (all_at (λ q. q.ticket.node ≡ c.self.inside.node) _ _ _ c.self.invariant.own is)

pub apply-requires-clause-image : goal.apply-requires-clause-image
apply-requires-clause-image c = λ p is.
    let fits = c.requires.fits in
    let at = place_holds _ _ _ _ _ c.page.ensures (sym c.find.ensures ∙ c.in-Some.is) (ap (λ s. page_at c.args.l.page s.pages) c.self.view_is ∙ fits.there) in
    let same : fits.page ≡ p = cc in
    (fits.image, subst (λ q. Shows c.args.pool.now q.frame fits.image) same fits.shows, fits.number ∙ sym (is_page-same c.args.l.page fits.page (found (is_page c.args.l.page) c.args.self.now.pages fits.page fits.there)) ∙ ap (λ q. q.ticket.page) same, fits.ident, fits.kind)

pub invariant_of-self : goal.invariant_of-self
invariant_of-self c =
    let made = set_at_place c.args.l.page _ (changed_by c.args.l.number) _ _ _ _ c.page.ensures (sym c.find.ensures ∙ c.in-Some.is) (ap (λ s. page_at c.args.l.page s.pages) c.self.view_is ∙ c.requires.fits.there) c.self.invariant.once c.apply.ensures.pages in
    cache_same _ _ _ (ap (map written_back) made ∙ with_same c.args.l.page (changed_by c.args.l.number) (λ p. refl) c.self.inside.pages) c.self.invariant

pub returns-clause-pages : goal.returns-clause-pages
returns-clause-pages c =
    set_at_place c.args.l.page _ (changed_by c.args.l.number) _ _ _ _ c.page.ensures (sym c.find.ensures ∙ c.in-Some.is) (ap (λ s. page_at c.args.l.page s.pages) c.self.view_is ∙ c.requires.fits.there) c.self.invariant.once c.apply.ensures.pages
    ∙ ap (λ s. with_page c.args.l.page (changed_by c.args.l.number) s.pages) c.self.view_is

pub returns-clause-frames : goal.returns-clause-frames
returns-clause-frames c = λ p there. c.apply.ensures.frames p (place_holds _ _ _ _ _ c.page.ensures (sym c.find.ensures ∙ c.in-Some.is) (ap (λ s. page_at c.args.l.page s.pages) c.self.view_is ∙ there))

pub returns-clause-image : goal.returns-clause-image
returns-clause-image c = λ p image there. c.apply.ensures.image p image (place_holds _ _ _ _ _ c.page.ensures (sym c.find.ensures ∙ c.in-Some.is) (ap (λ s. page_at c.args.l.page s.pages) c.self.view_is ∙ there))

pub returns-clause-shown : goal.returns-clause-shown
returns-clause-shown c = λ s shown.
    let pages = ap (λ v. v.pages) c.self.view_is in
    let fits = subst (λ ps. FitsCached c.args.pool.now ps c.args.l.page c.args.l.ident c.args.l.op) (sym pages) c.requires.fits in
    let at = place_holds _ _ _ _ _ c.page.ensures (sym c.find.ensures ∙ c.in-Some.is) fits.there in
    let made = set_at_place c.args.l.page _ (changed_by c.args.l.number) _ _ _ _ c.page.ensures (sym c.find.ensures ∙ c.in-Some.is) fits.there c.self.invariant.once c.apply.ensures.pages in
    subst (λ ps. All (λ q. ShowsPage s q.ticket.page c.apply.new.pool q.frame) ps) (sym made)
    (still_shown c.args.pool.now c.apply.new.pool c.self.inside.pages c.args.l.page c.args.l.ident c.args.l.number c.args.l.op c.self.invariant.once c.self.invariant.apart fits (c.apply.ensures.frames fits.page at)
    (λ i. c.apply.ensures.image fits.page i at) s (subst (λ ps. All (λ q. ShowsPage s q.ticket.page c.args.pool.now q.frame) ps) (sym pages) shown))

pub returns-clause-disk_tie : goal.returns-clause-disk_tie
returns-clause-disk_tie c = λ s b tie.
    let pages = ap (λ v. v.pages) c.self.view_is in
    let fits = subst (λ ps. FitsCached c.args.pool.now ps c.args.l.page c.args.l.ident c.args.l.op) (sym pages) c.requires.fits in
    let at = place_holds _ _ _ _ _ c.page.ensures (sym c.find.ensures ∙ c.in-Some.is) fits.there in
    let made = set_at_place c.args.l.page _ (changed_by c.args.l.number) _ _ _ _ c.page.ensures (sym c.find.ensures ∙ c.in-Some.is) fits.there c.self.invariant.once c.apply.ensures.pages in
    subst (λ ps. IsTiedToDisk s c.apply.new.pool (record { log = c.self.inside.log; node = c.self.inside.node; pages = ps }) b) (sym made)
    (still_tied c.args.pool.now c.apply.new.pool c.self.inside.pages c.args.l.page c.args.l.ident c.args.l.number c.args.l.op c.self.invariant.once c.self.invariant.apart fits (c.apply.ensures.frames fits.page at)
    (λ i. c.apply.ensures.image fits.page i at) s c.self.inside.log c.self.inside.node b (subst (λ v. IsTiedToDisk s c.args.pool.now v b) (sym c.self.view_is) tie))
