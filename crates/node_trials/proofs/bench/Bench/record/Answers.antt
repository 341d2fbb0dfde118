use Rattle.std.proofs.Common.{arith, refl, subst, sym}
use Rattle.std.specs.Option.{IfSome}
use Rattle.state_ids.specs.PageImage.{data_page}
use Rattle.node_cache.specs.Cache.{FitsCached}
use Rattle.node_trials.proofs.ReadyLaws.{viewed_data}
use Rattle.node_trials.proofs.bench.Bench.record.Goals as goal

pub identifier-requires : goal.identifier-requires
identifier-requires g c = let v = viewed_data _ _ _ c.args.x _ (omega arith) c.view-page.ensures in (v.image, v.text)

pub slot-requires-clause-image : goal.slot-requires-clause-image
slot-requires-clause-image g c = let v = viewed_data _ _ _ c.args.x _ (omega arith) c.view-page.ensures in (v.image, v.text)

pub returns-clause-fits : goal.returns-clause-fits
returns-clause-fits g c = λ y ident op e.
    let v = viewed_data _ _ _ c.args.x _ (omega arith) c.view-page.ensures in
    subst (λ o. IfSome o (λ t. FitsCached c.args.self.now.pool c.args.self.now.cache.pages t.0 t.1 t.2)) e
    (record { page = v.page; there = v.there; image = data_page v.image; shows = v.shows; number = v.number; ident = sym (c.identifier.ensures v.image v.text); kind = refl })
