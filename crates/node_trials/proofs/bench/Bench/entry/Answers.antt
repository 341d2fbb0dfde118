use Rattle.std.proofs.Common.{◌≡◌, Some, ap, arith, subst, sym, ◌∙◌}
use Rattle.std.specs.List.{slice_get}
use Rattle.node_cache.specs.Cache.{page_at}
use Rattle.node_trials.proofs.ReadyLaws.{viewed_map}
use Rattle.node_trials.proofs.bench.Bench.entry.Goals as goal

pub entry-requires-clause-image : goal.entry-requires-clause-image
entry-requires-clause-image g c = let v = viewed_map _ _ _ _ _ c.map_of_data.ensures.low c.view-map.ensures in (v.image, v.text)

pub returns : goal.returns
returns g c =
    let v = viewed_map _ _ _ _ _ c.map_of_data.ensures.low c.view-map.ensures in
    record {
      none = λ low. absurd (omega (arith, low));
      some = λ high.
          let there = subst (λ m. page_at m c.args.self.now.cache.pages ≡ Some v.page) c.map_of_data.ensures.at v.there in
          (v.page, v.image, there, v.shows, sym (c.entry.ensures.entry v.image v.text) ∙ ap (slice_get v.image.entries) c.place_of_page.ensures.at);
    }
