use Rattle.std.proofs.Common.{ap, ◌∙◌}
use Rattle.node_cache.specs.Cache.{place_of}
use Rattle.node_cache.proofs.Packing.{place_there}
use Rattle.node_cache.proofs.pages.Pages.find.Goals as goal

pub returns : goal.returns
returns c = c.place_in.ensures ∙ place_there c.args.x c.self.inside.slots _ c.self.invariant ∙ ap (place_of c.args.x) c.self.view_is
