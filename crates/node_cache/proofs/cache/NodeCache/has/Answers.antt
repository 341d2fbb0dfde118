use Rattle.std.proofs.Common.{ap, ◌∙◌}
use Rattle.node_cache.specs.Cache.{is_page, is_cached}
use Rattle.node_cache.proofs.Finding.{is_placed}
use Rattle.node_cache.proofs.cache.NodeCache.has.Goals as goal

pub returns : goal.returns
returns c = c.is_some.ensures ∙ is_placed (is_page c.args.x) c.self.inside.pages c.find.result c.find.ensures ∙ ap (is_cached c.args.x) c.self.view_is
