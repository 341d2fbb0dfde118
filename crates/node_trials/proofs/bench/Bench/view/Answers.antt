use Rattle.std.proofs.Common.{IsTrue, rules}
use Rattle.node_cache.specs.Cache.{is_cached}
use Rattle.node_trials.proofs.ReadyLaws.{viewed}
use Rattle.node_trials.proofs.bench.Bench.view.Goals as goal

pub returns : goal.returns
returns g c =
    let cached : IsTrue (is_cached c.args.x c.args.self.now.cache) = search rules in
    viewed _ _ c.args.self.now.cache c.args.x _ c.requires.shown cached c.view.ensures
