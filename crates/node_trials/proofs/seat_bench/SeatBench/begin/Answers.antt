use Rattle.std.proofs.Common.{ap, map, refl, rules}
use Rattle.node_cache.specs.Cache.{written_back}
use Rattle.node_trials.proofs.ReadyLaws.{ready_written}
use Rattle.node_trials.proofs.SeatedLaws.{counted_set, done}
use Rattle.node_trials.proofs.seat_bench.SeatBench.begin.Goals as goal

pub returns : goal.returns
returns g c = record {
  seated = record {
    ready = ready_written _ _ _ _ _ _ _ _ _ _ c.requires.seated.ready c.begin.ensures.keeps (done c.begin.result _ c.expect.ensures c.begin.ensures.live) c.begin.ensures.writers c.begin.ensures.cache_node c.begin.ensures.same
        (done c.begin.result _ c.expect.ensures c.begin.ensures.log_tie) (ap (map written_back) c.begin.ensures.pages) refl;
    tied = done c.begin.result _ c.expect.ensures c.begin.ensures.tie;
    counted = counted_set _ c.args.self.now.seats c.begin.new.self c.args.seat 0 _ c.requires.seated.counted (done c.begin.result _ c.expect.ensures c.begin.ensures.seats) (search rules) refl;
  };
}
