use Rattle.std.proofs.Common.{ap, map, refl}
use Rattle.node_cache.specs.Cache.{written_back}
use Rattle.node_trials.proofs.ReadyLaws.{ok_given, ok_of, ready_written}
use Rattle.node_trials.proofs.SeatedLaws.{counted_free}
use Rattle.node_trials.proofs.seat_bench.SeatBench.commit.Goals as goal

pub returns-clause-seated : goal.returns-clause-seated
returns-clause-seated g c = ok_given c.end.result (λ ok. record {
  ready = ready_written _ _ _ _ _ _ _ _ _ _ c.requires.seated.ready c.end.ensures.keeps (ok_of c.end.result ok c.end.ensures.live) c.end.ensures.writers c.end.ensures.cache_node c.end.ensures.same (ok_of c.end.result ok c.end.ensures.log_tie)
      (ap (map written_back) c.end.ensures.pages) refl;
  tied = ok_of c.end.result ok c.end.ensures.tie;
  counted = counted_free _ c.args.self.now.seats c.end.new.self c.args.seat c.requires.seated.counted (ok_of c.end.result ok c.end.ensures.seats);
})
