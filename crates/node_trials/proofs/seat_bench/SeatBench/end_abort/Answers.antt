use Rattle.std.proofs.Common.{ap, map, refl}
use Rattle.node_cache.specs.Cache.{written_back}
use Rattle.node_trials.proofs.ReadyLaws.{ready_written}
use Rattle.node_trials.proofs.SeatedLaws.{counted_free, done}
use Rattle.node_trials.proofs.seat_bench.SeatBench.end_abort.Goals as goal

pub returns : goal.returns
returns g c =
    let was = c.next-next.ensures.seated in
    record {
      seated = record {
        ready = ready_written _ _ _ _ _ _ _ _ _ _ was.ready c.end.ensures.keeps (done c.end.result _ c.expect.ensures c.end.ensures.live) c.end.ensures.writers c.end.ensures.cache_node c.end.ensures.same
            (done c.end.result _ c.expect.ensures c.end.ensures.log_tie) (ap (map written_back) c.end.ensures.pages) refl;
        tied = done c.end.result _ c.expect.ensures c.end.ensures.tie;
        counted = counted_free _ c.next-next.new.self.seats c.end.new.self c.args.seat was.counted (done c.end.result _ c.expect.ensures c.end.ensures.seats);
      };
    }
