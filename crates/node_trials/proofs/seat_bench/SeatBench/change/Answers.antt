use Rattle.std.proofs.Common.{◌+◌, ap, rules}
use Rattle.node_trials.specs.declared.store.TheConstants.{SHAPE}
use Rattle.node_trials.proofs.ReadyLaws.{ready_paged}
use Rattle.node_trials.proofs.SeatedLaws.{counted_set, done}
use Rattle.txn_core.proofs.SeatLaws.{txn_of}
use Rattle.node_trials.proofs.seat_bench.SeatBench.change.Goals as goal

pub returns : goal.returns
returns g c =
    let was = c.requires.seated in
    let txn = txn_of c.args.self.now.seats c.args.seat c.check_busy.ensures in
    let has = c.check_change.ensures.1 in
    let call = c.change.ensures in
    record {
      seated = record {
        ready = ready_paged _ _ _ _ _ _ _ _ _ _ was.ready call.keeps (done c.change.result _ c.expect.ensures call.live) call.writers call.cache_node call.same (done c.change.result _ c.expect.ensures call.log_tie)
            c.args.x _ has.page has.there (done c.change.result _ c.expect.ensures call.pages) (call.frames has.page has.there) (call.shown SHAPE was.ready.shown);
        tied = done c.change.result _ c.expect.ensures call.tie;
        counted = counted_set _ c.args.self.now.seats c.change.new.self c.args.seat _ _ was.counted (done c.change.result _ c.expect.ensures call.seats txn.0 txn.1) (search rules) (ap (λ n. n + 1) (was.counted c.args.seat txn.0 txn.1));
      };
    }
