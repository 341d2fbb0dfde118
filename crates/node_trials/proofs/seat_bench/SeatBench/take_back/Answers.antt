use Rattle.std.proofs.Common.{◌≡◌, ◌-◌, ap, arith, map, refl, rules, subst, sym, ◌∙◌}
use Rattle.frame_pool.specs.Frames.{free_count}
use Rattle.node_cache.specs.Cache.{AreShown, changed_by, written_back}
use Rattle.node_cache.proofs.SamePages.{with_same}
use Rattle.node_trials.specs.declared.store.TheConstants.{SHAPE}
use Rattle.node_trials.proofs.ReadyLaws.{ready_same}
use Rattle.node_trials.proofs.SeatedLaws.{alive, counted_set, done, ready_read}
use Rattle.txn_core.proofs.SeatLaws.{txn_of}
use Rattle.node_trials.proofs.seat_bench.SeatBench.take_back.Goals as goal

pub take_back_one-requires-clause-shown : goal.take_back_one-requires-clause-shown
take_back_one-requires-clause-shown g c =
    let was = c.requires.seated.ready in
    subst (λ s. AreShown s c.args.self.now.bench.pool c.args.self.now.bench.cache) (sym was.store.shape) was.shown

pub overflow_sub-self : goal.overflow_sub-self
overflow_sub-self g c =
    let txn = txn_of c.args.self.now.seats c.args.seat c.check_busy.ensures in
    let some = (done c.take_back_one.result _ c.expect.ensures c.take_back_one.ensures.seats txn.0 txn.1).0 in
    omega (arith, some, c.requires.seated.counted c.args.seat txn.0 txn.1)

pub returns : goal.returns
returns g c =
    let was = c.requires.seated in
    let txn = txn_of c.args.self.now.seats c.args.seat c.check_busy.ensures in
    let call = c.take_back_one.ensures in
    let read = ready_read _ _ _ _ _ _ _ was.ready c.next.ensures.keeps (alive c.next.result _ c.expect-found.ensures c.next.ensures.live) c.next.ensures.writers in
    let free : free_count c.take_back_one.new.pool ≡ free_count c.args.self.now.bench.pool = search rules in
    let page = done c.take_back_one.result _ c.expect.ensures call.page in
    record {
      seated = record {
        ready = ready_same _ _ _ _ _ _ _ _ _ _ read call.keeps (alive c.take_back_one.result _ c.expect.ensures call.live) call.writers call.cache_node call.same (alive c.take_back_one.result _ c.expect.ensures call.log_tie)
            (ap (map written_back) page.1.pages ∙ with_same page.0 (changed_by c.args.self.now.bench.cache.log.tail) (λ q. refl) _) (call.shown SHAPE was.ready.shown) free;
        tied = alive c.take_back_one.result _ c.expect.ensures call.tie;
        counted = counted_set _ c.args.self.now.seats c.take_back_one.new.self c.args.seat _ _ was.counted (done c.take_back_one.result _ c.expect.ensures call.seats txn.0 txn.1).1 (search rules) (ap (λ n. n - 1) (was.counted c.args.seat txn.0 txn.1));
      };
    }
