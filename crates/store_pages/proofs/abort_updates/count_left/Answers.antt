use Rattle.std.specs.Prelude.{◌≡◌, ◌≢◌, ◌==◌, ◌*◌, ◌+◌, ◌^◌, ◌<◌, [], true, false, List, None, Some, IfSome, cond, refl}
use Rattle.std.proofs.Common.{arith, ap, subst, sym, ◌∙◌}
use Rattle.std.proofs.lemmas.Bool.{eq-eqb}
use Rattle.std.proofs.lemmas.Bool.Decides.{nat_tests}
use Rattle.private_log.specs.Content.{region_of}
use Rattle.log_record.specs.declared.record.LogRecord.{LogRecord}
use Rattle.txn_core.specs.Seats.{OpenTxn, txn_in}
use Rattle.txn_core.specs.Told.{AreTold, HasRecords}
use Rattle.record_machine.specs.Led.{LedOnStop}
use Rattle.store_nodes.specs.Causes.{IsLogReply}
use Rattle.store_nodes.specs.Endures.{Endures}
use Rattle.store_nodes.specs.Nodes.{OnUp, node_at}
use Rattle.store_nodes.specs.Ports.{HasCause, IsQuiet, IsStopReply, Writes, says_stop}
use Rattle.store_nodes.specs.Shows.{IsShown}
use Rattle.store_pages.specs.Updates.{IsNumberOf, IsWithin, left_on}
use Rattle.store_pages.proofs.Results.{passed_on}
use Rattle.store_pages.proofs.Sequences.{cause_then, works_none, works_then}
use Rattle.store_pages.proofs.Walks.{Counted, Found, counted_all, counted_none, counted_on, few_more}
use Rattle.store_pages.proofs.abort_updates.count_left.Goals as goal

-- ---- the walk

pub loop-number-init : goal.loop-number-init
loop-number-init g c =
    record {
      store = refl;
      works = works_none c.args.t.node.0 c.args.store.now (g.D.Disk.state c.args.disk.now) (g.V.Disk.state c.args.vault.now) c.requires.ready;
      vault_outcomes = λ told k o may. may;
      blocks = λ told. refl;
      within = tt;
      none = λ is. refl;
      few = tt;
      number = λ told m shown. tt;
      counted = λ told. counted_none (node_at c.args.store.now.nodes c.args.t.node.0) (g.D.Disk.state c.args.disk.now).block c.args.t.seat c.args.x.0;
    }

pub update_after-requires-clause-quiet : goal.update_after-requires-clause-quiet
update_after-requires-clause-quiet g c = λ told. subst (λ k. IsQuiet k (g.D.Disk.state c.loop-number.disk).block) (sym c.loop-number.invariant.store) (subst (IsQuiet c.args.store.now) (sym (c.loop-number.invariant.blocks told)) (c.requires.quiet told))

pub loop-number-preserved-then-page-x : goal.loop-number-preserved-then-page-x
loop-number-preserved-then-page-x g c =
    record {
      store = c.in_ok-number.ensures.same.0 ∙ c.loop-number.invariant.store;
      works = works_then c.args.t.node.0 c.args.store.now c.loop-number.store c.update_after.new.store (g.D.Disk.state c.args.disk.now) (g.D.Disk.state c.loop-number.disk) (g.D.Disk.state c.update_after.new.disk) (g.V.Disk.state c.args.vault.now) (g.V.Disk.state c.loop-number.vault) (g.V.Disk.state c.update_after.new.vault) c.loop-number.invariant.works c.update_after.ensures.works;
      vault_outcomes = λ told k o may. c.loop-number.invariant.vault_outcomes told k o (c.update_after.ensures.vault_outcomes told k o may);
      blocks = λ told. c.in_ok-number.ensures.same.1 told ∙ c.loop-number.invariant.blocks told;
      within = subst (λ k. OnUp (node_at k.nodes c.args.t.node.0) (λ d seats. IsWithin seats c.args.t.seat c.in-Some.number)) (sym c.in_ok-number.ensures.same.0) (subst (λ o. IfSome o (λ v. OnUp (node_at c.loop-number.store.nodes c.args.t.node.0) (λ d seats. IsWithin seats c.args.t.seat v.0))) c.in-Some.is c.in_ok-number.ensures.within);
      none = λ is. cc;
      few = few_more c.loop-number.after c.loop-number.count c.in-Some.number (6 * 2 ^ 56) c.loop-number.invariant.none c.loop-number.invariant.few (subst (λ o. IfSome o (λ v. IfSome c.loop-number.after (λ n. v.0 < n))) c.in-Some.is c.in_ok-number.ensures.behind) (subst (λ o. IfSome o (λ v. v.0 < 6 * 2 ^ 56)) c.in-Some.is c.in_ok-number.ensures.low);
      number = λ told m shown.
          let now = subst (λ k. IsShown k (g.D.Disk.state c.loop-number.disk).block m) (sym c.loop-number.invariant.store) (subst (λ b. IsShown c.args.store.now b m) (sym (c.loop-number.invariant.blocks told)) shown) in
          subst (λ o. IfSome o (λ v. IsNumberOf m c.args.t v.0)) c.in-Some.is (c.in_ok-number.ensures.next told m now (c.loop-number.invariant.number told m shown));
      counted = λ told.
          let a = (g.D.Disk.state c.args.disk.now).block in
          let b = (g.D.Disk.state c.loop-number.disk).block in
          let found = subst (λ o. OnUp (node_at c.loop-number.store.nodes c.args.t.node.0) (λ d seats. Found d seats b c.args.t.seat c.loop-number.after o)) c.in-Some.is (c.in_ok-number.ensures.found told) in
          subst (λ k. OnUp (node_at k.nodes c.args.t.node.0) (λ d seats. Counted d seats a c.args.t.seat c.args.x.0 (Some c.in-Some.number) (c.loop-number.count + 1))) (sym c.in_ok-number.ensures.same.0)
          (counted_on (node_at c.loop-number.store.nodes c.args.t.node.0) a b c.args.t.seat c.args.x.0 c.loop-number.after (c.in-Some.number, c.in-Some.page) c.loop-number.count (c.loop-number.count + 1) (c.loop-number.invariant.blocks told) (let same : c.in-Some.page.0 ≡ c.args.x.0 = search in ap (λ t. c.loop-number.count + cond t 1 0) (sym (eq-eqb c.in-Some.page.0 c.args.x.0 same))) (c.loop-number.invariant.counted told) found);
    }

pub loop-number-preserved : goal.loop-number-preserved
loop-number-preserved g c =
    record {
      store = c.in_ok-number.ensures.same.0 ∙ c.loop-number.invariant.store;
      works = works_then c.args.t.node.0 c.args.store.now c.loop-number.store c.update_after.new.store (g.D.Disk.state c.args.disk.now) (g.D.Disk.state c.loop-number.disk) (g.D.Disk.state c.update_after.new.disk) (g.V.Disk.state c.args.vault.now) (g.V.Disk.state c.loop-number.vault) (g.V.Disk.state c.update_after.new.vault) c.loop-number.invariant.works c.update_after.ensures.works;
      vault_outcomes = λ told k o may. c.loop-number.invariant.vault_outcomes told k o (c.update_after.ensures.vault_outcomes told k o may);
      blocks = λ told. c.in_ok-number.ensures.same.1 told ∙ c.loop-number.invariant.blocks told;
      within = subst (λ k. OnUp (node_at k.nodes c.args.t.node.0) (λ d seats. IsWithin seats c.args.t.seat c.in-Some.number)) (sym c.in_ok-number.ensures.same.0) (subst (λ o. IfSome o (λ v. OnUp (node_at c.loop-number.store.nodes c.args.t.node.0) (λ d seats. IsWithin seats c.args.t.seat v.0))) c.in-Some.is c.in_ok-number.ensures.within);
      none = λ is. cc;
      few = (let more = few_more c.loop-number.after c.loop-number.count c.in-Some.number (6 * 2 ^ 56) c.loop-number.invariant.none c.loop-number.invariant.few (subst (λ o. IfSome o (λ v. IfSome c.loop-number.after (λ n. v.0 < n))) c.in-Some.is c.in_ok-number.ensures.behind) (subst (λ o. IfSome o (λ v. v.0 < 6 * 2 ^ 56)) c.in-Some.is c.in_ok-number.ensures.low) in omega (arith, more));
      number = λ told m shown.
          let now = subst (λ k. IsShown k (g.D.Disk.state c.loop-number.disk).block m) (sym c.loop-number.invariant.store) (subst (λ b. IsShown c.args.store.now b m) (sym (c.loop-number.invariant.blocks told)) shown) in
          subst (λ o. IfSome o (λ v. IsNumberOf m c.args.t v.0)) c.in-Some.is (c.in_ok-number.ensures.next told m now (c.loop-number.invariant.number told m shown));
      counted = λ told.
          let a = (g.D.Disk.state c.args.disk.now).block in
          let b = (g.D.Disk.state c.loop-number.disk).block in
          let found = subst (λ o. OnUp (node_at c.loop-number.store.nodes c.args.t.node.0) (λ d seats. Found d seats b c.args.t.seat c.loop-number.after o)) c.in-Some.is (c.in_ok-number.ensures.found told) in
          subst (λ k. OnUp (node_at k.nodes c.args.t.node.0) (λ d seats. Counted d seats a c.args.t.seat c.args.x.0 (Some c.in-Some.number) c.loop-number.count)) (sym c.in_ok-number.ensures.same.0)
          (counted_on (node_at c.loop-number.store.nodes c.args.t.node.0) a b c.args.t.seat c.args.x.0 c.loop-number.after (c.in-Some.number, c.in-Some.page) c.loop-number.count c.loop-number.count (c.loop-number.invariant.blocks told) (let apart : c.in-Some.page.0 ≢ c.args.x.0 = search in let other : (c.in-Some.page.0 == c.args.x.0) ≡ false = grind (arith, nat_tests) in (let none : c.loop-number.count ≡ c.loop-number.count + 0 = omega arith in none) ∙ ap (λ t. c.loop-number.count + cond t 1 0) (sym other)) (c.loop-number.invariant.counted told) found);
    }

-- ---- where an update isn't found

pub returns-in_err-number-clause-works : goal.returns-in_err-number-clause-works
returns-in_err-number-clause-works g c =
    works_then c.args.t.node.0 c.args.store.now c.loop-number.store c.update_after.new.store (g.D.Disk.state c.args.disk.now) (g.D.Disk.state c.loop-number.disk) (g.D.Disk.state c.update_after.new.disk) (g.V.Disk.state c.args.vault.now) (g.V.Disk.state c.loop-number.vault) (g.V.Disk.state c.update_after.new.vault) c.loop-number.invariant.works c.update_after.ensures.works

pub returns-in_err-number-clause-writes : goal.returns-in_err-number-clause-writes
returns-in_err-number-clause-writes g c = λ told.
    let b = (g.D.Disk.state c.update_after.new.disk).block in
    subst (λ k. Writes c.args.t.node.0 k c.update_after.new.store (g.D.Disk.state c.args.disk.now).block b) c.loop-number.invariant.store (subst (λ a. Writes c.args.t.node.0 c.loop-number.store c.update_after.new.store a b) (c.loop-number.invariant.blocks told) (c.update_after.ensures.writes told))

pub returns-in_err-number-clause-cause : goal.returns-in_err-number-clause-cause
returns-in_err-number-clause-cause g c = passed_on c.from_residual.result _ _ c.from_residual.ensures.1 (λ why same.
    cause_then c.args.t.node.0 why (g.D.Disk.state c.args.disk.now) (g.D.Disk.state c.loop-number.disk) (g.D.Disk.state c.update_after.new.disk) c.loop-number.invariant.works.keeps (subst (λ r. HasCause r (g.D.Disk.state c.loop-number.disk) (g.D.Disk.state c.update_after.new.disk)) (sym same) c.in_err-number.ensures.cause))

pub returns-in_err-number-clause-fault : goal.returns-in_err-number-clause-fault
returns-in_err-number-clause-fault g c = passed_on c.from_residual.result _ _ c.from_residual.ensures.1 (λ why same.
    subst (λ k. IsLogReply c.args.t.node.0 (region_of k.shape c.args.t.node.0) why) c.loop-number.invariant.store (subst (IsLogReply c.args.t.node.0 (region_of c.loop-number.store.shape c.args.t.node.0)) (sym same) c.in_err-number.ensures.fault))

pub returns-in_err-number-clause-down : goal.returns-in_err-number-clause-down
returns-in_err-number-clause-down g c = passed_on c.from_residual.result _ _ c.from_residual.ensures.1 (λ why same stop. c.in_err-number.ensures.down (subst (λ r. says_stop r ≡ true) same stop))

pub returns-in_err-number-clause-kept : goal.returns-in_err-number-clause-kept
returns-in_err-number-clause-kept g c = passed_on c.from_residual.result _ _ c.from_residual.ensures.1 (λ why same live.
    let kept = c.in_err-number.ensures.kept (subst (λ r. says_stop r ≡ false) same live) in
    (kept.0 ∙ c.loop-number.invariant.store, λ told. kept.1 told ∙ c.loop-number.invariant.blocks told))

pub returns-in_err-number-clause-stopped : goal.returns-in_err-number-clause-stopped
returns-in_err-number-clause-stopped g c = passed_on c.from_residual.result _ _ c.from_residual.ensures.1 (λ why same told m shown.
    let now = subst (λ k. IsShown k (g.D.Disk.state c.loop-number.disk).block m) (sym c.loop-number.invariant.store) (subst (λ b. IsShown c.args.store.now b m) (sym (c.loop-number.invariant.blocks told)) shown) in
    subst (IsStopReply c.args.t.node.0) (sym same) (c.in_err-number.ensures.stopped told m now (c.loop-number.invariant.number told m shown)))

pub returns-in_err-number-clause-led : goal.returns-in_err-number-clause-led
returns-in_err-number-clause-led g c = passed_on c.from_residual.result _ _ c.from_residual.ensures.1 (λ why same told m was.
    let now = subst (λ k. Endures k (g.D.Disk.state c.loop-number.disk).block m) (sym c.loop-number.invariant.store) (subst (λ b. Endures c.args.store.now b m) (sym (c.loop-number.invariant.blocks told)) was) in
    subst (λ r. LedOnStop c.args.t.node.0 r [] m (Endures c.update_after.new.store (g.D.Disk.state c.update_after.new.disk).block)) (sym same) (c.in_err-number.ensures.led told m now))

-- ---- where all are counted

pub returns-clause-works : goal.returns-clause-works
returns-clause-works g c =
    works_then c.args.t.node.0 c.args.store.now c.loop-number.store c.update_after.new.store (g.D.Disk.state c.args.disk.now) (g.D.Disk.state c.loop-number.disk) (g.D.Disk.state c.update_after.new.disk) (g.V.Disk.state c.args.vault.now) (g.V.Disk.state c.loop-number.vault) (g.V.Disk.state c.update_after.new.vault) c.loop-number.invariant.works c.update_after.ensures.works

pub returns-clause-writes : goal.returns-clause-writes
returns-clause-writes g c = λ told.
    let b = (g.D.Disk.state c.update_after.new.disk).block in
    subst (λ k. Writes c.args.t.node.0 k c.update_after.new.store (g.D.Disk.state c.args.disk.now).block b) c.loop-number.invariant.store (subst (λ a. Writes c.args.t.node.0 c.loop-number.store c.update_after.new.store a b) (c.loop-number.invariant.blocks told) (c.update_after.ensures.writes told))

pub returns-clause-count : goal.returns-clause-count
returns-clause-count g c = λ told.
    let a = (g.D.Disk.state c.args.disk.now).block in
    let b = (g.D.Disk.state c.loop-number.disk).block in
    let none : c.in_ok-number.field-0 ≡ None = search in
    let found = subst (λ o. OnUp (node_at c.loop-number.store.nodes c.args.t.node.0) (λ d seats. Found d seats b c.args.t.seat c.loop-number.after o)) none (c.in_ok-number.ensures.found told) in
    subst (λ k. OnUp (node_at k.nodes c.args.t.node.0) (λ d seats. (recs : List LogRecord) (u : OpenTxn) → txn_in seats c.args.t.seat ≡ Some u → HasRecords d.log a recs → AreTold seats d.log.start recs → c.loop-number.count ≡ left_on u.begin (6 * d.log.start) recs c.args.x.0)) c.loop-number.invariant.store
    (counted_all (node_at c.loop-number.store.nodes c.args.t.node.0) a b c.args.t.seat c.args.x.0 c.loop-number.after c.loop-number.count (c.loop-number.invariant.blocks told) (c.loop-number.invariant.counted told) found)
