use Rattle.std.specs.Prelude.{◌≡◌, ◌*◌, ◌<◌, ◌≤◌, [], IsTrue, List, None, Some, Ok, Err, IfSome, IfErr, refl}
use Rattle.std.proofs.Common.{subst, sym, ◌∙◌}
use Rattle.sd_base.specs.Shape.{page_count}
use Rattle.private_log.specs.Content.{region_of}
use Rattle.log_record.specs.declared.record.LogRecord.{LogRecord}
use Rattle.txn_core.specs.Seats.{OpenTxn, txn_in}
use Rattle.txn_core.specs.Told.{AreTold, HasRecords}
use Rattle.record_machine.specs.Led.{LedOnStop}
use Rattle.record_machine.specs.Machine.{Machine}
use Rattle.store_nodes.specs.declared.store.Store.{Store}
use Rattle.store_nodes.specs.Endures.{Endures}
use Rattle.store_nodes.specs.Known.{checked}
use Rattle.store_nodes.specs.Nodes.{OnUp, node_at}
use Rattle.store_nodes.specs.Ports.{IsQuiet}
use Rattle.store_nodes.specs.Shows.{IsShown}
use Rattle.store_pages.specs.Holders.{IsHolderReply, held_both, held_left}
use Rattle.store_pages.specs.Updates.{IsNumberOf, IsWithin}
use Rattle.store_pages.proofs.Holders.{Passed, all_passed, both_say, error_is, held_first, holds_always, passed_on, stopped_first, tested_always}
use Rattle.store_pages.proofs.ReadEndures.{both_led}
use Rattle.store_pages.proofs.Sequences.{works_then}
use Rattle.store_pages.proofs.ShownHolders.{left_shown}
use Rattle.store_pages.proofs.Walks.{Found}
use Rattle.store_pages.proofs.abort_holders.test_holders.Goals as goal

-- ---- the walk

pub update_after-requires-clause-quiet : goal.update_after-requires-clause-quiet
update_after-requires-clause-quiet g c = λ told. subst (λ k. IsQuiet k (g.D.Disk.state c.loop-number.disk).block) (sym c.loop-number.invariant.store) (subst (IsQuiet c.args.store.now) (sym (c.loop-number.invariant.blocks told)) (c.requires.quiet told))

pub loop-number-preserved : goal.loop-number-preserved
loop-number-preserved g c =
    record {
      store = c.in_ok-number.ensures.same.0 ∙ c.loop-number.invariant.store;
      works = works_then c.args.t.node.0 c.args.store.now c.loop-number.store c.update_after.new.store (g.D.Disk.state c.args.disk.now) (g.D.Disk.state c.loop-number.disk) (g.D.Disk.state c.update_after.new.disk) (g.V.Disk.state c.args.vault.now) (g.V.Disk.state c.loop-number.vault) (g.V.Disk.state c.update_after.new.vault) c.loop-number.invariant.works c.update_after.ensures.works;
      vault_outcomes = λ told k o may. c.loop-number.invariant.vault_outcomes told k o (c.update_after.ensures.vault_outcomes told k o may);
      blocks = λ told. c.in_ok-number.ensures.same.1 told ∙ c.loop-number.invariant.blocks told;
      within = subst (λ k. OnUp (node_at k.nodes c.args.t.node.0) (λ d seats. IsWithin seats c.args.t.seat c.in-Some.number)) (sym c.in_ok-number.ensures.same.0) (subst (λ o. IfSome o (λ v. OnUp (node_at c.loop-number.store.nodes c.args.t.node.0) (λ d seats. IsWithin seats c.args.t.seat v.0))) c.in-Some.is c.in_ok-number.ensures.within);
      number = λ told m shown.
          let now = subst (λ k. IsShown k (g.D.Disk.state c.loop-number.disk).block m) (sym c.loop-number.invariant.store) (subst (λ b. IsShown c.args.store.now b m) (sym (c.loop-number.invariant.blocks told)) shown) in
          subst (λ o. IfSome o (λ v. IsNumberOf m c.args.t v.0)) c.in-Some.is (c.in_ok-number.ensures.next told m now (c.loop-number.invariant.number told m shown));
      passed = λ told.
          let a = (g.D.Disk.state c.args.disk.now).block in
          let b = (g.D.Disk.state c.loop-number.disk).block in
          let here : c.update_after.new.store ≡ c.args.store.now = c.in_ok-number.ensures.same.0 ∙ c.loop-number.invariant.store in
          let found = subst (λ o. OnUp (node_at c.loop-number.store.nodes c.args.t.node.0) (λ d seats. Found d seats b c.args.t.seat c.loop-number.after o)) c.in-Some.is (c.in_ok-number.ensures.found told) in
          let free = subst (λ (k : Store). checked (held_both k c.in-Some.x) ≡ Ok tt) here (sym c.test_both.ensures ∙ c.in_ok-test_both.was) in
          subst (λ k. OnUp (node_at k.nodes c.args.t.node.0) (λ d seats. Passed c.args.store.now d seats a c.args.t.seat (Some c.in-Some.number))) (sym c.in_ok-number.ensures.same.0)
          (passed_on c.args.store.now a b c.args.t.seat c.loop-number.after (c.loop-number.invariant.blocks told) (node_at c.loop-number.store.nodes c.args.t.node.0) (c.in-Some.number, c.in-Some.x) free (c.loop-number.invariant.passed told) found);
    }

-- ---- where an update isn't found

pub returns-in_err-number-clause-shown : goal.returns-in_err-number-clause-shown
returns-in_err-number-clause-shown g c = λ told m shown.
    let now = subst (λ k. IsShown k (g.D.Disk.state c.loop-number.disk).block m) (sym c.loop-number.invariant.store) (subst (λ b. IsShown c.args.store.now b m) (sym (c.loop-number.invariant.blocks told)) shown) in
    stopped_first c.args.t.node.0 c.from_residual.result c.in_err-number.field-0.0 _ c.from_residual.ensures.1 (c.in_err-number.ensures.stopped told m now (c.loop-number.invariant.number told m shown))

pub returns-in_err-number-clause-led : goal.returns-in_err-number-clause-led
returns-in_err-number-clause-led g c =
    let n = c.args.t.node.0 in
    let b = (g.D.Disk.state c.update_after.new.disk).block in
    subst (λ r. IfErr r (λ why. IsTrue g.D.Disk.told → (m : Machine) → Endures c.args.store.now (g.D.Disk.state c.args.disk.now).block m → LedOnStop n why [] m (Endures c.update_after.new.store b))) (sym (error_is c.from_residual.result c.in_err-number.field-0.0 c.from_residual.ensures.1)) (λ told m was.
    let now = subst (λ k. Endures k (g.D.Disk.state c.loop-number.disk).block m) (sym c.loop-number.invariant.store) (subst (λ a. Endures c.args.store.now a m) (sym (c.loop-number.invariant.blocks told)) was) in
    c.in_err-number.ensures.led told m now)

-- ---- where a page of one is held

pub returns-in_err-test_both-clause-fault : goal.returns-in_err-test_both-clause-fault
returns-in_err-test_both-clause-fault g c =
    let me = c.args.store.now in
    let before : c.loop-number.store ≡ me = c.loop-number.invariant.store in
    let here : c.update_after.new.store ≡ me = c.in_ok-number.ensures.same.0 ∙ before in
    let fails = subst (λ (k : Store). checked (held_both k c.in-Some.x) ≡ Err c.in_err-test_both.field-0.0) here (sym c.test_both.ensures ∙ c.in_err-test_both.was) in
    let page = subst (λ (k : Store). (k.shape.maps ≤ c.in-Some.x.0) × (c.in-Some.x.0 < page_count k.shape)) before (subst (λ o. IfSome o (λ v. (c.loop-number.store.shape.maps ≤ v.1.0) × (v.1.0 < page_count c.loop-number.store.shape))) c.in-Some.is c.in_ok-number.ensures.page) in
    let same = error_is c.from_residual-in_err-test_both.result c.in_err-test_both.field-0.0 c.from_residual-in_err-test_both.ensures.1 in
    subst (λ r. IfErr r (IsHolderReply me c.args.t.node.0)) (sym same) (both_say me c.in-Some.x c.args.t.node.0 c.in_err-test_both.field-0.0 page.0 page.1 fails)

pub returns-in_err-test_both-clause-tests : goal.returns-in_err-test_both-clause-tests
returns-in_err-test_both-clause-tests g c = λ told.
    let me = c.args.store.now in
    let a = (g.D.Disk.state c.args.disk.now).block in
    let b = (g.D.Disk.state c.loop-number.disk).block in
    let before : c.loop-number.store ≡ me = c.loop-number.invariant.store in
    let here : c.update_after.new.store ≡ me = c.in_ok-number.ensures.same.0 ∙ before in
    let fails = subst (λ (k : Store). checked (held_both k c.in-Some.x) ≡ Err c.in_err-test_both.field-0.0) here (sym c.test_both.ensures ∙ c.in_err-test_both.was) in
    let found = subst (λ o. OnUp (node_at c.loop-number.store.nodes c.args.t.node.0) (λ d seats. Found d seats b c.args.t.seat c.loop-number.after o)) c.in-Some.is (c.in_ok-number.ensures.found told) in
    let why = c.in_err-test_both.field-0.0 in
    let first = held_first me a b c.args.t.seat c.loop-number.after (c.loop-number.invariant.blocks told) (node_at c.loop-number.store.nodes c.args.t.node.0) (c.in-Some.number, c.in-Some.x) why fails (c.loop-number.invariant.passed told) found in
    let left = subst (λ (k : Store). OnUp (node_at k.nodes c.args.t.node.0) (λ d seats. (recs : List LogRecord) (u : OpenTxn) → txn_in seats c.args.t.seat ≡ Some u → HasRecords d.log a recs → AreTold seats d.log.start recs → held_left me u.begin (6 * d.log.start) recs ≡ Some why)) before first in
    tested_always (node_at me.nodes c.args.t.node.0) a c.args.t.seat me c.args.t.node.0 (region_of me.shape c.args.t.node.0) c.from_residual-in_err-test_both.result (Some why) (error_is c.from_residual-in_err-test_both.result why c.from_residual-in_err-test_both.ensures.1) left

pub returns-in_err-test_both-clause-led : goal.returns-in_err-test_both-clause-led
returns-in_err-test_both-clause-led g c =
    let n = c.args.t.node.0 in
    let b = (g.D.Disk.state c.update_after.new.disk).block in
    let why = c.in_err-test_both.field-0.0 in
    subst (λ r. IfErr r (λ why. IsTrue g.D.Disk.told → (m : Machine) → Endures c.args.store.now (g.D.Disk.state c.args.disk.now).block m → LedOnStop n why [] m (Endures c.update_after.new.store b))) (sym (error_is c.from_residual-in_err-test_both.result why c.from_residual-in_err-test_both.ensures.1))
    (λ told m was. both_led c.update_after.new.store c.in-Some.x why n [] m (Endures c.update_after.new.store b) (sym c.test_both.ensures ∙ c.in_err-test_both.was))

pub returns-in_err-test_both-clause-shown : goal.returns-in_err-test_both-clause-shown
returns-in_err-test_both-clause-shown g c = λ told m shown.
    let me = c.args.store.now in
    let a = (g.D.Disk.state c.args.disk.now).block in
    let b = (g.D.Disk.state c.loop-number.disk).block in
    let before : c.loop-number.store ≡ me = c.loop-number.invariant.store in
    let here : c.update_after.new.store ≡ me = c.in_ok-number.ensures.same.0 ∙ before in
    let fails = subst (λ (k : Store). checked (held_both k c.in-Some.x) ≡ Err c.in_err-test_both.field-0.0) here (sym c.test_both.ensures ∙ c.in_err-test_both.was) in
    let found = subst (λ o. OnUp (node_at c.loop-number.store.nodes c.args.t.node.0) (λ d seats. Found d seats b c.args.t.seat c.loop-number.after o)) c.in-Some.is (c.in_ok-number.ensures.found told) in
    let why = c.in_err-test_both.field-0.0 in
    let first = held_first me a b c.args.t.seat c.loop-number.after (c.loop-number.invariant.blocks told) (node_at c.loop-number.store.nodes c.args.t.node.0) (c.in-Some.number, c.in-Some.x) why fails (c.loop-number.invariant.passed told) found in
    let left = subst (λ (k : Store). OnUp (node_at k.nodes c.args.t.node.0) (λ d seats. (recs : List LogRecord) (u : OpenTxn) → txn_in seats c.args.t.seat ≡ Some u → HasRecords d.log a recs → AreTold seats d.log.start recs → held_left me u.begin (6 * d.log.start) recs ≡ Some why)) before first in
    let says = left_shown me a m c.args.t (Some why) c.requires.ready.is c.requires.node c.requires.up c.requires.seat c.requires.busy shown left in
    let same = error_is c.from_residual-in_err-test_both.result why c.from_residual-in_err-test_both.ensures.1 in
    holds_always c.from_residual-in_err-test_both.result (subst (λ o. c.from_residual-in_err-test_both.result ≡ checked o) (sym says) same)

-- ---- where none is

pub returns-clause-tests : goal.returns-clause-tests
returns-clause-tests g c = λ told.
    let me = c.args.store.now in
    let a = (g.D.Disk.state c.args.disk.now).block in
    let b = (g.D.Disk.state c.loop-number.disk).block in
    let none : c.in_ok-number.field-0 ≡ None = search in
    let found = subst (λ o. OnUp (node_at c.loop-number.store.nodes c.args.t.node.0) (λ d seats. Found d seats b c.args.t.seat c.loop-number.after o)) none (c.in_ok-number.ensures.found told) in
    let all = all_passed me a b c.args.t.seat c.loop-number.after (c.loop-number.invariant.blocks told) (node_at c.loop-number.store.nodes c.args.t.node.0) (c.loop-number.invariant.passed told) found in
    let left = subst (λ (k : Store). OnUp (node_at k.nodes c.args.t.node.0) (λ d seats. (recs : List LogRecord) (u : OpenTxn) → txn_in seats c.args.t.seat ≡ Some u → HasRecords d.log a recs → AreTold seats d.log.start recs → held_left me u.begin (6 * d.log.start) recs ≡ None)) c.loop-number.invariant.store all in
    tested_always (node_at me.nodes c.args.t.node.0) a c.args.t.seat me c.args.t.node.0 (region_of me.shape c.args.t.node.0) (Ok tt) None refl left

pub returns-clause-shown : goal.returns-clause-shown
returns-clause-shown g c = λ told m shown.
    let me = c.args.store.now in
    let a = (g.D.Disk.state c.args.disk.now).block in
    let b = (g.D.Disk.state c.loop-number.disk).block in
    let none : c.in_ok-number.field-0 ≡ None = search in
    let found = subst (λ o. OnUp (node_at c.loop-number.store.nodes c.args.t.node.0) (λ d seats. Found d seats b c.args.t.seat c.loop-number.after o)) none (c.in_ok-number.ensures.found told) in
    let all = all_passed me a b c.args.t.seat c.loop-number.after (c.loop-number.invariant.blocks told) (node_at c.loop-number.store.nodes c.args.t.node.0) (c.loop-number.invariant.passed told) found in
    let left = subst (λ (k : Store). OnUp (node_at k.nodes c.args.t.node.0) (λ d seats. (recs : List LogRecord) (u : OpenTxn) → txn_in seats c.args.t.seat ≡ Some u → HasRecords d.log a recs → AreTold seats d.log.start recs → held_left me u.begin (6 * d.log.start) recs ≡ None)) c.loop-number.invariant.store all in
    sym (subst (λ o. checked o ≡ Ok tt) (sym (left_shown me a m c.args.t None c.requires.ready.is c.requires.node c.requires.up c.requires.seat c.requires.busy shown left)) refl)
