use Rattle.std.specs.Prelude.{◌≡◌, true, Err, Result}
use Rattle.std.proofs.Common.{ap, subst, sym, ◌∙◌}
use Rattle.script_text.specs.declared.reply.Reply.{Reply}
use Rattle.record_machine.specs.Commands.{takes_back}
use Rattle.record_machine.specs.Steps.{held}
use Rattle.store_nodes.specs.declared.store.Store.{Store}
use Rattle.store_nodes.specs.Nodes.{is_up, node_at}
use Rattle.store_nodes.specs.Pages.{KeepsWork, has_txn}
use Rattle.store_nodes.specs.Ports.{UnlessStop}
use Rattle.store_nodes.specs.Shows.{IsShown}
use Rattle.store_pages.specs.Holders.{TestsHolders}
use Rattle.store_commands.specs.Aborts.{IsAbortFault, IsToldOfAbort, RefusesHeld}
use Rattle.store_commands.specs.Answering.{reply_of}
use Rattle.store_commands.proofs.AbortAnswers.{free_refuses, free_tested, holder_fault, holder_stop, holder_told, taken_answers, test_failed, test_refuses}
use Rattle.store_commands.proofs.LeavesThen.{down_alone, leaves_pass, leaves_read, leaves_then, same_unless, work_same}
use Rattle.store_commands.proofs.SeatsLeft.{busy_up}
use Rattle.store_commands.proofs.Stopping.{unless_pass, unless_then}
use Rattle.store_commands.proofs.Testing.{error_then, passed, passed_on, the_error}
use Rattle.store_pages.proofs.Results.{on_ok}
use Rattle.store_commands.proofs.aborting.take_pages.Goals as goal

pub test_holders-requires-clause-busy : goal.test_holders-requires-clause-busy
test_holders-requires-clause-busy g c = busy_up (node_at c.args.store.now.nodes c.args.t.node.0) c.args.t c.requires.busy

-- ---- a page is held

pub returns-in_err-test_holders-clause-leaves : goal.returns-in_err-test_holders-clause-leaves
returns-in_err-test_holders-clause-leaves g c =
    let e = the_error c.from_residual.result _ c.from_residual.ensures.1 in
    leaves_pass g.D.Disk.told g.V.Disk.told c.args.t.node.0 c.test_holders.result c.from_residual.result e.0 c.args.store.now c.test_holders.new.store (g.D.Disk.state c.args.disk.now) (g.D.Disk.state c.test_holders.new.disk) (g.V.Disk.state c.args.vault.now) (g.V.Disk.state c.test_holders.new.vault) (c.in_err-test_holders.was ∙ ap Err (sym e.2)) e.1
    (leaves_read g.D.Disk.told g.V.Disk.told c.args.t.node.0 c.test_holders.result c.args.store.now c.test_holders.new.store (g.D.Disk.state c.args.disk.now) (g.D.Disk.state c.test_holders.new.disk) (g.V.Disk.state c.args.vault.now) (g.V.Disk.state c.test_holders.new.vault) _ _ c.test_holders.ensures.works c.test_holders.ensures.writes c.test_holders.ensures.vault_outcomes c.test_holders.ensures.cause
    (down_alone c.test_holders.result c.args.t.node.0 c.test_holders.new.store (error_then c.test_holders.result _ _ c.test_holders.ensures.fault (λ why fault h stop. holder_stop c.args.t.node.0 h c.args.store.now why fault stop)) c.test_holders.ensures.down) c.requires.up c.test_holders.ensures.same c.test_holders.ensures.kept)

pub returns-in_err-test_holders-clause-work : goal.returns-in_err-test_holders-clause-work
returns-in_err-test_holders-clause-work g c =
    let e = the_error c.from_residual.result _ c.from_residual.ensures.1 in
    unless_pass _ c.test_holders.result c.from_residual.result e.0 (c.in_err-test_holders.was ∙ ap Err (sym e.2)) e.1
    (unless_then c.test_holders.result (λ same. subst (λ (v : Store). KeepsWork c.args.t.node.0 c.args.store.now v) (sym same) (work_same c.args.t.node.0 c.args.store.now)) (same_unless c.test_holders.result c.args.store.now c.test_holders.new.store _ _ c.test_holders.ensures.same c.test_holders.ensures.kept))

pub returns-in_err-test_holders-clause-fault : goal.returns-in_err-test_holders-clause-fault
returns-in_err-test_holders-clause-fault g c =
    passed_on c.from_residual.result _ (IsAbortFault c.args.store.now c.args.t.node.0) c.from_residual.ensures.1 (λ why same. subst (IsAbortFault c.args.store.now c.args.t.node.0) (sym same) (holder_fault c.args.store.now c.args.t.node.0 c.in_err-test_holders.field-0.0 c.in_err-test_holders.ensures.fault))

pub returns-in_err-test_holders-clause-told : goal.returns-in_err-test_holders-clause-told
returns-in_err-test_holders-clause-told g c = λ told.
    let b = (g.D.Disk.state c.test_holders.new.disk).block in
    passed_on c.from_residual.result _ (IsToldOfAbort c.test_holders.new.store b c.args.t) c.from_residual.ensures.1 (λ why same. subst (IsToldOfAbort c.test_holders.new.store b c.args.t) (sym same) (holder_told c.test_holders.new.store c.args.store.now b c.args.t c.in_err-test_holders.field-0.0 c.test_holders.ensures.works.shape c.in_err-test_holders.ensures.fault))

pub returns-in_err-test_holders-clause-held : goal.returns-in_err-test_holders-clause-held
returns-in_err-test_holders-clause-held g c = λ told.
    let e = the_error c.from_residual.result _ c.from_residual.ensures.1 in
    let a = (g.D.Disk.state c.args.disk.now).block in
    let b = (g.D.Disk.state c.test_holders.new.disk).block in
    let why = c.in_err-test_holders.field-0.0 in
    let out : c.from_residual.result ≡ Err why = e.1 ∙ ap Err e.2 in
    subst (λ (r : Result (Unit {0}) Reply). RefusesHeld c.args.store.now c.test_holders.new.store a b c.args.t (reply_of r)) (sym out)
    (test_refuses c.args.store.now a c.args.t c.test_holders.new.store b c.test_holders.result why c.in_err-test_holders.was c.in_err-test_holders.ensures.fault (λ runs. let kept = c.in_err-test_holders.ensures.kept runs in (kept.0, kept.1 told)) (c.test_holders.ensures.tests told))

pub returns-in_err-test_holders-clause-step : goal.returns-in_err-test_holders-clause-step
returns-in_err-test_holders-clause-step g c = λ told m shown.
    let e = the_error c.from_residual.result _ c.from_residual.ensures.1 in
    let b = (g.D.Disk.state c.test_holders.new.disk).block in
    let why = c.in_err-test_holders.field-0.0 in
    test_failed (held m (takes_back m c.args.t)) c.test_holders.result _ (IsShown c.test_holders.new.store b m) c.from_residual.result why c.in_err-test_holders.was (e.1 ∙ ap Err e.2) (c.test_holders.ensures.shown told m shown)
    (λ runs. let kept = c.in_err-test_holders.ensures.kept runs in subst (λ (v : Store). IsShown v b m) (sym kept.0) (subst (λ a. IsShown c.args.store.now a m) (sym (kept.1 told)) shown))

-- ---- none is

pub take_updates-requires-clause-up : goal.take_updates-requires-clause-up
take_updates-requires-clause-up g c = subst (λ (v : Store). is_up (node_at v.nodes c.args.t.node.0) ≡ true) (sym c.in_ok-test_holders.ensures.same.0) c.requires.up

pub take_updates-requires-clause-busy : goal.take_updates-requires-clause-busy
take_updates-requires-clause-busy g c = subst (λ (v : Store). has_txn (node_at v.nodes c.args.t.node.0) c.args.t ≡ true) (sym c.in_ok-test_holders.ensures.same.0) c.requires.busy

pub take_updates-requires-clause-quiet : goal.take_updates-requires-clause-quiet
take_updates-requires-clause-quiet g c = λ told. (c.test_holders.ensures.writes told).quiet

pub returns-clause-leaves : goal.returns-clause-leaves
returns-clause-leaves g c =
    leaves_then g.D.Disk.told g.V.Disk.told c.args.t.node.0 c.test_holders.result tt c.in_ok-test_holders.was c.args.store.now c.test_holders.new.store (g.D.Disk.state c.args.disk.now) (g.D.Disk.state c.test_holders.new.disk) (g.V.Disk.state c.args.vault.now) (g.V.Disk.state c.test_holders.new.vault)
    (leaves_read g.D.Disk.told g.V.Disk.told c.args.t.node.0 c.test_holders.result c.args.store.now c.test_holders.new.store (g.D.Disk.state c.args.disk.now) (g.D.Disk.state c.test_holders.new.disk) (g.V.Disk.state c.args.vault.now) (g.V.Disk.state c.test_holders.new.vault) _ _ c.test_holders.ensures.works c.test_holders.ensures.writes c.test_holders.ensures.vault_outcomes c.test_holders.ensures.cause
    (down_alone c.test_holders.result c.args.t.node.0 c.test_holders.new.store (error_then c.test_holders.result _ _ c.test_holders.ensures.fault (λ why fault h stop. holder_stop c.args.t.node.0 h c.args.store.now why fault stop)) c.test_holders.ensures.down) c.requires.up c.test_holders.ensures.same c.test_holders.ensures.kept)
    c.take_updates.result c.take_updates.new.store (g.D.Disk.state c.take_updates.new.disk) (g.V.Disk.state c.take_updates.new.vault) c.take_updates.ensures.leaves

pub returns-clause-work : goal.returns-clause-work
returns-clause-work g c = subst (λ (v : Store). UnlessStop c.take_updates.result (KeepsWork c.args.t.node.0 v c.take_updates.new.store)) c.in_ok-test_holders.ensures.same.0 c.take_updates.ensures.work

pub returns-clause-fault : goal.returns-clause-fault
returns-clause-fault g c = error_then c.take_updates.result _ (IsAbortFault c.args.store.now c.args.t.node.0) c.take_updates.ensures.fault (λ why is. subst (λ (v : Store). IsAbortFault v c.args.t.node.0 why) c.in_ok-test_holders.ensures.same.0 is)

pub returns-clause-free : goal.returns-clause-free
returns-clause-free g c =
    let a = (g.D.Disk.state c.args.disk.now).block in
    on_ok c.take_updates.result (λ told. free_tested c.args.store.now a c.args.t (subst (λ (r : Result (Unit {0}) Reply). TestsHolders c.args.store.now a c.args.t r) c.in_ok-test_holders.was (c.test_holders.ensures.tests told)))

pub returns-clause-held : goal.returns-clause-held
returns-clause-held g c = λ told.
    let a = (g.D.Disk.state c.args.disk.now).block in
    free_refuses c.args.store.now a c.args.t c.take_updates.new.store (g.D.Disk.state c.take_updates.new.disk).block (reply_of c.take_updates.result)
    (free_tested c.args.store.now a c.args.t (subst (λ (r : Result (Unit {0}) Reply). TestsHolders c.args.store.now a c.args.t r) c.in_ok-test_holders.was (c.test_holders.ensures.tests told)))

pub returns-clause-step : goal.returns-clause-step
returns-clause-step g c = λ told m shown.
    let b = (g.D.Disk.state c.test_holders.new.disk).block in
    let d = (g.D.Disk.state c.take_updates.new.disk).block in
    let here : IsShown c.test_holders.new.store b m = subst (λ (v : Store). IsShown v b m) (sym c.in_ok-test_holders.ensures.same.0) (subst (λ a. IsShown c.args.store.now a m) (sym (c.in_ok-test_holders.ensures.same.1 told)) shown) in
    taken_answers m (takes_back m c.args.t) c.take_updates.result (IsShown c.take_updates.new.store d) _ (IsShown c.take_updates.new.store d m) (passed (held m (takes_back m c.args.t)) (sym (c.in_ok-test_holders.ensures.shown told m shown))) (c.take_updates.ensures.step told m here)
