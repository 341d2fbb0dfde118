use Rattle.std.specs.Prelude.{◌≡◌, ◌≤◌, ◌<◌, true, List, Err, IsTrue}
use Rattle.std.proofs.Common.{ap, subst, sym, ◌∙◌}
use Rattle.sd_base.specs.Shape.{page_count}
use Rattle.record_machine.specs.Machine.{Machine}
use Rattle.record_machine.specs.Parts.{Part, dos}
use Rattle.store_nodes.specs.declared.store.Store.{Store}
use Rattle.store_nodes.specs.Nodes.{node_at}
use Rattle.store_nodes.specs.Pages.{KeepsWork}
use Rattle.store_nodes.specs.Ports.{says_stop}
use Rattle.store_nodes.specs.Shows.{IsShown}
use Rattle.store_commands.specs.Aborts.{IsAbortFault, IsToldOfAbort, takes_page}
use Rattle.store_commands.proofs.AbortCauses.{pages_told, room_fails, room_stop, room_tells}
use Rattle.store_commands.proofs.LeavesThen.{down_alone, fault_behind, leaves_pass, leaves_read, leaves_then, same_unless, sure_step}
use Rattle.store_commands.proofs.SeatsLeft.{busy_up}
use Rattle.store_commands.proofs.Stopping.{done_on, stop_on, unless_ok, unless_pass, unless_then}
use Rattle.store_commands.proofs.Testing.{error_then, on_done, passed_on, the_error}
use Rattle.store_commands.proofs.Told.{busy_kept}
use Rattle.store_commands.proofs.Unchanged.{stops}
use Rattle.store_commands.proofs.aborting.take_with_room.Goals as goal

-- ---- a page couldn't be taken

pub returns-in_err-take_update-clause-leaves : goal.returns-in_err-take_update-clause-leaves
returns-in_err-take_update-clause-leaves g c =
    let e = the_error c.from_residual.result _ c.from_residual.ensures.1 in
    leaves_pass g.D.Disk.told g.V.Disk.told c.args.t.node.0 c.take_update.result c.from_residual.result e.0 c.args.store.now c.take_update.new.store (g.D.Disk.state c.args.disk.now) (g.D.Disk.state c.take_update.new.disk) (g.V.Disk.state c.args.vault.now) (g.V.Disk.state c.take_update.new.vault) (c.in_err-take_update.was ∙ ap Err (sym e.2)) e.1 c.take_update.ensures.leaves

pub returns-in_err-take_update-clause-work : goal.returns-in_err-take_update-clause-work
returns-in_err-take_update-clause-work g c =
    let e = the_error c.from_residual.result _ c.from_residual.ensures.1 in
    unless_pass _ c.take_update.result c.from_residual.result e.0 (c.in_err-take_update.was ∙ ap Err (sym e.2)) e.1 c.take_update.ensures.work

pub returns-in_err-take_update-clause-fault : goal.returns-in_err-take_update-clause-fault
returns-in_err-take_update-clause-fault g c =
    passed_on c.from_residual.result _ (IsAbortFault c.args.store.now c.args.t.node.0) c.from_residual.ensures.1 (λ why same. subst (IsAbortFault c.args.store.now c.args.t.node.0) (sym same) c.in_err-take_update.ensures.fault)

pub returns-in_err-take_update-clause-told : goal.returns-in_err-take_update-clause-told
returns-in_err-take_update-clause-told g c = λ told.
    let b = (g.D.Disk.state c.take_update.new.disk).block in
    passed_on c.from_residual.result _ (IsToldOfAbort c.take_update.new.store b c.args.t) c.from_residual.ensures.1
    (λ why same. subst (IsToldOfAbort c.take_update.new.store b c.args.t) (sym same) (pages_told c.take_update.new.store c.args.store.now.shape b c.args.t c.in_err-take_update.field-0.0 c.take_update.ensures.leaves.works.shape (c.in_err-take_update.ensures.told told)))

pub returns-in_err-take_update-clause-step : goal.returns-in_err-take_update-clause-step
returns-in_err-take_update-clause-step g c = λ told m shown.
    let e = the_error c.from_residual.result _ c.from_residual.ensures.1 in
    stop_on _ _ m (takes_page c.args.store.now.shape c.args.t.node.0 c.args.x) c.take_update.result c.from_residual.result e.0 (IsShown c.take_update.new.store (g.D.Disk.state c.take_update.new.disk).block) (c.in_err-take_update.was ∙ ap Err (sym e.2)) e.1 (c.take_update.ensures.step told m shown)

-- ---- its room is tested

pub test_room-requires-clause-busy : goal.test_room-requires-clause-busy
test_room-requires-clause-busy g c = busy_up (node_at c.take_update.new.store.nodes c.args.t.node.0) c.args.t (busy_kept c.args.store.now c.take_update.new.store c.args.t.node.0 c.args.t (unless_ok c.take_update.result tt c.in_ok-take_update.was c.take_update.ensures.work) c.requires.busy)

pub test_room-requires-clause-data : goal.test_room-requires-clause-data
test_room-requires-clause-data g c = subst (λ s. s.maps ≤ c.args.x.0) (sym c.take_update.ensures.leaves.works.shape) c.requires.data

pub test_room-requires-clause-page : goal.test_room-requires-clause-page
test_room-requires-clause-page g c = subst (λ s. c.args.x.0 < page_count s) (sym c.take_update.ensures.leaves.works.shape) c.requires.page

pub test_room-requires-clause-quiet : goal.test_room-requires-clause-quiet
test_room-requires-clause-quiet g c = λ told. (c.take_update.ensures.leaves.writes told).quiet

pub returns-clause-leaves : goal.returns-clause-leaves
returns-clause-leaves g c =
    leaves_then g.D.Disk.told g.V.Disk.told c.args.t.node.0 c.take_update.result tt c.in_ok-take_update.was c.args.store.now c.take_update.new.store (g.D.Disk.state c.args.disk.now) (g.D.Disk.state c.take_update.new.disk) (g.V.Disk.state c.args.vault.now) (g.V.Disk.state c.take_update.new.vault) c.take_update.ensures.leaves c.test_room.result c.test_room.new.store (g.D.Disk.state c.test_room.new.disk) (g.V.Disk.state c.test_room.new.vault)
    (leaves_read g.D.Disk.told g.V.Disk.told c.args.t.node.0 c.test_room.result c.take_update.new.store c.test_room.new.store (g.D.Disk.state c.take_update.new.disk) (g.D.Disk.state c.test_room.new.disk) (g.V.Disk.state c.take_update.new.vault) (g.V.Disk.state c.test_room.new.vault) _ _ c.test_room.ensures.works c.test_room.ensures.writes c.test_room.ensures.vault_outcomes c.test_room.ensures.cause
    (down_alone c.test_room.result c.args.t.node.0 c.test_room.new.store (error_then c.test_room.result _ _ c.test_room.ensures.fault (λ why fault h stop. room_stop c.args.t.node.0 h c.take_update.new.store c.args.x why _ _ _ fault stop)) c.test_room.ensures.down) (c.in_ok-take_update.ensures.leaves.up) c.test_room.ensures.same c.test_room.ensures.kept)

pub returns-clause-work : goal.returns-clause-work
returns-clause-work g c =
    let first = unless_ok c.take_update.result tt c.in_ok-take_update.was c.take_update.ensures.work in
    unless_then c.test_room.result (λ same. subst (λ (v : Store). KeepsWork c.args.t.node.0 c.args.store.now v) (sym same) first) (same_unless c.test_room.result c.take_update.new.store c.test_room.new.store _ _ c.test_room.ensures.same c.test_room.ensures.kept)

pub returns-clause-fault : goal.returns-clause-fault
returns-clause-fault g c =
    let within : c.args.x.0 < page_count c.take_update.new.store.shape = subst (λ s. c.args.x.0 < page_count s) (sym c.take_update.ensures.leaves.works.shape) c.requires.page in
    fault_behind g.D.Disk.told g.V.Disk.told c.args.t.node.0 c.take_update.result tt c.in_ok-take_update.was c.args.store.now c.take_update.new.store (g.D.Disk.state c.args.disk.now) (g.D.Disk.state c.take_update.new.disk) (g.V.Disk.state c.args.vault.now) (g.V.Disk.state c.take_update.new.vault) c.take_update.ensures.leaves c.test_room.result
    (error_then c.test_room.result _ (IsAbortFault c.take_update.new.store c.args.t.node.0) c.test_room.ensures.fault (λ why fault. room_fails c.take_update.new.store c.args.t.node.0 c.args.x why _ _ _ within fault))

pub returns-clause-told : goal.returns-clause-told
returns-clause-told g c = λ told.
    error_then c.test_room.result _ (IsToldOfAbort c.test_room.new.store (g.D.Disk.state c.test_room.new.disk).block c.args.t) c.test_room.ensures.fault
    (λ why fault. room_tells c.take_update.new.store c.test_room.new.store (g.D.Disk.state c.take_update.new.disk).block (g.D.Disk.state c.test_room.new.disk).block c.args.t c.args.x why (IsTrue g.D.Disk.told) told c.test_room.ensures.works.shape fault)

pub returns-clause-step : goal.returns-clause-step
returns-clause-step g c = λ told m shown.
    let ps : List Part = takes_page c.args.store.now.shape c.args.t.node.0 c.args.x in
    let all = done_on m ps c.take_update.result tt (IsShown c.take_update.new.store (g.D.Disk.state c.take_update.new.disk).block) c.in_ok-take_update.was (c.take_update.ensures.step told m shown) in
    let S : Machine → Type 0 = IsShown c.test_room.new.store (g.D.Disk.state c.test_room.new.disk).block in
    sure_step c.test_room.result (S (dos ps m)) m ps S all.0
    (error_then c.test_room.result _ (λ why. says_stop why ≡ true) c.test_room.ensures.stopped (λ why stop. stops c.args.t.node.0 why (stop told (dos ps m) all.1)))
    (on_done c.test_room.result c.test_room.ensures.same (λ same. subst (λ (v : Store). IsShown v (g.D.Disk.state c.test_room.new.disk).block (dos ps m)) (sym same.0) (subst (λ b. IsShown c.take_update.new.store b (dos ps m)) (sym (same.1 told)) all.1)))
