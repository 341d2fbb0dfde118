use Rattle.std.specs.Prelude.{◌≡◌, ◌≤◌, ◌<◌, true, Err, IsTrue}
use Rattle.std.proofs.Common.{ap, subst, sym, ◌∙◌}
use Rattle.sd_base.specs.Shape.{page_count}
use Rattle.txn_core.specs.Seats.{is_busy}
use Rattle.store_nodes.specs.declared.store.Store.{Store}
use Rattle.store_nodes.specs.Nodes.{OnUp, is_up, node_at}
use Rattle.store_nodes.specs.Pages.{HasCached, KeepsWork}
use Rattle.store_nodes.specs.Ports.{says_stop}
use Rattle.store_nodes.specs.Shows.{IsShown}
use Rattle.store_commands.specs.Aborts.{IsAbortFault, IsToldOfAbort, KeepsOpen}
use Rattle.store_commands.proofs.AbortCauses.{log_fault, log_stop, log_told, pages_told, room_fails, room_stop, room_tells}
use Rattle.store_commands.proofs.BackCalls.{holders_back, open_back}
use Rattle.store_commands.proofs.LeavesThen.{down_alone, fault_behind, leaves_alone, leaves_pass, leaves_read, leaves_then, same_unless}
use Rattle.store_commands.proofs.SeatsLeft.{busy_up, left_same, open_kept, open_then}
use Rattle.store_commands.proofs.Stopping.{unless_ok, unless_pass, unless_then}
use Rattle.store_commands.proofs.Testing.{error_then, on_done, passed_on, the_error}
use Rattle.store_commands.proofs.Told.{busy_kept}
use Rattle.store_commands.proofs.Unchanged.{stops}
use Rattle.store_commands.proofs.aborting.take_back_on.Goals as goal

-- ---- the page couldn't be taken again

pub returns-in_err-take_if_gone-clause-leaves : goal.returns-in_err-take_if_gone-clause-leaves
returns-in_err-take_if_gone-clause-leaves g c =
    let e = the_error c.from_residual.result _ c.from_residual.ensures.1 in
    leaves_pass g.D.Disk.told g.V.Disk.told c.args.t.node.0 c.take_if_gone.result c.from_residual.result e.0 c.args.store.now c.take_if_gone.new.store (g.D.Disk.state c.args.disk.now) (g.D.Disk.state c.take_if_gone.new.disk) (g.V.Disk.state c.args.vault.now) (g.V.Disk.state c.take_if_gone.new.vault) (c.in_err-take_if_gone.was ∙ ap Err (sym e.2)) e.1 c.take_if_gone.ensures.leaves

pub returns-in_err-take_if_gone-clause-open : goal.returns-in_err-take_if_gone-clause-open
returns-in_err-take_if_gone-clause-open g c =
    let e = the_error c.from_residual.result _ c.from_residual.ensures.1 in
    unless_pass _ c.take_if_gone.result c.from_residual.result e.0 (c.in_err-take_if_gone.was ∙ ap Err (sym e.2)) e.1 (unless_then c.take_if_gone.result (λ work. open_kept c.args.store.now c.take_if_gone.new.store c.args.t work c.requires.busy) c.take_if_gone.ensures.work)

pub returns-in_err-take_if_gone-clause-fault : goal.returns-in_err-take_if_gone-clause-fault
returns-in_err-take_if_gone-clause-fault g c = passed_on c.from_residual.result _ (IsAbortFault c.args.store.now c.args.t.node.0) c.from_residual.ensures.1 (λ why same. subst (IsAbortFault c.args.store.now c.args.t.node.0) (sym same) c.in_err-take_if_gone.ensures.fault)

pub returns-in_err-take_if_gone-clause-told : goal.returns-in_err-take_if_gone-clause-told
returns-in_err-take_if_gone-clause-told g c = λ told.
    passed_on c.from_residual.result _ (IsToldOfAbort c.take_if_gone.new.store (g.D.Disk.state c.take_if_gone.new.disk).block c.args.t) c.from_residual.ensures.1
    (λ why same. subst (IsToldOfAbort c.take_if_gone.new.store (g.D.Disk.state c.take_if_gone.new.disk).block c.args.t) (sym same) (pages_told c.take_if_gone.new.store c.args.store.now.shape (g.D.Disk.state c.take_if_gone.new.disk).block c.args.t c.in_err-take_if_gone.field-0.0 c.take_if_gone.ensures.leaves.works.shape (c.in_err-take_if_gone.ensures.told told)))

pub returns-in_err-take_if_gone-clause-stopped : goal.returns-in_err-take_if_gone-clause-stopped
returns-in_err-take_if_gone-clause-stopped g c = passed_on c.from_residual.result _ _ c.from_residual.ensures.1 (λ why same told m d w newest write page held shown.
    subst (λ r. says_stop r ≡ true) (sym same) (c.in_err-take_if_gone.ensures.stopped told m held shown))

-- ---- its room is tested

pub test_room-requires-clause-busy : goal.test_room-requires-clause-busy
test_room-requires-clause-busy g c = busy_up (node_at c.take_if_gone.new.store.nodes c.args.t.node.0) c.args.t (busy_kept c.args.store.now c.take_if_gone.new.store c.args.t.node.0 c.args.t (unless_ok c.take_if_gone.result tt c.in_ok-take_if_gone.was c.take_if_gone.ensures.work) c.requires.busy)

pub test_room-requires-clause-data : goal.test_room-requires-clause-data
test_room-requires-clause-data g c = subst (λ s. s.maps ≤ c.args.x.0) (sym c.take_if_gone.ensures.leaves.works.shape) c.requires.data

pub test_room-requires-clause-page : goal.test_room-requires-clause-page
test_room-requires-clause-page g c = subst (λ s. c.args.x.0 < page_count s) (sym c.take_if_gone.ensures.leaves.works.shape) c.requires.page

pub test_room-requires-clause-quiet : goal.test_room-requires-clause-quiet
test_room-requires-clause-quiet g c = λ told. (c.take_if_gone.ensures.leaves.writes told).quiet

pub returns-in_err-test_room-clause-leaves : goal.returns-in_err-test_room-clause-leaves
returns-in_err-test_room-clause-leaves g c =
    let e = the_error c.from_residual-in_err-test_room.result _ c.from_residual-in_err-test_room.ensures.1 in
    leaves_pass g.D.Disk.told g.V.Disk.told c.args.t.node.0 c.test_room.result c.from_residual-in_err-test_room.result e.0 c.args.store.now c.test_room.new.store (g.D.Disk.state c.args.disk.now) (g.D.Disk.state c.test_room.new.disk) (g.V.Disk.state c.args.vault.now) (g.V.Disk.state c.test_room.new.vault) (c.in_err-test_room.was ∙ ap Err (sym e.2)) e.1
    (leaves_then g.D.Disk.told g.V.Disk.told c.args.t.node.0 c.take_if_gone.result tt c.in_ok-take_if_gone.was c.args.store.now c.take_if_gone.new.store (g.D.Disk.state c.args.disk.now) (g.D.Disk.state c.take_if_gone.new.disk) (g.V.Disk.state c.args.vault.now) (g.V.Disk.state c.take_if_gone.new.vault) c.take_if_gone.ensures.leaves c.test_room.result c.test_room.new.store (g.D.Disk.state c.test_room.new.disk) (g.V.Disk.state c.test_room.new.vault)
    (leaves_read g.D.Disk.told g.V.Disk.told c.args.t.node.0 c.test_room.result c.take_if_gone.new.store c.test_room.new.store (g.D.Disk.state c.take_if_gone.new.disk) (g.D.Disk.state c.test_room.new.disk) (g.V.Disk.state c.take_if_gone.new.vault) (g.V.Disk.state c.test_room.new.vault) _ _ c.test_room.ensures.works c.test_room.ensures.writes c.test_room.ensures.vault_outcomes c.test_room.ensures.cause
    (down_alone c.test_room.result c.args.t.node.0 c.test_room.new.store (error_then c.test_room.result _ _ c.test_room.ensures.fault (λ why fault h stop. room_stop c.args.t.node.0 h c.take_if_gone.new.store c.args.x why _ _ _ fault stop)) c.test_room.ensures.down) c.in_ok-take_if_gone.ensures.leaves.up c.test_room.ensures.same c.test_room.ensures.kept))

pub returns-in_err-test_room-clause-open : goal.returns-in_err-test_room-clause-open
returns-in_err-test_room-clause-open g c =
    let e = the_error c.from_residual-in_err-test_room.result _ c.from_residual-in_err-test_room.ensures.1 in
    unless_pass _ c.test_room.result c.from_residual-in_err-test_room.result e.0 (c.in_err-test_room.was ∙ ap Err (sym e.2)) e.1
    (unless_then c.test_room.result (λ same. subst (λ (v : Store). KeepsOpen c.args.t c.args.store.now v) (sym same) (open_kept c.args.store.now c.take_if_gone.new.store c.args.t (unless_ok c.take_if_gone.result tt c.in_ok-take_if_gone.was c.take_if_gone.ensures.work) c.requires.busy)) (same_unless c.test_room.result c.take_if_gone.new.store c.test_room.new.store _ _ c.test_room.ensures.same c.test_room.ensures.kept))

pub returns-in_err-test_room-clause-fault : goal.returns-in_err-test_room-clause-fault
returns-in_err-test_room-clause-fault g c =
    let within : c.args.x.0 < page_count c.take_if_gone.new.store.shape = subst (λ s. c.args.x.0 < page_count s) (sym c.take_if_gone.ensures.leaves.works.shape) c.requires.page in
    fault_behind g.D.Disk.told g.V.Disk.told c.args.t.node.0 c.take_if_gone.result tt c.in_ok-take_if_gone.was c.args.store.now c.take_if_gone.new.store (g.D.Disk.state c.args.disk.now) (g.D.Disk.state c.take_if_gone.new.disk) (g.V.Disk.state c.args.vault.now) (g.V.Disk.state c.take_if_gone.new.vault) c.take_if_gone.ensures.leaves c.from_residual-in_err-test_room.result
    (passed_on c.from_residual-in_err-test_room.result _ (IsAbortFault c.take_if_gone.new.store c.args.t.node.0) c.from_residual-in_err-test_room.ensures.1 (λ why same. subst (IsAbortFault c.take_if_gone.new.store c.args.t.node.0) (sym same) (room_fails c.take_if_gone.new.store c.args.t.node.0 c.args.x c.in_err-test_room.field-0.0 _ _ _ within c.in_err-test_room.ensures.fault)))

pub returns-in_err-test_room-clause-told : goal.returns-in_err-test_room-clause-told
returns-in_err-test_room-clause-told g c = λ told.
    passed_on c.from_residual-in_err-test_room.result _ (IsToldOfAbort c.test_room.new.store (g.D.Disk.state c.test_room.new.disk).block c.args.t) c.from_residual-in_err-test_room.ensures.1
    (λ why same. subst (IsToldOfAbort c.test_room.new.store (g.D.Disk.state c.test_room.new.disk).block c.args.t) (sym same) (room_tells c.take_if_gone.new.store c.test_room.new.store (g.D.Disk.state c.take_if_gone.new.disk).block (g.D.Disk.state c.test_room.new.disk).block c.args.t c.args.x c.in_err-test_room.field-0.0 (IsTrue g.D.Disk.told) told c.test_room.ensures.works.shape c.in_err-test_room.ensures.fault))

pub returns-in_err-test_room-clause-stopped : goal.returns-in_err-test_room-clause-stopped
returns-in_err-test_room-clause-stopped g c = passed_on c.from_residual-in_err-test_room.result _ _ c.from_residual-in_err-test_room.ensures.1 (λ why same told m d w newest write page held shown.
    subst (λ r. says_stop r ≡ true) (sym same) (stops c.args.t.node.0 c.in_err-test_room.field-0.0 (c.in_err-test_room.ensures.stopped told m (c.in_ok-take_if_gone.ensures.shows told m held shown))))

-- ---- the update is taken back

pub take_back_one-requires-clause-up : goal.take_back_one-requires-clause-up
take_back_one-requires-clause-up g c = subst (λ (v : Store). is_up (node_at v.nodes c.args.t.node.0) ≡ true) (sym c.in_ok-test_room.ensures.same.0) c.in_ok-take_if_gone.ensures.leaves.up

pub take_back_one-requires-clause-busy : goal.take_back_one-requires-clause-busy
take_back_one-requires-clause-busy g c = subst (λ (v : Store). OnUp (node_at v.nodes c.args.t.node.0) (λ k seats. IsTrue (is_busy seats c.args.t.seat))) (sym c.in_ok-test_room.ensures.same.0) (busy_up (node_at c.take_if_gone.new.store.nodes c.args.t.node.0) c.args.t (busy_kept c.args.store.now c.take_if_gone.new.store c.args.t.node.0 c.args.t (unless_ok c.take_if_gone.result tt c.in_ok-take_if_gone.was c.take_if_gone.ensures.work) c.requires.busy))

pub take_back_one-requires-clause-quiet : goal.take_back_one-requires-clause-quiet
take_back_one-requires-clause-quiet g c = λ told. (c.test_room.ensures.writes told).quiet

pub returns-clause-leaves : goal.returns-clause-leaves
returns-clause-leaves g c =
    let up : is_up (node_at c.test_room.new.store.nodes c.args.t.node.0) ≡ true = subst (λ (v : Store). is_up (node_at v.nodes c.args.t.node.0) ≡ true) (sym c.in_ok-test_room.ensures.same.0) c.in_ok-take_if_gone.ensures.leaves.up in
    leaves_then g.D.Disk.told g.V.Disk.told c.args.t.node.0 c.test_room.result tt c.in_ok-test_room.was c.args.store.now c.test_room.new.store (g.D.Disk.state c.args.disk.now) (g.D.Disk.state c.test_room.new.disk) (g.V.Disk.state c.args.vault.now) (g.V.Disk.state c.test_room.new.vault)
    (leaves_then g.D.Disk.told g.V.Disk.told c.args.t.node.0 c.take_if_gone.result tt c.in_ok-take_if_gone.was c.args.store.now c.take_if_gone.new.store (g.D.Disk.state c.args.disk.now) (g.D.Disk.state c.take_if_gone.new.disk) (g.V.Disk.state c.args.vault.now) (g.V.Disk.state c.take_if_gone.new.vault) c.take_if_gone.ensures.leaves c.test_room.result c.test_room.new.store (g.D.Disk.state c.test_room.new.disk) (g.V.Disk.state c.test_room.new.vault)
    (leaves_read g.D.Disk.told g.V.Disk.told c.args.t.node.0 c.test_room.result c.take_if_gone.new.store c.test_room.new.store (g.D.Disk.state c.take_if_gone.new.disk) (g.D.Disk.state c.test_room.new.disk) (g.V.Disk.state c.take_if_gone.new.vault) (g.V.Disk.state c.test_room.new.vault) _ _ c.test_room.ensures.works c.test_room.ensures.writes c.test_room.ensures.vault_outcomes c.test_room.ensures.cause
    (down_alone c.test_room.result c.args.t.node.0 c.test_room.new.store (error_then c.test_room.result _ _ c.test_room.ensures.fault (λ why fault h stop. room_stop c.args.t.node.0 h c.take_if_gone.new.store c.args.x why _ _ _ fault stop)) c.test_room.ensures.down) c.in_ok-take_if_gone.ensures.leaves.up c.test_room.ensures.same c.test_room.ensures.kept))
    c.take_back_one.result c.take_back_one.new.self (g.D.Disk.state c.take_back_one.new.disk) (g.V.Disk.state c.take_back_one.new.vault)
    (leaves_alone g.D.Disk.told g.V.Disk.told c.args.t.node.0 c.take_back_one.result c.test_room.new.store c.take_back_one.new.self (g.D.Disk.state c.test_room.new.disk) (g.D.Disk.state c.take_back_one.new.disk) (g.V.Disk.state c.test_room.new.vault) (g.V.Disk.state c.take_back_one.new.vault) c.take_back_one.ensures.works c.take_back_one.ensures.writes c.take_back_one.ensures.vault_outcomes c.take_back_one.ensures.cause
    (down_alone c.take_back_one.result c.args.t.node.0 c.take_back_one.new.self (error_then c.take_back_one.result _ _ c.take_back_one.ensures.fault (λ why fault h stop. log_stop c.args.t.node.0 h c.test_room.new.store.shape why fault stop)) c.take_back_one.ensures.down) c.take_back_one.ensures.up
    (holders_back c.take_back_one.result c.test_room.new.store c.take_back_one.new.self c.args.t.node.0 c.test_room.ensures.works.ready.is c.take_back_one.ensures.works.others up c.take_back_one.ensures.up c.take_back_one.ensures.owners c.take_back_one.ensures.kept))

pub returns-clause-open : goal.returns-clause-open
returns-clause-open g c =
    let mid : KeepsOpen c.args.t c.args.store.now c.test_room.new.store = subst (λ (v : Store). KeepsOpen c.args.t c.args.store.now v) (sym c.in_ok-test_room.ensures.same.0) (open_kept c.args.store.now c.take_if_gone.new.store c.args.t (unless_ok c.take_if_gone.result tt c.in_ok-take_if_gone.was c.take_if_gone.ensures.work) c.requires.busy) in
    unless_then c.take_back_one.result (open_then c.args.store.now c.test_room.new.store c.take_back_one.new.self c.args.t mid)
    (open_back c.take_back_one.result c.test_room.new.store c.take_back_one.new.self c.args.t mid.busy c.take_back_one.ensures.up c.take_back_one.ensures.locks c.take_back_one.ensures.reopening c.take_back_one.ensures.busy c.take_back_one.ensures.kept)

pub returns-clause-fault : goal.returns-clause-fault
returns-clause-fault g c =
    fault_behind g.D.Disk.told g.V.Disk.told c.args.t.node.0 c.test_room.result tt c.in_ok-test_room.was c.args.store.now c.test_room.new.store (g.D.Disk.state c.args.disk.now) (g.D.Disk.state c.test_room.new.disk) (g.V.Disk.state c.args.vault.now) (g.V.Disk.state c.test_room.new.vault)
    (leaves_then g.D.Disk.told g.V.Disk.told c.args.t.node.0 c.take_if_gone.result tt c.in_ok-take_if_gone.was c.args.store.now c.take_if_gone.new.store (g.D.Disk.state c.args.disk.now) (g.D.Disk.state c.take_if_gone.new.disk) (g.V.Disk.state c.args.vault.now) (g.V.Disk.state c.take_if_gone.new.vault) c.take_if_gone.ensures.leaves c.test_room.result c.test_room.new.store (g.D.Disk.state c.test_room.new.disk) (g.V.Disk.state c.test_room.new.vault)
    (leaves_read g.D.Disk.told g.V.Disk.told c.args.t.node.0 c.test_room.result c.take_if_gone.new.store c.test_room.new.store (g.D.Disk.state c.take_if_gone.new.disk) (g.D.Disk.state c.test_room.new.disk) (g.V.Disk.state c.take_if_gone.new.vault) (g.V.Disk.state c.test_room.new.vault) _ _ c.test_room.ensures.works c.test_room.ensures.writes c.test_room.ensures.vault_outcomes c.test_room.ensures.cause
    (down_alone c.test_room.result c.args.t.node.0 c.test_room.new.store (error_then c.test_room.result _ _ c.test_room.ensures.fault (λ why fault h stop. room_stop c.args.t.node.0 h c.take_if_gone.new.store c.args.x why _ _ _ fault stop)) c.test_room.ensures.down) c.in_ok-take_if_gone.ensures.leaves.up c.test_room.ensures.same c.test_room.ensures.kept))
    c.take_back_one.result (error_then c.take_back_one.result _ (IsAbortFault c.test_room.new.store c.args.t.node.0) c.take_back_one.ensures.fault (λ why fault. log_fault c.test_room.new.store c.args.t.node.0 why fault))

pub returns-clause-told : goal.returns-clause-told
returns-clause-told g c = λ told. error_then c.take_back_one.result _ (IsToldOfAbort c.take_back_one.new.self (g.D.Disk.state c.take_back_one.new.disk).block c.args.t) c.take_back_one.ensures.fault (λ why fault. log_told c.take_back_one.new.self c.test_room.new.store.shape (g.D.Disk.state c.take_back_one.new.disk).block c.args.t why c.take_back_one.ensures.works.shape fault)

pub returns-clause-fewer : goal.returns-clause-fewer
returns-clause-fewer g c =
    let up : is_up (node_at c.test_room.new.store.nodes c.args.t.node.0) ≡ true = subst (λ (v : Store). is_up (node_at v.nodes c.args.t.node.0) ≡ true) (sym c.in_ok-test_room.ensures.same.0) c.in_ok-take_if_gone.ensures.leaves.up in
    let work = subst (λ (v : Store). KeepsWork c.args.t.node.0 c.args.store.now v) (sym c.in_ok-test_room.ensures.same.0) (unless_ok c.take_if_gone.result tt c.in_ok-take_if_gone.was c.take_if_gone.ensures.work) in
    on_done c.take_back_one.result c.take_back_one.ensures.fewer (λ less. left_same (node_at c.args.store.now.nodes c.args.t.node.0) (node_at c.test_room.new.store.nodes c.args.t.node.0) (node_at c.take_back_one.new.self.nodes c.args.t.node.0) c.args.t.seat up work.seats less)

pub returns-clause-shows : goal.returns-clause-shows
returns-clause-shows g c = on_done c.take_back_one.result c.take_back_one.ensures.shows (λ shows told m d w newest write page held shown.
    let cached : HasCached c.test_room.new.store c.args.t.node.0 (record { 0 = w.page }) =
    subst (λ (v : Store). HasCached v c.args.t.node.0 (record { 0 = w.page })) (sym c.in_ok-test_room.ensures.same.0) (subst (λ k. HasCached c.take_if_gone.new.store c.args.t.node.0 (record { 0 = k })) (sym page) c.in_ok-take_if_gone.ensures.cached) in
    let now : IsShown c.test_room.new.store (g.D.Disk.state c.test_room.new.disk).block m =
    subst (λ (v : Store). IsShown v (g.D.Disk.state c.test_room.new.disk).block m) (sym c.in_ok-test_room.ensures.same.0) (subst (λ b. IsShown c.take_if_gone.new.store b m) (sym (c.in_ok-test_room.ensures.same.1 told)) (c.in_ok-take_if_gone.ensures.shows told m held shown)) in
    shows told m d w newest write cached now)

pub returns-clause-stopped : goal.returns-clause-stopped
returns-clause-stopped g c = error_then c.take_back_one.result _ _ c.take_back_one.ensures.stopped (λ why stop told m d w newest write page held shown.
    let cached : HasCached c.test_room.new.store c.args.t.node.0 (record { 0 = w.page }) =
    subst (λ (v : Store). HasCached v c.args.t.node.0 (record { 0 = w.page })) (sym c.in_ok-test_room.ensures.same.0) (subst (λ k. HasCached c.take_if_gone.new.store c.args.t.node.0 (record { 0 = k })) (sym page) c.in_ok-take_if_gone.ensures.cached) in
    let now : IsShown c.test_room.new.store (g.D.Disk.state c.test_room.new.disk).block m =
    subst (λ (v : Store). IsShown v (g.D.Disk.state c.test_room.new.disk).block m) (sym c.in_ok-test_room.ensures.same.0) (subst (λ b. IsShown c.take_if_gone.new.store b m) (sym (c.in_ok-test_room.ensures.same.1 told)) (c.in_ok-take_if_gone.ensures.shows told m held shown)) in
    stops c.args.t.node.0 why (stop told m d w newest write cached now))
