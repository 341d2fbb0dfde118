use Rattle.std.specs.Prelude.{◌≡◌, [], true, false, Some, None, Err, IfSome, refl}
use Rattle.std.proofs.Common.{ap, subst, sym, ◌∙◌}
use Rattle.record_machine.specs.Commands.{takes_back}
use Rattle.record_machine.specs.Machine.{Machine}
use Rattle.record_machine.specs.Parts.{dos}
use Rattle.store_nodes.specs.declared.store.Store.{Store}
use Rattle.store_nodes.specs.Nodes.{OnUp, is_up, node_at}
use Rattle.store_nodes.specs.Pages.{KeepsWork, has_txn}
use Rattle.store_nodes.specs.Ports.{says_stop}
use Rattle.store_nodes.specs.Shows.{IsShown}
use Rattle.store_pages.specs.Updates.{IsWithin}
use Rattle.store_commands.specs.Aborts.{IsAbortFault, IsToldOfAbort}
use Rattle.store_commands.proofs.AbortCauses.{log_fault, log_stop, log_told}
use Rattle.store_commands.proofs.LeavesThen.{down_alone, fault_behind, leaves_none, leaves_pass, leaves_read, leaves_then, leaves_value, same_unless, the_done, work_same}
use Rattle.store_commands.proofs.NextWrites.{IsFirstOf, next_write, number_passed}
use Rattle.store_commands.proofs.PagesTaken.{all_down, next_down, next_failed, none_down, pages_of, parts_now}
use Rattle.store_commands.proofs.SeatsLeft.{busy_up, seats_still}
use Rattle.store_commands.proofs.ShownUp.{runs_up}
use Rattle.store_commands.proofs.Stopping.{unless_failed, unless_ok, unless_pass, unless_then}
use Rattle.store_commands.proofs.Taken.{is_free}
use Rattle.store_commands.proofs.Testing.{error_then, passed_on, the_error}
use Rattle.store_commands.proofs.Told.{busy_kept}
use Rattle.store_commands.proofs.Unchanged.{stops}
use Rattle.store_commands.proofs.With.{work_then}
use Rattle.store_commands.proofs.aborting.take_updates.Goals as goal

-- ---- before the first

pub loop-number-init : goal.loop-number-init
loop-number-init g c = record {
  leaves = leaves_none g.D.Disk.told g.V.Disk.told c.args.t.node.0 tt c.args.store.now (g.D.Disk.state c.args.disk.now) (g.V.Disk.state c.args.vault.now) c.requires.ready c.requires.quiet c.requires.up;
  work = work_same c.args.t.node.0 c.args.store.now;
  busy = c.requires.busy;
  within = tt;
  down = λ told m shown. none_down m c.args.t (IsShown c.args.store.now (g.D.Disk.state c.args.disk.now).block) shown;
}

-- ---- the next update is looked for

pub update_after-requires-clause-busy : goal.update_after-requires-clause-busy
update_after-requires-clause-busy g c = busy_up (node_at c.loop-number.store.nodes c.args.t.node.0) c.args.t c.loop-number.invariant.busy

pub update_after-requires-clause-quiet : goal.update_after-requires-clause-quiet
update_after-requires-clause-quiet g c = λ told. (c.loop-number.invariant.leaves.writes told).quiet

-- where the log can't be read
pub returns-in_err-number-clause-leaves : goal.returns-in_err-number-clause-leaves
returns-in_err-number-clause-leaves g c =
    let e = the_error c.from_residual.result _ c.from_residual.ensures.1 in
    leaves_pass g.D.Disk.told g.V.Disk.told c.args.t.node.0 c.update_after.result c.from_residual.result e.0 c.args.store.now c.update_after.new.store (g.D.Disk.state c.args.disk.now) (g.D.Disk.state c.update_after.new.disk) (g.V.Disk.state c.args.vault.now) (g.V.Disk.state c.update_after.new.vault) (c.in_err-number.was ∙ ap Err (sym e.2)) e.1
    (leaves_then g.D.Disk.told g.V.Disk.told c.args.t.node.0 the_done tt refl c.args.store.now c.loop-number.store (g.D.Disk.state c.args.disk.now) (g.D.Disk.state c.loop-number.disk) (g.V.Disk.state c.args.vault.now) (g.V.Disk.state c.loop-number.vault) c.loop-number.invariant.leaves c.update_after.result c.update_after.new.store (g.D.Disk.state c.update_after.new.disk) (g.V.Disk.state c.update_after.new.vault)
    (leaves_read g.D.Disk.told g.V.Disk.told c.args.t.node.0 c.update_after.result c.loop-number.store c.update_after.new.store (g.D.Disk.state c.loop-number.disk) (g.D.Disk.state c.update_after.new.disk) (g.V.Disk.state c.loop-number.vault) (g.V.Disk.state c.update_after.new.vault) _ _ c.update_after.ensures.works c.update_after.ensures.writes c.update_after.ensures.vault_outcomes c.update_after.ensures.cause
    (down_alone c.update_after.result c.args.t.node.0 c.update_after.new.store (error_then c.update_after.result _ _ c.update_after.ensures.fault (λ why fault h stop. log_stop c.args.t.node.0 h c.loop-number.store.shape why fault stop)) c.update_after.ensures.down) c.loop-number.invariant.leaves.up c.update_after.ensures.same c.update_after.ensures.kept))

pub returns-in_err-number-clause-work : goal.returns-in_err-number-clause-work
returns-in_err-number-clause-work g c =
    let e = the_error c.from_residual.result _ c.from_residual.ensures.1 in
    unless_pass _ c.update_after.result c.from_residual.result e.0 (c.in_err-number.was ∙ ap Err (sym e.2)) e.1
    (unless_then c.update_after.result (λ same. subst (λ (v : Store). KeepsWork c.args.t.node.0 c.args.store.now v) (sym same) c.loop-number.invariant.work) (same_unless c.update_after.result c.loop-number.store c.update_after.new.store _ _ c.update_after.ensures.same c.update_after.ensures.kept))

pub returns-in_err-number-clause-fault : goal.returns-in_err-number-clause-fault
returns-in_err-number-clause-fault g c =
    fault_behind g.D.Disk.told g.V.Disk.told c.args.t.node.0 the_done tt refl c.args.store.now c.loop-number.store (g.D.Disk.state c.args.disk.now) (g.D.Disk.state c.loop-number.disk) (g.V.Disk.state c.args.vault.now) (g.V.Disk.state c.loop-number.vault) c.loop-number.invariant.leaves c.from_residual.result
    (passed_on c.from_residual.result _ (IsAbortFault c.loop-number.store c.args.t.node.0) c.from_residual.ensures.1 (λ why same. subst (IsAbortFault c.loop-number.store c.args.t.node.0) (sym same) (log_fault c.loop-number.store c.args.t.node.0 c.in_err-number.field-0.0 c.in_err-number.ensures.fault)))

pub returns-in_err-number-clause-told : goal.returns-in_err-number-clause-told
returns-in_err-number-clause-told g c = λ told.
    let b = (g.D.Disk.state c.update_after.new.disk).block in
    passed_on c.from_residual.result _ (IsToldOfAbort c.update_after.new.store b c.args.t) c.from_residual.ensures.1
    (λ why same. subst (IsToldOfAbort c.update_after.new.store b c.args.t) (sym same) (log_told c.update_after.new.store c.loop-number.store.shape b c.args.t c.in_err-number.field-0.0 c.update_after.ensures.works.shape c.in_err-number.ensures.fault))

pub returns-in_err-number-clause-step : goal.returns-in_err-number-clause-step
returns-in_err-number-clause-step g c = λ told m shown.
    let e = the_error c.from_residual.result _ c.from_residual.ensures.1 in
    let was = c.loop-number.invariant.down told m shown in
    let now : Machine = dos (pages_of m c.args.t was.newer) m in
    let passed = number_passed now c.args.t was.newer was.older (parts_now m c.args.t c.loop-number.after (IsShown c.loop-number.store (g.D.Disk.state c.loop-number.disk).block) was) c.loop-number.after was.ends in
    let stop = stops c.args.t.node.0 c.in_err-number.field-0.0 (c.in_err-number.ensures.stopped told now was.shown passed) in
    unless_failed c.from_residual.result e.0 e.1 (λ runs. let never : true ≡ false = sym stop ∙ ap says_stop (sym e.2) ∙ runs in absurd cc)

-- ---- its pages are taken

pub take_with_room-requires-clause-up : goal.take_with_room-requires-clause-up
take_with_room-requires-clause-up g c = subst (λ (v : Store). is_up (node_at v.nodes c.args.t.node.0) ≡ true) (sym c.in_ok-number.ensures.same.0) c.loop-number.invariant.leaves.up

pub take_with_room-requires-clause-busy : goal.take_with_room-requires-clause-busy
take_with_room-requires-clause-busy g c = subst (λ (v : Store). has_txn (node_at v.nodes c.args.t.node.0) c.args.t ≡ true) (sym c.in_ok-number.ensures.same.0) c.loop-number.invariant.busy

pub take_with_room-requires-clause-quiet : goal.take_with_room-requires-clause-quiet
take_with_room-requires-clause-quiet g c = λ told. (c.update_after.ensures.writes told).quiet

pub returns-in_err-take_with_room-clause-leaves : goal.returns-in_err-take_with_room-clause-leaves
returns-in_err-take_with_room-clause-leaves g c =
    let e = the_error c.from_residual-in_err-take_with_room.result _ c.from_residual-in_err-take_with_room.ensures.1 in
    leaves_pass g.D.Disk.told g.V.Disk.told c.args.t.node.0 c.take_with_room.result c.from_residual-in_err-take_with_room.result e.0 c.args.store.now c.take_with_room.new.store (g.D.Disk.state c.args.disk.now) (g.D.Disk.state c.take_with_room.new.disk) (g.V.Disk.state c.args.vault.now) (g.V.Disk.state c.take_with_room.new.vault) (c.in_err-take_with_room.was ∙ ap Err (sym e.2)) e.1
    (leaves_then g.D.Disk.told g.V.Disk.told c.args.t.node.0 c.update_after.result c.in_ok-number.field-0 c.in_ok-number.was c.args.store.now c.update_after.new.store (g.D.Disk.state c.args.disk.now) (g.D.Disk.state c.update_after.new.disk) (g.V.Disk.state c.args.vault.now) (g.V.Disk.state c.update_after.new.vault)
    (leaves_then g.D.Disk.told g.V.Disk.told c.args.t.node.0 the_done tt refl c.args.store.now c.loop-number.store (g.D.Disk.state c.args.disk.now) (g.D.Disk.state c.loop-number.disk) (g.V.Disk.state c.args.vault.now) (g.V.Disk.state c.loop-number.vault) c.loop-number.invariant.leaves c.update_after.result c.update_after.new.store (g.D.Disk.state c.update_after.new.disk) (g.V.Disk.state c.update_after.new.vault)
    (leaves_read g.D.Disk.told g.V.Disk.told c.args.t.node.0 c.update_after.result c.loop-number.store c.update_after.new.store (g.D.Disk.state c.loop-number.disk) (g.D.Disk.state c.update_after.new.disk) (g.V.Disk.state c.loop-number.vault) (g.V.Disk.state c.update_after.new.vault) _ _ c.update_after.ensures.works c.update_after.ensures.writes c.update_after.ensures.vault_outcomes c.update_after.ensures.cause
    (down_alone c.update_after.result c.args.t.node.0 c.update_after.new.store (error_then c.update_after.result _ _ c.update_after.ensures.fault (λ why fault h stop. log_stop c.args.t.node.0 h c.loop-number.store.shape why fault stop)) c.update_after.ensures.down) c.loop-number.invariant.leaves.up c.update_after.ensures.same c.update_after.ensures.kept))
    c.take_with_room.result c.take_with_room.new.store (g.D.Disk.state c.take_with_room.new.disk) (g.V.Disk.state c.take_with_room.new.vault) c.take_with_room.ensures.leaves)

pub returns-in_err-take_with_room-clause-work : goal.returns-in_err-take_with_room-clause-work
returns-in_err-take_with_room-clause-work g c =
    let e = the_error c.from_residual-in_err-take_with_room.result _ c.from_residual-in_err-take_with_room.ensures.1 in
    unless_pass _ c.take_with_room.result c.from_residual-in_err-take_with_room.result e.0 (c.in_err-take_with_room.was ∙ ap Err (sym e.2)) e.1
    (unless_then c.take_with_room.result (work_then c.args.t.node.0 c.args.store.now c.update_after.new.store c.take_with_room.new.store (subst (λ (v : Store). KeepsWork c.args.t.node.0 c.args.store.now v) (sym c.in_ok-number.ensures.same.0) c.loop-number.invariant.work)) c.take_with_room.ensures.work)

pub returns-in_err-take_with_room-clause-fault : goal.returns-in_err-take_with_room-clause-fault
returns-in_err-take_with_room-clause-fault g c =
    fault_behind g.D.Disk.told g.V.Disk.told c.args.t.node.0 c.update_after.result c.in_ok-number.field-0 c.in_ok-number.was c.args.store.now c.update_after.new.store (g.D.Disk.state c.args.disk.now) (g.D.Disk.state c.update_after.new.disk) (g.V.Disk.state c.args.vault.now) (g.V.Disk.state c.update_after.new.vault)
    (leaves_then g.D.Disk.told g.V.Disk.told c.args.t.node.0 the_done tt refl c.args.store.now c.loop-number.store (g.D.Disk.state c.args.disk.now) (g.D.Disk.state c.loop-number.disk) (g.V.Disk.state c.args.vault.now) (g.V.Disk.state c.loop-number.vault) c.loop-number.invariant.leaves c.update_after.result c.update_after.new.store (g.D.Disk.state c.update_after.new.disk) (g.V.Disk.state c.update_after.new.vault)
    (leaves_read g.D.Disk.told g.V.Disk.told c.args.t.node.0 c.update_after.result c.loop-number.store c.update_after.new.store (g.D.Disk.state c.loop-number.disk) (g.D.Disk.state c.update_after.new.disk) (g.V.Disk.state c.loop-number.vault) (g.V.Disk.state c.update_after.new.vault) _ _ c.update_after.ensures.works c.update_after.ensures.writes c.update_after.ensures.vault_outcomes c.update_after.ensures.cause
    (down_alone c.update_after.result c.args.t.node.0 c.update_after.new.store (error_then c.update_after.result _ _ c.update_after.ensures.fault (λ why fault h stop. log_stop c.args.t.node.0 h c.loop-number.store.shape why fault stop)) c.update_after.ensures.down) c.loop-number.invariant.leaves.up c.update_after.ensures.same c.update_after.ensures.kept))
    c.from_residual-in_err-take_with_room.result (passed_on c.from_residual-in_err-take_with_room.result _ (IsAbortFault c.update_after.new.store c.args.t.node.0) c.from_residual-in_err-take_with_room.ensures.1 (λ why same. subst (IsAbortFault c.update_after.new.store c.args.t.node.0) (sym same) c.in_err-take_with_room.ensures.fault))

pub returns-in_err-take_with_room-clause-told : goal.returns-in_err-take_with_room-clause-told
returns-in_err-take_with_room-clause-told g c = λ told.
    passed_on c.from_residual-in_err-take_with_room.result _ (IsToldOfAbort c.take_with_room.new.store (g.D.Disk.state c.take_with_room.new.disk).block c.args.t) c.from_residual-in_err-take_with_room.ensures.1 (λ why same. subst (IsToldOfAbort c.take_with_room.new.store (g.D.Disk.state c.take_with_room.new.disk).block c.args.t) (sym same) (c.in_err-take_with_room.ensures.told told))

pub returns-in_err-take_with_room-clause-step : goal.returns-in_err-take_with_room-clause-step
returns-in_err-take_with_room-clause-step g c = λ told m shown.
    let e = the_error c.from_residual-in_err-take_with_room.result _ c.from_residual-in_err-take_with_room.ensures.1 in
    let was = c.loop-number.invariant.down told m shown in
    let now : Machine = dos (pages_of m c.args.t was.newer) m in
    let first : IsFirstOf was.older (Some (c.in-Some.number, c.in-Some.x)) = subst (IsFirstOf was.older) c.in-Some.is
    (next_write now c.args.t was.newer was.older (parts_now m c.args.t c.loop-number.after (IsShown c.loop-number.store (g.D.Disk.state c.loop-number.disk).block) was) c.loop-number.store (g.D.Disk.state c.loop-number.disk).block c.loop-number.after c.in_ok-number.field-0 c.loop-number.invariant.leaves.works.ready.is c.requires.node c.loop-number.invariant.leaves.up c.requires.seat c.loop-number.invariant.busy was.shown was.ends (c.in_ok-number.ensures.found told)) in
    let here : IsShown c.update_after.new.store (g.D.Disk.state c.update_after.new.disk).block now = (subst (λ (v : Store). IsShown v (g.D.Disk.state c.update_after.new.disk).block now) (sym c.in_ok-number.ensures.same.0) (subst (λ b. IsShown c.loop-number.store b now) (sym (c.in_ok-number.ensures.same.1 told)) was.shown)) in
    let up = runs_up c.args.store.now c.args.t.node.0 (g.D.Disk.state c.args.disk.now).block m c.requires.ready.is c.requires.node c.requires.up shown in
    let shape = shown.1.nodes.shape ∙ sym c.loop-number.invariant.leaves.works.shape ∙ ap (λ (v : Store). v.shape) (sym c.in_ok-number.ensures.same.0) in
    next_failed m c.args.t c.loop-number.after (IsShown c.loop-number.store (g.D.Disk.state c.loop-number.disk).block) was c.in-Some.number c.in-Some.x c.update_after.new.store.shape first up shape _ c.take_with_room.result c.from_residual-in_err-take_with_room.result e.0 (IsShown c.take_with_room.new.store (g.D.Disk.state c.take_with_room.new.disk).block) (c.in_err-take_with_room.was ∙ ap Err (sym e.2)) e.1 (c.take_with_room.ensures.step told now here)

pub loop-number-preserved : goal.loop-number-preserved
loop-number-preserved g c =
    let kept = unless_ok c.take_with_room.result tt c.in_ok-take_with_room.was c.take_with_room.ensures.work in
    let busy : has_txn (node_at c.update_after.new.store.nodes c.args.t.node.0) c.args.t ≡ true = subst (λ (v : Store). has_txn (node_at v.nodes c.args.t.node.0) c.args.t ≡ true) (sym c.in_ok-number.ensures.same.0) c.loop-number.invariant.busy in
    let up : is_up (node_at c.update_after.new.store.nodes c.args.t.node.0) ≡ true = subst (λ (v : Store). is_up (node_at v.nodes c.args.t.node.0) ≡ true) (sym c.in_ok-number.ensures.same.0) c.loop-number.invariant.leaves.up in
    record {
      leaves = leaves_value g.D.Disk.told g.V.Disk.told c.args.t.node.0 c.take_with_room.result tt c.in_ok-take_with_room.was c.args.store.now c.take_with_room.new.store (g.D.Disk.state c.args.disk.now) (g.D.Disk.state c.take_with_room.new.disk) (g.V.Disk.state c.args.vault.now) (g.V.Disk.state c.take_with_room.new.vault)
          (leaves_then g.D.Disk.told g.V.Disk.told c.args.t.node.0 c.update_after.result c.in_ok-number.field-0 c.in_ok-number.was c.args.store.now c.update_after.new.store (g.D.Disk.state c.args.disk.now) (g.D.Disk.state c.update_after.new.disk) (g.V.Disk.state c.args.vault.now) (g.V.Disk.state c.update_after.new.vault)
          (leaves_then g.D.Disk.told g.V.Disk.told c.args.t.node.0 the_done tt refl c.args.store.now c.loop-number.store (g.D.Disk.state c.args.disk.now) (g.D.Disk.state c.loop-number.disk) (g.V.Disk.state c.args.vault.now) (g.V.Disk.state c.loop-number.vault) c.loop-number.invariant.leaves c.update_after.result c.update_after.new.store (g.D.Disk.state c.update_after.new.disk) (g.V.Disk.state c.update_after.new.vault)
          (leaves_read g.D.Disk.told g.V.Disk.told c.args.t.node.0 c.update_after.result c.loop-number.store c.update_after.new.store (g.D.Disk.state c.loop-number.disk) (g.D.Disk.state c.update_after.new.disk) (g.V.Disk.state c.loop-number.vault) (g.V.Disk.state c.update_after.new.vault) _ _ c.update_after.ensures.works c.update_after.ensures.writes c.update_after.ensures.vault_outcomes c.update_after.ensures.cause
          (down_alone c.update_after.result c.args.t.node.0 c.update_after.new.store (error_then c.update_after.result _ _ c.update_after.ensures.fault (λ why fault h stop. log_stop c.args.t.node.0 h c.loop-number.store.shape why fault stop)) c.update_after.ensures.down) c.loop-number.invariant.leaves.up c.update_after.ensures.same c.update_after.ensures.kept))
          c.take_with_room.result c.take_with_room.new.store (g.D.Disk.state c.take_with_room.new.disk) (g.V.Disk.state c.take_with_room.new.vault) c.take_with_room.ensures.leaves) tt;
      work = work_then c.args.t.node.0 c.args.store.now c.update_after.new.store c.take_with_room.new.store (subst (λ (v : Store). KeepsWork c.args.t.node.0 c.args.store.now v) (sym c.in_ok-number.ensures.same.0) c.loop-number.invariant.work) kept;
      busy = busy_kept c.update_after.new.store c.take_with_room.new.store c.args.t.node.0 c.args.t kept busy;
      within = seats_still (node_at c.update_after.new.store.nodes c.args.t.node.0) (node_at c.take_with_room.new.store.nodes c.args.t.node.0) (λ seats. IsWithin seats c.args.t.seat c.in-Some.number) kept.seats
          (subst (λ (v : Store). OnUp (node_at v.nodes c.args.t.node.0) (λ d seats. IsWithin seats c.args.t.seat c.in-Some.number)) (sym c.in_ok-number.ensures.same.0) (subst (λ o. IfSome o (λ v. OnUp (node_at c.loop-number.store.nodes c.args.t.node.0) (λ d seats. IsWithin seats c.args.t.seat v.0))) c.in-Some.is c.in_ok-number.ensures.within)) up;
      down = λ told m shown.
          let was = c.loop-number.invariant.down told m shown in
          let now : Machine = dos (pages_of m c.args.t was.newer) m in
          let first : IsFirstOf was.older (Some (c.in-Some.number, c.in-Some.x)) = subst (IsFirstOf was.older) c.in-Some.is
          (next_write now c.args.t was.newer was.older (parts_now m c.args.t c.loop-number.after (IsShown c.loop-number.store (g.D.Disk.state c.loop-number.disk).block) was) c.loop-number.store (g.D.Disk.state c.loop-number.disk).block c.loop-number.after c.in_ok-number.field-0 c.loop-number.invariant.leaves.works.ready.is c.requires.node c.loop-number.invariant.leaves.up c.requires.seat c.loop-number.invariant.busy was.shown was.ends (c.in_ok-number.ensures.found told)) in
          let here : IsShown c.update_after.new.store (g.D.Disk.state c.update_after.new.disk).block now = (subst (λ (v : Store). IsShown v (g.D.Disk.state c.update_after.new.disk).block now) (sym c.in_ok-number.ensures.same.0) (subst (λ b. IsShown c.loop-number.store b now) (sym (c.in_ok-number.ensures.same.1 told)) was.shown)) in
          let up = runs_up c.args.store.now c.args.t.node.0 (g.D.Disk.state c.args.disk.now).block m c.requires.ready.is c.requires.node c.requires.up shown in
          let shape = shown.1.nodes.shape ∙ sym c.loop-number.invariant.leaves.works.shape ∙ ap (λ (v : Store). v.shape) (sym c.in_ok-number.ensures.same.0) in
          next_down m c.args.t c.loop-number.after (IsShown c.loop-number.store (g.D.Disk.state c.loop-number.disk).block) was c.in-Some.number c.in-Some.x c.update_after.new.store.shape first up shape c.take_with_room.result (IsShown c.take_with_room.new.store (g.D.Disk.state c.take_with_room.new.disk).block) c.in_ok-take_with_room.was (c.take_with_room.ensures.step told now here);
    }

-- ---- there is none any more

pub returns-clause-leaves : goal.returns-clause-leaves
returns-clause-leaves g c =
    leaves_value g.D.Disk.told g.V.Disk.told c.args.t.node.0 c.update_after.result c.in_ok-number.field-0 c.in_ok-number.was c.args.store.now c.update_after.new.store (g.D.Disk.state c.args.disk.now) (g.D.Disk.state c.update_after.new.disk) (g.V.Disk.state c.args.vault.now) (g.V.Disk.state c.update_after.new.vault)
    (leaves_then g.D.Disk.told g.V.Disk.told c.args.t.node.0 the_done tt refl c.args.store.now c.loop-number.store (g.D.Disk.state c.args.disk.now) (g.D.Disk.state c.loop-number.disk) (g.V.Disk.state c.args.vault.now) (g.V.Disk.state c.loop-number.vault) c.loop-number.invariant.leaves c.update_after.result c.update_after.new.store (g.D.Disk.state c.update_after.new.disk) (g.V.Disk.state c.update_after.new.vault)
    (leaves_read g.D.Disk.told g.V.Disk.told c.args.t.node.0 c.update_after.result c.loop-number.store c.update_after.new.store (g.D.Disk.state c.loop-number.disk) (g.D.Disk.state c.update_after.new.disk) (g.V.Disk.state c.loop-number.vault) (g.V.Disk.state c.update_after.new.vault) _ _ c.update_after.ensures.works c.update_after.ensures.writes c.update_after.ensures.vault_outcomes c.update_after.ensures.cause
    (down_alone c.update_after.result c.args.t.node.0 c.update_after.new.store (error_then c.update_after.result _ _ c.update_after.ensures.fault (λ why fault h stop. log_stop c.args.t.node.0 h c.loop-number.store.shape why fault stop)) c.update_after.ensures.down) c.loop-number.invariant.leaves.up c.update_after.ensures.same c.update_after.ensures.kept)) tt

pub returns-clause-work : goal.returns-clause-work
returns-clause-work g c = (subst (λ (v : Store). KeepsWork c.args.t.node.0 c.args.store.now v) (sym c.in_ok-number.ensures.same.0) c.loop-number.invariant.work)

pub returns-clause-step : goal.returns-clause-step
returns-clause-step g c = λ told m shown.
    let was = c.loop-number.invariant.down told m shown in
    let now : Machine = dos (pages_of m c.args.t was.newer) m in
    let none : c.in_ok-number.field-0 ≡ None = search in
    let nothing : was.older ≡ [] = subst (IsFirstOf was.older) none
    (next_write now c.args.t was.newer was.older (parts_now m c.args.t c.loop-number.after (IsShown c.loop-number.store (g.D.Disk.state c.loop-number.disk).block) was) c.loop-number.store (g.D.Disk.state c.loop-number.disk).block c.loop-number.after c.in_ok-number.field-0 c.loop-number.invariant.leaves.works.ready.is c.requires.node c.loop-number.invariant.leaves.up c.requires.seat c.loop-number.invariant.busy was.shown was.ends (c.in_ok-number.ensures.found told)) in
    let here : IsShown c.update_after.new.store (g.D.Disk.state c.update_after.new.disk).block now = (subst (λ (v : Store). IsShown v (g.D.Disk.state c.update_after.new.disk).block now) (sym c.in_ok-number.ensures.same.0) (subst (λ b. IsShown c.loop-number.store b now) (sym (c.in_ok-number.ensures.same.1 told)) was.shown)) in
    let S : Machine → Type 0 = IsShown c.update_after.new.store (g.D.Disk.state c.update_after.new.disk).block in
    let all = all_down m c.args.t c.loop-number.after (IsShown c.loop-number.store (g.D.Disk.state c.loop-number.disk).block) was nothing S here in
    is_free m (takes_back m c.args.t) the_done S all.0 (refl, all.1)
