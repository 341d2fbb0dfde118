use Rattle.std.specs.Prelude.{◌≡◌, ◌≤◌, true, Err, None, Some, MatchOption, refl}
use Rattle.std.proofs.Common.{ap, subst, sym, ◌∙◌}
use Rattle.txn_core.specs.Seats.{OpenTxn, txn_in}
use Rattle.record_machine.specs.Commands.{backs}
use Rattle.record_machine.specs.Machine.{Deed, Machine, Write, newest_of}
use Rattle.record_machine.specs.Parts.{dos}
use Rattle.store_nodes.specs.declared.store.Store.{Store}
use Rattle.store_nodes.specs.Nodes.{OnUp, is_up, node_at}
use Rattle.store_nodes.specs.Pages.{LeavesLess, has_txn}
use Rattle.store_nodes.specs.Ports.{says_stop}
use Rattle.store_nodes.specs.Shows.{IsShown}
use Rattle.store_commands.specs.Aborts.{HoldsBoth, IsAbortFault, IsToldOfAbort, KeepsOpen}
use Rattle.store_commands.proofs.AbortCauses.{log_fault, log_stop, log_told}
use Rattle.store_commands.proofs.Backs.{all_back, holds_newest, none_back, one_back}
use Rattle.store_commands.proofs.LeavesThen.{down_alone, fault_behind, leaves_none, leaves_pass, leaves_read, leaves_then, leaves_value, same_unless, the_done}
use Rattle.store_commands.proofs.SeatsLeft.{busy_up, left_less, on_up, open_same, open_then}
use Rattle.store_commands.proofs.Stopping.{unless_ok, unless_pass, unless_then}
use Rattle.store_commands.proofs.Testing.{error_then, passed_on, the_error}
use Rattle.store_commands.proofs.Unchanged.{stops}
use Rattle.store_commands.proofs.aborting.take_back_updates.Goals as goal

-- ---- before the first

pub loop-x-init : goal.loop-x-init
loop-x-init g c = record {
  leaves = leaves_none g.D.Disk.told g.V.Disk.told c.args.t.node.0 tt c.args.store.now (g.D.Disk.state c.args.disk.now) (g.V.Disk.state c.args.vault.now) c.requires.ready c.requires.quiet c.requires.up;
  stays = open_same c.args.store.now c.args.store.now c.args.t refl c.requires.busy;
  shows = λ told m held shown. none_back m c.args.t (IsShown c.args.store.now (g.D.Disk.state c.args.disk.now).block) held shown;
}

-- ---- the next update is looked for

pub update_after-requires-clause-busy : goal.update_after-requires-clause-busy
update_after-requires-clause-busy g c = busy_up (node_at c.loop-x.store.nodes c.args.t.node.0) c.args.t c.loop-x.invariant.stays.busy

pub update_after-requires-clause-quiet : goal.update_after-requires-clause-quiet
update_after-requires-clause-quiet g c = λ told. (c.loop-x.invariant.leaves.writes told).quiet

pub returns-in_err-x-clause-leaves : goal.returns-in_err-x-clause-leaves
returns-in_err-x-clause-leaves g c =
    let e = the_error c.from_residual.result _ c.from_residual.ensures.1 in
    leaves_pass g.D.Disk.told g.V.Disk.told c.args.t.node.0 c.update_after.result c.from_residual.result e.0 c.args.store.now c.update_after.new.store (g.D.Disk.state c.args.disk.now) (g.D.Disk.state c.update_after.new.disk) (g.V.Disk.state c.args.vault.now) (g.V.Disk.state c.update_after.new.vault) (c.in_err-x.was ∙ ap Err (sym e.2)) e.1
    (leaves_then g.D.Disk.told g.V.Disk.told c.args.t.node.0 the_done tt refl c.args.store.now c.loop-x.store (g.D.Disk.state c.args.disk.now) (g.D.Disk.state c.loop-x.disk) (g.V.Disk.state c.args.vault.now) (g.V.Disk.state c.loop-x.vault) c.loop-x.invariant.leaves c.update_after.result c.update_after.new.store (g.D.Disk.state c.update_after.new.disk) (g.V.Disk.state c.update_after.new.vault)
    (leaves_read g.D.Disk.told g.V.Disk.told c.args.t.node.0 c.update_after.result c.loop-x.store c.update_after.new.store (g.D.Disk.state c.loop-x.disk) (g.D.Disk.state c.update_after.new.disk) (g.V.Disk.state c.loop-x.vault) (g.V.Disk.state c.update_after.new.vault) _ _ c.update_after.ensures.works c.update_after.ensures.writes c.update_after.ensures.vault_outcomes c.update_after.ensures.cause
    (down_alone c.update_after.result c.args.t.node.0 c.update_after.new.store (error_then c.update_after.result _ _ c.update_after.ensures.fault (λ why fault h stop. log_stop c.args.t.node.0 h c.loop-x.store.shape why fault stop)) c.update_after.ensures.down) c.loop-x.invariant.leaves.up c.update_after.ensures.same c.update_after.ensures.kept))

pub returns-in_err-x-clause-open : goal.returns-in_err-x-clause-open
returns-in_err-x-clause-open g c =
    let e = the_error c.from_residual.result _ c.from_residual.ensures.1 in
    unless_pass _ c.update_after.result c.from_residual.result e.0 (c.in_err-x.was ∙ ap Err (sym e.2)) e.1
    (unless_then c.update_after.result (λ same. subst (λ (v : Store). KeepsOpen c.args.t c.args.store.now v) (sym same) c.loop-x.invariant.stays) (same_unless c.update_after.result c.loop-x.store c.update_after.new.store _ _ c.update_after.ensures.same c.update_after.ensures.kept))

pub returns-in_err-x-clause-fault : goal.returns-in_err-x-clause-fault
returns-in_err-x-clause-fault g c =
    fault_behind g.D.Disk.told g.V.Disk.told c.args.t.node.0 the_done tt refl c.args.store.now c.loop-x.store (g.D.Disk.state c.args.disk.now) (g.D.Disk.state c.loop-x.disk) (g.V.Disk.state c.args.vault.now) (g.V.Disk.state c.loop-x.vault) c.loop-x.invariant.leaves c.from_residual.result
    (passed_on c.from_residual.result _ (IsAbortFault c.loop-x.store c.args.t.node.0) c.from_residual.ensures.1 (λ why same. subst (IsAbortFault c.loop-x.store c.args.t.node.0) (sym same) (log_fault c.loop-x.store c.args.t.node.0 c.in_err-x.field-0.0 c.in_err-x.ensures.fault)))

pub returns-in_err-x-clause-told : goal.returns-in_err-x-clause-told
returns-in_err-x-clause-told g c = λ told.
    passed_on c.from_residual.result _ (IsToldOfAbort c.update_after.new.store (g.D.Disk.state c.update_after.new.disk).block c.args.t) c.from_residual.ensures.1
    (λ why same. subst (IsToldOfAbort c.update_after.new.store (g.D.Disk.state c.update_after.new.disk).block c.args.t) (sym same) (log_told c.update_after.new.store c.loop-x.store.shape (g.D.Disk.state c.update_after.new.disk).block c.args.t c.in_err-x.field-0.0 c.update_after.ensures.works.shape c.in_err-x.ensures.fault))

pub returns-in_err-x-clause-stopped : goal.returns-in_err-x-clause-stopped
returns-in_err-x-clause-stopped g c = passed_on c.from_residual.result _ _ c.from_residual.ensures.1 (λ why same told m held shown.
    let was = c.loop-x.invariant.shows told m held shown in
    subst (λ r. says_stop r ≡ true) (sym same) (stops c.args.t.node.0 c.in_err-x.field-0.0 (c.in_err-x.ensures.stopped told was.now was.shown tt)))

-- ---- it is taken back

pub take_back_on-requires-clause-up : goal.take_back_on-requires-clause-up
take_back_on-requires-clause-up g c = subst (λ (v : Store). is_up (node_at v.nodes c.args.t.node.0) ≡ true) (sym c.in_ok-x.ensures.same.0) c.loop-x.invariant.leaves.up

pub take_back_on-requires-clause-busy : goal.take_back_on-requires-clause-busy
take_back_on-requires-clause-busy g c = subst (λ (v : Store). has_txn (node_at v.nodes c.args.t.node.0) c.args.t ≡ true) (sym c.in_ok-x.ensures.same.0) c.loop-x.invariant.stays.busy

pub take_back_on-requires-clause-quiet : goal.take_back_on-requires-clause-quiet
take_back_on-requires-clause-quiet g c = λ told. (c.update_after.ensures.writes told).quiet

pub returns-in_err-take_back_on-clause-leaves : goal.returns-in_err-take_back_on-clause-leaves
returns-in_err-take_back_on-clause-leaves g c =
    let e = the_error c.from_residual-in_err-take_back_on.result _ c.from_residual-in_err-take_back_on.ensures.1 in
    leaves_pass g.D.Disk.told g.V.Disk.told c.args.t.node.0 c.take_back_on.result c.from_residual-in_err-take_back_on.result e.0 c.args.store.now c.take_back_on.new.store (g.D.Disk.state c.args.disk.now) (g.D.Disk.state c.take_back_on.new.disk) (g.V.Disk.state c.args.vault.now) (g.V.Disk.state c.take_back_on.new.vault) (c.in_err-take_back_on.was ∙ ap Err (sym e.2)) e.1
    (leaves_then g.D.Disk.told g.V.Disk.told c.args.t.node.0 c.update_after.result c.in_ok-x.field-0 c.in_ok-x.was c.args.store.now c.update_after.new.store (g.D.Disk.state c.args.disk.now) (g.D.Disk.state c.update_after.new.disk) (g.V.Disk.state c.args.vault.now) (g.V.Disk.state c.update_after.new.vault)
    (leaves_then g.D.Disk.told g.V.Disk.told c.args.t.node.0 the_done tt refl c.args.store.now c.loop-x.store (g.D.Disk.state c.args.disk.now) (g.D.Disk.state c.loop-x.disk) (g.V.Disk.state c.args.vault.now) (g.V.Disk.state c.loop-x.vault) c.loop-x.invariant.leaves c.update_after.result c.update_after.new.store (g.D.Disk.state c.update_after.new.disk) (g.V.Disk.state c.update_after.new.vault)
    (leaves_read g.D.Disk.told g.V.Disk.told c.args.t.node.0 c.update_after.result c.loop-x.store c.update_after.new.store (g.D.Disk.state c.loop-x.disk) (g.D.Disk.state c.update_after.new.disk) (g.V.Disk.state c.loop-x.vault) (g.V.Disk.state c.update_after.new.vault) _ _ c.update_after.ensures.works c.update_after.ensures.writes c.update_after.ensures.vault_outcomes c.update_after.ensures.cause
    (down_alone c.update_after.result c.args.t.node.0 c.update_after.new.store (error_then c.update_after.result _ _ c.update_after.ensures.fault (λ why fault h stop. log_stop c.args.t.node.0 h c.loop-x.store.shape why fault stop)) c.update_after.ensures.down) c.loop-x.invariant.leaves.up c.update_after.ensures.same c.update_after.ensures.kept))
    c.take_back_on.result c.take_back_on.new.store (g.D.Disk.state c.take_back_on.new.disk) (g.V.Disk.state c.take_back_on.new.vault) c.take_back_on.ensures.leaves)

pub returns-in_err-take_back_on-clause-open : goal.returns-in_err-take_back_on-clause-open
returns-in_err-take_back_on-clause-open g c =
    let e = the_error c.from_residual-in_err-take_back_on.result _ c.from_residual-in_err-take_back_on.ensures.1 in
    unless_pass _ c.take_back_on.result c.from_residual-in_err-take_back_on.result e.0 (c.in_err-take_back_on.was ∙ ap Err (sym e.2)) e.1 (unless_then c.take_back_on.result (open_then c.args.store.now c.update_after.new.store c.take_back_on.new.store c.args.t (subst (λ (v : Store). KeepsOpen c.args.t c.args.store.now v) (sym c.in_ok-x.ensures.same.0) c.loop-x.invariant.stays)) c.take_back_on.ensures.open)

pub returns-in_err-take_back_on-clause-fault : goal.returns-in_err-take_back_on-clause-fault
returns-in_err-take_back_on-clause-fault g c =
    fault_behind g.D.Disk.told g.V.Disk.told c.args.t.node.0 c.update_after.result c.in_ok-x.field-0 c.in_ok-x.was c.args.store.now c.update_after.new.store (g.D.Disk.state c.args.disk.now) (g.D.Disk.state c.update_after.new.disk) (g.V.Disk.state c.args.vault.now) (g.V.Disk.state c.update_after.new.vault)
    (leaves_then g.D.Disk.told g.V.Disk.told c.args.t.node.0 the_done tt refl c.args.store.now c.loop-x.store (g.D.Disk.state c.args.disk.now) (g.D.Disk.state c.loop-x.disk) (g.V.Disk.state c.args.vault.now) (g.V.Disk.state c.loop-x.vault) c.loop-x.invariant.leaves c.update_after.result c.update_after.new.store (g.D.Disk.state c.update_after.new.disk) (g.V.Disk.state c.update_after.new.vault)
    (leaves_read g.D.Disk.told g.V.Disk.told c.args.t.node.0 c.update_after.result c.loop-x.store c.update_after.new.store (g.D.Disk.state c.loop-x.disk) (g.D.Disk.state c.update_after.new.disk) (g.V.Disk.state c.loop-x.vault) (g.V.Disk.state c.update_after.new.vault) _ _ c.update_after.ensures.works c.update_after.ensures.writes c.update_after.ensures.vault_outcomes c.update_after.ensures.cause
    (down_alone c.update_after.result c.args.t.node.0 c.update_after.new.store (error_then c.update_after.result _ _ c.update_after.ensures.fault (λ why fault h stop. log_stop c.args.t.node.0 h c.loop-x.store.shape why fault stop)) c.update_after.ensures.down) c.loop-x.invariant.leaves.up c.update_after.ensures.same c.update_after.ensures.kept))
    c.from_residual-in_err-take_back_on.result (passed_on c.from_residual-in_err-take_back_on.result _ (IsAbortFault c.update_after.new.store c.args.t.node.0) c.from_residual-in_err-take_back_on.ensures.1 (λ why same. subst (IsAbortFault c.update_after.new.store c.args.t.node.0) (sym same) c.in_err-take_back_on.ensures.fault))

pub returns-in_err-take_back_on-clause-told : goal.returns-in_err-take_back_on-clause-told
returns-in_err-take_back_on-clause-told g c = λ told.
    passed_on c.from_residual-in_err-take_back_on.result _ (IsToldOfAbort c.take_back_on.new.store (g.D.Disk.state c.take_back_on.new.disk).block c.args.t) c.from_residual-in_err-take_back_on.ensures.1 (λ why same. subst (IsToldOfAbort c.take_back_on.new.store (g.D.Disk.state c.take_back_on.new.disk).block c.args.t) (sym same) (c.in_err-take_back_on.ensures.told told))

pub returns-in_err-take_back_on-clause-stopped : goal.returns-in_err-take_back_on-clause-stopped
returns-in_err-take_back_on-clause-stopped g c = passed_on c.from_residual-in_err-take_back_on.result _ _ c.from_residual-in_err-take_back_on.ensures.1 (λ why same told m held shown.
    let was = c.loop-x.invariant.shows told m held shown in
    let k : Machine = was.now in
    let new = subst (λ o. MatchOption o (newest_of k c.args.t ≡ None) (λ v. (d : Deed) × (w : Write) × (newest_of k c.args.t ≡ Some d) × (d.write ≡ Some w) × (w.page ≡ v.1.0))) c.in-Some.is (c.in_ok-x.ensures.newest refl told k was.shown) in
    let both : HoldsBoth k c.args.t.node.0 c.in-Some.x = subst (λ i. HoldsBoth k c.args.t.node.0 (record { 0 = i })) new.4 (holds_newest k c.args.t new.0 new.2 new.1 new.3 was.held) in
    let now : IsShown c.update_after.new.store (g.D.Disk.state c.update_after.new.disk).block k = subst (λ (v : Store). IsShown v (g.D.Disk.state c.update_after.new.disk).block k) (sym c.in_ok-x.ensures.same.0) (subst (λ b. IsShown c.loop-x.store b k) (sym (c.in_ok-x.ensures.same.1 told)) was.shown) in
    subst (λ r. says_stop r ≡ true) (sym same) (c.in_err-take_back_on.ensures.stopped told k new.0 new.1 new.2 new.3 new.4 both now))

pub loop-x-preserved : goal.loop-x-preserved
loop-x-preserved g c = record {
  leaves = leaves_value g.D.Disk.told g.V.Disk.told c.args.t.node.0 c.take_back_on.result tt c.in_ok-take_back_on.was c.args.store.now c.take_back_on.new.store (g.D.Disk.state c.args.disk.now) (g.D.Disk.state c.take_back_on.new.disk) (g.V.Disk.state c.args.vault.now) (g.V.Disk.state c.take_back_on.new.vault)
      (leaves_then g.D.Disk.told g.V.Disk.told c.args.t.node.0 c.update_after.result c.in_ok-x.field-0 c.in_ok-x.was c.args.store.now c.update_after.new.store (g.D.Disk.state c.args.disk.now) (g.D.Disk.state c.update_after.new.disk) (g.V.Disk.state c.args.vault.now) (g.V.Disk.state c.update_after.new.vault)
      (leaves_then g.D.Disk.told g.V.Disk.told c.args.t.node.0 the_done tt refl c.args.store.now c.loop-x.store (g.D.Disk.state c.args.disk.now) (g.D.Disk.state c.loop-x.disk) (g.V.Disk.state c.args.vault.now) (g.V.Disk.state c.loop-x.vault) c.loop-x.invariant.leaves c.update_after.result c.update_after.new.store (g.D.Disk.state c.update_after.new.disk) (g.V.Disk.state c.update_after.new.vault)
      (leaves_read g.D.Disk.told g.V.Disk.told c.args.t.node.0 c.update_after.result c.loop-x.store c.update_after.new.store (g.D.Disk.state c.loop-x.disk) (g.D.Disk.state c.update_after.new.disk) (g.V.Disk.state c.loop-x.vault) (g.V.Disk.state c.update_after.new.vault) _ _ c.update_after.ensures.works c.update_after.ensures.writes c.update_after.ensures.vault_outcomes c.update_after.ensures.cause
      (down_alone c.update_after.result c.args.t.node.0 c.update_after.new.store (error_then c.update_after.result _ _ c.update_after.ensures.fault (λ why fault h stop. log_stop c.args.t.node.0 h c.loop-x.store.shape why fault stop)) c.update_after.ensures.down) c.loop-x.invariant.leaves.up c.update_after.ensures.same c.update_after.ensures.kept))
      c.take_back_on.result c.take_back_on.new.store (g.D.Disk.state c.take_back_on.new.disk) (g.V.Disk.state c.take_back_on.new.vault) c.take_back_on.ensures.leaves) tt;
  stays = open_then c.args.store.now c.update_after.new.store c.take_back_on.new.store c.args.t (subst (λ (v : Store). KeepsOpen c.args.t c.args.store.now v) (sym c.in_ok-x.ensures.same.0) c.loop-x.invariant.stays) (unless_ok c.take_back_on.result tt c.in_ok-take_back_on.was c.take_back_on.ensures.open);
  shows = λ told m held shown.
      let was = c.loop-x.invariant.shows told m held shown in
      let k : Machine = was.now in
      let new = subst (λ o. MatchOption o (newest_of k c.args.t ≡ None) (λ v. (d : Deed) × (w : Write) × (newest_of k c.args.t ≡ Some d) × (d.write ≡ Some w) × (w.page ≡ v.1.0))) c.in-Some.is (c.in_ok-x.ensures.newest refl told k was.shown) in
      let both : HoldsBoth k c.args.t.node.0 c.in-Some.x = subst (λ i. HoldsBoth k c.args.t.node.0 (record { 0 = i })) new.4 (holds_newest k c.args.t new.0 new.2 new.1 new.3 was.held) in
      let now : IsShown c.update_after.new.store (g.D.Disk.state c.update_after.new.disk).block k = subst (λ (v : Store). IsShown v (g.D.Disk.state c.update_after.new.disk).block k) (sym c.in_ok-x.ensures.same.0) (subst (λ b. IsShown c.loop-x.store b k) (sym (c.in_ok-x.ensures.same.1 told)) was.shown) in
      one_back k c.args.t new.0 new.2 m (IsShown c.take_back_on.new.store (g.D.Disk.state c.take_back_on.new.disk).block) was.held was.rest (c.in_ok-take_back_on.ensures.shows told k new.0 new.1 new.2 new.3 new.4 both now);
}

pub loop-x-smaller : goal.loop-x-smaller
loop-x-smaller g c =
    let now = unless_ok c.take_back_on.result tt c.in_ok-take_back_on.was c.take_back_on.ensures.open in
    left_less (node_at c.loop-x.store.nodes c.args.t.node.0) (node_at c.take_back_on.new.store.nodes c.args.t.node.0) c.args.t.seat c.loop-x.invariant.leaves.up c.in_ok-take_back_on.ensures.leaves.up (busy_up (node_at c.loop-x.store.nodes c.args.t.node.0) c.args.t c.loop-x.invariant.stays.busy) (busy_up (node_at c.take_back_on.new.store.nodes c.args.t.node.0) c.args.t now.busy)
    (subst (λ (v : Store). OnUp (node_at v.nodes c.args.t.node.0) (λ d old. OnUp (node_at c.take_back_on.new.store.nodes c.args.t.node.0) (λ e new. LeavesLess c.args.t.seat old new))) c.in_ok-x.ensures.same.0 c.in_ok-take_back_on.ensures.fewer)

-- ---- there is none any more

pub returns-clause-leaves : goal.returns-clause-leaves
returns-clause-leaves g c =
    leaves_value g.D.Disk.told g.V.Disk.told c.args.t.node.0 c.update_after.result c.in_ok-x.field-0 c.in_ok-x.was c.args.store.now c.update_after.new.store (g.D.Disk.state c.args.disk.now) (g.D.Disk.state c.update_after.new.disk) (g.V.Disk.state c.args.vault.now) (g.V.Disk.state c.update_after.new.vault)
    (leaves_then g.D.Disk.told g.V.Disk.told c.args.t.node.0 the_done tt refl c.args.store.now c.loop-x.store (g.D.Disk.state c.args.disk.now) (g.D.Disk.state c.loop-x.disk) (g.V.Disk.state c.args.vault.now) (g.V.Disk.state c.loop-x.vault) c.loop-x.invariant.leaves c.update_after.result c.update_after.new.store (g.D.Disk.state c.update_after.new.disk) (g.V.Disk.state c.update_after.new.vault)
    (leaves_read g.D.Disk.told g.V.Disk.told c.args.t.node.0 c.update_after.result c.loop-x.store c.update_after.new.store (g.D.Disk.state c.loop-x.disk) (g.D.Disk.state c.update_after.new.disk) (g.V.Disk.state c.loop-x.vault) (g.V.Disk.state c.update_after.new.vault) _ _ c.update_after.ensures.works c.update_after.ensures.writes c.update_after.ensures.vault_outcomes c.update_after.ensures.cause
    (down_alone c.update_after.result c.args.t.node.0 c.update_after.new.store (error_then c.update_after.result _ _ c.update_after.ensures.fault (λ why fault h stop. log_stop c.args.t.node.0 h c.loop-x.store.shape why fault stop)) c.update_after.ensures.down) c.loop-x.invariant.leaves.up c.update_after.ensures.same c.update_after.ensures.kept)) tt

pub returns-clause-open : goal.returns-clause-open
returns-clause-open g c = (subst (λ (v : Store). KeepsOpen c.args.t c.args.store.now v) (sym c.in_ok-x.ensures.same.0) c.loop-x.invariant.stays)

pub returns-clause-nothing : goal.returns-clause-nothing
returns-clause-nothing g c =
    let none : c.in_ok-x.field-0 ≡ None = search in
    let left = on_up (node_at c.loop-x.store.nodes c.args.t.node.0) _ (λ d seats. (u : OpenTxn) → txn_in seats c.args.t.seat ≡ Some u → u.left ≡ 0) (c.in_ok-x.ensures.left refl) (λ d seats all u is. subst (λ o. MatchOption o (u.left ≡ 0) (λ found. 1 ≤ u.left)) none (all u is)) in
    subst (λ (v : Store). OnUp (node_at v.nodes c.args.t.node.0) (λ d seats. (u : OpenTxn) → txn_in seats c.args.t.seat ≡ Some u → u.left ≡ 0)) (sym c.in_ok-x.ensures.same.0) left

pub returns-clause-shows : goal.returns-clause-shows
returns-clause-shows g c = λ told m held shown.
    let was = c.loop-x.invariant.shows told m held shown in
    let k : Machine = was.now in
    let none : c.in_ok-x.field-0 ≡ None = search in
    let nothing : newest_of k c.args.t ≡ None = subst (λ o. MatchOption o (newest_of k c.args.t ≡ None) (λ v. (d : Deed) × (w : Write) × (newest_of k c.args.t ≡ Some d) × (d.write ≡ Some w) × (w.page ≡ v.1.0))) none (c.in_ok-x.ensures.newest refl told k was.shown) in
    let done = all_back m c.args.t (IsShown c.loop-x.store (g.D.Disk.state c.loop-x.disk).block) was nothing in
    subst (λ (v : Store). IsShown v (g.D.Disk.state c.update_after.new.disk).block (dos (backs m c.args.t) m)) (sym c.in_ok-x.ensures.same.0) (subst (λ b. IsShown c.loop-x.store b (dos (backs m c.args.t) m)) (sym (c.in_ok-x.ensures.same.1 told)) done)
