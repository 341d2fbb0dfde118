use Rattle.std.specs.Prelude.{◌∷◌, [], List, Err, IfErr, IsOk, refl}
use Rattle.std.proofs.Common.{ap, subst, sym, ◌∙◌}
use Rattle.private_log.specs.Reading.{contents}
use Rattle.record_machine.specs.Machine.{Machine}
use Rattle.record_machine.specs.Parts.{Part, Take, dos, one}
use Rattle.store_nodes.specs.Causes.{IsToldOfPages}
use Rattle.store_nodes.specs.Ports.{UnlessStop}
use Rattle.store_nodes.specs.Shows.{IsShown}
use Rattle.store_commands.specs.Aborts.{IsAbortFault}
use Rattle.store_commands.specs.Taking.{UnlessHeld}
use Rattle.store_commands.proofs.LeavesThen.{fault_behind, leaves_pass, leaves_then}
use Rattle.store_commands.proofs.ShownUp.{runs_up}
use Rattle.store_commands.proofs.Stopping.{done_on, unless_err, unless_failed, unless_ok, unless_pass, unless_then}
use Rattle.store_commands.proofs.Takings.{step_behind, step_front}
use Rattle.store_commands.proofs.Testing.{passed_on, the_error}
use Rattle.store_commands.proofs.With.{work_then}
use Rattle.store_commands.proofs.abort_pages.take_update.Goals as goal

-- ---- the map page couldn't be taken

pub returns-in_err-take_anew-clause-leaves : goal.returns-in_err-take_anew-clause-leaves
returns-in_err-take_anew-clause-leaves g c =
    let e = the_error c.from_residual.result _ c.from_residual.ensures.1 in
    leaves_pass g.D.Disk.told g.V.Disk.told c.args.n.0 c.take_anew.result c.from_residual.result e.0 c.args.store.now c.take_anew.new.store (g.D.Disk.state c.args.disk.now) (g.D.Disk.state c.take_anew.new.disk) (g.V.Disk.state c.args.vault.now) (g.V.Disk.state c.take_anew.new.vault) (c.in_err-take_anew.was ∙ ap Err (sym e.2)) e.1 c.take_anew.ensures.leaves

pub returns-in_err-take_anew-clause-work : goal.returns-in_err-take_anew-clause-work
returns-in_err-take_anew-clause-work g c =
    let e = the_error c.from_residual.result _ c.from_residual.ensures.1 in
    unless_pass _ c.take_anew.result c.from_residual.result e.0 (c.in_err-take_anew.was ∙ ap Err (sym e.2)) e.1 c.take_anew.ensures.work

pub returns-in_err-take_anew-clause-fault : goal.returns-in_err-take_anew-clause-fault
returns-in_err-take_anew-clause-fault g c =
    passed_on c.from_residual.result _ (IsAbortFault c.args.store.now c.args.n.0) c.from_residual.ensures.1
    (λ why same. subst (IsAbortFault c.args.store.now c.args.n.0) (sym same) c.in_err-take_anew.ensures.fault)

pub returns-in_err-take_anew-clause-told : goal.returns-in_err-take_anew-clause-told
returns-in_err-take_anew-clause-told g c = λ told.
    passed_on c.from_residual.result _ (IsToldOfPages c.args.store.now.shape (contents (g.D.Disk.state c.take_anew.new.disk).block)) c.from_residual.ensures.1
    (λ why same. subst (IsToldOfPages c.args.store.now.shape (contents (g.D.Disk.state c.take_anew.new.disk).block)) (sym same) (c.in_err-take_anew.ensures.told told))

pub returns-in_err-take_anew-clause-step : goal.returns-in_err-take_anew-clause-step
returns-in_err-take_anew-clause-step g c = λ told m shown.
    let e = the_error c.from_residual.result _ c.from_residual.ensures.1 in
    let fails = c.in_err-take_anew.was ∙ ap Err (sym e.2) in
    let n = c.args.n.0 in
    let x = c.args.x in
    let map = c.map_of_data-map.result in
    let S : Machine → Type 0 = IsShown c.take_anew.new.store (g.D.Disk.state c.take_anew.new.disk).block in
    unless_failed c.from_residual.result e.0 e.1 (λ runs.
    subst (λ y. UnlessHeld m (Take y.0 n ∷ Take x.0 n ∷ []) c.from_residual.result S (IsOk c.from_residual.result × S (dos (Take y.0 n ∷ Take x.0 n ∷ []) m))) c.map_of_data-map.ensures.at
    (step_front _ _ m (Take map.0 n ∷ []) (Take x.0 n ∷ []) c.take_anew.result c.from_residual.result e.0 S fails e.1 (unless_err c.take_anew.result e.0 fails runs (c.take_anew.ensures.step told m shown))))

-- ---- the page behind it

pub take_anew-requires-2-clause-quiet : goal.take_anew-requires-2-clause-quiet
take_anew-requires-2-clause-quiet g c = λ told. (c.take_anew.ensures.leaves.writes told).quiet

pub returns-clause-leaves : goal.returns-clause-leaves
returns-clause-leaves g c =
    leaves_then g.D.Disk.told g.V.Disk.told c.args.n.0 c.take_anew.result tt c.in_ok-take_anew.was c.args.store.now c.take_anew.new.store (g.D.Disk.state c.args.disk.now) (g.D.Disk.state c.take_anew.new.disk) (g.V.Disk.state c.args.vault.now) (g.V.Disk.state c.take_anew.new.vault) c.take_anew.ensures.leaves
    c.take_anew-2.result c.take_anew-2.new.store (g.D.Disk.state c.take_anew-2.new.disk) (g.V.Disk.state c.take_anew-2.new.vault) c.take_anew-2.ensures.leaves

pub returns-clause-work : goal.returns-clause-work
returns-clause-work g c =
    unless_then c.take_anew-2.result (work_then c.args.n.0 c.args.store.now c.take_anew.new.store c.take_anew-2.new.store (unless_ok c.take_anew.result tt c.in_ok-take_anew.was c.take_anew.ensures.work)) c.take_anew-2.ensures.work

pub returns-clause-fault : goal.returns-clause-fault
returns-clause-fault g c =
    fault_behind g.D.Disk.told g.V.Disk.told c.args.n.0 c.take_anew.result tt c.in_ok-take_anew.was c.args.store.now c.take_anew.new.store (g.D.Disk.state c.args.disk.now) (g.D.Disk.state c.take_anew.new.disk) (g.V.Disk.state c.args.vault.now) (g.V.Disk.state c.take_anew.new.vault) c.take_anew.ensures.leaves
    c.take_anew-2.result c.take_anew-2.ensures.fault

pub returns-clause-told : goal.returns-clause-told
returns-clause-told g c = λ told. subst (λ s. IfErr c.take_anew-2.result (IsToldOfPages s (contents (g.D.Disk.state c.take_anew-2.new.disk).block))) c.take_anew.ensures.leaves.works.shape (c.take_anew-2.ensures.told told)

pub returns-clause-step : goal.returns-clause-step
returns-clause-step g c = λ told m shown.
    let n = c.args.n.0 in
    let x = c.args.x in
    let map = c.map_of_data-map.result in
    let first : List Part = Take map.0 n ∷ [] in
    let next : List Part = Take x.0 n ∷ [] in
    let all = done_on m first c.take_anew.result tt (IsShown c.take_anew.new.store (g.D.Disk.state c.take_anew.new.disk).block) c.in_ok-take_anew.was (c.take_anew.ensures.step told m shown) in
    let S : Machine → Type 0 = IsShown c.take_anew-2.new.store (g.D.Disk.state c.take_anew-2.new.disk).block in
    let up = runs_up c.args.store.now n (g.D.Disk.state c.args.disk.now).block m c.requires.ready.is c.requires.node c.requires.up shown in
    subst (λ y. UnlessStop c.take_anew-2.result (UnlessHeld m (Take y.0 n ∷ next) c.take_anew-2.result S (IsOk c.take_anew-2.result × S (dos (Take y.0 n ∷ next) m)))) c.map_of_data-map.ensures.at
    (unless_then c.take_anew-2.result (λ step. step_behind m n first next c.take_anew-2.result S up (refl, tt) all.0 step) (c.take_anew-2.ensures.step told (one (Take map.0 n) m) all.1))
