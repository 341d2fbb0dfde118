use Rattle.std.specs.Prelude.{true, Ok, Err, IsTrue}
use Rattle.std.proofs.Common.{ap, subst, sym, ◌∙◌}
use Rattle.sd_base.specs.Places.{first_key}
use Rattle.record_locks.specs.Held.{least_where}
use Rattle.record_machine.specs.Machine.{Machine}
use Rattle.record_machine.specs.Parts.{dos}
use Rattle.record_machine.specs.Rows.{HasNoneIn}
use Rattle.record_machine.specs.Steps.{take_all}
use Rattle.store_nodes.specs.Shows.{IsShown}
use Rattle.store_commands.specs.declared.dumping.Found.TheVariants.{Record, NoneBelow}
use Rattle.store_commands.specs.Dumps.{IsFoundInGroup}
use Rattle.store_commands.proofs.DumpSteps.{dumps_done, dumps_pass, dumps_then, of_ok}
use Rattle.store_commands.proofs.DumpTakes.{takes_behind, takes_done, takes_pass}
use Rattle.store_commands.proofs.FoundRows.{found_there, group_before, mode_up, none_before, none_there}
use Rattle.store_commands.proofs.Stopping.{unless_ok}
use Rattle.store_commands.proofs.Testing.{the_error}
use Rattle.store_commands.proofs.dumping.find_from.Goals as goal

pub find_in_group-requires-clause-up : goal.find_in_group-requires-clause-up
find_in_group-requires-clause-up g c = of_ok c.find_group.result c.in_ok-group.group c.in_ok-group.was c.find_group.ensures.takes.up

pub find_in_group-requires-clause-free : goal.find_in_group-requires-clause-free
find_in_group-requires-clause-free g c = ap (least_where (λ l mode. true)) (unless_ok c.find_group.result c.in_ok-group.group c.in_ok-group.was c.find_group.ensures.takes.work).locks ∙ c.requires.free

pub find_in_group-requires-clause-ready : goal.find_in_group-requires-clause-ready
find_in_group-requires-clause-ready g c = c.find_group.ensures.takes.works.ready

pub find_in_group-requires-clause-quiet : goal.find_in_group-requires-clause-quiet
find_in_group-requires-clause-quiet g c = λ told. (c.find_group.ensures.takes.writes told).quiet

-- ---- no group was found

pub returns-in_err-group-clause-takes : goal.returns-in_err-group-clause-takes
returns-in_err-group-clause-takes g c =
    let e = the_error c.from_residual.result _ c.from_residual.ensures.1 in
    takes_pass c.args.n.0 c.find_group.result c.from_residual.result e.0 (IsTrue g.D.Disk.told) (IsTrue g.V.Disk.told) c.args.store.now c.find_group.new.store (g.D.Disk.state c.args.disk.now) (g.D.Disk.state c.find_group.new.disk) (g.V.Disk.state c.args.vault.now) (g.V.Disk.state c.find_group.new.vault) (c.in_err-group.was ∙ ap Err (sym e.2)) e.1 c.find_group.ensures.takes

pub returns-in_err-group-clause-step : goal.returns-in_err-group-clause-step
returns-in_err-group-clause-step g c = λ told m shown.
    let e = the_error c.from_residual.result _ c.from_residual.ensures.1 in
    let S : Machine → Type 0 = IsShown c.find_group.new.store (g.D.Disk.state c.find_group.new.disk).block in
    dumps_pass m c.args.n c.find_group.result c.from_residual.result e.0 S _ _ (c.in_err-group.was ∙ ap Err (sym e.2)) e.1 (c.find_group.ensures.step told m shown)

pub returns-then-group-eq-GROUPS-clause-takes : goal.returns-then-group-eq-GROUPS-clause-takes
returns-then-group-eq-GROUPS-clause-takes g c =
    takes_done c.args.n.0 c.find_group.result c.in_ok-group.group (NoneBelow _) (IsTrue g.D.Disk.told) (IsTrue g.V.Disk.told) c.args.store.now c.find_group.new.store (g.D.Disk.state c.args.disk.now) (g.D.Disk.state c.find_group.new.disk) (g.V.Disk.state c.args.vault.now) (g.V.Disk.state c.find_group.new.vault) c.in_ok-group.was c.find_group.ensures.takes

pub returns-then-group-eq-GROUPS-clause-step : goal.returns-then-group-eq-GROUPS-clause-step
returns-then-group-eq-GROUPS-clause-step g c = λ told m shown.
    let S : Machine → Type 0 = IsShown c.find_group.new.store (g.D.Disk.state c.find_group.new.disk).block in
    let before = dumps_done m c.args.n c.find_group.result c.in_ok-group.group S _ c.in_ok-group.was (c.find_group.ensures.step told m shown) in
    (subst (λ k. HasNoneIn m (first_key c.args.first) (first_key k)) c.if-group-eq-GROUPS.true (none_before c.args.store.now (g.D.Disk.state c.args.disk.now).block m shown c.args.first c.in_ok-group.group before.0), before.1)

-- ---- its page couldn't be taken

pub returns-in_err-row-clause-takes : goal.returns-in_err-row-clause-takes
returns-in_err-row-clause-takes g c =
    let e = the_error c.from_residual-in_err-row.result _ c.from_residual-in_err-row.ensures.1 in
    takes_behind c.args.n.0 c.in_ok-group.group c.from_residual-in_err-row.result (IsTrue g.D.Disk.told) (IsTrue g.V.Disk.told) c.args.store.now c.find_group.new.store c.find_in_group.new.store (g.D.Disk.state c.args.disk.now) (g.D.Disk.state c.find_group.new.disk) (g.D.Disk.state c.find_in_group.new.disk) (g.V.Disk.state c.args.vault.now) (g.V.Disk.state c.find_group.new.vault) (g.V.Disk.state c.find_in_group.new.vault)
    (takes_done c.args.n.0 c.find_group.result c.in_ok-group.group c.in_ok-group.group (IsTrue g.D.Disk.told) (IsTrue g.V.Disk.told) c.args.store.now c.find_group.new.store (g.D.Disk.state c.args.disk.now) (g.D.Disk.state c.find_group.new.disk) (g.V.Disk.state c.args.vault.now) (g.V.Disk.state c.find_group.new.vault) c.in_ok-group.was c.find_group.ensures.takes)
    (takes_pass c.args.n.0 c.find_in_group.result c.from_residual-in_err-row.result e.0 (IsTrue g.D.Disk.told) (IsTrue g.V.Disk.told) c.find_group.new.store c.find_in_group.new.store (g.D.Disk.state c.find_group.new.disk) (g.D.Disk.state c.find_in_group.new.disk) (g.V.Disk.state c.find_group.new.vault) (g.V.Disk.state c.find_in_group.new.vault) (c.in_err-row.was ∙ ap Err (sym e.2)) e.1 c.find_in_group.ensures.takes)

pub returns-in_err-row-clause-step : goal.returns-in_err-row-clause-step
returns-in_err-row-clause-step g c = λ told m shown.
    let e = the_error c.from_residual-in_err-row.result _ c.from_residual-in_err-row.ensures.1 in
    let S : Machine → Type 0 = IsShown c.find_group.new.store (g.D.Disk.state c.find_group.new.disk).block in
    let R : Machine → Type 0 = IsShown c.find_in_group.new.store (g.D.Disk.state c.find_in_group.new.disk).block in
    let before = dumps_done m c.args.n c.find_group.result c.in_ok-group.group S _ c.in_ok-group.was (c.find_group.ensures.step told m shown) in
    dumps_pass m c.args.n c.find_in_group.result c.from_residual-in_err-row.result e.0 R (IsFoundInGroup m c.first_key.result) _ (c.in_err-row.was ∙ ap Err (sym e.2)) e.1
    (dumps_then m c.args.n c.find_in_group.result S R _ (IsFoundInGroup m c.first_key.result) (mode_up c.args.store.now c.args.n.0 (g.D.Disk.state c.args.disk.now).block m c.requires.ready.is c.requires.node c.requires.up shown) before.1
    (λ found is. group_before c.args.n.0 before.1.pages m c.first_key.result found is) (c.find_in_group.ensures.step told (dos (take_all c.args.n.0 before.1.pages) m) before.1.after))

-- ---- a record was found in it, or none

pub returns-in-Some-clause-takes : goal.returns-in-Some-clause-takes
returns-in-Some-clause-takes g c =
    takes_behind c.args.n.0 c.in_ok-group.group (Ok (Record c.in-Some.row)) (IsTrue g.D.Disk.told) (IsTrue g.V.Disk.told) c.args.store.now c.find_group.new.store c.find_in_group.new.store (g.D.Disk.state c.args.disk.now) (g.D.Disk.state c.find_group.new.disk) (g.D.Disk.state c.find_in_group.new.disk) (g.V.Disk.state c.args.vault.now) (g.V.Disk.state c.find_group.new.vault) (g.V.Disk.state c.find_in_group.new.vault)
    (takes_done c.args.n.0 c.find_group.result c.in_ok-group.group c.in_ok-group.group (IsTrue g.D.Disk.told) (IsTrue g.V.Disk.told) c.args.store.now c.find_group.new.store (g.D.Disk.state c.args.disk.now) (g.D.Disk.state c.find_group.new.disk) (g.V.Disk.state c.args.vault.now) (g.V.Disk.state c.find_group.new.vault) c.in_ok-group.was c.find_group.ensures.takes)
    (takes_done c.args.n.0 c.find_in_group.result c.in_ok-row.field-0 (Record c.in-Some.row) (IsTrue g.D.Disk.told) (IsTrue g.V.Disk.told) c.find_group.new.store c.find_in_group.new.store (g.D.Disk.state c.find_group.new.disk) (g.D.Disk.state c.find_in_group.new.disk) (g.V.Disk.state c.find_group.new.vault) (g.V.Disk.state c.find_in_group.new.vault) c.in_ok-row.was c.find_in_group.ensures.takes)

pub returns-in-Some-clause-step : goal.returns-in-Some-clause-step
returns-in-Some-clause-step g c = λ told m shown.
    let group = c.in_ok-group.group in
    let S : Machine → Type 0 = IsShown c.find_group.new.store (g.D.Disk.state c.find_group.new.disk).block in
    let R : Machine → Type 0 = IsShown c.find_in_group.new.store (g.D.Disk.state c.find_in_group.new.disk).block in
    let before = dumps_done m c.args.n c.find_group.result c.in_ok-group.group S _ c.in_ok-group.was (c.find_group.ensures.step told m shown) in
    let found = dumps_done m c.args.n c.find_in_group.result c.in_ok-row.field-0 R (IsFoundInGroup m c.first_key.result) c.in_ok-row.was
    (dumps_then m c.args.n c.find_in_group.result S R _ (IsFoundInGroup m c.first_key.result) (mode_up c.args.store.now c.args.n.0 (g.D.Disk.state c.args.disk.now).block m c.requires.ready.is c.requires.node c.requires.up shown) before.1
    (λ found is. group_before c.args.n.0 before.1.pages m c.first_key.result found is) (c.find_in_group.ensures.step told (dos (take_all c.args.n.0 before.1.pages) m) before.1.after)) in
    let none = none_before c.args.store.now (g.D.Disk.state c.args.disk.now).block m shown c.args.first group before.0 in
    (found_there m c.args.first group c.in-Some.row c.in_ok-group.ensures.within.0 none (subst (IsFoundInGroup m (first_key group)) c.in-Some.is (subst (λ k. IsFoundInGroup m k c.in_ok-row.field-0) c.first_key.ensures found.0)), found.1)

pub returns-in-None-clause-takes : goal.returns-in-None-clause-takes
returns-in-None-clause-takes g c =
    takes_behind c.args.n.0 c.in_ok-group.group (Ok (NoneBelow _)) (IsTrue g.D.Disk.told) (IsTrue g.V.Disk.told) c.args.store.now c.find_group.new.store c.find_in_group.new.store (g.D.Disk.state c.args.disk.now) (g.D.Disk.state c.find_group.new.disk) (g.D.Disk.state c.find_in_group.new.disk) (g.V.Disk.state c.args.vault.now) (g.V.Disk.state c.find_group.new.vault) (g.V.Disk.state c.find_in_group.new.vault)
    (takes_done c.args.n.0 c.find_group.result c.in_ok-group.group c.in_ok-group.group (IsTrue g.D.Disk.told) (IsTrue g.V.Disk.told) c.args.store.now c.find_group.new.store (g.D.Disk.state c.args.disk.now) (g.D.Disk.state c.find_group.new.disk) (g.V.Disk.state c.args.vault.now) (g.V.Disk.state c.find_group.new.vault) c.in_ok-group.was c.find_group.ensures.takes)
    (takes_done c.args.n.0 c.find_in_group.result c.in_ok-row.field-0 (NoneBelow _) (IsTrue g.D.Disk.told) (IsTrue g.V.Disk.told) c.find_group.new.store c.find_in_group.new.store (g.D.Disk.state c.find_group.new.disk) (g.D.Disk.state c.find_in_group.new.disk) (g.V.Disk.state c.find_group.new.vault) (g.V.Disk.state c.find_in_group.new.vault) c.in_ok-row.was c.find_in_group.ensures.takes)

pub returns-in-None-clause-step : goal.returns-in-None-clause-step
returns-in-None-clause-step g c = λ told m shown.
    let group = c.in_ok-group.group in
    let S : Machine → Type 0 = IsShown c.find_group.new.store (g.D.Disk.state c.find_group.new.disk).block in
    let R : Machine → Type 0 = IsShown c.find_in_group.new.store (g.D.Disk.state c.find_in_group.new.disk).block in
    let before = dumps_done m c.args.n c.find_group.result c.in_ok-group.group S _ c.in_ok-group.was (c.find_group.ensures.step told m shown) in
    let found = dumps_done m c.args.n c.find_in_group.result c.in_ok-row.field-0 R (IsFoundInGroup m c.first_key.result) c.in_ok-row.was
    (dumps_then m c.args.n c.find_in_group.result S R _ (IsFoundInGroup m c.first_key.result) (mode_up c.args.store.now c.args.n.0 (g.D.Disk.state c.args.disk.now).block m c.requires.ready.is c.requires.node c.requires.up shown) before.1
    (λ found is. group_before c.args.n.0 before.1.pages m c.first_key.result found is) (c.find_in_group.ensures.step told (dos (take_all c.args.n.0 before.1.pages) m) before.1.after)) in
    let none = none_before c.args.store.now (g.D.Disk.state c.args.disk.now).block m shown c.args.first group before.0 in
    (none_there m c.args.first group none (subst (IsFoundInGroup m (first_key group)) c.in-None.is (subst (λ k. IsFoundInGroup m k c.in_ok-row.field-0) c.first_key.ensures found.0)), found.1)
