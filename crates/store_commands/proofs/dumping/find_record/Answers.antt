use Rattle.std.specs.Prelude.{true, Option, Some, Ok, Err, IsTrue}
use Rattle.std.proofs.Common.{arith, ap, subst, sym, ◌∙◌}
use Rattle.record_locks.specs.Held.{least_where}
use Rattle.record_machine.specs.Machine.{Machine}
use Rattle.record_machine.specs.Parts.{dos}
use Rattle.record_machine.specs.Steps.{take_all}
use Rattle.store_nodes.specs.Shows.{IsShown}
use Rattle.store_nodes.specs.Ports.{UnlessStop}
use Rattle.store_commands.specs.declared.dumping.Row.{Row}
use Rattle.store_commands.specs.Dumps.{DumpsOn, IsFirstRecord, IsFoundInGroup, TakesOf, group_end}
use Rattle.store_commands.proofs.DumpSteps.{dumps_done, dumps_pass, dumps_then, of_ok, row_step, value_then}
use Rattle.store_commands.proofs.DumpTakes.{takes_behind, takes_done, takes_pass}
use Rattle.store_commands.proofs.FoundRows.{first_before, mode_up, record_behind}
use Rattle.store_commands.proofs.TakeSteps.{some_then}
use Rattle.store_commands.proofs.Stopping.{unless_ok}
use Rattle.store_commands.proofs.Testing.{the_error}
use Rattle.store_commands.proofs.dumping.find_record.Given as given
use Rattle.store_commands.proofs.dumping.find_record.Goals as goal

-- ---- from the first key of a group on

pub returns-then-first-eq0-clause-works : goal.returns-then-first-eq0-clause-works
returns-then-first-eq0-clause-works g c = c.find_onward.ensures.takes.works

pub returns-then-first-eq0-clause-writes : goal.returns-then-first-eq0-clause-writes
returns-then-first-eq0-clause-writes g c = c.find_onward.ensures.takes.writes

pub returns-then-first-eq0-clause-vault_outcomes : goal.returns-then-first-eq0-clause-vault_outcomes
returns-then-first-eq0-clause-vault_outcomes g c = c.find_onward.ensures.takes.vault_outcomes

pub returns-then-first-eq0-clause-cause : goal.returns-then-first-eq0-clause-cause
returns-then-first-eq0-clause-cause g c = c.find_onward.ensures.takes.cause

pub returns-then-first-eq0-clause-fault : goal.returns-then-first-eq0-clause-fault
returns-then-first-eq0-clause-fault g c = c.find_onward.ensures.takes.fault

pub returns-then-first-eq0-clause-told : goal.returns-then-first-eq0-clause-told
returns-then-first-eq0-clause-told g c = c.find_onward.ensures.takes.told

pub returns-then-first-eq0-clause-down : goal.returns-then-first-eq0-clause-down
returns-then-first-eq0-clause-down g c = c.find_onward.ensures.takes.down

pub returns-then-first-eq0-clause-up : goal.returns-then-first-eq0-clause-up
returns-then-first-eq0-clause-up g c = c.find_onward.ensures.takes.up

pub returns-then-first-eq0-clause-work : goal.returns-then-first-eq0-clause-work
returns-then-first-eq0-clause-work g c = c.find_onward.ensures.takes.work

pub returns-then-first-eq0-clause-read : goal.returns-then-first-eq0-clause-read
returns-then-first-eq0-clause-read g c =
    value_then c.find_onward.result _ _ c.find_onward.ensures.read (λ found read. some_then found _ _ read (λ r is. (omega (arith, is.0, c.if-first-eq0.true), is.1)))

pub returns-then-first-eq0-clause-step : goal.returns-then-first-eq0-clause-step
returns-then-first-eq0-clause-step g c = λ told m shown.
    let S : Machine → Type 0 = IsShown c.find_onward.new.store (g.D.Disk.state c.find_onward.new.disk).block in
    row_step m c.args.n c.args.first c.find_onward.result S (subst (λ k. UnlessStop c.find_onward.result (DumpsOn m c.args.n c.find_onward.result S (IsFirstRecord m k))) (omega (arith, c.if-first-eq0.true)) (c.find_onward.ensures.step told m shown))

-- ---- in the group of the key: its page couldn't be taken

err_takes : (g : given.Over) (c : goal.After-from_residual g) → TakesOf c.args.n.0 c.from_residual.result (IsTrue g.D.Disk.told) (IsTrue g.V.Disk.told) c.args.store.now c.find_in_group.new.store (g.D.Disk.state c.args.disk.now) (g.D.Disk.state c.find_in_group.new.disk) (g.V.Disk.state c.args.vault.now) (g.V.Disk.state c.find_in_group.new.vault)
err_takes g c =
    let e = the_error c.from_residual.result _ c.from_residual.ensures.1 in
    takes_pass c.args.n.0 c.find_in_group.result c.from_residual.result e.0 (IsTrue g.D.Disk.told) (IsTrue g.V.Disk.told) c.args.store.now c.find_in_group.new.store (g.D.Disk.state c.args.disk.now) (g.D.Disk.state c.find_in_group.new.disk) (g.V.Disk.state c.args.vault.now) (g.V.Disk.state c.find_in_group.new.vault) (c.in_err-row.was ∙ ap Err (sym e.2)) e.1 c.find_in_group.ensures.takes

pub returns-in_err-row-clause-works : goal.returns-in_err-row-clause-works
returns-in_err-row-clause-works g c = (err_takes g c).works

pub returns-in_err-row-clause-writes : goal.returns-in_err-row-clause-writes
returns-in_err-row-clause-writes g c = (err_takes g c).writes

pub returns-in_err-row-clause-vault_outcomes : goal.returns-in_err-row-clause-vault_outcomes
returns-in_err-row-clause-vault_outcomes g c = (err_takes g c).vault_outcomes

pub returns-in_err-row-clause-cause : goal.returns-in_err-row-clause-cause
returns-in_err-row-clause-cause g c = (err_takes g c).cause

pub returns-in_err-row-clause-fault : goal.returns-in_err-row-clause-fault
returns-in_err-row-clause-fault g c = (err_takes g c).fault

pub returns-in_err-row-clause-told : goal.returns-in_err-row-clause-told
returns-in_err-row-clause-told g c = (err_takes g c).told

pub returns-in_err-row-clause-down : goal.returns-in_err-row-clause-down
returns-in_err-row-clause-down g c = (err_takes g c).down

pub returns-in_err-row-clause-up : goal.returns-in_err-row-clause-up
returns-in_err-row-clause-up g c = (err_takes g c).up

pub returns-in_err-row-clause-work : goal.returns-in_err-row-clause-work
returns-in_err-row-clause-work g c = (err_takes g c).work

pub returns-in_err-row-clause-step : goal.returns-in_err-row-clause-step
returns-in_err-row-clause-step g c = λ told m shown.
    let e = the_error c.from_residual.result _ c.from_residual.ensures.1 in
    let S : Machine → Type 0 = IsShown c.find_in_group.new.store (g.D.Disk.state c.find_in_group.new.disk).block in
    row_step m c.args.n c.args.first c.from_residual.result S (dumps_pass m c.args.n c.find_in_group.result c.from_residual.result e.0 S (IsFoundInGroup m c.args.first) (IsFirstRecord m c.args.first) (c.in_err-row.was ∙ ap Err (sym e.2)) e.1 (c.find_in_group.ensures.step told m shown))

-- ---- the record is there

some_takes : (g : given.Over) (c : goal.In-Some g) → TakesOf {T = Option Row} c.args.n.0 (Ok (Some c.in-Some.row)) (IsTrue g.D.Disk.told) (IsTrue g.V.Disk.told) c.args.store.now c.find_in_group.new.store (g.D.Disk.state c.args.disk.now) (g.D.Disk.state c.find_in_group.new.disk) (g.V.Disk.state c.args.vault.now) (g.V.Disk.state c.find_in_group.new.vault)
some_takes g c = takes_done c.args.n.0 c.find_in_group.result c.in_ok-row.field-0 (Some c.in-Some.row) (IsTrue g.D.Disk.told) (IsTrue g.V.Disk.told) c.args.store.now c.find_in_group.new.store (g.D.Disk.state c.args.disk.now) (g.D.Disk.state c.find_in_group.new.disk) (g.V.Disk.state c.args.vault.now) (g.V.Disk.state c.find_in_group.new.vault) c.in_ok-row.was c.find_in_group.ensures.takes

pub returns-in-Some-clause-works : goal.returns-in-Some-clause-works
returns-in-Some-clause-works g c = (some_takes g c).works

pub returns-in-Some-clause-writes : goal.returns-in-Some-clause-writes
returns-in-Some-clause-writes g c = (some_takes g c).writes

pub returns-in-Some-clause-vault_outcomes : goal.returns-in-Some-clause-vault_outcomes
returns-in-Some-clause-vault_outcomes g c = (some_takes g c).vault_outcomes

pub returns-in-Some-clause-cause : goal.returns-in-Some-clause-cause
returns-in-Some-clause-cause g c = (some_takes g c).cause

pub returns-in-Some-clause-fault : goal.returns-in-Some-clause-fault
returns-in-Some-clause-fault g c = (some_takes g c).fault

pub returns-in-Some-clause-told : goal.returns-in-Some-clause-told
returns-in-Some-clause-told g c = (some_takes g c).told

pub returns-in-Some-clause-down : goal.returns-in-Some-clause-down
returns-in-Some-clause-down g c = (some_takes g c).down

pub returns-in-Some-clause-up : goal.returns-in-Some-clause-up
returns-in-Some-clause-up g c = (some_takes g c).up

pub returns-in-Some-clause-work : goal.returns-in-Some-clause-work
returns-in-Some-clause-work g c = (some_takes g c).work

pub returns-in-Some-clause-step : goal.returns-in-Some-clause-step
returns-in-Some-clause-step g c = λ told m shown.
    let S : Machine → Type 0 = IsShown c.find_in_group.new.store (g.D.Disk.state c.find_in_group.new.disk).block in
    let found = dumps_done m c.args.n c.find_in_group.result c.in_ok-row.field-0 S (IsFoundInGroup m c.args.first) c.in_ok-row.was (c.find_in_group.ensures.step told m shown) in
    (subst (IsFoundInGroup m c.args.first) c.in-Some.is found.0, found.1)

-- ---- or behind it

pub find_onward-requires-in-None-clause-up : goal.find_onward-requires-in-None-clause-up
find_onward-requires-in-None-clause-up g c = of_ok c.find_in_group.result c.in_ok-row.field-0 c.in_ok-row.was c.find_in_group.ensures.takes.up

pub find_onward-requires-in-None-clause-free : goal.find_onward-requires-in-None-clause-free
find_onward-requires-in-None-clause-free g c = ap (least_where (λ l mode. true)) (unless_ok c.find_in_group.result c.in_ok-row.field-0 c.in_ok-row.was c.find_in_group.ensures.takes.work).locks ∙ c.requires.free

pub find_onward-requires-in-None-clause-ready : goal.find_onward-requires-in-None-clause-ready
find_onward-requires-in-None-clause-ready g c = c.find_in_group.ensures.takes.works.ready

pub find_onward-requires-in-None-clause-quiet : goal.find_onward-requires-in-None-clause-quiet
find_onward-requires-in-None-clause-quiet g c = λ told. (c.find_in_group.ensures.takes.writes told).quiet

none_takes : (g : given.Over) (c : goal.After-find_onward-in-None g) → TakesOf c.args.n.0 c.find_onward-in-None.result (IsTrue g.D.Disk.told) (IsTrue g.V.Disk.told) c.args.store.now c.find_onward-in-None.new.store (g.D.Disk.state c.args.disk.now) (g.D.Disk.state c.find_onward-in-None.new.disk) (g.V.Disk.state c.args.vault.now) (g.V.Disk.state c.find_onward-in-None.new.vault)
none_takes g c =
    takes_behind c.args.n.0 c.in_ok-row.field-0 c.find_onward-in-None.result (IsTrue g.D.Disk.told) (IsTrue g.V.Disk.told) c.args.store.now c.find_in_group.new.store c.find_onward-in-None.new.store (g.D.Disk.state c.args.disk.now) (g.D.Disk.state c.find_in_group.new.disk) (g.D.Disk.state c.find_onward-in-None.new.disk) (g.V.Disk.state c.args.vault.now) (g.V.Disk.state c.find_in_group.new.vault) (g.V.Disk.state c.find_onward-in-None.new.vault)
    (takes_done c.args.n.0 c.find_in_group.result c.in_ok-row.field-0 c.in_ok-row.field-0 (IsTrue g.D.Disk.told) (IsTrue g.V.Disk.told) c.args.store.now c.find_in_group.new.store (g.D.Disk.state c.args.disk.now) (g.D.Disk.state c.find_in_group.new.disk) (g.V.Disk.state c.args.vault.now) (g.V.Disk.state c.find_in_group.new.vault) c.in_ok-row.was c.find_in_group.ensures.takes) c.find_onward-in-None.ensures.takes

pub returns-in-None-clause-works : goal.returns-in-None-clause-works
returns-in-None-clause-works g c = (none_takes g c).works

pub returns-in-None-clause-writes : goal.returns-in-None-clause-writes
returns-in-None-clause-writes g c = (none_takes g c).writes

pub returns-in-None-clause-vault_outcomes : goal.returns-in-None-clause-vault_outcomes
returns-in-None-clause-vault_outcomes g c = (none_takes g c).vault_outcomes

pub returns-in-None-clause-cause : goal.returns-in-None-clause-cause
returns-in-None-clause-cause g c = (none_takes g c).cause

pub returns-in-None-clause-fault : goal.returns-in-None-clause-fault
returns-in-None-clause-fault g c = (none_takes g c).fault

pub returns-in-None-clause-told : goal.returns-in-None-clause-told
returns-in-None-clause-told g c = (none_takes g c).told

pub returns-in-None-clause-down : goal.returns-in-None-clause-down
returns-in-None-clause-down g c = (none_takes g c).down

pub returns-in-None-clause-up : goal.returns-in-None-clause-up
returns-in-None-clause-up g c = (none_takes g c).up

pub returns-in-None-clause-work : goal.returns-in-None-clause-work
returns-in-None-clause-work g c = (none_takes g c).work

pub returns-in-None-clause-read : goal.returns-in-None-clause-read
returns-in-None-clause-read g c =
    value_then c.find_onward-in-None.result _ _ c.find_onward-in-None.ensures.read (λ found read. some_then found _ _ read (λ r is. (omega (arith, is.0), is.1)))

pub returns-in-None-clause-step : goal.returns-in-None-clause-step
returns-in-None-clause-step g c = λ told m shown.
    let S : Machine → Type 0 = IsShown c.find_in_group.new.store (g.D.Disk.state c.find_in_group.new.disk).block in
    let R : Machine → Type 0 = IsShown c.find_onward-in-None.new.store (g.D.Disk.state c.find_onward-in-None.new.disk).block in
    let end = group_end c.args.first in
    let before = dumps_done m c.args.n c.find_in_group.result c.in_ok-row.field-0 S (IsFoundInGroup m c.args.first) c.in_ok-row.was (c.find_in_group.ensures.step told m shown) in
    let none = subst (IsFoundInGroup m c.args.first) c.in-None.is before.0 in
    row_step m c.args.n c.args.first c.find_onward-in-None.result R
    (dumps_then m c.args.n c.find_onward-in-None.result S R _ (IsFirstRecord m c.args.first) (mode_up c.args.store.now c.args.n.0 (g.D.Disk.state c.args.disk.now).block m c.requires.ready.is c.requires.node c.requires.up shown) before.1
    (λ found is. record_behind m c.args.first end found (omega arith) none (first_before c.args.n.0 before.1.pages m end found is)) (c.find_onward-in-None.ensures.step told (dos (take_all c.args.n.0 before.1.pages) m) before.1.after))
