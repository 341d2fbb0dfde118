use Rattle.std.specs.Prelude.{◌≡◌, ◌⊎◌, ◌∷◌, [], ℕ, Some, Err, true, false, refl}
use Rattle.std.proofs.Common.{ap, inl, inr, sym, ◌∙◌}
use Rattle.sd_base.specs.Places.{slot_of_key}
use Rattle.compensation.specs.Inverse.{content}
use Rattle.script_text.specs.declared.reply.Reply.{Reply}
use Rattle.record_machine.specs.Commands.{at_limit, first_of}
use Rattle.record_machine.specs.Commands as wants
use Rattle.record_machine.specs.Machine.{Machine, home, seen}
use Rattle.store_nodes.specs.declared.node.Node.TheVariants.{Down}
use Rattle.store_nodes.specs.Known.{checked}
use Rattle.store_nodes.specs.Nodes.{node_at}
use Rattle.store_nodes.specs.Ports.{HasCause, IsStopReply, says_stop}
use Rattle.store_nodes.specs.Shows.{IsShown}
use Rattle.store_commands.specs.Changing.{length_refusal}
use Rattle.store_commands.specs.Reasons.{IsWriteRefusal}
use Rattle.store_commands.proofs.Causes.{down_of, not_stopped, refusal_cause, refusal_runs}
use Rattle.store_commands.proofs.Fits.{fits, page_fits}
use Rattle.store_commands.proofs.Refusals.{write_refused}
use Rattle.store_commands.proofs.Testing.{error_then, failed, of_done, passed_on, the_error, was_done}
use Rattle.store_commands.proofs.Unchanged.{stops, works_same, writes_same}
use Rattle.store_commands.proofs.WriteTests.{tested_there}
use Rattle.store_commands.proofs.putting.write_there.Given as given
use Rattle.store_commands.proofs.putting.write_there.Goals as goal

-- what the machine tests is what was tested
tested_err : (g : given.Over) (c : goal.After-from_residual g) (m : Machine) → home m c.args.key.0 ≡ Some c.args.x.0 → IsShown c.args.store.now (g.D.Disk.state c.args.disk.now).block m
    → checked (first_of (at_limit m c.args.x.0 ∷ length_refusal c.args.what.now (seen m c.args.t c.args.key.0) ∷ wants.no_room m c.args.t.node 2 ∷ [])) ≡ c.check_change.result
tested_err g c m here shown =
    let there = c.check_change.ensures.there in
    tested_there c.args.store.now (g.D.Disk.state c.args.disk.now).block m c.args.t c.requires.ready.is c.requires.node c.requires.up shown c.args.key c.args.what.now c.args.x there.0 c.requires.lock here c.requires.place.0 c.requires.place.1 there.1
    ∙ sym (c.check_change.ensures.tests there.0 there.1)

tested_ok : (g : given.Over) (c : goal.After-write g) (m : Machine) → home m c.args.key.0 ≡ Some c.args.x.0 → IsShown c.args.store.now (g.D.Disk.state c.args.disk.now).block m
    → checked (first_of (at_limit m c.args.x.0 ∷ length_refusal c.args.what.now (seen m c.args.t c.args.key.0) ∷ wants.no_room m c.args.t.node 2 ∷ [])) ≡ c.check_change.result
tested_ok g c m here shown =
    let there = c.check_change.ensures.there in
    tested_there c.args.store.now (g.D.Disk.state c.args.disk.now).block m c.args.t c.requires.ready.is c.requires.node c.requires.up shown c.args.key c.args.what.now c.args.x there.0 c.requires.lock here c.requires.place.0 c.requires.place.1 there.1
    ∙ sym (c.check_change.ensures.tests there.0 there.1)

-- the record is changed in a page that takes the change, where the log has room for it
pub write-requires-clause-page : goal.write-requires-clause-page
write-requires-clause-page g c =
    let there = c.check_change.ensures.there in
    let passed = page_fits c.args.store.now c.args.t.node c.args.x there.0 2 (length_refusal c.args.what.now (content there.0 (slot_of_key c.args.key.0))) (sym (c.check_change.ensures.tests there.0 there.1) ∙ c.in_ok-check_change.was) in
    (there.0, there.1, passed.0, fits there.0 (slot_of_key c.args.key.0) c.args.what.now (c.requires.suits there.0 there.1) passed.1)

pub write-requires-clause-room : goal.write-requires-clause-room
write-requires-clause-room g c =
    let there = c.check_change.ensures.there in
    (page_fits c.args.store.now c.args.t.node c.args.x there.0 2 (length_refusal c.args.what.now (content there.0 (slot_of_key c.args.key.0))) (sym (c.check_change.ensures.tests there.0 there.1) ∙ c.in_ok-check_change.was)).2

-- ---- what it is refused for

pub returns-in_err-check_change-clause-works : goal.returns-in_err-check_change-clause-works
returns-in_err-check_change-clause-works g c = works_same c.args.t.node.0 c.args.store.now (g.D.Disk.state c.args.disk.now) (g.V.Disk.state c.args.vault.now) c.requires.ready

pub returns-in_err-check_change-clause-writes : goal.returns-in_err-check_change-clause-writes
returns-in_err-check_change-clause-writes g c = λ told. writes_same c.args.t.node.0 c.args.store.now (g.D.Disk.state c.args.disk.now).block (c.requires.quiet told)

pub returns-in_err-check_change-clause-step : goal.returns-in_err-check_change-clause-step
returns-in_err-check_change-clause-step g c = λ told runs m here shown.
    let e = the_error c.from_residual.result _ c.from_residual.ensures.1 in
    failed _ (first_of (at_limit m c.args.x.0 ∷ length_refusal c.args.what.now (seen m c.args.t c.args.key.0) ∷ wants.no_room m c.args.t.node 2 ∷ [])) c.from_residual.result e.0 (tested_err g c m here shown ∙ c.in_err-check_change.was ∙ ap Err (sym e.2)) e.1 shown

-- it says no stop
runs : (g : given.Over) (c : goal.After-from_residual g) (why : Reply) → why ≡ c.in_err-check_change.field-0.0 → says_stop why ≡ false
runs g c why same =
    let there = c.check_change.ensures.there in
    refusal_runs c.args.store.now c.args.t.node c.args.x there.0.ident 2 c.args.what.now (content there.0 (slot_of_key c.args.key.0)) why (sym (c.check_change.ensures.tests there.0 there.1) ∙ c.in_err-check_change.was ∙ ap Err (sym same))

pub returns-in_err-check_change-clause-cause : goal.returns-in_err-check_change-clause-cause
returns-in_err-check_change-clause-cause g c =
    let there = c.check_change.ensures.there in
    passed_on c.from_residual.result _ (λ why. HasCause why (g.D.Disk.state c.args.disk.now) (g.D.Disk.state c.args.disk.now)) c.from_residual.ensures.1
    (λ why same. refusal_cause c.args.store.now c.args.t.node c.args.x there.0.ident 2 c.args.what.now (content there.0 (slot_of_key c.args.key.0)) why _ _ (sym (c.check_change.ensures.tests there.0 there.1) ∙ c.in_err-check_change.was ∙ ap Err (sym same)))

pub returns-in_err-check_change-clause-down : goal.returns-in_err-check_change-clause-down
returns-in_err-check_change-clause-down g c =
    passed_on c.from_residual.result _ (λ why. (h : ℕ) → IsStopReply h why → (h ≡ c.args.t.node.0) × (node_at c.args.store.now.nodes h ≡ Down)) c.from_residual.ensures.1
    (λ why same h stopped. let never : true ≡ false = sym (stops h why stopped) ∙ runs g c why same in absurd cc)

pub returns-clause-down : goal.returns-clause-down
returns-clause-down g c = down_of c.args.t.node.0 c.write.new.store.nodes c.write.result c.write.ensures.stopped c.write.ensures.down

pub returns-in_err-check_change-clause-refused : goal.returns-in_err-check_change-clause-refused
returns-in_err-check_change-clause-refused g c = λ page.
    let there = c.check_change.ensures.there in
    passed_on c.from_residual.result _ (λ why. IsStopReply c.args.t.node.0 why ⊎ IsWriteRefusal c.args.store.now c.args.t.node.0 c.args.key c.args.what.now why) c.from_residual.ensures.1
    (λ why same. inr (write_refused c.args.store.now c.args.t.node c.args.key c.args.what.now c.args.x there.0 2 why page there.1 (inl refl) (sym (c.check_change.ensures.tests there.0 there.1) ∙ c.in_err-check_change.was ∙ ap Err (sym same))))

-- ---- where it passed its tests

pub returns-clause-step : goal.returns-clause-step
returns-clause-step g c = λ told runs m here shown.
    let done = not_stopped c.args.t.node.0 c.write.result c.write.ensures.stopped runs in
    was_done _ (first_of (at_limit m c.args.x.0 ∷ length_refusal c.args.what.now (seen m c.args.t c.args.key.0) ∷ wants.no_room m c.args.t.node 2 ∷ [])) c.write.result (tested_ok g c m here shown ∙ c.in_ok-check_change.was) done (of_done c.write.result done c.write.ensures.shows told m here shown)

pub returns-clause-memory : goal.returns-clause-memory
returns-clause-memory g c = λ room. let same = c.write.ensures.memory room in (same.1, same.2)

pub returns-clause-refused : goal.returns-clause-refused
returns-clause-refused g c = λ page. error_then c.write.result (IsStopReply c.args.t.node.0) (λ why. IsStopReply c.args.t.node.0 why ⊎ IsWriteRefusal c.write.new.store c.args.t.node.0 c.args.key c.args.what.now why) c.write.ensures.stopped (λ why stops. inl stops)
