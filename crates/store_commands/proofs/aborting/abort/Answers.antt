use Rattle.std.specs.Prelude.{◌≡◌, ◌++◌, ◌∷◌, [], ℕ, true, false, List, Result, Err, filter, length, replicate, refl}
use Rattle.std.proofs.Common.{ap, subst, sym, ◌∙◌}
use Rattle.script_text.specs.declared.command.Command.TheVariants as asks
use Rattle.record_machine.specs.Commands.{backs, parts, takes_back}
use Rattle.record_machine.specs.Machine.{Deed, Machine, is_write_in}
use Rattle.record_machine.specs.Parts.{Back, Part, Seal, Unlock, dos}
use Rattle.record_machine.proofs.Steps.{dos-then}
use Rattle.record_machine.specs.Steps.{held}
use Rattle.script_text.specs.declared.reply.Reply.{Reply}
use Rattle.store_nodes.specs.Nodes.{node_at}
use Rattle.store_nodes.specs.Ports.{SaysStopOf, says_stop}
use Rattle.store_nodes.specs.Shows.{IsShown}
use Rattle.store_commands.specs.Aborts.{IsAbortFault, IsToldOfAbort, RefusesHeld}
use Rattle.store_commands.specs.Answering.{reply_of}
use Rattle.store_commands.proofs.AbortAnswers.{answered_done, free_refuses, refused_on, sure_answers}
use Rattle.store_commands.proofs.AbortCauses.{stop_fault, stop_told}
use Rattle.store_commands.proofs.Causes.{down_of}
use Rattle.store_commands.proofs.LeavesThen.{cause_later, fault_behind, if_refused, leaves_pass, leaves_then, workers_done, works_done}
use Rattle.store_commands.proofs.SeatsLeft.{busy_up, open_kept, open_then}
use Rattle.store_commands.proofs.Stopping.{unless_failed, unless_ok, unless_pass, unless_then}
use Rattle.store_commands.proofs.TakenStill.{all_written, holds_written, taken_keeps}
use Rattle.store_commands.proofs.Testing.{error_then, on_done, passed_on, the_error}
use Rattle.store_commands.proofs.Told.{busy_kept}
use Rattle.store_commands.proofs.Unchanged.{stops}
use Rattle.store_commands.proofs.With.{works_alone, works_then, writes_alone, writes_then}
use Rattle.store_commands.proofs.aborting.abort.Goals as goal

-- ---- a page couldn't be taken

pub returns-in_err-take_pages-clause-works : goal.returns-in_err-take_pages-clause-works
returns-in_err-take_pages-clause-works g c =
    let e = the_error c.from_residual.result _ c.from_residual.ensures.1 in
    (leaves_pass g.D.Disk.told g.V.Disk.told c.args.t.node.0 c.take_pages.result c.from_residual.result e.0 c.args.store.now c.take_pages.new.store (g.D.Disk.state c.args.disk.now) (g.D.Disk.state c.take_pages.new.disk) (g.V.Disk.state c.args.vault.now) (g.V.Disk.state c.take_pages.new.vault) (c.in_err-take_pages.was ∙ ap Err (sym e.2)) e.1 c.take_pages.ensures.leaves).works

pub returns-in_err-take_pages-clause-writes : goal.returns-in_err-take_pages-clause-writes
returns-in_err-take_pages-clause-writes g c =
    let e = the_error c.from_residual.result _ c.from_residual.ensures.1 in
    (leaves_pass g.D.Disk.told g.V.Disk.told c.args.t.node.0 c.take_pages.result c.from_residual.result e.0 c.args.store.now c.take_pages.new.store (g.D.Disk.state c.args.disk.now) (g.D.Disk.state c.take_pages.new.disk) (g.V.Disk.state c.args.vault.now) (g.V.Disk.state c.take_pages.new.vault) (c.in_err-take_pages.was ∙ ap Err (sym e.2)) e.1 c.take_pages.ensures.leaves).writes

pub returns-in_err-take_pages-clause-vault_outcomes : goal.returns-in_err-take_pages-clause-vault_outcomes
returns-in_err-take_pages-clause-vault_outcomes g c =
    let e = the_error c.from_residual.result _ c.from_residual.ensures.1 in
    (leaves_pass g.D.Disk.told g.V.Disk.told c.args.t.node.0 c.take_pages.result c.from_residual.result e.0 c.args.store.now c.take_pages.new.store (g.D.Disk.state c.args.disk.now) (g.D.Disk.state c.take_pages.new.disk) (g.V.Disk.state c.args.vault.now) (g.V.Disk.state c.take_pages.new.vault) (c.in_err-take_pages.was ∙ ap Err (sym e.2)) e.1 c.take_pages.ensures.leaves).vault_outcomes

pub returns-in_err-take_pages-clause-cause : goal.returns-in_err-take_pages-clause-cause
returns-in_err-take_pages-clause-cause g c =
    let e = the_error c.from_residual.result _ c.from_residual.ensures.1 in
    (leaves_pass g.D.Disk.told g.V.Disk.told c.args.t.node.0 c.take_pages.result c.from_residual.result e.0 c.args.store.now c.take_pages.new.store (g.D.Disk.state c.args.disk.now) (g.D.Disk.state c.take_pages.new.disk) (g.V.Disk.state c.args.vault.now) (g.V.Disk.state c.take_pages.new.vault) (c.in_err-take_pages.was ∙ ap Err (sym e.2)) e.1 c.take_pages.ensures.leaves).cause

pub returns-in_err-take_pages-clause-down : goal.returns-in_err-take_pages-clause-down
returns-in_err-take_pages-clause-down g c =
    let e = the_error c.from_residual.result _ c.from_residual.ensures.1 in
    (leaves_pass g.D.Disk.told g.V.Disk.told c.args.t.node.0 c.take_pages.result c.from_residual.result e.0 c.args.store.now c.take_pages.new.store (g.D.Disk.state c.args.disk.now) (g.D.Disk.state c.take_pages.new.disk) (g.V.Disk.state c.args.vault.now) (g.V.Disk.state c.take_pages.new.vault) (c.in_err-take_pages.was ∙ ap Err (sym e.2)) e.1 c.take_pages.ensures.leaves).down

pub returns-in_err-take_pages-clause-fault : goal.returns-in_err-take_pages-clause-fault
returns-in_err-take_pages-clause-fault g c = passed_on c.from_residual.result _ (IsAbortFault c.args.store.now c.args.t.node.0) c.from_residual.ensures.1 (λ why same. subst (IsAbortFault c.args.store.now c.args.t.node.0) (sym same) c.in_err-take_pages.ensures.fault)

pub returns-in_err-take_pages-clause-told : goal.returns-in_err-take_pages-clause-told
returns-in_err-take_pages-clause-told g c = λ told. passed_on c.from_residual.result _ (IsToldOfAbort c.take_pages.new.store (g.D.Disk.state c.take_pages.new.disk).block c.args.t) c.from_residual.ensures.1 (λ why same. subst (IsToldOfAbort c.take_pages.new.store (g.D.Disk.state c.take_pages.new.disk).block c.args.t) (sym same) (c.in_err-take_pages.ensures.told told))

pub returns-in_err-take_pages-clause-open : goal.returns-in_err-take_pages-clause-open
returns-in_err-take_pages-clause-open g c =
    let e = the_error c.from_residual.result _ c.from_residual.ensures.1 in
    if_refused _ c.from_residual.result (unless_pass _ c.take_pages.result c.from_residual.result e.0 (c.in_err-take_pages.was ∙ ap Err (sym e.2)) e.1 (unless_then c.take_pages.result (λ work. open_kept c.args.store.now c.take_pages.new.store c.args.t work c.requires.busy) c.take_pages.ensures.work))

pub returns-in_err-take_pages-clause-kept : goal.returns-in_err-take_pages-clause-kept
returns-in_err-take_pages-clause-kept g c =
    let e = the_error c.from_residual.result _ c.from_residual.ensures.1 in
    if_refused _ c.from_residual.result (unless_pass _ c.take_pages.result c.from_residual.result e.0 (c.in_err-take_pages.was ∙ ap Err (sym e.2)) e.1 (unless_then c.take_pages.result (λ work told m shown. work) c.take_pages.ensures.work))

pub returns-in_err-take_pages-clause-held : goal.returns-in_err-take_pages-clause-held
returns-in_err-take_pages-clause-held g c = λ told.
    let e = the_error c.from_residual.result _ c.from_residual.ensures.1 in
    let same : c.take_pages.result ≡ c.from_residual.result = c.in_err-take_pages.was ∙ ap Err (sym e.2) ∙ sym e.1 in
    subst (λ (r : Result (Unit {0}) Reply). RefusesHeld c.args.store.now c.take_pages.new.store (g.D.Disk.state c.args.disk.now).block (g.D.Disk.state c.take_pages.new.disk).block c.args.t (reply_of r)) same (c.take_pages.ensures.held told)

pub returns-in_err-take_pages-clause-step : goal.returns-in_err-take_pages-clause-step
returns-in_err-take_pages-clause-step g c = λ told m shown.
    let e = the_error c.from_residual.result _ c.from_residual.ensures.1 in
    refused_on (held m (takes_back m c.args.t)) c.take_pages.result _ _ c.from_residual.result e.0 (c.in_err-take_pages.was ∙ ap Err (sym e.2)) e.1 _ (c.take_pages.ensures.step told m shown)

-- ---- an update couldn't be taken back

pub take_back_updates-requires-clause-busy : goal.take_back_updates-requires-clause-busy
take_back_updates-requires-clause-busy g c = busy_kept c.args.store.now c.take_pages.new.store c.args.t.node.0 c.args.t (unless_ok c.take_pages.result tt c.in_ok-take_pages.was c.take_pages.ensures.work) c.requires.busy

pub take_back_updates-requires-clause-quiet : goal.take_back_updates-requires-clause-quiet
take_back_updates-requires-clause-quiet g c = λ told. (c.take_pages.ensures.leaves.writes told).quiet

pub returns-in_err-take_back_updates-clause-works : goal.returns-in_err-take_back_updates-clause-works
returns-in_err-take_back_updates-clause-works g c =
    let e = the_error c.from_residual-in_err-take_back_updates.result _ c.from_residual-in_err-take_back_updates.ensures.1 in
    (leaves_pass g.D.Disk.told g.V.Disk.told c.args.t.node.0 c.take_back_updates.result c.from_residual-in_err-take_back_updates.result e.0 c.args.store.now c.take_back_updates.new.store (g.D.Disk.state c.args.disk.now) (g.D.Disk.state c.take_back_updates.new.disk) (g.V.Disk.state c.args.vault.now) (g.V.Disk.state c.take_back_updates.new.vault) (c.in_err-take_back_updates.was ∙ ap Err (sym e.2)) e.1 (leaves_then g.D.Disk.told g.V.Disk.told c.args.t.node.0 c.take_pages.result tt c.in_ok-take_pages.was c.args.store.now c.take_pages.new.store (g.D.Disk.state c.args.disk.now) (g.D.Disk.state c.take_pages.new.disk) (g.V.Disk.state c.args.vault.now) (g.V.Disk.state c.take_pages.new.vault) c.take_pages.ensures.leaves c.take_back_updates.result c.take_back_updates.new.store (g.D.Disk.state c.take_back_updates.new.disk) (g.V.Disk.state c.take_back_updates.new.vault) c.take_back_updates.ensures.leaves)).works

pub returns-in_err-take_back_updates-clause-writes : goal.returns-in_err-take_back_updates-clause-writes
returns-in_err-take_back_updates-clause-writes g c =
    let e = the_error c.from_residual-in_err-take_back_updates.result _ c.from_residual-in_err-take_back_updates.ensures.1 in
    (leaves_pass g.D.Disk.told g.V.Disk.told c.args.t.node.0 c.take_back_updates.result c.from_residual-in_err-take_back_updates.result e.0 c.args.store.now c.take_back_updates.new.store (g.D.Disk.state c.args.disk.now) (g.D.Disk.state c.take_back_updates.new.disk) (g.V.Disk.state c.args.vault.now) (g.V.Disk.state c.take_back_updates.new.vault) (c.in_err-take_back_updates.was ∙ ap Err (sym e.2)) e.1 (leaves_then g.D.Disk.told g.V.Disk.told c.args.t.node.0 c.take_pages.result tt c.in_ok-take_pages.was c.args.store.now c.take_pages.new.store (g.D.Disk.state c.args.disk.now) (g.D.Disk.state c.take_pages.new.disk) (g.V.Disk.state c.args.vault.now) (g.V.Disk.state c.take_pages.new.vault) c.take_pages.ensures.leaves c.take_back_updates.result c.take_back_updates.new.store (g.D.Disk.state c.take_back_updates.new.disk) (g.V.Disk.state c.take_back_updates.new.vault) c.take_back_updates.ensures.leaves)).writes

pub returns-in_err-take_back_updates-clause-vault_outcomes : goal.returns-in_err-take_back_updates-clause-vault_outcomes
returns-in_err-take_back_updates-clause-vault_outcomes g c =
    let e = the_error c.from_residual-in_err-take_back_updates.result _ c.from_residual-in_err-take_back_updates.ensures.1 in
    (leaves_pass g.D.Disk.told g.V.Disk.told c.args.t.node.0 c.take_back_updates.result c.from_residual-in_err-take_back_updates.result e.0 c.args.store.now c.take_back_updates.new.store (g.D.Disk.state c.args.disk.now) (g.D.Disk.state c.take_back_updates.new.disk) (g.V.Disk.state c.args.vault.now) (g.V.Disk.state c.take_back_updates.new.vault) (c.in_err-take_back_updates.was ∙ ap Err (sym e.2)) e.1 (leaves_then g.D.Disk.told g.V.Disk.told c.args.t.node.0 c.take_pages.result tt c.in_ok-take_pages.was c.args.store.now c.take_pages.new.store (g.D.Disk.state c.args.disk.now) (g.D.Disk.state c.take_pages.new.disk) (g.V.Disk.state c.args.vault.now) (g.V.Disk.state c.take_pages.new.vault) c.take_pages.ensures.leaves c.take_back_updates.result c.take_back_updates.new.store (g.D.Disk.state c.take_back_updates.new.disk) (g.V.Disk.state c.take_back_updates.new.vault) c.take_back_updates.ensures.leaves)).vault_outcomes

pub returns-in_err-take_back_updates-clause-cause : goal.returns-in_err-take_back_updates-clause-cause
returns-in_err-take_back_updates-clause-cause g c =
    let e = the_error c.from_residual-in_err-take_back_updates.result _ c.from_residual-in_err-take_back_updates.ensures.1 in
    (leaves_pass g.D.Disk.told g.V.Disk.told c.args.t.node.0 c.take_back_updates.result c.from_residual-in_err-take_back_updates.result e.0 c.args.store.now c.take_back_updates.new.store (g.D.Disk.state c.args.disk.now) (g.D.Disk.state c.take_back_updates.new.disk) (g.V.Disk.state c.args.vault.now) (g.V.Disk.state c.take_back_updates.new.vault) (c.in_err-take_back_updates.was ∙ ap Err (sym e.2)) e.1 (leaves_then g.D.Disk.told g.V.Disk.told c.args.t.node.0 c.take_pages.result tt c.in_ok-take_pages.was c.args.store.now c.take_pages.new.store (g.D.Disk.state c.args.disk.now) (g.D.Disk.state c.take_pages.new.disk) (g.V.Disk.state c.args.vault.now) (g.V.Disk.state c.take_pages.new.vault) c.take_pages.ensures.leaves c.take_back_updates.result c.take_back_updates.new.store (g.D.Disk.state c.take_back_updates.new.disk) (g.V.Disk.state c.take_back_updates.new.vault) c.take_back_updates.ensures.leaves)).cause

pub returns-in_err-take_back_updates-clause-down : goal.returns-in_err-take_back_updates-clause-down
returns-in_err-take_back_updates-clause-down g c =
    let e = the_error c.from_residual-in_err-take_back_updates.result _ c.from_residual-in_err-take_back_updates.ensures.1 in
    (leaves_pass g.D.Disk.told g.V.Disk.told c.args.t.node.0 c.take_back_updates.result c.from_residual-in_err-take_back_updates.result e.0 c.args.store.now c.take_back_updates.new.store (g.D.Disk.state c.args.disk.now) (g.D.Disk.state c.take_back_updates.new.disk) (g.V.Disk.state c.args.vault.now) (g.V.Disk.state c.take_back_updates.new.vault) (c.in_err-take_back_updates.was ∙ ap Err (sym e.2)) e.1 (leaves_then g.D.Disk.told g.V.Disk.told c.args.t.node.0 c.take_pages.result tt c.in_ok-take_pages.was c.args.store.now c.take_pages.new.store (g.D.Disk.state c.args.disk.now) (g.D.Disk.state c.take_pages.new.disk) (g.V.Disk.state c.args.vault.now) (g.V.Disk.state c.take_pages.new.vault) c.take_pages.ensures.leaves c.take_back_updates.result c.take_back_updates.new.store (g.D.Disk.state c.take_back_updates.new.disk) (g.V.Disk.state c.take_back_updates.new.vault) c.take_back_updates.ensures.leaves)).down

pub returns-in_err-take_back_updates-clause-fault : goal.returns-in_err-take_back_updates-clause-fault
returns-in_err-take_back_updates-clause-fault g c =
    fault_behind g.D.Disk.told g.V.Disk.told c.args.t.node.0 c.take_pages.result tt c.in_ok-take_pages.was c.args.store.now c.take_pages.new.store (g.D.Disk.state c.args.disk.now) (g.D.Disk.state c.take_pages.new.disk) (g.V.Disk.state c.args.vault.now) (g.V.Disk.state c.take_pages.new.vault) c.take_pages.ensures.leaves c.from_residual-in_err-take_back_updates.result
    (passed_on c.from_residual-in_err-take_back_updates.result _ (IsAbortFault c.take_pages.new.store c.args.t.node.0) c.from_residual-in_err-take_back_updates.ensures.1 (λ why same. subst (IsAbortFault c.take_pages.new.store c.args.t.node.0) (sym same) c.in_err-take_back_updates.ensures.fault))

pub returns-in_err-take_back_updates-clause-told : goal.returns-in_err-take_back_updates-clause-told
returns-in_err-take_back_updates-clause-told g c = λ told. passed_on c.from_residual-in_err-take_back_updates.result _ (IsToldOfAbort c.take_back_updates.new.store (g.D.Disk.state c.take_back_updates.new.disk).block c.args.t) c.from_residual-in_err-take_back_updates.ensures.1 (λ why same. subst (IsToldOfAbort c.take_back_updates.new.store (g.D.Disk.state c.take_back_updates.new.disk).block c.args.t) (sym same) (c.in_err-take_back_updates.ensures.told told))

pub returns-in_err-take_back_updates-clause-open : goal.returns-in_err-take_back_updates-clause-open
returns-in_err-take_back_updates-clause-open g c =
    let e = the_error c.from_residual-in_err-take_back_updates.result _ c.from_residual-in_err-take_back_updates.ensures.1 in
    if_refused _ c.from_residual-in_err-take_back_updates.result (unless_pass _ c.take_back_updates.result c.from_residual-in_err-take_back_updates.result e.0 (c.in_err-take_back_updates.was ∙ ap Err (sym e.2)) e.1 (unless_then c.take_back_updates.result (open_then c.args.store.now c.take_pages.new.store c.take_back_updates.new.store c.args.t (open_kept c.args.store.now c.take_pages.new.store c.args.t (unless_ok c.take_pages.result tt c.in_ok-take_pages.was c.take_pages.ensures.work) c.requires.busy)) c.take_back_updates.ensures.open))

-- on a device that shows a state that is a stop
pub returns-in_err-take_back_updates-clause-kept : goal.returns-in_err-take_back_updates-clause-kept
returns-in_err-take_back_updates-clause-kept g c = passed_on c.from_residual-in_err-take_back_updates.result _ _ c.from_residual-in_err-take_back_updates.ensures.1 (λ why same runs told m shown.
    let taken = answered_done (held m (takes_back m c.args.t)) c.take_pages.result _ _ c.in_ok-take_pages.was (c.take_pages.ensures.step told m shown) in
    let stop = c.in_err-take_back_updates.ensures.stopped told (dos (takes_back m c.args.t) m) (holds_written m c.args.t) taken.1 in
    let never : true ≡ false = sym stop ∙ ap says_stop (sym same) ∙ runs in absurd cc)

pub returns-in_err-take_back_updates-clause-step : goal.returns-in_err-take_back_updates-clause-step
returns-in_err-take_back_updates-clause-step g c = λ told m shown.
    let e = the_error c.from_residual-in_err-take_back_updates.result _ c.from_residual-in_err-take_back_updates.ensures.1 in
    let taken = answered_done (held m (takes_back m c.args.t)) c.take_pages.result _ _ c.in_ok-take_pages.was (c.take_pages.ensures.step told m shown) in
    let stop = c.in_err-take_back_updates.ensures.stopped told (dos (takes_back m c.args.t) m) (holds_written m c.args.t) taken.1 in
    unless_failed c.from_residual-in_err-take_back_updates.result e.0 e.1 (λ runs. let never : true ≡ false = sym stop ∙ ap says_stop (sym e.2) ∙ runs in absurd cc)

pub returns-in_err-take_back_updates-clause-held : goal.returns-in_err-take_back_updates-clause-held
returns-in_err-take_back_updates-clause-held g c = λ told.
    free_refuses c.args.store.now (g.D.Disk.state c.args.disk.now).block c.args.t c.take_back_updates.new.store (g.D.Disk.state c.take_back_updates.new.disk).block (reply_of c.from_residual-in_err-take_back_updates.result) (c.in_ok-take_pages.ensures.free told)

-- ---- the end

pub end-requires-clause-busy : goal.end-requires-clause-busy
end-requires-clause-busy g c = busy_up (node_at c.take_back_updates.new.store.nodes c.args.t.node.0) c.args.t (unless_ok c.take_back_updates.result tt c.in_ok-take_back_updates.was c.take_back_updates.ensures.open).busy

pub end-requires-clause-nothing : goal.end-requires-clause-nothing
end-requires-clause-nothing g c = λ same. c.in_ok-take_back_updates.ensures.nothing

pub end-requires-clause-quiet : goal.end-requires-clause-quiet
end-requires-clause-quiet g c = λ told. (c.take_back_updates.ensures.leaves.writes told).quiet

pub returns-clause-works : goal.returns-clause-works
returns-clause-works g c =
    works_then c.args.t.node.0 (SaysStopOf c.end.result) c.args.store.now c.take_back_updates.new.store c.end.new.self (g.D.Disk.state c.args.disk.now) (g.D.Disk.state c.take_back_updates.new.disk) (g.D.Disk.state c.end.new.disk) (g.V.Disk.state c.args.vault.now) (g.V.Disk.state c.take_back_updates.new.vault) (g.V.Disk.state c.end.new.vault)
    (works_done g.D.Disk.told g.V.Disk.told c.args.t.node.0 c.take_back_updates.result tt c.in_ok-take_back_updates.was c.args.store.now c.take_back_updates.new.store (g.D.Disk.state c.args.disk.now) (g.D.Disk.state c.take_back_updates.new.disk) (g.V.Disk.state c.args.vault.now) (g.V.Disk.state c.take_back_updates.new.vault) (leaves_then g.D.Disk.told g.V.Disk.told c.args.t.node.0 c.take_pages.result tt c.in_ok-take_pages.was c.args.store.now c.take_pages.new.store (g.D.Disk.state c.args.disk.now) (g.D.Disk.state c.take_pages.new.disk) (g.V.Disk.state c.args.vault.now) (g.V.Disk.state c.take_pages.new.vault) c.take_pages.ensures.leaves c.take_back_updates.result c.take_back_updates.new.store (g.D.Disk.state c.take_back_updates.new.disk) (g.V.Disk.state c.take_back_updates.new.vault) c.take_back_updates.ensures.leaves))
    (works_alone c.args.t.node.0 (SaysStopOf c.end.result) c.take_back_updates.new.store c.end.new.self (g.D.Disk.state c.take_back_updates.new.disk) (g.D.Disk.state c.end.new.disk) (g.V.Disk.state c.take_back_updates.new.vault) (g.V.Disk.state c.end.new.vault) c.end.ensures.works)

pub returns-clause-writes : goal.returns-clause-writes
returns-clause-writes g c = λ told.
    let first = leaves_then g.D.Disk.told g.V.Disk.told c.args.t.node.0 c.take_pages.result tt c.in_ok-take_pages.was c.args.store.now c.take_pages.new.store (g.D.Disk.state c.args.disk.now) (g.D.Disk.state c.take_pages.new.disk) (g.V.Disk.state c.args.vault.now) (g.V.Disk.state c.take_pages.new.vault) c.take_pages.ensures.leaves c.take_back_updates.result c.take_back_updates.new.store (g.D.Disk.state c.take_back_updates.new.disk) (g.V.Disk.state c.take_back_updates.new.vault) c.take_back_updates.ensures.leaves in
    writes_then c.args.t.node.0 c.args.store.now c.take_back_updates.new.store c.end.new.self (g.D.Disk.state c.args.disk.now).block (g.D.Disk.state c.take_back_updates.new.disk).block (g.D.Disk.state c.end.new.disk).block
    (workers_done g.D.Disk.told g.V.Disk.told c.args.t.node.0 c.take_back_updates.result tt c.in_ok-take_back_updates.was c.args.store.now c.take_back_updates.new.store (g.D.Disk.state c.args.disk.now) (g.D.Disk.state c.take_back_updates.new.disk) (g.V.Disk.state c.args.vault.now) (g.V.Disk.state c.take_back_updates.new.vault) first)
    first.works.shape (first.writes told) (writes_alone c.args.t.node.0 c.take_back_updates.new.store c.end.new.self (g.D.Disk.state c.take_back_updates.new.disk).block (g.D.Disk.state c.end.new.disk).block (c.end.ensures.writes told))

pub returns-clause-vault_outcomes : goal.returns-clause-vault_outcomes
returns-clause-vault_outcomes g c = λ told k o may. (leaves_then g.D.Disk.told g.V.Disk.told c.args.t.node.0 c.take_pages.result tt c.in_ok-take_pages.was c.args.store.now c.take_pages.new.store (g.D.Disk.state c.args.disk.now) (g.D.Disk.state c.take_pages.new.disk) (g.V.Disk.state c.args.vault.now) (g.V.Disk.state c.take_pages.new.vault) c.take_pages.ensures.leaves c.take_back_updates.result c.take_back_updates.new.store (g.D.Disk.state c.take_back_updates.new.disk) (g.V.Disk.state c.take_back_updates.new.vault) c.take_back_updates.ensures.leaves).vault_outcomes told k o (c.end.ensures.vault_outcomes told k o may)

pub returns-clause-cause : goal.returns-clause-cause
returns-clause-cause g c = error_then c.end.result _ _ c.end.ensures.cause (λ why cause. cause_later why (g.D.Disk.state c.args.disk.now) (g.D.Disk.state c.take_back_updates.new.disk) (g.D.Disk.state c.end.new.disk) (leaves_then g.D.Disk.told g.V.Disk.told c.args.t.node.0 c.take_pages.result tt c.in_ok-take_pages.was c.args.store.now c.take_pages.new.store (g.D.Disk.state c.args.disk.now) (g.D.Disk.state c.take_pages.new.disk) (g.V.Disk.state c.args.vault.now) (g.V.Disk.state c.take_pages.new.vault) c.take_pages.ensures.leaves c.take_back_updates.result c.take_back_updates.new.store (g.D.Disk.state c.take_back_updates.new.disk) (g.V.Disk.state c.take_back_updates.new.vault) c.take_back_updates.ensures.leaves).works.keeps.grew cause)

pub returns-clause-down : goal.returns-clause-down
returns-clause-down g c = error_then c.end.result _ _ (down_of c.args.t.node.0 c.end.new.self.nodes c.end.result c.end.ensures.stopped c.end.ensures.down) (λ why is h stop. (is h stop).1)

pub returns-clause-fault : goal.returns-clause-fault
returns-clause-fault g c =
    fault_behind g.D.Disk.told g.V.Disk.told c.args.t.node.0 c.take_back_updates.result tt c.in_ok-take_back_updates.was c.args.store.now c.take_back_updates.new.store (g.D.Disk.state c.args.disk.now) (g.D.Disk.state c.take_back_updates.new.disk) (g.V.Disk.state c.args.vault.now) (g.V.Disk.state c.take_back_updates.new.vault) (leaves_then g.D.Disk.told g.V.Disk.told c.args.t.node.0 c.take_pages.result tt c.in_ok-take_pages.was c.args.store.now c.take_pages.new.store (g.D.Disk.state c.args.disk.now) (g.D.Disk.state c.take_pages.new.disk) (g.V.Disk.state c.args.vault.now) (g.V.Disk.state c.take_pages.new.vault) c.take_pages.ensures.leaves c.take_back_updates.result c.take_back_updates.new.store (g.D.Disk.state c.take_back_updates.new.disk) (g.V.Disk.state c.take_back_updates.new.vault) c.take_back_updates.ensures.leaves) c.end.result
    (error_then c.end.result _ (IsAbortFault c.take_back_updates.new.store c.args.t.node.0) c.end.ensures.stopped (λ why stop. stop_fault c.take_back_updates.new.store c.args.t.node.0 why stop))

pub returns-clause-told : goal.returns-clause-told
returns-clause-told g c = λ told. error_then c.end.result _ (IsToldOfAbort c.end.new.self (g.D.Disk.state c.end.new.disk).block c.args.t) c.end.ensures.stopped (λ why stop. stop_told c.end.new.self (g.D.Disk.state c.end.new.disk).block c.args.t c.args.t.node.0 why stop)

pub returns-clause-open : goal.returns-clause-open
returns-clause-open g c = error_then c.end.result _ _ c.end.ensures.stopped (λ why stop runs. let never : true ≡ false = sym (stops c.args.t.node.0 why stop) ∙ runs in absurd cc)

pub returns-clause-kept : goal.returns-clause-kept
returns-clause-kept g c = error_then c.end.result _ _ c.end.ensures.stopped (λ why stop runs told m shown. let never : true ≡ false = sym (stops c.args.t.node.0 why stop) ∙ runs in absurd cc)

pub returns-clause-held : goal.returns-clause-held
returns-clause-held g c = λ told.
    free_refuses c.args.store.now (g.D.Disk.state c.args.disk.now).block c.args.t c.end.new.self (g.D.Disk.state c.end.new.disk).block (reply_of c.end.result) (c.in_ok-take_pages.ensures.free told)

pub returns-clause-step : goal.returns-clause-step
returns-clause-step g c = λ told m shown.
    let t = c.args.t in
    let taken = answered_done (held m (takes_back m c.args.t)) c.take_pages.result _ _ c.in_ok-take_pages.was (c.take_pages.ensures.step told m shown) in
    let last : List Part = Seal t ∷ Unlock t ∷ [] in
    let k : Machine = dos (takes_back m t) m in
    let S : Machine → Type 0 = IsShown c.end.new.self (g.D.Disk.state c.end.new.disk).block in
    let same : backs k t ≡ backs m t = ap (λ (ds : ℕ → List Deed). replicate (length (filter (is_write_in t.seat) (ds t.node.0))) (Back t)) (taken_keeps (λ j. j.pending) t.node.0 (takes_back m t) m (λ j x. refl) (all_written m t)) in
    let all : dos (parts m (asks.Abort t)) m ≡ dos last (dos (backs m t) k) = dos-then (takes_back m t ++ backs m t) last m ∙ ap (dos last) (dos-then (takes_back m t) (backs m t) m) in
    sure_answers (held m (takes_back m t)) c.end.result (S (dos (parts m (asks.Abort t)) m)) (S m) taken.0
    (error_then c.end.result _ (λ why. says_stop why ≡ true) c.end.ensures.stopped (λ why stop. stops t.node.0 why stop))
    (on_done c.end.result c.end.ensures.shows (λ shows. subst S (sym all) (subst (λ ps. S (dos last (dos ps k))) same (shows told (dos (backs k t) k) (c.in_ok-take_back_updates.ensures.shows told k (holds_written m t) taken.1)))))
