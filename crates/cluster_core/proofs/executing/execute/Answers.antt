use Rattle.std.specs.Prelude.{◌≡◌, ◌∷◌, ◌<◌, ◌≤◌, [], true, false, ℕ, Bool, List, Option, Some, None, IfErr, IfOk, IsTrue, Ok, Err, OnOk, is_some, refl}
use Rattle.std.proofs.Common.{ap, subst, sym, ◌∙◌}
use Rattle.sd_base.specs.Disk.{BlockState}
use Rattle.sd_base.specs.Shape.{page_count}
use Rattle.sd_base.specs.declared.device.NodeId.{NodeId}
use Rattle.sd_base.specs.declared.names.Key.{Key}
use Rattle.sd_base.specs.declared.names.TxnId.{TxnId}
use Rattle.private_log.specs.Content.{region_of}
use Rattle.private_log.specs.Reading.{contents}
use Rattle.script_text.specs.Command.{InRange}
use Rattle.script_text.specs.declared.command.Command.TheVariants as asks
use Rattle.script_text.specs.declared.reply.Reply.TheVariants as says
use Rattle.record_machine.specs.Commands.{MayAnswer, no_deletion, no_page, target, too_long}
use Rattle.record_machine.specs.Machine.{Machine, home, seen}
use Rattle.record_machine.specs.Steps.{worker}
use Rattle.txn_core.specs.declared.change.Change.TheVariants.{Append, Delete, Put}
use Rattle.store_nodes.specs.declared.node.Node.TheVariants.{Down}
use Rattle.store_nodes.specs.declared.store.Store.{Store}
use Rattle.store_nodes.specs.Causes.{IsLogReply, IsToldDamaged, IsToldOfPages}
use Rattle.store_nodes.specs.Endures.{Endures}
use Rattle.store_nodes.specs.Footprint.{KeepsAllButLog, NarrowsToRing}
use Rattle.store_nodes.specs.Known.{known, no_node, state_of}
use Rattle.store_nodes.specs.Nodes.{IsStore, OnUp, node_at}
use Rattle.store_nodes.specs.Pages.{KeepsWork, WritesBack}
use Rattle.store_nodes.specs.Ports.{HasCause, IsQuiet, IsReady, IsStopReply, says_stop}
use Rattle.store_nodes.specs.Shows.{IsShown}
use Rattle.store_nodes.proofs.EnduresShown.{endures_shown}
use Rattle.store_pages.proofs.WorksWith.{works_same, works_with, writes_with}
use Rattle.store_commands.specs.Aborts.{IsAbortFault, IsToldOfAbort, KeepsOpen}
use Rattle.store_commands.specs.Answering.{reply_deleted, reply_found, reply_of}
use Rattle.store_commands.specs.AtHand.{HasBoth, IsAtHand, IsAtHandToDelete, MakesRoomWith}
use Rattle.store_commands.specs.Faults.{IsFaultFor, IsWriteReason}
use Rattle.store_commands.specs.Reasons.{IsFoundIn}
use Rattle.store_commands.proofs.Testing.{error_then, on_done, passed, test_of}
use Rattle.store_pages.proofs.Results.{ok_then}
use Rattle.cluster_core.specs.Answers.{reply_flushed}
use Rattle.cluster_core.specs.Records.{AreAllThere, is_refusal, key_of, says_done, takes_pages}
use Rattle.cluster_core.proofs.Answered.{known_leaves, known_not_done, known_plain, log_down, plain_cause, plain_runs, refusal_runs, start_told, state_plain, state_told, stop_no_refusal, stop_runs, stop_told, stops_down}
use Rattle.cluster_core.proofs.KnownRefusals.{behind_known, known_refused, told_node}
use Rattle.cluster_core.proofs.Passing.{begin_known, idle_known, lock_known, node_known, txn_known, up_known}
use Rattle.cluster_core.proofs.Results.{both_then, deleted_or, done_only, done_runs, fault_not_done, fine_or, flushed_count, flushed_or, found_or, of_deleted, of_done, of_flushed, of_found, reason_not_done}
use Rattle.cluster_core.proofs.Saying.{work_same, works_says, writes_narrow}
use Rattle.cluster_core.proofs.Steps.{all_ok, answered_step, back_step, deleted_is, deleted_plain, done_call, done_step, found_step, is_plain, led_call, refused_step, taken_step, where_runs}
use Rattle.cluster_core.proofs.Tests.{first_one}
use Rattle.cluster_core.proofs.WhenMet.{known_stays, late_deletion, late_length, late_write}
use Rattle.cluster_core.proofs.executing.execute.Goals as goal

-- where no page is lost, a store that endures shows the machine's state
shown_there : (c : Store) (b : ℕ → BlockState) (m : Machine) → m.reopening ≡ false → AreAllThere m → Endures c b m → IsShown c b m
shown_there c b m whole there was = endures_shown c b m whole (λ x within. there x (subst (λ s. x < page_count s) (sym was.1.nodes.shape) within)) was

pub returns-in-Start-clause-works : goal.returns-in-Start-clause-works
returns-in-Start-clause-works g c = rw (c.in-Start.is, c.reply_of.ensures) (works_with c.in-Start.n.0 (λ h. IsStopReply h (reply_of c.start.result)) c.args.store.now c.start.new.self (g.D.Disk.state c.args.disk.now) (g.D.Disk.state c.start.new.disk) (g.V.Disk.state c.args.vault.now) (g.V.Disk.state c.start.new.vault) c.start.ensures.works)

pub returns-in-Start-clause-writes : goal.returns-in-Start-clause-writes
returns-in-Start-clause-writes g c = rw (c.in-Start.is) (λ told. writes_narrow c.in-Start.n.0 c.args.store.now c.start.new.self (g.D.Disk.state c.args.disk.now).block (g.D.Disk.state c.start.new.disk).block (c.start.ensures.quiet told) (c.start.ensures.outcomes told))

pub returns-in-Start-clause-cause : goal.returns-in-Start-clause-cause
returns-in-Start-clause-cause g c = rw (c.reply_of.ensures) (of_done (λ why. HasCause why (g.D.Disk.state c.args.disk.now) (g.D.Disk.state c.start.new.disk)) c.start.result tt c.start.ensures.cause)

pub returns-in-Start-clause-down : goal.returns-in-Start-clause-down
returns-in-Start-clause-down g c = rw (c.reply_of.ensures) (of_done (λ why. (h : ℕ) → IsStopReply h why → node_at c.start.new.self.nodes h ≡ Down) c.start.result (λ h is. absurd is) (log_down c.in-Start.n.0 (region_of c.args.store.now.shape c.in-Start.n.0) c.start.result c.start.new.self.nodes c.start.ensures.damaged c.start.ensures.down))

pub returns-in-Start-clause-known : goal.returns-in-Start-clause-known
returns-in-Start-clause-known g c = λ why some. (let never : None ≡ Some why = sym (passed (known c.args.store.now c.args.command.now) (sym c.check.ensures ∙ c.in_default.is)) ∙ some in cc)

pub returns-in-Start-clause-answer : goal.returns-in-Start-clause-answer
returns-in-Start-clause-answer g c = rw (c.in-Start.is, c.reply_of.ensures) (λ none. (fine_or (IsLogReply c.in-Start.n.0 (region_of c.args.store.now.shape c.in-Start.n.0)) c.start.result c.start.ensures.damaged))

pub returns-in-Start-clause-told : goal.returns-in-Start-clause-told
returns-in-Start-clause-told g c = λ told none.
    let ready : IsReady c.args.store.now (g.D.Disk.state c.args.disk.now) (g.V.Disk.state c.args.vault.now) = c.requires.ready in
    let quiet : IsQuiet c.args.store.now (g.D.Disk.state c.args.disk.now).block = (c.requires.quiet told) in
    let there = idle_known c.args.store.now ready.is c.in-Start.n (subst InRange c.in-Start.is c.requires.range) (subst (λ k. known c.args.store.now k ≡ None) c.in-Start.is (passed (known c.args.store.now c.args.command.now) (sym c.check.ensures ∙ c.in_default.is))) in
    rw (c.in-Start.is, c.reply_of.ensures) (of_done (IsToldDamaged (region_of c.start.new.self.shape c.in-Start.n.0) (contents (g.D.Disk.state c.start.new.disk).block)) c.start.result tt
    (subst (λ s. IfErr c.start.result (IsToldDamaged (region_of s c.in-Start.n.0) (contents (g.D.Disk.state c.start.new.disk).block))) (sym c.start.ensures.works.shape)
    (both_then c.start.result (IsLogReply c.in-Start.n.0 (region_of c.args.store.now.shape c.in-Start.n.0)) (IsToldDamaged (region_of c.args.store.now.shape c.in-Start.n.0) (contents (g.D.Disk.state c.args.disk.now).block)) (IsToldDamaged (region_of c.args.store.now.shape c.in-Start.n.0) (contents (g.D.Disk.state c.start.new.disk).block)) c.start.ensures.damaged (c.start.ensures.told told)
    (λ why. start_told c.args.store.now c.in-Start.n.0 (g.D.Disk.state c.args.disk.now).block (g.D.Disk.state c.start.new.disk).block why ready.is there.0.place there.0.last there.1 quiet (λ k. g.met.D.Disk.lawful c.args.disk.now k told) (λ k. g.met.D.Disk.lawful c.start.new.disk k told) (c.start.ensures.outcomes told)))))

pub returns-in-Start-clause-refused : goal.returns-in-Start-clause-refused
returns-in-Start-clause-refused g c = rw (c.in-Start.is, c.reply_of.ensures) (of_done (λ why. is_refusal why ≡ true → KeepsWork c.in-Start.n.0 c.args.store.now c.start.new.self) c.start.result (λ is. cc) (error_then c.start.result (λ why. says_stop why ≡ false → c.start.new.self ≡ c.args.store.now) (λ why. is_refusal why ≡ true → KeepsWork c.in-Start.n.0 c.args.store.now c.start.new.self) c.start.ensures.kept (λ why kept is. subst (KeepsWork c.in-Start.n.0 c.args.store.now) (sym (kept (refusal_runs why is))) (work_same c.in-Start.n.0 c.args.store.now))))

pub returns-in-Start-clause-refused_shown : goal.returns-in-Start-clause-refused_shown
returns-in-Start-clause-refused_shown g c = rw (c.in-Start.is, c.reply_of.ensures) (λ told is m shown. of_done (λ why. is_refusal why ≡ true → KeepsWork c.in-Start.n.0 c.args.store.now c.start.new.self) c.start.result (λ is. cc) (error_then c.start.result (λ why. says_stop why ≡ false → c.start.new.self ≡ c.args.store.now) (λ why. is_refusal why ≡ true → KeepsWork c.in-Start.n.0 c.args.store.now c.start.new.self) c.start.ensures.kept (λ why kept is. subst (KeepsWork c.in-Start.n.0 c.args.store.now) (sym (kept (refusal_runs why is))) (work_same c.in-Start.n.0 c.args.store.now))) is)

pub returns-in-Start-clause-step : goal.returns-in-Start-clause-step
returns-in-Start-clause-step g c = λ told runs m shown.
    let a = (g.D.Disk.state c.args.disk.now).block in
    let S : Machine → Type 0 = IsShown c.start.new.self (g.D.Disk.state c.start.new.disk).block in
    let was : IsShown c.args.store.now a m = shown in
    let is : IsStore c.args.store.now = c.requires.ready.is in
    let left = behind_known c.args.store.now a was.0 m is was.1 (asks.Start c.in-Start.n) (subst InRange c.in-Start.is c.requires.range) (subst (λ k. known c.args.store.now k ≡ None) c.in-Start.is (passed (known c.args.store.now c.args.command.now) (sym c.check.ensures ∙ c.in_default.is))) in
    let goes : says_stop (reply_of c.start.result) ≡ false = subst (λ k. says_stop k ≡ false) c.reply_of.ensures runs in
    rw (c.in-Start.is, c.reply_of.ensures) (done_call m (asks.Start c.in-Start.n) reply_of c.start.result S (λ why. refl) left (error_then c.start.result (λ why. IsTrue g.D.Disk.told → (m : Machine) → IsShown c.args.store.now a m → says_stop why ≡ true) (λ why. says_stop why ≡ true) c.start.ensures.stopped (λ why stops. stops told m was)) goes (all_ok c.start.result (λ value. is_plain says.Fine ≡ true) (λ value. refl)) (all_ok c.start.result (λ value. MayAnswer m (asks.Start c.in-Start.n) says.Fine) (λ value. refl)) (on_done c.start.result c.start.ensures.shows (λ shows. shows told m was)))

pub returns-in-Start-clause-led : goal.returns-in-Start-clause-led
returns-in-Start-clause-led g c = λ told alone m whole there was.
    let a = (g.D.Disk.state c.args.disk.now).block in
    let S : Machine → Type 0 = Endures c.start.new.self (g.D.Disk.state c.start.new.disk).block in
    let shown : IsShown c.args.store.now a m = shown_there c.args.store.now a m whole there was in
    let is : IsStore c.args.store.now = c.requires.ready.is in
    let left = behind_known c.args.store.now a shown.0 m is shown.1 (asks.Start c.in-Start.n) (subst InRange c.in-Start.is c.requires.range) (subst (λ k. known c.args.store.now k ≡ None) c.in-Start.is (passed (known c.args.store.now c.args.command.now) (sym c.check.ensures ∙ c.in_default.is))) in
    rw (c.in-Start.is, c.reply_of.ensures) (led_call c.in-Start.n.0 m (asks.Start c.in-Start.n) reply_of c.start.result S (λ why. refl) refl left (all_ok c.start.result (λ value. is_plain says.Fine ≡ true) (λ value. refl)) (all_ok c.start.result (λ value. MayAnswer m (asks.Start c.in-Start.n) says.Fine) (λ value. refl)) (c.start.ensures.led told m was))

pub returns-in-Begin-clause-works : goal.returns-in-Begin-clause-works
returns-in-Begin-clause-works g c = rw (c.in-Begin.is, c.reply_of-in-Begin.ensures) (works_with c.in-Begin.t.node.0 (λ h. IsStopReply h (reply_of c.begin.result)) c.args.store.now c.begin.new.self (g.D.Disk.state c.args.disk.now) (g.D.Disk.state c.begin.new.disk) (g.V.Disk.state c.args.vault.now) (g.V.Disk.state c.begin.new.vault) c.begin.ensures.works)

pub returns-in-Begin-clause-writes : goal.returns-in-Begin-clause-writes
returns-in-Begin-clause-writes g c = rw (c.in-Begin.is) (λ told. writes_with c.in-Begin.t.node.0 c.args.store.now c.begin.new.self (g.D.Disk.state c.args.disk.now).block (g.D.Disk.state c.begin.new.disk).block (c.begin.ensures.writes told))

pub returns-in-Begin-clause-cause : goal.returns-in-Begin-clause-cause
returns-in-Begin-clause-cause g c = rw (c.reply_of-in-Begin.ensures) (of_done (λ why. HasCause why (g.D.Disk.state c.args.disk.now) (g.D.Disk.state c.begin.new.disk)) c.begin.result tt c.begin.ensures.cause)

pub returns-in-Begin-clause-down : goal.returns-in-Begin-clause-down
returns-in-Begin-clause-down g c = rw (c.reply_of-in-Begin.ensures) (of_done (λ why. (h : ℕ) → IsStopReply h why → node_at c.begin.new.self.nodes h ≡ Down) c.begin.result (λ h is. absurd is) (stops_down c.in-Begin.t.node.0 c.begin.result c.begin.new.self.nodes c.begin.ensures.stopped c.begin.ensures.down))

pub returns-in-Begin-clause-known : goal.returns-in-Begin-clause-known
returns-in-Begin-clause-known g c = λ why some. (let never : None ≡ Some why = sym (passed (known c.args.store.now c.args.command.now) (sym c.check.ensures ∙ c.in_default.is)) ∙ some in cc)

pub returns-in-Begin-clause-answer : goal.returns-in-Begin-clause-answer
returns-in-Begin-clause-answer g c = rw (c.in-Begin.is, c.reply_of-in-Begin.ensures) (λ none. (fine_or (IsStopReply c.in-Begin.t.node.0) c.begin.result c.begin.ensures.stopped))

pub returns-in-Begin-clause-told : goal.returns-in-Begin-clause-told
returns-in-Begin-clause-told g c = rw (c.in-Begin.is, c.reply_of-in-Begin.ensures) (λ told none. of_done (IsToldOfPages c.begin.new.self.shape (contents (g.D.Disk.state c.begin.new.disk).block)) c.begin.result tt (error_then c.begin.result (IsStopReply c.in-Begin.t.node.0) (IsToldOfPages c.begin.new.self.shape (contents (g.D.Disk.state c.begin.new.disk).block)) c.begin.ensures.stopped (stop_told c.begin.new.self.shape (contents (g.D.Disk.state c.begin.new.disk).block) c.in-Begin.t.node.0)))

pub returns-in-Begin-clause-refused : goal.returns-in-Begin-clause-refused
returns-in-Begin-clause-refused g c = rw (c.in-Begin.is, c.reply_of-in-Begin.ensures) (of_done (λ why. is_refusal why ≡ true → KeepsWork c.in-Begin.t.node.0 c.args.store.now c.begin.new.self) c.begin.result (λ is. cc) (error_then c.begin.result (IsStopReply c.in-Begin.t.node.0) (λ why. is_refusal why ≡ true → KeepsWork c.in-Begin.t.node.0 c.args.store.now c.begin.new.self) c.begin.ensures.stopped (stop_no_refusal c.in-Begin.t.node.0)))

pub returns-in-Begin-clause-refused_shown : goal.returns-in-Begin-clause-refused_shown
returns-in-Begin-clause-refused_shown g c = rw (c.in-Begin.is, c.reply_of-in-Begin.ensures) (λ told is m shown. of_done (λ why. is_refusal why ≡ true → KeepsWork c.in-Begin.t.node.0 c.args.store.now c.begin.new.self) c.begin.result (λ is. cc) (error_then c.begin.result (IsStopReply c.in-Begin.t.node.0) (λ why. is_refusal why ≡ true → KeepsWork c.in-Begin.t.node.0 c.args.store.now c.begin.new.self) c.begin.ensures.stopped (stop_no_refusal c.in-Begin.t.node.0)) is)

pub returns-in-Begin-clause-step : goal.returns-in-Begin-clause-step
returns-in-Begin-clause-step g c = λ told runs m shown.
    let a = (g.D.Disk.state c.args.disk.now).block in
    let S : Machine → Type 0 = IsShown c.begin.new.self (g.D.Disk.state c.begin.new.disk).block in
    let was : IsShown c.args.store.now a m = shown in
    let is : IsStore c.args.store.now = c.requires.ready.is in
    let left = behind_known c.args.store.now a was.0 m is was.1 (asks.Begin c.in-Begin.t) (subst InRange c.in-Begin.is c.requires.range) (subst (λ k. known c.args.store.now k ≡ None) c.in-Begin.is (passed (known c.args.store.now c.args.command.now) (sym c.check.ensures ∙ c.in_default.is))) in
    let goes : says_stop (reply_of c.begin.result) ≡ false = subst (λ k. says_stop k ≡ false) c.reply_of-in-Begin.ensures runs in
    rw (c.in-Begin.is, c.reply_of-in-Begin.ensures) (done_call m (asks.Begin c.in-Begin.t) reply_of c.begin.result S (λ why. refl) left (error_then c.begin.result (IsStopReply c.in-Begin.t.node.0) (λ why. says_stop why ≡ true) c.begin.ensures.stopped (stop_runs c.in-Begin.t.node.0)) goes (all_ok c.begin.result (λ value. is_plain says.Fine ≡ true) (λ value. refl)) (all_ok c.begin.result (λ value. MayAnswer m (asks.Begin c.in-Begin.t) says.Fine) (λ value. refl)) (on_done c.begin.result c.begin.ensures.shows (λ shows. shows told m was)))

pub returns-in-Begin-clause-led : goal.returns-in-Begin-clause-led
returns-in-Begin-clause-led g c = λ told alone m whole there was.
    let a = (g.D.Disk.state c.args.disk.now).block in
    let S : Machine → Type 0 = Endures c.begin.new.self (g.D.Disk.state c.begin.new.disk).block in
    let shown : IsShown c.args.store.now a m = shown_there c.args.store.now a m whole there was in
    let is : IsStore c.args.store.now = c.requires.ready.is in
    let left = behind_known c.args.store.now a shown.0 m is shown.1 (asks.Begin c.in-Begin.t) (subst InRange c.in-Begin.is c.requires.range) (subst (λ k. known c.args.store.now k ≡ None) c.in-Begin.is (passed (known c.args.store.now c.args.command.now) (sym c.check.ensures ∙ c.in_default.is))) in
    rw (c.in-Begin.is, c.reply_of-in-Begin.ensures) (led_call c.in-Begin.t.node.0 m (asks.Begin c.in-Begin.t) reply_of c.begin.result S (λ why. refl) refl left (all_ok c.begin.result (λ value. is_plain says.Fine ≡ true) (λ value. refl)) (all_ok c.begin.result (λ value. MayAnswer m (asks.Begin c.in-Begin.t) says.Fine) (λ value. refl)) (c.begin.ensures.led told m whole was))

pub returns-in-Get-clause-works : goal.returns-in-Get-clause-works
returns-in-Get-clause-works g c = rw (c.in-Get.is, c.reply_found.ensures) (works_says c.in-Get.t.node.0 reply_found c.get.result c.args.store.now c.get.new.store (g.D.Disk.state c.args.disk.now) (g.D.Disk.state c.get.new.disk) (g.V.Disk.state c.args.vault.now) (g.V.Disk.state c.get.new.vault) (λ why. refl) c.get.ensures.works)

pub returns-in-Get-clause-writes : goal.returns-in-Get-clause-writes
returns-in-Get-clause-writes g c = rw (c.in-Get.is) c.get.ensures.writes

pub returns-in-Get-clause-cause : goal.returns-in-Get-clause-cause
returns-in-Get-clause-cause g c = rw (c.reply_found.ensures) (of_found (λ why. HasCause why (g.D.Disk.state c.args.disk.now) (g.D.Disk.state c.get.new.disk)) c.get.result tt (λ value. tt) c.get.ensures.cause)

pub returns-in-Get-clause-down : goal.returns-in-Get-clause-down
returns-in-Get-clause-down g c = rw (c.reply_found.ensures) (of_found (λ why. (h : ℕ) → IsStopReply h why → node_at c.get.new.store.nodes h ≡ Down) c.get.result (λ h is. absurd is) (λ value. (λ h is. absurd is)) c.get.ensures.down)

pub returns-in-Get-clause-known : goal.returns-in-Get-clause-known
returns-in-Get-clause-known g c = λ why some. (let never : None ≡ Some why = sym (passed (known c.args.store.now c.args.command.now) (sym c.check.ensures ∙ c.in_default.is)) ∙ some in cc)

pub returns-in-Get-clause-answer : goal.returns-in-Get-clause-answer
returns-in-Get-clause-answer g c = rw (c.in-Get.is, c.reply_found.ensures) (λ none. (found_or (IsFaultFor c.args.store.now c.in-Get.t.node.0 c.in-Get.key) (IsFoundIn c.get.new.store c.in-Get.t.node.0 c.in-Get.key) c.get.result c.get.ensures.read c.get.ensures.fault))

pub returns-in-Get-clause-told : goal.returns-in-Get-clause-told
returns-in-Get-clause-told g c = rw (c.in-Get.is, c.reply_found.ensures) (λ told none. of_found (IsToldOfPages c.get.new.store.shape (contents (g.D.Disk.state c.get.new.disk).block)) c.get.result tt (λ value. tt) (subst (λ s. IfErr c.get.result (IsToldOfPages s (contents (g.D.Disk.state c.get.new.disk).block))) (sym c.get.ensures.works.shape) (c.get.ensures.told told)))

pub returns-in-Get-clause-refused : goal.returns-in-Get-clause-refused
returns-in-Get-clause-refused g c = rw (c.in-Get.is, c.reply_found.ensures) (of_found (λ why. is_refusal why ≡ true → KeepsWork c.in-Get.t.node.0 c.args.store.now c.get.new.store) c.get.result (λ is. cc) (λ value. (λ is. cc)) (error_then c.get.result (λ why. says_stop why ≡ false → KeepsWork c.in-Get.t.node.0 c.args.store.now c.get.new.store) (λ why. is_refusal why ≡ true → KeepsWork c.in-Get.t.node.0 c.args.store.now c.get.new.store) c.get.ensures.kept (λ why kept is. kept (refusal_runs why is))))

pub returns-in-Get-clause-refused_shown : goal.returns-in-Get-clause-refused_shown
returns-in-Get-clause-refused_shown g c = rw (c.in-Get.is, c.reply_found.ensures) (λ told is m shown. of_found (λ why. is_refusal why ≡ true → KeepsWork c.in-Get.t.node.0 c.args.store.now c.get.new.store) c.get.result (λ is. cc) (λ value. (λ is. cc)) (error_then c.get.result (λ why. says_stop why ≡ false → KeepsWork c.in-Get.t.node.0 c.args.store.now c.get.new.store) (λ why. is_refusal why ≡ true → KeepsWork c.in-Get.t.node.0 c.args.store.now c.get.new.store) c.get.ensures.kept (λ why kept is. kept (refusal_runs why is))) is)

pub returns-in-Get-clause-step : goal.returns-in-Get-clause-step
returns-in-Get-clause-step g c = λ told runs m shown.
    let a = (g.D.Disk.state c.args.disk.now).block in
    let S : Machine → Type 0 = IsShown c.get.new.store (g.D.Disk.state c.get.new.disk).block in
    let was : IsShown c.args.store.now a m = shown in
    let is : IsStore c.args.store.now = c.requires.ready.is in
    let left = behind_known c.args.store.now a was.0 m is was.1 (asks.Get c.in-Get.t c.in-Get.key) (subst InRange c.in-Get.is c.requires.range) (subst (λ k. known c.args.store.now k ≡ None) c.in-Get.is (passed (known c.args.store.now c.args.command.now) (sym c.check.ensures ∙ c.in_default.is))) in
    let goes : says_stop (reply_found c.get.result) ≡ false = subst (λ k. says_stop k ≡ false) c.reply_found.ensures runs in
    rw (c.in-Get.is, c.reply_found.ensures) (taken_step _ m (asks.Get c.in-Get.t c.in-Get.key) [] reply_found c.get.result S (λ why. refl) refl left (where_runs reply_found c.get.result (λ why. refl) (c.get.ensures.step told m was) goes)
    (λ none done. found_step m c.in-Get.t c.in-Get.key c.get.result S none done.0 (on_done c.get.result c.get.ensures.answer (λ says. says told m was)) done.1))

pub returns-in-Get-clause-led : goal.returns-in-Get-clause-led
returns-in-Get-clause-led g c = λ told alone. (let never : true ≡ false = sym (ap takes_pages c.in-Get.is) ∙ alone in absurd cc)

pub returns-in-Put-clause-works : goal.returns-in-Put-clause-works
returns-in-Put-clause-works g c = rw (c.in-Put.is, c.reply_of-in-Put.ensures) (works_says c.in-Put.t.node.0 reply_of c.write_record.result c.args.store.now c.write_record.new.store (g.D.Disk.state c.args.disk.now) (g.D.Disk.state c.write_record.new.disk) (g.V.Disk.state c.args.vault.now) (g.V.Disk.state c.write_record.new.vault) (λ why. refl) c.write_record.ensures.works)

pub returns-in-Put-clause-writes : goal.returns-in-Put-clause-writes
returns-in-Put-clause-writes g c = rw (c.in-Put.is) c.write_record.ensures.writes

pub returns-in-Put-clause-cause : goal.returns-in-Put-clause-cause
returns-in-Put-clause-cause g c = rw (c.reply_of-in-Put.ensures) (of_done (λ why. HasCause why (g.D.Disk.state c.args.disk.now) (g.D.Disk.state c.write_record.new.disk)) c.write_record.result tt c.write_record.ensures.cause)

pub returns-in-Put-clause-down : goal.returns-in-Put-clause-down
returns-in-Put-clause-down g c = rw (c.reply_of-in-Put.ensures) (of_done (λ why. (h : ℕ) → IsStopReply h why → node_at c.write_record.new.store.nodes h ≡ Down) c.write_record.result (λ h is. absurd is) c.write_record.ensures.down)

pub returns-in-Put-clause-known : goal.returns-in-Put-clause-known
returns-in-Put-clause-known g c = λ why some. (let never : None ≡ Some why = sym (passed (known c.args.store.now c.args.command.now) (sym c.check.ensures ∙ c.in_default.is)) ∙ some in cc)

pub returns-in-Put-clause-answer : goal.returns-in-Put-clause-answer
returns-in-Put-clause-answer g c = rw (c.in-Put.is, c.reply_of-in-Put.ensures) (λ none. (fine_or (IsWriteReason c.args.store.now c.write_record.new.store c.in-Put.t.node.0 c.in-Put.key (Put c.in-Put.value)) c.write_record.result c.write_record.ensures.refused))

pub returns-in-Put-clause-told : goal.returns-in-Put-clause-told
returns-in-Put-clause-told g c = rw (c.in-Put.is, c.reply_of-in-Put.ensures) (λ told none. of_done (IsToldOfPages c.write_record.new.store.shape (contents (g.D.Disk.state c.write_record.new.disk).block)) c.write_record.result tt (subst (λ s. IfErr c.write_record.result (IsToldOfPages s (contents (g.D.Disk.state c.write_record.new.disk).block))) (sym c.write_record.ensures.works.shape) (c.write_record.ensures.told told)))

pub returns-in-Put-clause-refused : goal.returns-in-Put-clause-refused
returns-in-Put-clause-refused g c = rw (c.in-Put.is, c.reply_of-in-Put.ensures) (of_done (λ why. is_refusal why ≡ true → KeepsWork c.in-Put.t.node.0 c.args.store.now c.write_record.new.store) c.write_record.result (λ is. cc) (error_then c.write_record.result (λ why. says_stop why ≡ false → KeepsWork c.in-Put.t.node.0 c.args.store.now c.write_record.new.store) (λ why. is_refusal why ≡ true → KeepsWork c.in-Put.t.node.0 c.args.store.now c.write_record.new.store) c.write_record.ensures.kept (λ why kept is. kept (refusal_runs why is))))

pub returns-in-Put-clause-refused_shown : goal.returns-in-Put-clause-refused_shown
returns-in-Put-clause-refused_shown g c = rw (c.in-Put.is, c.reply_of-in-Put.ensures) (λ told is m shown. of_done (λ why. is_refusal why ≡ true → KeepsWork c.in-Put.t.node.0 c.args.store.now c.write_record.new.store) c.write_record.result (λ is. cc) (error_then c.write_record.result (λ why. says_stop why ≡ false → KeepsWork c.in-Put.t.node.0 c.args.store.now c.write_record.new.store) (λ why. is_refusal why ≡ true → KeepsWork c.in-Put.t.node.0 c.args.store.now c.write_record.new.store) c.write_record.ensures.kept (λ why kept is. kept (refusal_runs why is))) is)

pub returns-in-Put-clause-step : goal.returns-in-Put-clause-step
returns-in-Put-clause-step g c = λ told runs m shown.
    let a = (g.D.Disk.state c.args.disk.now).block in
    let S : Machine → Type 0 = IsShown c.write_record.new.store (g.D.Disk.state c.write_record.new.disk).block in
    let was : IsShown c.args.store.now a m = shown in
    let is : IsStore c.args.store.now = c.requires.ready.is in
    let left = behind_known c.args.store.now a was.0 m is was.1 (asks.Put c.in-Put.t c.in-Put.key c.in-Put.value) (subst InRange c.in-Put.is c.requires.range) (subst (λ k. known c.args.store.now k ≡ None) c.in-Put.is (passed (known c.args.store.now c.args.command.now) (sym c.check.ensures ∙ c.in_default.is))) in
    let goes : says_stop (reply_of c.write_record.result) ≡ false = subst (λ k. says_stop k ≡ false) c.reply_of-in-Put.ensures runs in
    rw (c.in-Put.is, c.reply_of-in-Put.ensures) (taken_step _ m (asks.Put c.in-Put.t c.in-Put.key c.in-Put.value) ((no_page m c.in-Put.t.node c.in-Put.key.0 None) ∷ []) reply_of c.write_record.result S (λ why. refl) refl left (where_runs reply_of c.write_record.result (λ why. refl) (c.write_record.ensures.step told m was) goes)
    (λ behind done. answered_step m (asks.Put c.in-Put.t c.in-Put.key c.in-Put.value) tt reply_of (no_page m c.in-Put.t.node c.in-Put.key.0 None) c.write_record.result S (λ why. refl) (λ why refused. late_write (asks.Put c.in-Put.t c.in-Put.key c.in-Put.value) m c.in-Put.t.node c.in-Put.key.0 None why tt refused) refl refl behind done))

pub returns-in-Put-clause-led : goal.returns-in-Put-clause-led
returns-in-Put-clause-led g c = λ told alone. (let never : true ≡ false = sym (ap takes_pages c.in-Put.is) ∙ alone in absurd cc)

pub returns-in-Append-clause-works : goal.returns-in-Append-clause-works
returns-in-Append-clause-works g c = rw (c.in-Append.is, c.reply_of-in-Append.ensures) (works_says c.in-Append.t.node.0 reply_of c.write_record-in-Append.result c.args.store.now c.write_record-in-Append.new.store (g.D.Disk.state c.args.disk.now) (g.D.Disk.state c.write_record-in-Append.new.disk) (g.V.Disk.state c.args.vault.now) (g.V.Disk.state c.write_record-in-Append.new.vault) (λ why. refl) c.write_record-in-Append.ensures.works)

pub returns-in-Append-clause-writes : goal.returns-in-Append-clause-writes
returns-in-Append-clause-writes g c = rw (c.in-Append.is) c.write_record-in-Append.ensures.writes

pub returns-in-Append-clause-cause : goal.returns-in-Append-clause-cause
returns-in-Append-clause-cause g c = rw (c.reply_of-in-Append.ensures) (of_done (λ why. HasCause why (g.D.Disk.state c.args.disk.now) (g.D.Disk.state c.write_record-in-Append.new.disk)) c.write_record-in-Append.result tt c.write_record-in-Append.ensures.cause)

pub returns-in-Append-clause-down : goal.returns-in-Append-clause-down
returns-in-Append-clause-down g c = rw (c.reply_of-in-Append.ensures) (of_done (λ why. (h : ℕ) → IsStopReply h why → node_at c.write_record-in-Append.new.store.nodes h ≡ Down) c.write_record-in-Append.result (λ h is. absurd is) c.write_record-in-Append.ensures.down)

pub returns-in-Append-clause-known : goal.returns-in-Append-clause-known
returns-in-Append-clause-known g c = λ why some. (let never : None ≡ Some why = sym (passed (known c.args.store.now c.args.command.now) (sym c.check.ensures ∙ c.in_default.is)) ∙ some in cc)

pub returns-in-Append-clause-answer : goal.returns-in-Append-clause-answer
returns-in-Append-clause-answer g c = rw (c.in-Append.is, c.reply_of-in-Append.ensures) (λ none. (fine_or (IsWriteReason c.args.store.now c.write_record-in-Append.new.store c.in-Append.t.node.0 c.in-Append.key (Append c.in-Append.bytes)) c.write_record-in-Append.result c.write_record-in-Append.ensures.refused))

pub returns-in-Append-clause-told : goal.returns-in-Append-clause-told
returns-in-Append-clause-told g c = rw (c.in-Append.is, c.reply_of-in-Append.ensures) (λ told none. of_done (IsToldOfPages c.write_record-in-Append.new.store.shape (contents (g.D.Disk.state c.write_record-in-Append.new.disk).block)) c.write_record-in-Append.result tt (subst (λ s. IfErr c.write_record-in-Append.result (IsToldOfPages s (contents (g.D.Disk.state c.write_record-in-Append.new.disk).block))) (sym c.write_record-in-Append.ensures.works.shape) (c.write_record-in-Append.ensures.told told)))

pub returns-in-Append-clause-refused : goal.returns-in-Append-clause-refused
returns-in-Append-clause-refused g c = rw (c.in-Append.is, c.reply_of-in-Append.ensures) (of_done (λ why. is_refusal why ≡ true → KeepsWork c.in-Append.t.node.0 c.args.store.now c.write_record-in-Append.new.store) c.write_record-in-Append.result (λ is. cc) (error_then c.write_record-in-Append.result (λ why. says_stop why ≡ false → KeepsWork c.in-Append.t.node.0 c.args.store.now c.write_record-in-Append.new.store) (λ why. is_refusal why ≡ true → KeepsWork c.in-Append.t.node.0 c.args.store.now c.write_record-in-Append.new.store) c.write_record-in-Append.ensures.kept (λ why kept is. kept (refusal_runs why is))))

pub returns-in-Append-clause-refused_shown : goal.returns-in-Append-clause-refused_shown
returns-in-Append-clause-refused_shown g c = rw (c.in-Append.is, c.reply_of-in-Append.ensures) (λ told is m shown. of_done (λ why. is_refusal why ≡ true → KeepsWork c.in-Append.t.node.0 c.args.store.now c.write_record-in-Append.new.store) c.write_record-in-Append.result (λ is. cc) (error_then c.write_record-in-Append.result (λ why. says_stop why ≡ false → KeepsWork c.in-Append.t.node.0 c.args.store.now c.write_record-in-Append.new.store) (λ why. is_refusal why ≡ true → KeepsWork c.in-Append.t.node.0 c.args.store.now c.write_record-in-Append.new.store) c.write_record-in-Append.ensures.kept (λ why kept is. kept (refusal_runs why is))) is)

pub returns-in-Append-clause-step : goal.returns-in-Append-clause-step
returns-in-Append-clause-step g c = λ told runs m shown.
    let a = (g.D.Disk.state c.args.disk.now).block in
    let S : Machine → Type 0 = IsShown c.write_record-in-Append.new.store (g.D.Disk.state c.write_record-in-Append.new.disk).block in
    let was : IsShown c.args.store.now a m = shown in
    let is : IsStore c.args.store.now = c.requires.ready.is in
    let left = behind_known c.args.store.now a was.0 m is was.1 (asks.Append c.in-Append.t c.in-Append.key c.in-Append.bytes) (subst InRange c.in-Append.is c.requires.range) (subst (λ k. known c.args.store.now k ≡ None) c.in-Append.is (passed (known c.args.store.now c.args.command.now) (sym c.check.ensures ∙ c.in_default.is))) in
    let goes : says_stop (reply_of c.write_record-in-Append.result) ≡ false = subst (λ k. says_stop k ≡ false) c.reply_of-in-Append.ensures runs in
    rw (c.in-Append.is, c.reply_of-in-Append.ensures) (taken_step _ m (asks.Append c.in-Append.t c.in-Append.key c.in-Append.bytes) ((no_page m c.in-Append.t.node c.in-Append.key.0 (too_long (seen m c.in-Append.t c.in-Append.key.0) c.in-Append.bytes)) ∷ []) reply_of c.write_record-in-Append.result S (λ why. refl) refl left (where_runs reply_of c.write_record-in-Append.result (λ why. refl) (c.write_record-in-Append.ensures.step told m was) goes)
    (λ behind done. answered_step m (asks.Append c.in-Append.t c.in-Append.key c.in-Append.bytes) tt reply_of (no_page m c.in-Append.t.node c.in-Append.key.0 (too_long (seen m c.in-Append.t c.in-Append.key.0) c.in-Append.bytes)) c.write_record-in-Append.result S (λ why. refl) (λ why refused. late_write (asks.Append c.in-Append.t c.in-Append.key c.in-Append.bytes) m c.in-Append.t.node c.in-Append.key.0 (too_long (seen m c.in-Append.t c.in-Append.key.0) c.in-Append.bytes) why (late_length (asks.Append c.in-Append.t c.in-Append.key c.in-Append.bytes) (seen m c.in-Append.t c.in-Append.key.0) c.in-Append.bytes) refused) refl refl behind done))

pub returns-in-Append-clause-led : goal.returns-in-Append-clause-led
returns-in-Append-clause-led g c = λ told alone. (let never : true ≡ false = sym (ap takes_pages c.in-Append.is) ∙ alone in absurd cc)

pub returns-in-Del-clause-works : goal.returns-in-Del-clause-works
returns-in-Del-clause-works g c = rw (c.in-Del.is, c.reply_deleted.ensures) (works_says c.in-Del.t.node.0 reply_deleted c.delete.result c.args.store.now c.delete.new.store (g.D.Disk.state c.args.disk.now) (g.D.Disk.state c.delete.new.disk) (g.V.Disk.state c.args.vault.now) (g.V.Disk.state c.delete.new.vault) (λ why. refl) c.delete.ensures.works)

pub returns-in-Del-clause-writes : goal.returns-in-Del-clause-writes
returns-in-Del-clause-writes g c = rw (c.in-Del.is) c.delete.ensures.writes

pub returns-in-Del-clause-cause : goal.returns-in-Del-clause-cause
returns-in-Del-clause-cause g c = rw (c.reply_deleted.ensures) (of_deleted (λ why. HasCause why (g.D.Disk.state c.args.disk.now) (g.D.Disk.state c.delete.new.disk)) c.delete.result tt tt c.delete.ensures.cause)

pub returns-in-Del-clause-down : goal.returns-in-Del-clause-down
returns-in-Del-clause-down g c = rw (c.reply_deleted.ensures) (of_deleted (λ why. (h : ℕ) → IsStopReply h why → node_at c.delete.new.store.nodes h ≡ Down) c.delete.result (λ h is. absurd is) (λ h is. absurd is) c.delete.ensures.down)

pub returns-in-Del-clause-known : goal.returns-in-Del-clause-known
returns-in-Del-clause-known g c = λ why some. (let never : None ≡ Some why = sym (passed (known c.args.store.now c.args.command.now) (sym c.check.ensures ∙ c.in_default.is)) ∙ some in cc)

pub returns-in-Del-clause-answer : goal.returns-in-Del-clause-answer
returns-in-Del-clause-answer g c = rw (c.in-Del.is, c.reply_deleted.ensures) (λ none. (deleted_or (IsWriteReason c.args.store.now c.delete.new.store c.in-Del.t.node.0 c.in-Del.key Delete) (IsFoundIn c.delete.new.store c.in-Del.t.node.0 c.in-Del.key None) c.delete.result c.delete.ensures.absent c.delete.ensures.refused))

pub returns-in-Del-clause-told : goal.returns-in-Del-clause-told
returns-in-Del-clause-told g c = rw (c.in-Del.is, c.reply_deleted.ensures) (λ told none. of_deleted (IsToldOfPages c.delete.new.store.shape (contents (g.D.Disk.state c.delete.new.disk).block)) c.delete.result tt tt (subst (λ s. IfErr c.delete.result (IsToldOfPages s (contents (g.D.Disk.state c.delete.new.disk).block))) (sym c.delete.ensures.works.shape) (c.delete.ensures.told told)))

pub returns-in-Del-clause-refused : goal.returns-in-Del-clause-refused
returns-in-Del-clause-refused g c = rw (c.in-Del.is, c.reply_deleted.ensures) (of_deleted (λ why. is_refusal why ≡ true → KeepsWork c.in-Del.t.node.0 c.args.store.now c.delete.new.store) c.delete.result (λ is. cc) (λ is. cc) (error_then c.delete.result (λ why. says_stop why ≡ false → KeepsWork c.in-Del.t.node.0 c.args.store.now c.delete.new.store) (λ why. is_refusal why ≡ true → KeepsWork c.in-Del.t.node.0 c.args.store.now c.delete.new.store) c.delete.ensures.kept (λ why kept is. kept (refusal_runs why is))))

pub returns-in-Del-clause-refused_shown : goal.returns-in-Del-clause-refused_shown
returns-in-Del-clause-refused_shown g c = rw (c.in-Del.is, c.reply_deleted.ensures) (λ told is m shown. of_deleted (λ why. is_refusal why ≡ true → KeepsWork c.in-Del.t.node.0 c.args.store.now c.delete.new.store) c.delete.result (λ is. cc) (λ is. cc) (error_then c.delete.result (λ why. says_stop why ≡ false → KeepsWork c.in-Del.t.node.0 c.args.store.now c.delete.new.store) (λ why. is_refusal why ≡ true → KeepsWork c.in-Del.t.node.0 c.args.store.now c.delete.new.store) c.delete.ensures.kept (λ why kept is. kept (refusal_runs why is))) is)

pub returns-in-Del-clause-step : goal.returns-in-Del-clause-step
returns-in-Del-clause-step g c = λ told runs m shown.
    let a = (g.D.Disk.state c.args.disk.now).block in
    let S : Machine → Type 0 = IsShown c.delete.new.store (g.D.Disk.state c.delete.new.disk).block in
    let was : IsShown c.args.store.now a m = shown in
    let is : IsStore c.args.store.now = c.requires.ready.is in
    let left = behind_known c.args.store.now a was.0 m is was.1 (asks.Del c.in-Del.t c.in-Del.key) (subst InRange c.in-Del.is c.requires.range) (subst (λ k. known c.args.store.now k ≡ None) c.in-Del.is (passed (known c.args.store.now c.args.command.now) (sym c.check.ensures ∙ c.in_default.is))) in
    let goes : says_stop (reply_deleted c.delete.result) ≡ false = subst (λ k. says_stop k ≡ false) c.reply_deleted.ensures runs in
    rw (c.in-Del.is, c.reply_deleted.ensures) (taken_step _ m (asks.Del c.in-Del.t c.in-Del.key) ((no_deletion m c.in-Del.t c.in-Del.key.0) ∷ []) reply_deleted c.delete.result S (λ why. refl) refl left (where_runs reply_deleted c.delete.result (λ why. refl) (c.delete.ensures.step told m was) goes)
    (λ behind done. answered_step m (asks.Del c.in-Del.t c.in-Del.key) (is_some (seen m c.in-Del.t c.in-Del.key.0)) reply_deleted (no_deletion m c.in-Del.t c.in-Del.key.0) c.delete.result S (λ why. refl) (λ why refused. late_deletion (asks.Del c.in-Del.t c.in-Del.key) m c.in-Del.t c.in-Del.key.0 why refused) (deleted_plain (seen m c.in-Del.t c.in-Del.key.0)) (deleted_is (seen m c.in-Del.t c.in-Del.key.0)) behind done))

pub returns-in-Del-clause-led : goal.returns-in-Del-clause-led
returns-in-Del-clause-led g c = λ told alone. (let never : true ≡ false = sym (ap takes_pages c.in-Del.is) ∙ alone in absurd cc)

pub returns-in-Commit-clause-works : goal.returns-in-Commit-clause-works
returns-in-Commit-clause-works g c = rw (c.in-Commit.is, c.reply_of-in-Commit.ensures) (works_with c.in-Commit.t.node.0 (λ h. IsStopReply h (reply_of c.end.result)) c.args.store.now c.end.new.self (g.D.Disk.state c.args.disk.now) (g.D.Disk.state c.end.new.disk) (g.V.Disk.state c.args.vault.now) (g.V.Disk.state c.end.new.vault) c.end.ensures.works)

pub returns-in-Commit-clause-writes : goal.returns-in-Commit-clause-writes
returns-in-Commit-clause-writes g c = rw (c.in-Commit.is) (λ told. writes_with c.in-Commit.t.node.0 c.args.store.now c.end.new.self (g.D.Disk.state c.args.disk.now).block (g.D.Disk.state c.end.new.disk).block (c.end.ensures.writes told))

pub returns-in-Commit-clause-cause : goal.returns-in-Commit-clause-cause
returns-in-Commit-clause-cause g c = rw (c.reply_of-in-Commit.ensures) (of_done (λ why. HasCause why (g.D.Disk.state c.args.disk.now) (g.D.Disk.state c.end.new.disk)) c.end.result tt c.end.ensures.cause)

pub returns-in-Commit-clause-down : goal.returns-in-Commit-clause-down
returns-in-Commit-clause-down g c = rw (c.reply_of-in-Commit.ensures) (of_done (λ why. (h : ℕ) → IsStopReply h why → node_at c.end.new.self.nodes h ≡ Down) c.end.result (λ h is. absurd is) (stops_down c.in-Commit.t.node.0 c.end.result c.end.new.self.nodes c.end.ensures.stopped c.end.ensures.down))

pub returns-in-Commit-clause-known : goal.returns-in-Commit-clause-known
returns-in-Commit-clause-known g c = λ why some. (let never : None ≡ Some why = sym (passed (known c.args.store.now c.args.command.now) (sym c.check.ensures ∙ c.in_default.is)) ∙ some in cc)

pub returns-in-Commit-clause-answer : goal.returns-in-Commit-clause-answer
returns-in-Commit-clause-answer g c = rw (c.in-Commit.is, c.reply_of-in-Commit.ensures) (λ none. (fine_or (IsStopReply c.in-Commit.t.node.0) c.end.result c.end.ensures.stopped))

pub returns-in-Commit-clause-told : goal.returns-in-Commit-clause-told
returns-in-Commit-clause-told g c = rw (c.in-Commit.is, c.reply_of-in-Commit.ensures) (λ told none. of_done (IsToldOfPages c.end.new.self.shape (contents (g.D.Disk.state c.end.new.disk).block)) c.end.result tt (error_then c.end.result (IsStopReply c.in-Commit.t.node.0) (IsToldOfPages c.end.new.self.shape (contents (g.D.Disk.state c.end.new.disk).block)) c.end.ensures.stopped (stop_told c.end.new.self.shape (contents (g.D.Disk.state c.end.new.disk).block) c.in-Commit.t.node.0)))

pub returns-in-Commit-clause-refused : goal.returns-in-Commit-clause-refused
returns-in-Commit-clause-refused g c = rw (c.in-Commit.is, c.reply_of-in-Commit.ensures) (of_done (λ why. is_refusal why ≡ true → KeepsWork c.in-Commit.t.node.0 c.args.store.now c.end.new.self) c.end.result (λ is. cc) (error_then c.end.result (IsStopReply c.in-Commit.t.node.0) (λ why. is_refusal why ≡ true → KeepsWork c.in-Commit.t.node.0 c.args.store.now c.end.new.self) c.end.ensures.stopped (stop_no_refusal c.in-Commit.t.node.0)))

pub returns-in-Commit-clause-refused_shown : goal.returns-in-Commit-clause-refused_shown
returns-in-Commit-clause-refused_shown g c = rw (c.in-Commit.is, c.reply_of-in-Commit.ensures) (λ told is m shown. of_done (λ why. is_refusal why ≡ true → KeepsWork c.in-Commit.t.node.0 c.args.store.now c.end.new.self) c.end.result (λ is. cc) (error_then c.end.result (IsStopReply c.in-Commit.t.node.0) (λ why. is_refusal why ≡ true → KeepsWork c.in-Commit.t.node.0 c.args.store.now c.end.new.self) c.end.ensures.stopped (stop_no_refusal c.in-Commit.t.node.0)) is)

pub returns-in-Commit-clause-step : goal.returns-in-Commit-clause-step
returns-in-Commit-clause-step g c = λ told runs m shown.
    let a = (g.D.Disk.state c.args.disk.now).block in
    let S : Machine → Type 0 = IsShown c.end.new.self (g.D.Disk.state c.end.new.disk).block in
    let was : IsShown c.args.store.now a m = shown in
    let is : IsStore c.args.store.now = c.requires.ready.is in
    let left = behind_known c.args.store.now a was.0 m is was.1 (asks.Commit c.in-Commit.t) (subst InRange c.in-Commit.is c.requires.range) (subst (λ k. known c.args.store.now k ≡ None) c.in-Commit.is (passed (known c.args.store.now c.args.command.now) (sym c.check.ensures ∙ c.in_default.is))) in
    let goes : says_stop (reply_of c.end.result) ≡ false = subst (λ k. says_stop k ≡ false) c.reply_of-in-Commit.ensures runs in
    rw (c.in-Commit.is, c.reply_of-in-Commit.ensures) (done_call m (asks.Commit c.in-Commit.t) reply_of c.end.result S (λ why. refl) left (error_then c.end.result (IsStopReply c.in-Commit.t.node.0) (λ why. says_stop why ≡ true) c.end.ensures.stopped (stop_runs c.in-Commit.t.node.0)) goes (all_ok c.end.result (λ value. is_plain says.Fine ≡ true) (λ value. refl)) (all_ok c.end.result (λ value. MayAnswer m (asks.Commit c.in-Commit.t) says.Fine) (λ value. refl)) (on_done c.end.result c.end.ensures.shows (λ shows. shows told m was)))

pub returns-in-Commit-clause-led : goal.returns-in-Commit-clause-led
returns-in-Commit-clause-led g c = λ told alone m whole there was.
    let a = (g.D.Disk.state c.args.disk.now).block in
    let S : Machine → Type 0 = Endures c.end.new.self (g.D.Disk.state c.end.new.disk).block in
    let shown : IsShown c.args.store.now a m = shown_there c.args.store.now a m whole there was in
    let is : IsStore c.args.store.now = c.requires.ready.is in
    let left = behind_known c.args.store.now a shown.0 m is shown.1 (asks.Commit c.in-Commit.t) (subst InRange c.in-Commit.is c.requires.range) (subst (λ k. known c.args.store.now k ≡ None) c.in-Commit.is (passed (known c.args.store.now c.args.command.now) (sym c.check.ensures ∙ c.in_default.is))) in
    rw (c.in-Commit.is, c.reply_of-in-Commit.ensures) (led_call c.in-Commit.t.node.0 m (asks.Commit c.in-Commit.t) reply_of c.end.result S (λ why. refl) refl left (all_ok c.end.result (λ value. is_plain says.Fine ≡ true) (λ value. refl)) (all_ok c.end.result (λ value. MayAnswer m (asks.Commit c.in-Commit.t) says.Fine) (λ value. refl)) (c.end.ensures.led told m whole was))

pub returns-in-Abort-clause-works : goal.returns-in-Abort-clause-works
returns-in-Abort-clause-works g c = rw (c.in-Abort.is, c.reply_of-in-Abort.ensures) (works_says c.in-Abort.t.node.0 reply_of c.abort.result c.args.store.now c.abort.new.store (g.D.Disk.state c.args.disk.now) (g.D.Disk.state c.abort.new.disk) (g.V.Disk.state c.args.vault.now) (g.V.Disk.state c.abort.new.vault) (λ why. refl) c.abort.ensures.works)

pub returns-in-Abort-clause-writes : goal.returns-in-Abort-clause-writes
returns-in-Abort-clause-writes g c = rw (c.in-Abort.is) c.abort.ensures.writes

pub returns-in-Abort-clause-cause : goal.returns-in-Abort-clause-cause
returns-in-Abort-clause-cause g c = rw (c.reply_of-in-Abort.ensures) (of_done (λ why. HasCause why (g.D.Disk.state c.args.disk.now) (g.D.Disk.state c.abort.new.disk)) c.abort.result tt c.abort.ensures.cause)

pub returns-in-Abort-clause-down : goal.returns-in-Abort-clause-down
returns-in-Abort-clause-down g c = rw (c.reply_of-in-Abort.ensures) (of_done (λ why. (h : ℕ) → IsStopReply h why → node_at c.abort.new.store.nodes h ≡ Down) c.abort.result (λ h is. absurd is) c.abort.ensures.down)

pub returns-in-Abort-clause-known : goal.returns-in-Abort-clause-known
returns-in-Abort-clause-known g c = λ why some. (let never : None ≡ Some why = sym (passed (known c.args.store.now c.args.command.now) (sym c.check.ensures ∙ c.in_default.is)) ∙ some in cc)

pub returns-in-Abort-clause-answer : goal.returns-in-Abort-clause-answer
returns-in-Abort-clause-answer g c = rw (c.in-Abort.is, c.reply_of-in-Abort.ensures) (λ none. (fine_or (IsAbortFault c.args.store.now c.in-Abort.t.node.0) c.abort.result c.abort.ensures.fault))

pub returns-in-Abort-clause-told : goal.returns-in-Abort-clause-told
returns-in-Abort-clause-told g c = rw (c.in-Abort.is, c.reply_of-in-Abort.ensures) (λ told none. of_done (IsToldOfAbort c.abort.new.store (g.D.Disk.state c.abort.new.disk).block c.in-Abort.t) c.abort.result tt (c.abort.ensures.told told))

pub returns-in-Abort-clause-refused : goal.returns-in-Abort-clause-refused
returns-in-Abort-clause-refused g c = rw (c.in-Abort.is, c.reply_of-in-Abort.ensures) (of_done (λ why. is_refusal why ≡ true → KeepsOpen c.in-Abort.t c.args.store.now c.abort.new.store) c.abort.result (λ is. cc) (error_then c.abort.result (λ why. says_stop why ≡ false → KeepsOpen c.in-Abort.t c.args.store.now c.abort.new.store) (λ why. is_refusal why ≡ true → KeepsOpen c.in-Abort.t c.args.store.now c.abort.new.store) c.abort.ensures.«open» (λ why stays is. stays (refusal_runs why is))))

pub returns-in-Abort-clause-refused_shown : goal.returns-in-Abort-clause-refused_shown
returns-in-Abort-clause-refused_shown g c = rw (c.in-Abort.is, c.reply_of-in-Abort.ensures) (λ told is m shown. of_done (λ why. is_refusal why ≡ true → KeepsWork c.in-Abort.t.node.0 c.args.store.now c.abort.new.store) c.abort.result (λ is. cc) (error_then c.abort.result (λ why. says_stop why ≡ false → IsTrue g.D.Disk.told → (m : Machine) → IsShown c.args.store.now (g.D.Disk.state c.args.disk.now).block m → KeepsWork c.in-Abort.t.node.0 c.args.store.now c.abort.new.store) (λ why. is_refusal why ≡ true → KeepsWork c.in-Abort.t.node.0 c.args.store.now c.abort.new.store) c.abort.ensures.kept (λ why kept is. kept (refusal_runs why is) told m shown)) is)

pub returns-in-Abort-clause-step : goal.returns-in-Abort-clause-step
returns-in-Abort-clause-step g c = λ told runs m shown.
    let a = (g.D.Disk.state c.args.disk.now).block in
    let S : Machine → Type 0 = IsShown c.abort.new.store (g.D.Disk.state c.abort.new.disk).block in
    let was : IsShown c.args.store.now a m = shown in
    let is : IsStore c.args.store.now = c.requires.ready.is in
    let left = behind_known c.args.store.now a was.0 m is was.1 (asks.Abort c.in-Abort.t) (subst InRange c.in-Abort.is c.requires.range) (subst (λ k. known c.args.store.now k ≡ None) c.in-Abort.is (passed (known c.args.store.now c.args.command.now) (sym c.check.ensures ∙ c.in_default.is))) in
    let goes : says_stop (reply_of c.abort.result) ≡ false = subst (λ k. says_stop k ≡ false) c.reply_of-in-Abort.ensures runs in
    rw (c.in-Abort.is, c.reply_of-in-Abort.ensures) (back_step m c.in-Abort.t c.abort.result S left (where_runs reply_of c.abort.result (λ why. refl) (c.abort.ensures.step told m was) goes))

pub returns-in-Abort-clause-led : goal.returns-in-Abort-clause-led
returns-in-Abort-clause-led g c = λ told alone. (let never : true ≡ false = sym (ap takes_pages c.in-Abort.is) ∙ alone in absurd cc)

pub returns-in-Flush-clause-works : goal.returns-in-Flush-clause-works
returns-in-Flush-clause-works g c = rw (c.in-Flush.is, c.reply_flushed.ensures) (works_with c.in-Flush.n.0 (λ h. IsStopReply h (reply_flushed c.flush.result)) c.args.store.now c.flush.new.store (g.D.Disk.state c.args.disk.now) (g.D.Disk.state c.flush.new.disk) (g.V.Disk.state c.args.vault.now) (g.V.Disk.state c.flush.new.vault) c.flush.ensures.works)

pub returns-in-Flush-clause-writes : goal.returns-in-Flush-clause-writes
returns-in-Flush-clause-writes g c = rw (c.in-Flush.is) (λ told. writes_with c.in-Flush.n.0 c.args.store.now c.flush.new.store (g.D.Disk.state c.args.disk.now).block (g.D.Disk.state c.flush.new.disk).block (c.flush.ensures.writes told))

pub returns-in-Flush-clause-cause : goal.returns-in-Flush-clause-cause
returns-in-Flush-clause-cause g c = rw (c.reply_flushed.ensures) (of_flushed (λ why. HasCause why (g.D.Disk.state c.args.disk.now) (g.D.Disk.state c.flush.new.disk)) c.flush.result (λ count. tt) c.flush.ensures.cause)

pub returns-in-Flush-clause-down : goal.returns-in-Flush-clause-down
returns-in-Flush-clause-down g c = rw (c.reply_flushed.ensures) (of_flushed (λ why. (h : ℕ) → IsStopReply h why → node_at c.flush.new.store.nodes h ≡ Down) c.flush.result (λ count. (λ h is. absurd is)) (stops_down c.in-Flush.n.0 c.flush.result c.flush.new.store.nodes c.flush.ensures.stopped c.flush.ensures.down))

pub returns-in-Flush-clause-known : goal.returns-in-Flush-clause-known
returns-in-Flush-clause-known g c = λ why some. (let never : None ≡ Some why = sym (passed (known c.args.store.now c.args.command.now) (sym c.check.ensures ∙ c.in_default.is)) ∙ some in cc)

pub returns-in-Flush-clause-answer : goal.returns-in-Flush-clause-answer
returns-in-Flush-clause-answer g c = rw (c.in-Flush.is, c.reply_flushed.ensures) (λ none. (flushed_or (IsStopReply c.in-Flush.n.0) c.flush.result c.flush.ensures.few c.flush.ensures.stopped))

pub returns-in-Flush-clause-told : goal.returns-in-Flush-clause-told
returns-in-Flush-clause-told g c = rw (c.in-Flush.is, c.reply_flushed.ensures) (λ told none. of_flushed (IsToldOfPages c.flush.new.store.shape (contents (g.D.Disk.state c.flush.new.disk).block)) c.flush.result (λ count. tt) (error_then c.flush.result (IsStopReply c.in-Flush.n.0) (IsToldOfPages c.flush.new.store.shape (contents (g.D.Disk.state c.flush.new.disk).block)) c.flush.ensures.stopped (stop_told c.flush.new.store.shape (contents (g.D.Disk.state c.flush.new.disk).block) c.in-Flush.n.0)))

pub returns-in-Flush-clause-refused : goal.returns-in-Flush-clause-refused
returns-in-Flush-clause-refused g c = rw (c.in-Flush.is, c.reply_flushed.ensures) (of_flushed (λ why. is_refusal why ≡ true → KeepsWork c.in-Flush.n.0 c.args.store.now c.flush.new.store) c.flush.result (λ count. (λ is. cc)) (error_then c.flush.result (IsStopReply c.in-Flush.n.0) (λ why. is_refusal why ≡ true → KeepsWork c.in-Flush.n.0 c.args.store.now c.flush.new.store) c.flush.ensures.stopped (stop_no_refusal c.in-Flush.n.0)))

pub returns-in-Flush-clause-refused_shown : goal.returns-in-Flush-clause-refused_shown
returns-in-Flush-clause-refused_shown g c = rw (c.in-Flush.is, c.reply_flushed.ensures) (λ told is m shown. of_flushed (λ why. is_refusal why ≡ true → KeepsWork c.in-Flush.n.0 c.args.store.now c.flush.new.store) c.flush.result (λ count. (λ is. cc)) (error_then c.flush.result (IsStopReply c.in-Flush.n.0) (λ why. is_refusal why ≡ true → KeepsWork c.in-Flush.n.0 c.args.store.now c.flush.new.store) c.flush.ensures.stopped (stop_no_refusal c.in-Flush.n.0)) is)

pub returns-in-Flush-clause-step : goal.returns-in-Flush-clause-step
returns-in-Flush-clause-step g c = λ told runs m shown.
    let a = (g.D.Disk.state c.args.disk.now).block in
    let S : Machine → Type 0 = IsShown c.flush.new.store (g.D.Disk.state c.flush.new.disk).block in
    let was : IsShown c.args.store.now a m = shown in
    let is : IsStore c.args.store.now = c.requires.ready.is in
    let left = behind_known c.args.store.now a was.0 m is was.1 (asks.Flush c.in-Flush.n) (subst InRange c.in-Flush.is c.requires.range) (subst (λ k. known c.args.store.now k ≡ None) c.in-Flush.is (passed (known c.args.store.now c.args.command.now) (sym c.check.ensures ∙ c.in_default.is))) in
    let goes : says_stop (reply_flushed c.flush.result) ≡ false = subst (λ k. says_stop k ≡ false) c.reply_flushed.ensures runs in
    rw (c.in-Flush.is, c.reply_flushed.ensures) (done_call m (asks.Flush c.in-Flush.n) reply_flushed c.flush.result S (λ why. refl) left (error_then c.flush.result (IsStopReply c.in-Flush.n.0) (λ why. says_stop why ≡ true) c.flush.ensures.stopped (stop_runs c.in-Flush.n.0)) goes (all_ok c.flush.result (λ count. is_plain (says.Flushed count) ≡ true) (λ count. refl)) (ok_then c.flush.result (λ count. count ≤ 16) (λ count. MayAnswer m (asks.Flush c.in-Flush.n) (says.Flushed count)) c.flush.ensures.few (λ count few. (count, few, refl))) (on_done c.flush.result c.flush.ensures.shows (λ shows. shows told m was)))

pub returns-in-Flush-clause-led : goal.returns-in-Flush-clause-led
returns-in-Flush-clause-led g c = λ told alone m whole there was.
    let a = (g.D.Disk.state c.args.disk.now).block in
    let S : Machine → Type 0 = Endures c.flush.new.store (g.D.Disk.state c.flush.new.disk).block in
    let shown : IsShown c.args.store.now a m = shown_there c.args.store.now a m whole there was in
    let is : IsStore c.args.store.now = c.requires.ready.is in
    let left = behind_known c.args.store.now a shown.0 m is shown.1 (asks.Flush c.in-Flush.n) (subst InRange c.in-Flush.is c.requires.range) (subst (λ k. known c.args.store.now k ≡ None) c.in-Flush.is (passed (known c.args.store.now c.args.command.now) (sym c.check.ensures ∙ c.in_default.is))) in
    rw (c.in-Flush.is, c.reply_flushed.ensures) (led_call c.in-Flush.n.0 m (asks.Flush c.in-Flush.n) reply_flushed c.flush.result S (λ why. refl) refl left (all_ok c.flush.result (λ count. is_plain (says.Flushed count) ≡ true) (λ count. refl)) (ok_then c.flush.result (λ count. count ≤ 16) (λ count. MayAnswer m (asks.Flush c.in-Flush.n) (says.Flushed count)) c.flush.ensures.few (λ count few. (count, few, refl))) (c.flush.ensures.led told m was))

-- ---- refused for what is in memory

pub returns-in-Err-clause-works : goal.returns-in-Err-clause-works
returns-in-Err-clause-works g c = (works_same (worker c.args.command.now) (λ h. IsStopReply h c.in-Err.why) c.args.store.now (g.D.Disk.state c.args.disk.now) (g.V.Disk.state c.args.vault.now) (c.requires.ready))

pub returns-in-Err-clause-writes : goal.returns-in-Err-clause-writes
returns-in-Err-clause-writes g c = λ told.
    let b = (g.D.Disk.state c.args.disk.now).block in
    (writes_narrow (worker c.args.command.now) c.args.store.now c.args.store.now b b ((c.requires.quiet told)) (λ k o may. may))

pub returns-in-Err-clause-cause : goal.returns-in-Err-clause-cause
returns-in-Err-clause-cause g c =
    plain_cause c.in-Err.why (g.D.Disk.state c.args.disk.now) (g.D.Disk.state c.args.disk.now)
    (known_plain c.args.store.now c.args.command.now c.in-Err.why (test_of (known c.args.store.now c.args.command.now) c.check.result c.in-Err.why c.check.ensures c.in-Err.is))

pub returns-in-Err-clause-down : goal.returns-in-Err-clause-down
returns-in-Err-clause-down g c = λ h is.
    plain_runs c.in-Err.why h (known_plain c.args.store.now c.args.command.now c.in-Err.why (test_of (known c.args.store.now c.args.command.now) c.check.result c.in-Err.why c.check.ensures c.in-Err.is)) is

pub returns-in-Err-clause-known : goal.returns-in-Err-clause-known
returns-in-Err-clause-known g c = λ why some.
    let is = test_of (known c.args.store.now c.args.command.now) c.check.result c.in-Err.why c.check.ensures c.in-Err.is in
    let both : Some c.in-Err.why ≡ Some why = sym is ∙ some in
    (cc, refl, refl, refl)

pub returns-in-Err-clause-answer : goal.returns-in-Err-clause-answer
returns-in-Err-clause-answer g c = λ none.
    let is = test_of (known c.args.store.now c.args.command.now) c.check.result c.in-Err.why c.check.ensures c.in-Err.is in
    let never : Some c.in-Err.why ≡ None = sym is ∙ none in cc

pub returns-in-Err-clause-told : goal.returns-in-Err-clause-told
returns-in-Err-clause-told g c = λ told none.
    let is = test_of (known c.args.store.now c.args.command.now) c.check.result c.in-Err.why c.check.ensures c.in-Err.is in
    let never : Some c.in-Err.why ≡ None = sym is ∙ none in cc

pub returns-in-Err-clause-refused : goal.returns-in-Err-clause-refused
returns-in-Err-clause-refused g c = λ is.
    (known_leaves c.args.store.now c.args.command.now c.in-Err.why (test_of (known c.args.store.now c.args.command.now) c.check.result c.in-Err.why c.check.ensures c.in-Err.is) is)

pub returns-in-Err-clause-refused_shown : goal.returns-in-Err-clause-refused_shown
returns-in-Err-clause-refused_shown g c = (λ told is m shown. work_same (worker c.args.command.now) c.args.store.now)

pub returns-in-Err-clause-taken : goal.returns-in-Err-clause-taken
returns-in-Err-clause-taken g c = λ told none.
    let is = test_of (known c.args.store.now c.args.command.now) c.check.result c.in-Err.why c.check.ensures c.in-Err.is in
    let never : Some c.in-Err.why ≡ None = sym is ∙ none in cc

pub returns-in-Err-clause-flushed : goal.returns-in-Err-clause-flushed
returns-in-Err-clause-flushed g c = λ n asked none.
    let is = test_of (known c.args.store.now c.args.command.now) c.check.result c.in-Err.why c.check.ensures c.in-Err.is in
    let never : Some c.in-Err.why ≡ None = sym is ∙ none in cc

pub returns-in-Err-clause-step : goal.returns-in-Err-clause-step
returns-in-Err-clause-step g c = λ told runs m shown.
    let now = c.args.store.now in
    let a = (g.D.Disk.state c.args.disk.now).block in
    let was : IsShown now a m = shown in
    let whole : IsStore now = c.requires.ready.is in
    let is = test_of (known now c.args.command.now) c.check.result c.in-Err.why c.check.ensures c.in-Err.is in
    refused_step m c.args.command.now c.in-Err.why (IsShown now a) (known_plain now c.args.command.now c.in-Err.why is) (known_refused now a was.0 m whole was.1 c.args.command.now c.in-Err.why c.requires.range is) (known_stays now m c.args.command.now c.in-Err.why (IsShown now a) is was)

pub returns-in-Err-clause-led : goal.returns-in-Err-clause-led
returns-in-Err-clause-led g c = λ told alone m whole there was.
    let now = c.args.store.now in
    let a = (g.D.Disk.state c.args.disk.now).block in
    let shown : IsShown now a m = shown_there now a m whole there was in
    let is_store : IsStore now = c.requires.ready.is in
    let is = test_of (known now c.args.command.now) c.check.result c.in-Err.why c.check.ensures c.in-Err.is in
    refused_step m c.args.command.now c.in-Err.why (Endures now a) (known_plain now c.args.command.now c.in-Err.why is) (known_refused now a shown.0 m is_store shown.1 c.args.command.now c.in-Err.why c.requires.range is) (known_stays now m c.args.command.now c.in-Err.why (Endures now a) is was)

-- ---- a node's state

pub returns-in-Stat-clause-works : goal.returns-in-Stat-clause-works
returns-in-Stat-clause-works g c = (works_same (worker c.args.command.now) (λ h. IsStopReply h c.stat.result) c.args.store.now (g.D.Disk.state c.args.disk.now) (g.V.Disk.state c.args.vault.now) (c.requires.ready))

pub returns-in-Stat-clause-writes : goal.returns-in-Stat-clause-writes
returns-in-Stat-clause-writes g c = λ told.
    let b = (g.D.Disk.state c.args.disk.now).block in
    (writes_narrow (worker c.args.command.now) c.args.store.now c.args.store.now b b ((c.requires.quiet told)) (λ k o may. may))

pub returns-in-Stat-clause-cause : goal.returns-in-Stat-clause-cause
returns-in-Stat-clause-cause g c = rw c.stat.ensures (plain_cause (state_of (node_at c.args.store.now.nodes c.in-Stat.n.0)) (g.D.Disk.state c.args.disk.now) (g.D.Disk.state c.args.disk.now) (state_plain (node_at c.args.store.now.nodes c.in-Stat.n.0)))

pub returns-in-Stat-clause-down : goal.returns-in-Stat-clause-down
returns-in-Stat-clause-down g c = rw c.stat.ensures (λ h is. plain_runs (state_of (node_at c.args.store.now.nodes c.in-Stat.n.0)) h (state_plain (node_at c.args.store.now.nodes c.in-Stat.n.0)) is)

pub returns-in-Stat-clause-known : goal.returns-in-Stat-clause-known
returns-in-Stat-clause-known g c = λ why some. (let never : None ≡ Some why = sym (passed (known c.args.store.now c.args.command.now) (sym c.check.ensures ∙ c.in_default.is)) ∙ some in cc)

pub returns-in-Stat-clause-answer : goal.returns-in-Stat-clause-answer
returns-in-Stat-clause-answer g c = rw (c.in-Stat.is) (λ none. c.stat.ensures)

pub returns-in-Stat-clause-told : goal.returns-in-Stat-clause-told
returns-in-Stat-clause-told g c = rw (c.in-Stat.is, c.stat.ensures) (λ told none. state_told c.args.store.now.shape (contents (g.D.Disk.state c.args.disk.now).block) (node_at c.args.store.now.nodes c.in-Stat.n.0))

pub returns-in-Stat-clause-refused : goal.returns-in-Stat-clause-refused
returns-in-Stat-clause-refused g c = rw (c.in-Stat.is) (λ is. work_same c.in-Stat.n.0 c.args.store.now)

pub returns-in-Stat-clause-refused_shown : goal.returns-in-Stat-clause-refused_shown
returns-in-Stat-clause-refused_shown g c = rw (c.in-Stat.is) (λ told is m shown. work_same c.in-Stat.n.0 c.args.store.now)

pub returns-in-Stat-clause-step : goal.returns-in-Stat-clause-step
returns-in-Stat-clause-step g c = λ told runs m shown.
    let now = c.args.store.now in
    let a = (g.D.Disk.state c.args.disk.now).block in
    let was : IsShown now a m = shown in
    let whole : IsStore now = c.requires.ready.is in
    let n = c.in-Stat.n in
    let range : InRange (asks.Stat n) = subst InRange c.in-Stat.is c.requires.range in
    let so : known now (asks.Stat n) ≡ None = subst (λ k. known now k ≡ None) c.in-Stat.is (passed (known now c.args.command.now) (sym c.check.ensures ∙ c.in_default.is)) in
    let there = (node_known now whole n [] range (first_one (no_node now n) ∙ so)).0 in
    rw (c.in-Stat.is, c.stat.ensures)
    (done_step m (asks.Stat n) (state_of (node_at now.nodes n.0)) (IsShown now a) (state_plain (node_at now.nodes n.0)) (behind_known now a was.0 m whole was.1 (asks.Stat n) range so) (told_node now a was.0 m whole was.1 n there.place there.last) was)

pub returns-in-Stat-clause-led : goal.returns-in-Stat-clause-led
returns-in-Stat-clause-led g c = λ told alone m whole there was.
    let now = c.args.store.now in
    let a = (g.D.Disk.state c.args.disk.now).block in
    let shown : IsShown now a m = shown_there now a m whole there was in
    let is_store : IsStore now = c.requires.ready.is in
    let n = c.in-Stat.n in
    let range : InRange (asks.Stat n) = subst InRange c.in-Stat.is c.requires.range in
    let so : known now (asks.Stat n) ≡ None = subst (λ k. known now k ≡ None) c.in-Stat.is (passed (known now c.args.command.now) (sym c.check.ensures ∙ c.in_default.is)) in
    let node = (node_known now is_store n [] range (first_one (no_node now n) ∙ so)).0 in
    rw (c.in-Stat.is, c.stat.ensures)
    (done_step m (asks.Stat n) (state_of (node_at now.nodes n.0)) (Endures now a) (state_plain (node_at now.nodes n.0)) (behind_known now a shown.0 m is_store shown.1 (asks.Stat n) range so) (told_node now a shown.0 m is_store shown.1 n node.place node.last) was)

-- ---- what a commit leaves of the blocks

pub returns-in-Commit-clause-commit_contents : goal.returns-in-Commit-clause-commit_contents
returns-in-Commit-clause-commit_contents g c = (λ told runs t asked.
    let both : asks.Commit c.in-Commit.t ≡ asks.Commit t = sym c.in-Commit.is ∙ asked in
    let same : c.in-Commit.t ≡ t = cc in
    let goes : says_stop (reply_of c.end.result) ≡ false = subst (λ k. says_stop k ≡ false) c.reply_of-in-Commit.ensures runs in
    subst (λ (u : TxnId). KeepsAllButLog u.node.0 c.args.store.now.shape (g.D.Disk.state c.args.disk.now).block (g.D.Disk.state c.end.new.disk).block) same
    (done_runs reply_of c.end.result (λ why. refl) (error_then c.end.result (IsStopReply c.in-Commit.t.node.0) (λ why. says_stop why ≡ true) c.end.ensures.stopped (stop_runs c.in-Commit.t.node.0)) goes c.end.ensures.contents told))

pub returns-in-Commit-clause-commit_ring : goal.returns-in-Commit-clause-commit_ring
returns-in-Commit-clause-commit_ring g c = (λ told t asked.
    let both : asks.Commit c.in-Commit.t ≡ asks.Commit t = sym c.in-Commit.is ∙ asked in
    let same : c.in-Commit.t ≡ t = cc in
    subst (λ (u : TxnId). NarrowsToRing u.node.0 c.args.store.now.shape (g.D.Disk.state c.args.disk.now).block (g.D.Disk.state c.end.new.disk).block) same (c.end.ensures.ring told))

-- ---- what is done in memory

pub returns-in-Put-clause-put_memory : goal.returns-in-Put-clause-put_memory
returns-in-Put-clause-put_memory g c = (λ t key value asked here.
    let both : asks.Put c.in-Put.t c.in-Put.key c.in-Put.value ≡ asks.Put t key value = sym c.in-Put.is ∙ asked in
    let one : t ≡ c.in-Put.t = cc in
    let two : key ≡ c.in-Put.key = cc in
    c.write_record.ensures.memory (subst (λ (u : TxnId). IsAtHand c.args.store.now u.node.0 c.in-Put.key.0) one (subst (λ (k : Key). IsAtHand c.args.store.now t.node.0 k.0) two here)))

pub returns-in-Append-clause-append_memory : goal.returns-in-Append-clause-append_memory
returns-in-Append-clause-append_memory g c = (λ t key bytes asked here.
    let both : asks.Append c.in-Append.t c.in-Append.key c.in-Append.bytes ≡ asks.Append t key bytes = sym c.in-Append.is ∙ asked in
    let one : t ≡ c.in-Append.t = cc in
    let two : key ≡ c.in-Append.key = cc in
    c.write_record-in-Append.ensures.memory (subst (λ (u : TxnId). IsAtHand c.args.store.now u.node.0 c.in-Append.key.0) one (subst (λ (k : Key). IsAtHand c.args.store.now t.node.0 k.0) two here)))

pub returns-in-Del-clause-del_memory : goal.returns-in-Del-clause-del_memory
returns-in-Del-clause-del_memory g c = (λ t key asked here.
    let both : asks.Del c.in-Del.t c.in-Del.key ≡ asks.Del t key = sym c.in-Del.is ∙ asked in
    let one : t ≡ c.in-Del.t = cc in
    let two : key ≡ c.in-Del.key = cc in
    c.delete.ensures.memory (subst (λ (u : TxnId). IsAtHandToDelete c.args.store.now u.node.0 c.in-Del.key.0) one (subst (λ (k : Key). IsAtHandToDelete c.args.store.now t.node.0 k.0) two here)))

-- ---- what is written back

pub returns-in-Flush-clause-flushed : goal.returns-in-Flush-clause-flushed
returns-in-Flush-clause-flushed g c = (λ n asked none runs.
    let both : asks.Flush c.in-Flush.n ≡ asks.Flush n = sym c.in-Flush.is ∙ asked in
    let same : c.in-Flush.n ≡ n = cc in
    let goes : says_stop (reply_flushed c.flush.result) ≡ false = subst (λ k. says_stop k ≡ false) c.reply_flushed.ensures runs in
    let P : NodeId → ℕ → Type 0 = λ i count. OnUp (node_at c.args.store.now.nodes i.0) (λ d old. OnUp (node_at c.flush.new.store.nodes i.0) (λ e new. WritesBack d e count)) in
    let all = flushed_count (P c.in-Flush.n) c.flush.result (error_then c.flush.result (IsStopReply c.in-Flush.n.0) (λ why. says_stop why ≡ true) c.flush.ensures.stopped (stop_runs c.in-Flush.n.0)) goes c.flush.ensures.written in
    (all.0, c.reply_flushed.ensures ∙ all.1, subst (λ i. P i all.0) same all.2))

-- ---- what is cached when a command on a record is done

pub returns-in-Get-clause-taken : goal.returns-in-Get-clause-taken
returns-in-Get-clause-taken g c = λ told none done key names m shown.
    let was : IsShown c.args.store.now (g.D.Disk.state c.args.disk.now).block m = shown in
    let both : Some c.in-Get.key ≡ Some key = sym (ap key_of c.in-Get.is) ∙ names in
    let same : c.in-Get.key ≡ key = cc in
    rw c.in-Get.is (subst (λ (k : Key). HasBoth c.get.new.store c.in-Get.t.node.0 m k.0 (home m c.in-Get.key.0)) same
    (done_only reply_found c.get.result (λ why. refl) (IsFaultFor c.args.store.now c.in-Get.t.node.0 c.in-Get.key) (fault_not_done c.args.store.now c.in-Get.t.node.0 c.in-Get.key) c.get.ensures.fault (subst (λ r. says_done r ≡ true) c.reply_found.ensures done) c.get.ensures.taken told m was))

pub returns-in-Put-clause-taken : goal.returns-in-Put-clause-taken
returns-in-Put-clause-taken g c = λ told none done key names m shown.
    let was : IsShown c.args.store.now (g.D.Disk.state c.args.disk.now).block m = shown in
    let both : Some c.in-Put.key ≡ Some key = sym (ap key_of c.in-Put.is) ∙ names in
    let same : c.in-Put.key ≡ key = cc in
    rw c.in-Put.is (subst (λ (k : Key). HasBoth c.write_record.new.store c.in-Put.t.node.0 m k.0 (target m c.in-Put.key.0)) same
    (done_only reply_of c.write_record.result (λ why. refl) (IsWriteReason c.args.store.now c.write_record.new.store c.in-Put.t.node.0 c.in-Put.key (Put c.in-Put.value)) (reason_not_done c.args.store.now c.write_record.new.store c.in-Put.t.node.0 c.in-Put.key (Put c.in-Put.value)) c.write_record.ensures.refused (subst (λ r. says_done r ≡ true) c.reply_of-in-Put.ensures done) c.write_record.ensures.taken told m was))

pub returns-in-Append-clause-taken : goal.returns-in-Append-clause-taken
returns-in-Append-clause-taken g c = λ told none done key names m shown.
    let was : IsShown c.args.store.now (g.D.Disk.state c.args.disk.now).block m = shown in
    let both : Some c.in-Append.key ≡ Some key = sym (ap key_of c.in-Append.is) ∙ names in
    let same : c.in-Append.key ≡ key = cc in
    rw c.in-Append.is (subst (λ (k : Key). HasBoth c.write_record-in-Append.new.store c.in-Append.t.node.0 m k.0 (target m c.in-Append.key.0)) same
    (done_only reply_of c.write_record-in-Append.result (λ why. refl) (IsWriteReason c.args.store.now c.write_record-in-Append.new.store c.in-Append.t.node.0 c.in-Append.key (Append c.in-Append.bytes)) (reason_not_done c.args.store.now c.write_record-in-Append.new.store c.in-Append.t.node.0 c.in-Append.key (Append c.in-Append.bytes)) c.write_record-in-Append.ensures.refused (subst (λ r. says_done r ≡ true) c.reply_of-in-Append.ensures done) c.write_record-in-Append.ensures.taken told m was))

pub returns-in-Del-clause-taken : goal.returns-in-Del-clause-taken
returns-in-Del-clause-taken g c = λ told none done key names m shown.
    let was : IsShown c.args.store.now (g.D.Disk.state c.args.disk.now).block m = shown in
    let both : Some c.in-Del.key ≡ Some key = sym (ap key_of c.in-Del.is) ∙ names in
    let same : c.in-Del.key ≡ key = cc in
    rw c.in-Del.is (subst (λ (k : Key). HasBoth c.delete.new.store c.in-Del.t.node.0 m k.0 (home m c.in-Del.key.0)) same
    (done_only reply_deleted c.delete.result (λ why. refl) (IsWriteReason c.args.store.now c.delete.new.store c.in-Del.t.node.0 c.in-Del.key Delete) (reason_not_done c.args.store.now c.delete.new.store c.in-Del.t.node.0 c.in-Del.key Delete) c.delete.ensures.refused (subst (λ r. says_done r ≡ true) c.reply_deleted.ensures done) c.delete.ensures.taken told m was))

-- ---- which pages make room

pub returns-in-Err-clause-room : goal.returns-in-Err-clause-room
returns-in-Err-clause-room g c = λ told done.
    let never : false ≡ true = sym (known_not_done c.args.store.now c.args.command.now c.in-Err.why (test_of (known c.args.store.now c.args.command.now) c.check.result c.in-Err.why c.check.ensures c.in-Err.is)) ∙ done in cc

pub returns-in-Get-clause-room : goal.returns-in-Get-clause-room
returns-in-Get-clause-room g c = λ told done key names.
    let both : Some c.in-Get.key ≡ Some key = sym (ap key_of c.in-Get.is) ∙ names in
    let same : c.in-Get.key ≡ key = cc in
    rw c.in-Get.is (subst (λ (k : Key). MakesRoomWith c.in-Get.t.node k c.args.store.now c.get.new.store (g.D.Disk.state c.args.disk.now).block (g.D.Disk.state c.get.new.disk).block) same
    (done_only reply_found c.get.result (λ why. refl) (IsFaultFor c.args.store.now c.in-Get.t.node.0 c.in-Get.key) (fault_not_done c.args.store.now c.in-Get.t.node.0 c.in-Get.key) c.get.ensures.fault (subst (λ r. says_done r ≡ true) c.reply_found.ensures done) c.get.ensures.made_room told))

pub returns-in-Put-clause-room : goal.returns-in-Put-clause-room
returns-in-Put-clause-room g c = λ told done key names.
    let both : Some c.in-Put.key ≡ Some key = sym (ap key_of c.in-Put.is) ∙ names in
    let same : c.in-Put.key ≡ key = cc in
    rw c.in-Put.is (subst (λ (k : Key). MakesRoomWith c.in-Put.t.node k c.args.store.now c.write_record.new.store (g.D.Disk.state c.args.disk.now).block (g.D.Disk.state c.write_record.new.disk).block) same
    (done_only reply_of c.write_record.result (λ why. refl) (IsWriteReason c.args.store.now c.write_record.new.store c.in-Put.t.node.0 c.in-Put.key (Put c.in-Put.value)) (reason_not_done c.args.store.now c.write_record.new.store c.in-Put.t.node.0 c.in-Put.key (Put c.in-Put.value)) c.write_record.ensures.refused (subst (λ r. says_done r ≡ true) c.reply_of-in-Put.ensures done) c.write_record.ensures.made_room told))

pub returns-in-Append-clause-room : goal.returns-in-Append-clause-room
returns-in-Append-clause-room g c = λ told done key names.
    let both : Some c.in-Append.key ≡ Some key = sym (ap key_of c.in-Append.is) ∙ names in
    let same : c.in-Append.key ≡ key = cc in
    rw c.in-Append.is (subst (λ (k : Key). MakesRoomWith c.in-Append.t.node k c.args.store.now c.write_record-in-Append.new.store (g.D.Disk.state c.args.disk.now).block (g.D.Disk.state c.write_record-in-Append.new.disk).block) same
    (done_only reply_of c.write_record-in-Append.result (λ why. refl) (IsWriteReason c.args.store.now c.write_record-in-Append.new.store c.in-Append.t.node.0 c.in-Append.key (Append c.in-Append.bytes)) (reason_not_done c.args.store.now c.write_record-in-Append.new.store c.in-Append.t.node.0 c.in-Append.key (Append c.in-Append.bytes)) c.write_record-in-Append.ensures.refused (subst (λ r. says_done r ≡ true) c.reply_of-in-Append.ensures done) c.write_record-in-Append.ensures.made_room told))

pub returns-in-Del-clause-room : goal.returns-in-Del-clause-room
returns-in-Del-clause-room g c = λ told done key names.
    let both : Some c.in-Del.key ≡ Some key = sym (ap key_of c.in-Del.is) ∙ names in
    let same : c.in-Del.key ≡ key = cc in
    rw c.in-Del.is (subst (λ (k : Key). MakesRoomWith c.in-Del.t.node k c.args.store.now c.delete.new.store (g.D.Disk.state c.args.disk.now).block (g.D.Disk.state c.delete.new.disk).block) same
    (done_only reply_deleted c.delete.result (λ why. refl) (IsWriteReason c.args.store.now c.delete.new.store c.in-Del.t.node.0 c.in-Del.key Delete) (reason_not_done c.args.store.now c.delete.new.store c.in-Del.t.node.0 c.in-Del.key Delete) c.delete.ensures.refused (subst (λ r. says_done r ≡ true) c.reply_deleted.ensures done) c.delete.ensures.made_room told))
