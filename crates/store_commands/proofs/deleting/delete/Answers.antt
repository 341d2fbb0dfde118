use Rattle.std.specs.Prelude.{◌≡◌, ◌++◌, ◌∷◌, [], true, false, Some, None, Ok, Err, IfNone, IsTrue, is_some, option_map}
use Rattle.std.proofs.Common.{ap, subst, sym, ◌∙◌}
use Rattle.record_locks.specs.declared.mode.Mode.TheVariants as locks
use Rattle.record_locks.specs.Answer.{lock_answer, may_take}
use Rattle.script_text.specs.declared.command.Command.TheVariants as asks
use Rattle.record_machine.specs.Commands.{no_deletion, parts, takes, takes_both}
use Rattle.record_machine.specs.Machine.{Machine, home, seen}
use Rattle.record_machine.specs.Parts.{Lock, dos}
use Rattle.store_nodes.specs.Pages.{KeepsWork}
use Rattle.store_nodes.specs.Ports.{SaysStopOf, says_stop}
use Rattle.store_nodes.specs.Shows.{IsShown}
use Rattle.store_commands.specs.Answering.{AnswersWith, reply_of}
use Rattle.store_commands.proofs.Deletions.{answers_err, answers_ok, deletes_none, deletes_there}
use Rattle.store_commands.proofs.RoomMade.{room_then}
use Rattle.store_commands.proofs.ShownLocks.{locks_behind, still_within, taken_read, takes_home, with_locks}
use Rattle.store_commands.proofs.Stopping.{done_on, stop_on, unless_failed, unless_ok}
use Rattle.store_commands.proofs.Taken.{is_free}
use Rattle.store_commands.proofs.Testing.{passed_on, the_error}
use Rattle.store_commands.proofs.With.{NoStop, says_none, worker_before, works_alone, works_locked, works_said, works_then, writes_alone, writes_locked, writes_then}
use Rattle.store_commands.proofs.WriteParts.{once_taken}
use Rattle.store_commands.proofs.deleting.delete.Goals as goal
use Rattle.store_commands.proofs.deleting.delete.Goals.{in_default-via-in-Some+in_default, in_default-via-in_default}

pub returns-in_err-home-clause-step : goal.returns-in_err-home-clause-step
returns-in_err-home-clause-step g c = λ told m shown.
    let e = the_error c.from_residual.result _ c.from_residual.ensures.1 in
    stop_on _ _ m (takes m (asks.Del c.args.t c.args.key)) c.take_group.result c.from_residual.result e.0 (IsShown c.take_group.new.store (g.D.Disk.state c.take_group.new.disk).block) (c.in_err-home.was ∙ ap Err (sym e.2)) e.1 (c.take_group.ensures.step told m shown)

pub returns-in_err-write_there-in-Some-Some-clause-step : goal.returns-in_err-write_there-in-Some-Some-clause-step
returns-in_err-write_there-in-Some-Some-clause-step g c = λ told m shown.
    let e = the_error c.from_residual-in_err-write_there-in-Some-Some.result _ c.from_residual-in_err-write_there-in-Some-Some.ensures.1 in
    let failed = c.in_err-write_there-in-Some-Some.was ∙ ap Err (sym e.2) in
    let t = c.args.t in
    let key = c.args.key in
    let free = subst (λ held. IsTrue (may_take (lock_answer held c.args.key c.args.t locks.Write))) (sym (unless_ok c.take_group.result c.in_ok-home.home c.in_ok-home.was c.take_group.ensures.work).locks) c.requires.lock in
    let taken = done_on m (takes_both m c.args.t.node.0 c.args.key.0 (home m c.args.key.0)) c.take_group.result c.in_ok-home.home (IsShown c.take_group.new.store (g.D.Disk.state c.take_group.new.disk).block) c.in_ok-home.was (c.take_group.ensures.step told m shown) in
    let value = taken_read c.take_group.new.store c.args.t.node.0 (g.D.Disk.state c.take_group.new.disk).block m c.take_group.ensures.works.ready.is c.requires.node c.in_ok-home.ensures.up c.args.key c.args.t locks.Write c.in_ok-home.home c.record_in.result free (c.in_ok-home.ensures.found told m shown) (still_within c.in_ok-home.home c.args.store.now.shape c.take_group.new.store.shape _ c.take_group.ensures.works.shape c.in_ok-home.ensures.page) c.record_in.ensures.none c.record_in.ensures.some c.record_in.ensures.there taken.1 in
    let here : home m key.0 ≡ Some c.in-Some-Some.x.0 = sym (c.in_ok-home.ensures.found told m shown) ∙ ap (option_map (λ x. x.0)) c.in-Some-Some.is-0 in
    let held : seen m t key.0 ≡ Some c.in-Some-Some.field-0-1 = sym value ∙ c.in-Some-Some.is-1 in
    let S : Machine → Type 0 = IsShown c.write_there.new.store (g.D.Disk.state c.write_there.new.disk).block in
    unless_failed c.from_residual-in_err-write_there-in-Some-Some.result e.0 e.1 (λ runs.
    let runs_on : says_stop (reply_of c.write_there.result) ≡ false = ap (λ r. says_stop (reply_of r)) failed ∙ runs in
    let wrote = c.write_there.ensures.step told runs_on (once_taken m t key) (takes_home m t.node.0 key.0 key.0 (home m key.0) ∙ here) taken.1 in
    let whole = deletes_there m t key c.in-Some-Some.x.0 c.in-Some-Some.field-0-1 c.write_there.result S here held wrote in
    is_free m (takes m (asks.Del t key)) c.from_residual-in_err-write_there-in-Some-Some.result S taken.0
    (answers_err (is_some (seen m t key.0)) (no_deletion m t key.0) c.write_there.result c.from_residual-in_err-write_there-in-Some-Some.result e.0 _ _ _ whole failed e.1))

pub returns-in_ok-write_there-in-Some-Some-clause-step : goal.returns-in_ok-write_there-in-Some-Some-clause-step
returns-in_ok-write_there-in-Some-Some-clause-step g c = λ told m shown.
    let done = c.in_ok-write_there-in-Some-Some.was in
    let t = c.args.t in
    let key = c.args.key in
    let free = subst (λ held. IsTrue (may_take (lock_answer held c.args.key c.args.t locks.Write))) (sym (unless_ok c.take_group.result c.in_ok-home.home c.in_ok-home.was c.take_group.ensures.work).locks) c.requires.lock in
    let taken = done_on m (takes_both m c.args.t.node.0 c.args.key.0 (home m c.args.key.0)) c.take_group.result c.in_ok-home.home (IsShown c.take_group.new.store (g.D.Disk.state c.take_group.new.disk).block) c.in_ok-home.was (c.take_group.ensures.step told m shown) in
    let value = taken_read c.take_group.new.store c.args.t.node.0 (g.D.Disk.state c.take_group.new.disk).block m c.take_group.ensures.works.ready.is c.requires.node c.in_ok-home.ensures.up c.args.key c.args.t locks.Write c.in_ok-home.home c.record_in.result free (c.in_ok-home.ensures.found told m shown) (still_within c.in_ok-home.home c.args.store.now.shape c.take_group.new.store.shape _ c.take_group.ensures.works.shape c.in_ok-home.ensures.page) c.record_in.ensures.none c.record_in.ensures.some c.record_in.ensures.there taken.1 in
    let here : home m key.0 ≡ Some c.in-Some-Some.x.0 = sym (c.in_ok-home.ensures.found told m shown) ∙ ap (option_map (λ x. x.0)) c.in-Some-Some.is-0 in
    let held : seen m t key.0 ≡ Some c.in-Some-Some.field-0-1 = sym value ∙ c.in-Some-Some.is-1 in
    let S : Machine → Type 0 = IsShown c.write_there.new.store (g.D.Disk.state c.write_there.new.disk).block in
    let runs_on : says_stop (reply_of c.write_there.result) ≡ false = ap (λ r. says_stop (reply_of r)) done in
    let wrote = c.write_there.ensures.step told runs_on (once_taken m t key) (takes_home m t.node.0 key.0 key.0 (home m key.0) ∙ here) taken.1 in
    let whole = deletes_there m t key c.in-Some-Some.x.0 c.in-Some-Some.field-0-1 c.write_there.result S here held wrote in
    is_free m (takes m (asks.Del t key)) (Ok true) S taken.0
    (subst (λ v. AnswersWith (is_some v) (no_deletion m t key.0) (Ok true) (S (dos (parts m (asks.Del t key)) m)) (S (dos (takes m (asks.Del t key)) m))) (sym held)
    (answers_ok true (no_deletion m t key.0) c.write_there.result _ _ whole done))

pub returns-in_default-clause-step : goal.returns-in_default-clause-step
returns-in_default-clause-step g c = λ told m shown.
    let t = c.args.t in
    let key = c.args.key in
    let free = subst (λ held. IsTrue (may_take (lock_answer held c.args.key c.args.t locks.Write))) (sym (unless_ok c.take_group.result c.in_ok-home.home c.in_ok-home.was c.take_group.ensures.work).locks) c.requires.lock in
    let taken = done_on m (takes_both m c.args.t.node.0 c.args.key.0 (home m c.args.key.0)) c.take_group.result c.in_ok-home.home (IsShown c.take_group.new.store (g.D.Disk.state c.take_group.new.disk).block) c.in_ok-home.was (c.take_group.ensures.step told m shown) in
    let value = taken_read c.take_group.new.store c.args.t.node.0 (g.D.Disk.state c.take_group.new.disk).block m c.take_group.ensures.works.ready.is c.requires.node c.in_ok-home.ensures.up c.args.key c.args.t locks.Write c.in_ok-home.home c.record_in.result free (c.in_ok-home.ensures.found told m shown) (still_within c.in_ok-home.home c.args.store.now.shape c.take_group.new.store.shape _ c.take_group.ensures.works.shape c.in_ok-home.ensures.page) c.record_in.ensures.none c.record_in.ensures.some c.record_in.ensures.there taken.1 in
    let b = (g.D.Disk.state c.take_group.new.disk).block in
    let more = locks_behind c.take_group.new.store b m key t locks.Write free taken.1 in
    let whole = takes_both m t.node.0 key.0 (home m key.0) ++ Lock key t locks.Write ∷ [] in
    let S : Machine → Type 0 = IsShown (with_locks c.take_group.new.store c.take.new.self) b in
    let locked : S (dos whole m) = subst (λ held. IsShown (with_locks c.take_group.new.store held) b (dos whole m)) (sym c.take.ensures) more in
    let none : c.record_in.result ≡ None = elim c.in_default.branch [
      | in_default-via-in-Some+in_default w ↦ w.in_default.is-1
      | in_default-via-in_default w ↦ subst (λ o. IfNone o (c.record_in.result ≡ None)) w.in_default.is-0 c.record_in.ensures.none
    ] in
    is_free m (takes m (asks.Del t key)) (Ok false) S taken.0 (deletes_none m t key S (sym value ∙ none) locked)

-- ---- what it leaves

pub write_there-requires-clause-quiet : goal.write_there-requires-clause-quiet
write_there-requires-clause-quiet g c = λ told. (c.take_group.ensures.writes told).quiet

pub returns-in_err-write_there-in-Some-Some-clause-works : goal.returns-in_err-write_there-in-Some-Some-clause-works
returns-in_err-write_there-in-Some-Some-clause-works g c =
    works_then c.args.t.node.0 (SaysStopOf c.from_residual-in_err-write_there-in-Some-Some.result) c.args.store.now c.take_group.new.store c.write_there.new.store (g.D.Disk.state c.args.disk.now) (g.D.Disk.state c.take_group.new.disk) (g.D.Disk.state c.write_there.new.disk) (g.V.Disk.state c.args.vault.now) (g.V.Disk.state c.take_group.new.vault) (g.V.Disk.state c.write_there.new.vault) (works_said c.args.t.node.0 (SaysStopOf c.take_group.result) NoStop c.args.store.now c.take_group.new.store (g.D.Disk.state c.args.disk.now) (g.D.Disk.state c.take_group.new.disk) (g.V.Disk.state c.args.vault.now) (g.V.Disk.state c.take_group.new.vault) (says_none c.take_group.result c.in_ok-home.home c.in_ok-home.was) c.take_group.ensures.works)
    (works_alone c.args.t.node.0 (SaysStopOf c.from_residual-in_err-write_there-in-Some-Some.result) c.take_group.new.store c.write_there.new.store (g.D.Disk.state c.take_group.new.disk) (g.D.Disk.state c.write_there.new.disk) (g.V.Disk.state c.take_group.new.vault) (g.V.Disk.state c.write_there.new.vault) c.write_there.ensures.works)

pub returns-in_ok-write_there-in-Some-Some-clause-works : goal.returns-in_ok-write_there-in-Some-Some-clause-works
returns-in_ok-write_there-in-Some-Some-clause-works g c =
    works_then c.args.t.node.0 NoStop c.args.store.now c.take_group.new.store c.write_there.new.store (g.D.Disk.state c.args.disk.now) (g.D.Disk.state c.take_group.new.disk) (g.D.Disk.state c.write_there.new.disk) (g.V.Disk.state c.args.vault.now) (g.V.Disk.state c.take_group.new.vault) (g.V.Disk.state c.write_there.new.vault) (works_said c.args.t.node.0 (SaysStopOf c.take_group.result) NoStop c.args.store.now c.take_group.new.store (g.D.Disk.state c.args.disk.now) (g.D.Disk.state c.take_group.new.disk) (g.V.Disk.state c.args.vault.now) (g.V.Disk.state c.take_group.new.vault) (says_none c.take_group.result c.in_ok-home.home c.in_ok-home.was) c.take_group.ensures.works)
    (works_alone c.args.t.node.0 NoStop c.take_group.new.store c.write_there.new.store (g.D.Disk.state c.take_group.new.disk) (g.D.Disk.state c.write_there.new.disk) (g.V.Disk.state c.take_group.new.vault) (g.V.Disk.state c.write_there.new.vault) c.write_there.ensures.works)

pub returns-in_err-write_there-in-Some-Some-clause-writes : goal.returns-in_err-write_there-in-Some-Some-clause-writes
returns-in_err-write_there-in-Some-Some-clause-writes g c = λ told.
    writes_then c.args.t.node.0 c.args.store.now c.take_group.new.store c.write_there.new.store (g.D.Disk.state c.args.disk.now).block (g.D.Disk.state c.take_group.new.disk).block (g.D.Disk.state c.write_there.new.disk).block (worker_before c.args.t.node.0 NoStop c.args.store.now c.take_group.new.store (g.D.Disk.state c.args.disk.now) (g.D.Disk.state c.take_group.new.disk) (g.V.Disk.state c.args.vault.now) (g.V.Disk.state c.take_group.new.vault) (works_said c.args.t.node.0 (SaysStopOf c.take_group.result) NoStop c.args.store.now c.take_group.new.store (g.D.Disk.state c.args.disk.now) (g.D.Disk.state c.take_group.new.disk) (g.V.Disk.state c.args.vault.now) (g.V.Disk.state c.take_group.new.vault) (says_none c.take_group.result c.in_ok-home.home c.in_ok-home.was) c.take_group.ensures.works)) c.take_group.ensures.works.shape (c.take_group.ensures.writes told)
    (writes_alone c.args.t.node.0 c.take_group.new.store c.write_there.new.store (g.D.Disk.state c.take_group.new.disk).block (g.D.Disk.state c.write_there.new.disk).block (c.write_there.ensures.writes told))

pub returns-in_ok-write_there-in-Some-Some-clause-writes : goal.returns-in_ok-write_there-in-Some-Some-clause-writes
returns-in_ok-write_there-in-Some-Some-clause-writes g c = λ told.
    writes_then c.args.t.node.0 c.args.store.now c.take_group.new.store c.write_there.new.store (g.D.Disk.state c.args.disk.now).block (g.D.Disk.state c.take_group.new.disk).block (g.D.Disk.state c.write_there.new.disk).block (worker_before c.args.t.node.0 NoStop c.args.store.now c.take_group.new.store (g.D.Disk.state c.args.disk.now) (g.D.Disk.state c.take_group.new.disk) (g.V.Disk.state c.args.vault.now) (g.V.Disk.state c.take_group.new.vault) (works_said c.args.t.node.0 (SaysStopOf c.take_group.result) NoStop c.args.store.now c.take_group.new.store (g.D.Disk.state c.args.disk.now) (g.D.Disk.state c.take_group.new.disk) (g.V.Disk.state c.args.vault.now) (g.V.Disk.state c.take_group.new.vault) (says_none c.take_group.result c.in_ok-home.home c.in_ok-home.was) c.take_group.ensures.works)) c.take_group.ensures.works.shape (c.take_group.ensures.writes told)
    (writes_alone c.args.t.node.0 c.take_group.new.store c.write_there.new.store (g.D.Disk.state c.take_group.new.disk).block (g.D.Disk.state c.write_there.new.disk).block (c.write_there.ensures.writes told))

pub returns-in_default-clause-works : goal.returns-in_default-clause-works
returns-in_default-clause-works g c = works_locked c.args.t.node.0 NoStop c.args.store.now c.take_group.new.store c.take.new.self (g.D.Disk.state c.args.disk.now) (g.D.Disk.state c.take_group.new.disk) (g.V.Disk.state c.args.vault.now) (g.V.Disk.state c.take_group.new.vault) (works_said c.args.t.node.0 (SaysStopOf c.take_group.result) NoStop c.args.store.now c.take_group.new.store (g.D.Disk.state c.args.disk.now) (g.D.Disk.state c.take_group.new.disk) (g.V.Disk.state c.args.vault.now) (g.V.Disk.state c.take_group.new.vault) (says_none c.take_group.result c.in_ok-home.home c.in_ok-home.was) c.take_group.ensures.works)

pub returns-in_default-clause-writes : goal.returns-in_default-clause-writes
returns-in_default-clause-writes g c = λ told. writes_locked c.args.t.node.0 c.args.store.now c.take_group.new.store c.take.new.self (g.D.Disk.state c.args.disk.now).block (g.D.Disk.state c.take_group.new.disk).block (c.take_group.ensures.writes told)

-- ---- which pages make room

pub returns-in_ok-write_there-in-Some-Some-clause-made_room : goal.returns-in_ok-write_there-in-Some-Some-clause-made_room
returns-in_ok-write_there-in-Some-Some-clause-made_room g c = λ told.
    room_then c.args.t.node c.args.key c.args.store.now c.take_group.new.store c.write_there.new.store (g.D.Disk.state c.args.disk.now).block (g.D.Disk.state c.take_group.new.disk).block (g.D.Disk.state c.write_there.new.disk).block c.take_group.ensures.works.shape
    (c.in_ok-home.ensures.made_room told) (c.in_ok-write_there-in-Some-Some.ensures.pages told)

pub returns-in_default-clause-made_room : goal.returns-in_default-clause-made_room
returns-in_default-clause-made_room g c = λ told. c.in_ok-home.ensures.made_room told

-- ---- what is refused leaves locks and transactions

pub returns-in_err-home-clause-kept : goal.returns-in_err-home-clause-kept
returns-in_err-home-clause-kept g c =
    passed_on c.from_residual.result _ (λ why. says_stop why ≡ false → KeepsWork c.args.t.node.0 c.args.store.now c.take_group.new.store) c.from_residual.ensures.1
    (λ why same. subst (λ e. says_stop e ≡ false → KeepsWork c.args.t.node.0 c.args.store.now c.take_group.new.store) (sym same) c.in_err-home.ensures.work)

pub returns-in_err-write_there-in-Some-Some-clause-kept : goal.returns-in_err-write_there-in-Some-Some-clause-kept
returns-in_err-write_there-in-Some-Some-clause-kept g c =
    passed_on c.from_residual-in_err-write_there-in-Some-Some.result _ (λ why. says_stop why ≡ false → KeepsWork c.args.t.node.0 c.args.store.now c.write_there.new.store) c.from_residual-in_err-write_there-in-Some-Some.ensures.1
    (λ why same runs.
    let still = c.in_err-write_there-in-Some-Some.ensures.kept (ap says_stop (sym same) ∙ runs) in
    subst (KeepsWork c.args.t.node.0 c.args.store.now) (sym still.0) (unless_ok c.take_group.result c.in_ok-home.home c.in_ok-home.was c.take_group.ensures.work))
