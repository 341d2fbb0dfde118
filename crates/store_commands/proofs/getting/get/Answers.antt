use Rattle.std.specs.Prelude.{◌≡◌, false, Ok, Err, IfSome, IsTrue, refl}
use Rattle.std.proofs.Common.{ap, subst, sym, ◌∙◌}
use Rattle.sd_base.specs.Places.{map_of_key}
use Rattle.sd_base.specs.declared.names.PageNo.{PageNo}
use Rattle.private_log.specs.Reading.{contents}
use Rattle.record_locks.specs.declared.mode.Mode.TheVariants as locks
use Rattle.record_locks.specs.Answer.{lock_answer, may_take}
use Rattle.script_text.specs.declared.command.Command.TheVariants as asks
use Rattle.record_machine.specs.Commands.{found, parts, takes, takes_both}
use Rattle.record_machine.specs.Machine.{Machine, home}
use Rattle.record_machine.specs.Parts.{dos}
use Rattle.store_nodes.specs.Causes.{IsToldOfPages}
use Rattle.store_nodes.specs.Pages.{HasCached, KeepsWork}
use Rattle.store_nodes.specs.Shows.{IsShown}
use Rattle.store_nodes.specs.Ports.{SaysStopOf, says_stop}
use Rattle.store_commands.specs.Faults.{IsFaultFor}
use Rattle.store_commands.specs.Reasons.{IsPageFor}
use Rattle.store_commands.proofs.Groups.{both_cached}
use Rattle.store_commands.proofs.Refusals.{found_in}
use Rattle.store_commands.proofs.ShownImages.{map_of_key_is}
use Rattle.store_commands.proofs.ShownLocks.{found_is, locks_behind, still_within, taken_read, with_locks}
use Rattle.store_commands.proofs.Stopping.{done_on, stop_on, unless_ok}
use Rattle.store_commands.proofs.Taken.{is_free}
use Rattle.store_commands.proofs.Testing.{passed_on, the_error}
use Rattle.store_commands.proofs.With.{NoStop, says_none, says_on, works_locked, works_said, writes_locked}
use Rattle.store_commands.proofs.getting.get.Given as given
use Rattle.store_commands.proofs.getting.get.Goals as goal

pub returns-in_err-home-clause-step : goal.returns-in_err-home-clause-step
returns-in_err-home-clause-step g c = λ told m shown.
    let e = the_error c.from_residual.result _ c.from_residual.ensures.1 in
    stop_on _ _ m (takes m (asks.Get c.args.t c.args.key)) c.take_group.result c.from_residual.result e.0 (IsShown c.take_group.new.store (g.D.Disk.state c.take_group.new.disk).block) (c.in_err-home.was ∙ ap Err (sym e.2)) e.1 (c.take_group.ensures.step told m shown)

pub returns-clause-answer : goal.returns-clause-answer
returns-clause-answer g c = λ told m shown.
    let t = c.args.t in
    let free = subst (λ held. IsTrue (may_take (lock_answer held c.args.key t locks.Read))) (sym (unless_ok c.take_group.result c.in_ok-home.home c.in_ok-home.was c.take_group.ensures.work).locks) c.requires.lock in
    let b = (g.D.Disk.state c.take_group.new.disk).block in
    let taken = done_on m (takes_both m t.node.0 c.args.key.0 (home m c.args.key.0)) c.take_group.result c.in_ok-home.home (IsShown c.take_group.new.store b) c.in_ok-home.was (c.take_group.ensures.step told m shown) in
    found_is c.record_in-value.result ∙ ap found (taken_read c.take_group.new.store t.node.0 b m c.take_group.ensures.works.ready.is c.requires.node c.in_ok-home.ensures.up c.args.key t locks.Read c.in_ok-home.home c.record_in-value.result
    free (c.in_ok-home.ensures.found told m shown) (still_within c.in_ok-home.home c.args.store.now.shape c.take_group.new.store.shape _ c.take_group.ensures.works.shape c.in_ok-home.ensures.page) c.record_in-value.ensures.none c.record_in-value.ensures.some c.record_in-value.ensures.there taken.1)

pub returns-clause-step : goal.returns-clause-step
returns-clause-step g c = λ told m shown.
    let t = c.args.t in
    let key = c.args.key in
    let now = c.take_group.new.store in
    let free = subst (λ held. IsTrue (may_take (lock_answer held key t locks.Read))) (sym (unless_ok c.take_group.result c.in_ok-home.home c.in_ok-home.was c.take_group.ensures.work).locks) c.requires.lock in
    let b = (g.D.Disk.state c.take_group.new.disk).block in
    let taken = done_on m (takes_both m t.node.0 key.0 (home m key.0)) c.take_group.result c.in_ok-home.home (IsShown now b) c.in_ok-home.was (c.take_group.ensures.step told m shown) in
    let more = locks_behind now b m key t locks.Read free taken.1 in
    let S : Machine → Type 0 = IsShown (with_locks now c.take.new.self) b in
    let locked : S (dos (parts m (asks.Get t key)) m) = subst (λ held. IsShown (with_locks now held) b (dos (parts m (asks.Get t key)) m)) (sym c.take.ensures) more in
    is_free m (takes m (asks.Get t key)) (Ok c.record_in-value.result) S taken.0 (refl, locked)

-- ---- why no record is found

pub returns-in_err-home-clause-fault : goal.returns-in_err-home-clause-fault
returns-in_err-home-clause-fault g c =
    passed_on c.from_residual.result _ (IsFaultFor c.args.store.now c.args.t.node.0 c.args.key) c.from_residual.ensures.1 (λ why same. subst (IsFaultFor c.args.store.now c.args.t.node.0 c.args.key) (sym same) c.in_err-home.ensures.fault)

pub returns-in_err-home-clause-told : goal.returns-in_err-home-clause-told
returns-in_err-home-clause-told g c = λ told.
    passed_on c.from_residual.result _ (IsToldOfPages c.args.store.now.shape (contents (g.D.Disk.state c.take_group.new.disk).block)) c.from_residual.ensures.1
    (λ why same. subst (IsToldOfPages c.args.store.now.shape (contents (g.D.Disk.state c.take_group.new.disk).block)) (sym same) (c.in_err-home.ensures.told told))

-- ---- what is found

pub returns-clause-read : goal.returns-clause-read
returns-clause-read g c =
    found_in c.take_group.new.store c.args.t.node.0 c.args.key c.in_ok-home.home c.record_in-value.result c.in_ok-home.ensures.none (subst (λ s. IfSome c.in_ok-home.home (IsPageFor s c.args.key)) (sym c.take_group.ensures.works.shape) c.in_ok-home.ensures.for_key)
    c.record_in-value.ensures.none c.record_in-value.ensures.some c.record_in-value.ensures.there

-- ---- what it leaves

pub returns-in_err-home-clause-works : goal.returns-in_err-home-clause-works
returns-in_err-home-clause-works g c =
    let e = the_error c.from_residual.result _ c.from_residual.ensures.1 in
    works_said c.args.t.node.0 (SaysStopOf c.take_group.result) (SaysStopOf c.from_residual.result) c.args.store.now c.take_group.new.store (g.D.Disk.state c.args.disk.now) (g.D.Disk.state c.take_group.new.disk) (g.V.Disk.state c.args.vault.now) (g.V.Disk.state c.take_group.new.vault)
    (says_on c.take_group.result c.from_residual.result e.0 (c.in_err-home.was ∙ ap Err (sym e.2)) e.1) c.take_group.ensures.works

pub returns-clause-works : goal.returns-clause-works
returns-clause-works g c =
    works_locked c.args.t.node.0 NoStop c.args.store.now c.take_group.new.store c.take.new.self (g.D.Disk.state c.args.disk.now) (g.D.Disk.state c.take_group.new.disk) (g.V.Disk.state c.args.vault.now) (g.V.Disk.state c.take_group.new.vault)
    (works_said c.args.t.node.0 (SaysStopOf c.take_group.result) NoStop c.args.store.now c.take_group.new.store (g.D.Disk.state c.args.disk.now) (g.D.Disk.state c.take_group.new.disk) (g.V.Disk.state c.args.vault.now) (g.V.Disk.state c.take_group.new.vault) (says_none c.take_group.result c.in_ok-home.home c.in_ok-home.was) c.take_group.ensures.works)

pub returns-clause-writes : goal.returns-clause-writes
returns-clause-writes g c = λ told. writes_locked c.args.t.node.0 c.args.store.now c.take_group.new.store c.take.new.self (g.D.Disk.state c.args.disk.now).block (g.D.Disk.state c.take_group.new.disk).block (c.take_group.ensures.writes told)

-- both pages are cached
pub returns-clause-taken : goal.returns-clause-taken
returns-clause-taken g c = λ told m shown.
    let t = c.args.t in
    let n = t.node.0 in
    let now = with_locks c.take_group.new.store c.take.new.self in
    let number : ◌≡◌ {A = PageNo} (record { 0 = map_of_key c.args.store.now.shape c.args.key.0 }) (record { 0 = map_of_key m.shape c.args.key.0 }) = ap (λ k. record { 0 = k }) (sym (map_of_key_is c.args.store.now n (g.D.Disk.state c.args.disk.now).block m c.requires.ready.is c.requires.node c.requires.up shown c.args.key.0)) in
    (subst (HasCached now n) number c.in_ok-home.ensures.map_cached, both_cached now n c.in_ok-home.home (home m c.args.key.0) c.args.store.now.shape c.in_ok-home.ensures.page (c.in_ok-home.ensures.found told m shown))

pub returns-clause-made_room : goal.returns-clause-made_room
returns-clause-made_room g c = λ told. c.in_ok-home.ensures.made_room told

-- what is refused leaves locks and transactions
pub returns-in_err-home-clause-kept : goal.returns-in_err-home-clause-kept
returns-in_err-home-clause-kept g c =
    passed_on c.from_residual.result _ (λ why. says_stop why ≡ false → KeepsWork c.args.t.node.0 c.args.store.now c.take_group.new.store) c.from_residual.ensures.1
    (λ why same. subst (λ e. says_stop e ≡ false → KeepsWork c.args.t.node.0 c.args.store.now c.take_group.new.store) (sym same) c.in_err-home.ensures.work)
