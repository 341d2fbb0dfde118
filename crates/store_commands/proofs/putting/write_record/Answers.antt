use Rattle.std.specs.Prelude.{◌≡◌, ◌⊎◌, ◌≤◌, ◌<◌, false, Some, None, Err, IfErr, IfNone, IfSome, IsTrue, option_map, refl}
use Rattle.std.specs.List.{position}
use Rattle.std.proofs.Common.{ap, inl, inr, subst, sym, ◌∙◌}
use Rattle.sd_base.specs.Shape.{page_count}
use Rattle.sd_base.specs.declared.names.PageNo.{PageNo}
use Rattle.sd_base.specs.Places.{map_of_data, map_of_key, page_of_place}
use Rattle.sd_base.proofs.PlaceLaws.{map_of_key-below}
use Rattle.space_map.specs.Entry.{is_free}
use Rattle.private_log.specs.Reading.{contents}
use Rattle.record_locks.specs.declared.mode.Mode.TheVariants as locks
use Rattle.record_locks.specs.Answer.{lock_answer, may_take}
use Rattle.record_machine.specs.Commands.{takes_both}
use Rattle.record_machine.specs.Machine.{Machine, home, new_home}
use Rattle.record_machine.specs.Parts.{Take, dos, one}
use Rattle.record_machine.specs.Steps.{held}
use Rattle.store_nodes.specs.Causes.{IsToldOfPages}
use Rattle.store_nodes.specs.Footprint.{FillsNoBlock, KeepsHoldersBut, TookPage}
use Rattle.store_nodes.specs.Pages.{HasCached, KeepsWork, ShowsMap}
use Rattle.store_nodes.specs.Ports.{IsStopReply, SaysStopOf, says_stop}
use Rattle.store_nodes.specs.Shows.{IsShown}
use Rattle.store_commands.specs.AtHand.{CanWriteAt, HasBoth}
use Rattle.store_commands.specs.Faults.{IsFaultFor, IsWriteReason}
use Rattle.store_commands.specs.Reasons.{HasNoPage, IsPageFor, IsWriteRefusal}
use Rattle.store_commands.proofs.Memory.{no_place, place_fills, places_cached}
use Rattle.store_commands.proofs.RoomMade.{room_both, room_then}
use Rattle.store_commands.proofs.ShownImages.{map_of_key_is}
use Rattle.store_commands.proofs.ShownLocks.{takes_home}
use Rattle.store_commands.proofs.Stopping.{done_on, unless_ok, unless_then}
use Rattle.store_commands.proofs.Targets.{target_anew, target_failed, target_none, target_some, target_there, unless_runs}
use Rattle.store_commands.proofs.Testing.{error_then, never, on_done, passed_on, the_error}
use Rattle.store_commands.proofs.Told.{busy_kept, refusal_told, stop_told}
use Rattle.store_commands.proofs.With.{NoStop, reason_before, says_none, says_on, stop_for, work_then, worker_before, works_alone, works_said, works_then, writes_alone, writes_then}
use Rattle.store_commands.proofs.WriteParts.{changes_anew, changes_there, once_taken}
use Rattle.store_commands.proofs.putting.write_record.Given as given
use Rattle.store_commands.proofs.putting.write_record.Goals as goal

-- ---- what is answered

pub returns-in_err-x-clause-step : goal.returns-in_err-x-clause-step
returns-in_err-x-clause-step g c = λ told m shown.
    let e = the_error c.from_residual.result _ c.from_residual.ensures.1 in
    target_failed m c.args.t c.args.key _ _ c.take_group.result c.from_residual.result e.0 (IsShown c.take_group.new.store (g.D.Disk.state c.take_group.new.disk).block) (c.in_err-x.was ∙ ap Err (sym e.2)) e.1 (c.take_group.ensures.step told m shown)

-- what the machine shows once the pages of the group were taken
taken_some : (g : given.Over) (c : goal.After-write_there g) → IsTrue g.D.Disk.told → (m : Machine) → IsShown c.args.store.now (g.D.Disk.state c.args.disk.now).block m
    → (held m (takes_both m c.args.t.node.0 c.args.key.0 (home m c.args.key.0)) ≡ None) × IsShown c.take_group.new.store (g.D.Disk.state c.take_group.new.disk).block (once_taken m c.args.t c.args.key)
taken_some g c told m shown = done_on m (takes_both m c.args.t.node.0 c.args.key.0 (home m c.args.key.0)) c.take_group.result c.in_ok-x.field-0 (IsShown c.take_group.new.store (g.D.Disk.state c.take_group.new.disk).block) c.in_ok-x.was (c.take_group.ensures.step told m shown)

taken_none : (g : given.Over) (c : goal.After-write_anew g) → IsTrue g.D.Disk.told → (m : Machine) → IsShown c.args.store.now (g.D.Disk.state c.args.disk.now).block m
    → (held m (takes_both m c.args.t.node.0 c.args.key.0 (home m c.args.key.0)) ≡ None) × IsShown c.take_group.new.store (g.D.Disk.state c.take_group.new.disk).block (once_taken m c.args.t c.args.key)
taken_none g c told m shown = done_on m (takes_both m c.args.t.node.0 c.args.key.0 (home m c.args.key.0)) c.take_group.result c.in_ok-x.field-0 (IsShown c.take_group.new.store (g.D.Disk.state c.take_group.new.disk).block) c.in_ok-x.was (c.take_group.ensures.step told m shown)

pub returns-in-Some-clause-step : goal.returns-in-Some-clause-step
returns-in-Some-clause-step g c = λ told m shown.
    let key = c.args.key.0 in
    let here : home m key ≡ Some c.in-Some.x.0 = sym (c.in_ok-x.ensures.found told m shown) ∙ ap (option_map (λ x. x.0)) c.in-Some.is in
    let taken = taken_some g c told m shown in
    let there = takes_home m c.args.t.node.0 key key (home m key) ∙ here in
    let S : Machine → Type 0 = IsShown c.write_there.new.store (g.D.Disk.state c.write_there.new.disk).block in
    unless_runs c.write_there.result (λ runs.
    target_there m c.args.t c.args.key c.in-Some.x.0 c.write_there.result S here taken.0
    (changes_there m c.args.t c.args.key c.args.what.now c.in-Some.x.0 c.write_there.result S here (c.write_there.ensures.step told runs (once_taken m c.args.t c.args.key) there taken.1)))

pub returns-in-None-clause-step : goal.returns-in-None-clause-step
returns-in-None-clause-step g c = λ told m shown.
    let key = c.args.key.0 in
    let none : home m key ≡ None = sym (c.in_ok-x.ensures.found told m shown) ∙ ap (option_map (λ x. x.0)) c.in-None.is in
    let taken = taken_none g c told m shown in
    let still = takes_home m c.args.t.node.0 key key (home m key) ∙ none in
    let S : Machine → Type 0 = IsShown c.write_anew.new.store (g.D.Disk.state c.write_anew.new.disk).block in
    unless_then c.write_anew.result
    (target_anew m c.args.t c.args.key c.write_anew.result S shown.1.nodes.means.pages.shape none taken.0 (changes_anew m c.args.t c.args.key c.args.what.now c.write_anew.result S none))
    (c.write_anew.ensures.step told (once_taken m c.args.t c.args.key) still taken.1)

-- ---- what its calls ask

pub write_there-requires-clause-busy : goal.write_there-requires-clause-busy
write_there-requires-clause-busy g c = busy_kept c.args.store.now c.take_group.new.store c.args.t.node.0 c.args.t (unless_ok c.take_group.result c.in_ok-x.field-0 c.in_ok-x.was c.take_group.ensures.work) c.requires.busy

pub write_there-requires-clause-lock : goal.write_there-requires-clause-lock
write_there-requires-clause-lock g c = subst (λ held. IsTrue (may_take (lock_answer held c.args.key c.args.t locks.Write))) (sym (unless_ok c.take_group.result c.in_ok-x.field-0 c.in_ok-x.was c.take_group.ensures.work).locks) c.requires.lock

pub write_anew-requires-clause-busy : goal.write_anew-requires-clause-busy
write_anew-requires-clause-busy g c = busy_kept c.args.store.now c.take_group.new.store c.args.t.node.0 c.args.t (unless_ok c.take_group.result c.in_ok-x.field-0 c.in_ok-x.was c.take_group.ensures.work) c.requires.busy

pub write_anew-requires-clause-lock : goal.write_anew-requires-clause-lock
write_anew-requires-clause-lock g c = subst (λ held. IsTrue (may_take (lock_answer held c.args.key c.args.t locks.Write))) (sym (unless_ok c.take_group.result c.in_ok-x.field-0 c.in_ok-x.was c.take_group.ensures.work).locks) c.requires.lock

-- ---- where all is in memory

pub returns-in_err-x-clause-memory : goal.returns-in_err-x-clause-memory
returns-in_err-x-clause-memory g c = λ hand.
    let n = c.args.t.node.0 in
    let at = map_of_key c.args.store.now.shape c.args.key.0 in
    let hit = c.take_group.ensures.hit hand.there.image hand.there.map (places_cached c.args.store.now n at 1 _ hand.there.used) in
    absurd (never c.take_group.result _ hit.0 c.in_err-x.was)

pub returns-in-Some-clause-memory : goal.returns-in-Some-clause-memory
returns-in-Some-clause-memory g c = λ hand.
    let n = c.args.t.node.0 in
    let at = map_of_key c.args.store.now.shape c.args.key.0 in
    let hit = c.take_group.ensures.hit hand.there.image hand.there.map (places_cached c.args.store.now n at 1 _ hand.there.used) in
    let found = ap (option_map (λ x. x.0)) (sym c.in-Some.is) ∙ c.in_ok-x.ensures.map hand.there.image (subst (λ v. ShowsMap v n (record { 0 = at }) hand.there.image) (sym hit.1) hand.there.map) in
    let room = place_fills c.args.store.now n at 1 c.in-Some.x.0 (page_of_place c.args.store.now.shape at) _ found hand.there.used in
    let same = c.write_there.ensures.memory (subst (λ v. FillsNoBlock v n 1) (sym hit.1) room) in
    (same.0 ∙ hit.2, same.1 ∙ hit.3)

pub returns-in-None-clause-memory : goal.returns-in-None-clause-memory
returns-in-None-clause-memory g c = λ hand.
    let n = c.args.t.node.0 in
    let at = map_of_key c.args.store.now.shape c.args.key.0 in
    let hit = c.take_group.ensures.hit hand.there.image hand.there.map (places_cached c.args.store.now n at 1 _ hand.there.used) in
    let found = ap (option_map (λ x. x.0)) (sym c.in-None.is) ∙ c.in_ok-x.ensures.map hand.there.image (subst (λ v. ShowsMap v n (record { 0 = at }) hand.there.image) (sym hit.1) hand.there.map) in
    let free = hand.free (no_place (page_of_place c.args.store.now.shape at) _ found) in
    let same = c.write_anew.ensures.memory hand.there.image (subst (λ v. ShowsMap v n (record { 0 = map_of_key v.shape c.args.key.0 }) hand.there.image) (sym hit.1) hand.there.map)
    (subst (λ v. IfSome (position is_free hand.there.image.entries) (CanWriteAt v n (map_of_key v.shape c.args.key.0) 2)) (sym hit.1) free) in
    (same.0 ∙ hit.2, same.1 ∙ hit.3)

-- ---- why it isn't written

pub returns-in_err-x-clause-refused : goal.returns-in_err-x-clause-refused
returns-in_err-x-clause-refused g c =
    passed_on c.from_residual.result _ (IsWriteReason c.args.store.now c.take_group.new.store c.args.t.node.0 c.args.key c.args.what.now) c.from_residual.ensures.1
    (λ why same. inr (subst (IsFaultFor c.args.store.now c.args.t.node.0 c.args.key) (sym same) c.in_err-x.ensures.fault))

pub returns-in_err-x-clause-told : goal.returns-in_err-x-clause-told
returns-in_err-x-clause-told g c = λ told.
    passed_on c.from_residual.result _ (IsToldOfPages c.args.store.now.shape (contents (g.D.Disk.state c.take_group.new.disk).block)) c.from_residual.ensures.1
    (λ why same. subst (IsToldOfPages c.args.store.now.shape (contents (g.D.Disk.state c.take_group.new.disk).block)) (sym same) (c.in_err-x.ensures.told told))

-- the page that the group has is one for the key
its_page : (g : given.Over) (c : goal.After-write_there g) → IsPageFor c.take_group.new.store.shape c.args.key c.in-Some.x
its_page g c = subst (λ s. IsPageFor s c.args.key c.in-Some.x) (sym c.take_group.ensures.works.shape) (subst (λ o. IfSome o (IsPageFor c.args.store.now.shape c.args.key)) c.in-Some.is c.in_ok-x.ensures.for_key)

pub returns-in-Some-clause-refused : goal.returns-in-Some-clause-refused
returns-in-Some-clause-refused g c =
    error_then c.write_there.result (λ why. IsStopReply c.args.t.node.0 why ⊎ IsWriteRefusal c.write_there.new.store c.args.t.node.0 c.args.key c.args.what.now why) (IsWriteReason c.args.store.now c.write_there.new.store c.args.t.node.0 c.args.key c.args.what.now) (c.write_there.ensures.refused (its_page g c))
    (λ why is. elim is [ inl stops ↦ inr (stop_for c.args.store.now c.args.t.node.0 c.args.key why stops) | inr refused ↦ inl refused ])

pub returns-in-Some-clause-told : goal.returns-in-Some-clause-told
returns-in-Some-clause-told g c = λ told.
    error_then c.write_there.result (λ why. IsStopReply c.args.t.node.0 why ⊎ IsWriteRefusal c.write_there.new.store c.args.t.node.0 c.args.key c.args.what.now why) (IsToldOfPages c.args.store.now.shape (contents (g.D.Disk.state c.write_there.new.disk).block)) (c.write_there.ensures.refused (its_page g c))
    (λ why is. elim is [ inl stops ↦ stop_told c.args.store.now.shape (contents (g.D.Disk.state c.write_there.new.disk).block) c.args.t.node.0 why stops | inr refused ↦ refusal_told c.args.store.now.shape (contents (g.D.Disk.state c.write_there.new.disk).block) c.write_there.new.store c.args.t.node.0 c.args.key c.args.what.now why refused ])

-- it has none
no_page : (g : given.Over) (c : goal.After-write_anew g) → HasNoPage c.take_group.new.store c.args.t.node.0 c.args.key
no_page g c = subst (λ o. IfNone o (HasNoPage c.take_group.new.store c.args.t.node.0 c.args.key)) c.in-None.is c.in_ok-x.ensures.none

pub returns-in-None-clause-refused : goal.returns-in-None-clause-refused
returns-in-None-clause-refused g c =
    error_then c.write_anew.result (IsWriteReason c.take_group.new.store c.write_anew.new.store c.args.t.node.0 c.args.key c.args.what.now) (IsWriteReason c.args.store.now c.write_anew.new.store c.args.t.node.0 c.args.key c.args.what.now) (c.write_anew.ensures.refused (no_page g c))
    (λ why. reason_before c.args.store.now c.take_group.new.store c.write_anew.new.store c.args.t.node.0 c.args.key c.args.what.now why c.take_group.ensures.works.shape (worker_before c.args.t.node.0 NoStop c.args.store.now c.take_group.new.store (g.D.Disk.state c.args.disk.now) (g.D.Disk.state c.take_group.new.disk) (g.V.Disk.state c.args.vault.now) (g.V.Disk.state c.take_group.new.vault) (works_said c.args.t.node.0 (SaysStopOf c.take_group.result) NoStop c.args.store.now c.take_group.new.store (g.D.Disk.state c.args.disk.now) (g.D.Disk.state c.take_group.new.disk) (g.V.Disk.state c.args.vault.now) (g.V.Disk.state c.take_group.new.vault) (says_none c.take_group.result c.in_ok-x.field-0 c.in_ok-x.was) c.take_group.ensures.works)) (unless_ok c.take_group.result c.in_ok-x.field-0 c.in_ok-x.was c.take_group.ensures.holders))

pub returns-in-None-clause-told : goal.returns-in-None-clause-told
returns-in-None-clause-told g c = λ told. subst (λ s. IfErr c.write_anew.result (IsToldOfPages s (contents (g.D.Disk.state c.write_anew.new.disk).block))) c.take_group.ensures.works.shape (c.write_anew.ensures.told told (no_page g c))

-- ---- what it leaves

pub returns-in_err-x-clause-works : goal.returns-in_err-x-clause-works
returns-in_err-x-clause-works g c =
    let e = the_error c.from_residual.result _ c.from_residual.ensures.1 in
    works_said c.args.t.node.0 (SaysStopOf c.take_group.result) (SaysStopOf c.from_residual.result) c.args.store.now c.take_group.new.store (g.D.Disk.state c.args.disk.now) (g.D.Disk.state c.take_group.new.disk) (g.V.Disk.state c.args.vault.now) (g.V.Disk.state c.take_group.new.vault)
    (says_on c.take_group.result c.from_residual.result e.0 (c.in_err-x.was ∙ ap Err (sym e.2)) e.1) c.take_group.ensures.works

pub returns-in-Some-clause-works : goal.returns-in-Some-clause-works
returns-in-Some-clause-works g c =
    works_then c.args.t.node.0 (SaysStopOf c.write_there.result) c.args.store.now c.take_group.new.store c.write_there.new.store (g.D.Disk.state c.args.disk.now) (g.D.Disk.state c.take_group.new.disk) (g.D.Disk.state c.write_there.new.disk) (g.V.Disk.state c.args.vault.now) (g.V.Disk.state c.take_group.new.vault) (g.V.Disk.state c.write_there.new.vault) (works_said c.args.t.node.0 (SaysStopOf c.take_group.result) NoStop c.args.store.now c.take_group.new.store (g.D.Disk.state c.args.disk.now) (g.D.Disk.state c.take_group.new.disk) (g.V.Disk.state c.args.vault.now) (g.V.Disk.state c.take_group.new.vault) (says_none c.take_group.result c.in_ok-x.field-0 c.in_ok-x.was) c.take_group.ensures.works)
    (works_alone c.args.t.node.0 (SaysStopOf c.write_there.result) c.take_group.new.store c.write_there.new.store (g.D.Disk.state c.take_group.new.disk) (g.D.Disk.state c.write_there.new.disk) (g.V.Disk.state c.take_group.new.vault) (g.V.Disk.state c.write_there.new.vault) c.write_there.ensures.works)

pub returns-in-None-clause-works : goal.returns-in-None-clause-works
returns-in-None-clause-works g c = works_then c.args.t.node.0 (SaysStopOf c.write_anew.result) c.args.store.now c.take_group.new.store c.write_anew.new.store (g.D.Disk.state c.args.disk.now) (g.D.Disk.state c.take_group.new.disk) (g.D.Disk.state c.write_anew.new.disk) (g.V.Disk.state c.args.vault.now) (g.V.Disk.state c.take_group.new.vault) (g.V.Disk.state c.write_anew.new.vault) (works_said c.args.t.node.0 (SaysStopOf c.take_group.result) NoStop c.args.store.now c.take_group.new.store (g.D.Disk.state c.args.disk.now) (g.D.Disk.state c.take_group.new.disk) (g.V.Disk.state c.args.vault.now) (g.V.Disk.state c.take_group.new.vault) (says_none c.take_group.result c.in_ok-x.field-0 c.in_ok-x.was) c.take_group.ensures.works) c.write_anew.ensures.works

pub returns-in-Some-clause-writes : goal.returns-in-Some-clause-writes
returns-in-Some-clause-writes g c = λ told.
    writes_then c.args.t.node.0 c.args.store.now c.take_group.new.store c.write_there.new.store (g.D.Disk.state c.args.disk.now).block (g.D.Disk.state c.take_group.new.disk).block (g.D.Disk.state c.write_there.new.disk).block (worker_before c.args.t.node.0 NoStop c.args.store.now c.take_group.new.store (g.D.Disk.state c.args.disk.now) (g.D.Disk.state c.take_group.new.disk) (g.V.Disk.state c.args.vault.now) (g.V.Disk.state c.take_group.new.vault) (works_said c.args.t.node.0 (SaysStopOf c.take_group.result) NoStop c.args.store.now c.take_group.new.store (g.D.Disk.state c.args.disk.now) (g.D.Disk.state c.take_group.new.disk) (g.V.Disk.state c.args.vault.now) (g.V.Disk.state c.take_group.new.vault) (says_none c.take_group.result c.in_ok-x.field-0 c.in_ok-x.was) c.take_group.ensures.works)) c.take_group.ensures.works.shape (c.take_group.ensures.writes told)
    (writes_alone c.args.t.node.0 c.take_group.new.store c.write_there.new.store (g.D.Disk.state c.take_group.new.disk).block (g.D.Disk.state c.write_there.new.disk).block (c.write_there.ensures.writes told))

pub returns-in-None-clause-writes : goal.returns-in-None-clause-writes
returns-in-None-clause-writes g c = λ told.
    writes_then c.args.t.node.0 c.args.store.now c.take_group.new.store c.write_anew.new.store (g.D.Disk.state c.args.disk.now).block (g.D.Disk.state c.take_group.new.disk).block (g.D.Disk.state c.write_anew.new.disk).block (worker_before c.args.t.node.0 NoStop c.args.store.now c.take_group.new.store (g.D.Disk.state c.args.disk.now) (g.D.Disk.state c.take_group.new.disk) (g.V.Disk.state c.args.vault.now) (g.V.Disk.state c.take_group.new.vault) (works_said c.args.t.node.0 (SaysStopOf c.take_group.result) NoStop c.args.store.now c.take_group.new.store (g.D.Disk.state c.args.disk.now) (g.D.Disk.state c.take_group.new.disk) (g.V.Disk.state c.args.vault.now) (g.V.Disk.state c.take_group.new.vault) (says_none c.take_group.result c.in_ok-x.field-0 c.in_ok-x.was) c.take_group.ensures.works)) c.take_group.ensures.works.shape (c.take_group.ensures.writes told) (c.write_anew.ensures.writes told)

-- ---- both pages are cached

pub returns-in-Some-clause-taken : goal.returns-in-Some-clause-taken
returns-in-Some-clause-taken g c = on_done c.write_there.result c.write_there.ensures.pages (λ kept told m shown.
    let n = c.args.t.node.0 in
    let now = c.args.store.now in
    let is = sym (c.in_ok-x.ensures.found told m shown) ∙ ap (option_map (λ x. x.0)) c.in-Some.is in
    let number : ◌≡◌ {A = PageNo} (record { 0 = map_of_key now.shape c.args.key.0 }) (record { 0 = map_of_key m.shape c.args.key.0 }) = ap (λ k. record { 0 = k }) (sym (map_of_key_is now n (g.D.Disk.state c.args.disk.now).block m c.requires.ready.is c.requires.node c.requires.up shown c.args.key.0)) in
    let page = subst (λ o. IfSome o (λ x. (now.shape.maps ≤ x.0) × (x.0 < page_count now.shape) × HasCached c.take_group.new.store n x)) c.in-Some.is c.in_ok-x.ensures.page in (
      subst (HasCached c.write_there.new.store n) number ((kept told).still _ c.in_ok-x.ensures.map_cached),
      subst (λ o. IfSome o (λ k. HasCached c.write_there.new.store n (record { 0 = k }))) (sym (target_some m c.args.key.0 c.in-Some.x.0 is)) ((kept told).still c.in-Some.x page.2),
    ))

pub returns-in-None-clause-taken : goal.returns-in-None-clause-taken
returns-in-None-clause-taken g c = on_done c.write_anew.result c.write_anew.ensures.taken (λ taken told m shown.
    let n = c.args.t.node.0 in
    let key = c.args.key.0 in
    let none : home m key ≡ None = sym (c.in_ok-x.ensures.found told m shown) ∙ ap (option_map (λ x. x.0)) c.in-None.is in
    let first : once_taken m c.args.t c.args.key ≡ one (Take (map_of_key m.shape key) n) m = ap (λ o. dos (takes_both m n key o) m) none in
    let both = taken told (once_taken m c.args.t c.args.key) (takes_home m n key key (home m key) ∙ none) (taken_none g c told m shown).1 in
    subst (HasBoth c.write_anew.new.store n m key) (sym (target_none m key none)) (subst (λ k. HasBoth c.write_anew.new.store n k key (new_home k key)) first both))

pub write_there-requires-clause-quiet : goal.write_there-requires-clause-quiet
write_there-requires-clause-quiet g c = λ told. (c.take_group.ensures.writes told).quiet

pub write_anew-requires-clause-quiet : goal.write_anew-requires-clause-quiet
write_anew-requires-clause-quiet g c = λ told. (c.take_group.ensures.writes told).quiet

-- ---- which pages make room

pub returns-in-Some-clause-made_room : goal.returns-in-Some-clause-made_room
returns-in-Some-clause-made_room g c = on_done c.write_there.result c.write_there.ensures.pages (λ kept told.
    room_then c.args.t.node c.args.key c.args.store.now c.take_group.new.store c.write_there.new.store (g.D.Disk.state c.args.disk.now).block (g.D.Disk.state c.take_group.new.disk).block (g.D.Disk.state c.write_there.new.disk).block c.take_group.ensures.works.shape
    (c.in_ok-x.ensures.made_room told) (kept told))

pub returns-in-None-clause-made_room : goal.returns-in-None-clause-made_room
returns-in-None-clause-made_room g c = on_done c.write_anew.result c.write_anew.ensures.made_room (λ made told.
    let m = made told in
    let now = c.args.store.now in
    let mid = c.take_group.new.store in
    let key = c.args.key in
    let same = c.take_group.ensures.works.shape in
    let map : PageNo = record { 0 = map_of_key now.shape key.0 } in
    let a = (g.D.Disk.state c.args.disk.now).block in
    let b = (g.D.Disk.state c.take_group.new.disk).block in
    let far = subst (λ s. s.maps ≤ m.0.0) same m.1 in
    room_both c.args.t.node key map m.0 now mid c.write_anew.new.store a b (g.D.Disk.state c.write_anew.new.disk).block same (map_of_key-below now.shape key.0 c.requires.ready.is.shared.shape) far
    (subst (λ s. map_of_data s m.0 ≡ record { 0 = map_of_key s key.0 }) same m.2) (inl refl) (subst (λ s. IsPageFor s key m.0) same m.3)
    (subst (λ o. IfNone o (KeepsHoldersBut map now mid)) c.in-None.is c.in_ok-x.ensures.owners)
    (subst (λ o. IfNone o (IsTrue g.D.Disk.told → TookPage c.args.t.node map now mid a b)) c.in-None.is c.in_ok-x.ensures.took told) m.4)

-- ---- what is refused leaves locks and transactions

pub returns-in_err-x-clause-kept : goal.returns-in_err-x-clause-kept
returns-in_err-x-clause-kept g c =
    passed_on c.from_residual.result _ (λ why. says_stop why ≡ false → KeepsWork c.args.t.node.0 c.args.store.now c.take_group.new.store) c.from_residual.ensures.1
    (λ why same. subst (λ e. says_stop e ≡ false → KeepsWork c.args.t.node.0 c.args.store.now c.take_group.new.store) (sym same) c.in_err-x.ensures.work)

pub returns-in-Some-clause-kept : goal.returns-in-Some-clause-kept
returns-in-Some-clause-kept g c =
    let n = c.args.t.node.0 in
    error_then c.write_there.result _ (λ why. says_stop why ≡ false → KeepsWork n c.args.store.now c.write_there.new.store) c.write_there.ensures.kept
    (λ why same runs. subst (KeepsWork n c.args.store.now) (sym (same runs).0) (unless_ok c.take_group.result c.in_ok-x.field-0 c.in_ok-x.was c.take_group.ensures.work))

pub returns-in-None-clause-kept : goal.returns-in-None-clause-kept
returns-in-None-clause-kept g c =
    let n = c.args.t.node.0 in
    error_then c.write_anew.result _ (λ why. says_stop why ≡ false → KeepsWork n c.args.store.now c.write_anew.new.store) c.write_anew.ensures.kept
    (λ why kept runs. work_then n c.args.store.now c.take_group.new.store c.write_anew.new.store (unless_ok c.take_group.result c.in_ok-x.field-0 c.in_ok-x.was c.take_group.ensures.work) (kept runs))
