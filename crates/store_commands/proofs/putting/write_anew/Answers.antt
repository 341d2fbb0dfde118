use Rattle.std.specs.Prelude.{◌≡◌, ◌≤◌, ◌<◌, ◌∷◌, [], ℕ, true, false, IsTrue, IfSome, Some, Err, option_map, refl}
use Rattle.std.proofs.Common.{arith, inl, inr, ap, subst, sym, ◌∙◌}
use Rattle.sd_base.specs.Shape.{page_count}
use Rattle.sd_base.specs.declared.names.PageNo.{PageNo}
use Rattle.sd_base.specs.Places.{group_of, map_of_key, page_of_place, slot_of_key}
use Rattle.sd_base.proofs.PlaceLaws.{map_of_its_place}
use Rattle.compensation.specs.Inverse.{content}
use Rattle.private_log.specs.Reading.{contents}
use Rattle.record_locks.specs.declared.mode.Mode.TheVariants as locks
use Rattle.record_locks.specs.Answer.{lock_answer, may_take}
use Rattle.script_text.specs.declared.reply.Reply.{Reply}
use Rattle.record_machine.specs.Commands.{at_limit, first_of, no_page}
use Rattle.record_machine.specs.Commands as wants
use Rattle.record_machine.specs.Machine.{Machine, home, seen}
use Rattle.record_machine.specs.Parts.{Take, Use, dos, one}
use Rattle.record_machine.specs.Steps.{held}
use Rattle.record_machine.proofs.UseSteps.{home_new}
use Rattle.store_nodes.specs.Causes.{IsToldOfPages}
use Rattle.store_nodes.specs.Footprint.{FillsNoBlock}
use Rattle.store_nodes.specs.Known.{checked}
use Rattle.store_nodes.specs.Nodes.{node_at}
use Rattle.store_nodes.specs.declared.node.Node.TheVariants.{Down}
use Rattle.store_nodes.specs.Pages.{HasCached, KeepsWork, ShowsMap, value_after}
use Rattle.store_nodes.specs.Ports.{HasCause, IsStopReply, SaysStopOf, UnlessStop, says_stop}
use Rattle.store_nodes.specs.Shows.{IsShown}
use Rattle.store_pages.proofs.WorksWith.{seats_same}
use Rattle.store_commands.specs.Answering.{Answers, new_parts, new_takes}
use Rattle.store_commands.specs.Changing.{length_refusal}
use Rattle.store_commands.specs.Faults.{IsFaultFor, IsWriteReason}
use Rattle.store_commands.specs.Reasons.{HasNoPage, IsPageFor, IsWriteRefusal}
use Rattle.store_commands.specs.Taking.{UnlessHeld}
use Rattle.store_commands.proofs.Causes.{late_cause, late_runs, new_late}
use Rattle.store_commands.proofs.Fits.{busy_still, fits, map_takes, new_fits, page_stays, room_left, suits_any}
use Rattle.store_commands.proofs.Groups.{page_for}
use Rattle.store_commands.proofs.Memory.{fills_behind, fills_less, free_at, map_at_number}
use Rattle.store_commands.proofs.Refusals.{new_refused, place_refused}
use Rattle.store_commands.proofs.RoomMade.{took_then}
use Rattle.store_commands.proofs.ShownImages.{map_of_key_is}
use Rattle.store_commands.proofs.Stopping.{done_on, stop_on, unless_failed, unless_ok, unless_stopped}
use Rattle.store_commands.proofs.Taken.{is_free}
use Rattle.store_commands.proofs.Testing.{error_then, failed, never, of_done, on_done, passed_on, the_error, was_done}
use Rattle.store_commands.proofs.Told.{busy_kept, place_late, refusal_told, room_first, stop_told}
use Rattle.store_commands.proofs.Unchanged.{stops, works_same, writes_same}
use Rattle.store_commands.proofs.With.{NoStop, fault_for, says_none, says_on, stop_for, worker_before, works_alone, works_said, works_then, writes_alone, writes_then}
use Rattle.store_commands.proofs.WriteParts.{new_parts_are, writes_there}
use Rattle.store_commands.proofs.WriteTests.{new_tests, place_tests, tested_new}
use Rattle.store_commands.proofs.putting.write_anew.Given as given
use Rattle.store_commands.proofs.putting.write_anew.Goals as goal

-- ---- what is answered

pub returns-in_err-place-clause-step : goal.returns-in_err-place-clause-step
returns-in_err-place-clause-step g c = λ told m none shown.
    let e = the_error c.from_residual.result _ c.from_residual.ensures.1 in
    let t = c.args.t in
    let r = c.from_residual.result in
    let S : Machine → Type 0 = IsShown c.args.store.now (g.D.Disk.state c.args.disk.now).block in
    let there = c.new_place.ensures.there in
    let extra = length_refusal c.args.what.now (seen m t c.args.key.0) in
    let tests = place_tests c.args.store.now (g.D.Disk.state c.args.disk.now).block m t.node c.requires.ready.is c.requires.node c.requires.up shown c.args.key.0 c.map_of_key-map.result there.0 extra e.0 none c.map_of_key-map.ensures.at c.map_of_key-map.ensures.low there.1 (sym (c.new_place.ensures.is there.0 there.1) ∙ c.in_err-place.was ∙ ap Err (sym e.2)) in
    unless_failed r e.0 e.1 (λ runs.
    subst (λ o. UnlessHeld m (new_takes t.node.0 o) r S (Answers (no_page m t.node c.args.key.0 extra) r (S (dos (new_parts m t c.args.key (value_after c.args.what.now (seen m t c.args.key.0))) m)) (S (dos (new_takes t.node.0 o) m)))) (sym tests.1)
    (failed _ (no_page m t.node c.args.key.0 extra) r e.0 (ap checked tests.0) e.1 shown))

pub returns-in_err-x-clause-step : goal.returns-in_err-x-clause-step
returns-in_err-x-clause-step g c = λ told m none shown.
    let e = the_error c.from_residual-in_err-x.result _ c.from_residual-in_err-x.ensures.1 in
    let r = c.from_residual-in_err-x.result in
    let t = c.args.t in
    let n = t.node.0 in
    let there = c.new_place.ensures.there in
    let extra = length_refusal c.args.what.now (seen m t c.args.key.0) in
    let value = value_after c.args.what.now (seen m t c.args.key.0) in
    let news = new_tests c.args.store.now (g.D.Disk.state c.args.disk.now).block m t.node c.requires.ready.is c.requires.node c.requires.up shown c.args.key.0 c.in_ok-place.place c.map_of_key-map.result there.0 extra none c.map_of_key-map.ensures.at c.map_of_key-map.ensures.low there.1 (sym (c.new_place.ensures.is there.0 there.1) ∙ c.in_ok-place.was) in
    let x = page_of_place c.args.store.now.shape c.map_of_key-map.result.0 c.in_ok-place.place in
    let S : Machine → Type 0 = IsShown c.take_data.new.store (g.D.Disk.state c.take_data.new.disk).block in
    subst (λ o. UnlessStop r (UnlessHeld m (new_takes n o) r S (Answers (no_page m t.node c.args.key.0 extra) r (S (dos (new_parts m t c.args.key value) m)) (S (dos (new_takes n o) m))))) (sym news.2)
    (stop_on _ _ m (Take x n ∷ []) c.take_data.result r e.0 S (c.in_err-x.was ∙ ap Err (sym e.2)) e.1 (c.take_data.ensures.step told m shown))

pub returns-in_err-check_anew-clause-step : goal.returns-in_err-check_anew-clause-step
returns-in_err-check_anew-clause-step g c = λ told m none shown.
    let e = the_error c.from_residual-in_err-check_anew.result _ c.from_residual-in_err-check_anew.ensures.1 in
    let r = c.from_residual-in_err-check_anew.result in
    let t = c.args.t in
    let n = t.node.0 in
    let there = c.new_place.ensures.there in
    let extra = length_refusal c.args.what.now (seen m t c.args.key.0) in
    let value = value_after c.args.what.now (seen m t c.args.key.0) in
    let news = new_tests c.args.store.now (g.D.Disk.state c.args.disk.now).block m t.node c.requires.ready.is c.requires.node c.requires.up shown c.args.key.0 c.in_ok-place.place c.map_of_key-map.result there.0 extra none c.map_of_key-map.ensures.at c.map_of_key-map.ensures.low there.1 (sym (c.new_place.ensures.is there.0 there.1) ∙ c.in_ok-place.was) in
    let x = page_of_place c.args.store.now.shape c.map_of_key-map.result.0 c.in_ok-place.place in
    let after = c.take_data.ensures.works in
    let taken = done_on m (Take x n ∷ []) c.take_data.result c.in_ok-x.x (IsShown c.take_data.new.store (g.D.Disk.state c.take_data.new.disk).block) c.in_ok-x.was (c.take_data.ensures.step told m shown) in
    let page = c.in_ok-x.ensures.page in
    let held = c.check_anew.ensures.there in
    let has_map = c.check_anew.ensures.map_there in
    let low = subst (λ s. c.map_of_key-map.result.0 < s.maps) (sym after.shape) c.map_of_key-map.ensures.low in
    let far = subst (λ s. s.maps ≤ c.in_ok-x.x.0) (sym after.shape) page.1 in
    let within = subst (λ s. c.in_ok-x.x.0 < page_count s) (sym after.shape) page.2 in
    let tests = tested_new c.take_data.new.store (g.D.Disk.state c.take_data.new.disk).block (one (Take x n) m) t after.ready.is c.requires.node c.in_ok-x.ensures.up taken.1 c.args.key c.args.what.now c.in_ok-place.place c.map_of_key-map.result has_map.0 c.in_ok-x.x held.0 none news.0 (news.2 ∙ ap Some (sym page.0)) low has_map.1 far within held.1 in
    let asked : no_page m t.node c.args.key.0 extra ≡ first_of (at_limit m c.map_of_key-map.result.0 ∷ at_limit m c.in_ok-x.x.0 ∷ extra ∷ wants.no_room m t.node 3 ∷ []) = news.3 ∙ ap (λ k. first_of (at_limit m c.map_of_key-map.result.0 ∷ at_limit m k ∷ extra ∷ wants.no_room m t.node 3 ∷ [])) (sym page.0) in
    let S : Machine → Type 0 = IsShown c.take_data.new.store (g.D.Disk.state c.take_data.new.disk).block in
    unless_failed r e.0 e.1 (λ runs.
    subst (λ o. UnlessHeld m (new_takes n o) r S (Answers (no_page m t.node c.args.key.0 extra) r (S (dos (new_parts m t c.args.key value) m)) (S (dos (new_takes n o) m)))) (sym news.2)
    (is_free m (Take x n ∷ []) r S taken.0
    (failed _ (no_page m t.node c.args.key.0 extra) r e.0 (ap checked (asked ∙ tests) ∙ sym (c.check_anew.ensures.tests has_map.0 held.0 has_map.1 held.1) ∙ c.in_err-check_anew.was ∙ ap Err (sym e.2)) e.1 taken.1)))

pub returns-in_err-use_place-clause-step : goal.returns-in_err-use_place-clause-step
returns-in_err-use_place-clause-step g c = λ told m none shown.
    let e = the_error c.from_residual-in_err-use_place.result _ c.from_residual-in_err-use_place.ensures.1 in
    unless_failed c.from_residual-in_err-use_place.result e.0 e.1 (λ runs.
    let stopped : says_stop e.0 ≡ true = subst (λ r. says_stop r ≡ true) (sym e.2) (stops c.args.t.node.0 c.in_err-use_place.field-0.0 c.in_err-use_place.ensures.stopped) in
    let never : true ≡ false = sym stopped ∙ runs in absurd cc)

pub returns-clause-step : goal.returns-clause-step
returns-clause-step g c = λ told m none shown.
    let t = c.args.t in
    let n = t.node.0 in
    let there = c.new_place.ensures.there in
    let extra = length_refusal c.args.what.now (seen m t c.args.key.0) in
    let value = value_after c.args.what.now (seen m t c.args.key.0) in
    let news = new_tests c.args.store.now (g.D.Disk.state c.args.disk.now).block m t.node c.requires.ready.is c.requires.node c.requires.up shown c.args.key.0 c.in_ok-place.place c.map_of_key-map.result there.0 extra none c.map_of_key-map.ensures.at c.map_of_key-map.ensures.low there.1 (sym (c.new_place.ensures.is there.0 there.1) ∙ c.in_ok-place.was) in
    let x = page_of_place c.args.store.now.shape c.map_of_key-map.result.0 c.in_ok-place.place in
    let after = c.take_data.ensures.works in
    let taken = done_on m (Take x n ∷ []) c.take_data.result c.in_ok-x.x (IsShown c.take_data.new.store (g.D.Disk.state c.take_data.new.disk).block) c.in_ok-x.was (c.take_data.ensures.step told m shown) in
    let page = c.in_ok-x.ensures.page in
    let held = c.check_anew.ensures.there in
    let has_map = c.check_anew.ensures.map_there in
    let low = subst (λ s. c.map_of_key-map.result.0 < s.maps) (sym after.shape) c.map_of_key-map.ensures.low in
    let far = subst (λ s. s.maps ≤ c.in_ok-x.x.0) (sym after.shape) page.1 in
    let within = subst (λ s. c.in_ok-x.x.0 < page_count s) (sym after.shape) page.2 in
    let tests = tested_new c.take_data.new.store (g.D.Disk.state c.take_data.new.disk).block (one (Take x n) m) t after.ready.is c.requires.node c.in_ok-x.ensures.up taken.1 c.args.key c.args.what.now c.in_ok-place.place c.map_of_key-map.result has_map.0 c.in_ok-x.x held.0 none news.0 (news.2 ∙ ap Some (sym page.0)) low has_map.1 far within held.1 in
    let asked : no_page m t.node c.args.key.0 extra ≡ first_of (at_limit m c.map_of_key-map.result.0 ∷ at_limit m c.in_ok-x.x.0 ∷ extra ∷ wants.no_room m t.node 3 ∷ []) = news.3 ∙ ap (λ k. first_of (at_limit m c.map_of_key-map.result.0 ∷ at_limit m k ∷ extra ∷ wants.no_room m t.node 3 ∷ [])) (sym page.0) in
    let key = c.args.key.0 in
    let map = c.map_of_key-map.result.0 in
    let place = c.in_ok-place.place in
    let m1 = one (Take x n) m in
    let m2 = one (Use n map place (group_of key)) m1 in
    let b = (g.D.Disk.state c.write.new.disk).block in
    let S : Machine → Type 0 = IsShown c.write.new.store b in
    let used = c.in_ok-use_place.ensures.shows told m1 key none news.0 (sym c.group.ensures.group) news.1 taken.1 in
    let used_so = subst (λ h. IsShown c.use_place.new.self (g.D.Disk.state c.use_place.new.disk).block (one (Use n map place h) m1)) c.group.ensures.group used in
    let count = taken.1.1.nodes.means.pages.count (map_of_key m.shape key) (subst (λ k. k < m.shape.maps) (sym news.1) (subst (λ s. map < s.maps) (sym shown.1.nodes.shape) c.map_of_key-map.ensures.low)) in
    let first : home (one (Use n (map_of_key m.shape key) place (group_of key)) m1) key ≡ Some (page_of_place m.shape (map_of_key m.shape key) place) = home_new n place m1 key key count none news.0 refl in
    let number : Some (page_of_place m.shape (map_of_key m.shape key) place) ≡ Some c.in_ok-x.x.0 = sym (ap (option_map (page_of_place m.shape (map_of_key m.shape key))) news.0) ∙ news.2 ∙ ap Some (sym page.0) in
    let home_is : home m2 key ≡ Some c.in_ok-x.x.0 = subst (λ k. home (one (Use n k place (group_of key)) m1) key ≡ Some c.in_ok-x.x.0) news.1 (first ∙ number) in
    unless_stopped n c.write.result c.write.ensures.stopped (λ done.
    let written = of_done c.write.result done c.write.ensures.shows told m2 home_is used_so in
    let whole : S (writes_there t c.args.key x value m2) = subst (λ k. S (writes_there t c.args.key k value m2)) page.0 written in
    subst (λ o. UnlessHeld m (new_takes n o) c.write.result S (Answers (no_page m t.node key extra) c.write.result (S (dos (new_parts m t c.args.key value) m)) (S (dos (new_takes n o) m)))) (sym news.2)
    (is_free m (Take x n ∷ []) c.write.result S taken.0
    (was_done _ (no_page m t.node key extra) c.write.result (ap checked (asked ∙ tests) ∙ sym (c.check_anew.ensures.tests has_map.0 held.0 has_map.1 held.1) ∙ c.in_ok-check_anew.was) done
    (subst S (sym (new_parts_are m t c.args.key value map place x none news.0 news.1 news.2)) whole))))

-- ---- what its calls ask

pub write-requires-clause-lock : goal.write-requires-clause-lock
write-requires-clause-lock g c = subst (λ held. IsTrue (may_take (lock_answer held c.args.key c.args.t locks.Write))) (sym (c.in_ok-use_place.ensures.locks ∙ (unless_ok c.take_data.result c.in_ok-x.x c.in_ok-x.was c.take_data.ensures.work).locks)) c.requires.lock

pub use_place-requires-clause-image : goal.use_place-requires-clause-image
use_place-requires-clause-image g c =
    let has_map = c.check_anew.ensures.map_there in
    let held = c.check_anew.ensures.there in
    let fit = new_fits c.take_data.new.store c.args.t.node c.map_of_key-map.result has_map.0 c.in_ok-x.x held.0 (length_refusal c.args.what.now (content held.0 (slot_of_key c.args.key.0))) (sym (c.check_anew.ensures.tests has_map.0 held.0 has_map.1 held.1) ∙ c.in_ok-check_anew.was) in
    map_takes c.take_data.new.store c.args.t.node.0 c.map_of_key-map.result has_map.0 has_map.1 fit.0

pub use_place-requires-clause-room : goal.use_place-requires-clause-room
use_place-requires-clause-room g c =
    let has_map = c.check_anew.ensures.map_there in
    let held = c.check_anew.ensures.there in
    let fit = new_fits c.take_data.new.store c.args.t.node c.map_of_key-map.result has_map.0 c.in_ok-x.x held.0 (length_refusal c.args.what.now (content held.0 (slot_of_key c.args.key.0))) (sym (c.check_anew.ensures.tests has_map.0 held.0 has_map.1 held.1) ∙ c.in_ok-check_anew.was) in
    room_first c.take_data.new.store c.args.t.node.0 fit.3

pub write-requires-clause-room : goal.write-requires-clause-room
write-requires-clause-room g c =
    let has_map = c.check_anew.ensures.map_there in
    let held = c.check_anew.ensures.there in
    let fit = new_fits c.take_data.new.store c.args.t.node c.map_of_key-map.result has_map.0 c.in_ok-x.x held.0 (length_refusal c.args.what.now (content held.0 (slot_of_key c.args.key.0))) (sym (c.check_anew.ensures.tests has_map.0 held.0 has_map.1 held.1) ∙ c.in_ok-check_anew.was) in
    room_left c.take_data.new.store c.use_place.new.self c.args.t.node.0 c.in_ok-x.ensures.up c.in_ok-use_place.ensures.up c.in_ok-use_place.ensures.kept fit.3

pub write-requires-clause-page : goal.write-requires-clause-page
write-requires-clause-page g c =
    let held = c.check_anew.ensures.there in
    let has_map = c.check_anew.ensures.map_there in
    let far = subst (λ s. s.maps ≤ c.in_ok-x.x.0) (sym c.take_data.ensures.works.shape) c.in_ok-x.ensures.page.1 in
    let passed = new_fits c.take_data.new.store c.args.t.node c.map_of_key-map.result has_map.0 c.in_ok-x.x held.0 (length_refusal c.args.what.now (content held.0 (slot_of_key c.args.key.0))) (sym (c.check_anew.ensures.tests has_map.0 held.0 has_map.1 held.1) ∙ c.in_ok-check_anew.was) in
    (held.0, page_stays c.take_data.new.store c.use_place.new.self c.args.t.node.0 c.in_ok-x.x held.0 c.in_ok-x.ensures.up c.in_ok-use_place.ensures.kept far held.1, passed.1, fits held.0 (slot_of_key c.args.key.0) c.args.what.now (suits_any c.args.what.now (content held.0 (slot_of_key c.args.key.0)) c.requires.suits) passed.2)

pub write-requires-clause-busy : goal.write-requires-clause-busy
write-requires-clause-busy g c = busy_still c.take_data.new.store c.use_place.new.self c.args.t.node.0 c.args.t c.in_ok-use_place.ensures.up c.in_ok-use_place.ensures.kept (busy_kept c.args.store.now c.take_data.new.store c.args.t.node.0 c.args.t (unless_ok c.take_data.result c.in_ok-x.x c.in_ok-x.was c.take_data.ensures.work) c.requires.busy)

-- ---- where all is in memory

pub returns-in_err-x-clause-memory : goal.returns-in_err-x-clause-memory
returns-in_err-x-clause-memory g c = λ image shows free.
    let n = c.args.t.node.0 in
    let at = c.map_of_key-map.ensures.at in
    let here = map_at_number c.args.store.now n (map_of_key c.args.store.now.shape c.args.key.0) c.map_of_key-map.result image at shows in
    let can = free_at c.args.store.now n c.args.key.0 c.map_of_key-map.result image c.in_ok-place.place at (sym (c.new_place.ensures.is image here) ∙ c.in_ok-place.was) free in
    absurd (never c.take_data.result _ (c.take_data.ensures.hit can.0).0 c.in_err-x.was)

pub returns-in_err-check_anew-clause-memory : goal.returns-in_err-check_anew-clause-memory
returns-in_err-check_anew-clause-memory g c = λ image shows free.
    let n = c.args.t.node.0 in
    let at = c.map_of_key-map.ensures.at in
    let here = map_at_number c.args.store.now n (map_of_key c.args.store.now.shape c.args.key.0) c.map_of_key-map.result image at shows in
    let can = free_at c.args.store.now n c.args.key.0 c.map_of_key-map.result image c.in_ok-place.place at (sym (c.new_place.ensures.is image here) ∙ c.in_ok-place.was) free in
    let hit = c.take_data.ensures.hit can.0 in
    (hit.2, hit.3)

pub returns-in_err-use_place-clause-memory : goal.returns-in_err-use_place-clause-memory
returns-in_err-use_place-clause-memory g c = λ image shows free.
    let n = c.args.t.node.0 in
    let at = c.map_of_key-map.ensures.at in
    let here = map_at_number c.args.store.now n (map_of_key c.args.store.now.shape c.args.key.0) c.map_of_key-map.result image at shows in
    let can = free_at c.args.store.now n c.args.key.0 c.map_of_key-map.result image c.in_ok-place.place at (sym (c.new_place.ensures.is image here) ∙ c.in_ok-place.was) free in
    let hit = c.take_data.ensures.hit can.0 in
    let room = subst (λ v. FillsNoBlock v n 2) (sym hit.1) can.1 in
    absurd (never c.use_place.result _ (c.use_place.ensures.memory (fills_less c.take_data.new.store n room)).0 c.in_err-use_place.was)

pub returns-clause-memory : goal.returns-clause-memory
returns-clause-memory g c = λ image shows free.
    let n = c.args.t.node.0 in
    let at = c.map_of_key-map.ensures.at in
    let here = map_at_number c.args.store.now n (map_of_key c.args.store.now.shape c.args.key.0) c.map_of_key-map.result image at shows in
    let can = free_at c.args.store.now n c.args.key.0 c.map_of_key-map.result image c.in_ok-place.place at (sym (c.new_place.ensures.is image here) ∙ c.in_ok-place.was) free in
    let hit = c.take_data.ensures.hit can.0 in
    let room = subst (λ v. FillsNoBlock v n 2) (sym hit.1) can.1 in
    let used = c.use_place.ensures.memory (fills_less c.take_data.new.store n room) in
    let wrote = c.write.ensures.memory (fills_behind c.take_data.new.store c.use_place.new.self n c.in_ok-x.ensures.up c.in_ok-use_place.ensures.kept room) in
    (wrote.1 ∙ used.1 ∙ hit.2, wrote.2 ∙ used.2 ∙ hit.3)

-- ---- why it isn't written

-- there is no place
no_place_for : (g : given.Over) (c : goal.After-from_residual g) → HasNoPage c.args.store.now c.args.t.node.0 c.args.key → (why : Reply) → why ≡ c.in_err-place.field-0.0 → IsWriteRefusal c.args.store.now c.args.t.node.0 c.args.key c.args.what.now why
no_place_for g c page why same =
    let there = c.new_place.ensures.there in
    place_refused c.args.store.now c.args.t.node c.args.key c.args.what.now c.map_of_key-map.result there.0 why c.map_of_key-map.ensures.at there.1 page (sym (c.new_place.ensures.is there.0 there.1) ∙ c.in_err-place.was ∙ ap Err (sym same))

pub returns-in_err-place-clause-refused : goal.returns-in_err-place-clause-refused
returns-in_err-place-clause-refused g c = λ page. passed_on c.from_residual.result _ (IsWriteReason c.args.store.now c.args.store.now c.args.t.node.0 c.args.key c.args.what.now) c.from_residual.ensures.1 (λ why same. inl (no_place_for g c page why same))

pub returns-in_err-place-clause-told : goal.returns-in_err-place-clause-told
returns-in_err-place-clause-told g c = λ told page.
    passed_on c.from_residual.result _ (IsToldOfPages c.args.store.now.shape (contents (g.D.Disk.state c.args.disk.now).block)) c.from_residual.ensures.1
    (λ why same. refusal_told c.args.store.now.shape (contents (g.D.Disk.state c.args.disk.now).block) c.args.store.now c.args.t.node.0 c.args.key c.args.what.now why (no_place_for g c page why same))

pub returns-in_err-place-clause-cause : goal.returns-in_err-place-clause-cause
returns-in_err-place-clause-cause g c =
    let there = c.new_place.ensures.there in
    passed_on c.from_residual.result _ (λ why. HasCause why (g.D.Disk.state c.args.disk.now) (g.D.Disk.state c.args.disk.now)) c.from_residual.ensures.1
    (λ why same. late_cause why _ _ (place_late c.map_of_key-map.result there.0 why (sym (c.new_place.ensures.is there.0 there.1) ∙ c.in_err-place.was ∙ ap Err (sym same))))

-- its page couldn't be taken
pub returns-in_err-x-clause-refused : goal.returns-in_err-x-clause-refused
returns-in_err-x-clause-refused g c = λ page.
    let s = c.args.store.now.shape in
    let map = c.map_of_key-map.result in
    let place = c.in_ok-place.place in
    let x : PageNo = record { 0 = page_of_place s map.0 place } in
    let n = c.args.t.node.0 in
    let fault = fault_for c.args.store.now c.args.store.now n c.args.key x c.in_err-x.field-0.0 c.requires.ready.is refl (λ m works. works) refl (page_for s c.args.key map x place c.map_of_key-map.ensures.at c.in_ok-place.ensures.place refl) c.in_err-x.ensures.fault in
    passed_on c.from_residual-in_err-x.result _ (IsWriteReason c.args.store.now c.take_data.new.store n c.args.key c.args.what.now) c.from_residual-in_err-x.ensures.1
    (λ why same. inr (subst (IsFaultFor c.args.store.now n c.args.key) (sym same) fault))

pub returns-in_err-x-clause-told : goal.returns-in_err-x-clause-told
returns-in_err-x-clause-told g c = λ told page.
    passed_on c.from_residual-in_err-x.result _ (IsToldOfPages c.args.store.now.shape (contents (g.D.Disk.state c.take_data.new.disk).block)) c.from_residual-in_err-x.ensures.1
    (λ why same. subst (IsToldOfPages c.args.store.now.shape (contents (g.D.Disk.state c.take_data.new.disk).block)) (sym same) (c.in_err-x.ensures.told told))

-- the page is at its limit, or the log full
not_written : (g : given.Over) (c : goal.After-from_residual-in_err-check_anew g) → HasNoPage c.args.store.now c.args.t.node.0 c.args.key → (why : Reply) → why ≡ c.in_err-check_anew.field-0.0 → IsWriteRefusal c.take_data.new.store c.args.t.node.0 c.args.key c.args.what.now why
not_written g c none why same =
    let n = c.args.t.node.0 in
    let there = c.check_anew.ensures.there in
    let map = c.map_of_key-map.result in
    let place = c.in_ok-place.place in
    let at = c.map_of_key-map.ensures.at in
    let shape = c.take_data.ensures.works.shape in
    let page : IsPageFor c.args.store.now.shape c.args.key c.in_ok-x.x = page_for c.args.store.now.shape c.args.key map c.in_ok-x.x place at c.in_ok-place.ensures.place c.in_ok-x.ensures.page.0 in
    let shows = c.in_ok-x.ensures.map none.0 (subst (λ k. ShowsMap c.args.store.now n (record { 0 = k }) none.0) (sym at) none.1) in
    let number = at ∙ sym (ap (λ s. map_of_key s c.args.key.0) shape) in
    let still : HasNoPage c.take_data.new.store n c.args.key = (none.0, subst (λ k. ShowsMap c.take_data.new.store n (record { 0 = k }) none.0) number shows, none.2) in
    let has_map = c.check_anew.ensures.map_there in
    new_refused c.take_data.new.store c.args.t.node c.args.key c.args.what.now map has_map.0 c.in_ok-x.x there.0 why number has_map.1 still (subst (λ s. IsPageFor s c.args.key c.in_ok-x.x) (sym shape) page) there.1
    (sym (c.check_anew.ensures.tests has_map.0 there.0 has_map.1 there.1) ∙ c.in_err-check_anew.was ∙ ap Err (sym same))

pub returns-in_err-check_anew-clause-refused : goal.returns-in_err-check_anew-clause-refused
returns-in_err-check_anew-clause-refused g c = λ page. passed_on c.from_residual-in_err-check_anew.result _ (IsWriteReason c.args.store.now c.take_data.new.store c.args.t.node.0 c.args.key c.args.what.now) c.from_residual-in_err-check_anew.ensures.1 (λ why same. inl (not_written g c page why same))

pub returns-in_err-check_anew-clause-told : goal.returns-in_err-check_anew-clause-told
returns-in_err-check_anew-clause-told g c = λ told page.
    passed_on c.from_residual-in_err-check_anew.result _ (IsToldOfPages c.args.store.now.shape (contents (g.D.Disk.state c.take_data.new.disk).block)) c.from_residual-in_err-check_anew.ensures.1
    (λ why same. refusal_told c.args.store.now.shape (contents (g.D.Disk.state c.take_data.new.disk).block) c.take_data.new.store c.args.t.node.0 c.args.key c.args.what.now why (not_written g c page why same))

pub returns-in_err-check_anew-clause-cause : goal.returns-in_err-check_anew-clause-cause
returns-in_err-check_anew-clause-cause g c =
    let held = c.check_anew.ensures.there in
    let has_map = c.check_anew.ensures.map_there in
    passed_on c.from_residual-in_err-check_anew.result _ (λ why. HasCause why (g.D.Disk.state c.args.disk.now) (g.D.Disk.state c.take_data.new.disk)) c.from_residual-in_err-check_anew.ensures.1
    (λ why same. late_cause why _ _ (new_late c.take_data.new.store c.args.t.node c.in_ok-x.x held.0.ident 3 c.args.what.now (content held.0 (slot_of_key c.args.key.0)) why c.map_of_key-map.result has_map.0.ident
    (sym (c.check_anew.ensures.tests has_map.0 held.0 has_map.1 held.1) ∙ c.in_err-check_anew.was ∙ ap Err (sym same))))

-- the node stopped
pub returns-in_err-use_place-clause-refused : goal.returns-in_err-use_place-clause-refused
returns-in_err-use_place-clause-refused g c = λ page.
    passed_on c.from_residual-in_err-use_place.result _ (IsWriteReason c.args.store.now c.use_place.new.self c.args.t.node.0 c.args.key c.args.what.now) c.from_residual-in_err-use_place.ensures.1
    (λ why same. inr (stop_for c.args.store.now c.args.t.node.0 c.args.key why (subst (IsStopReply c.args.t.node.0) (sym same) c.in_err-use_place.ensures.stopped)))

pub returns-in_err-use_place-clause-told : goal.returns-in_err-use_place-clause-told
returns-in_err-use_place-clause-told g c = λ told page.
    passed_on c.from_residual-in_err-use_place.result _ (IsToldOfPages c.args.store.now.shape (contents (g.D.Disk.state c.use_place.new.disk).block)) c.from_residual-in_err-use_place.ensures.1
    (λ why same. stop_told c.args.store.now.shape (contents (g.D.Disk.state c.use_place.new.disk).block) c.args.t.node.0 why (subst (IsStopReply c.args.t.node.0) (sym same) c.in_err-use_place.ensures.stopped))

pub returns-clause-refused : goal.returns-clause-refused
returns-clause-refused g c = λ page. error_then c.write.result (IsStopReply c.args.t.node.0) (IsWriteReason c.args.store.now c.write.new.store c.args.t.node.0 c.args.key c.args.what.now) c.write.ensures.stopped (λ why is. inr (stop_for c.args.store.now c.args.t.node.0 c.args.key why is))

pub returns-clause-told : goal.returns-clause-told
returns-clause-told g c = λ told page. error_then c.write.result (IsStopReply c.args.t.node.0) (IsToldOfPages c.args.store.now.shape (contents (g.D.Disk.state c.write.new.disk).block)) c.write.ensures.stopped (stop_told c.args.store.now.shape (contents (g.D.Disk.state c.write.new.disk).block) c.args.t.node.0)

-- ---- both pages are cached

pub returns-clause-taken : goal.returns-clause-taken
returns-clause-taken g c = on_done c.write.result c.write.ensures.pages (λ kept told m none shown.
    let t = c.args.t in
    let n = t.node.0 in
    let there = c.new_place.ensures.there in
    let at = c.map_of_key-map.ensures.at in
    let news = new_tests c.args.store.now (g.D.Disk.state c.args.disk.now).block m t.node c.requires.ready.is c.requires.node c.requires.up shown c.args.key.0 c.in_ok-place.place c.map_of_key-map.result there.0 (length_refusal c.args.what.now (seen m t c.args.key.0)) none at c.map_of_key-map.ensures.low there.1 (sym (c.new_place.ensures.is there.0 there.1) ∙ c.in_ok-place.was) in
    let then : (y : PageNo) → HasCached c.take_data.new.store n y → HasCached c.write.new.store n y = λ y has. (kept told).still y ((c.in_ok-use_place.ensures.pages told).still y has) in
    let number : c.map_of_key-map.result ≡ record { 0 = map_of_key m.shape c.args.key.0 } = ap (λ k. record { 0 = k }) (at ∙ sym (map_of_key_is c.args.store.now n (g.D.Disk.state c.args.disk.now).block m c.requires.ready.is c.requires.node c.requires.up shown c.args.key.0)) in (
      subst (HasCached c.write.new.store n) number (then c.map_of_key-map.result c.in_ok-x.ensures.map_cached),
      subst (λ o. IfSome o (λ k. HasCached c.write.new.store n (record { 0 = k }))) (sym (news.2 ∙ ap Some (sym c.in_ok-x.ensures.page.0))) (then c.in_ok-x.x c.in_ok-x.ensures.cached),
    ))

-- ---- what it leaves

pub returns-in_err-place-clause-works : goal.returns-in_err-place-clause-works
returns-in_err-place-clause-works g c = works_alone c.args.t.node.0 (SaysStopOf c.from_residual.result) c.args.store.now c.args.store.now (g.D.Disk.state c.args.disk.now) (g.D.Disk.state c.args.disk.now) (g.V.Disk.state c.args.vault.now) (g.V.Disk.state c.args.vault.now) (works_same c.args.t.node.0 c.args.store.now (g.D.Disk.state c.args.disk.now) (g.V.Disk.state c.args.vault.now) c.requires.ready)

pub returns-in_err-place-clause-writes : goal.returns-in_err-place-clause-writes
returns-in_err-place-clause-writes g c = λ told. writes_alone c.args.t.node.0 c.args.store.now c.args.store.now (g.D.Disk.state c.args.disk.now).block (g.D.Disk.state c.args.disk.now).block (writes_same c.args.t.node.0 c.args.store.now (g.D.Disk.state c.args.disk.now).block (c.requires.quiet told))

pub returns-in_err-x-clause-works : goal.returns-in_err-x-clause-works
returns-in_err-x-clause-works g c =
    let e = the_error c.from_residual-in_err-x.result _ c.from_residual-in_err-x.ensures.1 in
    works_said c.args.t.node.0 (SaysStopOf c.take_data.result) (SaysStopOf c.from_residual-in_err-x.result) c.args.store.now c.take_data.new.store (g.D.Disk.state c.args.disk.now) (g.D.Disk.state c.take_data.new.disk) (g.V.Disk.state c.args.vault.now) (g.V.Disk.state c.take_data.new.vault)
    (says_on c.take_data.result c.from_residual-in_err-x.result e.0 (c.in_err-x.was ∙ ap Err (sym e.2)) e.1) c.take_data.ensures.works

pub returns-in_err-check_anew-clause-works : goal.returns-in_err-check_anew-clause-works
returns-in_err-check_anew-clause-works g c = works_said c.args.t.node.0 NoStop (SaysStopOf c.from_residual-in_err-check_anew.result) c.args.store.now c.take_data.new.store (g.D.Disk.state c.args.disk.now) (g.D.Disk.state c.take_data.new.disk) (g.V.Disk.state c.args.vault.now) (g.V.Disk.state c.take_data.new.vault) (λ m never. absurd never) (works_said c.args.t.node.0 (SaysStopOf c.take_data.result) NoStop c.args.store.now c.take_data.new.store (g.D.Disk.state c.args.disk.now) (g.D.Disk.state c.take_data.new.disk) (g.V.Disk.state c.args.vault.now) (g.V.Disk.state c.take_data.new.vault) (says_none c.take_data.result c.in_ok-x.x c.in_ok-x.was) c.take_data.ensures.works)

pub returns-in_err-use_place-clause-works : goal.returns-in_err-use_place-clause-works
returns-in_err-use_place-clause-works g c =
    works_then c.args.t.node.0 (SaysStopOf c.from_residual-in_err-use_place.result) c.args.store.now c.take_data.new.store c.use_place.new.self (g.D.Disk.state c.args.disk.now) (g.D.Disk.state c.take_data.new.disk) (g.D.Disk.state c.use_place.new.disk) (g.V.Disk.state c.args.vault.now) (g.V.Disk.state c.take_data.new.vault) (g.V.Disk.state c.use_place.new.vault) (works_said c.args.t.node.0 (SaysStopOf c.take_data.result) NoStop c.args.store.now c.take_data.new.store (g.D.Disk.state c.args.disk.now) (g.D.Disk.state c.take_data.new.disk) (g.V.Disk.state c.args.vault.now) (g.V.Disk.state c.take_data.new.vault) (says_none c.take_data.result c.in_ok-x.x c.in_ok-x.was) c.take_data.ensures.works)
    (works_alone c.args.t.node.0 (SaysStopOf c.from_residual-in_err-use_place.result) c.take_data.new.store c.use_place.new.self (g.D.Disk.state c.take_data.new.disk) (g.D.Disk.state c.use_place.new.disk) (g.V.Disk.state c.take_data.new.vault) (g.V.Disk.state c.use_place.new.vault) c.use_place.ensures.works)

pub returns-clause-works : goal.returns-clause-works
returns-clause-works g c =
    works_then c.args.t.node.0 (SaysStopOf c.write.result) c.args.store.now c.use_place.new.self c.write.new.store (g.D.Disk.state c.args.disk.now) (g.D.Disk.state c.use_place.new.disk) (g.D.Disk.state c.write.new.disk) (g.V.Disk.state c.args.vault.now) (g.V.Disk.state c.use_place.new.vault) (g.V.Disk.state c.write.new.vault)
    (works_then c.args.t.node.0 NoStop c.args.store.now c.take_data.new.store c.use_place.new.self (g.D.Disk.state c.args.disk.now) (g.D.Disk.state c.take_data.new.disk) (g.D.Disk.state c.use_place.new.disk) (g.V.Disk.state c.args.vault.now) (g.V.Disk.state c.take_data.new.vault) (g.V.Disk.state c.use_place.new.vault) (works_said c.args.t.node.0 (SaysStopOf c.take_data.result) NoStop c.args.store.now c.take_data.new.store (g.D.Disk.state c.args.disk.now) (g.D.Disk.state c.take_data.new.disk) (g.V.Disk.state c.args.vault.now) (g.V.Disk.state c.take_data.new.vault) (says_none c.take_data.result c.in_ok-x.x c.in_ok-x.was) c.take_data.ensures.works) (works_alone c.args.t.node.0 NoStop c.take_data.new.store c.use_place.new.self (g.D.Disk.state c.take_data.new.disk) (g.D.Disk.state c.use_place.new.disk) (g.V.Disk.state c.take_data.new.vault) (g.V.Disk.state c.use_place.new.vault) c.use_place.ensures.works))
    (works_alone c.args.t.node.0 (SaysStopOf c.write.result) c.use_place.new.self c.write.new.store (g.D.Disk.state c.use_place.new.disk) (g.D.Disk.state c.write.new.disk) (g.V.Disk.state c.use_place.new.vault) (g.V.Disk.state c.write.new.vault) c.write.ensures.works)

pub returns-in_err-use_place-clause-writes : goal.returns-in_err-use_place-clause-writes
returns-in_err-use_place-clause-writes g c = λ told. writes_then c.args.t.node.0 c.args.store.now c.take_data.new.store c.use_place.new.self (g.D.Disk.state c.args.disk.now).block (g.D.Disk.state c.take_data.new.disk).block (g.D.Disk.state c.use_place.new.disk).block (worker_before c.args.t.node.0 NoStop c.args.store.now c.take_data.new.store (g.D.Disk.state c.args.disk.now) (g.D.Disk.state c.take_data.new.disk) (g.V.Disk.state c.args.vault.now) (g.V.Disk.state c.take_data.new.vault) (works_said c.args.t.node.0 (SaysStopOf c.take_data.result) NoStop c.args.store.now c.take_data.new.store (g.D.Disk.state c.args.disk.now) (g.D.Disk.state c.take_data.new.disk) (g.V.Disk.state c.args.vault.now) (g.V.Disk.state c.take_data.new.vault) (says_none c.take_data.result c.in_ok-x.x c.in_ok-x.was) c.take_data.ensures.works)) c.take_data.ensures.works.shape (c.take_data.ensures.writes told) (writes_alone c.args.t.node.0 c.take_data.new.store c.use_place.new.self (g.D.Disk.state c.take_data.new.disk).block (g.D.Disk.state c.use_place.new.disk).block (c.use_place.ensures.writes told))

pub returns-clause-writes : goal.returns-clause-writes
returns-clause-writes g c = λ told.
    writes_then c.args.t.node.0 c.args.store.now c.use_place.new.self c.write.new.store (g.D.Disk.state c.args.disk.now).block (g.D.Disk.state c.use_place.new.disk).block (g.D.Disk.state c.write.new.disk).block (worker_before c.args.t.node.0 NoStop c.args.store.now c.use_place.new.self (g.D.Disk.state c.args.disk.now) (g.D.Disk.state c.use_place.new.disk) (g.V.Disk.state c.args.vault.now) (g.V.Disk.state c.use_place.new.vault) (works_then c.args.t.node.0 NoStop c.args.store.now c.take_data.new.store c.use_place.new.self (g.D.Disk.state c.args.disk.now) (g.D.Disk.state c.take_data.new.disk) (g.D.Disk.state c.use_place.new.disk) (g.V.Disk.state c.args.vault.now) (g.V.Disk.state c.take_data.new.vault) (g.V.Disk.state c.use_place.new.vault) (works_said c.args.t.node.0 (SaysStopOf c.take_data.result) NoStop c.args.store.now c.take_data.new.store (g.D.Disk.state c.args.disk.now) (g.D.Disk.state c.take_data.new.disk) (g.V.Disk.state c.args.vault.now) (g.V.Disk.state c.take_data.new.vault) (says_none c.take_data.result c.in_ok-x.x c.in_ok-x.was) c.take_data.ensures.works) (works_alone c.args.t.node.0 NoStop c.take_data.new.store c.use_place.new.self (g.D.Disk.state c.take_data.new.disk) (g.D.Disk.state c.use_place.new.disk) (g.V.Disk.state c.take_data.new.vault) (g.V.Disk.state c.use_place.new.vault) c.use_place.ensures.works)))
    (c.use_place.ensures.works.shape ∙ c.take_data.ensures.works.shape)
    (writes_then c.args.t.node.0 c.args.store.now c.take_data.new.store c.use_place.new.self (g.D.Disk.state c.args.disk.now).block (g.D.Disk.state c.take_data.new.disk).block (g.D.Disk.state c.use_place.new.disk).block (worker_before c.args.t.node.0 NoStop c.args.store.now c.take_data.new.store (g.D.Disk.state c.args.disk.now) (g.D.Disk.state c.take_data.new.disk) (g.V.Disk.state c.args.vault.now) (g.V.Disk.state c.take_data.new.vault) (works_said c.args.t.node.0 (SaysStopOf c.take_data.result) NoStop c.args.store.now c.take_data.new.store (g.D.Disk.state c.args.disk.now) (g.D.Disk.state c.take_data.new.disk) (g.V.Disk.state c.args.vault.now) (g.V.Disk.state c.take_data.new.vault) (says_none c.take_data.result c.in_ok-x.x c.in_ok-x.was) c.take_data.ensures.works)) c.take_data.ensures.works.shape (c.take_data.ensures.writes told) (writes_alone c.args.t.node.0 c.take_data.new.store c.use_place.new.self (g.D.Disk.state c.take_data.new.disk).block (g.D.Disk.state c.use_place.new.disk).block (c.use_place.ensures.writes told)))
    (writes_alone c.args.t.node.0 c.use_place.new.self c.write.new.store (g.D.Disk.state c.use_place.new.disk).block (g.D.Disk.state c.write.new.disk).block (c.write.ensures.writes told))

pub use_place-requires-clause-quiet : goal.use_place-requires-clause-quiet
use_place-requires-clause-quiet g c = λ told. (c.take_data.ensures.writes told).quiet

pub write-requires-clause-quiet : goal.write-requires-clause-quiet
write-requires-clause-quiet g c = λ told. (c.use_place.ensures.writes told).quiet

pub returns-in_err-check_anew-clause-down : goal.returns-in_err-check_anew-clause-down
returns-in_err-check_anew-clause-down g c =
    let held = c.check_anew.ensures.there in
    let has_map = c.check_anew.ensures.map_there in
    passed_on c.from_residual-in_err-check_anew.result _ (λ why. (h : ℕ) → IsStopReply h why → node_at c.take_data.new.store.nodes h ≡ Down) c.from_residual-in_err-check_anew.ensures.1
    (λ why same h stopped.
    let late = new_late c.take_data.new.store c.args.t.node c.in_ok-x.x held.0.ident 3 c.args.what.now (content held.0 (slot_of_key c.args.key.0)) why c.map_of_key-map.result has_map.0.ident (sym (c.check_anew.ensures.tests has_map.0 held.0 has_map.1 held.1) ∙ c.in_err-check_anew.was ∙ ap Err (sym same)) in
    let never : true ≡ false = sym (stops h why stopped) ∙ late_runs why late in absurd cc)

-- ---- which pages make room

pub returns-clause-made_room : goal.returns-clause-made_room
returns-clause-made_room g c = on_done c.write.result c.write.ensures.pages (λ kept told.
    let me = c.args.store.now in
    let n = c.args.t.node in
    let map = c.map_of_key-map.result in
    let x = c.in_ok-x.x in
    let place = c.in_ok-place.place in
    let low : place ≤ 251 = c.in_ok-place.ensures.place in
    let at = c.map_of_key-map.ensures.at in
    let page = c.in_ok-x.ensures.page in
    let a = (g.D.Disk.state c.args.disk.now).block in
    let e = (g.D.Disk.state c.use_place.new.disk).block in
    let first = took_then n x me c.take_data.new.store c.use_place.new.self a (g.D.Disk.state c.take_data.new.disk).block e c.take_data.ensures.works.shape (c.in_ok-x.ensures.made_room told) (c.in_ok-use_place.ensures.pages told) in (
      x,
      page.1,
      map_of_its_place me.shape x map place (omega (arith, low)) page.0 ∙ ap (λ k. record { 0 = k }) at,
      page_for me.shape c.args.key map x place at low page.0,
      took_then n x me c.use_place.new.self c.write.new.store a e (g.D.Disk.state c.write.new.disk).block (c.use_place.ensures.works.shape ∙ c.take_data.ensures.works.shape) first (kept told),
    ))

-- ---- what is refused leaves locks and transactions

pub returns-in_err-place-clause-kept : goal.returns-in_err-place-clause-kept
returns-in_err-place-clause-kept g c =
    passed_on c.from_residual.result _ (λ why. says_stop why ≡ false → KeepsWork c.args.t.node.0 c.args.store.now c.args.store.now) c.from_residual.ensures.1
    (λ why same runs. record { locks = refl; reopening = refl; seats = seats_same (node_at c.args.store.now.nodes c.args.t.node.0) (node_at c.args.store.now.nodes c.args.t.node.0) refl })

pub returns-in_err-x-clause-kept : goal.returns-in_err-x-clause-kept
returns-in_err-x-clause-kept g c =
    passed_on c.from_residual-in_err-x.result _ (λ why. says_stop why ≡ false → KeepsWork c.args.t.node.0 c.args.store.now c.take_data.new.store) c.from_residual-in_err-x.ensures.1
    (λ why same. subst (λ e. says_stop e ≡ false → KeepsWork c.args.t.node.0 c.args.store.now c.take_data.new.store) (sym same) c.in_err-x.ensures.work)

pub returns-in_err-check_anew-clause-kept : goal.returns-in_err-check_anew-clause-kept
returns-in_err-check_anew-clause-kept g c =
    passed_on c.from_residual-in_err-check_anew.result _ (λ why. says_stop why ≡ false → KeepsWork c.args.t.node.0 c.args.store.now c.take_data.new.store) c.from_residual-in_err-check_anew.ensures.1
    (λ why same runs. unless_ok c.take_data.result c.in_ok-x.x c.in_ok-x.was c.take_data.ensures.work)

pub returns-in_err-use_place-clause-kept : goal.returns-in_err-use_place-clause-kept
returns-in_err-use_place-clause-kept g c =
    passed_on c.from_residual-in_err-use_place.result _ (λ why. says_stop why ≡ false → KeepsWork c.args.t.node.0 c.args.store.now c.use_place.new.self) c.from_residual-in_err-use_place.ensures.1
    (λ why same runs. let never : true ≡ false = sym (stops c.args.t.node.0 why (subst (IsStopReply c.args.t.node.0) (sym same) c.in_err-use_place.ensures.stopped)) ∙ runs in absurd cc)

pub returns-clause-kept : goal.returns-clause-kept
returns-clause-kept g c =
    error_then c.write.result (IsStopReply c.args.t.node.0) (λ why. says_stop why ≡ false → KeepsWork c.args.t.node.0 c.args.store.now c.write.new.store) c.write.ensures.stopped
    (λ why is runs. let never : true ≡ false = sym (stops c.args.t.node.0 why is) ∙ runs in absurd cc)
