use Rattle.std.specs.Prelude.{◌≡◌, ◌∷◌, [], true, Result, Ok, Err, IsTrue, IsOk, refl}
use Rattle.std.proofs.Common.{arith, ap, subst, sym, ◌∙◌}
use Rattle.sd_base.specs.Places.{page_of_place}
use Rattle.sd_base.proofs.PlaceLaws.{map_of_its_place}
use Rattle.sd_base.specs.declared.names.PageNo.{PageNo}
use Rattle.space_map.specs.Image.{MapImage}
use Rattle.script_text.specs.declared.reply.Reply.{Reply}
use Rattle.private_log.specs.Reading.{contents}
use Rattle.record_machine.specs.Machine.{Machine}
use Rattle.record_machine.specs.Parts.{Take, one}
use Rattle.store_nodes.specs.Causes.{IsFaultOfTake, IsToldOfPages}
use Rattle.store_nodes.specs.Pages.{HasCached, ShowsMap}
use Rattle.store_nodes.specs.Ports.{SaysStopOf, UnlessStop, says_stop}
use Rattle.store_nodes.specs.Shows.{IsShown}
use Rattle.store_nodes.specs.Known.{held_in}
use Rattle.store_pages.proofs.Images.{cached_map}
use Rattle.store_commands.specs.Taking.{UnlessHeld}
use Rattle.store_commands.proofs.Entries.{entry_of}
use Rattle.store_commands.proofs.Stopping.{done_on, stop_on, unless_ok, unless_pass}
use Rattle.store_commands.proofs.Taken.{is_free}
use Rattle.store_commands.proofs.TakeSteps.{page_step, some_then}
use Rattle.store_commands.proofs.Testing.{error_then, never, on_done, passed_on, the_error}
use Rattle.store_commands.proofs.With.{says_none, says_on, works_said}
use Rattle.store_commands.proofs.group_page.take_data.Given as given
use Rattle.store_commands.proofs.group_page.take_data.Goals as goal

pub take-requires-clause-entry : goal.take-requires-clause-entry
take-requires-clause-entry g c =
    let there = c.entry_at-entry.ensures.there in
    entry_of c.args.store.now c.args.n.0 c.args.map c.data_page-x.result c.args.place there.0 c.entry_at-entry.result c.requires.place c.data_page-x.ensures.low c.data_page-x.ensures.at there.1 (c.entry_at-entry.ensures.entry there.0 there.1)

-- what the machine does, or why it doesn't
take_err : (g : given.Over) (c : goal.After-from_residual g) → IsTrue g.D.Disk.told → (m : Machine) → IsShown c.args.store.now (g.D.Disk.state c.args.disk.now).block m
    → UnlessStop c.take.result (UnlessHeld m (Take c.data_page-x.result.0 c.args.n.0 ∷ []) c.take.result (IsShown c.take.new.store (g.D.Disk.state c.take.new.disk).block) (IsOk c.take.result × IsShown c.take.new.store (g.D.Disk.state c.take.new.disk).block (one (Take c.data_page-x.result.0 c.args.n.0) m)))
take_err g c told m shown =
    page_step m c.data_page-x.result.0 c.args.n.0 (held_in c.args.store.now c.data_page-x.result) c.take.result (IsShown c.take.new.store (g.D.Disk.state c.take.new.disk).block) (c.take.ensures.refused told m shown)
    (some_then (held_in c.args.store.now c.data_page-x.result) _ _ c.take.ensures.held (λ why same. (same.0, subst (λ v. IsShown v (g.D.Disk.state c.take.new.disk).block m) (sym same.1) (subst (λ d. IsShown c.args.store.now (g.D.Disk.state d).block m) (sym same.2) shown))))
    (λ free. error_then c.take.result _ (λ why. says_stop why ≡ true) c.take.ensures.stopped (λ why stops. stops told m shown free))
    (on_done c.take.result c.take.ensures.shows (λ shows. shows told m shown))

take_ok : (g : given.Over) (c : goal.In_ok-take g) → IsTrue g.D.Disk.told → (m : Machine) → IsShown c.args.store.now (g.D.Disk.state c.args.disk.now).block m
    → UnlessStop c.take.result (UnlessHeld m (Take c.data_page-x.result.0 c.args.n.0 ∷ []) c.take.result (IsShown c.take.new.store (g.D.Disk.state c.take.new.disk).block) (IsOk c.take.result × IsShown c.take.new.store (g.D.Disk.state c.take.new.disk).block (one (Take c.data_page-x.result.0 c.args.n.0) m)))
take_ok g c told m shown =
    page_step m c.data_page-x.result.0 c.args.n.0 (held_in c.args.store.now c.data_page-x.result) c.take.result (IsShown c.take.new.store (g.D.Disk.state c.take.new.disk).block) (c.take.ensures.refused told m shown)
    (some_then (held_in c.args.store.now c.data_page-x.result) _ _ c.take.ensures.held (λ why same. (same.0, subst (λ v. IsShown v (g.D.Disk.state c.take.new.disk).block m) (sym same.1) (subst (λ d. IsShown c.args.store.now (g.D.Disk.state d).block m) (sym same.2) shown))))
    (λ free. error_then c.take.result _ (λ why. says_stop why ≡ true) c.take.ensures.stopped (λ why stops. stops told m shown free))
    (on_done c.take.result c.take.ensures.shows (λ shows. shows told m shown))

pub returns-in_err-take-clause-step : goal.returns-in_err-take-clause-step
returns-in_err-take-clause-step g c = λ told m shown.
    let e = the_error c.from_residual.result _ c.from_residual.ensures.1 in
    let S : Machine → Type 0 = IsShown c.take.new.store (g.D.Disk.state c.take.new.disk).block in
    stop_on _ _ m (Take (page_of_place c.args.store.now.shape c.args.map.0 c.args.place) c.args.n.0 ∷ []) c.take.result c.from_residual.result e.0 S (c.in_err-take.was ∙ ap Err (sym e.2)) e.1
    (subst (λ k. UnlessStop c.take.result (UnlessHeld m (Take k c.args.n.0 ∷ []) c.take.result S (IsOk c.take.result × S (one (Take k c.args.n.0) m)))) c.data_page-x.ensures.at (take_err g c told m shown))

map_after : (g : given.Over) (c : goal.In_ok-take g) (image : MapImage) → ShowsMap c.args.store.now c.args.n.0 c.args.map image → ShowsMap c.take.new.store c.args.n.0 c.args.map image
map_after g c image was =
    let same = map_of_its_place c.args.store.now.shape c.data_page-x.result c.args.map c.args.place (omega (arith, c.requires.place)) c.data_page-x.ensures.at in
    subst (λ y. ShowsMap c.take.new.store c.args.n.0 y image) same (c.in_ok-take.ensures.map c.data_page-x.ensures.low image (subst (λ y. ShowsMap c.args.store.now c.args.n.0 y image) (sym same) was))

pub returns-clause-map : goal.returns-clause-map
returns-clause-map g c = map_after g c

pub returns-clause-map_cached : goal.returns-clause-map_cached
returns-clause-map_cached g c = let there = c.entry_at-entry.ensures.there in cached_map c.take.new.store c.args.n.0 c.args.map there.0 (map_after g c there.0 there.1)

pub returns-clause-step : goal.returns-clause-step
returns-clause-step g c = λ told m shown.
    let S : Machine → Type 0 = IsShown c.take.new.store (g.D.Disk.state c.take.new.disk).block in
    let r' : Result PageNo Reply = Ok c.data_page-x.result in
    let all = done_on m (Take c.data_page-x.result.0 c.args.n.0 ∷ []) c.take.result tt S c.in_ok-take.was (take_ok g c told m shown) in
    subst (λ k. UnlessHeld m (Take k c.args.n.0 ∷ []) r' S (IsOk r' × S (one (Take k c.args.n.0) m))) c.data_page-x.ensures.at
    (is_free m (Take c.data_page-x.result.0 c.args.n.0 ∷ []) r' S all.0 (refl, all.1))

pub returns-in_err-take-clause-hit : goal.returns-in_err-take-clause-hit
returns-in_err-take-clause-hit g c = λ has.
    let cached = subst (λ k. HasCached c.args.store.now c.args.n.0 (record { 0 = k })) (sym c.data_page-x.ensures.at) has in
    absurd (never c.take.result _ (c.take.ensures.hit cached).0 c.in_err-take.was)

pub returns-clause-hit : goal.returns-clause-hit
returns-clause-hit g c = λ has.
    let same = c.take.ensures.hit (subst (λ k. HasCached c.args.store.now c.args.n.0 (record { 0 = k })) (sym c.data_page-x.ensures.at) has) in
    (refl, same.1, same.2, same.3)

-- ---- why the page couldn't be taken

pub returns-in_err-take-clause-fault : goal.returns-in_err-take-clause-fault
returns-in_err-take-clause-fault g c =
    passed_on c.from_residual.result _ (IsFaultOfTake c.args.store.now c.args.n.0 (record { 0 = page_of_place c.args.store.now.shape c.args.map.0 c.args.place })) c.from_residual.ensures.1
    (λ why same. subst (IsFaultOfTake c.args.store.now c.args.n.0 (record { 0 = page_of_place c.args.store.now.shape c.args.map.0 c.args.place })) (sym same) (subst (λ k. IsFaultOfTake c.args.store.now c.args.n.0 (record { 0 = k }) c.in_err-take.field-0.0) c.data_page-x.ensures.at c.in_err-take.ensures.fault))

pub returns-in_err-take-clause-told : goal.returns-in_err-take-clause-told
returns-in_err-take-clause-told g c = λ told.
    passed_on c.from_residual.result _ (IsToldOfPages c.args.store.now.shape (contents (g.D.Disk.state c.take.new.disk).block)) c.from_residual.ensures.1
    (λ why same. subst (IsToldOfPages c.args.store.now.shape (contents (g.D.Disk.state c.take.new.disk).block)) (sym same) (c.in_err-take.ensures.told told))

-- ---- what it leaves

pub returns-in_err-take-clause-works : goal.returns-in_err-take-clause-works
returns-in_err-take-clause-works g c =
    let e = the_error c.from_residual.result _ c.from_residual.ensures.1 in
    works_said c.args.n.0 (SaysStopOf c.take.result) (SaysStopOf c.from_residual.result) c.args.store.now c.take.new.store (g.D.Disk.state c.args.disk.now) (g.D.Disk.state c.take.new.disk) (g.V.Disk.state c.args.vault.now) (g.V.Disk.state c.take.new.vault)
    (says_on c.take.result c.from_residual.result e.0 (c.in_err-take.was ∙ ap Err (sym e.2)) e.1) c.take.ensures.works

pub returns-clause-works : goal.returns-clause-works
returns-clause-works g c =
    works_said c.args.n.0 (SaysStopOf c.take.result) (λ m. ⊥) c.args.store.now c.take.new.store (g.D.Disk.state c.args.disk.now) (g.D.Disk.state c.take.new.disk) (g.V.Disk.state c.args.vault.now) (g.V.Disk.state c.take.new.vault)
    (says_none c.take.result tt c.in_ok-take.was) c.take.ensures.works

pub returns-in_err-take-clause-work : goal.returns-in_err-take-clause-work
returns-in_err-take-clause-work g c =
    let e = the_error c.from_residual.result _ c.from_residual.ensures.1 in
    unless_pass _ c.take.result c.from_residual.result e.0 (c.in_err-take.was ∙ ap Err (sym e.2)) e.1 c.take.ensures.work

pub returns-in_err-take-clause-holders : goal.returns-in_err-take-clause-holders
returns-in_err-take-clause-holders g c =
    let e = the_error c.from_residual.result _ c.from_residual.ensures.1 in
    unless_pass _ c.take.result c.from_residual.result e.0 (c.in_err-take.was ∙ ap Err (sym e.2)) e.1 c.take.ensures.holders

pub returns-clause-work : goal.returns-clause-work
returns-clause-work g c = unless_ok c.take.result tt c.in_ok-take.was c.take.ensures.work

pub returns-clause-holders : goal.returns-clause-holders
returns-clause-holders g c = unless_ok c.take.result tt c.in_ok-take.was c.take.ensures.holders
