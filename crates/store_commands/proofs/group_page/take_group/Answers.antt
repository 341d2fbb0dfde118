use Rattle.std.specs.Prelude.{◌≡◌, ◌≤◌, ◌∷◌, [], true, IsTrue, IsOk, Some, None, Ok, Err, option_map, IfSome, refl}
use Rattle.std.specs.List.{position}
use Rattle.std.proofs.Common.{arith, ap, inl, subst, sym, ◌∙◌}
use Rattle.sd_base.specs.Places.{group_of, map_of_key, page_of_place}
use Rattle.sd_base.proofs.PlaceLaws.{map_of_its_place}
use Rattle.sd_base.specs.declared.names.PageNo.{PageNo}
use Rattle.space_map.specs.Entry.{is_used_by}
use Rattle.private_log.specs.Reading.{contents}
use Rattle.record_machine.specs.Commands.{takes_both}
use Rattle.record_machine.specs.Machine.{Machine, home}
use Rattle.record_machine.specs.Parts.{Take, dos, one}
use Rattle.record_machine.specs.Steps.{held}
use Rattle.store_nodes.specs.Causes.{IsFaultOfTake, IsToldOfPages}
use Rattle.store_nodes.specs.Footprint.{KeepsHoldersBut, TookPage}
use Rattle.store_nodes.specs.Pages.{ShowsMap}
use Rattle.store_nodes.specs.Ports.{SaysStopOf, UnlessStop, says_stop}
use Rattle.store_nodes.specs.Shows.{IsShown}
use Rattle.store_nodes.specs.Known.{held_in}
use Rattle.store_pages.proofs.Images.{cached_map}
use Rattle.store_commands.specs.AtHand.{HasPlace}
use Rattle.store_commands.specs.Faults.{IsFaultFor}
use Rattle.store_commands.specs.Taking.{UnlessHeld}
use Rattle.store_commands.proofs.BothTaken.{apart}
use Rattle.store_commands.proofs.GroupTaken.{both_done, first_done, first_failed, second_failed}
use Rattle.store_commands.proofs.Groups.{group_home, no_page_for, page_for, place_is}
use Rattle.store_commands.proofs.Memory.{map_at_number}
use Rattle.store_commands.proofs.RoomMade.{room_alone, room_both}
use Rattle.store_commands.proofs.ShownImages.{map_of_key_is, one_image}
use Rattle.store_commands.proofs.Stopping.{done_on, unless_ok, unless_pass, unless_then}
use Rattle.store_commands.proofs.TakeSteps.{page_step, some_then}
use Rattle.store_commands.proofs.Testing.{error_then, never, on_done, passed_on, the_error}
use Rattle.store_commands.proofs.With.{NoStop, fault_for, says_none, says_on, work_then, worker_before, works_said, works_then, writes_then}
use Rattle.store_commands.proofs.group_page.take_group.Given as given
use Rattle.store_commands.proofs.group_page.take_group.Goals as goal

-- what the machine does as the map page is taken, or why it doesn't
take_err : (g : given.Over) (c : goal.After-from_residual g) → IsTrue g.D.Disk.told → (m : Machine) → IsShown c.args.store.now (g.D.Disk.state c.args.disk.now).block m
    → UnlessStop c.take.result (UnlessHeld m (Take c.map_of_key-map.result.0 c.args.n.0 ∷ []) c.take.result (IsShown c.take.new.store (g.D.Disk.state c.take.new.disk).block) (IsOk c.take.result × IsShown c.take.new.store (g.D.Disk.state c.take.new.disk).block (one (Take c.map_of_key-map.result.0 c.args.n.0) m)))
take_err g c told m shown =
    page_step m c.map_of_key-map.result.0 c.args.n.0 (held_in c.args.store.now c.map_of_key-map.result) c.take.result (IsShown c.take.new.store (g.D.Disk.state c.take.new.disk).block) (c.take.ensures.refused told m shown)
    (some_then (held_in c.args.store.now c.map_of_key-map.result) _ _ c.take.ensures.held (λ why same. (same.0, subst (λ v. IsShown v (g.D.Disk.state c.take.new.disk).block m) (sym same.1) (subst (λ d. IsShown c.args.store.now (g.D.Disk.state d).block m) (sym same.2) shown))))
    (λ free. error_then c.take.result _ (λ why. says_stop why ≡ true) c.take.ensures.stopped (λ why stops. stops told m shown free))
    (on_done c.take.result c.take.ensures.shows (λ shows. shows told m shown))

take_err_x : (g : given.Over) (c : goal.After-from_residual-in_err-x-in-Some g) → IsTrue g.D.Disk.told → (m : Machine) → IsShown c.args.store.now (g.D.Disk.state c.args.disk.now).block m
    → UnlessStop c.take.result (UnlessHeld m (Take c.map_of_key-map.result.0 c.args.n.0 ∷ []) c.take.result (IsShown c.take.new.store (g.D.Disk.state c.take.new.disk).block) (IsOk c.take.result × IsShown c.take.new.store (g.D.Disk.state c.take.new.disk).block (one (Take c.map_of_key-map.result.0 c.args.n.0) m)))
take_err_x g c told m shown =
    page_step m c.map_of_key-map.result.0 c.args.n.0 (held_in c.args.store.now c.map_of_key-map.result) c.take.result (IsShown c.take.new.store (g.D.Disk.state c.take.new.disk).block) (c.take.ensures.refused told m shown)
    (some_then (held_in c.args.store.now c.map_of_key-map.result) _ _ c.take.ensures.held (λ why same. (same.0, subst (λ v. IsShown v (g.D.Disk.state c.take.new.disk).block m) (sym same.1) (subst (λ d. IsShown c.args.store.now (g.D.Disk.state d).block m) (sym same.2) shown))))
    (λ free. error_then c.take.result _ (λ why. says_stop why ≡ true) c.take.ensures.stopped (λ why stops. stops told m shown free))
    (on_done c.take.result c.take.ensures.shows (λ shows. shows told m shown))

take_some : (g : given.Over) (c : goal.In_ok-x-in-Some g) → IsTrue g.D.Disk.told → (m : Machine) → IsShown c.args.store.now (g.D.Disk.state c.args.disk.now).block m
    → UnlessStop c.take.result (UnlessHeld m (Take c.map_of_key-map.result.0 c.args.n.0 ∷ []) c.take.result (IsShown c.take.new.store (g.D.Disk.state c.take.new.disk).block) (IsOk c.take.result × IsShown c.take.new.store (g.D.Disk.state c.take.new.disk).block (one (Take c.map_of_key-map.result.0 c.args.n.0) m)))
take_some g c told m shown =
    page_step m c.map_of_key-map.result.0 c.args.n.0 (held_in c.args.store.now c.map_of_key-map.result) c.take.result (IsShown c.take.new.store (g.D.Disk.state c.take.new.disk).block) (c.take.ensures.refused told m shown)
    (some_then (held_in c.args.store.now c.map_of_key-map.result) _ _ c.take.ensures.held (λ why same. (same.0, subst (λ v. IsShown v (g.D.Disk.state c.take.new.disk).block m) (sym same.1) (subst (λ d. IsShown c.args.store.now (g.D.Disk.state d).block m) (sym same.2) shown))))
    (λ free. error_then c.take.result _ (λ why. says_stop why ≡ true) c.take.ensures.stopped (λ why stops. stops told m shown free))
    (on_done c.take.result c.take.ensures.shows (λ shows. shows told m shown))

take_none : (g : given.Over) (c : goal.In-None g) → IsTrue g.D.Disk.told → (m : Machine) → IsShown c.args.store.now (g.D.Disk.state c.args.disk.now).block m
    → UnlessStop c.take.result (UnlessHeld m (Take c.map_of_key-map.result.0 c.args.n.0 ∷ []) c.take.result (IsShown c.take.new.store (g.D.Disk.state c.take.new.disk).block) (IsOk c.take.result × IsShown c.take.new.store (g.D.Disk.state c.take.new.disk).block (one (Take c.map_of_key-map.result.0 c.args.n.0) m)))
take_none g c told m shown =
    page_step m c.map_of_key-map.result.0 c.args.n.0 (held_in c.args.store.now c.map_of_key-map.result) c.take.result (IsShown c.take.new.store (g.D.Disk.state c.take.new.disk).block) (c.take.ensures.refused told m shown)
    (some_then (held_in c.args.store.now c.map_of_key-map.result) _ _ c.take.ensures.held (λ why same. (same.0, subst (λ v. IsShown v (g.D.Disk.state c.take.new.disk).block m) (sym same.1) (subst (λ d. IsShown c.args.store.now (g.D.Disk.state d).block m) (sym same.2) shown))))
    (λ free. error_then c.take.result _ (λ why. says_stop why ≡ true) c.take.ensures.stopped (λ why stops. stops told m shown free))
    (on_done c.take.result c.take.ensures.shows (λ shows. shows told m shown))

-- the number of the map page, as the machine has it
map_some : (g : given.Over) (c : goal.In_ok-x-in-Some g) → (m : Machine) → IsShown c.args.store.now (g.D.Disk.state c.args.disk.now).block m → c.map_of_key-map.result.0 ≡ map_of_key m.shape c.args.key.0
map_some g c m shown = c.map_of_key-map.ensures.at ∙ sym (map_of_key_is c.args.store.now c.args.n.0 (g.D.Disk.state c.args.disk.now).block m c.requires.ready.is c.requires.node c.requires.up shown c.args.key.0)

-- ---- a page that couldn't be taken

pub returns-in_err-take-clause-step : goal.returns-in_err-take-clause-step
returns-in_err-take-clause-step g c = λ told m shown.
    let e = the_error c.from_residual.result _ c.from_residual.ensures.1 in
    let at = c.map_of_key-map.ensures.at ∙ sym (map_of_key_is c.args.store.now c.args.n.0 (g.D.Disk.state c.args.disk.now).block m c.requires.ready.is c.requires.node c.requires.up shown c.args.key.0) in
    first_failed m c.args.n.0 c.args.key.0 c.map_of_key-map.result.0 at _ _ (home m c.args.key.0) c.take.result c.from_residual.result e.0 (IsShown c.take.new.store (g.D.Disk.state c.take.new.disk).block) (c.in_err-take.was ∙ ap Err (sym e.2)) e.1 (take_err g c told m shown)

pub returns-in_err-x-in-Some-clause-step : goal.returns-in_err-x-in-Some-clause-step
returns-in_err-x-in-Some-clause-step g c = λ told m shown.
    let e = the_error c.from_residual-in_err-x-in-Some.result _ c.from_residual-in_err-x-in-Some.ensures.1 in
    let s = c.args.store.now.shape in
    let map = c.map_of_key-map.result.0 in
    let n = c.args.n.0 in
    let at = c.map_of_key-map.ensures.at ∙ sym (map_of_key_is c.args.store.now n (g.D.Disk.state c.args.disk.now).block m c.requires.ready.is c.requires.node c.requires.up shown c.args.key.0) in
    let S : Machine → Type 0 = IsShown c.take_data.new.store (g.D.Disk.state c.take_data.new.disk).block in
    let first = done_on m (Take map n ∷ []) c.take.result tt (IsShown c.take.new.store (g.D.Disk.state c.take.new.disk).block) c.in_ok-take.was (take_err_x g c told m shown) in
    let is = group_home s c.take.new.store n c.args.key.0 c.map_of_key-map.result c.group.result c.place_of_group.result c.take.ensures.works.shape c.map_of_key-map.ensures.at c.group.ensures.group c.place_of_group.ensures.first (g.D.Disk.state c.take.new.disk).block m c.take.ensures.works.ready.is c.requires.node c.in_ok-take.ensures.up c.map_of_key-map.ensures.low c.place_of_group.ensures.there first.1
    ∙ ap (option_map (page_of_place s map)) c.in-Some.is in
    let second = subst (λ t. UnlessStop c.take_data.result (UnlessHeld (one (Take map n) m) (Take (page_of_place t map c.in-Some.place) n ∷ []) c.take_data.result S (IsOk c.take_data.result × S (one (Take (page_of_place t map c.in-Some.place) n) (one (Take map n) m))))) c.take.ensures.works.shape (c.take_data.ensures.step told (one (Take map n) m) first.1) in
    subst (λ o. UnlessStop c.from_residual-in_err-x-in-Some.result (UnlessHeld m (takes_both m n c.args.key.0 o) c.from_residual-in_err-x-in-Some.result S (IsOk c.from_residual-in_err-x-in-Some.result × S (dos (takes_both m n c.args.key.0 o) m)))) (sym is)
    (second_failed m n c.args.key.0 map at _ _ (page_of_place s map c.in-Some.place) c.take_data.result c.from_residual-in_err-x-in-Some.result e.0 S (apart s map c.in-Some.place c.map_of_key-map.ensures.low) first.0 (c.in_err-x-in-Some.was ∙ ap Err (sym e.2)) e.1 second)

-- ---- both pages were taken, or the group has none

-- the page that the machine says the group has
home_some : (g : given.Over) (c : goal.In_ok-x-in-Some g) → (m : Machine) → IsShown c.take.new.store (g.D.Disk.state c.take.new.disk).block (one (Take c.map_of_key-map.result.0 c.args.n.0) m) → home m c.args.key.0 ≡ Some (page_of_place c.args.store.now.shape c.map_of_key-map.result.0 c.in-Some.place)
home_some g c m after =
    group_home c.args.store.now.shape c.take.new.store c.args.n.0 c.args.key.0 c.map_of_key-map.result c.group.result c.place_of_group.result c.take.ensures.works.shape c.map_of_key-map.ensures.at c.group.ensures.group c.place_of_group.ensures.first (g.D.Disk.state c.take.new.disk).block m c.take.ensures.works.ready.is c.requires.node c.in_ok-take.ensures.up c.map_of_key-map.ensures.low c.place_of_group.ensures.there after
    ∙ ap (option_map (page_of_place c.args.store.now.shape c.map_of_key-map.result.0)) c.in-Some.is

home_none : (g : given.Over) (c : goal.In-None g) → (m : Machine) → IsShown c.take.new.store (g.D.Disk.state c.take.new.disk).block (one (Take c.map_of_key-map.result.0 c.args.n.0) m) → home m c.args.key.0 ≡ None
home_none g c m after =
    group_home c.args.store.now.shape c.take.new.store c.args.n.0 c.args.key.0 c.map_of_key-map.result c.group.result c.place_of_group.result c.take.ensures.works.shape c.map_of_key-map.ensures.at c.group.ensures.group c.place_of_group.ensures.first (g.D.Disk.state c.take.new.disk).block m c.take.ensures.works.ready.is c.requires.node c.in_ok-take.ensures.up c.map_of_key-map.ensures.low c.place_of_group.ensures.there after
    ∙ ap (option_map (page_of_place c.args.store.now.shape c.map_of_key-map.result.0)) c.in-None.is

pub returns-in_ok-x-in-Some-clause-step : goal.returns-in_ok-x-in-Some-clause-step
returns-in_ok-x-in-Some-clause-step g c = λ told m shown.
    let s = c.args.store.now.shape in
    let map = c.map_of_key-map.result.0 in
    let n = c.args.n.0 in
    let r' = Ok (Some c.in_ok-x-in-Some.x) in
    let S : Machine → Type 0 = IsShown c.take_data.new.store (g.D.Disk.state c.take_data.new.disk).block in
    let first = done_on m (Take map n ∷ []) c.take.result tt (IsShown c.take.new.store (g.D.Disk.state c.take.new.disk).block) c.in_ok-take.was (take_some g c told m shown) in
    let second = subst (λ t. UnlessStop c.take_data.result (UnlessHeld (one (Take map n) m) (Take (page_of_place t map c.in-Some.place) n ∷ []) c.take_data.result S (IsOk c.take_data.result × S (one (Take (page_of_place t map c.in-Some.place) n) (one (Take map n) m))))) c.take.ensures.works.shape (c.take_data.ensures.step told (one (Take map n) m) first.1) in
    subst (λ o. UnlessHeld m (takes_both m n c.args.key.0 o) r' S (IsOk r' × S (dos (takes_both m n c.args.key.0 o) m))) (sym (home_some g c m first.1))
    (both_done m n c.args.key.0 map (map_some g c m shown) (page_of_place s map c.in-Some.place) c.take_data.result c.in_ok-x-in-Some.x r' S (apart s map c.in-Some.place c.map_of_key-map.ensures.low) first.0 c.in_ok-x-in-Some.was refl second)

pub returns-in_ok-x-in-Some-clause-found : goal.returns-in_ok-x-in-Some-clause-found
returns-in_ok-x-in-Some-clause-found g c = λ told m shown.
    let first = done_on m (Take c.map_of_key-map.result.0 c.args.n.0 ∷ []) c.take.result tt (IsShown c.take.new.store (g.D.Disk.state c.take.new.disk).block) c.in_ok-take.was (take_some g c told m shown) in
    ap Some (c.in_ok-x-in-Some.ensures.page.0 ∙ ap (λ t. page_of_place t c.map_of_key-map.result.0 c.in-Some.place) c.take.ensures.works.shape) ∙ sym (home_some g c m first.1)

pub returns-in_ok-x-in-Some-clause-map : goal.returns-in_ok-x-in-Some-clause-map
returns-in_ok-x-in-Some-clause-map g c = λ image has.
    let s = c.args.store.now.shape in
    let at = c.map_of_key-map.ensures.at in
    let there = c.place_of_group.ensures.there in
    let kept = c.in_ok-x-in-Some.ensures.map there.0 there.1 in
    let same = one_image c.take_data.new.store c.args.n.0 c.map_of_key-map.result there.0 image c.in_ok-x-in-Some.ensures.up kept (subst (λ y. ShowsMap c.take_data.new.store c.args.n.0 y image) (ap (λ k. record { 0 = k }) (sym at)) has) in
    let place = place_is s c.take.new.store c.args.n.0 c.args.key.0 c.map_of_key-map.result c.group.result c.place_of_group.result c.take.ensures.works.shape at c.group.ensures.group c.place_of_group.ensures.first there.0 there.1 ∙ c.in-Some.is in
    ap Some (c.in_ok-x-in-Some.ensures.page.0 ∙ ap (λ t. page_of_place t c.map_of_key-map.result.0 c.in-Some.place) c.take.ensures.works.shape ∙ ap (λ k. page_of_place s k c.in-Some.place) at)
    ∙ sym (ap (λ i. option_map (page_of_place s (map_of_key s c.args.key.0)) (position (is_used_by (group_of c.args.key.0)) i.entries)) (sym same) ∙ ap (option_map (page_of_place s (map_of_key s c.args.key.0))) place)

pub returns-in_ok-x-in-Some-clause-for_key : goal.returns-in_ok-x-in-Some-clause-for_key
returns-in_ok-x-in-Some-clause-for_key g c =
    page_for c.args.store.now.shape c.args.key c.map_of_key-map.result c.in_ok-x-in-Some.x c.in-Some.place c.map_of_key-map.ensures.at (subst (λ o. IfSome o (λ k. k ≤ 251)) c.in-Some.is c.place_of_group.ensures.place) (c.in_ok-x-in-Some.ensures.page.0 ∙ ap (λ t. page_of_place t c.map_of_key-map.result.0 c.in-Some.place) c.take.ensures.works.shape)

pub returns-in-None-clause-step : goal.returns-in-None-clause-step
returns-in-None-clause-step g c = λ told m shown.
    let map = c.map_of_key-map.result.0 in
    let n = c.args.n.0 in
    let S : Machine → Type 0 = IsShown c.take.new.store (g.D.Disk.state c.take.new.disk).block in
    let r' = Ok None in
    let first = done_on m (Take map n ∷ []) c.take.result tt S c.in_ok-take.was (take_none g c told m shown) in
    let at = c.map_of_key-map.ensures.at ∙ sym (map_of_key_is c.args.store.now n (g.D.Disk.state c.args.disk.now).block m c.requires.ready.is c.requires.node c.requires.up shown c.args.key.0) in
    subst (λ o. UnlessHeld m (takes_both m n c.args.key.0 o) r' S (IsOk r' × S (dos (takes_both m n c.args.key.0 o) m))) (sym (home_none g c m first.1)) (first_done m n c.args.key.0 map at r' S first.0 refl first.1)

pub returns-in-None-clause-found : goal.returns-in-None-clause-found
returns-in-None-clause-found g c = λ told m shown.
    let first = done_on m (Take c.map_of_key-map.result.0 c.args.n.0 ∷ []) c.take.result tt (IsShown c.take.new.store (g.D.Disk.state c.take.new.disk).block) c.in_ok-take.was (take_none g c told m shown) in
    sym (home_none g c m first.1)

pub returns-in-None-clause-none : goal.returns-in-None-clause-none
returns-in-None-clause-none g c =
    no_page_for c.args.store.now.shape c.take.new.store c.args.n.0 c.args.key.0 c.map_of_key-map.result c.group.result c.place_of_group.result c.take.ensures.works.shape c.map_of_key-map.ensures.at c.group.ensures.group c.place_of_group.ensures.first c.args.key refl c.in-None.is c.place_of_group.ensures.there

-- ---- where both pages are cached

pub returns-in_err-take-clause-hit : goal.returns-in_err-take-clause-hit
returns-in_err-take-clause-hit g c = λ image shows used.
    let here = map_at_number c.args.store.now c.args.n.0 (map_of_key c.args.store.now.shape c.args.key.0) c.map_of_key-map.result image c.map_of_key-map.ensures.at shows in
    absurd (never c.take.result _ (c.take.ensures.hit (cached_map c.args.store.now c.args.n.0 c.map_of_key-map.result image here)).0 c.in_err-take.was)

pub returns-in_err-x-in-Some-clause-hit : goal.returns-in_err-x-in-Some-clause-hit
returns-in_err-x-in-Some-clause-hit g c = λ image shows used.
    let n = c.args.n.0 in
    let s = c.args.store.now.shape in
    let at = c.map_of_key-map.ensures.at in
    let here = map_at_number c.args.store.now n (map_of_key s c.args.key.0) c.map_of_key-map.result image at shows in
    let same = c.take.ensures.hit (cached_map c.args.store.now n c.map_of_key-map.result image here) in
    let found = place_is s c.take.new.store n c.args.key.0 c.map_of_key-map.result c.group.result c.place_of_group.result c.take.ensures.works.shape at c.group.ensures.group c.place_of_group.ensures.first image (subst (λ v. ShowsMap v n c.map_of_key-map.result image) (sym same.1) here) ∙ c.in-Some.is in
    let has : HasPlace c.args.store.now n (map_of_key s c.args.key.0) c.in-Some.place = subst (λ o. IfSome o (HasPlace c.args.store.now n (map_of_key s c.args.key.0))) found used in
    let has_now = subst (λ k. HasPlace c.take.new.store n k c.in-Some.place) (sym at) (subst (λ v. HasPlace v n (map_of_key s c.args.key.0) c.in-Some.place) (sym same.1) has) in
    absurd (never c.take_data.result _ (c.take_data.ensures.hit has_now).0 c.in_err-x-in-Some.was)

pub returns-in_ok-x-in-Some-clause-hit : goal.returns-in_ok-x-in-Some-clause-hit
returns-in_ok-x-in-Some-clause-hit g c = λ image shows used.
    let n = c.args.n.0 in
    let s = c.args.store.now.shape in
    let at = c.map_of_key-map.ensures.at in
    let here = map_at_number c.args.store.now n (map_of_key s c.args.key.0) c.map_of_key-map.result image at shows in
    let same = c.take.ensures.hit (cached_map c.args.store.now n c.map_of_key-map.result image here) in
    let found = place_is s c.take.new.store n c.args.key.0 c.map_of_key-map.result c.group.result c.place_of_group.result c.take.ensures.works.shape at c.group.ensures.group c.place_of_group.ensures.first image (subst (λ v. ShowsMap v n c.map_of_key-map.result image) (sym same.1) here) ∙ c.in-Some.is in
    let has : HasPlace c.args.store.now n (map_of_key s c.args.key.0) c.in-Some.place = subst (λ o. IfSome o (HasPlace c.args.store.now n (map_of_key s c.args.key.0))) found used in
    let has_now = subst (λ k. HasPlace c.take.new.store n k c.in-Some.place) (sym at) (subst (λ v. HasPlace v n (map_of_key s c.args.key.0) c.in-Some.place) (sym same.1) has) in
    let next = c.take_data.ensures.hit has_now in
    (refl, next.1 ∙ same.1, next.2 ∙ same.2, next.3 ∙ same.3)

pub returns-in-None-clause-hit : goal.returns-in-None-clause-hit
returns-in-None-clause-hit g c = λ image shows used.
    let here = map_at_number c.args.store.now c.args.n.0 (map_of_key c.args.store.now.shape c.args.key.0) c.map_of_key-map.result image c.map_of_key-map.ensures.at shows in
    let same = c.take.ensures.hit (cached_map c.args.store.now c.args.n.0 c.map_of_key-map.result image here) in
    (refl, same.1, same.2, same.3)

-- ---- why a page couldn't be taken

pub returns-in_err-take-clause-told : goal.returns-in_err-take-clause-told
returns-in_err-take-clause-told g c = λ told.
    passed_on c.from_residual.result _ (IsToldOfPages c.args.store.now.shape (contents (g.D.Disk.state c.take.new.disk).block)) c.from_residual.ensures.1
    (λ why same. subst (IsToldOfPages c.args.store.now.shape (contents (g.D.Disk.state c.take.new.disk).block)) (sym same) (c.in_err-take.ensures.told told))

pub returns-in_err-x-in-Some-clause-told : goal.returns-in_err-x-in-Some-clause-told
returns-in_err-x-in-Some-clause-told g c = λ told.
    passed_on c.from_residual-in_err-x-in-Some.result _ (IsToldOfPages c.args.store.now.shape (contents (g.D.Disk.state c.take_data.new.disk).block)) c.from_residual-in_err-x-in-Some.ensures.1
    (λ why same. subst (IsToldOfPages c.args.store.now.shape (contents (g.D.Disk.state c.take_data.new.disk).block)) (sym same)
    (subst (λ s. IsToldOfPages s (contents (g.D.Disk.state c.take_data.new.disk).block) c.in_err-x-in-Some.field-0.0) c.take.ensures.works.shape (c.in_err-x-in-Some.ensures.told told)))

pub returns-in_err-take-clause-fault : goal.returns-in_err-take-clause-fault
returns-in_err-take-clause-fault g c =
    passed_on c.from_residual.result _ (IsFaultFor c.args.store.now c.args.n.0 c.args.key) c.from_residual.ensures.1
    (λ why same. subst (IsFaultFor c.args.store.now c.args.n.0 c.args.key) (sym same) (fault_for c.args.store.now c.args.store.now c.args.n.0 c.args.key c.map_of_key-map.result c.in_err-take.field-0.0 c.requires.ready.is refl (λ m works. works) refl (inl c.map_of_key-map.ensures.at) c.in_err-take.ensures.fault))

pub returns-in_err-x-in-Some-clause-fault : goal.returns-in_err-x-in-Some-clause-fault
returns-in_err-x-in-Some-clause-fault g c =
    let s = c.args.store.now.shape in
    let n = c.args.n.0 in
    let map = c.map_of_key-map.result in
    let place = c.in-Some.place in
    let x : PageNo = record { 0 = page_of_place s map.0 place } in
    let page = page_for s c.args.key map x place c.map_of_key-map.ensures.at (subst (λ o. IfSome o (λ k. k ≤ 251)) c.in-Some.is c.place_of_group.ensures.place) refl in
    let fault = subst (λ t. IsFaultOfTake c.take.new.store n (record { 0 = page_of_place t map.0 place }) c.in_err-x-in-Some.field-0.0) c.take.ensures.works.shape c.in_err-x-in-Some.ensures.fault in
    let holders = unless_ok c.take.result tt c.in_ok-take.was c.take.ensures.holders in
    passed_on c.from_residual-in_err-x-in-Some.result _ (IsFaultFor c.args.store.now n c.args.key) c.from_residual-in_err-x-in-Some.ensures.1
    (λ why same. subst (IsFaultFor c.args.store.now n c.args.key) (sym same) (fault_for c.args.store.now c.take.new.store n c.args.key x c.in_err-x-in-Some.field-0.0 c.take.ensures.works.ready.is c.take.ensures.works.shape
    (worker_before n NoStop c.args.store.now c.take.new.store (g.D.Disk.state c.args.disk.now) (g.D.Disk.state c.take.new.disk) (g.V.Disk.state c.args.vault.now) (g.V.Disk.state c.take.new.vault) (works_said c.args.n.0 (SaysStopOf c.take.result) NoStop c.args.store.now c.take.new.store (g.D.Disk.state c.args.disk.now) (g.D.Disk.state c.take.new.disk) (g.V.Disk.state c.args.vault.now) (g.V.Disk.state c.take.new.vault) (says_none c.take.result tt c.in_ok-take.was) c.take.ensures.works)) (holders x) page fault))

-- ---- what it leaves

pub returns-in_err-take-clause-works : goal.returns-in_err-take-clause-works
returns-in_err-take-clause-works g c =
    let e = the_error c.from_residual.result _ c.from_residual.ensures.1 in
    works_said c.args.n.0 (SaysStopOf c.take.result) (SaysStopOf c.from_residual.result) c.args.store.now c.take.new.store (g.D.Disk.state c.args.disk.now) (g.D.Disk.state c.take.new.disk) (g.V.Disk.state c.args.vault.now) (g.V.Disk.state c.take.new.vault)
    (says_on c.take.result c.from_residual.result e.0 (c.in_err-take.was ∙ ap Err (sym e.2)) e.1) c.take.ensures.works

pub returns-in_err-x-in-Some-clause-works : goal.returns-in_err-x-in-Some-clause-works
returns-in_err-x-in-Some-clause-works g c =
    let e = the_error c.from_residual-in_err-x-in-Some.result _ c.from_residual-in_err-x-in-Some.ensures.1 in
    works_then c.args.n.0 (SaysStopOf c.from_residual-in_err-x-in-Some.result) c.args.store.now c.take.new.store c.take_data.new.store (g.D.Disk.state c.args.disk.now) (g.D.Disk.state c.take.new.disk) (g.D.Disk.state c.take_data.new.disk) (g.V.Disk.state c.args.vault.now) (g.V.Disk.state c.take.new.vault) (g.V.Disk.state c.take_data.new.vault) (works_said c.args.n.0 (SaysStopOf c.take.result) NoStop c.args.store.now c.take.new.store (g.D.Disk.state c.args.disk.now) (g.D.Disk.state c.take.new.disk) (g.V.Disk.state c.args.vault.now) (g.V.Disk.state c.take.new.vault) (says_none c.take.result tt c.in_ok-take.was) c.take.ensures.works)
    (works_said c.args.n.0 (SaysStopOf c.take_data.result) (SaysStopOf c.from_residual-in_err-x-in-Some.result) c.take.new.store c.take_data.new.store (g.D.Disk.state c.take.new.disk) (g.D.Disk.state c.take_data.new.disk) (g.V.Disk.state c.take.new.vault) (g.V.Disk.state c.take_data.new.vault)
    (says_on c.take_data.result c.from_residual-in_err-x-in-Some.result e.0 (c.in_err-x-in-Some.was ∙ ap Err (sym e.2)) e.1) c.take_data.ensures.works)

pub returns-in_ok-x-in-Some-clause-works : goal.returns-in_ok-x-in-Some-clause-works
returns-in_ok-x-in-Some-clause-works g c =
    works_then c.args.n.0 NoStop c.args.store.now c.take.new.store c.take_data.new.store (g.D.Disk.state c.args.disk.now) (g.D.Disk.state c.take.new.disk) (g.D.Disk.state c.take_data.new.disk) (g.V.Disk.state c.args.vault.now) (g.V.Disk.state c.take.new.vault) (g.V.Disk.state c.take_data.new.vault) (works_said c.args.n.0 (SaysStopOf c.take.result) NoStop c.args.store.now c.take.new.store (g.D.Disk.state c.args.disk.now) (g.D.Disk.state c.take.new.disk) (g.V.Disk.state c.args.vault.now) (g.V.Disk.state c.take.new.vault) (says_none c.take.result tt c.in_ok-take.was) c.take.ensures.works)
    (works_said c.args.n.0 (SaysStopOf c.take_data.result) NoStop c.take.new.store c.take_data.new.store (g.D.Disk.state c.take.new.disk) (g.D.Disk.state c.take_data.new.disk) (g.V.Disk.state c.take.new.vault) (g.V.Disk.state c.take_data.new.vault) (says_none c.take_data.result c.in_ok-x-in-Some.x c.in_ok-x-in-Some.was) c.take_data.ensures.works)

pub returns-in-None-clause-works : goal.returns-in-None-clause-works
returns-in-None-clause-works g c = works_said c.args.n.0 (SaysStopOf c.take.result) NoStop c.args.store.now c.take.new.store (g.D.Disk.state c.args.disk.now) (g.D.Disk.state c.take.new.disk) (g.V.Disk.state c.args.vault.now) (g.V.Disk.state c.take.new.vault) (says_none c.take.result tt c.in_ok-take.was) c.take.ensures.works

pub returns-in_err-x-in-Some-clause-writes : goal.returns-in_err-x-in-Some-clause-writes
returns-in_err-x-in-Some-clause-writes g c = λ told.
    writes_then c.args.n.0 c.args.store.now c.take.new.store c.take_data.new.store (g.D.Disk.state c.args.disk.now).block (g.D.Disk.state c.take.new.disk).block (g.D.Disk.state c.take_data.new.disk).block
    (worker_before c.args.n.0 NoStop c.args.store.now c.take.new.store (g.D.Disk.state c.args.disk.now) (g.D.Disk.state c.take.new.disk) (g.V.Disk.state c.args.vault.now) (g.V.Disk.state c.take.new.vault) (works_said c.args.n.0 (SaysStopOf c.take.result) NoStop c.args.store.now c.take.new.store (g.D.Disk.state c.args.disk.now) (g.D.Disk.state c.take.new.disk) (g.V.Disk.state c.args.vault.now) (g.V.Disk.state c.take.new.vault) (says_none c.take.result tt c.in_ok-take.was) c.take.ensures.works)) c.take.ensures.works.shape (c.take.ensures.writes told) (c.take_data.ensures.writes told)

pub returns-in_ok-x-in-Some-clause-writes : goal.returns-in_ok-x-in-Some-clause-writes
returns-in_ok-x-in-Some-clause-writes g c = λ told.
    writes_then c.args.n.0 c.args.store.now c.take.new.store c.take_data.new.store (g.D.Disk.state c.args.disk.now).block (g.D.Disk.state c.take.new.disk).block (g.D.Disk.state c.take_data.new.disk).block
    (worker_before c.args.n.0 NoStop c.args.store.now c.take.new.store (g.D.Disk.state c.args.disk.now) (g.D.Disk.state c.take.new.disk) (g.V.Disk.state c.args.vault.now) (g.V.Disk.state c.take.new.vault) (works_said c.args.n.0 (SaysStopOf c.take.result) NoStop c.args.store.now c.take.new.store (g.D.Disk.state c.args.disk.now) (g.D.Disk.state c.take.new.disk) (g.V.Disk.state c.args.vault.now) (g.V.Disk.state c.take.new.vault) (says_none c.take.result tt c.in_ok-take.was) c.take.ensures.works)) c.take.ensures.works.shape (c.take.ensures.writes told) (c.take_data.ensures.writes told)

pub returns-in_err-take-clause-work : goal.returns-in_err-take-clause-work
returns-in_err-take-clause-work g c =
    let e = the_error c.from_residual.result _ c.from_residual.ensures.1 in
    unless_pass _ c.take.result c.from_residual.result e.0 (c.in_err-take.was ∙ ap Err (sym e.2)) e.1 c.take.ensures.work

pub returns-in_err-take-clause-holders : goal.returns-in_err-take-clause-holders
returns-in_err-take-clause-holders g c =
    let e = the_error c.from_residual.result _ c.from_residual.ensures.1 in
    unless_pass _ c.take.result c.from_residual.result e.0 (c.in_err-take.was ∙ ap Err (sym e.2)) e.1 c.take.ensures.holders

pub returns-in_err-x-in-Some-clause-work : goal.returns-in_err-x-in-Some-clause-work
returns-in_err-x-in-Some-clause-work g c =
    let e = the_error c.from_residual-in_err-x-in-Some.result _ c.from_residual-in_err-x-in-Some.ensures.1 in
    let first = unless_ok c.take.result tt c.in_ok-take.was c.take.ensures.work in
    unless_pass _ c.take_data.result c.from_residual-in_err-x-in-Some.result e.0 (c.in_err-x-in-Some.was ∙ ap Err (sym e.2)) e.1 (unless_then c.take_data.result (work_then c.args.n.0 c.args.store.now c.take.new.store c.take_data.new.store first) c.take_data.ensures.work)

pub returns-in_err-x-in-Some-clause-holders : goal.returns-in_err-x-in-Some-clause-holders
returns-in_err-x-in-Some-clause-holders g c =
    let e = the_error c.from_residual-in_err-x-in-Some.result _ c.from_residual-in_err-x-in-Some.ensures.1 in
    let first = unless_ok c.take.result tt c.in_ok-take.was c.take.ensures.holders in
    unless_pass _ c.take_data.result c.from_residual-in_err-x-in-Some.result e.0 (c.in_err-x-in-Some.was ∙ ap Err (sym e.2)) e.1 (unless_then c.take_data.result (λ next y. next y ∙ first y) c.take_data.ensures.holders)

pub returns-in_ok-x-in-Some-clause-work : goal.returns-in_ok-x-in-Some-clause-work
returns-in_ok-x-in-Some-clause-work g c = work_then c.args.n.0 c.args.store.now c.take.new.store c.take_data.new.store (unless_ok c.take.result tt c.in_ok-take.was c.take.ensures.work) (unless_ok c.take_data.result c.in_ok-x-in-Some.x c.in_ok-x-in-Some.was c.take_data.ensures.work)

pub returns-in_ok-x-in-Some-clause-holders : goal.returns-in_ok-x-in-Some-clause-holders
returns-in_ok-x-in-Some-clause-holders g c = λ y. unless_ok c.take_data.result c.in_ok-x-in-Some.x c.in_ok-x-in-Some.was c.take_data.ensures.holders y ∙ unless_ok c.take.result tt c.in_ok-take.was c.take.ensures.holders y

pub returns-in-None-clause-work : goal.returns-in-None-clause-work
returns-in-None-clause-work g c = unless_ok c.take.result tt c.in_ok-take.was c.take.ensures.work

pub returns-in-None-clause-holders : goal.returns-in-None-clause-holders
returns-in-None-clause-holders g c = unless_ok c.take.result tt c.in_ok-take.was c.take.ensures.holders

pub take_data-requires-clause-quiet : goal.take_data-requires-clause-quiet
take_data-requires-clause-quiet g c = λ told. (c.take.ensures.writes told).quiet

pub returns-in-None-clause-map : goal.returns-in-None-clause-map
returns-in-None-clause-map g c = λ image has.
    let s = c.args.store.now.shape in
    let at = c.map_of_key-map.ensures.at in
    let here = subst (λ y. ShowsMap c.take.new.store c.args.n.0 y image) (ap (λ k. record { 0 = k }) (sym at)) has in
    let none = place_is s c.take.new.store c.args.n.0 c.args.key.0 c.map_of_key-map.result c.group.result c.place_of_group.result c.take.ensures.works.shape at c.group.ensures.group c.place_of_group.ensures.first image here ∙ c.in-None.is in
    sym (ap (option_map (page_of_place s (map_of_key s c.args.key.0))) none)

-- ---- which pages make room

pub returns-in_ok-x-in-Some-clause-made_room : goal.returns-in_ok-x-in-Some-clause-made_room
returns-in_ok-x-in-Some-clause-made_room g c = λ told.
    let me = c.args.store.now in
    let map = c.map_of_key-map.result in
    let x = c.in_ok-x-in-Some.x in
    let at = c.map_of_key-map.ensures.at in
    let same = c.take.ensures.works.shape in
    let low = subst (λ o. IfSome o (λ k. k ≤ 251)) c.in-Some.is c.place_of_group.ensures.place in
    let number : x.0 ≡ page_of_place me.shape map.0 c.in-Some.place = c.in_ok-x-in-Some.ensures.page.0 ∙ ap (λ t. page_of_place t map.0 c.in-Some.place) same in
    room_both c.args.n c.args.key map x me c.take.new.store c.take_data.new.store (g.D.Disk.state c.args.disk.now).block (g.D.Disk.state c.take.new.disk).block (g.D.Disk.state c.take_data.new.disk).block
    same c.map_of_key-map.ensures.low (subst (λ t. t.maps ≤ x.0) same c.in_ok-x-in-Some.ensures.page.1) (map_of_its_place me.shape x map c.in-Some.place (omega (arith, low)) number)
    (inl at) (page_for me.shape c.args.key map x c.in-Some.place at low number) c.in_ok-take.ensures.owners (c.in_ok-take.ensures.made_room told) (c.in_ok-x-in-Some.ensures.made_room told)

pub returns-in-None-clause-made_room : goal.returns-in-None-clause-made_room
returns-in-None-clause-made_room g c = λ told.
    room_alone c.args.n c.args.key c.map_of_key-map.result c.args.store.now c.take.new.store (g.D.Disk.state c.args.disk.now).block (g.D.Disk.state c.take.new.disk).block (inl c.map_of_key-map.ensures.at) (c.in_ok-take.ensures.made_room told)

pub returns-in-None-clause-took : goal.returns-in-None-clause-took
returns-in-None-clause-took g c = λ told.
    subst (λ y. TookPage c.args.n y c.args.store.now c.take.new.store (g.D.Disk.state c.args.disk.now).block (g.D.Disk.state c.take.new.disk).block) (ap (λ k. record { 0 = k }) c.map_of_key-map.ensures.at) (c.in_ok-take.ensures.made_room told)

pub returns-in-None-clause-owners : goal.returns-in-None-clause-owners
returns-in-None-clause-owners g c = subst (λ y. KeepsHoldersBut y c.args.store.now c.take.new.store) (ap (λ k. record { 0 = k }) c.map_of_key-map.ensures.at) c.in_ok-take.ensures.owners
