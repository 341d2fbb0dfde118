use Rattle.std.specs.Prelude.{◌≤◌, ◌<◌, ⊤, true, None, Err, IfSome, IsTrue, option_map}
use Rattle.std.proofs.Common.{ap, subst, sym, ◌∙◌}
use Rattle.sd_base.specs.Shape.{page_count}
use Rattle.record_locks.specs.Held.{least_where}
use Rattle.record_machine.specs.Machine.{Machine}
use Rattle.store_nodes.specs.Pages.{HasCached}
use Rattle.store_nodes.specs.Shows.{IsShown}
use Rattle.store_commands.proofs.DumpSteps.{dumps_done, dumps_pass, group_dumped}
use Rattle.store_commands.proofs.DumpTakes.{group_taken, takes_done, takes_pass}
use Rattle.store_commands.proofs.FoundRows.{none_in_group, page_before, page_found}
use Rattle.store_commands.proofs.Stopping.{unless_ok}
use Rattle.store_commands.proofs.Testing.{the_error}
use Rattle.store_commands.proofs.dumping.find_in_group.Goals as goal

pub returns-in_err-x-clause-takes : goal.returns-in_err-x-clause-takes
returns-in_err-x-clause-takes g c =
    let e = the_error c.from_residual.result _ c.from_residual.ensures.1 in
    takes_pass c.args.n.0 c.take_group.result c.from_residual.result e.0 (IsTrue g.D.Disk.told) (IsTrue g.V.Disk.told) c.args.store.now c.take_group.new.store (g.D.Disk.state c.args.disk.now) (g.D.Disk.state c.take_group.new.disk) (g.V.Disk.state c.args.vault.now) (g.V.Disk.state c.take_group.new.vault) (c.in_err-x.was ∙ ap Err (sym e.2)) e.1
    (group_taken c.args.n.0 c.args.first c.take_group.result (IsTrue g.D.Disk.told) (IsTrue g.V.Disk.told) c.args.store.now c.take_group.new.store (g.D.Disk.state c.args.disk.now) (g.D.Disk.state c.take_group.new.disk) (g.V.Disk.state c.args.vault.now) (g.V.Disk.state c.take_group.new.vault) c.requires.ready.is c.take_group.ensures.works c.take_group.ensures.writes c.take_group.ensures.vault_outcomes
    c.take_group.ensures.cause c.take_group.ensures.fault c.take_group.ensures.told c.take_group.ensures.down c.take_group.ensures.up c.take_group.ensures.work c.take_group.ensures.holders)

pub returns-in_err-x-clause-step : goal.returns-in_err-x-clause-step
returns-in_err-x-clause-step g c = λ told m shown.
    let e = the_error c.from_residual.result _ c.from_residual.ensures.1 in
    let S : Machine → Type 0 = IsShown c.take_group.new.store (g.D.Disk.state c.take_group.new.disk).block in
    dumps_pass m c.args.n c.take_group.result c.from_residual.result e.0 S _ _ (c.in_err-x.was ∙ ap Err (sym e.2)) e.1
    (group_dumped shown.0 m c.args.n c.args.first.0 c.take_group.result S shown.1.nodes.means.pages (c.take_group.ensures.step told m shown))

-- ---- the group has no page

pub returns-in-None-clause-takes : goal.returns-in-None-clause-takes
returns-in-None-clause-takes g c =
    takes_done c.args.n.0 c.take_group.result c.in_ok-x.field-0 None (IsTrue g.D.Disk.told) (IsTrue g.V.Disk.told) c.args.store.now c.take_group.new.store (g.D.Disk.state c.args.disk.now) (g.D.Disk.state c.take_group.new.disk) (g.V.Disk.state c.args.vault.now) (g.V.Disk.state c.take_group.new.vault) c.in_ok-x.was
    (group_taken c.args.n.0 c.args.first c.take_group.result (IsTrue g.D.Disk.told) (IsTrue g.V.Disk.told) c.args.store.now c.take_group.new.store (g.D.Disk.state c.args.disk.now) (g.D.Disk.state c.take_group.new.disk) (g.V.Disk.state c.args.vault.now) (g.V.Disk.state c.take_group.new.vault) c.requires.ready.is c.take_group.ensures.works c.take_group.ensures.writes c.take_group.ensures.vault_outcomes
    c.take_group.ensures.cause c.take_group.ensures.fault c.take_group.ensures.told c.take_group.ensures.down c.take_group.ensures.up c.take_group.ensures.work c.take_group.ensures.holders)

pub returns-in-None-clause-step : goal.returns-in-None-clause-step
returns-in-None-clause-step g c = λ told m shown.
    let S : Machine → Type 0 = IsShown c.take_group.new.store (g.D.Disk.state c.take_group.new.disk).block in
    let that = dumps_done m c.args.n c.take_group.result c.in_ok-x.field-0 S (λ value. ⊤) c.in_ok-x.was (group_dumped shown.0 m c.args.n c.args.first.0 c.take_group.result S shown.1.nodes.means.pages (c.take_group.ensures.step told m shown)) in
    (none_in_group c.args.store.now (g.D.Disk.state c.args.disk.now).block m shown c.args.first.0 (sym (c.in_ok-x.ensures.found told m shown) ∙ ap (option_map (λ x. x.0)) c.in-None.is), that.1)

-- ---- it has one

pub returns-in-Some-clause-takes : goal.returns-in-Some-clause-takes
returns-in-Some-clause-takes g c =
    takes_done c.args.n.0 c.take_group.result c.in_ok-x.field-0 c.next_in_page.result (IsTrue g.D.Disk.told) (IsTrue g.V.Disk.told) c.args.store.now c.take_group.new.store (g.D.Disk.state c.args.disk.now) (g.D.Disk.state c.take_group.new.disk) (g.V.Disk.state c.args.vault.now) (g.V.Disk.state c.take_group.new.vault) c.in_ok-x.was
    (group_taken c.args.n.0 c.args.first c.take_group.result (IsTrue g.D.Disk.told) (IsTrue g.V.Disk.told) c.args.store.now c.take_group.new.store (g.D.Disk.state c.args.disk.now) (g.D.Disk.state c.take_group.new.disk) (g.V.Disk.state c.args.vault.now) (g.V.Disk.state c.take_group.new.vault) c.requires.ready.is c.take_group.ensures.works c.take_group.ensures.writes c.take_group.ensures.vault_outcomes
    c.take_group.ensures.cause c.take_group.ensures.fault c.take_group.ensures.told c.take_group.ensures.down c.take_group.ensures.up c.take_group.ensures.work c.take_group.ensures.holders)

pub returns-in-Some-clause-read : goal.returns-in-Some-clause-read
returns-in-Some-clause-read g c =
    let there = c.next_in_page.ensures.there in
    page_found c.take_group.new.store c.args.n.0 c.args.store.now.shape c.args.first c.in_ok-x.field-0 c.in-Some.x there.0 c.next_in_page.result c.take_group.ensures.works.shape c.in-Some.is c.in_ok-x.ensures.for_key there.1 c.next_in_page.ensures.some

pub returns-in-Some-clause-step : goal.returns-in-Some-clause-step
returns-in-Some-clause-step g c = λ told m shown.
    let s = c.args.store.now.shape in
    let now = c.take_group.new.store in
    let b = (g.D.Disk.state c.take_group.new.disk).block in
    let S : Machine → Type 0 = IsShown now b in
    let that = dumps_done m c.args.n c.take_group.result c.in_ok-x.field-0 S (λ value. ⊤) c.in_ok-x.was (group_dumped shown.0 m c.args.n c.args.first.0 c.take_group.result S shown.1.nodes.means.pages (c.take_group.ensures.step told m shown)) in
    let is = sym (c.in_ok-x.ensures.found told m shown) ∙ ap (option_map (λ x. x.0)) c.in-Some.is in
    let page = subst (λ o. IfSome o (λ x. (s.maps ≤ x.0) × (x.0 < page_count s) × HasCached now c.args.n.0 x)) c.in-Some.is c.in_ok-x.ensures.page in
    let shape = sym c.take_group.ensures.works.shape in
    let free = ap (least_where (λ l mode. true)) (unless_ok c.take_group.result c.in_ok-x.field-0 c.in_ok-x.was c.take_group.ensures.work).locks ∙ c.requires.free in
    let there = c.next_in_page.ensures.there in (
      page_before now c.args.n.0 b m that.1.pages c.take_group.ensures.works.ready.is c.requires.node c.in_ok-x.ensures.up that.1.after free c.args.first c.in-Some.x there.0 is (subst (λ t. t.maps ≤ c.in-Some.x.0) shape page.0) (subst (λ t. c.in-Some.x.0 < page_count t) shape page.1) there.1
          c.next_in_page.result c.next_in_page.ensures.some c.next_in_page.ensures.least c.next_in_page.ensures.none,
      that.1,
    )
