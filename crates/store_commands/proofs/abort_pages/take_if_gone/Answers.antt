use Rattle.std.specs.Prelude.{◌≡◌, true, IsTrue}
use Rattle.record_machine.specs.Machine.{Machine}
use Rattle.record_machine.specs.Parts.{dos}
use Rattle.store_nodes.specs.Ports.{says_stop}
use Rattle.store_nodes.specs.Shows.{IsShown}
use Rattle.store_commands.specs.Aborts.{HoldsBoth, takes_page}
use Rattle.store_commands.proofs.LeavesThen.{leaves_none, work_same}
use Rattle.store_commands.proofs.Retaken.{both_again, both_free, err_shows, ok_shows}
use Rattle.store_commands.proofs.ShownUp.{runs_up}
use Rattle.store_commands.proofs.Takings.{free_step}
use Rattle.store_commands.proofs.Testing.{on_done}
use Rattle.store_commands.proofs.abort_pages.take_if_gone.Goals as goal

pub returns-then-has_page-clause-leaves : goal.returns-then-has_page-clause-leaves
returns-then-has_page-clause-leaves g c = leaves_none g.D.Disk.told g.V.Disk.told c.args.n.0 tt c.args.store.now (g.D.Disk.state c.args.disk.now) (g.V.Disk.state c.args.vault.now) c.requires.ready c.requires.quiet c.requires.up

pub returns-then-has_page-clause-work : goal.returns-then-has_page-clause-work
returns-then-has_page-clause-work g c = work_same c.args.n.0 c.args.store.now

-- the machine takes what the node holds already
pub returns-clause-shows : goal.returns-clause-shows
returns-clause-shows g c =
    let n = c.args.n.0 in
    let s = c.args.store.now.shape in
    let b = (g.D.Disk.state c.args.disk.now).block in
    let S : Machine → Type 0 = IsShown c.take_update.new.store (g.D.Disk.state c.take_update.new.disk).block in
    ok_shows c.take_update.result (IsTrue g.D.Disk.told) (λ m. HoldsBoth m n c.args.x) (IsShown c.args.store.now b) S (λ told m held shown.
    let up = runs_up c.args.store.now n b m c.requires.ready.is c.requires.node c.requires.up shown in
    let free = both_free m s n c.args.x shown.1.nodes.shape up held in
    on_done c.take_update.result (free_step c.take_update.result (S (dos (takes_page s n c.args.x) m)) m (takes_page s n c.args.x) S free (c.take_update.ensures.step told m shown)).0
    (λ after. both_again c.take_update.new.store (g.D.Disk.state c.take_update.new.disk).block m s n c.args.x shown.1.nodes.shape held after))

pub returns-clause-stopped : goal.returns-clause-stopped
returns-clause-stopped g c =
    let n = c.args.n.0 in
    let s = c.args.store.now.shape in
    let b = (g.D.Disk.state c.args.disk.now).block in
    let S : Machine → Type 0 = IsShown c.take_update.new.store (g.D.Disk.state c.take_update.new.disk).block in
    err_shows c.take_update.result (IsTrue g.D.Disk.told) (λ m. HoldsBoth m n c.args.x) (IsShown c.args.store.now b) (λ why. says_stop why ≡ true) (λ told m held shown.
    let up = runs_up c.args.store.now n b m c.requires.ready.is c.requires.node c.requires.up shown in
    let free = both_free m s n c.args.x shown.1.nodes.shape up held in
    (free_step c.take_update.result (S (dos (takes_page s n c.args.x) m)) m (takes_page s n c.args.x) S free (c.take_update.ensures.step told m shown)).1)
