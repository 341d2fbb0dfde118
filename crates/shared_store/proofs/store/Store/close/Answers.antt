use Rattle.std.proofs.Common.{subst}
use Rattle.shared_store.specs.Store.{Shows}
use Rattle.shared_store.specs.declared.store.Store.{Store}
use Rattle.shared_store.proofs.Answering.{open_leaves}
use Rattle.shared_store.proofs.store.Store.close.Goals as goal

pub returns-in-Open-clause-leaves : goal.returns-in-Open-clause-leaves
returns-in-Open-clause-leaves g c = λ told state shows.
    let P : Store → Type 0 = λ s. Shows s (g.D.Disk.state c.args.disk.now) state in
    open_leaves c.in-Open.cluster (g.D.Disk.state c.args.disk.now) (g.D.Disk.state c.close.new.disk) state (subst P c.in-Open.is shows) (c.close.ensures.disk_blocks told)
