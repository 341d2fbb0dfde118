use Rattle.shared_store.specs.Devices.{both}
use Rattle.shared_store.specs.Job.{beginning}
use Rattle.shared_store.specs.Store.{Leaves, Shows}
use Rattle.shared_store.proofs.Serving.{closed_job, served_none}
use Rattle.shared_store.proofs.script.run_script.Goals as goal

pub returns-clause-transcript : goal.returns-clause-transcript
returns-clause-transcript g c = λ tellS tellK tellD seal shows.
    let old = both (g.D.Disk.state c.args.disk.now) (g.V.Disk.state c.args.vault.now) in
    let from = beginning seal old (g.K.Sink.state c.args.sink.now) in
    closed_job from (Shows c.read_script-status.new.session.store (g.D.Disk.state c.read_script-status.new.disk)) (Leaves (g.D.Disk.state c.close.new.disk))
    (both (g.D.Disk.state c.read_script-status.new.disk) (g.V.Disk.state c.read_script-status.new.vault)) (both (g.D.Disk.state c.close.new.disk) (g.V.Disk.state c.close.new.vault))
    (c.close.ensures.leaves tellD) c.close.ensures.disk c.close.ensures.vault c.read_script-status.result _ _ _
    (c.read_script-status.ensures.transcript tellS tellK tellD from (served_none seal c.new.result old (g.K.Sink.state c.args.sink.now) c.new.ensures shows))
