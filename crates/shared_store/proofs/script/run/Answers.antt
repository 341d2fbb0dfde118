use Rattle.std.proofs.Common.{refl}
use Rattle.shared_store.specs.Devices.{both}
use Rattle.shared_store.specs.Job.{beginning}
use Rattle.shared_store.specs.Store.{Leaves}
use Rattle.shared_store.proofs.Stating.{nothing_told, run_told}
use Rattle.shared_store.proofs.script.run.Goals as goal

pub returns-then-len-ne1-clause-transcript : goal.returns-then-len-ne1-clause-transcript
returns-then-len-ne1-clause-transcript g c = λ tellS tellK tellD seal shows.
    let old = both (g.D.Disk.state c.args.disk.now) (g.V.Disk.state c.args.vault.now) in
    nothing_told (beginning seal old (g.K.Sink.state c.args.sink.now)) (g.S.Source.state c.args.source.now) (Leaves (g.D.Disk.state c.args.disk.now)) (g.K.Sink.state c.args.sink.now) shows refl

pub returns-clause-transcript : goal.returns-clause-transcript
returns-clause-transcript g c = λ tellS tellK tellD seal shows.
    let from = beginning seal (both (g.D.Disk.state c.args.disk.now) (g.V.Disk.state c.args.vault.now)) (g.K.Sink.state c.args.sink.now) in
    run_told from (g.S.Source.state c.args.source.now) (g.S.Source.state c.run_script.new.source) (Leaves (g.D.Disk.state c.run_script.new.disk)) (both (g.D.Disk.state c.run_script.new.disk) (g.V.Disk.state c.run_script.new.vault)) (g.K.Sink.state c.run_script.new.sink)
    c.run_script.result c.run_script.ensures.usage (c.run_script.ensures.transcript tellS tellK tellD seal shows)
