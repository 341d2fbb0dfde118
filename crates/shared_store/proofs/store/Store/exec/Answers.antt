use Rattle.std.proofs.Common.{subst}
use Rattle.shared_store.specs.Devices.{GoesOn-keeps}
use Rattle.shared_store.specs.Store.{IsQuietStore, Shows}
use Rattle.shared_store.specs.declared.store.Store.{Store}
use Rattle.shared_store.proofs.Answering.{open_answers, open_cause}
use Rattle.shared_store.proofs.store.Store.exec.Goals as goal

pub exec-requires-clause-quiet : goal.exec-requires-clause-quiet
exec-requires-clause-quiet g c = λ told. let P : Store → Type 0 = λ s. IsQuietStore s (g.D.Disk.state c.args.disk.now).block in subst P c.in-Open.is (c.requires.quiet told)

pub returns-in-Open-clause-ready : goal.returns-in-Open-clause-ready
returns-in-Open-clause-ready g c = c.exec.ensures.works.ready

pub returns-in-Open-clause-quiet : goal.returns-in-Open-clause-quiet
returns-in-Open-clause-quiet g c = λ told. (c.exec.ensures.writes told).quiet

pub returns-in-Open-clause-disk : goal.returns-in-Open-clause-disk
returns-in-Open-clause-disk g c = GoesOn-keeps _ _ _ _ c.exec.ensures.works.keeps

pub returns-in-Open-clause-vault : goal.returns-in-Open-clause-vault
returns-in-Open-clause-vault g c = GoesOn-keeps _ _ _ _ c.exec.ensures.works.vault_keeps

pub returns-in-Open-clause-cause : goal.returns-in-Open-clause-cause
returns-in-Open-clause-cause g c = open_cause c.exec.result (g.D.Disk.state c.args.disk.now) (g.D.Disk.state c.exec.new.disk) (g.V.Disk.state c.args.vault.now) (g.V.Disk.state c.exec.new.vault) c.exec.ensures.cause

pub returns-in-Open-clause-answered : goal.returns-in-Open-clause-answered
returns-in-Open-clause-answered g c = λ told state shows.
    open_answers c.in-Open.cluster c.exec.new.self c.args.command.now c.exec.result (g.D.Disk.state c.args.disk.now) (g.D.Disk.state c.exec.new.disk) c.requires.one
    (λ why is. (c.exec.ensures.known why is).0) c.exec.ensures.answer (c.exec.ensures.step told) _ _ state (let P : Store → Type 0 = λ s. Shows s (g.D.Disk.state c.args.disk.now) state in subst P c.in-Open.is shows)
