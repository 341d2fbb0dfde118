use Rattle.std.proofs.Common.{subst}
use Rattle.record_machine.specs.Rows.{next_key}
use Rattle.shared_store.specs.Devices.{GoesOn-keeps}
use Rattle.shared_store.specs.Store.{IsQuietStore, Shows}
use Rattle.shared_store.specs.declared.store.Store.{Store}
use Rattle.shared_store.proofs.Answering.{open_next, open_rising, row_cause}
use Rattle.shared_store.proofs.store.Store.next_record.Goals as goal

pub next_record-requires-clause-quiet : goal.next_record-requires-clause-quiet
next_record-requires-clause-quiet g c = λ told. let P : Store → Type 0 = λ s. IsQuietStore s (g.D.Disk.state c.args.disk.now).block in subst P c.in-Open.is (c.requires.quiet told)

pub returns-in-Open-clause-ready : goal.returns-in-Open-clause-ready
returns-in-Open-clause-ready g c = c.next_record.ensures.works.ready

pub returns-in-Open-clause-quiet : goal.returns-in-Open-clause-quiet
returns-in-Open-clause-quiet g c = λ told. (c.next_record.ensures.writes told).quiet

pub returns-in-Open-clause-disk : goal.returns-in-Open-clause-disk
returns-in-Open-clause-disk g c = GoesOn-keeps _ _ _ _ c.next_record.ensures.works.keeps

pub returns-in-Open-clause-vault : goal.returns-in-Open-clause-vault
returns-in-Open-clause-vault g c = GoesOn-keeps _ _ _ _ c.next_record.ensures.works.vault_keeps

pub returns-in-Open-clause-cause : goal.returns-in-Open-clause-cause
returns-in-Open-clause-cause g c = row_cause c.next_record.result (g.D.Disk.state c.args.disk.now) (g.D.Disk.state c.next_record.new.disk) (g.V.Disk.state c.args.vault.now) (g.V.Disk.state c.next_record.new.vault) c.next_record.ensures.cause

pub returns-in-Open-clause-rising : goal.returns-in-Open-clause-rising
returns-in-Open-clause-rising g c = open_rising c.in-Open.cluster c.next_record.new.self c.args.n (next_key c.args.after) c.next_record.result (λ why is. (c.next_record.ensures.known why is).0) c.next_record.ensures.answer

pub returns-in-Open-clause-answered : goal.returns-in-Open-clause-answered
returns-in-Open-clause-answered g c = λ told state shows.
    open_next c.in-Open.cluster c.next_record.new.self c.args.n (next_key c.args.after) c.next_record.result (g.D.Disk.state c.args.disk.now) (g.D.Disk.state c.next_record.new.disk)
    (c.next_record.ensures.step told) state (let P : Store → Type 0 = λ s. Shows s (g.D.Disk.state c.args.disk.now) state in subst P c.in-Open.is shows)
