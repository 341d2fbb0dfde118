use Rattle.std.proofs.Common.{sym, subst}
use Rattle.record_machine.specs.Machine.{formatted}
use Rattle.record_machine.specs.Meaning.{born}
use Rattle.shared_store.specs.Store.{Shows}
use Rattle.shared_store.specs.StoreState.{after_format, opened}
use Rattle.shared_store.specs.declared.store.Store.{Store}
use Rattle.shared_store.proofs.Formats.{format_cause, not_sealed, refused_answer, refused_shows}
use Rattle.shared_store.proofs.store.Store.format.Goals as goal

pub returns-in-Ok-clause-answered : goal.returns-in-Ok-clause-answered
returns-in-Ok-clause-answered g c = λ told seal shows.
    let P : Store → Type 0 = λ s. Shows s (g.D.Disk.state c.format.new.disk) (opened (formatted c.args.shape)) in (
      (not_sealed (g.D.Disk.state c.args.disk.now) seal shows (c.in-Ok.ensures.before told), c.in-Ok.ensures.sizes.0, c.in-Ok.ensures.sizes.1),
      subst P (sym c.open.ensures) (born c.args.shape, c.in-Ok.ensures.shows told),
    )

pub returns-in-Err-clause-answered : goal.returns-in-Err-clause-answered
returns-in-Err-clause-answered g c = λ told seal shows.
    let old = g.D.Disk.state c.args.disk.now in
    let new = g.D.Disk.state c.format.new.disk in
    let P : Store → Type 0 = λ s. Shows s new (after_format seal c.args.shape c.in-Err.why) in (
      refused_answer c.args.shape c.in-Err.why seal old new (g.V.Disk.state c.args.vault.now) (g.V.Disk.state c.format.new.vault) shows c.in-Err.ensures.cause c.in-Err.ensures.sizes (c.in-Err.ensures.before told),
      subst P (sym c.requires.closed) (refused_shows c.args.shape c.in-Err.why seal old new (g.V.Disk.state c.args.vault.now) (g.V.Disk.state c.format.new.vault) c.requires.shape c.format.ensures.disk.size (c.format.ensures.disk_blocks told)
          (g.met.D.Disk.lawful c.format.new.disk 0 told) shows c.in-Err.ensures.cause (c.in-Err.ensures.found told)),
    )

pub returns-in-Err-clause-cause : goal.returns-in-Err-clause-cause
returns-in-Err-clause-cause g c = format_cause c.in-Err.why (g.D.Disk.state c.args.disk.now) (g.D.Disk.state c.format.new.disk) (g.V.Disk.state c.args.vault.now) (g.V.Disk.state c.format.new.vault) c.in-Err.ensures.cause
