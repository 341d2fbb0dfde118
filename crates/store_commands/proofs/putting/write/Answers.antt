use Rattle.std.specs.Prelude.{Some, refl}
use Rattle.std.proofs.Common.{ap, subst, sym, ◌∙◌}
use Rattle.record_locks.specs.declared.mode.Mode.TheVariants as locks
use Rattle.record_locks.specs.Held.{mode_of}
use Rattle.record_locks.proofs.HeldLaws.{mode_of-taken}
use Rattle.record_machine.specs.Parts.{Lock, one}
use Rattle.record_machine.specs.Machine.{seen}
use Rattle.store_nodes.specs.Pages.{value_after}
use Rattle.store_nodes.specs.Shows.{IsShown}
use Rattle.store_commands.proofs.Fits.{raised_write}
use Rattle.store_commands.proofs.ShownLocks.{shown_locked, with_locks}
use Rattle.store_commands.proofs.Testing.{on_done}
use Rattle.store_commands.proofs.putting.write.Goals as goal

pub returns-clause-shows : goal.returns-clause-shows
returns-clause-shows g c = on_done c.change.result c.change.ensures.shows (λ shows told m here shown.
    let b = (g.D.Disk.state c.args.disk.now).block in
    let key = c.args.key in
    let t = c.args.t in
    let more = shown_locked c.args.store.now b m key t locks.Write c.requires.lock shown in
    let now = subst (λ held. IsShown (with_locks c.args.store.now held) b (one (Lock key t locks.Write) m)) (sym c.take.ensures) more in
    shows told (one (Lock key t locks.Write) m) (record { key = key.0; page = c.args.x.0; value = value_after c.args.what.now (seen m t key.0) }) here refl (sym c.slot.ensures.slot) (mode_of-taken m.locks key t locks.Write ∙ ap Some (raised_write (mode_of m.locks key t))) refl now)

pub returns-clause-writes : goal.returns-clause-writes
returns-clause-writes g c = λ told. let of = c.change.ensures.writes told in record { quiet = of.quiet; besides = of.besides }
