use Rattle.std.proofs.Common.{◌≡◌, ◌<◌, ℕ, false, Some, set, length, arith, subst, sym, ap, ◌∙◌}
use Rattle.sd_base.specs.Disk.{BlockState}
use Rattle.state_ids.specs.Held.{KeepsFrames, Shows}
use Rattle.state_ids.specs.Blocks.{ShowsPage}
use Rattle.one_log_redo.specs.declared.copies.Copied.{Copied}
use Rattle.one_log_redo.specs.Copies.{HaveImages}
use Rattle.one_log_redo.proofs.Arrivals.{copies_arrived, images_arrived}
use Rattle.one_log_redo.proofs.needing.load.Goals as goal

pub returns-clause-images : goal.returns-clause-images
returns-clause-images g c = λ told images h.
    let within : c.args.k < length c.args.copies.now = omega (arith, c.requires.places, c.requires.free.0, c.requires.lent.few) in
    let new : Copied = record { page = c.args.x; since = c.args.since; changed = false } in
    let found = c.in_ok-read_page.ensures.found told in
    let shows = subst (λ f. Shows c.read_page.new.pool f found.0) c.frame.ensures (c.in_ok-read_page.ensures.image told found.0 found.1) in
    let keeps = subst (λ f. KeepsFrames f c.args.pool.now c.read_page.new.pool) c.frame.ensures c.read_page.ensures.frames in
    subst (λ (b : ℕ → BlockState). HaveImages c.args.s.now c.read_page.new.pool c.args.lent.now.frames (set c.args.copies.now c.args.k (Some new)) b images) (sym (c.in_ok-read_page.ensures.blocks told))
    (images_arrived c.args.s.now c.args.pool.now c.read_page.new.pool c.args.lent.now.frames c.args.lent.now.count c.args.copies.now c.args.k c.args.x c.args.since c.requires.lent c.requires.copies c.requires.free.0 within c.requires.free.1 c.requires.nowhere keeps (g.D.Disk.state c.args.disk.now).block images found.0 c.requires.page found.1 shows h)

pub returns-clause-copies : goal.returns-clause-copies
returns-clause-copies g c =
    let within : c.args.k < length c.args.copies.now = omega (arith, c.requires.places, c.requires.free.0, c.requires.lent.few) in
    let keeps = subst (λ f. KeepsFrames f c.args.pool.now c.read_page.new.pool) c.frame.ensures c.read_page.ensures.frames in
    copies_arrived c.args.s.now c.args.pool.now c.read_page.new.pool c.args.lent.now.frames c.args.lent.now.count c.args.copies.now c.args.k c.args.x c.args.since c.requires.lent c.requires.copies c.requires.free.0 within c.requires.free.1 c.requires.nowhere keeps c.requires.page
    (subst (ShowsPage c.args.s.now c.args.x c.read_page.new.pool) c.frame.ensures c.in_ok-read_page.ensures.page)
