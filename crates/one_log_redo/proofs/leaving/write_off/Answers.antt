use Rattle.std.proofs.Common.{◌≡◌, Bool, true, false, not, sym}
use Rattle.sd_base.proofs.Results.{ok_then}
use Rattle.one_log_redo.proofs.Departures.{images_left, settled_beside, settled_images, settled_narrows, settled_pages, settled_still}
use Rattle.one_log_redo.proofs.CopyLaws.{one_copy}
use Rattle.std.proofs.Common.{refl, ap, ◌∙◌}
use Rattle.one_log_redo.specs.declared.copies.Copied.{Copied}
use Rattle.one_log_redo.proofs.PageCalls.{ok_both}
use Rattle.one_log_redo.proofs.leaving.write_off.Goals as goal

-- what isn't so is false
not_so : (b : Bool) → not b ≡ true → b ≡ false
not_so true e = cc
not_so false e = refl

pub returns-then-not-c-clause-images : goal.returns-then-not-c-clause-images
returns-then-not-c-clause-images g c = λ told images h.
    images_left c.args.copies.now c.args.k c.requires.place c.args.s.now c.args.pool.now c.args.lent.now.frames (g.D.Disk.state c.args.disk.now).block images
    (λ d at. ap (λ (x : Copied). x.changed) (one_copy c.args.copies.now c.args.k c.args.k d c.in-Some.c refl at c.in-Some.is) ∙ not_so c.in-Some.c.changed c.if-not-c.true) h

pub returns-clause-uses : goal.returns-clause-uses
returns-clause-uses g c = record {
  keeps = c.settle_page.ensures.keeps;
  beside = λ told. settled_beside c.args.s.now c.args.port.0 c.args.pool.now c.args.lent.now.frames c.args.lent.now.count c.args.copies.now c.args.k c.in-Some.c c.requires.copies c.in-Some.is c.frame.result.now (g.D.Disk.state c.args.disk.now).block (g.D.Disk.state c.settle_page.new.disk).block (c.settle_page.ensures.foreign told);
}

pub returns-clause-still : goal.returns-clause-still
returns-clause-still g c = λ told. settled_still c.args.s.now c.args.port.0 c.args.pool.now c.args.lent.now.frames c.args.lent.now.count c.args.copies.now c.args.k c.in-Some.c c.requires.copies c.in-Some.is c.frame.result.now (g.D.Disk.state c.args.disk.now).block (g.D.Disk.state c.settle_page.new.disk).block
    (c.requires.ready.still told) (c.settle_page.ensures.writers told) (c.settle_page.ensures.still told)

pub returns-clause-pages : goal.returns-clause-pages
returns-clause-pages g c = ok_both c.settle_page.result c.settle_page.ensures.others c.settle_page.ensures.written (λ others written told.
    settled_pages c.args.s.now c.args.port.0 c.args.pool.now c.args.lent.now.frames c.args.lent.now.count c.args.copies.now c.args.k c.in-Some.c c.requires.copies c.in-Some.is c.frame.result.now (g.D.Disk.state c.args.disk.now).block (g.D.Disk.state c.settle_page.new.disk).block
    c.frame.ensures (g.met.D.Disk.lawful c.settle_page.new.disk _ told) (others told) (written told))

pub returns-clause-outcomes : goal.returns-clause-outcomes
returns-clause-outcomes g c = λ told.
    settled_narrows c.args.s.now c.args.port.0 c.args.pool.now c.args.lent.now.frames c.args.lent.now.count c.args.copies.now c.args.k c.in-Some.c c.requires.copies c.in-Some.is c.frame.result.now (g.D.Disk.state c.args.disk.now).block (g.D.Disk.state c.settle_page.new.disk).block
    c.frame.ensures (c.settle_page.ensures.outcomes told)

pub returns-clause-images : goal.returns-clause-images
returns-clause-images g c = ok_both c.settle_page.result c.settle_page.ensures.others c.settle_page.ensures.written (λ others written told.
    settled_images c.args.s.now c.args.port.0 c.args.pool.now c.args.lent.now.frames c.args.lent.now.count c.args.copies.now c.args.k c.in-Some.c c.requires.copies c.in-Some.is c.frame.result.now (g.D.Disk.state c.args.disk.now).block (g.D.Disk.state c.settle_page.new.disk).block
    c.requires.place c.frame.ensures (g.met.D.Disk.lawful c.settle_page.new.disk _ told) (others told) (written told))
