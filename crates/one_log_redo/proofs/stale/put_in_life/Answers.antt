use Rattle.std.proofs.Common.{arith}
use Rattle.one_log_redo.proofs.Images.{ident-read, present, stale}
use Rattle.one_log_redo.proofs.stale.put_in_life.Goals as goal

pub returns-then-page_ident-birth : goal.returns-then-page_ident-birth
returns-then-page_ident-birth c = λ i t.
    let read = ident-read i c.args.b.now t in
    stale c.args.x c.args.birth i c.write_birth.new.out (omega (arith, read, c.page_ident.ensures, c.if-page_ident-birth.true)) c.write_birth.ensures

pub returns-else-page_ident-birth : goal.returns-else-page_ident-birth
returns-else-page_ident-birth c = λ i t.
    let read = ident-read i c.args.b.now t in
    present c.args.x.0 c.args.birth i c.args.b.now (omega (arith, read, c.page_ident.ensures, c.if-page_ident-birth.false)) t
