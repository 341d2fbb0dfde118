use Rattle.std.proofs.Common.{subst, sym}
use Rattle.sd_base.specs.Faults.{IsStopOf}
use Rattle.state_ids.proofs.PageLaws.{Shows-read}
use Rattle.one_log_redo.proofs.PageCalls.{passed_on}
use Rattle.one_log_redo.proofs.loading.read_page.Goals as goal

pub returns-in_err-read_image-clause-there : goal.returns-in_err-read_image-clause-there
returns-in_err-read_image-clause-there g c = λ t image h.
    passed_on c.from_residual.result _ (IsStopOf c.args.port.0) c.from_residual.ensures.1 (λ why same. subst (IsStopOf c.args.port.0) (sym same) (c.in_err-read_image.ensures.there t image h))

pub returns-clause-image : goal.returns-clause-image
returns-clause-image g c = λ t image h.
    Shows-read c.args.s.now c.args.x c.args.pool.now c.args.f.now c.read_image.new.out _ image c.requires.out (c.in_ok-read_image.ensures.content t) h
