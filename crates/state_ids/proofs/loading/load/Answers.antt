use Rattle.std.proofs.Common.{sym, subst}
use Rattle.state_ids.specs.Blocks.{page_place, HoldsPage}
use Rattle.state_ids.proofs.loading.load.Goals as goal

pub returns-in-Err-clause-there : goal.returns-in-Err-clause-there
returns-in-Err-clause-there g c = λ t image h.
    c.in-Err.ensures.there t image (subst (λ x. HoldsPage c.args.s.now x image ((g.D.Disk.state c.args.disk.now).block (page_place c.args.s.now x)).current) (sym c.page.ensures) h)
