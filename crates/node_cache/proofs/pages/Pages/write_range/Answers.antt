use Rattle.std.proofs.Common.{All, subst, sym}
use Rattle.node_cache.specs.Places.{between}
use Rattle.node_cache.specs.Sending.{IsSent}
use Rattle.node_cache.proofs.pages.Pages.write_range.Goals as goal

pub end_range-requires-clause-sent : goal.end_range-requires-clause-sent
end_range-requires-clause-sent g c = subst (λ ws. All (IsSent ws) (between c.args.from c.args.to c.args.self.now)) (sym c.in_ok-covered.ensures.sent) c.in_ok-send_range.ensures.sent
