use Rattle.std.proofs.Common.{◌≡◌, ap, subst, sym, ◌∙◌, Some}
use Rattle.std.specs.Option.{IfSome, is_some}
use Rattle.std.specs.Bool.{IsTrue}
use Rattle.frame_pool.specs.Frames.{IsOut, frame_at}
use Rattle.node_cache.specs.Cache.{AreOut, is_page, is_cached, page_at}
use Rattle.sd_base.proofs.Positions.{not_placed, placed}
use Rattle.node_cache.proofs.Finding.{all_at}
use Rattle.node_cache.proofs.cache.NodeCache.view.Goals as goal

pub unreachable-requires : goal.unreachable-requires
unreachable-requires c =
    let none = ap is_some (not_placed (is_page c.args.x) c.self.inside.pages (sym c.find.ensures ∙ c.in_default.is)) in
    let cached = subst (λ s. IsTrue (is_cached c.args.x s)) (sym c.self.view_is) c.requires.cached in
    cc

pub bytes-requires : goal.bytes-requires
bytes-requires c = all_at (λ p. IsOut c.args.pool.now p.frame) c.self.inside.pages _ _ (subst (AreOut c.args.pool.now) (sym c.self.view_is) c.requires.out) c.slot.ensures

pub returns : goal.returns
returns c =
    let at = placed (is_page c.args.x) c.self.inside.pages c.in-Some.i (sym c.find.ensures ∙ c.in-Some.is) in
    subst (λ s. IfSome (page_at c.args.x s.pages) (λ p. frame_at c.args.pool.now p.frame ≡ Some c.bytes.result.now)) c.self.view_is
    (subst (λ o. IfSome o (λ p. frame_at c.args.pool.now p.frame ≡ Some c.bytes.result.now)) (sym (at.1 ∙ c.slot.ensures)) c.bytes.ensures)
