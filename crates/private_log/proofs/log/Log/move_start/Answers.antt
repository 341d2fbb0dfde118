use Rattle.std.proofs.Common.{rules, ◌≡◌, ◌⊎◌, ◌-◌, ◌*◌, ◌≤◌, ℕ, false, List, Option, drop, inl, inr, sym, subst}
use Rattle.sd_base.specs.Disk.{BlockState, IsOutcome}
use Rattle.sd_base.specs.Calls.{Narrows, NarrowsBut, Writes}
use Rattle.sd_base.specs.Anchors.{anchor_text}
use Rattle.sd_base.proofs.Results.{on_err, err_of}
use Rattle.private_log.specs.Content.{Region, HoldsFront}
use Rattle.private_log.specs.Spread.{IsFreeRegion, IsCutLog}
use Rattle.private_log.specs.Log.{LogState, region, written, IsLogOn}
use Rattle.private_log.proofs.SpreadLaws.{settled_still, cut_still, free_region, free_region_but}
use Rattle.private_log.proofs.Outcomes.{cut_outcome, less_front, on_outcome}
use Rattle.private_log.proofs.StartLaws.{cut_move, moved}
use Rattle.private_log.proofs.log.Log.move_start.Goals as goal

-- each settled device has the log with the one start or the other
either_outcome : (g : Region) (start to stable : ℕ) (b : ℕ → BlockState) (xs ys : List (List ℕ)) (image : ℕ → Option (List ℕ)) → IsOutcome b image
    → IsCutLog g start stable b xs ⊎ IsCutLog g to stable b ys → HoldsFront g start stable xs image ⊎ HoldsFront g to stable ys image
either_outcome g start to stable b xs ys image out (inl k) = inl (cut_outcome g start stable b xs image k out)
either_outcome g start to stable b xs ys image out (inr k) = inr (cut_outcome g to stable b ys image k out)

then_narrows : (at : ℕ) (content : List ℕ) (a b c : ℕ → BlockState) → NarrowsBut at content a b → Narrows b c → NarrowsBut at content a c
then_narrows at content a b c first rest k o may = first k o (rest k o may)

pub returns-in_err-write_block-clause-cut : goal.returns-in_err-write_block-clause-cut
returns-in_err-write_block-clause-cut g c = on_err c.from_residual.result (λ t xs on.
    let l = c.args.self.now in
    let b : ℕ → BlockState = (g.D.Disk.state c.args.disk.now).block in
    let d : ℕ → BlockState = (g.D.Disk.state c.write_block.new.disk).block in
    let at : c.anchor_block-at.result.0 ≡ (region l).anchor = search rules in
    let text : c.write_anchor.new.out ≡ anchor_text false l.node.0 c.args.to = search rules in
    cut_move l c.args.to b d xs (λ k. g.met.D.Disk.lawful c.write_block.new.disk k t) c.requires.from c.requires.stable
    (subst (λ k. NarrowsBut k (anchor_text false l.node.0 c.args.to) b d) at (subst (λ s. NarrowsBut c.anchor_block-at.result.0 s b d) text (c.write_block.ensures.outcomes t)))
    (cut_still (region l) c.args.port.0 c.anchor_block-at.result.0 b d (c.requires.free t) (c.write_block.ensures.foreign t) (c.in_err-write_block.ensures.cut t)) on)

pub returns-in_err-write_block-clause-any_outcome :
    goal.returns-in_err-write_block-clause-any_outcome
returns-in_err-write_block-clause-any_outcome g c = λ t xs on image out.
    either_outcome (region c.args.self.now) c.args.self.now.start c.args.to c.args.self.now.stable (g.D.Disk.state c.write_block.new.disk).block xs (drop (6 * (c.args.to - c.args.self.now.start)) xs) image out
    (err_of c.from_residual.result c.from_residual.ensures.0 (returns-in_err-write_block-clause-cut g c) t xs on)

pub returns-in_err-cover-clause-cut : goal.returns-in_err-cover-clause-cut
returns-in_err-cover-clause-cut g c = on_err c.from_residual-in_err-cover.result (λ t xs on.
    let l = c.args.self.now in
    let a : ℕ → BlockState = (g.D.Disk.state c.args.disk.now).block in
    let b : ℕ → BlockState = (g.D.Disk.state c.write_block.new.disk).block in
    let d : ℕ → BlockState = (g.D.Disk.state c.cover.new.disk).block in
    let at : c.anchor_block-at.result.0 ≡ (region l).anchor = search rules in
    let text : c.write_anchor.new.out ≡ anchor_text false l.node.0 c.args.to = search rules in
    let narrows : NarrowsBut (region l).anchor (anchor_text false l.node.0 c.args.to) a b =
    subst (λ k. NarrowsBut k (anchor_text false l.node.0 c.args.to) a b) at (subst (λ s. NarrowsBut c.anchor_block-at.result.0 s a b) text (c.write_block.ensures.outcomes t)) in
    let free : IsFreeRegion (region l) c.args.port.0 b = free_region_but (region l) c.anchor_block-at.result.0 c.args.port.0 a b (c.write_block.ensures.writers t) (c.requires.free t) in
    cut_move l c.args.to a d xs (λ k. g.met.D.Disk.lawful c.cover.new.disk k t) c.requires.from c.requires.stable
    (then_narrows (region l).anchor (anchor_text false l.node.0 c.args.to) a b d narrows (c.cover.ensures.outcomes t))
    (settled_still (region l) c.args.port.0 b d free (c.cover.ensures.foreign t) (c.in_err-cover.ensures.cut t)) on)

pub returns-in_err-cover-clause-any_outcome : goal.returns-in_err-cover-clause-any_outcome
returns-in_err-cover-clause-any_outcome g c = λ t xs on image out.
    either_outcome (region c.args.self.now) c.args.self.now.start c.args.to c.args.self.now.stable (g.D.Disk.state c.cover.new.disk).block xs (drop (6 * (c.args.to - c.args.self.now.start)) xs) image out
    (err_of c.from_residual-in_err-cover.result c.from_residual-in_err-cover.ensures.0 (returns-in_err-cover-clause-cut g c) t xs on)

pub returns-clause-free : goal.returns-clause-free
returns-clause-free g c = λ t.
    let l = c.args.self.now in
    let a : ℕ → BlockState = (g.D.Disk.state c.args.disk.now).block in
    let b : ℕ → BlockState = (g.D.Disk.state c.write_block.new.disk).block in
    let d : ℕ → BlockState = (g.D.Disk.state c.cover.new.disk).block in
    let free : IsFreeRegion (region l) c.args.port.0 d =
    free_region (region l) c.args.port.0 b d (c.cover.ensures.writers t) (free_region_but (region l) c.anchor_block-at.result.0 c.args.port.0 a b (c.write_block.ensures.writers t) (c.requires.free t)) in
    subst (λ (m : LogState). IsFreeRegion (region m) c.args.port.0 d) (sym c.self.view_is) free

pub returns-clause-log : goal.returns-clause-log
returns-clause-log g c = λ t xs on.
    let l = c.args.self.now in
    let a : ℕ → BlockState = (g.D.Disk.state c.args.disk.now).block in
    let b : ℕ → BlockState = (g.D.Disk.state c.write_block.new.disk).block in
    let d : ℕ → BlockState = (g.D.Disk.state c.cover.new.disk).block in
    let at : c.anchor_block-at.result.0 ≡ (region l).anchor = search rules in
    let text : c.write_anchor.new.out ≡ anchor_text false l.node.0 c.args.to = search rules in
    let narrows : NarrowsBut (region l).anchor (anchor_text false l.node.0 c.args.to) a b =
    subst (λ k. NarrowsBut k (anchor_text false l.node.0 c.args.to) a b) at (subst (λ s. NarrowsBut c.anchor_block-at.result.0 s a b) text (c.write_block.ensures.outcomes t)) in
    let writes : Writes c.args.port.0 (region l).anchor (anchor_text false l.node.0 c.args.to) a b =
    subst (λ k. Writes c.args.port.0 k (anchor_text false l.node.0 c.args.to) a b) at (subst (λ s. Writes c.args.port.0 c.anchor_block-at.result.0 s a b) text (c.in_ok-write_block.ensures.written t)) in
    let free : IsFreeRegion (region l) c.args.port.0 b = free_region_but (region l) c.anchor_block-at.result.0 c.args.port.0 a b (c.write_block.ensures.writers t) (c.requires.free t) in
    let v = c.self.view_is in
    let stable : written l ≡ c.max-self-inside.result = sym (search rules) in
    subst (λ (m : LogState). IsLogOn m d (drop (6 * (c.args.to - l.start)) xs))
    (λ i. record { shape = (sym v i).shape; node = (sym v i).node; start = c.args.to; tail = (sym v i).tail; stable = stable i; block = (sym v i).block })
    (moved l c.args.port.0 c.args.to a b d xs c.requires.from c.requires.stable free narrows writes (c.in_ok-cover.ensures.covered t) on)

pub returns-clause-any_outcome : goal.returns-clause-any_outcome
returns-clause-any_outcome g c = λ t xs on image out.
    let l = c.args.self.now in
    let ys : List (List ℕ) = drop (6 * (c.args.to - l.start)) xs in
    let le : l.stable ≤ c.max-self-inside.result = search rules in
    inr (subst (λ (m : LogState). HoldsFront (region m) c.args.to l.stable ys image) c.self.view_is
    (less_front _ c.args.to c.max-self-inside.result l.stable ys image le (on_outcome _ (g.D.Disk.state c.cover.new.disk).block ys image (returns-clause-log g c t xs on) out)))
