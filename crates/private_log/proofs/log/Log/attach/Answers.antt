use Rattle.std.proofs.Common.{rules, ◌≡◌, false, ℕ, Some, sym, refl, ◌∙◌, subst}
use Rattle.sd_base.specs.Disk.{BlockState}
use Rattle.sd_base.specs.Faults.{IsStopOf}
use Rattle.sd_base.specs.Anchors.{anchor_text}
use Rattle.sd_base.proofs.AnchorFields.{anchor_text-one}
use Rattle.private_log.specs.Content.{region_of, LogContent}
use Rattle.private_log.specs.Reading.{contents, ReadsLog}
use Rattle.private_log.specs.Log.{LogState, IsLogOn}
use Rattle.private_log.proofs.Attached.{read_on}
use Rattle.private_log.proofs.log.Log.attach.Goals as goal

pub returns-in_err-tail-clause-legal : goal.returns-in_err-tail-clause-legal
returns-in_err-tail-clause-legal g c = λ t start xs content.
    let b : ℕ → BlockState = (g.D.Disk.state c.args.disk.now).block in
    let same : anchor_text false c.args.n.0 start ≡ anchor_text false c.args.n.0 c.in_ok-start.start =
    (let both : Some (anchor_text false c.args.n.0 start) ≡ Some (anchor_text false c.args.n.0 c.in_ok-start.start) = sym content.anchor ∙ c.in_ok-start.ensures.anchor t in cc) in
    let one : start ≡ c.in_ok-start.start = anchor_text-one false c.args.n.0 start c.in_ok-start.start content.number c.in_ok-start.ensures.number same in
    let here : LogContent (region_of c.args.s.now c.args.n.0) (contents (g.D.Disk.state c.read_start.new.disk).block) c.in_ok-start.start xs =
    subst (λ (a : ℕ → BlockState). LogContent (region_of c.args.s.now c.args.n.0) (contents a) c.in_ok-start.start xs) (sym (c.in_ok-start.ensures.blocks t))
    (subst (λ n. LogContent (region_of c.args.s.now c.args.n.0) (contents b) n xs) one content) in
    let stop : IsStopOf c.args.port.0 c.in_err-tail.field-0.0 = c.in_err-tail.ensures.legal t xs here in
    search rules

pub returns-clause-on : goal.returns-clause-on
returns-clause-on g c = λ t start xs still content clean.
    let b : ℕ → BlockState = (g.D.Disk.state c.args.disk.now).block in
    let back : (g.D.Disk.state c.read_ring.new.disk).block ≡ b = c.in_ok-tail.ensures.blocks t ∙ c.in_ok-start.ensures.blocks t in
    let m : LogState = record { shape = c.args.s.now; node = c.args.n; start = c.in_ok-start.start; tail = c.in_ok-tail.tail; stable = c.in_ok-tail.tail; block = c.read_ring.new.block } in
    let P : (ℕ → BlockState) → Type 0 = λ a. contents a (region_of c.args.s.now c.args.n.0).anchor ≡ Some (anchor_text false c.args.n.0 c.in_ok-start.start)
    → ReadsLog (region_of c.args.s.now c.args.n.0) (contents a) c.in_ok-start.start c.in_ok-tail.tail c.read_ring.new.block in
    let reads : ReadsLog (region_of c.args.s.now c.args.n.0) (contents b) c.in_ok-start.start c.in_ok-tail.tail c.read_ring.new.block =
    subst P (c.in_ok-start.ensures.blocks t) (c.in_ok-tail.ensures.log t) (c.in_ok-start.ensures.anchor t) in
    subst (λ a. IsLogOn m a xs) (sym back) (read_on m b start xs (λ k. g.met.D.Disk.lawful c.args.disk.now k t) still content clean refl reads)
