use Rattle.std.proofs.Common.{rules, ◌≡◌, ◌≤◌, ℕ, List, Some, true, inl, inr, refl, ap, sym, ◌∙◌, arith, subst}
use Rattle.private_log.specs.Content.{region_of, place, IsLegal, CountsRecords}
use Rattle.private_log.specs.Reading.{contents}
use Rattle.private_log.proofs.SpreadLaws.{at_place}
use Rattle.private_log.proofs.attach.read_count.Goals as goal

few : (count number : ℕ) (bytes : List ℕ) (g : Rattle.private_log.specs.Content.Region) → CountsRecords g number count bytes → count ≤ 6
few count number bytes g (inl none) = omega (arith, none.0)
few count number bytes g (inr h) = omega (arith, h.1.most, h.2)

pub read_block-requires-clause-reach : goal.read_block-requires-clause-reach
read_block-requires-clause-reach g c =
    let at : c.ring_block-at.result.0 ≡ place (region_of c.args.s.now c.args.n.0) c.args.number = search rules in
    ap (g.D.Disk.state c.args.disk.now).reach at
    ∙ at_place (region_of c.args.s.now c.args.n.0) (λ j. (g.D.Disk.state c.args.disk.now).reach j ≡ true) c.args.number (omega (arith, c.requires.shape.ring)) c.requires.reach

pub returns-in-Some-clause-most : goal.returns-in-Some-clause-most
returns-in-Some-clause-most g c = few c.in-Some.count c.args.number c.read_block.new.out (region_of c.args.s.now c.args.n.0) (c.in-Some.ensures.found (region_of c.args.s.now c.args.n.0) refl refl)

pub returns-in-Some-clause-count : goal.returns-in-Some-clause-count
returns-in-Some-clause-count g c = c.in-Some.ensures.found (region_of c.args.s.now c.args.n.0) refl refl

pub returns-in-None-clause-told : goal.returns-in-None-clause-told
returns-in-None-clause-told g c = λ t.
    let at : c.ring_block-at.result.0 ≡ place (region_of c.args.s.now c.args.n.0) c.args.number = search rules in
    inr (
      c.args.number,
      at,
      λ legal.
          c.in-None.ensures.none (region_of c.args.s.now c.args.n.0) refl refl refl (subst (IsLegal (region_of c.args.s.now c.args.n.0) c.args.number) (c.in_ok-read_block.ensures.blocks t).0 legal),
    )

pub returns-in-None-clause-legal : goal.returns-in-None-clause-legal
returns-in-None-clause-legal g c = λ t legal.
    let at : c.ring_block-at.result.0 ≡ place (region_of c.args.s.now c.args.n.0) c.args.number = search rules in
    let held : contents (g.D.Disk.state c.args.disk.now).block (place (region_of c.args.s.now c.args.n.0) c.args.number) ≡ Some c.read_block.new.out =
    ap (contents (g.D.Disk.state c.args.disk.now).block) (sym at) ∙ (c.in_ok-read_block.ensures.blocks t).0 in
    c.in-None.ensures.none (region_of c.args.s.now c.args.n.0) refl refl refl (subst (IsLegal (region_of c.args.s.now c.args.n.0) c.args.number) held legal)
