use Rattle.std.proofs.Common.{rules, ◌≡◌, ◌+◌, ◌^◌, ◌<◌, ℕ, Some, sym, ◌∙◌, arith, subst}
use Rattle.sd_base.specs.Disk.{BlockState}
use Rattle.sd_base.specs.Faults.{IsStopOf}
use Rattle.private_log.specs.Content.{region_of, place, IsLegal}
use Rattle.private_log.specs.Reading.{contents}
use Rattle.private_log.proofs.RingLaws.{counted_number, counted_full, counted_last, next_legal}
use Rattle.private_log.proofs.attach.read_ring.Goals as goal

pub returns-in_err-count-clause-legal : goal.returns-in_err-count-clause-legal
returns-in_err-count-clause-legal g c = λ t xs content.
    let here : c.args.start + c.from.result ≡ c.args.start + c.loop-k.k = omega arith in
    let legal : IsLegal (region_of c.args.s.now c.args.n.0) (c.args.start + c.loop-k.k) (contents (g.D.Disk.state c.args.disk.now).block (place (region_of c.args.s.now c.args.n.0) (c.args.start + c.loop-k.k))) =
    next_legal (region_of c.args.s.now c.args.n.0) (contents (g.D.Disk.state c.args.disk.now).block) c.args.start c.loop-k.k xs (c.loop-k.invariant.full t) (omega arith) content in
    let stop : IsStopOf c.args.port.0 c.in_err-count.field-0.0 = c.in_err-count.ensures.legal t (subst (λ n. IsLegal (region_of c.args.s.now c.args.n.0) n (contents (g.D.Disk.state c.loop-k.disk).block (place (region_of c.args.s.now c.args.n.0) n))) (sym here)
    (subst (λ (b : ℕ → BlockState). IsLegal (region_of c.args.s.now c.args.n.0) (c.args.start + c.loop-k.k) (contents b (place (region_of c.args.s.now c.args.n.0) (c.args.start + c.loop-k.k)))) (sym (c.loop-k.invariant.blocks t)) legal)) in
    search rules

pub returns-then-count-lt-BLOCK_RECORDS-clause-log :
    goal.returns-then-count-lt-BLOCK_RECORDS-clause-log
returns-then-count-lt-BLOCK_RECORDS-clause-log g c = λ t anchor.
    let held : contents (g.D.Disk.state c.args.disk.now).block (place (region_of c.args.s.now c.args.n.0) (c.args.start + c.from.result)) ≡ Some c.read_count.new.block =
    subst (λ (b : ℕ → BlockState). contents b (place (region_of c.args.s.now c.args.n.0) (c.args.start + c.from.result)) ≡ Some c.read_count.new.block) (c.loop-k.invariant.blocks t) (c.in_ok-count.ensures.read t) in
    counted_last (region_of c.args.s.now c.args.n.0) (contents (g.D.Disk.state c.args.disk.now).block) c.args.start c.loop-k.k (c.args.start + c.from.result) c.in_ok-count.count c.read_count.new.block
    (c.loop-k.invariant.full t) (omega arith) held (omega arith) (omega arith) c.requires.start anchor c.in_ok-count.ensures.count

pub loop-k-preserved : goal.loop-k-preserved
loop-k-preserved g c =
    let number : c.args.start + c.from.result < 2 ^ 56 =
    counted_number (region_of c.args.s.now c.args.n.0) (c.args.start + c.from.result) c.in_ok-count.count c.read_count.new.block c.if-count-lt-BLOCK_RECORDS.false c.in_ok-count.ensures.count in
    record {
      keeps = search rules;
      live = search rules;
      blocks = λ t. c.in_ok-count.ensures.blocks t ∙ c.loop-k.invariant.blocks t;
      number = omega (arith, number);
      full = λ t.
          let held : contents (g.D.Disk.state c.args.disk.now).block (place (region_of c.args.s.now c.args.n.0) (c.args.start + c.from.result)) ≡ Some c.read_count.new.block =
          subst (λ (b : ℕ → BlockState). contents b (place (region_of c.args.s.now c.args.n.0) (c.args.start + c.from.result)) ≡ Some c.read_count.new.block) (c.loop-k.invariant.blocks t) (c.in_ok-count.ensures.read t) in
          counted_full (region_of c.args.s.now c.args.n.0) (contents (g.D.Disk.state c.args.disk.now).block) c.args.start c.loop-k.k (c.args.start + c.from.result) c.in_ok-count.count c.read_count.new.block
          (c.loop-k.invariant.full t) (omega arith) held c.if-count-lt-BLOCK_RECORDS.false c.in_ok-count.ensures.most c.in_ok-count.ensures.count;
    }
