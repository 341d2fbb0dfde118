use Rattle.std.proofs.Common.{arith, ap, ◌∙◌, ◌*◌, ◌+◌, ◌≡◌, length}
use Rattle.private_log.specs.Log.{LogState}
use Rattle.private_log.specs.LogBlock.{six}
use Rattle.private_log.proofs.Sixes.{AreRecords-six, length-six}
use Rattle.private_log.proofs.LogLaws.{on_texts, on_tail, pushed}
use Rattle.private_log.proofs.log.Log.push.Goals as goal

pub invariant_of-self : goal.invariant_of-self
invariant_of-self c =
    let v = c.self.view_is in
    let start : c.self.inside.start ≡ c.args.self.now.start = ap (λ (l : LogState). l.start) v ∙ c.open_block.ensures.same.start in
    let tail : c.self.inside.tail ≡ c.args.self.now.tail = ap (λ (l : LogState). l.tail) v ∙ c.open_block.ensures.tail in
    let ring : c.self.inside.shape.ring ≡ c.args.self.now.shape.ring = ap (λ (l : LogState). l.shape.ring) v ∙ ap (λ s. s.ring) c.open_block.ensures.same.shape in
    record {
      shape = c.self.invariant.shape;
      node = c.self.invariant.node;
      start = c.self.invariant.start;
      low = c.self.invariant.low;
      stable = omega (arith, c.self.invariant.stable);
      room = omega (arith, c.requires);
      last = omega (arith, c.requires);
      block = omega arith;
    }

pub returns-clause-log : goal.returns-clause-log
returns-clause-log c = λ b xs on.
    let v = c.self.view_is in
    let at : c.self.inside.tail ≡ c.args.self.now.tail = ap (λ (l : LogState). l.tail) v ∙ c.open_block.ensures.tail in
    let long : c.args.self.now.tail ≡ 6 * c.args.self.now.start + length xs = on_tail c.args.self.now b xs on in
    pushed c.args.self.now _ b xs c.args.text.now c.requires
    record {
      shape = ap (λ (l : LogState). l.shape) v ∙ c.open_block.ensures.same.shape;
      node = ap (λ (l : LogState). l.node) v ∙ c.open_block.ensures.same.node;
      start = ap (λ (l : LogState). l.start) v ∙ c.open_block.ensures.same.start;
    }
    (ap (λ n. n + 1) at) (ap (λ (l : LogState). l.stable) v ∙ c.open_block.ensures.stable) (omega arith)
    (λ k low high. c.put_record.ensures _ _ (six k xs) (AreRecords-six k xs (on_texts c.args.self.now b xs on)) (length-six k xs ∙ omega arith)
    (ap (λ (l : LogState). l.block) v ∙ c.open_block.ensures.block b xs k on low high))
    on
