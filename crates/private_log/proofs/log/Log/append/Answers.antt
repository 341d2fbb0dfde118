use Rattle.std.proofs.Common.{rules, ◌≡◌, ◌++◌, ◌∷◌, [], ap, arith}
use Rattle.sd_base.proofs.Results.{on_err, err_of}
use Rattle.private_log.specs.Log.{LogState, SameLog}
use Rattle.private_log.proofs.Outcomes.{loaded_on, written_on, cut_outcome, on_outcome_since, cut_since}
use Rattle.private_log.proofs.log.Log.append.Goals as goal

pub returns-then-self-ne0-clause-log : goal.returns-then-self-ne0-clause-log
returns-then-self-ne0-clause-log g c = λ t xs on.
    let tail : c.self-2.inside.tail ≡ c.push.new.self.tail = ap (λ (l : LogState). l.tail) c.self-2.view_is in
    loaded_on c.push.new.self (g.D.Disk.state c.args.disk.now).block (xs ++ c.args.text.now ∷ []) (λ e. c.if-self-ne0.true (omega (arith, tail, e))) (c.push.ensures.log _ xs on)

pub returns-then-self-ne0-clause-any_outcome : goal.returns-then-self-ne0-clause-any_outcome
returns-then-self-ne0-clause-any_outcome g c = λ t xs on image out.
    on_outcome_since c.args.self.now c.push.new.self (g.D.Disk.state c.args.disk.now).block (xs ++ c.args.text.now ∷ []) image c.push.ensures.same (omega (arith, c.push.ensures.stable))
    (returns-then-self-ne0-clause-log g c t xs on) out

pub returns-in_err-write_tail-clause-cut : goal.returns-in_err-write_tail-clause-cut
returns-in_err-write_tail-clause-cut g c = on_err c.from_residual.result (λ t xs on.
    cut_since c.args.self.now c.push.new.self (g.D.Disk.state c.write_tail.new.disk).block (xs ++ c.args.text.now ∷ []) c.push.ensures.same (omega (arith, c.push.ensures.stable))
    (c.in_err-write_tail.ensures.cut t (xs ++ c.args.text.now ∷ []) (c.push.ensures.log _ xs on)))

pub returns-in_err-write_tail-clause-any_outcome :
    goal.returns-in_err-write_tail-clause-any_outcome
returns-in_err-write_tail-clause-any_outcome g c = λ t xs on image out.
    cut_outcome _ _ _ (g.D.Disk.state c.write_tail.new.disk).block (xs ++ c.args.text.now ∷ []) image (err_of c.from_residual.result c.from_residual.ensures.0 (returns-in_err-write_tail-clause-cut g c) t xs on) out

pub returns-clause-log : goal.returns-clause-log
returns-clause-log g c = λ t xs on.
    let tail : c.self-2.inside.tail ≡ c.push.new.self.tail = ap (λ (l : LogState). l.tail) c.self-2.view_is in
    written_on c.write_tail.new.self (g.D.Disk.state c.write_tail.new.disk).block (xs ++ c.args.text.now ∷ []) (omega (arith, tail, c.if-self-ne0.false, c.write_tail.ensures.tail))
    (c.in_ok-write_tail.ensures.log t (xs ++ c.args.text.now ∷ []) (c.push.ensures.log _ xs on))

pub returns-clause-any_outcome : goal.returns-clause-any_outcome
returns-clause-any_outcome g c = λ t xs on image out.
    let same : SameLog c.args.self.now c.write_tail.new.self = search rules in
    on_outcome_since c.args.self.now c.write_tail.new.self (g.D.Disk.state c.write_tail.new.disk).block (xs ++ c.args.text.now ∷ []) image same
    (omega (arith, c.push.ensures.stable, c.in_ok-write_tail.ensures.stable)) (returns-clause-log g c t xs on) out
