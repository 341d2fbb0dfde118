use Rattle.std.proofs.Common.{rules, ◌≡◌, ◌<◌, ℕ, arith, inl, inr, subst, sym, ◌∙◌}
use Rattle.std.proofs.lemmas.Bool.{cases_lt}
use Rattle.sd_base.specs.Disk.{BlockState}
use Rattle.private_log.specs.Log.{IsLogOn}
use Rattle.loser_undo.specs.Logs.{IsNoRecord, IsTextOf}
use Rattle.loser_undo.proofs.texts.check_texts.Goals as goal

pub returns-in_err-_rec-clause-none : goal.returns-in_err-_rec-clause-none
returns-in_err-_rec-clause-none g c = λ told xs on.
    let now = subst (λ (b : ℕ → BlockState). IsLogOn c.args.log.now b xs) (sym (c.loop-r.invariant.blocks told)) on in
    let below : c.loop-r.r < c.args.log.now.tail = omega (arith, c.loop-r-test.true, c.tail-r-end.ensures.tail) in
    let none : IsNoRecord c.args.log.now xs c.in_err-_rec.field-0.0 = (c.loop-r.r, c.loop-r.invariant.low, below, c.in_err-_rec.ensures.damaged told xs now) in
    search (rules, none)

pub loop-r-preserved : goal.loop-r-preserved
loop-r-preserved g c = record {
  keeps = search rules;
  live = search rules;
  blocks = λ t. c.in_ok-_rec.ensures.blocks t ∙ c.loop-r.invariant.blocks t;
  low = omega (arith, c.loop-r.invariant.low);
  texts = λ told xs on r low below.
      let now = subst (λ (b : ℕ → BlockState). IsLogOn c.args.log.now b xs) (sym (c.loop-r.invariant.blocks told)) on in
      elim (cases_lt r c.loop-r.r) [
        | inl lt ↦ c.loop-r.invariant.texts told xs on r low lt
        | inr ge ↦
            let same : c.loop-r.r ≡ r = omega (arith, ge, below) in
            (c.in_ok-_rec._rec, subst (λ k. IsTextOf c.args.log.now xs k c.in_ok-_rec._rec) same (c.in_ok-_rec.ensures.text told xs now))
      ];
}
