use Rattle.std.proofs.Common.{rules, ◌≡◌, ◌%◌, Some, ◌∙◌, ap, sym, refl, inl, inr}
use Rattle.sd_base.specs.Text.{zero_block}
use Rattle.private_log.specs.LogBlock.{log_block}
use Rattle.private_log.proofs.block.count_records.Goals as goal

pub returns-then-eq-clause-found : goal.returns-then-eq-clause-found
returns-then-eq-clause-found c = λ g node ring.
    let zeros : c.args.block.now ≡ zero_block = search rules in
    inl (refl, inl (ap Some zeros))

pub returns-then-header-ring-clause-found : goal.returns-then-header-ring-clause-found
returns-then-header-ring-clause-found c = λ g node ring.
    let h = c.in_ok-header.ensures.found in
    let same : c.from-ring.result ≡ g.ring = c.from-ring.ensures ∙ sym ring in
    inl (
      refl,
      inr (
        record {
          held = c.in_ok-header.header.number;
          records = h.0;
          fits = h.1;
          shares = ap (λ r. c.in_ok-header.header.number % r) (sym same) ∙ (c.if-header-ring.true ∙ ap (λ r. c.args.number % r) same);
          text = ap Some (h.3 ∙ ap (λ n. log_block n c.in_ok-header.header.number h.0) (sym node));
        },
        c.if-header-number.false,
      ),
    )
