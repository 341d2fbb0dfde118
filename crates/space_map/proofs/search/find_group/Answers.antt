use Rattle.std.proofs.Common.{◌∙◌, ap, sym, below_more, arith}
use Rattle.space_map.specs.Entry.{is_used_by}
use Rattle.space_map.proofs.Finding.{first_place, no_place}
use Rattle.space_map.proofs.search.find_group.Goals as goal

pub returns-then-is_used_by-clause-first : goal.returns-then-is_used_by-clause-first
returns-then-is_used_by-clause-first c = λ m t. first_place (is_used_by c.args.g) m c.args.b.now t c.loop-place.place (omega arith) c.loop-place.invariant (ap (is_used_by c.args.g) (sym c.entry_at.ensures) ∙ sym c.is_used_by.ensures ∙ c.if-is_used_by.true)

pub returns-clause-first : goal.returns-clause-first
returns-clause-first c = λ m t. no_place (is_used_by c.args.g) m c.args.b.now t (λ k lt. c.loop-place.invariant k (omega arith))

pub loop-place-preserved : goal.loop-place-preserved
loop-place-preserved c = below_more _ _ c.loop-place.invariant (ap (is_used_by c.args.g) (sym c.entry_at.ensures) ∙ sym c.is_used_by.ensures ∙ c.if-is_used_by.false)
