use Rattle.std.proofs.Common.{◌∙◌, ap, sym, arith}
use Rattle.space_map.specs.Entry.{is_free}
use Rattle.space_map.proofs.Finding.{first_place, no_place}
use Rattle.space_map.proofs.search.first_free.Goals as goal

pub returns-then-is_free-clause-first : goal.returns-then-is_free-clause-first
returns-then-is_free-clause-first c = λ m t. first_place is_free m c.args.b.now t c.loop-place.place (omega arith) c.loop-place.invariant (ap (is_free) (sym c.entry_at.ensures) ∙ sym c.is_free.ensures ∙ c.if-is_free.true)

pub returns-clause-first : goal.returns-clause-first
returns-clause-first c = λ m t. no_place is_free m c.args.b.now t (λ k lt. c.loop-place.invariant k (omega arith))
