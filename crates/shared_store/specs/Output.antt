-- What a sink has taken.
use Rattle.std.specs.Prelude.{◌≡◌, ◌⊎◌, ℕ, List, ◌++◌, length, take}
use Rattle.std.proofs.Common.{inl, inr, sym, subst, ◌∙◌}
use Rattle.sd_base.specs.Stream.{SinkState}

-- the sink has taken a part of these bytes: their first ones, perhaps none or all
abbrev pub IsPart : List ℕ → List ℕ → List ℕ → Type 0
IsPart old bytes new = (n : ℕ) × (new ≡ old ++ take n bytes)

-- the sink was not used, or has passed on all that it has taken
abbrev pub StaysFlushed : SinkState → SinkState → Type 0
StaysFlushed old new = (new ≡ old) ⊎ (new.flushed ≡ length new.taken)

pub StaysFlushed-then : (a b c : SinkState) → StaysFlushed a b → StaysFlushed b c → StaysFlushed a c
StaysFlushed-then a b c p (inr q) = inr q
StaysFlushed-then a b c (inl p) (inl q) = inl (q ∙ p)
StaysFlushed-then a b c (inr p) (inl q) = inr (let P : SinkState → Type 0 = λ s. s.flushed ≡ length s.taken in subst P (sym q) p)
