-- Sums of which one part changes.
use Rattle.std.proofs.Common.{◌≡◌, ◌≢◌, ◌⊎◌, inl, inr, ℕ, zero, suc, ◌+◌, ◌<◌, ◌≤◌, ap, ◌∙◌, arith}
use Rattle.std.proofs.lemmas.Bool.{cases_eq, cases_lt}
use Rattle.recovery_theory.specs.Rules.{total}

-- one part is less by so much, and no other is more
pub total_change : (f g : ℕ → ℕ) (t c d : ℕ) → ((u : ℕ) → u ≢ t → f u ≤ g u) → d + f t ≤ c + g t → (k : ℕ) → (t < k → d + total f k ≤ c + total g k) × (k ≤ t → total f k ≤ total g k)
total_change f g t c d other own zero = (λ lt. absurd (omega arith), λ le. omega arith)
total_change f g t c d other own (suc k) = go (cases_eq k t) (total_change f g t c d other own k)
  where
    go : (k ≡ t) ⊎ (k ≢ t) → (t < k → d + total f k ≤ c + total g k) × (k ≤ t → total f k ≤ total g k) → (t < suc k → d + total f (suc k) ≤ c + total g (suc k)) × (suc k ≤ t → total f (suc k) ≤ total g (suc k))
    go (inl e) h =
        let o : d + f k ≤ c + g k = rw e own in
        let low = h.1 (omega arith) in
        (λ lt. omega arith, λ le. absurd (omega arith))
    go (inr e) h =
        let o = other k e in
        (λ lt. let low = h.0 (below (cases_lt t k) lt) in omega arith, λ le. let low = h.1 (omega arith) in omega arith)
      where
        below : (t < k) ⊎ (k ≤ t) → t < suc k → t < k
        below (inl h) lt = h
        below (inr h) lt = let same : k ≡ t = omega arith in absurd (e same)

-- one part is more by so much at most
pub total_fall : (f g : ℕ → ℕ) (t c : ℕ) → ((u : ℕ) → u ≢ t → f u ≤ g u) → f t ≤ c + g t → (k : ℕ) → total f k ≤ c + total g k
total_fall f g t c other own k = go (total_change f g t c 0 other (omega (arith, own)) k) (cases_lt t k)
  where
    go : (t < k → 0 + total f k ≤ c + total g k) × (k ≤ t → total f k ≤ total g k) → (t < k) ⊎ (k ≤ t) → total f k ≤ c + total g k
    go h (inl lt) = let low = h.0 lt in omega arith
    go h (inr le) = let low = h.1 le in omega arith

-- parts that are zero add nothing
pub total_more : (f : ℕ → ℕ) (j k : ℕ) → ((u : ℕ) → k ≤ u → f u ≡ 0) → total f (j + k) ≡ total f k
total_more f zero k none = ap (total f) (omega arith)
total_more f (suc j) k none =
    let e : suc j + k ≡ suc (j + k) = omega arith in
    let rest = total_more f j k none in
    let z = none (j + k) (omega arith) in
    ap (total f) e ∙ omega arith
