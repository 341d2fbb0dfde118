-- The places of a ring.
use Rattle.std.proofs.Common.{◌≡◌, ◌≤◌, ◌<◌, ◌+◌, ◌-◌, ◌%◌, ℕ, inl, inr, sym, ◌∙◌, ap, arith}
use Rattle.std.proofs.lemmas.Bool.{cases_lt}
use Rattle.std.proofs.lemmas.Nat.{mod_below}
use Rattle.std.proofs.Math.Nat.{mod-add-mod, add-mod_right, mod-eq_of_lt, mod-eq-sub-mod}
use Rattle.private_log.specs.Content.{Region, place}

-- numbers that are less than a ring apart share a place only where they are one
apart : (ring a d : ℕ) → d < ring → (a + d) % ring ≡ a % ring → d ≡ 0
apart ring a d lt same =
    let r : a % ring < ring = mod_below a ring (omega arith) in
    let sum : (a % ring + d) % ring ≡ a % ring = mod-add-mod a ring d ∙ same in
    elim (cases_lt (a % ring + d) ring) [
      | inl low ↦ omega (arith, sym (mod-eq_of_lt low) ∙ sum)
      | inr high ↦
          let less : a % ring + d - ring < ring = omega arith in
          omega (arith, sym (mod-eq_of_lt less) ∙ (sym (mod-eq-sub-mod high) ∙ sum))
    ]

-- two blocks of a log share a place only where they are one
pub place-one : (g : Region) (start j k : ℕ) → j < g.ring → k < g.ring → place g (start + j) ≡ place g (start + k) → j ≡ k
place-one g start j k lj lk same = elim (cases_lt j k) [
  | inl less ↦
      let e : start + k ≡ (start + j) + (k - j) = omega arith in
      absurd (omega (arith, apart g.ring (start + j) (k - j) (omega arith) (ap (λ n. n % g.ring) (sym e) ∙ sym (omega arith))))
  | inr more ↦
      let e : start + j ≡ (start + k) + (j - k) = omega arith in
      omega (arith, apart g.ring (start + k) (j - k) (omega arith) (ap (λ n. n % g.ring) (sym e) ∙ omega arith))
]

-- a place of the ring lies within the region, behind the anchor
pub place-in : (g : Region) (number : ℕ) → 0 < g.ring → (1 ≤ 1 + number % g.ring) × (1 + number % g.ring ≤ g.ring)
place-in g number some = (omega arith, omega (arith, mod_below number g.ring some))

-- one lap on, the place is the same
pub place-lap : (g : Region) (number : ℕ) → place g (number + g.ring) ≡ place g number
place-lap g number = ap (λ n. g.anchor + 1 + n) (add-mod_right number g.ring)
