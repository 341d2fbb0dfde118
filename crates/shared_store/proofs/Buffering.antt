-- A line buffer holds the front of its line.
use Rattle.std.proofs.Common.{◌≡◌, ◌≤◌, ◌<◌, ◌∙◌, ℕ, Bool, true, false, List, [], ◌∷◌, ◌++◌, length, take, sym, ap, inl, inr, arith}
use Rattle.std.proofs.lemmas.List.{length-take, length-append, take-append-le, take_all}
use Rattle.std.proofs.lemmas.Bool.{cases_lt, false≢true}

-- one more byte of a line whose front fills the buffer
pub front_stays : (line kept : List ℕ) (b : ℕ) → kept ≡ take 1024 line → 1024 ≤ length kept → kept ≡ take 1024 (line ++ b ∷ [])
front_stays line kept b holds full = holds ∙ sym (take-append-le 1024 line (b ∷ []) (omega (arith, ap length holds, length-take 1024 line)))

-- a line that fits is held whole
pub held_whole : (line kept : List ℕ) → kept ≡ take 1024 line → length line ≤ 1024 → kept ≡ line
held_whole line kept holds short = holds ∙ take_all 1024 line short

pub front_grows : (line kept : List ℕ) (b : ℕ) → kept ≡ take 1024 line → length kept < 1024 → kept ++ b ∷ [] ≡ take 1024 (line ++ b ∷ [])
front_grows line kept b holds room =
    let short : length line < 1024 = omega (arith, ap length holds, length-take 1024 line) in
    ap (λ xs. xs ++ b ∷ []) (held_whole line kept holds (omega arith)) ∙ sym (take_all 1024 (line ++ b ∷ []) (omega (arith, length-append line (b ∷ []))))

-- how long the line is, by how much of it is kept
pub line_fills : (line kept : List ℕ) → kept ≡ take 1024 line → 1024 ≤ length kept → 1024 ≤ length line
line_fills line kept holds full = omega (arith, ap length holds, length-take 1024 line)

pub line_fits : (line kept : List ℕ) → kept ≡ take 1024 line → length kept < 1024 → length line < 1024
line_fits line kept holds room = omega (arith, ap length holds, length-take 1024 line)

-- a line that isn't known to be long is short
pub not_long : (line : List ℕ) (is_long : Bool) → is_long ≡ false → (1024 < length line → is_long ≡ true) → length line ≤ 1024
not_long line is_long known long = elim (cases_lt 1024 (length line)) [
  | inl lt ↦ absurd (false≢true (sym known ∙ long lt))
  | inr le ↦ le
]
