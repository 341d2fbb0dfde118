-- The first entry that passes a test.
use Rattle.std.proofs.Common.{◌≡◌, ◌<◌, ◌≤◌, ◌+◌, ◌*◌, ℕ, Bool, true, false, cond, ltb, Some, None, List, length, drop, get_or, position, sym, ◌∙◌, ap, arith}
use Rattle.std.specs.List.{position_or_len}
use Rattle.std.proofs.lemmas.List.Sums.{position_or_len_is}
use Rattle.space_map.specs.declared.map_entry.MapEntry.{MapEntry}
use Rattle.space_map.specs.declared.map_entry.MapEntry.TheVariants.{Free}
use Rattle.space_map.specs.Entry.{entry_of_text}
use Rattle.space_map.specs.Image.{MapImage, IsMapText}
use Rattle.space_map.proofs.ImageLaws.{IsMapText-entry}

position_by : (i n first : ℕ) → first ≡ i → i < n → cond (ltb first n) (Some first) None ≡ Some i
position_by i n first e lt = grind arith

no_position_by : (n first : ℕ) → first ≡ n → cond (ltb first n) (Some first) None ≡ None
no_position_by n first e = grind arith

module _ (p : MapEntry → Bool) (m : MapImage) (b : List ℕ) (t : IsMapText m b) where
  -- the entries that are read before a place fail the test
  abbrev FailBefore : ℕ → Type 0
  FailBefore i = (k : ℕ) → k < i → p (entry_of_text (drop (64 + 16 * k) b)) ≡ false

  fails : (i : ℕ) → i ≤ 252 → FailBefore i → (k : ℕ) → k < i → p (get_or m.entries k (Free 0)) ≡ false
  fails i le before k lt = ap p (sym (IsMapText-entry m b k t (omega arith))) ∙ before k lt

  -- the place of the first entry that passes
  pub first_place : (i : ℕ) → i < 252 → FailBefore i → p (entry_of_text (drop (64 + 16 * i) b)) ≡ true → Some i ≡ position p m.entries
  first_place i lt before passes =
      let first : position_or_len p m.entries ≡ i = position_or_len_is p m.entries i (Free 0) (omega (arith, t.image.count)) (fails i (omega arith) before) (λ at. ap p (sym (IsMapText-entry m b i t lt)) ∙ passes) in
      sym (position_by i (length m.entries) (position_or_len p m.entries) first (omega (arith, t.image.count)))

  -- no entry passes
  pub no_place : FailBefore 252 → None ≡ position p m.entries
  no_place before =
      let first : position_or_len p m.entries ≡ length m.entries = position_or_len_is p m.entries (length m.entries) (Free 0) (omega arith) (λ k lt. fails 252 (omega arith) before k (omega (arith, t.image.count))) (λ lt. absurd (omega arith)) in
      sym (no_position_by (length m.entries) (position_or_len p m.entries) first)
