-- A text is read byte by byte.
use Rattle.std.proofs.Common.{◌≡◌, ◌≢◌, ℕ, List, [], ◌∷◌, ◌++◌, ◌∙◌, length, sym, ap, refl, inl, inr, arith, append_assoc, true, false, not}
use Rattle.std.specs.List.{flat_map}
use Rattle.std.proofs.lemmas.List.{length-append, get_or_append_left, get_or_at, flat_map_more, append-nil}
use Rattle.std.proofs.lemmas.List.Elements.{All-push, filter-append}
use Rattle.std.proofs.lemmas.Bool.{cases_lt}
use Rattle.script_text.specs.Lines.{HasNoFeed, ended, Splits, with_rest, is_silent, answered}

-- one more byte that is no line feed
HasNoFeed-push : (text : List ℕ) (b : ℕ) → HasNoFeed text → b ≢ 10 → HasNoFeed (text ++ b ∷ [])
HasNoFeed-push text b none ne k lt e = elim (cases_lt k (length text)) [
  | inl inside ↦ none k inside (sym (get_or_append_left text (b ∷ []) 0 k inside) ∙ e)
  | inr past ↦
      let last : k ≡ length text = omega (arith, length-append text (b ∷ [])) in
      ne (sym (get_or_at text b [] 0 k (sym last)) ∙ e)
]

pub Splits-none : Splits [] [] []
Splits-none = record { whole = refl; each = λ k d lt. absurd (omega arith); partial = λ k lt. absurd (omega arith) }

-- a byte that is no line feed
pub Splits-byte : (text : List ℕ) (lines : List (List ℕ)) (rest : List ℕ) (b : ℕ) → Splits text lines rest → b ≢ 10 → Splits (text ++ b ∷ []) lines (rest ++ b ∷ [])
Splits-byte text lines rest b s ne = record {
  whole = ap (λ xs. xs ++ b ∷ []) s.whole ∙ append_assoc (flat_map ended lines) rest (b ∷ []);
  each = s.each;
  partial = HasNoFeed-push rest b s.partial ne;
}

-- a line feed ends the line
pub Splits-line : (text : List ℕ) (lines : List (List ℕ)) (rest : List ℕ) → Splits text lines rest → Splits (text ++ 10 ∷ []) (lines ++ rest ∷ []) []
Splits-line text lines rest s = record {
  whole = ap (λ xs. xs ++ 10 ∷ []) s.whole ∙ append_assoc (flat_map ended lines) rest (10 ∷ []) ∙ flat_map_more ended [] lines rest ∙ sym (append-nil _);
  each = All-push HasNoFeed lines rest s.each s.partial;
  partial = λ k lt. absurd (omega arith);
}

-- which of the lines get a reply, with one more line
pub answered-silent : (lines : List (List ℕ)) (line : List ℕ) → is_silent line ≡ true → answered (lines ++ line ∷ []) ≡ answered lines
answered-silent lines line silent = filter-append (λ l. not (is_silent l)) lines (line ∷ []) ∙ rw silent (append-nil (answered lines))

pub answered-spoken : (lines : List (List ℕ)) (line : List ℕ) → is_silent line ≡ false → answered (lines ++ line ∷ []) ≡ answered lines ++ line ∷ []
answered-spoken lines line spoken = filter-append (λ l. not (is_silent l)) lines (line ∷ []) ∙ rw spoken refl

-- a rest that is empty is a line that gets none
pub answered-with_rest : (lines : List (List ℕ)) (rest : List ℕ) → answered (with_rest lines rest) ≡ answered (lines ++ rest ∷ [])
answered-with_rest lines [] = sym (answered-silent lines [] refl)
answered-with_rest lines (b ∷ bytes) = refl
