-- The lines of a text.
use Rattle.std.specs.Prelude.{◌≡◌, ◌≢◌, ◌<◌, ◌==◌, ℕ, Bool, true, false, not, List, [], ◌∷◌, ◌++◌, length, slice_index, All, filter}
use Rattle.std.specs.List.{flat_map}

-- no byte of the text is this one
abbrev pub Lacks : ℕ → List ℕ → Type 0
Lacks mark text = (k : ℕ) → k < length text → slice_index text k ≢ mark

-- no byte of the text is a line feed
abbrev pub HasNoFeed : List ℕ → Type 0
HasNoFeed text = Lacks 10 text

-- a line with its line feed
abbrev pub ended : List ℕ → List ℕ
ended line = line ++ 10 ∷ []

-- the text is these lines, each ended by a line feed, and a rest that isn't ended
pub record Splits (text : List ℕ) (lines : List (List ℕ)) (rest : List ℕ) : Type 0 where
  pub whole : text ≡ flat_map ended lines ++ rest
  pub each : All HasNoFeed lines
  pub partial : HasNoFeed rest

-- the lines of a whole text: those that are ended, and the rest if it isn't empty
abbrev pub with_rest : List (List ℕ) → List ℕ → List (List ℕ)
with_rest lines [] = lines
with_rest lines (b ∷ bytes) = lines ++ (b ∷ bytes) ∷ []

-- the lines that are executed: where the text has ended all of them, and else those that are ended
abbrev pub lines_read : Bool → List (List ℕ) → List ℕ → List (List ℕ)
lines_read true lines rest = with_rest lines rest
lines_read false lines rest = lines

-- what stands behind a whole line: nothing, or a line feed
abbrev pub EndsLine : List ℕ → Type 0
EndsLine [] = Unit {0}
EndsLine (b ∷ bytes) = b ≡ 10

-- whether a line gets no reply: it is empty or begins with `#`
abbrev pub is_silent : List ℕ → Bool
is_silent [] = true
is_silent (b ∷ bytes) = b == 35

-- the lines that get a reply
abbrev pub answered : List (List ℕ) → List (List ℕ)
answered lines = filter (λ line. not (is_silent line)) lines
