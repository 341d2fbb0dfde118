-- A text is cut at its first such byte, in one way.
use Rattle.std.proofs.Common.{◌≡◌, ◌≢◌, ◌+◌, ◌∙◌, ℕ, zero, suc, List, [], ◌∷◌, ◌++◌, take, drop, sym, ap, refl, add-one, arith}
use Rattle.std.proofs.lemmas.List.{get_or-take, take-append-drop, length-take}
use Rattle.std.proofs.Math.Seq.{drop-cons}
use Rattle.script_text.specs.Lines.{Lacks}
use Rattle.script_text.specs.Reading.{IsCut, IsFirst}

pub Lacks-tail : (mark b : ℕ) (text : List ℕ) → Lacks mark (b ∷ text) → Lacks mark text
Lacks-tail mark b text h k lt = h (suc k) (omega arith)

pub Lacks-head : (mark b : ℕ) (text : List ℕ) → Lacks mark (b ∷ text) → b ≢ mark
Lacks-head mark b text h = h 0 (omega arith)

pub Lacks-none : (mark : ℕ) → Lacks mark []
Lacks-none mark k lt = absurd (omega arith)

pub Lacks-cons : (mark b : ℕ) (text : List ℕ) → b ≢ mark → Lacks mark text → Lacks mark (b ∷ text)
Lacks-cons mark b text ne h zero lt = ne
Lacks-cons mark b text ne h (suc k) lt = h k (omega arith)

pub Lacks-append : (mark : ℕ) (front back : List ℕ) → Lacks mark front → Lacks mark back → Lacks mark (front ++ back)
Lacks-append mark [] back hf hb = hb
Lacks-append mark (b ∷ front) back hf hb = Lacks-cons mark b (front ++ back) (Lacks-head mark b front hf) (Lacks-append mark front back (Lacks-tail mark b front hf) hb)

-- the first such byte is at one place
pub heads : (mark : ℕ) (a b xs ys : List ℕ) → Lacks mark a → Lacks mark b → a ++ mark ∷ xs ≡ b ++ mark ∷ ys → (a ≡ b) × (xs ≡ ys)
heads mark [] [] xs ys ha hb e = (refl, cc)
heads mark [] (d ∷ b) xs ys ha hb e = let h : d ≡ mark = cc in absurd (Lacks-head mark d b hb h)
heads mark (c ∷ a) [] xs ys ha hb e = let h : c ≡ mark = cc in absurd (Lacks-head mark c a ha h)
heads mark (c ∷ a) (d ∷ b) xs ys ha hb e =
    let rest : a ++ mark ∷ xs ≡ b ++ mark ∷ ys = cc in
    let tails = heads mark a b xs ys (Lacks-tail mark c a ha) (Lacks-tail mark d b hb) rest in
    let first : c ≡ d = cc in
    let line : a ≡ b = tails.0 in
    (cc, tails.1)

-- a text without such a byte isn't cut
pub no_cut : (mark : ℕ) (text front back : List ℕ) → Lacks mark text → text ≡ front ++ mark ∷ back → ⊥
no_cut mark [] [] back h e = cc
no_cut mark [] (d ∷ front) back h e = cc
no_cut mark (c ∷ text) [] back h e = let f : c ≡ mark = cc in absurd (Lacks-head mark c text h f)
no_cut mark (c ∷ text) (d ∷ front) back h e = let rest : text ≡ front ++ mark ∷ back = cc in no_cut mark text front back (Lacks-tail mark c text h) rest

pub IsCut-one : (mark : ℕ) (text a xs b ys : List ℕ) → IsCut mark text a xs → IsCut mark text b ys → (a ≡ b) × (xs ≡ ys)
IsCut-one mark text a xs b ys p q = heads mark a b xs ys p.first q.first (sym p.whole ∙ q.whole)

-- what stands before the first such byte and behind it
pub IsCut-first : (mark : ℕ) (text : List ℕ) (place : ℕ) → IsFirst mark text place → IsCut mark text (take place text) (drop (place + 1) text)
IsCut-first mark text place h = record {
  whole = sym (take-append-drop place text) ∙ ap (λ xs. take place text ++ xs) (drop-cons text place 0 h.within ∙ ap (λ b. b ∷ drop (suc place) text) h.here ∙ ap (λ n. mark ∷ drop n text) (sym (add-one place)));
  first = λ k lt e. h.before k (omega (arith, length-take place text)) (sym (get_or-take place text k 0 (omega (arith, length-take place text))) ∙ e);
}
