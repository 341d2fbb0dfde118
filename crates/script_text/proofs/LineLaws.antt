-- Each text splits into lines and a rest, in one way.
use Rattle.std.proofs.Common.{◌≡◌, ℕ, suc, List, [], ◌∷◌, ◌++◌, ◌∙◌, sym, refl, arith, append_assoc, All}
use Rattle.std.specs.List.{flat_map}
use Rattle.script_text.specs.Lines.{HasNoFeed, ended, Splits}
use Rattle.script_text.proofs.CutLaws.{heads, no_cut}

tail_lines : (line : List ℕ) (lines : List (List ℕ)) → All HasNoFeed (line ∷ lines) → All HasNoFeed lines
tail_lines line lines h k d lt = h (suc k) d (omega arith)

-- the first line feed ends the first line
line_heads : (a b xs ys : List ℕ) → HasNoFeed a → HasNoFeed b → ended a ++ xs ≡ ended b ++ ys → (a ≡ b) × (xs ≡ ys)
line_heads a b xs ys ha hb e = heads 10 a b xs ys ha hb (sym (append_assoc a (10 ∷ []) xs) ∙ e ∙ append_assoc b (10 ∷ []) ys)

-- what isn't ended has no line
no_line : (r b ys : List ℕ) → HasNoFeed r → r ≡ ended b ++ ys → ⊥
no_line r b ys h e = no_cut 10 r b ys h (e ∙ append_assoc b (10 ∷ []) ys)

one_way : (l m : List (List ℕ)) (r s : List ℕ) → All HasNoFeed l → All HasNoFeed m → HasNoFeed r → HasNoFeed s → flat_map ended l ++ r ≡ flat_map ended m ++ s → (l ≡ m) × (r ≡ s)
one_way [] [] r s hl hm hr hs e = (refl, e)
one_way [] (b ∷ m) r s hl hm hr hs e = absurd (no_line r b (flat_map ended m ++ s) hr (e ∙ append_assoc (ended b) (flat_map ended m) s))
one_way (a ∷ l) [] r s hl hm hr hs e = absurd (no_line s a (flat_map ended l ++ r) hs (sym e ∙ append_assoc (ended a) (flat_map ended l) r))
one_way (a ∷ l) (b ∷ m) r s hl hm hr hs e =
    let whole : ended a ++ (flat_map ended l ++ r) ≡ ended b ++ (flat_map ended m ++ s) =
    sym (append_assoc (ended a) (flat_map ended l) r) ∙ e ∙ append_assoc (ended b) (flat_map ended m) s in
    let heads = line_heads a b (flat_map ended l ++ r) (flat_map ended m ++ s) (hl 0 [] (omega arith)) (hm 0 [] (omega arith)) whole in
    let tails = one_way l m r s (tail_lines a l hl) (tail_lines b m hm) hr hs heads.1 in
    let first : a ≡ b = heads.0 in
    let others : l ≡ m = tails.0 in
    (cc, tails.1)

pub Splits-one : (text : List ℕ) (l m : List (List ℕ)) (r s : List ℕ) → Splits text l r → Splits text m s → (l ≡ m) × (r ≡ s)
Splits-one text l m r s p q = one_way l m r s p.each q.each p.partial q.partial (sym p.whole ∙ q.whole)
