-- Each identifier of a page's chain is that of one step.
use Rattle.std.proofs.Common.{◌≡◌, ◌≢◌, ◌⊎◌, inl, inr, ℕ, suc, ◌+◌, ◌<◌, ◌≤◌, Bool, true, false, cond, eqb, List, [], ◌∷◌, ◌++◌, length, refl, ap, ap₂, sym, subst, ◌∙◌, arith, append_assoc, length-append, eq-eqb, eqb-true}
use Rattle.std.proofs.lemmas.Bool.{cases_eq, cases_lt}
use Rattle.recovery_theory.specs.Chain.{NodeChange, steps_from, in_log, all_by, Rises}
use Rattle.recovery_theory.specs.Effect.{Step}
use Rattle.recovery_theory.specs.Rebuilding.{Has, InLogs, ChainIsLinked}
use Rattle.sd_base.specs.declared.page_op.PageOp.{PageOp}
use Rattle.recovery_theory.proofs.ChainLaws.{ident-disk, ident-image, past_image}
use Rattle.recovery_theory.proofs.StepLists.{steps_from-in_log, length-all_by, steps_from-steps_from}
use Rattle.recovery_theory.proofs.Rebuilding.{has-steps_from, steps_from-has, in_log-has}
use Rattle.space_map.specs.PageImage.{PageImage, ident_of}

-- a step, by its parts
abbrev step : ℕ → PageOp → Step
step b op = record { bsi = b; op = op }

-- the one step with the first number of a history
pub first_one : (n b : ℕ) (a : NodeChange) (h : List NodeChange) (t : Step) → Has (in_log n b (a ∷ h)) t → t.bsi ≡ b → (t.op ≡ a.op) × (n ≡ a.node)
first_one n b a h t k e = go (eqb a.node n) refl k
  where
    late : Has (in_log n (suc b) h) t → ⊥
    late k = let z = in_log-has n (suc b) h t k in absurd (omega arith)

    go : (c : Bool) → eqb a.node n ≡ c → Has (cond c (record { bsi = b; op = a.op } ∷ in_log n (suc b) h) (in_log n (suc b) h)) t → (t.op ≡ a.op) × (n ≡ a.node)
    go true q (inl z) = (sym (ap (λ (s : Step). s.op) z), sym (eqb-true a.node n q))
    go true q (inr k) = absurd (late k)
    go false q k = absurd (late k)

-- the steps that a history puts into a log rise
pub in_log-rises : (n b : ℕ) (h : List NodeChange) → Rises (in_log n b h)
in_log-rises n b [] = tt
in_log-rises n b (a ∷ h) = go (eqb a.node n) (in_log n (suc b) h) (in_log-rises n (suc b) h) (in_log-has n (suc b) h)
  where
    go : (c : Bool) (l : List Step) → Rises l → ((s : Step) → Has l s → suc b ≤ s.bsi) → Rises (cond c (record { bsi = b; op = a.op } ∷ l) l)
    go true [] r f = tt
    go true (s ∷ l) r f = (f s (inl refl), r)
    go false l r f = r

module _ (base : PageImage) (kept live : ℕ → List Step) (changes : List NodeChange) (linked : (n : ℕ) → steps_from (ident_of base) (kept n ++ live n) ≡ in_log n (ident_of base) changes) where
  abbrev One : ℕ → Type 0
  One j = (s : Step) × (k : InLogs kept live s) × (s.bsi ≡ j) × ((t : Step) (l : InLogs kept live t) → t.bsi ≡ j → (t ≡ s) × (l.node ≡ k.node))

  -- the step with the number after the front
  at_front : (front h : List NodeChange) (a : NodeChange) (j : ℕ) → changes ≡ front ++ a ∷ h → j ≡ ident_of base + length front → One j
  at_front front h a j e at = (step j a.op, record { node = a.node; stands = steps_from-has (ident_of base) (kept a.node ++ live a.node) (step j a.op) (mine a.node refl) }, refl, only)
    where
      rest : (n : ℕ) → steps_from j (kept n ++ live n) ≡ in_log n j (a ∷ h)
      rest n = sym (steps_from-steps_from (ident_of base) j (omega arith) (kept n ++ live n)) ∙ (ap (steps_from j) (linked n ∙ ap (in_log n (ident_of base)) e) ∙ steps_from-in_log n (ident_of base) j front (a ∷ h) at)

      mine : (n : ℕ) → a.node ≡ n → Has (steps_from (ident_of base) (kept n ++ live n)) (step j a.op)
      mine n z =
          let first : in_log n j (a ∷ h) ≡ step j a.op ∷ in_log n (suc j) h = rw (eq-eqb a.node n z) refl in
          has-steps_from (ident_of base) (kept n ++ live n) (step j a.op) (omega arith) (steps_from-has j (kept n ++ live n) (step j a.op) (subst (λ l. Has l (step j a.op)) (sym (rest n ∙ first)) (inl refl)))

      only : (t : Step) (l : InLogs kept live t) → t.bsi ≡ j → (t ≡ step j a.op) × (l.node ≡ a.node)
      only t l q =
          let has = subst (λ k. Has k t) (rest l.node) (has-steps_from j (kept l.node ++ live l.node) t (omega arith) l.stands) in
          let z = first_one l.node j a h t has q in
          (ap₂ step q z.0, z.1)

  find : (h front : List NodeChange) (j : ℕ) → changes ≡ front ++ h → ident_of base + length front ≤ j → j < ident_of base + length front + length h → One j
  find [] front j e low high = absurd (omega arith)
  find (a ∷ h) front j e low high = go (cases_eq j (ident_of base + length front)) (find h (front ++ a ∷ []) j (e ∙ sym (append_assoc front (a ∷ []) h)))
    where
      go : (j ≡ ident_of base + length front) ⊎ (j ≢ ident_of base + length front) → (ident_of base + length (front ++ a ∷ []) ≤ j → j < ident_of base + length (front ++ a ∷ []) + length h → One j) → One j
      go (inl z) rest = at_front front h a j e z
      go (inr d) rest = let l = length-append front (a ∷ []) in rest (omega arith) (omega arith)

pub chain_is_linked : ChainIsLinked
chain_is_linked base disk image kept live (n, c) =
    let d = ident-disk base disk image kept live n c in
    let f = ident-image base disk image kept live n c in
    let l = length-append c.old (all_by n c.new) in
    let m = length-all_by n c.new in (
      λ j low high. find base kept live (c.old ++ all_by n c.new) c.linked (c.old ++ all_by n c.new) [] j refl (omega arith) (omega arith),
      λ s k low. below s k (cases_lt s.bsi (ident_of image)),
      λ k. subst Rises (sym (c.linked k)) (in_log-rises k (ident_of base) (c.old ++ all_by n c.new)),
    )
  where
    below : (s : Step) → InLogs kept live s → (s.bsi < ident_of image) ⊎ (ident_of image ≤ s.bsi) → s.bsi < ident_of image
    below s k (inl h) = h
    below s k (inr h) =
        let has = has-steps_from (ident_of image) (kept k.node ++ live k.node) s h k.stands in
        let none : Has [] s = subst (λ l. Has l s) (past_image base disk image kept live n c (ident_of image) (omega arith) k.node) has in
        absurd none
