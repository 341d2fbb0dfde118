-- A node gives a page away: whatever it may still lose, it isn't a change of that page.
use Rattle.std.proofs.Common.{◌≡◌, ◌≢◌, ◌⊎◌, inl, inr, ◌+◌, ◌-◌, ◌≤◌, ℕ, zero, suc, Bool, true, false, List, [], ◌∷◌, length, drop, refl, ap, subst, sym, ◌∙◌, arith, length-drop, drop-drop}
use Rattle.std.specs.List.{list_any}
use Rattle.std.proofs.lemmas.Bool.{cases_eq}
use Rattle.recovery_theory.specs.History.{History}
use Rattle.recovery_theory.specs.Steps.{IsPlaceToCut}
use Rattle.record_machine.specs.Cuts.{MayStop, behind_cut, touches}
use Rattle.record_machine.specs.Machine.{Idle, LooseChange, Machine, put}
use Rattle.record_machine.specs.Parts.{behind_page, is_of_page}
use Rattle.record_machine.proofs.Put.{at_or_off}
use Rattle.record_machine.proofs.TakenBack.{untouched}

-- the changes behind the last one of a page: no more of them are dropped than there are up to there
record Behind (x : ℕ) (cs : List LooseChange) : Type 0 where
  count : ℕ
  is : behind_page x cs ≡ drop count cs
  within : count ≤ length cs
  least : (i : ℕ) → list_any (is_of_page x) (drop i cs) ≡ false → count ≤ i

behind_is : (x : ℕ) (cs : List LooseChange) → Behind x cs
behind_is x [] = record { count = 0; is = refl; within = omega arith; least = λ i e. omega arith }
behind_is x (c ∷ cs) = go (list_any (is_of_page x) (c ∷ cs)) refl (behind_is x cs)
  where
    go : (b : Bool) → list_any (is_of_page x) (c ∷ cs) ≡ b → Behind x cs → Behind x (c ∷ cs)
    go true e z = record { count = suc z.count; is = rw e z.is; within = (let w = z.within in omega (arith, w)); least = least }
      where
        least : (i : ℕ) → list_any (is_of_page x) (drop i (c ∷ cs)) ≡ false → suc z.count ≤ i
        least zero off = let never : true ≡ false = sym e ∙ off in absurd cc
        least (suc i) off = let l = z.least i off in omega (arith, l)
    go false e z = record { count = 0; is = rw e refl; within = omega arith; least = λ i off. omega arith }

-- the loose changes of a node are as they were, or those behind the last one of the page
abbrev pub IsFew : (m : Machine) (x j : ℕ) → List LooseChange → Type 0
IsFew m x j cs = (cs ≡ m.loose j) ⊎ (cs ≡ behind_page x (m.loose j))

-- so it is where one node has only those left
pub few_of_one : (m : Machine) (x o j : ℕ) → IsFew m x j (put o (behind_page x (m.loose o)) m.loose j)
few_of_one m x o j = at_or_off (IsFew m x j) o (behind_page x (m.loose o)) m.loose j (λ at. inr (ap (λ i. behind_page x (m.loose i)) (sym at))) (λ off. inl refl)

module _ (h : History) (m : Machine) (begun : ℕ → ℕ → ℕ) (x : ℕ) (stops : MayStop h m begun) (sure : h.last x ≤ h.stable (h.guard x)) where
  -- no change of the page is behind a cut
  pub off_page : (j k : ℕ) → IsPlaceToCut h j k → list_any (touches x) (behind_cut h m j k) ≡ false
  off_page j k at = (stops.back j k at).others x (go (cases_eq (h.guard x) j))
    where
      go : (h.guard x ≡ j) ⊎ (h.guard x ≢ j) → (h.guard x ≢ j) ⊎ (h.last x ≤ k)
      go (inl g) = inr (let low = at.low in let sure' : h.last x ≤ h.stable j = subst (λ i. h.last x ≤ h.stable i) g sure in omega (arith, low, sure'))
      go (inr d) = inl d

  -- so the changes behind a cut stay, and there are enough of them
  pub same_behind : (j k : ℕ) (cs : List LooseChange) → IsPlaceToCut h j k → IsFew m x j cs → (drop (length cs - (length (h.live j) - k)) cs ≡ behind_cut h m j k) × (length (h.live j) ≤ k + length cs)
  same_behind j k cs at (inl e) = (
    ap (λ (l : List LooseChange). drop (length l - (length (h.live j) - k)) l) e,
    (let long = ap (λ (l : List LooseChange). length l) e in let old = stops.enough j in let low = at.low in omega (arith, long, old, low)),
  )
  same_behind j k cs at (inr e) =
      let least = z.least (length (m.loose j) - (length (h.live j) - k)) (untouched x (behind_cut h m j k) (off_page j k at)) in
      let old = stops.enough j in
      let low = at.low in
      let some = z.within in
      let is : cs ≡ drop z.count (m.loose j) = e ∙ z.is in
      let long : length cs ≡ length (m.loose j) - z.count = ap (λ (l : List LooseChange). length l) is ∙ length-drop z.count (m.loose j) in (
        ap (λ (l : List LooseChange). drop (length l - (length (h.live j) - k)) l) is
            ∙ (drop-drop (length (drop z.count (m.loose j)) - (length (h.live j) - k)) z.count (m.loose j)
            ∙ ap (λ i. drop i (m.loose j)) (omega (arith, length-drop z.count (m.loose j), least, old, low, some))),
        omega (arith, long, least, old, low, some),
      )
    where
      z : Behind x (m.loose j)
      z = behind_is x (m.loose j)

  -- a node that isn't in use has nothing loose still
  pub few_resting : (j : ℕ) (cs : List LooseChange) → m.mode j ≡ Idle → IsFew m x j cs → cs ≡ []
  few_resting j cs rest (inl e) = e ∙ stops.resting j rest
  few_resting j cs rest (inr e) = e ∙ ap (behind_page x) (stops.resting j rest)
