-- Histories, and what they put into the logs.
use Rattle.std.proofs.Common.{◌≡◌, ◌≢◌, ℕ, suc, ◌+◌, ◌<◌, ◌≤◌, Bool, true, false, cond, eqb, leb, List, [], ◌∷◌, ◌++◌, length, refl, ap, sym, ◌⊎◌, inl, inr, ◌∙◌, arith, le-leb, eq-eqb, ne_eqb, leb-false}
use Rattle.std.proofs.lemmas.Bool.{lt-leb, cases_lt}
use Rattle.recovery_theory.specs.Chain.{Rises, steps_from, steps_to, NodeChange, in_log, all_by, replay}
use Rattle.recovery_theory.specs.Effect.{Step}
use Rattle.sd_base.specs.declared.page_op.PageOp.{PageOp}
use Rattle.space_map.specs.PageImage.{PageImage, changed, ident_of}
use Rattle.space_map.proofs.PageImageLaws.{changed-ident}

-- the steps from an identifier on, of two lists and of one step more
pub steps_from-append : (b : ℕ) (l k : List Step) → steps_from b (l ++ k) ≡ steps_from b l ++ steps_from b k
steps_from-append b [] k = refl
steps_from-append b (s ∷ l) k = rw (steps_from-append b l k) (elim (leb b s.bsi) as (λ t. cond t (s ∷ (steps_from b l ++ steps_from b k)) (steps_from b l ++ steps_from b k) ≡ cond t (s ∷ steps_from b l) (steps_from b l) ++ steps_from b k) [ true ↦ refl | false ↦ refl ])

pub steps_from-over : (i : ℕ) (s : Step) (l : List Step) → i ≤ s.bsi → steps_from i (s ∷ l) ≡ s ∷ steps_from i l
steps_from-over i s l h = rw (le-leb i s.bsi h) refl

pub steps_from-under : (i : ℕ) (s : Step) (l : List Step) → s.bsi < i → steps_from i (s ∷ l) ≡ steps_from i l
steps_from-under i s l h = rw (lt-leb i s.bsi h) refl

-- from a greater identifier on of those from one on
pub steps_from-steps_from : (b i : ℕ) → b ≤ i → (l : List Step) → steps_from i (steps_from b l) ≡ steps_from i l
steps_from-steps_from b i h [] = refl
steps_from-steps_from b i h (s ∷ l) = go (leb b s.bsi) refl (steps_from-steps_from b i h l)
  where
    go : (t : Bool) → leb b s.bsi ≡ t → steps_from i (steps_from b l) ≡ steps_from i l → steps_from i (cond t (s ∷ steps_from b l) (steps_from b l)) ≡ steps_from i (s ∷ l)
    go true e f = rw f refl
    go false e f = f ∙ sym (steps_from-under i s l (omega (arith, leb-false b s.bsi e)))

-- what a history in two parts puts into a log, and makes of a page
pub in_log-append : (n b : ℕ) (h g : List NodeChange) → in_log n b (h ++ g) ≡ in_log n b h ++ in_log n (b + length h) g
in_log-append n b [] g = grind arith
in_log-append n b (a ∷ h) g = grind (arith, in_log-append n (suc b) h g)

pub all_by-append : (n : ℕ) (l : List PageOp) (op : PageOp) → all_by n (l ++ op ∷ []) ≡ all_by n l ++ record { node = n; op = op } ∷ []
all_by-append n [] op = refl
all_by-append n (o ∷ l) op = grind (arith, all_by-append n l op)

pub replay-append : (h g : List NodeChange) (i : PageImage) → replay (h ++ g) i ≡ replay g (replay h i)
replay-append [] g i = refl
replay-append (a ∷ h) g i = replay-append h g (changed a.op i)

-- a history raises the identifier by its length
pub ident-replay : (h : List NodeChange) (i : PageImage) → ident_of (replay h i) ≡ ident_of i + length h
ident-replay [] i = omega arith
ident-replay (a ∷ h) i = omega (arith, ident-replay h (changed a.op i), changed-ident a.op i)

-- changes of one node are as many
pub length-all_by : (n : ℕ) (l : List PageOp) → length (all_by n l) ≡ length l
length-all_by n [] = refl
length-all_by n (op ∷ l) = ap suc (length-all_by n l)

-- the log of another node has nothing of them
pub in_log-others : (m n b : ℕ) (l : List PageOp) → m ≢ n → in_log m b (all_by n l) ≡ []
in_log-others m n b [] d = refl
in_log-others m n b (op ∷ l) d = rw (ne_eqb n m (λ e. d (sym e))) (in_log-others m n (suc b) l d)

-- the first change of a node's own
pub in_log-first : (n b : ℕ) (op : PageOp) (l : List PageOp) → in_log n b (all_by n (op ∷ l)) ≡ record { bsi = b; op = op } ∷ in_log n (suc b) (all_by n l)
in_log-first n b op l = rw (eq-eqb n n refl) refl

-- what stands below i is left out from i on
pub steps_from-in_log_past : (n b i : ℕ) (h : List NodeChange) → b + length h ≤ i → steps_from i (in_log n b h) ≡ []
steps_from-in_log_past n b i [] le = refl
steps_from-in_log_past n b i (a ∷ h) le = go (eqb a.node n) (steps_from-in_log_past n (suc b) i h (omega arith))
  where
    go : (t : Bool) → steps_from i (in_log n (suc b) h) ≡ [] → steps_from i (cond t (record { bsi = b; op = a.op } ∷ in_log n (suc b) h) (in_log n (suc b) h)) ≡ []
    go true f = steps_from-under i (record { bsi = b; op = a.op }) (in_log n (suc b) h) (omega arith) ∙ f
    go false f = f

-- what stands from i on isn't left out
pub steps_from-in_log_all : (n b i : ℕ) (h : List NodeChange) → i ≤ b → steps_from i (in_log n b h) ≡ in_log n b h
steps_from-in_log_all n b i [] le = refl
steps_from-in_log_all n b i (a ∷ h) le = go (eqb a.node n) (steps_from-in_log_all n (suc b) i h (omega arith))
  where
    go : (t : Bool) → steps_from i (in_log n (suc b) h) ≡ in_log n (suc b) h
        → steps_from i (cond t (record { bsi = b; op = a.op } ∷ in_log n (suc b) h) (in_log n (suc b) h)) ≡ cond t (record { bsi = b; op = a.op } ∷ in_log n (suc b) h) (in_log n (suc b) h)
    go true f = steps_from-over i (record { bsi = b; op = a.op }) (in_log n (suc b) h) le ∙ ap (λ l. record { bsi = b; op = a.op } ∷ l) f
    go false f = f

-- from the identifier after `old` on, a history leaves what follows `old`
pub steps_from-in_log : (n b i : ℕ) (old new : List NodeChange) → i ≡ b + length old → steps_from i (in_log n b (old ++ new)) ≡ in_log n i new
steps_from-in_log n b i old new e =
    let split = in_log-append n b old new in
    let parts = steps_from-append i (in_log n b old) (in_log n (b + length old) new) in
    let beyond = steps_from-in_log_past n b i old (omega arith) in
    let all = steps_from-in_log_all n (b + length old) i new (omega arith) in
    cc

-- the steps to an identifier, of two lists
pub steps_to-append : (b : ℕ) (l k : List Step) → steps_to b (l ++ k) ≡ steps_to b l ++ steps_to b k
steps_to-append b [] k = refl
steps_to-append b (s ∷ l) k = rw (steps_to-append b l k) (elim (eqb (suc s.bsi) b) as (λ t. cond t (s ∷ (steps_to b l ++ steps_to b k)) (steps_to b l ++ steps_to b k) ≡ cond t (s ∷ steps_to b l) (steps_to b l) ++ steps_to b k) [ true ↦ refl | false ↦ refl ])

-- no step leads behind an identifier from which there is none
pub steps_to-beyond : (i : ℕ) (l : List Step) → steps_from i l ≡ [] → steps_to (suc i) l ≡ []
steps_to-beyond i [] e = refl
steps_to-beyond i (s ∷ l) e = go (leb i s.bsi) refl e (steps_to-beyond i l)
  where
    go : (t : Bool) → leb i s.bsi ≡ t → cond t (s ∷ steps_from i l) (steps_from i l) ≡ [] → (steps_from i l ≡ [] → steps_to (suc i) l ≡ []) → steps_to (suc i) (s ∷ l) ≡ []
    go true h z rest = absurd cc
    go false h z rest = let lt = leb-false i s.bsi h in rw (ne_eqb (suc s.bsi) (suc i) (λ q. absurd (omega arith))) (rest z)

-- the parts of nothing are nothing
pub append_nil_parts : {A : Type 0} (l k : List A) → l ++ k ≡ [] → (l ≡ []) × (k ≡ [])
append_nil_parts [] k e = (refl, e)
append_nil_parts (a ∷ l) k e = absurd cc

-- where two lists have no step from an identifier on, or to it, neither has
pub steps_from-parts : (b : ℕ) (l k : List Step) → steps_from b (l ++ k) ≡ [] → (steps_from b l ≡ []) × (steps_from b k ≡ [])
steps_from-parts b l k none = append_nil_parts (steps_from b l) (steps_from b k) (sym (steps_from-append b l k) ∙ none)

pub steps_to-parts : (b : ℕ) (l k : List Step) → steps_to b (l ++ k) ≡ [] → (steps_to b l ≡ []) × (steps_to b k ≡ [])
steps_to-parts b l k none = append_nil_parts (steps_to b l) (steps_to b k) (sym (steps_to-append b l k) ∙ none)

-- a step that isn't from there on is below
pub steps_from-nil_head : (i : ℕ) (s : Step) (l : List Step) → steps_from i (s ∷ l) ≡ [] → s.bsi < i
steps_from-nil_head i s l e = go (cases_lt s.bsi i)
  where
    go : (s.bsi < i) ⊎ (i ≤ s.bsi) → s.bsi < i
    go (inl h) = h
    go (inr h) = let o = steps_from-over i s l h in absurd cc

pub steps_from-nil_tail : (i : ℕ) (s : Step) (l : List Step) → steps_from i (s ∷ l) ≡ [] → steps_from i l ≡ []
steps_from-nil_tail i s l e = sym (steps_from-under i s l (steps_from-nil_head i s l e)) ∙ e

-- steps rise with one more above them, and so their end
pub Rises-push : (l : List Step) (s : Step) → steps_from s.bsi l ≡ [] → Rises l → Rises (l ++ s ∷ [])
Rises-push [] s e r = tt
Rises-push (a ∷ []) s e r = (steps_from-nil_head s.bsi a [] e, tt)
Rises-push (a ∷ b ∷ l) s e r = (r.0, Rises-push (b ∷ l) s (steps_from-nil_tail s.bsi a (b ∷ l) e) r.1)

pub Rises-back : (l k : List Step) → Rises (l ++ k) → Rises k
Rises-back [] k r = r
Rises-back (a ∷ []) [] r = tt
Rises-back (a ∷ []) (b ∷ k) r = r.1
Rises-back (a ∷ b ∷ l) k r = Rises-back (b ∷ l) k r.1
