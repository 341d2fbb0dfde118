-- Redo over one log.
use Rattle.std.proofs.Common.{◌≡◌, ℕ, suc, ◌<◌, ◌≤◌, Bool, true, false, cond, eqb, leb, List, [], ◌∷◌, refl, ap, sym, ◌∙◌, arith, eq-eqb, ne_eqb, leb-true, leb-false}
use Rattle.recovery_theory.specs.Chain.{steps_from, in_log, all_by, replay, redo_page, ChainRedoes}
use Rattle.recovery_theory.specs.Effect.{Step}
use Rattle.sd_base.specs.declared.page_op.PageOp.{PageOp}
use Rattle.recovery_theory.proofs.StepLists.{steps_from-steps_from, steps_from-over, steps_from-under, in_log-first, steps_from-in_log_all}
use Rattle.recovery_theory.proofs.ChainLaws.{live-new, by_owner}
use Rattle.space_map.specs.PageImage.{PageImage, changed, ident_of}
use Rattle.space_map.proofs.PageImageLaws.{changed-ident}

-- a log that has exactly these operations from the image's identifier on makes them
pub redo_page-new : (n : ℕ) (l : List Step) (ops : List PageOp) (i : PageImage) → steps_from (ident_of i) l ≡ in_log n (ident_of i) (all_by n ops) → redo_page l i ≡ replay (all_by n ops) i
redo_page-new n [] [] i e = refl
redo_page-new n [] (op ∷ ops) i e = let f = in_log-first n (ident_of i) op ops in absurd cc
redo_page-new n (s ∷ l) ops i e = go (leb (ident_of i) s.bsi) refl (redo_page-new n l)
  where
    taken : (ops : List PageOp) → ident_of i ≤ s.bsi → s ∷ steps_from (ident_of i) l ≡ in_log n (ident_of i) (all_by n ops)
        → ((ops : List PageOp) (i : PageImage) → steps_from (ident_of i) l ≡ in_log n (ident_of i) (all_by n ops) → redo_page l i ≡ replay (all_by n ops) i)
        → redo_page l (cond (eqb s.bsi (ident_of i)) (changed s.op i) i) ≡ replay (all_by n ops) i
    taken [] le e' rest = absurd cc
    taken (op ∷ ops') le e' rest =
        let first = in_log-first n (ident_of i) op ops' in
        let head : s ≡ record { bsi = ident_of i; op = op } = cc in
        let tail : steps_from (ident_of i) l ≡ in_log n (suc (ident_of i)) (all_by n ops') = cc in
        let number : s.bsi ≡ ident_of i = ap (λ (k : Step). k.bsi) head in
        let up : ident_of (changed op i) ≡ suc (ident_of i) = omega (arith, changed-ident op i) in
        let left_by : steps_from (suc (ident_of i)) l ≡ in_log n (suc (ident_of i)) (all_by n ops') =
        sym (steps_from-steps_from (ident_of i) (suc (ident_of i)) (omega arith) l) ∙ (ap (steps_from (suc (ident_of i))) tail ∙ steps_from-in_log_all n (suc (ident_of i)) (suc (ident_of i)) (all_by n ops') (omega arith)) in
        let leaves' : steps_from (ident_of (changed op i)) l ≡ in_log n (ident_of (changed op i)) (all_by n ops') = rw up left_by in
        let same : changed s.op i ≡ changed op i = ap (λ (k : Step). changed k.op i) head in
        rw (eq-eqb s.bsi (ident_of i) number, same) (rest ops' (changed op i) leaves')

    go : (t : Bool) → leb (ident_of i) s.bsi ≡ t
        → ((ops : List PageOp) (i : PageImage) → steps_from (ident_of i) l ≡ in_log n (ident_of i) (all_by n ops) → redo_page l i ≡ replay (all_by n ops) i)
        → redo_page l (cond (eqb s.bsi (ident_of i)) (changed s.op i) i) ≡ replay (all_by n ops) i
    go true h rest =
        let le : ident_of i ≤ s.bsi = leb-true (ident_of i) s.bsi h in
        taken ops le (sym (steps_from-over (ident_of i) s l le) ∙ e) rest
    go false h rest =
        let lt : s.bsi < ident_of i = leb-false (ident_of i) s.bsi h in
        rw (ne_eqb s.bsi (ident_of i) (λ k. absurd (omega arith))) (rest ops i (sym (steps_from-under (ident_of i) s l lt) ∙ e))

pub redoes : ChainRedoes
redoes base disk image kept live n c quiet =
    let d = by_owner base disk image kept live n c quiet in
    redo_page-new n (live n) d.new disk (live-new base disk image kept live n n d) ∙ sym d.whole
