-- The pages of a history and of the present after a change of one data page.
use Rattle.std.proofs.Common.{◌≡◌, ◌≢◌, ◌⊎◌, inl, inr, ◌+◌, ◌<◌, ◌≤◌, ℕ, suc, Bool, true, false, List, [], length, ap, sym, subst, ◌∙◌, arith, eq-eqb, ne_eqb}
use Rattle.std.proofs.lemmas.Bool.{cases_eq}
use Rattle.sd_base.specs.declared.page_op.PageOp.{PageOp}
use Rattle.page_image.specs.declared.page_view.PageView.{PageView}
use Rattle.page_image.specs.Change.{applied}
use Rattle.log_record.specs.declared.record.LogRecord.{LogRecord}
use Rattle.sd_base.specs.Shape.{page_count}
use Rattle.record_machine.specs.Machine as machine
use Rattle.record_machine.specs.Machine.{Machine}
use Rattle.record_machine.specs.Meaning.{Plain}
use Rattle.space_map.specs.PageImage.{data_page}
use Rattle.space_map.specs.PageImage.{changed, ident_of}
use Rattle.recovery_theory.specs.Effect.{step_on}
use Rattle.recovery_theory.specs.History.{History, entry_now, image_now}
use Rattle.recovery_theory.specs.Steps.{changed_page, set_at, with_record}
use Rattle.recovery_theory.specs.Headroom.{IsRising}
use Rattle.recovery_theory.proofs.SlotChanges.{StepIs}
use Rattle.recovery_theory.proofs.Cuts.{with_last_cut-end, with_last_cut-off, set_at-other, set_at-same, with_record-other}
use Rattle.space_map.proofs.PageImageLaws.{changed-ident}
use Rattle.recovery_theory.proofs.Headroom.{logged_keeps_rising}
use Rattle.record_machine.specs.Recoverable.{IsStored, Recoverable}

-- a changed data page
pub apply_data : (op : PageOp) (u v : PageView) → v ≡ applied op u → changed op (data_page u) ≡ data_page v
apply_data op u v e = ap data_page (sym e)

module _ (dirty : ℕ → Bool) (h : History) (p : Plain) (m : Machine) (n x : ℕ) (rec : LogRecord) (op : PageOp) (v : PageView) (r : Recoverable dirty h p m)
    (guarded : h.guard x ≡ n) (is_data : (m.shape.maps ≤ x) × (x < page_count m.shape)) (step : StepIs rec x (ident_of (image_now h x)) op)
    (new : v ≡ applied op (p.pages x)) (rises : v.ident ≡ (p.pages x).ident + 1) where
  abbrev h' : History
  h' = changed_page h n rec x op

  image : image_now h x ≡ data_page (p.pages x)
  image = r.pages x is_data.0 is_data.1

  pub image_same : (y : ℕ) → y ≢ x → image_now h' y ≡ image_now h y
  image_same y ne = go (cases_eq (h.guard y) n)
    where
      go : (h.guard y ≡ n) ⊎ (h.guard y ≢ n) → image_now h' y ≡ image_now h y
      go (inl g) = with_last_cut-end h n rec h.image (set_at x (changed op (image_now h x)) (image_now h)) y g ∙ set_at-other x (changed op (image_now h x)) (image_now h) y ne
      go (inr g) = with_last_cut-off h n h.image (set_at x (changed op (image_now h x)) (image_now h)) y (length (with_record n rec h.live (h.guard y))) g
          ∙ ap (h.image y) (ap (λ (l : List LogRecord). length l) (with_record-other n rec h.live (h.guard y) g))

  image_here : image_now h' x ≡ data_page v
  image_here = with_last_cut-end h n rec h.image (set_at x (changed op (image_now h x)) (image_now h)) x guarded
      ∙ (set_at-same x (changed op (image_now h x)) (image_now h) ∙ (ap (changed op) image ∙ apply_data op (p.pages x) v new))

  pub entry_same : (y : ℕ) → entry_now h' y ≡ entry_now h y
  entry_same y = go (cases_eq (h.guard y) n)
    where
      go : (h.guard y ≡ n) ⊎ (h.guard y ≢ n) → entry_now h' y ≡ entry_now h y
      go (inl g) = with_last_cut-end h n rec h.entry (entry_now h) y g
      go (inr g) = with_last_cut-off h n h.entry (entry_now h) y (length (with_record n rec h.live (h.guard y))) g
          ∙ ap (h.entry y) (ap (λ (l : List LogRecord). length l) (with_record-other n rec h.live (h.guard y) g))

  pub pages_now : (y : ℕ) → m.shape.maps ≤ y → y < page_count m.shape → image_now h' y ≡ data_page (machine.put x v p.pages y)
  pages_now y low high = go (cases_eq y x)
    where
      go : (y ≡ x) ⊎ (y ≢ x) → image_now h' y ≡ data_page (machine.put x v p.pages y)
      go (inl e) = subst (λ z. image_now h' z ≡ data_page (machine.put x v p.pages z)) (sym e) (image_here ∙ ap data_page (sym (set_at-same x v p.pages)))
      go (inr ne) = image_same y ne ∙ (r.pages y low high ∙ ap data_page (sym (set_at-other x v p.pages y ne)))

  pub stored_now : (y : ℕ) → machine.put x true dirty y ≡ false → IsStored h' y
  stored_now y e = go (cases_eq y x)
    where
      go : (y ≡ x) ⊎ (y ≢ x) → IsStored h' y
      go (inl z) = let never : true ≡ false = rw (eq-eqb y x z) at e in absurd cc
      go (inr ne) =
          let s = r.stored y (rw (ne_eqb y x ne) at e) in
          record { sure = rw (ne_eqb y x ne) s.sure; clean = rw (image_same y ne, entry_same y) s.clean }

  pub rolled_now : IsRising h'
  rolled_now = logged_keeps_rising h n rec (entry_now h) (set_at x (changed op (image_now h x)) (image_now h)) (set_at x (suc (length (h.live n))) h.last) r.holds.history r.rolled
      (λ y. guards y (cases_eq y x)) (λ y g. rising y (cases_eq y x))
    where
      guards : (y : ℕ) → (y ≡ x) ⊎ (y ≢ x) → (step_on y rec ≡ []) ⊎ (h.guard y ≡ n)
      guards y (inl e) = inr (ap h.guard e ∙ guarded)
      guards y (inr ne) = inl (step.there y ne)

      rising : (y : ℕ) → (y ≡ x) ⊎ (y ≢ x) → ident_of (image_now h y) + length (step_on y rec) ≤ ident_of (set_at x (changed op (image_now h x)) (image_now h) y)
      rising y (inl e) = rw (e, set_at-same x (changed op (image_now h x)) (image_now h), step.here) (omega (arith, changed-ident op (image_now h x)))
      rising y (inr ne) = rw (set_at-other x (changed op (image_now h x)) (image_now h) y ne, step.there y ne) (omega arith)
