-- The counts of redo.
use Rattle.std.proofs.Common.{ℕ, ◌+◌, ◌≤◌, Bool, true, false, cond, [], ◌∷◌, arith}
use Rattle.sd_base.specs.declared.shape.Shape.{Shape}
use Rattle.recovery_theory.specs.Redo.{applied_by_effect, skipped_by_effect, is_applied, redo_effect, RedoCounts}
use Rattle.recovery_theory.specs.Effect.{effect_of, Effect}
use Rattle.recovery_theory.specs.Redo.{applied_by_effect, skipped_by_effect, is_applied, redo_effect, RedoCounts}
use Rattle.recovery_theory.specs.Effect.Effect.{Begun, Updated, Ended, Compensated, Mapped}
use Rattle.recovery_theory.specs.Redo.{redo_effect}
use Rattle.space_map.specs.PageImage.{PageImage}

-- one record is counted once at most
one_each : (shape : Shape) (e : Effect) (images : ℕ → PageImage) → applied_by_effect shape e images + skipped_by_effect shape e images ≤ 1
one_each shape Begun images = omega arith
one_each shape (Updated t page bsi op back) images = go (is_applied shape page bsi images)
  where
    go : (b : Bool) → cond b 1 0 + cond b 0 1 ≤ 1
    go true = omega arith
    go false = omega arith
one_each shape (Ended t) images = omega arith
one_each shape (Compensated t next page bsi op) images = go (is_applied shape page bsi images)
  where
    go : (b : Bool) → cond b 1 0 + cond b 0 1 ≤ 1
    go true = omega arith
    go false = omega arith
one_each shape (Mapped page bsi op) images = go (is_applied shape page bsi images)
  where
    go : (b : Bool) → cond b 1 0 + cond b 0 1 ≤ 1
    go true = omega arith
    go false = omega arith

pub counts : RedoCounts
counts shape [] images = omega arith
counts shape (rec ∷ l) images =
    let one = one_each shape (effect_of rec) images in
    let rest = counts shape l (redo_effect shape (effect_of rec) images) in
    omega arith
