-- Redo of a record is that of the change that the record says, and changes the image of its page alone.
use Rattle.std.specs.Prelude.{ℕ, true, false, ◌≡◌, ◌≢◌, ◌<◌, ◌≤◌, cond, List, Option, Some, None}
use Rattle.sd_base.specs.Shape.{page_count}
use Rattle.sd_base.specs.declared.names.PageNo.{PageNo}
use Rattle.sd_base.specs.declared.page_op.PageOp.{PageOp}
use Rattle.sd_base.specs.declared.shape.Shape.{Shape}
use Rattle.log_record.specs.declared.record.LogRecord.{LogRecord}
use Rattle.log_record.specs.Record.{page_op_of}
use Rattle.state_ids.specs.PageImage.{PageImage, IsInRange, is_map_op}
use Rattle.recovery_theory.specs.Effect.{Step, effect_of}
use Rattle.recovery_theory.specs.Redo.{applied_by_effect, is_applied, redo_effect, redo_step, skipped_by_effect}
use Rattle.one_log_redo.specs.Records.{IsRecordOf}

-- the images behind redo of the change that a record says
abbrev pub step_in : Shape → Option (PageNo × ℕ × PageOp) → (ℕ → PageImage) → ℕ → PageImage
step_in shape None images = images
step_in shape (Some (page, bsi, op)) images = redo_step shape page.0 (record { bsi = bsi; op = op }) images

-- how many changes of it are made
abbrev pub applied_in : Shape → Option (PageNo × ℕ × PageOp) → (ℕ → PageImage) → ℕ
applied_in shape None images = 0
applied_in shape (Some (page, bsi, op)) images = cond (is_applied shape page.0 bsi images) 1 0

-- and how many are passed over
abbrev pub skipped_in : Shape → Option (PageNo × ℕ × PageOp) → (ℕ → PageImage) → ℕ
skipped_in shape None images = 0
skipped_in shape (Some (page, bsi, op)) images = cond (is_applied shape page.0 bsi images) 0 1

-- the images behind redo of a record
abbrev pub RecordIsStep : Type 0
RecordIsStep = (shape : Shape) (rec : LogRecord) (images : ℕ → PageImage) → redo_effect shape (effect_of rec) images ≡ step_in shape (page_op_of rec) images

-- its counts
abbrev pub RecordIsCounted : Type 0
RecordIsCounted = (shape : Shape) (rec : LogRecord) (images : ℕ → PageImage)
    → (applied_by_effect shape (effect_of rec) images ≡ applied_in shape (page_op_of rec) images) × (skipped_by_effect shape (effect_of rec) images ≡ skipped_in shape (page_op_of rec) images)

-- redo of a change leaves every other page
abbrev pub StepKeepsOthers : Type 0
StepKeepsOthers = (shape : Shape) (x y : ℕ) (s : Step) (images : ℕ → PageImage) → y ≢ x → redo_step shape x s images y ≡ images y

-- a change that can be made of a page of the store: of an entry of a map page, or of a slot of a data page
pub record IsChangeOf (s : Shape) (x : ℕ) (bsi : ℕ) (op : PageOp) : Type 0 where
  pub range : IsInRange bsi op
  pub map : is_map_op op ≡ true → x < s.maps
  pub slot : is_map_op op ≡ false → (s.maps ≤ x) × (x < page_count s)

-- a record that redo takes says such a change
abbrev pub RecordSaysChange : Type 0
RecordSaysChange = (s : Shape) (text : List ℕ) (rec : LogRecord) (page : PageNo) (bsi : ℕ) (op : PageOp) → IsRecordOf s text rec → page_op_of rec ≡ Some (page, bsi, op) → IsChangeOf s page.0 bsi op
