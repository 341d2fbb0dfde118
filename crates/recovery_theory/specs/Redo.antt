-- Redo of one log over the images of all pages, whole or broken off.
use Rattle.std.specs.Prelude.{ℕ, Bool, length, ◌≤◌, ◌≡◌, ◌≢◌, ◌<◌, ◌+◌, cond, eqb, ltb, List, [], ◌∷◌, ◌++◌, ◌⊎◌, Option, Some}
use Rattle.sd_base.specs.Places.{map_of_data, place_of_page}
use Rattle.sd_base.specs.Shape.{page_count}
use Rattle.sd_base.specs.declared.shape.Shape.{Shape}
use Rattle.space_map.specs.declared.map_entry.MapEntry.{MapEntry}
use Rattle.log_record.specs.declared.record.LogRecord.{LogRecord}
use Rattle.recovery_theory.specs.Pages.{SlotValue, birth_of, entries_of, in_life_from, page_named}
use Rattle.recovery_theory.specs.Effect.{Effect, Transaction, Step, effect_of, steps_on}
use Rattle.recovery_theory.specs.Effect.Effect.{Begun, Updated, Ended, Compensated, Mapped}
use Rattle.recovery_theory.specs.Chain.{redo_page}
use Rattle.recovery_theory.specs.Standing.{Devices, IsStanding}
use Rattle.recovery_theory.specs.History.{History, IsHistory, IsCut, entry_at, logs_at}
use Rattle.recovery_theory.specs.Steps.{set_at, with_devices}
use Rattle.space_map.specs.PageImage.{PageImage, changed, ident_of}

-- the identifier with which the life of page x began, by the map pages among these images
abbrev pub birth_in : Shape → (ℕ → PageImage) → ℕ → ℕ
birth_in shape images x = cond (ltb x shape.maps) 0 (birth_of (entries_of (images (map_of_data shape (page_named x)).0) (place_of_page shape (page_named x))))

-- the page x that these images stand for
abbrev pub page_in : Shape → (ℕ → PageImage) → ℕ → PageImage
page_in shape images x = in_life_from x (birth_in shape images x) (images x)

-- a step is made where its identifier is the page's
abbrev pub redo_step : Shape → ℕ → Step → (ℕ → PageImage) → ℕ → PageImage
redo_step shape x s images = cond (eqb s.bsi (ident_of (page_in shape images x))) (set_at x (changed s.op (page_in shape images x)) images) images

-- the effect of a record is redone
abbrev pub redo_effect : Shape → Effect → (ℕ → PageImage) → ℕ → PageImage
redo_effect shape Begun images = images
redo_effect shape (Updated txn page bsi op back) images = redo_step shape page (record { bsi = bsi; op = op }) images
redo_effect shape (Ended txn) images = images
redo_effect shape (Compensated txn next page bsi op) images = redo_step shape page (record { bsi = bsi; op = op }) images
redo_effect shape (Mapped page bsi op) images = redo_step shape page (record { bsi = bsi; op = op }) images

-- the redo fold over a log
abbrev pub redo : Shape → List LogRecord → (ℕ → PageImage) → ℕ → PageImage
redo shape [] images = images
redo shape (rec ∷ l) images = redo shape l (redo_effect shape (effect_of rec) images)

-- ---- how many steps are made, and how many are passed over since the page doesn't have their identifier

-- a step with this identifier is made
abbrev pub is_applied : Shape → ℕ → ℕ → (ℕ → PageImage) → Bool
is_applied shape x bsi images = eqb bsi (ident_of (page_in shape images x))

-- of one record, made
abbrev pub applied_by_effect : Shape → Effect → (ℕ → PageImage) → ℕ
applied_by_effect shape Begun images = 0
applied_by_effect shape (Updated txn page bsi op back) images = cond (is_applied shape page bsi images) 1 0
applied_by_effect shape (Ended txn) images = 0
applied_by_effect shape (Compensated txn next page bsi op) images = cond (is_applied shape page bsi images) 1 0
applied_by_effect shape (Mapped page bsi op) images = cond (is_applied shape page bsi images) 1 0

-- of one record, passed over
abbrev pub skipped_by_effect : Shape → Effect → (ℕ → PageImage) → ℕ
skipped_by_effect shape Begun images = 0
skipped_by_effect shape (Updated txn page bsi op back) images = cond (is_applied shape page bsi images) 0 1
skipped_by_effect shape (Ended txn) images = 0
skipped_by_effect shape (Compensated txn next page bsi op) images = cond (is_applied shape page bsi images) 0 1
skipped_by_effect shape (Mapped page bsi op) images = cond (is_applied shape page bsi images) 0 1

-- of a log, made
abbrev pub count_applied : Shape → List LogRecord → (ℕ → PageImage) → ℕ
count_applied shape [] images = 0
count_applied shape (rec ∷ l) images = applied_by_effect shape (effect_of rec) images + count_applied shape l (redo_effect shape (effect_of rec) images)

-- of a log, passed over
abbrev pub count_skipped : Shape → List LogRecord → (ℕ → PageImage) → ℕ
count_skipped shape [] images = 0
count_skipped shape (rec ∷ l) images = skipped_by_effect shape (effect_of rec) images + count_skipped shape l (redo_effect shape (effect_of rec) images)

-- no more steps are counted than the log has records
abbrev pub RedoCounts : Type 0
RedoCounts = (shape : Shape) (l : List LogRecord) (images : ℕ → PageImage) → count_applied shape l images + count_skipped shape l images ≤ length l

-- Redo of one log gives each page that the log's node guards its recovered image, and leaves what every other one stands for.
abbrev pub RedoRecovers : Type 0
RedoRecovers = (w : Devices) (logs : ℕ → List LogRecord) (guard : ℕ → ℕ) (entry : ℕ → MapEntry) (image : ℕ → PageImage) (settled : ℕ → ℕ → SlotValue) (lock : ℕ → ℕ → Option Transaction) (images : ℕ → PageImage) (n x : ℕ)
    → IsStanding w logs guard entry image settled lock
    → ((y : ℕ) → w.disk y ≡ Some (images y))
    → x < page_count w.shape
    → (guard x ≡ n → in_life_from x (birth_of (entry x)) (redo w.shape (logs n) images x) ≡ image x)
    × (guard x ≢ n → in_life_from x (birth_of (entry x)) (redo w.shape (logs n) images x) ≡ in_life_from x (birth_of (entry x)) (images x))

-- ---- broken off

-- the disk has other images of the pages
abbrev pub with_disk : History → (ℕ → Option PageImage) → History
with_disk p disk = with_devices p (record p.devices { disk = disk })

-- the image j is what redo of the first records of node n's log makes of the image i of page x, at every cut
abbrev pub IsPartlyRedone : History → ℕ → ℕ → PageImage → PageImage → Type 0
IsPartlyRedone p n x i j = (cut : ℕ → ℕ) → IsCut p cut → (a : List LogRecord) × (b : List LogRecord) × (logs_at p cut n ≡ a ++ b) × (in_life_from x (birth_of (entry_at p cut x)) j ≡ redo_page (steps_on x a) (in_life_from x (birth_of (entry_at p cut x)) i))

-- any pages may have been written, each as redo of node n's log had it at some point
abbrev pub ArePartlyRedone : History → ℕ → (ℕ → Option PageImage) → Type 0
ArePartlyRedone p n disk = (x : ℕ) → (disk x ≡ p.devices.disk x) ⊎ ((i : PageImage) × (j : PageImage) × (p.devices.disk x ≡ Some i) × (disk x ≡ Some j) × IsPartlyRedone p n x i j)

-- redo may be broken off
abbrev pub RedoKeepsHistory : Type 0
RedoKeepsHistory = (p : History) (n : ℕ) (disk : ℕ → Option PageImage) → IsHistory p → ArePartlyRedone p n disk → IsHistory (with_disk p disk)
