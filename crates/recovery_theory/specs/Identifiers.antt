-- The identifier chain of a page, said of the set of all log records: what the inductive form (Chain, Standing) comes to.
use Rattle.std.specs.Prelude.{ℕ, suc, ◌≡◌, ◌≢◌, ◌<◌, ◌≤◌, ◌++◌, ◌⊎◌, List, ◌∷◌, max, Option, Some, None}
use Rattle.sd_base.specs.Places.{page_of_place}
use Rattle.sd_base.specs.Shape.{pages_per_map}
use Rattle.sd_base.specs.declared.page_op.PageOp.TheVariants.{MapFree}
use Rattle.space_map.specs.declared.map_entry.MapEntry.{MapEntry}
use Rattle.log_record.specs.declared.record.LogRecord.{LogRecord}
use Rattle.recovery_theory.specs.Pages.{entries_of, SlotValue, birth_of, in_life_from}
use Rattle.recovery_theory.specs.Effect.{Transaction, Step, effect_of, steps_on}
use Rattle.recovery_theory.specs.Effect.Effect.{Mapped}
use Rattle.recovery_theory.specs.Chain.{Rises, redo_page}
use Rattle.recovery_theory.specs.Standing.{Devices, IsStanding, base_of}
use Rattle.recovery_theory.specs.Rebuilding.{Has, InLogs, Rebuilds}
use Rattle.space_map.specs.PageImage.{PageImage, changed, ident_of}

-- the steps of page x in all logs, kept and live
abbrev pub IsStepOf : Devices → (ℕ → List LogRecord) → ℕ → Step → Type 0
IsStepOf w logs x s = InLogs (λ n. steps_on x (w.kept n)) (λ n. steps_on x (logs n)) s

-- the identifier at which the chain begins: that of the archived image, or that with which a later life began
abbrev pub base_ident : Devices → ℕ → ℕ → ℕ
base_ident w birth x = max (ident_of (base_of w x)) birth

-- the identifier at which it ends: behind each step from the base on, and right behind one of them if there is one
pub record IsTop (w : Devices) (logs : ℕ → List LogRecord) (birth x top : ℕ) : Type 0 where
  pub above : (s : Step) → IsStepOf w logs x s → base_ident w birth x ≤ s.bsi → s.bsi < top
  pub reached : (top ≡ base_ident w birth x) ⊎ ((s : Step) × IsStepOf w logs x s × (base_ident w birth x ≤ s.bsi) × (suc s.bsi ≡ top))

-- each identifier between is that of exactly one step, of one node, and in each node's log they rise
pub record IsLinked (w : Devices) (logs : ℕ → List LogRecord) (birth x top : ℕ) : Type 0 where
  pub one : (j : ℕ) → base_ident w birth x ≤ j → j < top
      → (s : Step) × (k : IsStepOf w logs x s) × (s.bsi ≡ j) × ((t : Step) (l : IsStepOf w logs x t) → t.bsi ≡ j → (t ≡ s) × (l.node ≡ k.node))
  pub rise : (n : ℕ) → Rises (steps_on x (w.kept n) ++ steps_on x (logs n))

-- the disk's image, if the block isn't lost, is on the chain, and what it lacks stands in the live log of one node
pub record IsNear (w : Devices) (logs : ℕ → List LogRecord) (birth x top : ℕ) (i : PageImage) : Type 0 where
  pub low : base_ident w birth x ≤ ident_of (in_life_from x birth i)
  pub high : ident_of (in_life_from x birth i) ≤ top
  pub node : ℕ
  pub alone : (s : Step) (k : IsStepOf w logs x s) → ident_of (in_life_from x birth i) ≤ s.bsi → (k.node ≡ node) × Has (steps_on x (logs node)) s

-- the steps lead from an image to another, each made where its identifier is the image's
pub data Reaches (w : Devices) (logs : ℕ → List LogRecord) (x : ℕ) (j : PageImage) : PageImage → Type 0 where
  there : (i : PageImage) → i ≡ j → Reaches w logs x j i
  step : (i : PageImage) (s : Step) → IsStepOf w logs x s → s.bsi ≡ ident_of i → Reaches w logs x j (changed s.op i) → Reaches w logs x j i

-- the steps from the base on lead to the disk's image
abbrev pub IsSame : Devices → (ℕ → List LogRecord) → ℕ → ℕ → PageImage → Type 0
IsSame w logs birth x i = Reaches w logs x (in_life_from x birth i) (in_life_from x birth (base_of w x))

-- A data page's lives. Each change that frees the page, made where the map page has its identifier, gives an identifier above the
-- one that the entry has before it. No step leads to the identifier with which the life began. Where the freeing record that gave this life
-- isn't on the disk, each step of the life, of whatever log, stands behind that record in the same live log.
pub record Lives (w : Devices) (logs : ℕ → List LogRecord) (map place birth : ℕ) : Type 0 where
  pub rising : (s : Step) (next : ℕ) (i : PageImage) → IsStepOf w logs map s → s.op ≡ MapFree place next → Reaches w logs map i (base_of w map) → s.bsi ≡ ident_of i → birth_of (entries_of i place) < next
  pub gap : (s : Step) → IsStepOf w logs (page_of_place w.shape map place) s → suc s.bsi ≢ birth
  pub behind : (n b : ℕ) (i : PageImage) (r : LogRecord) (front back : List LogRecord) → w.disk map ≡ Some i → logs n ≡ front ++ r ∷ back → effect_of r ≡ Mapped map b (MapFree place birth) → ident_of i ≤ b
      → (s : Step) (k : IsStepOf w logs (page_of_place w.shape map place) s) → birth ≤ s.bsi → (k.node ≡ n) × Has (steps_on (page_of_place w.shape map place) back) s

-- The recovered image: redo of the disk's image over the one log that has its next step, or else that image; for a lost block,
-- what all logs make of the base image.
pub record IsRecovered (w : Devices) (logs : ℕ → List LogRecord) (birth x : ℕ) (image : PageImage) : Type 0 where
  pub redone : (i : PageImage) (n : ℕ) (s : Step) → w.disk x ≡ Some i → Has (steps_on x (logs n)) s → s.bsi ≡ ident_of (in_life_from x birth i) → image ≡ redo_page (steps_on x (logs n)) (in_life_from x birth i)
  pub as_stored : (i : PageImage) → w.disk x ≡ Some i → ((n : ℕ) (s : Step) → Has (steps_on x (logs n)) s → s.bsi ≢ ident_of (in_life_from x birth i)) → image ≡ in_life_from x birth i
  pub lost : w.disk x ≡ None → Rebuilds (λ n. steps_on x (w.kept n)) (λ n. steps_on x (logs n)) image (in_life_from x birth (base_of w x))

-- all of these
pub record IsChained (w : Devices) (logs : ℕ → List LogRecord) (birth x : ℕ) (image : PageImage) : Type 0 where
  pub top : IsTop w logs birth x (ident_of image)
  pub linked : IsLinked w logs birth x (ident_of image)
  pub near : (i : PageImage) → w.disk x ≡ Some i → IsNear w logs birth x (ident_of image) i
  pub same : (i : PageImage) → w.disk x ≡ Some i → IsSame w logs birth x i
  pub recovered : IsRecovered w logs birth x image

-- where devices stand, each page is so, and each data page has such lives
abbrev pub StandingIsChained : Type 0
StandingIsChained = (w : Devices) (logs : ℕ → List LogRecord) (guard : ℕ → ℕ) (entry : ℕ → MapEntry) (image : ℕ → PageImage) (settled : ℕ → ℕ → SlotValue) (lock : ℕ → ℕ → Option Transaction)
    → IsStanding w logs guard entry image settled lock
    → ((x : ℕ) → IsChained w logs (birth_of (entry x)) x (image x))
    × ((map place : ℕ) → map < w.shape.maps → place < pages_per_map → Lives w logs map place (birth_of (entry (page_of_place w.shape map place))))
