-- Rebuilding a page from its base image: as long as any log has its next step, that step is made. The history of a page is what
-- its logs say, read in any order.
use Rattle.std.specs.Prelude.{ℕ, ◌≡◌, ◌≢◌, ◌<◌, ◌≤◌, List, [], ◌∷◌, ◌++◌, Option, ◌⊎◌}
use Rattle.sd_base.specs.Shape.{page_count}
use Rattle.log_record.specs.declared.record.LogRecord.{LogRecord}
use Rattle.recovery_theory.specs.Chain.{steps_from, Chained, Rises}
use Rattle.recovery_theory.specs.Effect.{Step, Transaction}
use Rattle.recovery_theory.specs.Pages.{SlotValue}
use Rattle.recovery_theory.specs.Standing.{Devices, IsStanding}
use Rattle.space_map.specs.declared.map_entry.MapEntry.{MapEntry}
use Rattle.space_map.specs.PageImage.{PageImage, changed, ident_of}

-- s is one of the steps of l
abbrev pub Has : List Step → Step → Type 0
Has [] s = ⊥
Has (t ∷ l) s = (t ≡ s) ⊎ Has l s

-- all steps of a page, of whatever node
pub record InLogs (kept live : ℕ → List Step) (s : Step) : Type 0 where
  pub node : ℕ
  pub stands : Has (kept node ++ live node) s

-- media recovery of j from i: as long as a step has the present number it is applied, from whichever log
pub data Rebuilds (kept live : ℕ → List Step) (j : PageImage) : PageImage → Type 0 where
  done : (i : PageImage) → i ≡ j → ((s : Step) → InLogs kept live s → s.bsi ≢ ident_of i) → Rebuilds kept live j i
  more : (i : PageImage) (s : Step) → InLogs kept live s → s.bsi ≡ ident_of i → Rebuilds kept live j (changed s.op i) → Rebuilds kept live j i

-- whatever log each step is taken from, what is rebuilt from the base image is the recovered one, and it can be rebuilt
abbrev pub ChainRebuilds : Type 0
ChainRebuilds = (base disk image : PageImage) (kept live : ℕ → List Step) → Chained base disk kept live image
    → Rebuilds kept live image base × ((i : PageImage) → Rebuilds kept live i base → i ≡ image)

-- the devices determine the pages and the records
abbrev pub DevicesDetermine : Type 0
DevicesDetermine = (w : Devices) (logs : ℕ → List LogRecord) (guard guard' : ℕ → ℕ) (entry entry' : ℕ → MapEntry) (image image' : ℕ → PageImage) (settled settled' : ℕ → ℕ → SlotValue) (lock lock' : ℕ → ℕ → Option Transaction)
    → IsStanding w logs guard entry image settled lock → IsStanding w logs guard' entry' image' settled' lock'
    → (x : ℕ) → x < page_count w.shape → (image x ≡ image' x) × ((s : ℕ) → settled x s ≡ settled' x s)

-- each identifier from the base on and below the recovered one is that of exactly one step, no step has
-- another one from the base on, and in each log they rise
abbrev pub ChainIsLinked : Type 0
ChainIsLinked = (base disk image : PageImage) (kept live : ℕ → List Step) → Chained base disk kept live image
    → ((j : ℕ) → ident_of base ≤ j → j < ident_of image → (s : Step) × (k : InLogs kept live s) × (s.bsi ≡ j) × ((t : Step) (l : InLogs kept live t) → t.bsi ≡ j → (t ≡ s) × (l.node ≡ k.node)))
    × ((s : Step) → InLogs kept live s → ident_of base ≤ s.bsi → s.bsi < ident_of image)
    × ((n : ℕ) → Rises (steps_from (ident_of base) (kept n ++ live n)))
