-- What the devices say, where each log ends at some place.
use Rattle.std.specs.Prelude.{ℕ, pred, ⊤, ◌≡◌, ◌≢◌, ◌<◌, ◌≤◌, ◌⊎◌, false, List, [], ◌∷◌, ◌++◌, Option, Some, IfSome, unwrap_or}
use Rattle.sd_base.specs.Places.{page_of_place}
use Rattle.sd_base.specs.Shape.{pages_per_map}
use Rattle.sd_base.specs.declared.page_op.PageOp.{PageOp}
use Rattle.sd_base.specs.declared.page_op.PageOp.TheVariants.{Put, Append, Cut, MapUse, MapFree}
use Rattle.sd_base.specs.declared.shape.Shape.{Shape}
use Rattle.space_map.specs.declared.map_entry.MapEntry.{MapEntry}
use Rattle.log_record.specs.declared.record.LogRecord.{LogRecord}
use Rattle.recovery_theory.specs.Pages.{SlotValue, slots_of, entries_of, birth_of, is_used, slot_after, blank, in_life_from, formatted_page, IsImageOf}
use Rattle.recovery_theory.specs.Effect.{Effect, Transaction, OpenUpdate, effect_of, open_updates, of_slot, steps_on}
use Rattle.recovery_theory.specs.Effect.Effect.{Begun, Updated, Ended, Compensated, Mapped}
use Rattle.recovery_theory.specs.Chain.{ChainedBy, Rises, steps_from, steps_to}
use Rattle.space_map.specs.PageImage.{PageImage}

-- What the two devices hold but for the live logs: the archived image of each page, if there is one; its image on the disk,
-- if its block isn't lost; the kept log of each node; and the number of the first record of its live log.
pub record Devices : Type 0 where
  pub shape : Shape
  pub archive : ℕ → Option PageImage
  pub disk : ℕ → Option PageImage
  pub kept : ℕ → List LogRecord
  pub first : ℕ → ℕ

-- the image with which the history of a page begins
abbrev pub base_of : Devices → ℕ → PageImage
base_of w x = unwrap_or (w.archive x) (formatted_page w.shape x)

-- ---- one page

-- The chain of a page whose present life began with this identifier. The block may be lost; the chain is that of some image
-- then. No step leads to the identifier with which the life began.
pub record PageChain (w : Devices) (logs : ℕ → List LogRecord) (birth : ℕ) (image : PageImage) (x guard : ℕ) : Type 0 where
  pub shown : PageImage
  pub disk : IfSome (w.disk x) (λ i. shown ≡ in_life_from x birth i)
  pub chain : ChainedBy (in_life_from x birth (base_of w x)) shown (λ n. steps_on x (w.kept n)) (λ n. steps_on x (logs n)) image guard
  pub gap : (n : ℕ) → steps_to birth (steps_on x (w.kept n) ++ steps_on x (logs n)) ≡ []
  pub rises : (n : ℕ) → Rises (steps_on x (w.kept n) ++ steps_on x (logs n))

-- ---- one slot

-- The updates `us` of a slot, the newest first, lead from v to what the slot holds: each of them, made again on what its taking
-- back leaves, gives what stood before its taking back, and after all of them are taken back v is left.
abbrev pub Leads : List OpenUpdate → SlotValue → SlotValue → Type 0
Leads [] v slot = v ≡ slot
Leads (u ∷ us) v slot = (slot_after u.update (slot_after u.back slot) ≡ slot) × Leads us v (slot_after u.back slot)

-- v with these updates
abbrev pub with_updates : List OpenUpdate → SlotValue → SlotValue
with_updates [] v = v
with_updates (u ∷ us) v = slot_after u.update (with_updates us v)

-- what is left of a slot to be taken back is all of one transaction, and without it the slot holds v
pub record SettlesBy (first : ℕ → ℕ) (logs : ℕ → List LogRecord) (image : PageImage) (x s : ℕ) (v : SlotValue) (o : Transaction) : Type 0 where
  pub alone : (p : Transaction) → p ≢ o → of_slot x s (open_updates first logs p) ≡ []
  pub value : Leads (of_slot x s (open_updates first logs o)) v (slots_of image s)

-- of some transaction
abbrev pub Settles : (ℕ → ℕ) → (ℕ → List LogRecord) → PageImage → ℕ → ℕ → SlotValue → Type 0
Settles first logs image x s v = (o : Transaction) × SettlesBy first logs image x s v o

-- ---- lives

-- A change that frees a page comes, in its log, behind each step of the life that it ends: nothing before it in the log has the
-- identifier with which the next life begins, or the one below.
abbrev pub ChangeInOrder : Devices → List LogRecord → ℕ → PageOp → Type 0
ChangeInOrder w before map (Put slot after) = ⊤
ChangeInOrder w before map (Append slot bytes) = ⊤
ChangeInOrder w before map (Cut slot present len) = ⊤
ChangeInOrder w before map (MapUse place group) = ⊤
ChangeInOrder w before map (MapFree place ident) = steps_from (pred ident) (steps_on (page_of_place w.shape map place) before) ≡ []

-- an effect does so
abbrev pub EffectInOrder : Devices → List LogRecord → Effect → Type 0
EffectInOrder w before Begun = ⊤
EffectInOrder w before (Updated txn page bsi op back) = ChangeInOrder w before page op
EffectInOrder w before (Ended txn) = ⊤
EffectInOrder w before (Compensated txn next page bsi op) = ChangeInOrder w before page op
EffectInOrder w before (Mapped page bsi op) = ChangeInOrder w before page op

-- a record does so
abbrev pub InOrder : Devices → List LogRecord → LogRecord → Type 0
InOrder w before rec = EffectInOrder w before (effect_of rec)

-- each of these records does so behind the ones before it
abbrev pub Ordered : Devices → List LogRecord → List LogRecord → Type 0
Ordered w before [] = ⊤
Ordered w before (rec ∷ l) = InOrder w before rec × Ordered w (before ++ rec ∷ []) l

-- A place of a map page, which has this image on the disk, as node n sees it: the disk has the beginning of the life of the
-- place's page, or no log of n, kept or live, has a step of that life and n doesn't guard the page.
abbrev pub IsApart : Devices → (ℕ → List LogRecord) → (ℕ → ℕ) → (ℕ → MapEntry) → (map place n : ℕ) → PageImage → Type 0
IsApart w logs guard entry m q n i = (birth_of (entries_of i q) ≡ birth_of (entry (page_of_place w.shape m q)))
    ⊎ ((steps_from (birth_of (entry (page_of_place w.shape m q))) (steps_on (page_of_place w.shape m q) (w.kept n) ++ steps_on (page_of_place w.shape m q) (logs n)) ≡ []) × (guard (page_of_place w.shape m q) ≢ n))

-- where the disk lacks the beginning of a page's life, the live log of the map page's guard alone has steps of that life
abbrev pub Apart : Devices → (ℕ → List LogRecord) → (ℕ → ℕ) → (ℕ → MapEntry) → Type 0
Apart w logs guard entry = (m q n : ℕ) (i : PageImage) → m < w.shape.maps → q < pages_per_map → n ≢ guard m → w.disk m ≡ Some i → IsApart w logs guard entry m q n i

-- ---- the whole

-- The devices, with these live logs, have these entries and these recovered images; what is left to be taken back of each slot
-- leaves it at its settled value, and is of the transaction that has its lock. `guard` is the node whose live log alone may
-- have what the disk lacks of a page.
pub record IsStanding (w : Devices) (logs : ℕ → List LogRecord) (guard : ℕ → ℕ) (entry : ℕ → MapEntry) (image : ℕ → PageImage) (settled : ℕ → ℕ → SlotValue) (lock : ℕ → ℕ → Option Transaction) : Type 0 where
  pub pages : (x : ℕ) → PageChain w logs (birth_of (entry x)) (image x) x (guard x)
  pub shaped : (x : ℕ) → IsImageOf w.shape x (image x)
  pub slots : (x s : ℕ) → Settles w.first logs (image x) x s (settled x s)
  pub locks : (x s : ℕ) (o : Transaction) → of_slot x s (open_updates w.first logs o) ≢ [] → lock x s ≡ Some o
  -- a map page has no entry, and one life; a data page has the entry in its map page, and is blank where no group has it
  pub map_pages : (x : ℕ) → x < w.shape.maps → birth_of (entry x) ≡ 0
  pub lives : (map place : ℕ) → map < w.shape.maps → place < pages_per_map → entry (page_of_place w.shape map place) ≡ entries_of (image map) place
  pub unused : (x : ℕ) → w.shape.maps ≤ x → is_used (entry x) ≡ false → image x ≡ blank x (birth_of (entry x))
  pub ordered : (n : ℕ) → Ordered w [] (w.kept n ++ logs n)
  pub apart : Apart w logs guard entry
