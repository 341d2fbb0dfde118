-- The records of a store by key: which ones a history holds and devices stand for, and the law of each elementary step on them.
use Rattle.std.specs.Prelude.{ℕ, ◌≡◌, ◌≢◌, ◌+◌, ◌<◌, true, false, List, [], length, Option, Some, None}
use Rattle.sd_base.specs.Places.{first_key, group_of, keys_per_group, map_of_group, page_of_place}
use Rattle.sd_base.specs.Shape.{pages_per_map}
use Rattle.sd_base.specs.declared.names.GroupNo.{GroupNo}
use Rattle.sd_base.specs.declared.page_op.PageOp.{PageOp}
use Rattle.sd_base.specs.declared.shape.Shape.{Shape}
use Rattle.space_map.specs.declared.map_entry.MapEntry.{MapEntry}
use Rattle.space_map.specs.PageImage.{PageImage}
use Rattle.log_record.specs.declared.record.LogRecord.{LogRecord}
use Rattle.recovery_theory.specs.Pages.{SlotValue, entry_group, is_used}
use Rattle.recovery_theory.specs.Effect.{OpenUpdate, Transaction, effect_of, of_slot, open_updates}
use Rattle.recovery_theory.specs.Effect.Effect.{Begun, Ended}
use Rattle.recovery_theory.specs.Standing.{Devices, IsStanding, with_updates}
use Rattle.recovery_theory.specs.History.{History, IsCut, IsHistory, entry_at, entry_now, image_now, logs_at}
use Rattle.recovery_theory.specs.Steps.{IsClean, IsCompensation, IsPlaceFree, IsPlaceToCut, IsPlaceUse, IsStablePage, IsUpdate, MayHaveLocks, MayMove, MayPass, MayPurge, archived, changed_page, ended, forced, freed_page, logged, moved, on_disk, passed, purged, started, stopped, set_at, used_page, with_locks}
use Rattle.recovery_theory.specs.Redo.{ArePartlyRedone, with_disk}

-- The record of a key is the settled slot of the key in the page of its group: a group has one page at most, in the one map
-- page that may have it, and the slots of a page that no group has are empty.
pub record HasRecords (shape : Shape) (entry : ℕ → MapEntry) (settled : ℕ → ℕ → SlotValue) (records : ℕ → SlotValue) : Type 0 where
  pub home : (m q : ℕ) → m < shape.maps → q < pages_per_map → is_used (entry (page_of_place shape m q)) ≡ true → map_of_group shape (record { 0 = entry_group (entry (page_of_place shape m q)) }) ≡ m
  pub once : (m q r : ℕ) → m < shape.maps → q < pages_per_map → r < pages_per_map → is_used (entry (page_of_place shape m q)) ≡ true → is_used (entry (page_of_place shape m r)) ≡ true
      → entry_group (entry (page_of_place shape m q)) ≡ entry_group (entry (page_of_place shape m r)) → q ≡ r
  pub value : (m q s : ℕ) → m < shape.maps → q < pages_per_map → s < keys_per_group → is_used (entry (page_of_place shape m q)) ≡ true → records (first_key (entry_group (entry (page_of_place shape m q))) + s) ≡ settled (page_of_place shape m q) s
  pub absent : (k : ℕ) → ((m q : ℕ) → m < shape.maps → q < pages_per_map → is_used (entry (page_of_place shape m q)) ≡ true → entry_group (entry (page_of_place shape m q)) ≢ (group_of k).0) → records k ≡ None
  pub empty : (m q s : ℕ) → m < shape.maps → q < pages_per_map → is_used (entry (page_of_place shape m q)) ≡ false → settled (page_of_place shape m q) s ≡ None

-- The history holds these records: at every cut they are the records by key, and the page of what is left to be taken back has
-- the entry that it has at the end.
pub record Holds (p : History) (records : ℕ → SlotValue) : Type 0 where
  pub history : IsHistory p
  pub keys : (cut : ℕ → ℕ) → IsCut p cut → HasRecords p.devices.shape (entry_at p cut) p.settled records
  pub pending : (cut : ℕ → ℕ) → IsCut p cut → (x s : ℕ) (o : Transaction) → of_slot x s (open_updates p.devices.first (logs_at p cut) o) ≢ [] → (entry_at p cut x ≡ entry_now p x) × (is_used (entry_now p x) ≡ true)

-- ---- devices that stand

-- The devices with these live logs stand for the records: they do so with some guards, entries, images, settled slots and locks.
pub record Stands (w : Devices) (logs : ℕ → List LogRecord) (records : ℕ → SlotValue) : Type 0 where
  pub guard : ℕ → ℕ
  pub entry : ℕ → MapEntry
  pub image : ℕ → PageImage
  pub settled : ℕ → ℕ → SlotValue
  pub lock : ℕ → ℕ → Option Transaction
  pub stands : IsStanding w logs guard entry image settled lock
  pub keys : HasRecords w.shape entry settled records
  pub pending : (x s : ℕ) (o : Transaction) → of_slot x s (open_updates w.first logs o) ≢ [] → is_used (entry x) ≡ true

-- wherever the logs of a history are cut, the devices stand for its records
abbrev pub StandsAtEachCut : Type 0
StandsAtEachCut = (p : History) (records : ℕ → SlotValue) (cut : ℕ → ℕ) → Holds p records → IsCut p cut → Stands p.devices (logs_at p cut) records

-- devices that stand are a history, in which all is stable
abbrev pub WhatStandsOpens : Type 0
WhatStandsOpens = (w : Devices) (logs : ℕ → List LogRecord) (records : ℕ → SlotValue) → Stands w logs records
    → (p : History) × Holds p records × (p.devices ≡ w) × (p.live ≡ logs) × ((n : ℕ) → p.stable n ≡ length (logs n))

-- devices stand for one list of records at most
abbrev pub OneSetOfRecords : Type 0
OneSetOfRecords = (w : Devices) (logs : ℕ → List LogRecord) (r q : ℕ → SlotValue) → 0 < w.shape.maps → Stands w logs r → Stands w logs q → (k : ℕ) → r k ≡ q k

-- a formatted store holds no record
abbrev pub FormattedHoldsNone : Type 0
FormattedHoldsNone = (s : Shape) → Holds (started s) (λ k. None)

-- ---- the end of a transaction

-- what is left of the transaction overlays these records so
pub record Overlaid (p : History) (o : Transaction) (records after : ℕ → SlotValue) : Type 0 where
  pub there : (m q s : ℕ) → m < p.devices.shape.maps → q < pages_per_map → s < keys_per_group → is_used (entry_now p (page_of_place p.devices.shape m q)) ≡ true
      → after (first_key (entry_group (entry_now p (page_of_place p.devices.shape m q))) + s) ≡ with_updates (of_slot (page_of_place p.devices.shape m q) s (open_updates p.devices.first p.live o)) (records (first_key (entry_group (entry_now p (page_of_place p.devices.shape m q))) + s))
  pub gone : (k : ℕ) → ((m q : ℕ) → m < p.devices.shape.maps → q < pages_per_map → is_used (entry_now p (page_of_place p.devices.shape m q)) ≡ true → entry_group (entry_now p (page_of_place p.devices.shape m q)) ≢ (group_of k).0) → after k ≡ records k

-- the end of a transaction, which is forced, overlays the records with what is left of it
abbrev pub EndOverlaysRecords : Type 0
EndOverlaysRecords = (p : History) (n t : ℕ) (r : LogRecord) (records after : ℕ → SlotValue) → Holds p records → effect_of r ≡ Ended t
    → Overlaid p (record { node = n; txn = t }) records after → Holds (ended p n t r) after

-- the end of a transaction of which nothing is left, as an abort that has taken all back, leaves them
abbrev pub EndOfNothingKeepsRecords : Type 0
EndOfNothingKeepsRecords = (p : History) (n t : ℕ) (r : LogRecord) (records : ℕ → SlotValue) → Holds p records → effect_of r ≡ Ended t
    → open_updates p.devices.first p.live (record { node = n; txn = t }) ≡ [] → Holds (ended p n t r) records

-- ---- the other steps keep the records

-- a transaction begins
abbrev pub BeginKeepsRecords : Type 0
BeginKeepsRecords = (p : History) (n : ℕ) (r : LogRecord) (records : ℕ → SlotValue) → Holds p records → effect_of r ≡ Begun → Holds (logged p n r (entry_now p) (image_now p) p.last) records

-- an update is its transaction's own until that ends
abbrev pub UpdateKeepsRecords : Type 0
UpdateKeepsRecords = (p : History) (n t x : ℕ) (op back : PageOp) (r : LogRecord) (us : List OpenUpdate) (records : ℕ → SlotValue) → Holds p records → IsUpdate p n t x op back r us → Holds (changed_page p n r x op) records

-- an update is taken back
abbrev pub CompensationKeepsRecords : Type 0
CompensationKeepsRecords = (p : History) (n t x next : ℕ) (u : OpenUpdate) (us : List OpenUpdate) (r : LogRecord) (records : ℕ → SlotValue) → Holds p records → IsCompensation p n t x next u us r → Holds (changed_page p n r x u.back) records

-- the place is free, and comes into use for a group that has no page, and whose map page this is
pub record MayHavePlace (p : History) (m q : ℕ) (g : GroupNo) : Type 0 where
  pub free : is_used (entry_now p (page_of_place p.devices.shape m q)) ≡ false
  pub home : map_of_group p.devices.shape g ≡ m
  pub none : (j : ℕ) → j < pages_per_map → is_used (entry_now p (page_of_place p.devices.shape m j)) ≡ true → entry_group (entry_now p (page_of_place p.devices.shape m j)) ≢ g.0

-- a free place comes into use for a group that has no page
abbrev pub UseKeepsRecords : Type 0
UseKeepsRecords = (p : History) (n m q : ℕ) (g : GroupNo) (r : LogRecord) (records : ℕ → SlotValue) → Holds p records → IsPlaceUse p n m q g r → MayHavePlace p m q g → Holds (used_page p n r m q g) records

-- the slots of the page get the locks that transactions have of the records of its group
abbrev pub UseWithLocksKeepsRecords : Type 0
UseWithLocksKeepsRecords = (p : History) (n m q : ℕ) (g : GroupNo) (r : LogRecord) (lock : ℕ → Option Transaction) (records : ℕ → SlotValue) → Holds p records → IsPlaceUse p n m q g r → MayHavePlace p m q g
    → Holds (with_locks (used_page p n r m q g) (set_at (page_of_place p.devices.shape m q) lock p.lock)) records

-- the page of a group without a record is freed
abbrev pub FreeKeepsRecords : Type 0
FreeKeepsRecords = (p : History) (n m q : ℕ) (r : LogRecord) (records : ℕ → SlotValue) → Holds p records → IsPlaceFree p n m q r → Holds (freed_page p n r m q) records

-- more of a log is stable
abbrev pub ForceKeepsRecords : Type 0
ForceKeepsRecords = (p : History) (n k : ℕ) (records : ℕ → SlotValue) → Holds p records → IsPlaceToCut p n k → Holds (forced p n k) records

-- a node stops, and its log is cut anywhere behind what is stable
abbrev pub StopKeepsRecords : Type 0
StopKeepsRecords = (p : History) (n k : ℕ) (records : ℕ → SlotValue) → Holds p records → IsPlaceToCut p n k → Holds (stopped p n k) records

-- locks are taken, and go
abbrev pub LocksKeepRecords : Type 0
LocksKeepRecords = (p : History) (lock : ℕ → ℕ → Option Transaction) (records : ℕ → SlotValue) → Holds p records → MayHaveLocks p lock → Holds (with_locks p lock) records

-- a page is written
abbrev pub WriteKeepsRecords : Type 0
WriteKeepsRecords = (p : History) (x : ℕ) (records : ℕ → SlotValue) → Holds p records → IsStablePage p x → Holds (on_disk p x (Some (image_now p x))) records

-- a block is lost
abbrev pub LossKeepsRecords : Type 0
LossKeepsRecords = (p : History) (x : ℕ) (records : ℕ → SlotValue) → Holds p records → Holds (on_disk p x None) records

-- a page goes to another node
abbrev pub PassKeepsRecords : Type 0
PassKeepsRecords = (p : History) (x m : ℕ) (records : ℕ → SlotValue) → Holds p records → MayPass p x m → Holds (passed p x m) records

-- redo is done, or broken off
abbrev pub RedoKeepsRecords : Type 0
RedoKeepsRecords = (p : History) (n : ℕ) (disk : ℕ → Option PageImage) (records : ℕ → SlotValue) → Holds p records → ArePartlyRedone p n disk → Holds (with_disk p disk) records

-- a page is archived
abbrev pub ArchiveKeepsRecords : Type 0
ArchiveKeepsRecords = (p : History) (x : ℕ) (records : ℕ → SlotValue) → Holds p records → IsStablePage p x → IsClean p x → Holds (archived p x) records

-- the start of a log moves
abbrev pub MoveKeepsRecords : Type 0
MoveKeepsRecords = (p : History) (n c : ℕ) (records : ℕ → SlotValue) → Holds p records → MayMove p n c → Holds (moved p n c) records

-- kept records go
abbrev pub PurgeKeepsRecords : Type 0
PurgeKeepsRecords = (p : History) (n : ℕ) (gone l : List LogRecord) (records : ℕ → SlotValue) → Holds p records → MayPurge p n gone l → Holds (purged p n l) records
