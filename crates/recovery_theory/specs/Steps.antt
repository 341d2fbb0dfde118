-- What each elementary step makes of a history, when it may be taken, and the law that what it makes is a history again.
use Rattle.std.specs.Prelude.{ℕ, suc, ◌≤◌, ◌≡◌, ◌<◌, ◌++◌, ◌&&◌, ◌+◌, ◌-◌, ◌⊎◌, true, cond, eqb, ltb, List, [], ◌∷◌, length, take, drop, Option, Some, None}
use Rattle.sd_base.specs.Places.{page_of_place}
use Rattle.sd_base.specs.Shape.{pages_per_map}
use Rattle.sd_base.specs.declared.names.GroupNo.{GroupNo}
use Rattle.sd_base.specs.declared.page_op.PageOp.{PageOp}
use Rattle.sd_base.specs.declared.page_op.PageOp.TheVariants.{MapUse, MapFree}
use Rattle.sd_base.specs.declared.shape.Shape.{Shape}
use Rattle.space_map.specs.declared.map_entry.MapEntry.{MapEntry}
use Rattle.space_map.specs.declared.map_entry.MapEntry.TheVariants.{Free, Used}
use Rattle.space_map.specs.PageImage.{PageImage, changed, ident_of}
use Rattle.log_record.specs.declared.record.LogRecord.{LogRecord}
use Rattle.recovery_theory.specs.Pages.{IsSlotChange, birth_of, blank, formatted_page, in_life_from, is_used, place_of, slot_after, slots_of}
use Rattle.recovery_theory.specs.Effect.{OpenUpdate, Transaction, down_to, effect_of, left_of, of_slot, open_updates, steps_on}
use Rattle.recovery_theory.specs.Effect.Effect.{Begun, Updated, Ended, Compensated, Mapped}
use Rattle.recovery_theory.specs.Chain.{steps_from}
use Rattle.recovery_theory.specs.Standing.{Devices, base_of, with_updates}
use Rattle.recovery_theory.specs.History.{History, IsCut, IsHistory, entry_now, image_now, logs_at}

-- the function f, but a at x
abbrev pub set_at : {A : Type 0} → ℕ → A → (ℕ → A) → ℕ → A
set_at x a f y = cond (eqb y x) a (f y)

-- ---- records

-- the log of n with one record more
abbrev pub with_record : ℕ → LogRecord → (ℕ → List LogRecord) → ℕ → List LogRecord
with_record n r live m = cond (eqb m n) (live n ++ r ∷ []) (live m)

-- What a page is at each cut of its guard's log, when n's log has grown by one record: at the cut behind that record, the last
-- one, it is what `now` says, and at the others what it was.
abbrev pub with_last_cut : {A : Type 0} → History → ℕ → (ℕ → ℕ → A) → (ℕ → A) → ℕ → ℕ → A
with_last_cut p n f now y k = cond (eqb (p.guard y) n && ltb (length (p.live n)) k) (now y) (f y k)

-- node n has appended a record, and this is what its pages are then
abbrev pub logged : History → ℕ → LogRecord → (ℕ → MapEntry) → (ℕ → PageImage) → (ℕ → ℕ) → History
logged p n r entry now last = record {
  devices = p.devices;
  live = with_record n r p.live;
  stable = p.stable;
  guard = p.guard;
  entry = with_last_cut p n p.entry entry;
  image = with_last_cut p n p.image now;
  last = last;
  settled = p.settled;
  lock = p.lock;
}

-- node n has appended a record of this change of page x
abbrev pub changed_page : History → ℕ → LogRecord → ℕ → PageOp → History
changed_page p n r x op = logged p n r (entry_now p) (set_at x (changed op (image_now p x)) (image_now p)) (set_at x (suc (length (p.live n))) p.last)

-- a transaction begins
abbrev pub BeginKeepsHistory : Type 0
BeginKeepsHistory = (p : History) (n : ℕ) (r : LogRecord) → IsHistory p → effect_of r ≡ Begun → IsHistory (logged p n r (entry_now p) (image_now p) p.last)

-- The record is an update by transaction t of node n: of a slot of a used page that the node guards and whose lock the
-- transaction has. The change `back` puts back what the update found.
pub record IsUpdate (p : History) (n t x : ℕ) (op back : PageOp) (r : LogRecord) (us : List OpenUpdate) : Type 0 where
  pub effect : effect_of r ≡ Updated t x (ident_of (image_now p x)) op back
  pub guarded : p.guard x ≡ n
  pub is_data : p.devices.shape.maps ≤ x
  pub used : is_used (entry_now p x) ≡ true
  pub slot_change : IsSlotChange op
  pub same_slot : place_of back ≡ place_of op
  pub inverse : slot_after back (slot_after op (slots_of (image_now p x) (place_of op))) ≡ slots_of (image_now p x) (place_of op)
  pub locked : p.lock x (place_of op) ≡ Some (record { node = n; txn = t })
  pub is_open : left_of t (p.devices.first n) (p.live n) None ≡ Some us

-- an update
abbrev pub UpdateKeepsHistory : Type 0
UpdateKeepsHistory = (p : History) (n t x : ℕ) (op back : PageOp) (r : LogRecord) (us : List OpenUpdate) → IsHistory p → IsUpdate p n t x op back r us → IsHistory (changed_page p n r x op)

-- The record is a compensation: it takes back the newest update that is left of the transaction, and says that what is next to
-- be taken back is what is left behind that one.
pub record IsCompensation (p : History) (n t x next : ℕ) (u : OpenUpdate) (us : List OpenUpdate) (r : LogRecord) : Type 0 where
  pub effect : effect_of r ≡ Compensated t next x (ident_of (image_now p x)) u.back
  pub next_is : down_to next (u ∷ us) ≡ us
  pub guarded : p.guard x ≡ n
  pub is_data : p.devices.shape.maps ≤ x
  pub newest : left_of t (p.devices.first n) (p.live n) None ≡ Some (u ∷ us)
  pub page_is : u.page ≡ x
  pub slot_change : IsSlotChange u.back

-- a compensation, of a page that some group has
abbrev pub CompensationKeepsHistory : Type 0
CompensationKeepsHistory = (p : History) (n t x next : ℕ) (u : OpenUpdate) (us : List OpenUpdate) (r : LogRecord)
    → IsHistory p → IsCompensation p n t x next u us r → is_used (entry_now p x) ≡ true → IsHistory (changed_page p n r x u.back)

-- a place of a map page comes into use
abbrev pub used_page : History → ℕ → LogRecord → ℕ → ℕ → GroupNo → History
used_page p n r m q g = (let x = page_of_place p.devices.shape m q in let end = suc (length (p.live n)) in
    logged p n r (set_at x (Used g (birth_of (entry_now p x))) (entry_now p)) (set_at m (changed (MapUse q g) (image_now p m)) (image_now p)) (set_at x end (set_at m end p.last)))

-- the record brings a place into use, whose page and map page the node guards
pub record IsPlaceUse (p : History) (n m q : ℕ) (g : GroupNo) (r : LogRecord) : Type 0 where
  pub effect : effect_of r ≡ Mapped m (ident_of (image_now p m)) (MapUse q g)
  pub is_map : m < p.devices.shape.maps
  pub in_map : q < pages_per_map
  pub guarded_map : p.guard m ≡ n
  pub guarded_page : p.guard (page_of_place p.devices.shape m q) ≡ n

-- a place comes into use
abbrev pub UseKeepsHistory : Type 0
UseKeepsHistory = (p : History) (n m q : ℕ) (g : GroupNo) (r : LogRecord) → IsHistory p → IsPlaceUse p n m q g r → IsHistory (used_page p n r m q g)

-- the page of a place is freed: its next life begins behind this one
abbrev pub freed_page : History → ℕ → LogRecord → ℕ → ℕ → History
freed_page p n r m q = (let x = page_of_place p.devices.shape m q in let birth = suc (ident_of (image_now p x)) in let end = suc (length (p.live n)) in
    logged p n r (set_at x (Free birth) (entry_now p)) (set_at x (blank x birth) (set_at m (changed (MapFree q birth) (image_now p m)) (image_now p))) (set_at x end (set_at m end p.last)))

-- The record frees a place, whose page and map page the node guards. The page's slots are all empty and without a lock, and
-- the record gives the identifier behind the page's own.
pub record IsPlaceFree (p : History) (n m q : ℕ) (r : LogRecord) : Type 0 where
  pub effect : effect_of r ≡ Mapped m (ident_of (image_now p m)) (MapFree q (suc (ident_of (image_now p (page_of_place p.devices.shape m q)))))
  pub is_map : m < p.devices.shape.maps
  pub in_map : q < pages_per_map
  pub guarded_map : p.guard m ≡ n
  pub guarded_page : p.guard (page_of_place p.devices.shape m q) ≡ n
  pub empty : (s : ℕ) → (p.settled (page_of_place p.devices.shape m q) s ≡ None) × (p.lock (page_of_place p.devices.shape m q) s ≡ None)

-- a place is freed
abbrev pub FreeKeepsHistory : Type 0
FreeKeepsHistory = (p : History) (n m q : ℕ) (r : LogRecord) → IsHistory p → IsPlaceFree p n m q r → IsHistory (freed_page p n r m q)

-- ---- the end of a transaction, which is forced

-- The log is stable up to the record that ends transaction t of node n, and what was left of it is settled: a commit, and also
-- an abort, of which nothing is left.
abbrev pub ended : History → ℕ → ℕ → LogRecord → History
ended p n t r = record {
  devices = p.devices;
  live = with_record n r p.live;
  stable = set_at n (suc (length (p.live n))) p.stable;
  guard = p.guard;
  entry = with_last_cut p n p.entry (entry_now p);
  image = with_last_cut p n p.image (image_now p);
  last = p.last;
  settled = λ x s. with_updates (of_slot x s (open_updates p.devices.first p.live (record { node = n; txn = t }))) (p.settled x s);
  lock = p.lock;
}

-- a transaction ends
abbrev pub EndKeepsHistory : Type 0
EndKeepsHistory = (p : History) (n t : ℕ) (r : LogRecord) → IsHistory p → effect_of r ≡ Ended t → IsHistory (ended p n t r)

-- ---- what is stable, and what a stop leaves

-- node n's log may be cut behind this many records: all that is stable is among them
pub record IsPlaceToCut (p : History) (n k : ℕ) : Type 0 where
  pub low : p.stable n ≤ k
  pub high : k ≤ length (p.live n)

-- k records of n's log are stable
abbrev pub forced : History → ℕ → ℕ → History
forced p n k = record p { stable = set_at n k p.stable }

-- more of a log is stable
abbrev pub ForceKeepsHistory : Type 0
ForceKeepsHistory = (p : History) (n k : ℕ) → IsHistory p → IsPlaceToCut p n k → IsHistory (forced p n k)

-- node n stops, and k records of its log are left
abbrev pub stopped : History → ℕ → ℕ → History
stopped p n k = record p {
  live = set_at n (take k (p.live n)) p.live;
  stable = set_at n k p.stable;
  last = λ y. cond (eqb (p.guard y) n) k (p.last y);
}

-- a node stops
abbrev pub StopKeepsHistory : Type 0
StopKeepsHistory = (p : History) (n k : ℕ) → IsHistory p → IsPlaceToCut p n k → IsHistory (stopped p n k)

-- ---- locks

-- the slots have these locks
abbrev pub with_locks : History → (ℕ → ℕ → Option Transaction) → History
with_locks p lock = record p { lock = lock }

-- only locks of slots of which nothing is left at any cut have been taken, or have gone
abbrev pub MayHaveLocks : History → (ℕ → ℕ → Option Transaction) → Type 0
MayHaveLocks p lock = (x s : ℕ) → (lock x s ≡ p.lock x s) ⊎ ((cut : ℕ → ℕ) → IsCut p cut → (o : Transaction) → of_slot x s (open_updates p.devices.first (logs_at p cut) o) ≡ [])

-- locks are taken, and go
abbrev pub LocksKeepHistory : Type 0
LocksKeepHistory = (p : History) (lock : ℕ → ℕ → Option Transaction) → IsHistory p → MayHaveLocks p lock → IsHistory (with_locks p lock)

-- ---- pages

-- the devices hold this
abbrev pub with_devices : History → Devices → History
with_devices p w = record p { devices = w }

-- page x has this content on the disk; None is a lost block
abbrev pub on_disk : History → ℕ → Option PageImage → History
on_disk p x content = with_devices p (record p.devices { disk = set_at x content p.devices.disk })

-- the log is stable past the page's last record
abbrev pub IsStablePage : History → ℕ → Type 0
IsStablePage p x = p.last x ≤ p.stable (p.guard x)

-- a page is written
abbrev pub WriteKeepsHistory : Type 0
WriteKeepsHistory = (p : History) (x : ℕ) → IsHistory p → IsStablePage p x → IsHistory (on_disk p x (Some (image_now p x)))

-- a page is lost
abbrev pub LossKeepsHistory : Type 0
LossKeepsHistory = (p : History) (x : ℕ) → IsHistory p → IsHistory (on_disk p x None)

-- the disk has the page as it is, or nothing of it
abbrev pub IsClean : History → ℕ → Type 0
IsClean p x = (p.devices.disk x ≡ None) ⊎ ((i : PageImage) × (p.devices.disk x ≡ Some i) × (in_life_from x (birth_of (entry_now p x)) i ≡ image_now p x))

-- a page as its life begins is clean
abbrev pub FreshIsClean : Type 0
FreshIsClean = (p : History) (x : ℕ) → IsHistory p → ident_of (image_now p x) ≡ birth_of (entry_now p x) → IsClean p x

-- the page goes to node m, which guards it from then on
abbrev pub passed : History → ℕ → ℕ → History
passed p x m = record p {
  guard = set_at x m p.guard;
  entry = λ y k. cond (eqb y x) (entry_now p x) (p.entry y k);
  image = λ y k. cond (eqb y x) (image_now p x) (p.image y k);
  last = set_at x 0 p.last;
}

-- the page is stable and clean, and a data page goes only to the node that has its map page
pub record MayPass (p : History) (x m : ℕ) : Type 0 where
  pub stable : IsStablePage p x
  pub clean : IsClean p x
  pub with_map : (k q : ℕ) → k < p.devices.shape.maps → q < pages_per_map → x ≡ page_of_place p.devices.shape k q → p.guard k ≡ m

-- a page goes to another node
abbrev pub PassKeepsHistory : Type 0
PassKeepsHistory = (p : History) (x m : ℕ) → IsHistory p → MayPass p x m → IsHistory (passed p x m)

-- ---- the vault

-- the page is archived
abbrev pub archived : History → ℕ → History
archived p x = with_devices p (record p.devices { archive = set_at x (Some (image_now p x)) p.devices.archive })

-- a page is archived, which is stable and clean
abbrev pub ArchiveKeepsHistory : Type 0
ArchiveKeepsHistory = (p : History) (x : ℕ) → IsHistory p → IsStablePage p x → IsClean p x → IsHistory (archived p x)

-- the first c records of n's log go to the kept ones
abbrev pub moved : History → ℕ → ℕ → History
moved p n c = record p {
  devices = record p.devices {
    kept = set_at n (p.devices.kept n ++ take c (p.live n)) p.devices.kept;
    first = set_at n (p.devices.first n + c) p.devices.first;
  };
  live = set_at n (drop c (p.live n)) p.live;
  stable = set_at n (p.stable n - c) p.stable;
  entry = λ y k. cond (eqb (p.guard y) n) (entry_now p y) (p.entry y k);
  image = λ y k. cond (eqb (p.guard y) n) (image_now p y) (p.image y k);
  last = λ y. cond (eqb (p.guard y) n) 0 (p.last y);
}

-- the log is stable as a whole; the disk lacks none of the records; and no open transaction began among them
pub record MayMove (p : History) (n c : ℕ) : Type 0 where
  pub whole : p.stable n ≡ length (p.live n)
  pub within : c ≤ length (p.live n)
  pub covered : (y : ℕ) (i : PageImage) → p.guard y ≡ n → p.devices.disk y ≡ Some i → steps_from (ident_of (in_life_from y (birth_of (entry_now p y)) i)) (steps_on y (take c (p.live n))) ≡ []
  pub begun : (t : ℕ) (us : List OpenUpdate) → left_of t (p.devices.first n) (p.live n) None ≡ Some us → p.devices.first n + c ≤ t

-- the start of a log moves
abbrev pub MoveKeepsHistory : Type 0
MoveKeepsHistory = (p : History) (n c : ℕ) → IsHistory p → MayMove p n c → IsHistory (moved p n c)

-- l is what stays of the kept log
abbrev pub purged : History → ℕ → List LogRecord → History
purged p n l = with_devices p (record p.devices { kept = set_at n l p.devices.kept })

-- those that go are the first, and the archived images cover them
pub record MayPurge (p : History) (n : ℕ) (gone l : List LogRecord) : Type 0 where
  pub split : p.devices.kept n ≡ gone ++ l
  pub covered : (y : ℕ) → steps_from (ident_of (base_of p.devices y)) (steps_on y gone) ≡ []

-- kept records go
abbrev pub PurgeKeepsHistory : Type 0
PurgeKeepsHistory = (p : History) (n : ℕ) (gone l : List LogRecord) → IsHistory p → MayPurge p n gone l → IsHistory (purged p n l)

-- ---- the first state

-- a store as it is formatted
abbrev pub started : Shape → History
started s = record {
  devices = record { shape = s; archive = λ x. None; disk = λ x. Some (formatted_page s x); kept = λ n. []; first = λ n. 0 };
  live = λ n. [];
  stable = λ n. 0;
  guard = λ x. 0;
  entry = λ x k. Free (cond (ltb x s.maps) 0 s.birth);
  image = λ x k. formatted_page s x;
  last = λ x. 0;
  settled = λ x s. None;
  lock = λ x s. None;
}

-- a formatted store is a history
abbrev pub FormattedIsHistory : Type 0
FormattedIsHistory = (s : Shape) → IsHistory (started s)
