-- What the history of a store means to the record machine, beside what its present pages and logs mean.
use Rattle.std.specs.Prelude.{◌≡◌, ◌≢◌, ◌⊎◌, ◌==◌, ◌+◌, ◌<◌, ◌≤◌, ◌∷◌, ℕ, Bool, true, false, List, [], Some, None, is_none, is_some, filter, length, map, reverse}
use Rattle.sd_base.specs.declared.names.Key.{Key}
use Rattle.sd_base.specs.declared.names.TxnId.{TxnId}
use Rattle.sd_base.specs.Places.{slot_of_key}
use Rattle.sd_base.specs.Shape.{page_count}
use Rattle.log_record.specs.declared.record.LogRecord.{LogRecord}
use Rattle.record_locks.specs.declared.mode.Mode.TheVariants as locks
use Rattle.record_locks.specs.Held.{mode_of}
use Rattle.record_machine.specs.Machine.{Deed, Down, Idle, Machine, Up, home, is_busy}
use Rattle.record_machine.specs.Meaning.{Plain, first_record}
use Rattle.space_map.specs.PageImage.{data_page, map_page}
use Rattle.recovery_theory.specs.Effect.{Transaction, OpenUpdate, left_of}
use Rattle.recovery_theory.specs.History.{History, image_now}
use Rattle.recovery_theory.specs.Steps.{IsClean}
use Rattle.recovery_theory.specs.Records.{Holds}
use Rattle.recovery_theory.specs.Rules.{numbers}
use Rattle.recovery_theory.specs.Room.{IsRoomy}
use Rattle.recovery_theory.specs.Headroom.{IsRising}

-- all records of the page are stable, and the disk has the page as it is
pub record IsStored (h : History) (x : ℕ) : Type 0 where
  pub sure : h.last x ≤ h.stable (h.guard x)
  pub clean : IsClean h x

-- the transaction is open, or still has a lock to write
abbrev pub IsKnown : Machine → TxnId → Type 0
IsKnown m t = (is_busy m t ≡ true) ⊎ ((key : Key) × (mode_of m.locks key t ≡ Some locks.Write))

-- what these records say of the transaction in a seat that began with this record: it is open, and what is left of it are its
-- writes among these deeds, in their order
pub record TellsDeeds (first : ℕ) (recs : List LogRecord) (ds : List Deed) (seat begin : ℕ) : Type 0 where
  pub left : List OpenUpdate
  pub going : left_of begin first recs None ≡ Some left
  pub begins : filter (λ d. is_none d.write) (filter (λ d. d.seat == seat) ds) ≡ record { number = begin; seat = seat; write = None } ∷ []
  pub writes : map (λ d. d.number) (filter (λ d. is_some d.write) (filter (λ d. d.seat == seat) ds)) ≡ reverse (numbers left)

-- so it is with the whole log and a busy seat, of which the machine has these deeds
abbrev pub TellsSeat : History → Machine → TxnId → ℕ → Type 0
TellsSeat h m t begin = TellsDeeds (h.devices.first t.node.0) (h.live t.node.0) (m.pending t.node.0) t.seat begin

-- transaction `txn` of node n's log, which is open, is that of a busy seat
pub record HasSeat (m : Machine) (begun : ℕ → ℕ → ℕ) (n txn : ℕ) : Type 0 where
  pub who : TxnId
  pub node : who.node.0 ≡ n
  pub busy : is_busy m who ≡ true
  pub begins : begun who.node.0 who.seat ≡ txn

-- The node that logs a page keeps it: it is in use and holds the page, or it is down and the tables are lost.
abbrev pub IsKeptBy : Machine → ℕ → ℕ → Type 0
IsKeptBy m x n = ((m.hold x ≡ Some n) × (m.mode n ≢ Idle)) ⊎ ((m.reopening ≡ true) × (m.mode n ≡ Down))

-- The history of a store whose present logs and pages are p means the machine's state: its records are the committed ones, its
-- present is p, a page is its holder's to log, one that isn't changed in memory (`dirty`) is on the disk, and what an open
-- transaction has locked to write is locked in the history.
pub record Recoverable (dirty : ℕ → Bool) (h : History) (p : Plain) (m : Machine) : Type 0 where
  pub holds : Holds h m.records
  pub roomy : IsRoomy h
  pub rolled : IsRising h
  pub shape : h.devices.shape ≡ m.shape
  pub first : (n : ℕ) → h.devices.first n ≡ first_record m n
  pub live : (n : ℕ) → h.live n ≡ p.live n
  pub maps : (x : ℕ) → x < m.shape.maps → image_now h x ≡ map_page (p.maps x)
  pub pages : (x : ℕ) → m.shape.maps ≤ x → x < page_count m.shape → image_now h x ≡ data_page (p.pages x)
  pub guard : (x n : ℕ) → m.hold x ≡ Some n → h.guard x ≡ n
  pub stored : (x : ℕ) → dirty x ≡ false → IsStored h x
  -- a page that is changed in memory is with the node that logs it
  pub holder : (x : ℕ) → dirty x ≡ true → IsKeptBy m x (h.guard x)
  -- the Begin of the transaction in each seat
  pub begun : ℕ → ℕ → ℕ
  pub seats : (t : TxnId) → is_busy m t ≡ true → TellsSeat h m t (begun t.node.0 t.seat)
  pub opens : (n txn : ℕ) (left : List OpenUpdate) → left_of txn (h.devices.first n) (h.live n) None ≡ Some left → HasSeat m begun n txn
  -- of a node that is up, it stands in the log; after a stop it may have been cut off, while its locks stay
  pub below : (t : TxnId) → m.mode t.node.0 ≡ Up → IsKnown m t → begun t.node.0 t.seat < h.devices.first t.node.0 + length (h.live t.node.0)
  pub apart : (t u : TxnId) → IsKnown m t → IsKnown m u → t.node.0 ≡ u.node.0 → begun t.node.0 t.seat ≡ begun u.node.0 u.seat → t.seat ≡ u.seat
  -- whoever may write a record has its slot locked, and nobody else
  pub locked : (t : TxnId) (key : Key) (x : ℕ) → home m key.0 ≡ Some x → mode_of m.locks key t ≡ Some locks.Write → h.lock x (slot_of_key key.0) ≡ Some (record { node = t.node.0; txn = begun t.node.0 t.seat })
  pub locker : (o : Transaction) (key : Key) (x : ℕ) → home m key.0 ≡ Some x → h.lock x (slot_of_key key.0) ≡ Some o → (t : TxnId) × (mode_of m.locks key t ≡ Some locks.Write) × (o ≡ record { node = t.node.0; txn = begun t.node.0 t.seat })
  -- a node that isn't in use has no open transaction, and none of its transactions has a lock to write
  pub idle : (t : TxnId) → m.mode t.node.0 ≡ Idle → IsKnown m t → ⊥
