-- Each elementary step of a store, on its history and on the machine: what the calls of the layers below have to show, and what
-- then is recoverable.
use Rattle.std.specs.Prelude.{◌≡◌, ◌≢◌, ◌+◌, ◌^◌, ◌<◌, ◌≤◌, ◌++◌, ◌∷◌, [], ℕ, Bool, true, false, Option, Some, None, IsTrue, length}
use Rattle.std.specs.List.{count_by}
use Rattle.sd_base.specs.declared.names.TxnId.{TxnId}
use Rattle.sd_base.specs.declared.shape.Shape.{Shape}
use Rattle.sd_base.specs.Places.{group_of, map_of_key, page_of_place, slot_of_key}
use Rattle.sd_base.specs.Shape.{pages_per_map}
use Rattle.sd_base.specs.declared.page_op.PageOp.{PageOp}
use Rattle.sd_base.specs.declared.page_op.PageOp.TheVariants.{MapUse}
use Rattle.space_map.specs.Image.{MapImage}
use Rattle.space_map.specs.Change.{applied_map}
use Rattle.page_image.specs.declared.page_view.PageView.{PageView}
use Rattle.page_image.specs.Change.{applied}
use Rattle.log_record.specs.declared.record.LogRecord.{LogRecord}
use Rattle.log_record.specs.declared.record.LogRecord.TheVariants.{Begin}
use Rattle.log_record.specs.Fields.{fields_of}
use Rattle.log_record.specs.Record.{change_of}
use Rattle.record_locks.specs.declared.mode.Mode.TheVariants as locks
use Rattle.record_locks.specs.Held.{mode_of}
use Rattle.record_locks.specs.Answer.{lock_answer, may_take}
use Rattle.record_locks.specs.declared.mode.Mode.{Mode}
use Rattle.sd_base.specs.declared.names.Key.{Key}
use Rattle.record_machine.specs.Machine.{Deed, Idle, Machine, Up, Write, newest_of, formatted, free_place, deeds_of, home, is_busy, open_writes, owed, put, seen, writes_page}
use Rattle.record_machine.specs.Parts.{Take, Back, Begin as Begins, Change, Lock, Seal, Start, Unlock, Use, one}
use Rattle.record_machine.specs.Meaning.{born, with_map, Means, Plain, Tells, IsChangedAt, logged, with_page}
use Rattle.recovery_theory.specs.Effect.{Transaction, effect_of, of_slot, open_updates}
use Rattle.recovery_theory.specs.Effect.Effect.{Ended, Mapped, Compensated}
use Rattle.recovery_theory.specs.History.{History, IsCut, entry_now, image_now, logs_at}
use Rattle.recovery_theory.specs.Pages.{IsSlotChange}
use Rattle.recovery_theory.specs.Outcomes.{HasHeadroom, StandsFor}
use Rattle.recovery_theory.specs.Steps as step
use Rattle.recovery_theory.specs.Rules.{RuleOf, owed_by}
use Rattle.recovery_theory.specs.Headroom.{pending_on}
use Rattle.recovery_theory.specs.Room.{HasRoom}
use Rattle.record_machine.specs.Recoverable.{IsKnown, Recoverable}

-- a store as it is formatted
abbrev pub FormattedRecoverable : Type 0
FormattedRecoverable = (s : Shape) → Recoverable (λ x. false) (step.started s) (born s) (formatted s)

-- wherever a stop cuts the logs, the devices stand for the committed records
abbrev pub OutcomesStand : Type 0
OutcomesStand = (dirty : ℕ → Bool) (h : History) (p : Plain) (m : Machine) (nodes : ℕ) (cut : ℕ → ℕ) → Recoverable dirty h p m → HasHeadroom h nodes → IsCut h cut → StandsFor h.devices (logs_at h cut) nodes m.records

-- what the log of a node owes are the machine's deeds at most, so the test of the machine's room is that of the log
abbrev pub OwedByDeeds : Type 0
OwedByDeeds = (dirty : ℕ → Bool) (h : History) (p : Plain) (m : Machine) (n : ℕ) → Recoverable dirty h p m → owed_by (h.devices.first n) (h.live n) ≤ owed m n

-- and what is left to take back in a page are the machine's writes of it at most
abbrev pub PendingByWrites : Type 0
PendingByWrites = (dirty : ℕ → Bool) (h : History) (p : Plain) (m : Machine) (x n : ℕ) → Recoverable dirty h p m → Means p m → pending_on x (h.devices.first n) (h.live n) ≤ count_by (writes_page x) (m.pending n)

-- so the machine's room for identifiers is that of the history, if map pages have it too
abbrev pub HeadroomOfMachine : Type 0
HeadroomOfMachine = (dirty : ℕ → Bool) (h : History) (p : Plain) (m : Machine) → Recoverable dirty h p m → Means p m → ((x : ℕ) → x < m.shape.maps → m.ident x + open_writes m x ≤ 2 ^ 63 + 2 ^ 40) → HasHeadroom h m.shape.nodes

-- a page that isn't changed in memory goes to node n, and a data page only where its map page is that node's
abbrev pub TakenRecoverable : Type 0
TakenRecoverable = (dirty : ℕ → Bool) (h : History) (p : Plain) (m : Machine) (x n : ℕ) → Recoverable dirty h p m
    → dirty x ≡ false
    → ((map place : ℕ) → map < m.shape.maps → place < pages_per_map → x ≡ page_of_place m.shape map place → m.hold map ≡ Some n)
    → Recoverable dirty (step.passed h x n) p (one (Take x n) m)

-- more of a log is stable
abbrev pub ForcedRecoverable : Type 0
ForcedRecoverable = (dirty : ℕ → Bool) (h : History) (p : Plain) (m : Machine) (n k : ℕ) → Recoverable dirty h p m
    → h.stable n ≤ k → k ≤ length (h.live n) → Recoverable dirty (step.forced h n k) p m

-- a page whose records are stable is written
abbrev pub WrittenRecoverable : Type 0
WrittenRecoverable = (dirty : ℕ → Bool) (h : History) (p : Plain) (m : Machine) (x : ℕ) → Recoverable dirty h p m
    → h.last x ≤ h.stable (h.guard x) → Recoverable (put x false dirty) (step.on_disk h x (Some (image_now h x))) p m

-- a node that isn't in use comes up
abbrev pub StartedRecoverable : Type 0
StartedRecoverable = (dirty : ℕ → Bool) (h : History) (p : Plain) (m : Machine) (n : ℕ) → Recoverable dirty h p m → m.mode n ≡ Idle → Recoverable dirty h p (one (Start n) m)

-- A transaction begins at a node that is up, in a seat that is free, and has no lock.
abbrev pub BegunRecoverable : Type 0
BegunRecoverable = (dirty : ℕ → Bool) (h : History) (p : Plain) (m : Machine) (t : TxnId) → Recoverable dirty h p m → Means p m
    → m.mode t.node.0 ≡ Up
    → HasRoom h.devices t.node.0 (h.live t.node.0 ++ Begin ∷ [])
    → deeds_of m t ≡ [] → ((key : Key) → mode_of m.locks key t ≢ Some locks.Write)
    → Recoverable dirty (step.logged h t.node.0 Begin (entry_now h) (image_now h) h.last) (logged t.node.0 Begin p) (one (Begins t) m)

-- A transaction writes the record of a key, which it has locked, in the page of the key's group, which its node has. The log
-- record names the transaction, the page's identifier and the transaction's record before it.
abbrev pub ChangedRecoverable : Type 0
ChangedRecoverable = (dirty : ℕ → Bool) (h : History) (p : Plain) (m : Machine) (t : TxnId) (w : Write) (rec : LogRecord) (op : PageOp) (v : PageView)
    → (r : Recoverable dirty h p m) → Means p m
    → is_busy m t ≡ true
    → home m w.key ≡ Some w.page
    → m.hold w.page ≡ Some t.node.0
    → mode_of m.locks (record { 0 = w.key }) t ≡ Some locks.Write
    → Tells rec w (seen m t w.key)
    → change_of rec ≡ Some op
    → (fields_of rec).txn ≡ r.begun t.node.0 t.seat
    → (fields_of rec).bsi ≡ (p.pages w.page).ident
    → RuleOf (h.devices.first t.node.0) (h.live t.node.0) rec (effect_of rec)
    → HasRoom h.devices t.node.0 (h.live t.node.0 ++ rec ∷ [])
    → v ≡ applied op (p.pages w.page)
    → IsChangedAt (slot_of_key w.key) w.value (p.pages w.page) v
    → Recoverable (put w.page true dirty) (step.changed_page h t.node.0 rec w.page op) (logged t.node.0 rec (with_page w.page v p)) (one (Change t w) m)

-- A group without a page gets the one of the first free place of its map page; the node has both. Whoever may write a record of
-- the group gets its slot. Until the log is forced the new page counts as changed in memory: its entry may still be taken away.
abbrev pub UsedRecoverable : Type 0
UsedRecoverable = (dirty : ℕ → Bool) (h : History) (p : Plain) (m : Machine) (n key place : ℕ) (rec : LogRecord) (map : MapImage) → Recoverable dirty h p m → Means p m
    → m.mode n ≢ Idle
    → home m key ≡ None
    → free_place m key ≡ Some place
    → m.hold (map_of_key m.shape key) ≡ Some n
    → m.hold (page_of_place m.shape (map_of_key m.shape key) place) ≡ Some n
    → effect_of rec ≡ Mapped (map_of_key m.shape key) (p.maps (map_of_key m.shape key)).ident (MapUse place (group_of key))
    → HasRoom h.devices n (h.live n ++ rec ∷ [])
    → map ≡ applied_map (MapUse place (group_of key)) (p.maps (map_of_key m.shape key))
    → (lock : ℕ → ℕ → Option Transaction) × Recoverable (put (page_of_place m.shape (map_of_key m.shape key) place) true (put (map_of_key m.shape key) true dirty)) (step.with_locks (step.used_page h n rec (map_of_key m.shape key) place (group_of key)) lock)
    (logged n rec (with_map (map_of_key m.shape key) map p)) (one (Use n (map_of_key m.shape key) place (group_of key)) m)

-- The newest write of a transaction is taken back, in a page that its node has: the log record is the compensation of the newest
-- update that is left.
abbrev pub BackRecoverable : Type 0
BackRecoverable = (dirty : ℕ → Bool) (h : History) (p : Plain) (m : Machine) (t : TxnId) (d : Deed) (w : Write) (rec : LogRecord) (next : ℕ) (op : PageOp) (v : PageView)
    → (r : Recoverable dirty h p m) → Means p m
    → is_busy m t ≡ true
    → newest_of m t ≡ Some d
    → d.write ≡ Some w
    → m.hold w.page ≡ Some t.node.0
    → effect_of rec ≡ Compensated (r.begun t.node.0 t.seat) next w.page (p.pages w.page).ident op
    → IsSlotChange op
    → RuleOf (h.devices.first t.node.0) (h.live t.node.0) rec (effect_of rec)
    → HasRoom h.devices t.node.0 (h.live t.node.0 ++ rec ∷ [])
    → v ≡ applied op (p.pages w.page)
    → v.ident ≡ (p.pages w.page).ident + 1
    → Recoverable (put w.page true dirty) (step.changed_page h t.node.0 rec w.page op) (logged t.node.0 rec (with_page w.page v p)) (one (Back t) m)

-- A transaction is committed: its end is logged and forced. After an abort has taken all back, this is the end of the abort too.
abbrev pub SealedRecoverable : Type 0
SealedRecoverable = (dirty : ℕ → Bool) (h : History) (p : Plain) (m : Machine) (t : TxnId) (rec : LogRecord) → (r : Recoverable dirty h p m) → Means p m
    → is_busy m t ≡ true
    → effect_of rec ≡ Ended (r.begun t.node.0 t.seat)
    → RuleOf (h.devices.first t.node.0) (h.live t.node.0) rec (effect_of rec)
    → HasRoom h.devices t.node.0 (h.live t.node.0 ++ rec ∷ [])
    → Recoverable dirty (step.ended h t.node.0 (r.begun t.node.0 t.seat) rec) (logged t.node.0 rec p) (one (Seal t) m)

-- A transaction takes a lock that it may have. To write a record of a group that has a page, it gets the slot of the record.
abbrev pub LockedRecoverable : Type 0
LockedRecoverable = (dirty : ℕ → Bool) (h : History) (p : Plain) (m : Machine) (key : Key) (t : TxnId) (mode : Mode) → Recoverable dirty h p m → Means p m
    → is_busy m t ≡ true
    → IsTrue (may_take (lock_answer m.locks key t mode))
    → (lock : ℕ → ℕ → Option Transaction) × Recoverable dirty (step.with_locks h lock) p (one (Lock key t mode) m)

-- The locks of a transaction are released, of which nothing is left wherever its log is cut, and whose number no other one has.
abbrev pub UnlockedRecoverable : Type 0
UnlockedRecoverable = (dirty : ℕ → Bool) (h : History) (p : Plain) (m : Machine) (t : TxnId) → (r : Recoverable dirty h p m)
    → ((cut : ℕ → ℕ) → IsCut h cut → (x s : ℕ) → of_slot x s (open_updates h.devices.first (logs_at h cut) (record { node = t.node.0; txn = r.begun t.node.0 t.seat })) ≡ [])
    → ((u : TxnId) → IsKnown m u → u.node.0 ≡ t.node.0 → r.begun u.node.0 u.seat ≡ r.begun t.node.0 t.seat → u ≡ t)
    → (lock : ℕ → ℕ → Option Transaction) × Recoverable dirty (step.with_locks h lock) p (one (Unlock t) m)
