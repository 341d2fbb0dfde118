-- Each elementary step of a store, a stop among them, on all that it may leave: what the calls of the layers below have to show,
-- and that the store survives it.
use Rattle.std.specs.Prelude.{◌≡◌, ◌≢◌, ◌*◌, ◌^◌, ◌<◌, ◌≤◌, ◌++◌, ◌∷◌, [], ℕ, Bool, true, false, Option, Some, None, IsTrue, length}
use Rattle.sd_base.specs.declared.names.Key.{Key}
use Rattle.sd_base.specs.declared.names.TxnId.{TxnId}
use Rattle.sd_base.specs.declared.page_op.PageOp.{PageOp}
use Rattle.sd_base.specs.declared.page_op.PageOp.TheVariants.{MapUse}
use Rattle.sd_base.specs.declared.shape.Shape.{Shape}
use Rattle.sd_base.specs.Places.{group_of, map_of_key, page_of_place, slot_of_key}
use Rattle.sd_base.specs.Shape.{IsShape, pages_per_map}
use Rattle.page_image.specs.Change.{applied}
use Rattle.page_image.specs.declared.page_view.PageView.{PageView}
use Rattle.space_map.specs.Change.{applied_map}
use Rattle.space_map.specs.Image.{MapImage}
use Rattle.log_record.specs.declared.record.LogRecord.{LogRecord}
use Rattle.log_record.specs.declared.record.LogRecord.TheVariants.{Begin, Commit, Abort}
use Rattle.log_record.specs.Fields.{fields_of}
use Rattle.log_record.specs.Record.{change_of}
use Rattle.record_locks.specs.declared.mode.Mode.{Mode}
use Rattle.record_locks.specs.declared.mode.Mode.TheVariants as locks
use Rattle.record_locks.specs.Answer.{lock_answer, may_take}
use Rattle.record_locks.specs.Held.{Held, mode_of, without_reads_of}
use Rattle.recovery_theory.specs.Effect.{Transaction, effect_of, of_slot, open_updates}
use Rattle.recovery_theory.specs.Effect.Effect.{Compensated, Ended, Mapped}
use Rattle.recovery_theory.specs.History.{History, IsCut, entry_now, image_now, logs_at}
use Rattle.recovery_theory.specs.Pages.{IsSlotChange}
use Rattle.recovery_theory.specs.Room.{HasRoom}
use Rattle.recovery_theory.specs.Rules.{RuleOf}
use Rattle.recovery_theory.specs.Steps as step
use Rattle.record_machine.specs.Cuts.{Survives, SurvivesAs}
use Rattle.record_machine.specs.Machine.{Deed, Idle, Machine, Redone, Up, Write, deeds_of, formatted, free_place, home, is_busy, newest_of, owed, put, seen}
use Rattle.record_machine.specs.Meaning.{IsChangedAt, IsUsed, Plain, Tells, born, has_written, logged, with_map, with_page}
use Rattle.record_machine.specs.Parts.{Back, Begin as Begins, Change, Drop, Lock, Seal, Start, Sure, Take, Unlock, Use, dos, one}
use Rattle.record_machine.specs.Recoverable.{IsKnown}
use Rattle.record_machine.specs.Stops.{halted, stop, stop_in_undo}

-- a store as it is formatted
abbrev pub FormattedSurvives : Type 0
FormattedSurvives = (s : Shape) → IsShape s → Survives (λ x. false) (step.started s) (born s) (formatted s)

-- Node n, which is in use, stops, and its log is cut anywhere behind what is stable. The machine has kept so many of its loose changes: what it is
-- then, but for tables that are lost, is what the shorter logs and their pages mean, and it survives the next stop too.
abbrev pub StoppedSurvives : Type 0
StoppedSurvives = (dirty : ℕ → Bool) (h : History) (p : Plain) (m : Machine) (n cut : ℕ) → Survives dirty h p m → m.mode n ≢ Idle → step.IsPlaceToCut h n cut
    → (kept : ℕ) × (kept ≤ length (m.loose n)) × (q : Plain) × Survives dirty (step.stopped h n cut) q (halted n kept m)

-- So it is where the stop loses the tables, since no node is up: the locks to write stay in the history. No page that a node which is
-- redone logs is changed in memory then,
abbrev pub StoppedWithTables : Type 0
StoppedWithTables = (held : Held) (dirty : ℕ → Bool) (h : History) (p : Plain) (m : Machine) (n cut : ℕ) → SurvivesAs held dirty h p m → m.mode n ≢ Idle → step.IsPlaceToCut h n cut
    → ((x : ℕ) → dirty x ≡ true → m.mode (h.guard x) ≢ Redone)
    → (kept : ℕ) × (kept ≤ length (m.loose n)) × (q : Plain) × SurvivesAs (without_reads_of (record { 0 = n }) held) dirty (step.stopped h n cut) q (stop n kept m)

-- but for one of node u, where it stops as it takes back the open transactions of that one.
abbrev pub StoppedInUndo : Type 0
StoppedInUndo = (held : Held) (dirty : ℕ → Bool) (h : History) (p : Plain) (m : Machine) (u n cut : ℕ) → SurvivesAs held dirty h p m → m.mode u ≢ Idle → m.mode n ≢ Idle → step.IsPlaceToCut h n cut
    → ((x : ℕ) → dirty x ≡ true → m.mode (h.guard x) ≡ Redone → h.guard x ≡ u)
    → (kept : ℕ) × (kept ≤ length (m.loose n)) × (q : Plain) × SurvivesAs (without_reads_of (record { 0 = n }) held) dirty (step.stopped h n cut) q (stop_in_undo u n kept m)

-- a node of the store that isn't in use comes up
abbrev pub StartedSurvives : Type 0
StartedSurvives = (dirty : ℕ → Bool) (h : History) (p : Plain) (m : Machine) (n : ℕ) → Survives dirty h p m → m.mode n ≡ Idle → 1 ≤ n → n ≤ m.shape.nodes → Survives dirty h p (one (Start n) m)

-- a page that isn't changed in memory goes to node n, and a data page only where its map page is that node's
abbrev pub TakenSurvives : Type 0
TakenSurvives = (dirty : ℕ → Bool) (h : History) (p : Plain) (m : Machine) (x n : ℕ) → Survives dirty h p m
    → dirty x ≡ false
    → ((map place : ℕ) → map < m.shape.maps → place < pages_per_map → x ≡ page_of_place m.shape map place → m.hold map ≡ Some n)
    → Survives dirty (step.passed h x n) p (one (Take x n) m)

-- nobody holds a page any more, which isn't changed in memory
abbrev pub DroppedSurvives : Type 0
DroppedSurvives = (dirty : ℕ → Bool) (h : History) (p : Plain) (m : Machine) (x : ℕ) → Survives dirty h p m → dirty x ≡ false → Survives dirty h p (one (Drop x) m)

-- more of a log is stable
abbrev pub ForcedSurvives : Type 0
ForcedSurvives = (dirty : ℕ → Bool) (h : History) (p : Plain) (m : Machine) (n k : ℕ) → Survives dirty h p m → h.stable n ≤ k → k ≤ length (h.live n) → Survives dirty (step.forced h n k) p m

-- all that the node has logged is made sure, where its log is stable
abbrev pub SureSurvives : Type 0
SureSurvives = (dirty : ℕ → Bool) (h : History) (p : Plain) (m : Machine) (n : ℕ) → Survives dirty h p m → h.stable n ≡ length (h.live n) → Survives dirty h p (one (Sure n) m)

-- a page whose records are stable is written
abbrev pub WrittenSurvives : Type 0
WrittenSurvives = (dirty : ℕ → Bool) (h : History) (p : Plain) (m : Machine) (x : ℕ) → Survives dirty h p m → h.last x ≤ h.stable (h.guard x) → Survives (put x false dirty) (step.on_disk h x (Some (image_now h x))) p m

-- A transaction begins at a node that is up, in a seat that is free, and has no lock.
abbrev pub BegunSurvives : Type 0
BegunSurvives = (dirty : ℕ → Bool) (h : History) (p : Plain) (m : Machine) (t : TxnId) → Survives dirty h p m
    → m.mode t.node.0 ≡ Up
    → HasRoom h.devices t.node.0 (h.live t.node.0 ++ Begin ∷ [])
    → deeds_of m t ≡ [] → ((key : Key) → mode_of m.locks key t ≢ Some locks.Write)
    → Survives dirty (step.logged h t.node.0 Begin (entry_now h) (image_now h) h.last) (logged t.node.0 Begin p) (one (Begins t) m)

-- A transaction of a node that is in use writes the record of a key, which it has locked, in the page of the key's group, which its
-- node has.
abbrev pub ChangedSurvives : Type 0
ChangedSurvives = (dirty : ℕ → Bool) (h : History) (p : Plain) (m : Machine) (t : TxnId) (w : Write) (rec : LogRecord) (op : PageOp) (v : PageView) → (s : Survives dirty h p m)
    → m.mode t.node.0 ≢ Idle
    → is_busy m t ≡ true
    → home m w.key ≡ Some w.page
    → m.hold w.page ≡ Some t.node.0
    → mode_of m.locks (record { 0 = w.key }) t ≡ Some locks.Write
    → Tells rec w (seen m t w.key)
    → change_of rec ≡ Some op
    → (fields_of rec).txn ≡ s.recoverable.begun t.node.0 t.seat
    → (fields_of rec).bsi ≡ (p.pages w.page).ident
    → RuleOf (h.devices.first t.node.0) (h.live t.node.0) rec (effect_of rec)
    → HasRoom h.devices t.node.0 (h.live t.node.0 ++ rec ∷ [])
    → v ≡ applied op (p.pages w.page)
    → IsChangedAt (slot_of_key w.key) w.value (p.pages w.page) v
    → m.ident w.page < 2 ^ 63 → ((n : ℕ) → 1 ≤ n → n ≤ m.shape.nodes → owed m n ≤ 6 * m.shape.ring)
    → Survives (put w.page true dirty) (step.changed_page h t.node.0 rec w.page op) (logged t.node.0 rec (with_page w.page v p)) (one (Change t w) m)

-- A group without a page gets the one of the first free place of its map page; the node, which is in use, has both.
abbrev pub UsedSurvives : Type 0
UsedSurvives = (dirty : ℕ → Bool) (h : History) (p : Plain) (m : Machine) (n key place : ℕ) (rec : LogRecord) (map : MapImage) → Survives dirty h p m
    → m.mode n ≢ Idle
    → home m key ≡ None
    → free_place m key ≡ Some place
    → m.hold (map_of_key m.shape key) ≡ Some n
    → m.hold (page_of_place m.shape (map_of_key m.shape key) place) ≡ Some n
    → effect_of rec ≡ Mapped (map_of_key m.shape key) (p.maps (map_of_key m.shape key)).ident (MapUse place (group_of key))
    → HasRoom h.devices n (h.live n ++ rec ∷ [])
    → map ≡ applied_map (MapUse place (group_of key)) (p.maps (map_of_key m.shape key))
    → IsUsed m (map_of_key m.shape key) place (group_of key) (p.maps (map_of_key m.shape key)) map
    → (lock : ℕ → ℕ → Option Transaction) × Survives (put (page_of_place m.shape (map_of_key m.shape key) place) true (put (map_of_key m.shape key) true dirty)) (step.with_locks (step.used_page h n rec (map_of_key m.shape key) place (group_of key)) lock)
    (logged n rec (with_map (map_of_key m.shape key) map p)) (one (Use n (map_of_key m.shape key) place (group_of key)) m)

-- The newest write of a transaction is taken back, in a page that its node has. So it is of a node that is recovered, too.
abbrev pub BackSurvives : Type 0
BackSurvives = (dirty : ℕ → Bool) (h : History) (p : Plain) (m : Machine) (t : TxnId) (d : Deed) (w : Write) (rec : LogRecord) (next : ℕ) (op : PageOp) (v : PageView) → (s : Survives dirty h p m)
    → m.mode t.node.0 ≢ Idle
    → is_busy m t ≡ true
    → newest_of m t ≡ Some d
    → d.write ≡ Some w
    → 1 ≤ t.node.0 → t.node.0 ≤ m.shape.nodes
    → m.hold w.page ≡ Some t.node.0
    → effect_of rec ≡ Compensated (s.recoverable.begun t.node.0 t.seat) next w.page (p.pages w.page).ident op
    → IsSlotChange op
    → RuleOf (h.devices.first t.node.0) (h.live t.node.0) rec (effect_of rec)
    → HasRoom h.devices t.node.0 (h.live t.node.0 ++ rec ∷ [])
    → v ≡ applied op (p.pages w.page)
    → IsChangedAt (slot_of_key w.key) (seen (one (Back t) m) t w.key) (p.pages w.page) v
    → Survives (put w.page true dirty) (step.changed_page h t.node.0 rec w.page op) (logged t.node.0 rec (with_page w.page v p)) (one (Back t) m)

-- A transaction ends: its end is logged and forced.
abbrev pub SealedSurvives : Type 0
SealedSurvives = (dirty : ℕ → Bool) (h : History) (p : Plain) (m : Machine) (t : TxnId) (rec : LogRecord) → (s : Survives dirty h p m)
    → is_busy m t ≡ true
    → effect_of rec ≡ Ended (s.recoverable.begun t.node.0 t.seat)
    → RuleOf (h.devices.first t.node.0) (h.live t.node.0) rec (effect_of rec)
    → HasRoom h.devices t.node.0 (h.live t.node.0 ++ rec ∷ [])
    → Survives dirty (step.ended h t.node.0 (s.recoverable.begun t.node.0 t.seat) rec) (logged t.node.0 rec p) (one (Seal t) m)

-- the record is the commit, or the abort, of this transaction
abbrev pub IsCommitOf : ℕ → LogRecord → Type 0
IsCommitOf t (Commit txn prev) = txn ≡ t
IsCommitOf t rec = ⊥

abbrev pub IsAbortOf : ℕ → LogRecord → Type 0
IsAbortOf t (Abort txn prev) = txn ≡ t
IsAbortOf t rec = ⊥

-- a commit ends by its own record
abbrev pub CommittedSurvives : Type 0
CommittedSurvives = (dirty : ℕ → Bool) (h : History) (p : Plain) (m : Machine) (t : TxnId) (rec : LogRecord) → (s : Survives dirty h p m)
    → is_busy m t ≡ true
    → IsCommitOf (s.recoverable.begun t.node.0 t.seat) rec
    → RuleOf (h.devices.first t.node.0) (h.live t.node.0) rec (effect_of rec)
    → HasRoom h.devices t.node.0 (h.live t.node.0 ++ rec ∷ [])
    → Survives dirty (step.ended h t.node.0 (s.recoverable.begun t.node.0 t.seat) rec) (logged t.node.0 rec p) (one (Seal t) m)

-- An abort ends by another one, once all that its transaction has written is taken back. So it changes no committed record.
abbrev pub AbortedSurvives : Type 0
AbortedSurvives = (dirty : ℕ → Bool) (h : History) (p : Plain) (m : Machine) (t : TxnId) (rec : LogRecord) → (s : Survives dirty h p m)
    → is_busy m t ≡ true
    → newest_of m t ≡ None
    → IsAbortOf (s.recoverable.begun t.node.0 t.seat) rec
    → RuleOf (h.devices.first t.node.0) (h.live t.node.0) rec (effect_of rec)
    → HasRoom h.devices t.node.0 (h.live t.node.0 ++ rec ∷ [])
    → Survives dirty (step.ended h t.node.0 (s.recoverable.begun t.node.0 t.seat) rec) (logged t.node.0 rec p) (one (Seal t) m) × ((key : ℕ) → (one (Seal t) m).records key ≡ m.records key)

-- The locks of a transaction are released that has written nothing: nothing is left of it wherever its log is cut, nothing of its
-- node is loose, and no other transaction has its number.
abbrev pub UnlockedSurvives : Type 0
UnlockedSurvives = (dirty : ℕ → Bool) (h : History) (p : Plain) (m : Machine) (t : TxnId) → (s : Survives dirty h p m)
    → ((cut : ℕ → ℕ) → IsCut h cut → (x k : ℕ) → of_slot x k (open_updates h.devices.first (logs_at h cut) (record { node = t.node.0; txn = s.recoverable.begun t.node.0 t.seat })) ≡ [])
    → ((u : TxnId) → IsKnown m u → u.node.0 ≡ t.node.0 → s.recoverable.begun u.node.0 u.seat ≡ s.recoverable.begun t.node.0 t.seat → u ≡ t)
    → m.loose t.node.0 ≡ []
    → ((key : ℕ) → has_written m t key ≡ false)
    → (lock : ℕ → ℕ → Option Transaction) × Survives dirty (step.with_locks h lock) p (one (Unlock t) m)

-- A transaction takes a lock that it may have.
abbrev pub LockedSurvives : Type 0
LockedSurvives = (dirty : ℕ → Bool) (h : History) (p : Plain) (m : Machine) (key : Key) (t : TxnId) (mode : Mode) → Survives dirty h p m
    → is_busy m t ≡ true
    → IsTrue (may_take (lock_answer m.locks key t mode))
    → (lock : ℕ → ℕ → Option Transaction) × Survives dirty (step.with_locks h lock) p (one (Lock key t mode) m)

-- A transaction ends, its log is stable, and its locks are released.
abbrev pub EndedSurvives : Type 0
EndedSurvives = (dirty : ℕ → Bool) (h : History) (p : Plain) (m : Machine) (t : TxnId) (rec : LogRecord) → (s : Survives dirty h p m)
    → is_busy m t ≡ true
    → effect_of rec ≡ Ended (s.recoverable.begun t.node.0 t.seat)
    → RuleOf (h.devices.first t.node.0) (h.live t.node.0) rec (effect_of rec)
    → HasRoom h.devices t.node.0 (h.live t.node.0 ++ rec ∷ [])
    → (lock : ℕ → ℕ → Option Transaction) × Survives dirty (step.with_locks (step.ended h t.node.0 (s.recoverable.begun t.node.0 t.seat) rec) lock) (logged t.node.0 rec p) (dos (Seal t ∷ Unlock t ∷ []) m)
