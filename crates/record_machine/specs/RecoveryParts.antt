-- The steps that recover a node, on all that they may leave: what has to be shown of each, and that the store survives it. What takes
-- back a write of the node, and what ends a transaction of it, are the parts of a command (CutParts).
use Rattle.std.specs.Prelude.{◌≡◌, ◌≢◌, [], ℕ, Bool, true, false, Option}
use Rattle.space_map.specs.PageImage.{PageImage}
use Rattle.record_locks.specs.Held.{Held, without_node}
use Rattle.recovery_theory.specs.Effect.{Transaction}
use Rattle.recovery_theory.specs.History.{History}
use Rattle.recovery_theory.specs.Redo.{ArePartlyRedone, with_disk}
use Rattle.recovery_theory.specs.Steps as step
use Rattle.record_machine.specs.Cuts.{Survives, SurvivesAs}
use Rattle.record_machine.specs.Machine.{Idle, Machine}
use Rattle.record_machine.specs.Meaning.{Plain}
use Rattle.record_machine.specs.Recoverable.{IsStored}
use Rattle.record_machine.specs.RecoverySteps.{freed, holding_none, redone}
use Rattle.record_machine.specs.Stops.{recovered}

-- Redo of a node's log is broken off, with any pages written: those that count as stored then are on the disk as they are.
abbrev pub RedoBreaksOff : Type 0
RedoBreaksOff = (dirty dirty' : ℕ → Bool) (h : History) (p : Plain) (m : Machine) (n : ℕ) (disk : ℕ → Option PageImage) → Survives dirty h p m
    → ArePartlyRedone h n disk
    → ((x : ℕ) → dirty' x ≡ false → IsStored (with_disk h disk) x)
    → ((x : ℕ) → dirty' x ≡ true → dirty x ≡ true)
    → Survives dirty' (with_disk h disk) p m

-- The log of a node that is in use is redone.
abbrev pub RedoneSurvives : Type 0
RedoneSurvives = (dirty dirty' : ℕ → Bool) (h : History) (p : Plain) (m : Machine) (n : ℕ) (disk : ℕ → Option PageImage) → Survives dirty h p m
    → m.mode n ≢ Idle
    → ArePartlyRedone h n disk
    → ((x : ℕ) → dirty' x ≡ false → IsStored (with_disk h disk) x)
    → ((x : ℕ) → dirty' x ≡ true → (dirty x ≡ true) × (h.guard x ≢ n))
    → Survives dirty' (with_disk h disk) p (redone n m)

-- A node gives up all pages that it holds; none that it logs is changed in memory.
abbrev pub GivenUpSurvives : Type 0
GivenUpSurvives = (dirty : ℕ → Bool) (h : History) (p : Plain) (m : Machine) (u : ℕ) → Survives dirty h p m
    → ((x : ℕ) → dirty x ≡ true → h.guard x ≢ u)
    → Survives dirty h p (holding_none u m)

-- Nothing is left of a node's transactions, nothing of it is loose, and no page that it logs is changed in memory: its locks go, and it is up or idle.
abbrev pub FreedSurvives : Type 0
FreedSurvives = (dirty : ℕ → Bool) (h : History) (p : Plain) (m : Machine) (u w : ℕ) → Survives dirty h p m
    → m.mode u ≢ Idle → m.pending u ≡ [] → m.loose u ≡ [] → ((x : ℕ) → dirty x ≡ true → h.guard x ≢ u)
    → (lock : ℕ → ℕ → Option Transaction) × Survives dirty (step.with_locks h lock) p (freed u w m)

-- So it is where the tables are lost; with the last node that awaits recovery they aren't any more, and the locks are the store's own.
abbrev pub RecoveredSurvives : Type 0
RecoveredSurvives = (held : Held) (dirty : ℕ → Bool) (h : History) (p : Plain) (m : Machine) (u w : ℕ) → SurvivesAs held dirty h p m
    → m.mode u ≢ Idle → m.pending u ≡ [] → m.loose u ≡ [] → ((x : ℕ) → dirty x ≡ true → h.guard x ≢ u)
    → (lock : ℕ → ℕ → Option Transaction) × SurvivesAs (without_node (record { 0 = u }) held) dirty (step.with_locks h lock) p (recovered (freed u w m))
