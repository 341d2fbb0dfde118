-- How far a call has led the machine: it did all parts, or a node stopped in it.
use Rattle.std.specs.Prelude.{◌≡◌, ◌⊎◌, ◌≤◌, ◌∷◌, ℕ, Bool, true, false, All, List, Option, Some, None, Result, Ok, Err, drop, is_none, length, take, if◌then◌else◌, ⊤}
use Rattle.script_text.specs.declared.reply.Reply.{Reply}
use Rattle.script_text.specs.declared.reply.Reply.TheVariants as says
use Rattle.record_machine.specs.Machine.{Machine}
use Rattle.record_machine.specs.Parts.{Part, Take, Unlock, dos}
use Rattle.record_machine.specs.Stops.{stop}

-- locks are released
abbrev pub is_unlock : Part → Bool
is_unlock (Unlock t) = true
is_unlock part = false

-- the first of these parts takes a page from this node
abbrev pub TakesFrom : ℕ → List Part → Machine → Type 0
TakesFrom h (Take x n ∷ ps) m = m.hold x ≡ Some h
TakesFrom h ps m = ⊥

-- Node h has stopped in a call by node n that was to do these parts. A front of them is done, in which no lock was released.
-- Where h isn't the node whose port does the work, it was to write a page that is to be taken from it. Then the node stops, with
-- so many of its loose changes kept, and the machine goes on to a state of S.
pub record Broke (n h : ℕ) (ps : List Part) (m : Machine) (S : Machine → Type 0) : Type 0 where
  pub count : ℕ
  pub locked : All (λ part. is_unlock part ≡ false) (take count ps)
  pub port : (h ≡ n) ⊎ TakesFrom h (drop count ps) (dos (take count ps) m)
  pub kept : ℕ
  pub within : kept ≤ length ((dos (take count ps) m).loose h)
  pub shows : S (stop h kept (dos (take count ps) m))

-- the reply says that a node stopped in such a call
abbrev pub LedErr : ℕ → Reply → List Part → Machine → (Machine → Type 0) → Type 0
LedErr n (says.Stopped h) ps m S = Broke n h.0 ps m S
LedErr n (says.Fault h) ps m S = Broke n h.0 ps m S
LedErr n why ps m S = ⊥

-- where the reply says so, this holds; what another reply leaves is said elsewhere
abbrev pub LedOnStop : ℕ → Reply → List Part → Machine → (Machine → Type 0) → Type 0
LedOnStop n (says.Stopped h) ps m S = Broke n h.0 ps m S
LedOnStop n (says.Fault h) ps m S = Broke n h.0 ps m S
LedOnStop n why ps m S = ⊤

-- A call by node n that may only do these parts, or stop: what it leaves is a state of S.
abbrev pub Led : {A : Type 0} → ℕ → Result A Reply → List Part → Machine → (Machine → Type 0) → Type 0
Led n (Ok x) ps m S = S (dos ps m)
Led n (Err why) ps m S = LedErr n why ps m S

-- what a call that is refused for a reason leaves, for a state of S
abbrev pub Leaves : Type 1
Leaves = Reply → (Machine → Type 0) → Type 0

-- The reply is the call's refusal, or says that a node stopped: in one of its parts, or, where it is to be refused, as its pages were
-- taken.
abbrev pub LedOrErr : ℕ → Option Reply → Reply → (ps takes : List Part) → Leaves → Machine → (Machine → Type 0) → Type 0
LedOrErr n why (says.Stopped h) ps takes leaves m S = Broke n h.0 (if is_none why then ps else takes) m S
LedOrErr n why (says.Fault h) ps takes leaves m S = Broke n h.0 (if is_none why then ps else takes) m S
LedOrErr n why reply ps takes leaves m S = (why ≡ Some reply) × leaves reply S

-- A call by node n that does these parts, where nothing refuses it, or is refused, or stops. It says what a refusal leaves, as
-- `StaysAs` does for a command.
abbrev pub LedOr : {A : Type 0} → ℕ → Option Reply → Result A Reply → (ps takes : List Part) → Leaves → Machine → (Machine → Type 0) → Type 0
LedOr n why (Ok x) ps takes leaves m S = (why ≡ None) × S (dos ps m)
LedOr n why (Err reply) ps takes leaves m S = LedOrErr n why reply ps takes leaves m S
