-- How far the identifier of each page may rise: no cut needs more than the present.
use Rattle.std.specs.Prelude.{ℕ, suc, ◌≡◌, ◌≢◌, ◌≤◌, ◌+◌, ◌⊎◌, ◌∷◌, [], cond, eqb, List, Option, Some, None, length, drop}
use Rattle.sd_base.specs.declared.shape.Shape.{Shape}
use Rattle.space_map.specs.declared.map_entry.MapEntry.{MapEntry}
use Rattle.log_record.specs.declared.record.LogRecord.{LogRecord}
use Rattle.recovery_theory.specs.Effect.{OpenUpdate, left_of, step_on, steps_on}
use Rattle.recovery_theory.specs.History.{History, IsCut, IsHistory, image_at, image_now, logs_at}
use Rattle.recovery_theory.specs.Steps.{IsStablePage, ended, forced, logged, moved, passed, started, stopped}
use Rattle.recovery_theory.specs.Rules.{total}
use Rattle.recovery_theory.specs.Room.{IsRoomy}
use Rattle.space_map.specs.PageImage.{PageImage, ident_of}

-- how many of these updates are of page x: each of them may still be taken back
abbrev pub count_on : ℕ → List OpenUpdate → ℕ
count_on x [] = 0
count_on x (u ∷ us) = cond (eqb u.page x) (suc (count_on x us)) (count_on x us)

-- of those of one transaction
abbrev pub pending_of : ℕ → Option (List OpenUpdate) → ℕ
pending_of x None = 0
pending_of x (Some us) = count_on x us

-- of all transactions in the log of a node
abbrev pub pending_on : ℕ → ℕ → List LogRecord → ℕ
pending_on x first recs = total (λ t. pending_of x (left_of t first recs None)) (first + length recs)

-- in the logs of nodes 1 to this number
abbrev pub all_pending : ℕ → (ℕ → ℕ) → (ℕ → List LogRecord) → ℕ → ℕ
all_pending x first logs nodes = total (λ n. pending_on x (first (suc n)) (logs (suc n))) nodes

-- The identifier of a page rises with each of its steps in its guard's log, and no other log has a step of it that isn't stable.
pub record IsRising (p : History) : Type 0 where
  pub others : (x n : ℕ) → n ≢ p.guard x → steps_on x (drop (p.stable n) (p.live n)) ≡ []
  pub own : (x k : ℕ) → p.stable (p.guard x) ≤ k → k ≤ length (p.live (p.guard x)) → ident_of (p.image x k) + length (steps_on x (drop k (p.live (p.guard x)))) ≤ ident_of (image_now p x)

-- where the present leaves room below a bound to take all back, each cut does
abbrev pub HeadroomAtCuts : Type 0
HeadroomAtCuts = (p : History) (cut : ℕ → ℕ) (nodes x bound : ℕ) → IsHistory p → IsRoomy p → IsRising p → IsCut p cut
    → ident_of (image_now p x) + all_pending x p.devices.first p.live nodes ≤ bound → ident_of (image_at p cut x) + all_pending x p.devices.first (logs_at p cut) nodes ≤ bound

-- ---- what each step has to show; the others change neither logs nor guards nor images

-- a record is appended, whose page its node guards
abbrev pub LoggedKeepsRising : Type 0
LoggedKeepsRising = (p : History) (n : ℕ) (r : LogRecord) (entry : ℕ → MapEntry) (now : ℕ → PageImage) (last : ℕ → ℕ) → IsHistory p → IsRising p
    → ((y : ℕ) → (step_on y r ≡ []) ⊎ (p.guard y ≡ n)) → ((y : ℕ) → p.guard y ≡ n → ident_of (image_now p y) + length (step_on y r) ≤ ident_of (now y)) → IsRising (logged p n r entry now last)

-- a transaction ends
abbrev pub EndKeepsRising : Type 0
EndKeepsRising = (p : History) (n t : ℕ) (r : LogRecord) → IsRising p → ((y : ℕ) → step_on y r ≡ []) → IsRising (ended p n t r)

-- more of a log is stable
abbrev pub ForceKeepsRising : Type 0
ForceKeepsRising = (p : History) (n k : ℕ) → IsRising p → p.stable n ≤ k → IsRising (forced p n k)

-- a node stops
abbrev pub StopKeepsRising : Type 0
StopKeepsRising = (p : History) (n k : ℕ) → IsRising p → k ≤ length (p.live n) → IsRising (stopped p n k)

-- a page passes to another node
abbrev pub PassKeepsRising : Type 0
PassKeepsRising = (p : History) (x m : ℕ) → IsHistory p → IsRising p → IsStablePage p x → IsRising (passed p x m)

-- the start of a log moves
abbrev pub MoveKeepsRising : Type 0
MoveKeepsRising = (p : History) (n c : ℕ) → IsRising p → p.stable n ≡ length (p.live n) → IsRising (moved p n c)

-- a store as it is formatted
abbrev pub FormattedIsRising : Type 0
FormattedIsRising = (s : Shape) → IsRising (started s)
