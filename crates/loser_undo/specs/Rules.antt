-- The rules of a live log, as they are read off its records.
use Rattle.std.specs.Prelude.{ℕ, suc, ⊤, Bool, true, false, cond, eqb, ◌≡◌, ◌≢◌, ◌≤◌, ◌<◌, ◌-◌, ◌++◌, List, [], ◌∷◌, Contains, length, take, Option, Some, None}
use Rattle.log_record.specs.declared.record.LogRecord.{LogRecord}
use Rattle.compensation.specs.Left.{next_after}
use Rattle.compensation.specs.Finding.{record_at, record_before}
use Rattle.recovery_theory.specs.Effect.{Effect, effect_of}
use Rattle.recovery_theory.specs.Effect.Effect.{Begun, Updated, Ended, Compensated, Mapped}
use Rattle.recovery_theory.specs.Rules.{is_end}

-- the transaction that a record names
abbrev pub txn_named : Effect → Option ℕ
txn_named Begun = None
txn_named (Updated txn page bsi op back) = Some txn
txn_named (Ended txn) = Some txn
txn_named (Compensated txn next page bsi op) = Some txn
txn_named (Mapped page bsi op) = None

-- the record is one of transaction t, but for the one that begins it
abbrev pub Names : ℕ → LogRecord → Type 0
Names t rec = txn_named (effect_of rec) ≡ Some t

-- ---- which transactions are open

-- these numbers without t
abbrev pub without : ℕ → List ℕ → List ℕ
without t [] = []
without t (u ∷ us) = cond (eqb u t) us (u ∷ without t us)

-- what record r makes of the transactions that are open
abbrev pub open_by : ℕ → Effect → List ℕ → List ℕ
open_by r Begun ts = ts ++ r ∷ []
open_by r (Updated txn page bsi op back) ts = ts
open_by r (Ended txn) ts = without txn ts
open_by r (Compensated txn next page bsi op) ts = ts
open_by r (Mapped page bsi op) ts = ts

-- the transactions that are open behind these records, the first of which has number r, where those of `ts` were before them
abbrev pub open_after : ℕ → List LogRecord → List ℕ → List ℕ
open_after r [] ts = ts
open_after r (rec ∷ l) ts = open_after (suc r) l (open_by r (effect_of rec) ts)

-- The transactions that have begun in these records and not ended, named by the numbers of the records that began them, in
-- the order in which they began.
abbrev pub open_in : ℕ → List LogRecord → List ℕ
open_in first recs = open_after first recs []

-- those that were open when record r was written
abbrev pub open_at : ℕ → List LogRecord → ℕ → List ℕ
open_at first recs r = open_in first (take (r - first) recs)

-- ---- the rules

-- The rule of a record among the open transactions: at most eight are open at once, and a record names an open one, or one that
-- began before the log's first record.
pub record MayFollow (first : ℕ) (ts : List ℕ) (e : Effect) : Type 0 where
  pub few : e ≡ Begun → length ts < 8
  pub going : (t : ℕ) → txn_named e ≡ Some t → first ≤ t → Contains ts t

-- record p is one of transaction t before record r, or the one that began it
pub record IsEarlier (first : ℕ) (recs : List LogRecord) (t r p : ℕ) : Type 0 where
  pub from : t ≤ p
  pub below : p < r
  pub own : p ≢ t → (rec : LogRecord) × (record_at first recs p ≡ Some rec) × Names t rec

-- A record of a transaction that has no end leads to earlier ones of it: it names the one before it, and a compensation the one
-- that is next to be taken back.
pub record LeadsBack (first : ℕ) (recs : List LogRecord) (t r : ℕ) (rec : LogRecord) : Type 0 where
  pub going : is_end (effect_of rec) ≡ false
  pub before : IsEarlier first recs t r (record_before rec)
  pub next : (n : ℕ) → next_after t rec ≡ Some n → IsEarlier first recs t r n

-- a record behind record r names transaction t, and ends it if `ending` says so
pub record IsFollowed (first : ℕ) (recs : List LogRecord) (ending : Bool) (t r : ℕ) : Type 0 where
  pub number : ℕ
  pub rec : LogRecord
  pub behind : r < number
  pub there : record_at first recs number ≡ Some rec
  pub names : Names t rec
  pub ends : ending ≡ true → is_end (effect_of rec) ≡ true

-- A transaction that began before the log's first record has an end, and no record behind it.
pub record IsOfPast (first : ℕ) (recs : List LogRecord) (t r : ℕ) (rec : LogRecord) : Type 0 where
  pub ended : is_end (effect_of rec) ≡ false → IsFollowed first recs true t r
  pub last : is_end (effect_of rec) ≡ true → ¬ (IsFollowed first recs false t r)

-- the rule of record r, which names transaction t
pub record IsBound (first : ℕ) (recs : List LogRecord) (t r : ℕ) (rec : LogRecord) : Type 0 where
  pub past : t < first → IsOfPast first recs t r rec
  pub back : first ≤ t → Contains (open_in first recs) t → LeadsBack first recs t r rec

-- the rules of record r
pub record KeepsRule (first : ℕ) (recs : List LogRecord) (r : ℕ) (rec : LogRecord) : Type 0 where
  pub follows : MayFollow first (open_at first recs r) (effect_of rec)
  pub bound : (t : ℕ) → Names t rec → IsBound first recs t r rec

-- each record keeps its rules
abbrev pub KeepsRules : ℕ → List LogRecord → Type 0
KeepsRules first recs = (r : ℕ) (rec : LogRecord) → record_at first recs r ≡ Some rec → KeepsRule first recs r rec

-- each record keeps its rule among the open transactions
abbrev pub AllFollow : ℕ → List LogRecord → Type 0
AllFollow first recs = (r : ℕ) (rec : LogRecord) → record_at first recs r ≡ Some rec → MayFollow first (open_at first recs r) (effect_of rec)

-- each of these numbers is from `low` on and below `high`
abbrev pub AreBetween : ℕ → ℕ → List ℕ → Type 0
AreBetween low high [] = ⊤
AreBetween low high (t ∷ ts) = (low ≤ t) × (t < high) × AreBetween low high ts

-- each record keeps its rule for each transaction that it names
abbrev pub AllAreBound : ℕ → List LogRecord → Type 0
AllAreBound first recs = (r : ℕ) (rec : LogRecord) → record_at first recs r ≡ Some rec → (t : ℕ) → Names t rec → IsBound first recs t r rec

-- each record of transaction t leads to earlier ones of it
abbrev pub AllLeadBack : ℕ → List LogRecord → ℕ → Type 0
AllLeadBack first recs t = (r : ℕ) (rec : LogRecord) → record_at first recs r ≡ Some rec → Names t rec → LeadsBack first recs t r rec
