-- The rules of a live log, as each record keeps them when it is appended. So every front of a log that keeps them does too.
use Rattle.std.specs.Prelude.{ℕ, zero, suc, ⊤, Bool, false, true, cond, eqb, ◌≡◌, ◌<◌, ◌≤◌, ◌+◌, ◌++◌, ◌||◌, List, [], ◌∷◌, length, Option, Some, None, IsSome}
use Rattle.sd_base.specs.declared.page_op.PageOp.{PageOp}
use Rattle.log_record.specs.declared.record.LogRecord.{LogRecord}
use Rattle.compensation.specs.Left.{uncompensated}
use Rattle.compensation.specs.Finding.{TellsLeft, next_behind, record_at, record_before}
use Rattle.recovery_theory.specs.Effect.{Effect, OpenUpdate, down_to, effect_of, left_of}
use Rattle.recovery_theory.specs.Effect.Effect.{Begun, Updated, Ended, Compensated, Mapped}

-- the record is one of transaction t, but for the one that begins it
abbrev pub is_record_of : ℕ → Effect → Bool
is_record_of t Begun = false
is_record_of t (Updated txn page bsi op back) = eqb txn t
is_record_of t (Ended txn) = eqb txn t
is_record_of t (Compensated txn next page bsi op) = eqb txn t
is_record_of t (Mapped page bsi op) = false

-- the record ends transaction t
abbrev pub ends : ℕ → Effect → Bool
ends t Begun = false
ends t (Updated txn page bsi op back) = false
ends t (Ended txn) = eqb txn t
ends t (Compensated txn next page bsi op) = false
ends t (Mapped page bsi op) = false

-- the transaction has ended in these records
abbrev pub has_ended : ℕ → List LogRecord → Bool
has_ended t [] = false
has_ended t (rec ∷ l) = ends t (effect_of rec) || has_ended t l

-- the last record of transaction t among these, the first of which has number r; or else `last`
abbrev pub last_record_of : ℕ → ℕ → List LogRecord → ℕ → ℕ
last_record_of t r [] last = last
last_record_of t r (rec ∷ l) last = last_record_of t (suc r) l (cond (is_record_of t (effect_of rec)) r last)

-- A record of transaction t names one that has begun and hasn't ended, and the record of it before this one. Of a transaction
-- that began before the log's first record only the first is asked: it has ended.
pub record Follows (first : ℕ) (before : List LogRecord) (t : ℕ) (rec : LogRecord) : Type 0 where
  pub below : t < first + length before
  pub going : has_ended t before ≡ false
  pub begun : first ≤ t → IsSome (left_of t first before None)
  pub prev : first ≤ t → record_before rec ≡ last_record_of t first before t

-- a compensation takes back the newest update that is left, and names the record that is next behind it
pub record TakesBack (first : ℕ) (before : List LogRecord) (t next page : ℕ) (op : PageOp) : Type 0 where
  pub undo : OpenUpdate
  pub rest : List OpenUpdate
  pub newest : left_of t first before None ≡ Some (undo ∷ rest)
  pub page_is : undo.page ≡ page
  pub op_is : undo.back ≡ op
  pub update : LogRecord
  pub there : record_at first before undo.number ≡ Some update
  pub next_is : next ≡ next_behind t first before update

-- the rule of a record behind these
abbrev pub RuleOf : ℕ → List LogRecord → LogRecord → Effect → Type 0
RuleOf first before rec Begun = ⊤
RuleOf first before rec (Updated txn page bsi op back) = Follows first before txn rec
RuleOf first before rec (Ended txn) = Follows first before txn rec
RuleOf first before rec (Compensated txn next page bsi op) = Follows first before txn rec × (first ≤ txn → TakesBack first before txn next page op)
RuleOf first before rec (Mapped page bsi op) = ⊤

-- each of these records keeps its rule
abbrev pub IsRuled : ℕ → List LogRecord → List LogRecord → Type 0
IsRuled first before [] = ⊤
IsRuled first before (rec ∷ l) = RuleOf first before rec (effect_of rec) × IsRuled first (before ++ rec ∷ []) l

-- the numbers of their records
abbrev pub numbers : List OpenUpdate → List ℕ
numbers [] = []
numbers (u ∷ us) = u.number ∷ numbers us

-- ---- what a log owes

-- the number of records that open transactions may still need: an end for each, and a compensation for each update that is left
abbrev pub debt_of : Option (List OpenUpdate) → ℕ
debt_of None = 0
debt_of (Some us) = suc (length us)

-- the sum of these numbers below k
abbrev pub total : (ℕ → ℕ) → ℕ → ℕ
total f zero = 0
total f (suc k) = f k + total f k

-- of the transactions that begin below this number
abbrev pub debts : ℕ → ℕ → List LogRecord → ℕ
debts k first recs = total (λ t. debt_of (left_of t first recs None)) k

-- of all transactions of a log
abbrev pub owed_by : ℕ → List LogRecord → ℕ
owed_by first recs = debts (first + length recs) first recs

-- a record that ends a transaction
abbrev pub is_end : Effect → Bool
is_end Begun = false
is_end (Updated txn page bsi op back) = false
is_end (Ended txn) = true
is_end (Compensated txn next page bsi op) = false
is_end (Mapped page bsi op) = false

-- no transaction ends in these records
abbrev pub EndsNone : List LogRecord → Type 0
EndsNone [] = ⊤
EndsNone (rec ∷ l) = (is_end (effect_of rec) ≡ false) × EndsNone l

-- ---- laws

-- each front keeps the rules, and one record more that keeps its rule
abbrev pub FrontsAreRuled : Type 0
FrontsAreRuled = (first : ℕ) (a b : List LogRecord) → IsRuled first [] (a ++ b) → IsRuled first [] a

-- one record more that keeps its rule
abbrev pub RuledWithOneMore : Type 0
RuledWithOneMore = (first : ℕ) (l : List LogRecord) (rec : LogRecord) → IsRuled first [] l → RuleOf first l rec (effect_of rec) → IsRuled first [] (l ++ rec ∷ [])

-- a log that begins later keeps them
abbrev pub RuledFromLater : Type 0
RuledFromLater = (first : ℕ) (a b : List LogRecord) → IsRuled first [] (a ++ b) → IsRuled (first + length a) [] b

-- a log that is cut where no transaction ends behind the cut takes and owes no more than the whole
abbrev pub CutsOweNoMore : Type 0
CutsOweNoMore = (first : ℕ) (a b : List LogRecord) → IsRuled first [] (a ++ b) → EndsNone b → length a + owed_by first a ≤ length (a ++ b) + owed_by first (a ++ b)

-- what is left of a transaction are updates that stand in the log
abbrev pub AreLogged : ℕ → List LogRecord → ℕ → List OpenUpdate → Type 0
AreLogged first recs t [] = ⊤
AreLogged first recs t (u ∷ us) = ((rec : LogRecord) × (bsi : ℕ) × (record_at first recs u.number ≡ Some rec) × (effect_of rec ≡ Updated t u.page bsi u.update u.back)) × AreLogged first recs t us

-- so it is of each open transaction
abbrev pub LeftIsLogged : Type 0
LeftIsLogged = (first : ℕ) (recs : List LogRecord) (t : ℕ) (us : List OpenUpdate) → left_of t first recs None ≡ Some us → AreLogged first recs t us

-- What is left of an open transaction, read forwards, are its uncompensated updates; its records tell what is left, so it is
-- found backwards from the last one too; and a compensation that keeps the rule takes the newest back.
pub record SaysWhatIsLeft (first : ℕ) (recs : List LogRecord) (t : ℕ) (us : List OpenUpdate) : Type 0 where
  pub uncompensated : numbers us ≡ uncompensated t first recs
  pub tells : TellsLeft t first recs
  pub takes_back : (next page : ℕ) (op : PageOp) (b : TakesBack first recs t next page op) → down_to next (b.undo ∷ b.rest) ≡ b.rest

-- so it is of each open transaction of a log that keeps its rules, where it began in it
abbrev pub LeftBothWays : Type 0
LeftBothWays = (first : ℕ) (recs : List LogRecord) (t : ℕ) (us : List OpenUpdate) → IsRuled first [] recs → first ≤ t → left_of t first recs None ≡ Some us → SaysWhatIsLeft first recs t us

-- one record more may owe one record more
abbrev pub OwesOneMore : Type 0
OwesOneMore = (first : ℕ) (l : List LogRecord) (rec : LogRecord) → owed_by first (l ++ rec ∷ []) ≤ suc (owed_by first l)

-- a change of a map page owes none
abbrev pub MapOwesNone : Type 0
MapOwesNone = (first page bsi : ℕ) (op : PageOp) (l : List LogRecord) (rec : LogRecord) → effect_of rec ≡ Mapped page bsi op → owed_by first (l ++ rec ∷ []) ≤ owed_by first l

-- the record is one that the transaction owed: its end, or the compensation of its newest update that is left
pub data IsOwed (first : ℕ) (l : List LogRecord) (rec : LogRecord) (t : ℕ) : Type 0 where
  an_end : (us : List OpenUpdate) → effect_of rec ≡ Ended t → left_of t first l None ≡ Some us → IsOwed first l rec t
  a_compensation : (next page bsi : ℕ) (op : PageOp) (u : OpenUpdate) (us : List OpenUpdate) → effect_of rec ≡ Compensated t next page bsi op → left_of t first l None ≡ Some (u ∷ us) → down_to next (u ∷ us) ≡ us → IsOwed first l rec t

-- what is owed is paid by it
abbrev pub OwedIsPaid : Type 0
OwedIsPaid = (first t : ℕ) (l : List LogRecord) (rec : LogRecord) → IsOwed first l rec t → owed_by first (l ++ rec ∷ []) < owed_by first l
