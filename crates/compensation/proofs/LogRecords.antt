-- The records of a log: where each stands, what was left at it, and of what kind it is.
use Rattle.std.proofs.Common.{◌≡◌, ◌≢◌, ◌+◌, ◌-◌, ◌≤◌, ◌<◌, ◌++◌, ◌==◌, ℕ, zero, suc, Bool, true, false, cond, nat_le, List, [], ◌∷◌, Some, None, length, refl, ◌∙◌, ap, arith, ◌⊎◌, inl, inr}
use Rattle.std.specs.List.{slice_get}
use Rattle.std.proofs.lemmas.List.{length-append, take-append-le, take_all}
use Rattle.std.proofs.lemmas.Option.{slice_get_within}
use Rattle.std.proofs.lemmas.Bool.Decides.{nat_tests}
use Rattle.log_record.specs.declared.record.LogRecord.{LogRecord}
use Rattle.log_record.specs.declared.record.LogRecord.TheVariants.{Begin, Set, Append, Commit, Abort, Restore, Cut, MapUse, MapFree}
use Rattle.log_record.specs.Fields.{fields_of}
use Rattle.compensation.specs.Left.{is_update_of, next_after, uncompensated}
use Rattle.compensation.specs.Finding.{left_at, record_at}

-- ---- where a record stands

-- the record with a number stands that far behind the first one
pub at_place : (first : ℕ) (recs : List LogRecord) (r : ℕ) (rec : LogRecord) → record_at first recs r ≡ Some rec → (first ≤ r) × (slice_get recs (r - first) ≡ Some rec)
at_place first recs r rec at = by (nat_le first r) refl at
  where
    by : (b : Bool) → nat_le first r ≡ b → cond b (slice_get recs (r - first)) None ≡ Some rec → (first ≤ r) × (slice_get recs (r - first) ≡ Some rec)
    by true le at = (grind (arith, nat_tests), at)
    by false le at = cc

pub is_le : (a b : ℕ) → a ≤ b → nat_le a b ≡ true
is_le a b le = grind (arith, nat_tests)

-- and a record that stands there has that number
pub of_place : (first : ℕ) (recs : List LogRecord) (r : ℕ) (rec : LogRecord) → first ≤ r → slice_get recs (r - first) ≡ Some rec → record_at first recs r ≡ Some rec
of_place first recs r rec le at = ap (λ b. cond b (slice_get recs (r - first)) None) (is_le first r le) ∙ at

-- its number is below that of the record that comes next
pub below_end : (first : ℕ) (recs : List LogRecord) (r : ℕ) (rec : LogRecord) → record_at first recs r ≡ Some rec → r < first + length recs
below_end first recs r rec at =
    let place = at_place first recs r rec at in
    let within = slice_get_within recs (r - first) rec place.1 in
    omega (arith, place.0, within)

-- a record stays where it stands when one more is written
get-push : (recs : List LogRecord) (x rec : LogRecord) (i : ℕ) → slice_get recs i ≡ Some rec → slice_get (recs ++ x ∷ []) i ≡ Some rec
get-push [] x rec i at = cc
get-push (r ∷ rs) x rec zero at = at
get-push (r ∷ rs) x rec (suc i) at = get-push rs x rec i at

pub record_at-push : (first : ℕ) (recs : List LogRecord) (x : LogRecord) (r : ℕ) (rec : LogRecord) → record_at first recs r ≡ Some rec → record_at first (recs ++ x ∷ []) r ≡ Some rec
record_at-push first recs x r rec at =
    let place = at_place first recs r rec at in
    of_place first (recs ++ x ∷ []) r rec place.0 (get-push recs x rec (r - first) place.1)

-- the new record stands behind the others
get-last : (recs : List LogRecord) (x : LogRecord) → slice_get (recs ++ x ∷ []) (length recs) ≡ Some x
get-last [] x = refl
get-last (r ∷ rs) x = get-last rs x

pub record_at-last : (first : ℕ) (recs : List LogRecord) (x : LogRecord) → record_at first (recs ++ x ∷ []) (first + length recs) ≡ Some x
record_at-last first recs x =
    let place : first + length recs - first ≡ length recs = omega arith in
    of_place first (recs ++ x ∷ []) (first + length recs) x (omega arith) (ap (slice_get (recs ++ x ∷ [])) place ∙ get-last recs x)

-- a record of the longer log is an old one, or the new one
pub old_or_new : (recs : List LogRecord) (x rec : LogRecord) (i : ℕ) → slice_get (recs ++ x ∷ []) i ≡ Some rec → ((i < length recs) × (slice_get recs i ≡ Some rec)) ⊎ ((i ≡ length recs) × (x ≡ rec))
old_or_new [] x rec zero at = inr (refl, (let same : x ≡ rec = cc in same))
old_or_new [] x rec (suc i) at = cc
old_or_new (r ∷ rs) x rec zero at = inl (omega arith, at)
old_or_new (r ∷ rs) x rec (suc i) at = elim (old_or_new rs x rec i at) as (λ _. ((suc i < length (r ∷ rs)) × (slice_get (r ∷ rs) (suc i) ≡ Some rec)) ⊎ ((suc i ≡ length (r ∷ rs)) × (x ≡ rec))) [
  | inl h ↦ inl (omega (arith, h.0), h.1)
  | inr h ↦ inr (ap suc h.0, h.1)
]

-- ---- what was left at a record

-- a new record doesn't change what was left at an old one
pub left_at-push : (t first : ℕ) (recs : List LogRecord) (x : LogRecord) (r : ℕ) → r < first + length recs → left_at t first (recs ++ x ∷ []) r ≡ left_at t first recs r
left_at-push t first recs x r lt = ap (uncompensated t first) (take-append-le (r + 1 - first) recs (x ∷ []) (omega arith))

-- at the last record of the log it is what is left
pub left_at-last : (t first : ℕ) (recs : List LogRecord) (x : LogRecord) → left_at t first (recs ++ x ∷ []) (first + length recs) ≡ uncompensated t first (recs ++ x ∷ [])
left_at-last t first recs x = ap (uncompensated t first) (take_all (first + length recs + 1 - first) (recs ++ x ∷ []) (omega (arith, length-append recs (x ∷ []))))

-- ---- the kind of a record

test_false : (a b : ℕ) → a ≢ b → (a == b) ≡ false
test_false a b ne = grind (arith, nat_tests)

-- a record of another transaction is no update of this one, and no compensation
pub other_txn : (t : ℕ) (rec : LogRecord) → (fields_of rec).txn ≢ t → (is_update_of t rec ≡ false) × (next_after t rec ≡ None)
other_txn t Begin ne = (refl, refl)
other_txn t (Set txn prev page bsi slot before after) ne = (test_false txn t ne, refl)
other_txn t (Append txn prev page bsi slot present len bytes) ne = (test_false txn t ne, refl)
other_txn t (Commit txn prev) ne = (refl, refl)
other_txn t (Abort txn prev) ne = (refl, refl)
other_txn t (Restore txn prev next page bsi slot after) ne = (refl, ap (λ b. cond b (Some next) None) (test_false txn t ne))
other_txn t (Cut txn prev next page bsi slot present len) ne = (refl, ap (λ b. cond b (Some next) None) (test_false txn t ne))
other_txn t (MapUse page bsi place group) ne = (refl, refl)
other_txn t (MapFree page bsi place group ident) ne = (refl, refl)
