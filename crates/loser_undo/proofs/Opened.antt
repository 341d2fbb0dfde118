-- The transactions that are open, as the records go on.
use Rattle.std.specs.Prelude.{◌≡◌, ◌≢◌, ◌<◌, ◌≤◌, ◌+◌, ◌-◌, ℕ, zero, suc, Bool, true, false, cond, eqb, List, [], ◌∷◌, ◌++◌, Some, length, remove, slice_get, slice_index_or, take, refl}
use Rattle.std.proofs.Common.{arith, ap, sym, ◌∙◌}
use Rattle.std.proofs.lemmas.Bool.Decides.{nat_tests}
use Rattle.log_record.specs.declared.record.LogRecord.{LogRecord}
use Rattle.compensation.specs.Finding.{record_at}
use Rattle.compensation.proofs.LogRecords.{at_place}
use Rattle.recovery_theory.specs.Effect.{Effect, effect_of}
use Rattle.recovery_theory.specs.Effect.Effect.{Begun, Updated, Ended, Compensated, Mapped}
use Rattle.loser_undo.specs.Rules.{AreBetween, open_after, open_at, open_by, open_in, without}

-- ---- without one of them

first_here : (t u : ℕ) (us : List ℕ) → u ≡ t → without t (u ∷ us) ≡ us
first_here t u us e =
    let same : eqb u t ≡ true = grind (arith, nat_tests) in
    rw same refl

other_here : (t u : ℕ) (us : List ℕ) → u ≢ t → without t (u ∷ us) ≡ u ∷ without t us
other_here t u us ne =
    let other : eqb u t ≡ false = grind (arith, nat_tests) in
    rw other refl

-- the first one of this number is taken out
pub first_without : (ts : List ℕ) (t i : ℕ) → i < length ts → slice_index_or ts i t ≡ t → ((j : ℕ) → j < i → slice_index_or ts j t ≢ t) → remove ts i ≡ without t ts
first_without [] t i below is before = absurd (omega (arith, below))
first_without (u ∷ us) t zero below is before = sym (first_here t u us is)
first_without (u ∷ us) t (suc i) below is before =
    ap (λ l. u ∷ l) (first_without us t i (omega (arith, below)) is (λ j lt. before (suc j) (omega (arith, lt)))) ∙ sym (other_here t u us (before 0 (omega arith)))

-- nothing is taken out where none has it
pub none_without : (ts : List ℕ) (t : ℕ) → ((j : ℕ) → j < length ts → slice_index_or ts j t ≢ t) → without t ts ≡ ts
none_without [] t none = refl
none_without (u ∷ us) t none = other_here t u us (none 0 (omega arith)) ∙ ap (λ l. u ∷ l) (none_without us t (λ j lt. none (suc j) (omega (arith, lt))))

-- ---- one record more

pub open_push : (r : ℕ) (l : List LogRecord) (rec : LogRecord) (ts : List ℕ) → open_after r (l ++ rec ∷ []) ts ≡ open_by (r + length l) (effect_of rec) (open_after r l ts)
open_push r [] rec ts = ap (λ k. open_by k (effect_of rec) ts) (omega arith)
open_push r (x ∷ l) rec ts = open_push (suc r) l rec (open_by r (effect_of x) ts) ∙ ap (λ k. open_by k (effect_of rec) (open_after (suc r) l (open_by r (effect_of x) ts))) (omega arith)

take_push : {X : Type 0} (xs : List X) (k : ℕ) (x : X) → slice_get xs k ≡ Some x → take (suc k) xs ≡ take k xs ++ x ∷ []
take_push [] k x e = cc
take_push (y ∷ ys) zero x e = let same : y ≡ x = cc in ap (λ z. z ∷ []) same
take_push (y ∷ ys) (suc k) x e = ap (λ l. y ∷ l) (take_push ys k x e)

length_front : {X : Type 0} (xs : List X) (k : ℕ) (x : X) → slice_get xs k ≡ Some x → length (take k xs) ≡ k
length_front [] k x e = cc
length_front (y ∷ ys) zero x e = refl
length_front (y ∷ ys) (suc k) x e = ap suc (length_front ys k x e)

pub open_next : (first : ℕ) (recs : List LogRecord) (r : ℕ) (rec : LogRecord) → record_at first recs r ≡ Some rec → open_at first recs (r + 1) ≡ open_by r (effect_of rec) (open_at first recs r)
open_next first recs r rec at =
    let place = at_place first recs r rec at in
    let front = length_front recs (r - first) rec place.1 in
    let one : r + 1 - first ≡ suc (r - first) = omega (arith, place.0) in
    let number : first + length (take (r - first) recs) ≡ r = omega (arith, place.0, front) in
    ap (λ k. open_in first (take k recs)) one
    ∙ (ap (open_in first) (take_push recs (r - first) rec place.1)
    ∙ (open_push first (take (r - first) recs) rec []
    ∙ ap (λ k. open_by k (effect_of rec) (open_at first recs r)) number))

take_all : {X : Type 0} (xs : List X) (k : ℕ) → length xs ≤ k → take k xs ≡ xs
take_all [] zero le = refl
take_all [] (suc k) le = refl
take_all (x ∷ xs) zero le = absurd (omega (arith, le))
take_all (x ∷ xs) (suc k) le = ap (λ l. x ∷ l) (take_all xs k (omega (arith, le)))

-- at the log's end they are those that have no end in it
pub open_whole : (first : ℕ) (recs : List LogRecord) (r : ℕ) → first + length recs ≤ r → open_at first recs r ≡ open_in first recs
open_whole first recs r le = ap (open_in first) (take_all recs (r - first) (omega (arith, le)))

pub open_first : (first : ℕ) (recs : List LogRecord) → open_at first recs first ≡ []
open_first first recs =
    let none : first - first ≡ 0 = omega arith in
    ap (λ k. open_in first (take k recs)) none

-- ---- from one number on and below another

between_more : (low high more : ℕ) (ts : List ℕ) → high ≤ more → AreBetween low high ts → AreBetween low more ts
between_more low high more [] le b = tt
between_more low high more (t ∷ ts) le b = (b.0, omega (arith, b.1, le), between_more low high more ts le b.2)

between_push : (low high : ℕ) (ts : List ℕ) → low ≤ high → AreBetween low high ts → AreBetween low (high + 1) (ts ++ high ∷ [])
between_push low high [] le b = (le, omega arith, tt)
between_push low high (t ∷ ts) le b = (b.0, omega (arith, b.1), between_push low high ts le b.2)

between_without : (low high t : ℕ) (ts : List ℕ) → AreBetween low high ts → AreBetween low high (without t ts)
between_without low high t [] b = tt
between_without low high t (u ∷ us) b = by (eqb u t) (between_without low high t us b.2)
  where
    by : (c : Bool) → AreBetween low high (without t us) → AreBetween low high (cond c us (u ∷ without t us))
    by true rest = b.2
    by false rest = (b.0, b.1, rest)

-- the record that comes next keeps it so
pub between_by : (low r : ℕ) (e : Effect) (ts : List ℕ) → low ≤ r → AreBetween low r ts → AreBetween low (r + 1) (open_by r e ts)
between_by low r Begun ts le b = between_push low r ts le b
between_by low r (Updated txn page bsi op back) ts le b = between_more low r (r + 1) ts (omega arith) b
between_by low r (Ended txn) ts le b = between_more low r (r + 1) (without txn ts) (omega arith) (between_without low r txn ts b)
between_by low r (Compensated txn next page bsi op) ts le b = between_more low r (r + 1) ts (omega arith) b
between_by low r (Mapped page bsi op) ts le b = between_more low r (r + 1) ts (omega arith) b

-- each one is
pub between_at : (low high : ℕ) (ts : List ℕ) (i t : ℕ) → AreBetween low high ts → slice_get ts i ≡ Some t → (low ≤ t) × (t < high)
between_at low high [] i t b e = cc
between_at low high (u ∷ us) zero t b e = let same : u ≡ t = cc in (omega (arith, same, b.0), omega (arith, same, b.1))
between_at low high (u ∷ us) (suc i) t b e = between_at low high us i t b.2 e
