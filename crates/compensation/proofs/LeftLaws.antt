-- What is left of a transaction as its log grows.
use Rattle.std.proofs.Common.{◌≡◌, ◌+◌, ◌≤◌, ◌<◌, ◌&&◌, ◌||◌, ◌++◌, ◌==◌, ℕ, zero, suc, Bool, All, Contains, get_or, true, false, not, cond, nat_lt, nat_le, List, [], ◌∷◌, Some, None, length, filter, refl, sym, ◌∙◌, ap, subst, arith}
use Rattle.std.specs.List.{list_any}
use Rattle.std.proofs.lemmas.List.{append_assoc, append-nil}
use Rattle.std.proofs.Math.Bool.{or-false}
use Rattle.std.proofs.lemmas.List.Elements.{All-append, filter-append}
use Rattle.std.proofs.lemmas.List.Folds.{list_any-append}
use Rattle.std.proofs.lemmas.Bool.Decides.{nat_tests}
use Rattle.log_record.specs.declared.record.LogRecord.{LogRecord}
use Rattle.log_record.specs.declared.record.LogRecord.TheVariants.{Begin, Set, Append, Commit, Abort, Restore, Cut, MapUse, MapFree}
use Rattle.compensation.specs.Left.{is_update_of, next_after, lies_before, takes_back, uncompensated}
use Rattle.compensation.specs.Finding.{newest, next_to_undo}

-- the update with this number, if it is one that is left
abbrev pub here : Bool → Bool → ℕ → List ℕ
here update gone u = cond (update && not gone) (u ∷ []) []

any_push : (test : LogRecord → Bool) (recs : List LogRecord) (rec : LogRecord) → list_any test (recs ++ rec ∷ []) ≡ (list_any test recs || test rec)
any_push test recs rec = list_any-append test recs (rec ∷ []) ∙ ap (λ b. list_any test recs || b) (or-false (test rec))

-- a record that is no compensation of the transaction leaves what was left, and one more where it is an update
pub uncompensated-push : (t first : ℕ) (recs : List LogRecord) (rec : LogRecord) → next_after t rec ≡ None → uncompensated t first (recs ++ rec ∷ []) ≡ cond (is_update_of t rec) ((first + length recs) ∷ []) [] ++ uncompensated t first recs
uncompensated-push t first [] rec none = by (is_update_of t rec)
  where
    by : (b : Bool) → cond (b && true) (first ∷ []) [] ≡ cond b ((first + 0) ∷ []) [] ++ []
    by true = let e : first ≡ first + 0 = omega arith in ap (λ n. n ∷ []) e
    by false = refl
uncompensated-push t first (r ∷ rs) rec none =
    let same : list_any (takes_back t first) (rs ++ rec ∷ []) ≡ list_any (takes_back t first) rs = any_push (takes_back t first) rs rec ∙ ap (λ o. list_any (takes_back t first) rs || lies_before o first) none ∙ or-false (list_any (takes_back t first) rs) in
    let later : (first + 1) + length rs ≡ first + length (r ∷ rs) = omega arith in
    (λ i. uncompensated-push t (first + 1) rs rec none i ++ here (is_update_of t r) (same i) first)
    ∙ append_assoc (cond (is_update_of t rec) (((first + 1) + length rs) ∷ []) []) (uncompensated t (first + 1) rs) (here (is_update_of t r) (list_any (takes_back t first) rs) first)
    ∙ ap (λ n. cond (is_update_of t rec) (n ∷ []) [] ++ uncompensated t first (r ∷ rs)) later

-- a compensation leaves what lies up to the record that it says is next
pub uncompensated-compensation : (t first next : ℕ) (recs : List LogRecord) (rec : LogRecord) → is_update_of t rec ≡ false → next_after t rec ≡ Some next → uncompensated t first (recs ++ rec ∷ []) ≡ filter (λ u. nat_le u next) (uncompensated t first recs)
uncompensated-compensation t first next [] rec other is = ap (λ b. here b false first) other
uncompensated-compensation t first next (r ∷ rs) rec other is =
    let more : list_any (takes_back t first) (rs ++ rec ∷ []) ≡ (list_any (takes_back t first) rs || nat_lt next first) = any_push (takes_back t first) rs rec ∙ ap (λ o. list_any (takes_back t first) rs || lies_before o first) is in
    (λ i. uncompensated-compensation t (first + 1) next rs rec other is i ++ here (is_update_of t r) (more i) first)
    ∙ ap (λ end. filter (λ u. nat_le u next) (uncompensated t (first + 1) rs) ++ end) (by (is_update_of t r) (list_any (takes_back t first) rs) (nat_lt next first) (nat_le first next) refl refl)
    ∙ sym (filter-append (λ u. nat_le u next) (uncompensated t (first + 1) rs) (here (is_update_of t r) (list_any (takes_back t first) rs) first))
  where
    by : (update gone past kept : Bool) → nat_lt next first ≡ past → nat_le first next ≡ kept → here update (gone || past) first ≡ filter (λ u. nat_le u next) (here update gone first)
    by false gone past kept e f = refl
    by true true past kept e f = refl
    by true false true true e f = absurd (grind (arith, nat_tests))
    by true false true false e f = ap (λ b. cond b (first ∷ []) []) (sym f)
    by true false false true e f = ap (λ b. cond b (first ∷ []) []) (sym f)
    by true false false false e f = absurd (grind (arith, nat_tests))

-- ---- what each kind of record is

pub update_not_compensation : (t : ℕ) (rec : LogRecord) → is_update_of t rec ≡ true → next_after t rec ≡ None
update_not_compensation t Begin e = refl
update_not_compensation t (Set txn prev page bsi slot before after) e = refl
update_not_compensation t (Append txn prev page bsi slot present len bytes) e = refl
update_not_compensation t (Commit txn prev) e = refl
update_not_compensation t (Abort txn prev) e = refl
update_not_compensation t (Restore txn prev next page bsi slot after) e = cc
update_not_compensation t (Cut txn prev next page bsi slot present len) e = cc
update_not_compensation t (MapUse page bsi place group) e = refl
update_not_compensation t (MapFree page bsi place group ident) e = refl

pub compensation_not_update : (t next : ℕ) (rec : LogRecord) → next_after t rec ≡ Some next → is_update_of t rec ≡ false
compensation_not_update t next Begin e = refl
compensation_not_update t next (Set txn prev page bsi slot before after) e = cc
compensation_not_update t next (Append txn prev page bsi slot present len bytes) e = cc
compensation_not_update t next (Commit txn prev) e = refl
compensation_not_update t next (Abort txn prev) e = refl
compensation_not_update t next (Restore txn prev n page bsi slot after) e = refl
compensation_not_update t next (Cut txn prev n page bsi slot present len) e = refl
compensation_not_update t next (MapUse page bsi place group) e = refl
compensation_not_update t next (MapFree page bsi place group ident) e = refl

chosen : (b : Bool) (n next : ℕ) → cond b (Some n) None ≡ Some next → n ≡ next
chosen true n next e = cc
chosen false n next e = cc

-- at an update the next record is the update itself
pub next_of_update : (t r : ℕ) (rec : LogRecord) → is_update_of t rec ≡ true → next_to_undo rec r ≡ Some r
next_of_update t r Begin e = cc
next_of_update t r (Set txn prev page bsi slot before after) e = refl
next_of_update t r (Append txn prev page bsi slot present len bytes) e = refl
next_of_update t r (Commit txn prev) e = cc
next_of_update t r (Abort txn prev) e = cc
next_of_update t r (Restore txn prev next page bsi slot after) e = cc
next_of_update t r (Cut txn prev next page bsi slot present len) e = cc
next_of_update t r (MapUse page bsi place group) e = cc
next_of_update t r (MapFree page bsi place group ident) e = cc

-- at a compensation the next record is the one that it names
pub next_of_compensation : (t r next : ℕ) (rec : LogRecord) → next_after t rec ≡ Some next → next_to_undo rec r ≡ Some next
next_of_compensation t r next Begin e = cc
next_of_compensation t r next (Set txn prev page bsi slot before after) e = cc
next_of_compensation t r next (Append txn prev page bsi slot present len bytes) e = cc
next_of_compensation t r next (Commit txn prev) e = cc
next_of_compensation t r next (Abort txn prev) e = cc
next_of_compensation t r next (Restore txn prev n page bsi slot after) e = ap Some (chosen (txn == t) n next e)
next_of_compensation t r next (Cut txn prev n page bsi slot present len) e = ap Some (chosen (txn == t) n next e)
next_of_compensation t r next (MapUse page bsi place group) e = cc
next_of_compensation t r next (MapFree page bsi place group ident) e = cc

-- ---- one more record

pub left-update : (t first : ℕ) (recs : List LogRecord) (rec : LogRecord) → is_update_of t rec ≡ true → uncompensated t first (recs ++ rec ∷ []) ≡ (first + length recs) ∷ uncompensated t first recs
left-update t first recs rec is =
    uncompensated-push t first recs rec (update_not_compensation t rec is)
    ∙ ap (λ b. cond b ((first + length recs) ∷ []) [] ++ uncompensated t first recs) is

pub left-compensation : (t first next : ℕ) (recs : List LogRecord) (rec : LogRecord) → next_after t rec ≡ Some next → uncompensated t first (recs ++ rec ∷ []) ≡ filter (λ u. nat_le u next) (uncompensated t first recs)
left-compensation t first next recs rec is = uncompensated-compensation t first next recs rec (compensation_not_update t next rec is) is

pub left-other : (t first : ℕ) (recs : List LogRecord) (rec : LogRecord) → is_update_of t rec ≡ false → next_after t rec ≡ None → uncompensated t first (recs ++ rec ∷ []) ≡ uncompensated t first recs
left-other t first recs rec other none =
    uncompensated-push t first recs rec none
    ∙ ap (λ b. cond b ((first + length recs) ∷ []) [] ++ uncompensated t first recs) other

-- ---- the numbers fall

abbrev Falls : List ℕ → Type 0
Falls [] = Unit {0}
Falls (u ∷ us) = All (λ v. v < u) us × Falls us

Falls-push : (xs : List ℕ) (n : ℕ) → Falls xs → All (λ v. n < v) xs → Falls (xs ++ n ∷ [])
Falls-push [] n f h = (λ k d lt. absurd (omega arith), tt)
Falls-push (x ∷ xs) n f h = (
  All-append (λ v. v < x) xs (n ∷ []) f.0 (All-one (λ v. v < x) n (h 0 n (omega arith))),
  Falls-push xs n f.1 (λ k d lt. h (suc k) d (omega arith)),
)
  where
    All-one : (P : ℕ → Type 0) (n : ℕ) → P n → All P (n ∷ [])
    All-one P n p zero d lt = p
    All-one P n p (suc k) d lt = absurd (omega arith)

pub not_before : (t first : ℕ) (recs : List LogRecord) → All (λ v. first ≤ v) (uncompensated t first recs)
not_before t first [] = λ k d lt. absurd (omega arith)
not_before t first (r ∷ rs) =
    let rest : All (λ v. first ≤ v) (uncompensated t (first + 1) rs) = λ k d lt. (let later = not_before t (first + 1) rs k d lt in omega arith) in
    All-append (λ v. first ≤ v) (uncompensated t (first + 1) rs) (here (is_update_of t r) (list_any (takes_back t first) rs) first) rest (own (is_update_of t r && not (list_any (takes_back t first) rs)))
  where
    own : (b : Bool) → All (λ v. first ≤ v) (cond b (first ∷ []) [])
    own true zero d lt = omega arith
    own true (suc k) d lt = absurd (omega arith)
    own false k d lt = absurd (omega arith)

pub Falls-uncompensated : (t first : ℕ) (recs : List LogRecord) → Falls (uncompensated t first recs)
Falls-uncompensated t first [] = tt
Falls-uncompensated t first (r ∷ rs) = by (is_update_of t r && not (list_any (takes_back t first) rs)) (Falls-uncompensated t (first + 1) rs) (λ k d lt. (let later = not_before t (first + 1) rs k d lt in omega arith))
  where
    by : (b : Bool) → Falls (uncompensated t (first + 1) rs) → All (λ v. first < v) (uncompensated t (first + 1) rs) → Falls (uncompensated t (first + 1) rs ++ cond b (first ∷ []) [])
    by true f above = Falls-push (uncompensated t (first + 1) rs) first f above
    by false f above = subst Falls (sym (append-nil (uncompensated t (first + 1) rs))) f

-- ---- what is next

kept_first : (us : List ℕ) (p : ℕ) → Falls us → Contains us p → newest (filter (λ u. nat_le u p) us) ≡ Some p
kept_first [] p f c = absurd (omega (arith, c.1))
kept_first (u ∷ us) p f c = by c.0 c.1 c.2 (nat_le u p) refl (kept_first us p f.1)
  where
    by : (k : ℕ) → k < length (u ∷ us) → get_or (u ∷ us) k p ≡ p → (b : Bool) → nat_le u p ≡ b → (Contains us p → newest (filter (λ v. nat_le v p) us) ≡ Some p) → newest (cond b (u ∷ filter (λ v. nat_le v p) us) (filter (λ v. nat_le v p) us)) ≡ Some p
    by zero lt at true le rest = ap Some at
    by zero lt at false le rest = absurd (grind (arith, nat_tests))
    by (suc k) lt at true le rest = let below = f.0 k p (omega arith) in absurd (grind (arith, nat_tests))
    by (suc k) lt at false le rest = rest (k, omega arith, at)

none_kept : (us : List ℕ) (p : ℕ) → All (λ u. p < u) us → filter (λ u. nat_le u p) us ≡ []
none_kept [] p h = refl
none_kept (u ∷ us) p h = by (nat_le u p) refl (none_kept us p (λ k d lt. h (suc k) d (omega arith)))
  where
    by : (b : Bool) → nat_le u p ≡ b → filter (λ v. nat_le v p) us ≡ [] → cond b (u ∷ filter (λ v. nat_le v p) us) (filter (λ v. nat_le v p) us) ≡ []
    by true le rest = let above = h 0 u (omega arith) in absurd (grind (arith, nat_tests))
    by false le rest = rest

pub next-update : (t first : ℕ) (recs : List LogRecord) (rec : LogRecord) → is_update_of t rec ≡ true → next_to_undo rec (first + length recs) ≡ newest (uncompensated t first (recs ++ rec ∷ []))
next-update t first recs rec is = next_of_update t (first + length recs) rec is ∙ sym (ap newest (left-update t first recs rec is))

pub next-compensation : (t first next : ℕ) (recs : List LogRecord) (rec : LogRecord) → next_after t rec ≡ Some next → Contains (uncompensated t first recs) next → next_to_undo rec (first + length recs) ≡ newest (uncompensated t first (recs ++ rec ∷ []))
next-compensation t first next recs rec is left =
    next_of_compensation t (first + length recs) next rec is
    ∙ sym (ap newest (left-compensation t first next recs rec is) ∙ kept_first (uncompensated t first recs) next (Falls-uncompensated t first recs) left)

pub nothing-left : (t first next : ℕ) (recs : List LogRecord) (rec : LogRecord) → next_after t rec ≡ Some next → All (λ u. next < u) (uncompensated t first recs) → uncompensated t first (recs ++ rec ∷ []) ≡ []
nothing-left t first next recs rec is above = left-compensation t first next recs rec is ∙ none_kept (uncompensated t first recs) next above
