-- What a log takes and owes doesn't fall while no transaction ends.
use Rattle.std.proofs.Common.{◌≡◌, ◌≢◌, ◌⊎◌, inl, inr, ℕ, suc, ◌+◌, ◌<◌, ◌≤◌, Bool, true, false, cond, eqb, ltb, IfSome, List, [], ◌∷◌, ◌++◌, length, refl, ap, sym, subst, ◌∙◌, arith, Option, Some, None, append_assoc, append-nil, length-append, eq-eqb, ne_eqb}
use Rattle.std.proofs.lemmas.Bool.{cases_eq, cases_lt}
use Rattle.log_record.specs.declared.record.LogRecord.{LogRecord}
use Rattle.compensation.proofs.LogRecords.{record_at-last, record_at-push}
use Rattle.recovery_theory.specs.Effect.{Effect, OpenUpdate, down_to, taken_down_to, effect_of, left_by_effect, left_of, with_update}
use Rattle.recovery_theory.specs.Effect.Effect.{Begun, Updated, Ended, Compensated, Mapped}
use Rattle.recovery_theory.specs.Rules.{AreLogged, EndsNone, IsRuled, LeftIsLogged, CutsOweNoMore, RuleOf, TakesBack, debt_of, debts, is_end}
use Rattle.recovery_theory.proofs.BeginsAndLocks.{left_of-new}
use Rattle.recovery_theory.proofs.LogMoves.{left_of-old}
use Rattle.recovery_theory.proofs.OpenUpdates.{left_of-append}
use Rattle.recovery_theory.proofs.Sums.{total_fall, total_more}
use Rattle.recovery_theory.proofs.RuledLogs.{ruled_fronts, takes_newest, told_of}

-- ---- debts

module _ (first : ℕ) (l : List LogRecord) (rec : LogRecord) (ruled : IsRuled first [] l) (rule : RuleOf first l rec (effect_of rec)) (no_end : is_end (effect_of rec) ≡ false) where
  after : (u : ℕ) → left_of u first (l ++ rec ∷ []) None ≡ left_by_effect u (first + length l) (effect_of rec) (left_of u first l None)
  after u = left_of-append u first l rec None

  -- what the record makes of a transaction's debt
  debt_after : (u : ℕ) (s : Option (List OpenUpdate)) → left_of u first l None ≡ s → debt_of s ≤ suc (debt_of (left_by_effect u (first + length l) (effect_of rec) s))
  debt_after u s is = by (effect_of rec) refl
    where
      by : (e : Effect) → effect_of rec ≡ e → debt_of s ≤ suc (debt_of (left_by_effect u (first + length l) e s))
      by Begun e = go (cases_eq (first + length l) u)
        where
          go : (first + length l ≡ u) ⊎ (first + length l ≢ u) → debt_of s ≤ suc (debt_of (cond (eqb (first + length l) u) (Some []) s))
          go (inl z) = let none : s ≡ None = sym is ∙ left_of-new u first l (omega arith) in rw (none, eq-eqb (first + length l) u z) (omega arith)
          go (inr d) = rw (ne_eqb (first + length l) u d) (omega arith)
      by (Mapped page bsi op) e = omega arith
      by (Ended t) e = let never : true ≡ false = sym (ap is_end e) ∙ no_end in absurd cc
      by (Updated t page bsi op back) e = go (eqb t u) s
        where
          go : (b : Bool) (s : Option (List OpenUpdate)) → debt_of s ≤ suc (debt_of (cond b (with_update (record { number = first + length l; page = page; update = op; back = back }) s) s))
          go false s = omega arith
          go true None = omega arith
          go true (Some us) = omega arith
      by (Compensated t next page bsi op) e = go (cases_eq t u) s is
        where
          r : RuleOf first l rec (Compensated t next page bsi op)
          r = subst (RuleOf first l rec) e rule

          go : (t ≡ u) ⊎ (t ≢ u) → (s : Option (List OpenUpdate)) → left_of u first l None ≡ s → debt_of s ≤ suc (debt_of (cond (eqb t u) (taken_down_to next s) s))
          go (inr d) s is = rw (ne_eqb t u d) (omega arith)
          go (inl z) None is = rw (eq-eqb t u z) (omega arith)
          go (inl z) (Some us) is = taken (cases_lt u first)
            where
              taken : (u < first) ⊎ (first ≤ u) → debt_of (Some us) ≤ suc (debt_of (cond (eqb t u) (taken_down_to next (Some us)) (Some us)))
              taken (inl lt) = let none : None ≡ Some us = sym (never u first l lt) ∙ is in absurd cc
                where
                  never : (u first : ℕ) (l : List LogRecord) → u < first → left_of u first l None ≡ None
                  never u first l lt = left_of-old u first l lt
              taken (inr ge) =
                  let b : TakesBack first l u next page op = subst (λ v. TakesBack first l v next page op) z (r.1 (rw z ge)) in
                  let same : Some us ≡ Some (b.undo ∷ b.rest) = sym is ∙ b.newest in
                  let u_is : us ≡ b.undo ∷ b.rest = cc in
                  let took = takes_newest first l u next page op (b.undo ∷ b.rest) ((told_of first l u ruled ge).late (b.undo ∷ b.rest) b.newest) b.newest b in
                  rw (eq-eqb t u z, u_is, took) (omega arith)

  -- which transaction it may be
  debt_other : (u : ℕ) → (t : ℕ) → ((s : Option (List OpenUpdate)) → left_by_effect u (first + length l) (effect_of rec) s ≡ s) → debt_of (left_of u first l None) ≤ debt_of (left_of u first (l ++ rec ∷ []) None)
  debt_other u t same = rw (after u, same (left_of u first l None)) (omega arith)

  txn : ℕ
  txn = named (effect_of rec)
    where
      named : Effect → ℕ
      named Begun = first + length l
      named (Updated t page bsi op back) = t
      named (Ended t) = t
      named (Compensated t next page bsi op) = t
      named (Mapped page bsi op) = 0

  pub one_more : (k : ℕ) → debts k first l ≤ suc (debts k first (l ++ rec ∷ []))
  one_more k = by (effect_of rec) refl
    where
      own : (u : ℕ) → debt_of (left_of u first l None) ≤ suc (debt_of (left_of u first (l ++ rec ∷ []) None))
      own u = rw (after u) (debt_after u (left_of u first l None) refl)

      -- all but transaction t stay
      but : (t : ℕ) → ((u : ℕ) → u ≢ t → (s : Option (List OpenUpdate)) → left_by_effect u (first + length l) (effect_of rec) s ≡ s) → debts k first l ≤ suc (debts k first (l ++ rec ∷ []))
      but t same =
          let falls = total_fall (λ u. debt_of (left_of u first l None)) (λ u. debt_of (left_of u first (l ++ rec ∷ []) None)) t 1 (λ u d. debt_other u t (same u d)) (omega (arith, own t)) k in
          omega arith

      by : (e : Effect) → effect_of rec ≡ e → debts k first l ≤ suc (debts k first (l ++ rec ∷ []))
      by Begun e = but (first + length l) (λ u d s. rw (e, ne_eqb (first + length l) u (λ z. d (sym z))) refl)
      by (Updated t page bsi op back) e = but t (λ u d s. rw (e, ne_eqb t u (λ z. d (sym z))) refl)
      by (Ended t) e = but t (λ u d s. rw (e, ne_eqb t u (λ z. d (sym z))) refl)
      by (Compensated t next page bsi op) e = but t (λ u d s. rw (e, ne_eqb t u (λ z. d (sym z))) refl)
      by (Mapped page bsi op) e = but 0 (λ u d s. rw e refl)

-- each record of a log that keeps the rules keeps its own
pub ruled_rule : (first : ℕ) (before l : List LogRecord) (rec : LogRecord) (rest : List LogRecord) → IsRuled first before (l ++ rec ∷ rest) → RuleOf first (before ++ l) rec (effect_of rec)
ruled_rule first before [] rec rest h = subst (λ z. RuleOf first z rec (effect_of rec)) (sym (append-nil before)) h.0
ruled_rule first before (e ∷ l) rec rest h = subst (λ z. RuleOf first z rec (effect_of rec)) (append_assoc before (e ∷ []) l) (ruled_rule first (before ++ e ∷ []) l rec rest h.1)

-- what is cut off has a record for each that is owed only without it
debts_at : (k first : ℕ) (a b : List LogRecord) → IsRuled first [] (a ++ b) → EndsNone b → debts k first a ≤ length b + debts k first (a ++ b)
debts_at k first a [] h none = rw (append-nil a) (omega arith)
debts_at k first a (rec ∷ b) h none =
    let here = one_more first a rec (ruled_fronts first a (rec ∷ b) h) (ruled_rule first [] a rec b h) none.0 k in
    let same : (a ++ rec ∷ []) ++ b ≡ a ++ rec ∷ b = append_assoc a (rec ∷ []) b in
    let rest = debts_at k first (a ++ rec ∷ []) b (subst (IsRuled first []) (sym same) h) none.1 in
    let rest' : debts k first (a ++ rec ∷ []) ≤ length b + debts k first (a ++ rec ∷ b) = subst (λ z. debts k first (a ++ rec ∷ []) ≤ length b + debts k first z) same rest in
    omega arith

pub cuts_owe_no_more : CutsOweNoMore
cuts_owe_no_more first a b h none =
    let l = length-append a b in
    let d = debts_at (first + length (a ++ b)) first a b h none in
    let m : debts (length b + (first + length a)) first a ≡ debts (first + length a) first a = total_more (λ u. debt_of (left_of u first a None)) (length b) (first + length a) (λ u le. ap debt_of (left_of-new u first a le)) in
    let e : length b + (first + length a) ≡ first + length (a ++ b) = omega arith in
    let m' : debts (first + length (a ++ b)) first a ≡ debts (first + length a) first a = ap (λ k. debts k first a) (sym e) ∙ m in
    omega arith

-- ---- what is left stands in the log

-- what stands in a log stands in a longer one
logged_longer : (first : ℕ) (recs : List LogRecord) (rec : LogRecord) (t : ℕ) (us : List OpenUpdate) → AreLogged first recs t us → AreLogged first (recs ++ rec ∷ []) t us
logged_longer first recs rec t [] h = tt
logged_longer first recs rec t (u ∷ us) h = ((h.0.0, h.0.1, record_at-push first recs rec u.number h.0.0 h.0.2, h.0.3), logged_longer first recs rec t us h.1)

-- what is taken back leaves less
logged_down : (first : ℕ) (recs : List LogRecord) (t next : ℕ) (us : List OpenUpdate) → AreLogged first recs t us → AreLogged first recs t (down_to next us)
logged_down first recs t next [] h = tt
logged_down first recs t next (u ∷ us) h = go (ltb next u.number) (logged_down first recs t next us h.1)
  where
    go : (b : Bool) → AreLogged first recs t (down_to next us) → AreLogged first recs t (cond b (down_to next us) (u ∷ down_to next us))
    go true k = k
    go false k = (h.0, k)

-- what is left behind a record stands in the log
logged_step : (first : ℕ) (recs : List LogRecord) (rec : LogRecord) (t : ℕ) (s : Option (List OpenUpdate)) → IfSome s (AreLogged first recs t)
    → IfSome (left_by_effect t (first + length recs) (effect_of rec) s) (AreLogged first (recs ++ rec ∷ []) t)
logged_step first recs rec t s h = by (effect_of rec) refl s h
  where
    stay : (s : Option (List OpenUpdate)) → IfSome s (AreLogged first recs t) → IfSome s (AreLogged first (recs ++ rec ∷ []) t)
    stay None h = tt
    stay (Some us) h = logged_longer first recs rec t us h

    by : (e : Effect) → effect_of rec ≡ e → (s : Option (List OpenUpdate)) → IfSome s (AreLogged first recs t)
        → IfSome (left_by_effect t (first + length recs) e s) (AreLogged first (recs ++ rec ∷ []) t)
    by Begun e s h = go (eqb (first + length recs) t)
      where
        go : (b : Bool) → IfSome (cond b (Some []) s) (AreLogged first (recs ++ rec ∷ []) t)
        go true = tt
        go false = stay s h
    by (Mapped page bsi op) e s h = stay s h
    by (Ended u) e s h = go (eqb u t)
      where
        go : (b : Bool) → IfSome (cond b None s) (AreLogged first (recs ++ rec ∷ []) t)
        go true = tt
        go false = stay s h
    by (Updated u page bsi op back) e s h = go (cases_eq u t) s h
      where
        go : (u ≡ t) ⊎ (u ≢ t) → (s : Option (List OpenUpdate)) → IfSome s (AreLogged first recs t)
            → IfSome (cond (eqb u t) (with_update (record { number = first + length recs; page = page; update = op; back = back }) s) s) (AreLogged first (recs ++ rec ∷ []) t)
        go (inr d) s h = rw (ne_eqb u t d) (stay s h)
        go (inl z) None h = rw (eq-eqb u t z) tt
        go (inl z) (Some us) h = rw (eq-eqb u t z) ((rec, bsi, record_at-last first recs rec, e ∙ ap (λ v. Updated v page bsi op back) z), logged_longer first recs rec t us h)
    by (Compensated u next page bsi op) e s h = go (eqb u t) s h
      where
        go : (b : Bool) (s : Option (List OpenUpdate)) → IfSome s (AreLogged first recs t) → IfSome (cond b (taken_down_to next s) s) (AreLogged first (recs ++ rec ∷ []) t)
        go false s h = stay s h
        go true None h = tt
        go true (Some us) h = logged_longer first recs rec t (down_to next us) (logged_down first recs t next us h)

logged_all : (first : ℕ) (before l : List LogRecord) (t : ℕ) → IfSome (left_of t first before None) (AreLogged first before t) → IfSome (left_of t first (before ++ l) None) (AreLogged first (before ++ l) t)
logged_all first before [] t h = subst (λ z. IfSome (left_of t first z None) (AreLogged first z t)) (sym (append-nil before)) h
logged_all first before (rec ∷ l) t h =
    let step = subst (λ s. IfSome s (AreLogged first (before ++ rec ∷ []) t)) (sym (left_of-append t first before rec None)) (logged_step first before rec t (left_of t first before None) h) in
    subst (λ z. IfSome (left_of t first z None) (AreLogged first z t)) (append_assoc before (rec ∷ []) l) (logged_all first (before ++ rec ∷ []) l t step)

pub left_is_logged : LeftIsLogged
left_is_logged first recs t us e = subst (λ s. IfSome s (AreLogged first recs t)) e (logged_all first [] recs t tt)
