-- Logs that keep the rules say what is left, forwards and backwards.
use Rattle.std.proofs.Common.{◌≡◌, ◌≢◌, ◌⊎◌, inl, inr, ℕ, suc, ◌+◌, ◌<◌, ◌≤◌, Bool, true, false, cond, eqb, ltb, nat_le, All, List, [], ◌∷◌, ◌++◌, length, filter, refl, ap, sym, subst, ◌∙◌, arith, Option, Some, None, append_assoc, append-nil, length-append, eq-eqb, ne_eqb}
use Rattle.std.proofs.lemmas.Bool.{cases_eq}
use Rattle.std.proofs.lemmas.Bool.Decides.{nat_tests}
use Rattle.sd_base.specs.declared.page_op.PageOp.{PageOp}
use Rattle.log_record.specs.declared.record.LogRecord.{LogRecord}
use Rattle.log_record.specs.declared.record.LogRecord.TheVariants.{Begin, Set, Append, Commit, Abort, Restore, Cut, MapUse, MapFree}
use Rattle.compensation.specs.Left.{is_update_of, next_after, uncompensated}
use Rattle.compensation.specs.Finding.{TellsLeft, left_at, record_before}
use Rattle.compensation.proofs.LeftLaws.{left-update, left-compensation, left-other, Falls-uncompensated}
use Rattle.compensation.proofs.FindingLaws.{TellsLeft-empty, TellsLeft-update, TellsLeft-other, TellsLeft-taken_back, left-taken_back}
use Rattle.compensation.proofs.LogRecords.{left_at-push, left_at-last}
use Rattle.recovery_theory.specs.Effect.{Effect, OpenUpdate, down_to, effect_of, left_by_effect, left_of, with_update}
use Rattle.recovery_theory.specs.Effect.Effect.{Begun, Updated, Ended, Compensated, Mapped}
use Rattle.recovery_theory.specs.Rules.{LeftBothWays, Follows, IsRuled, RuleOf, FrontsAreRuled, RuledWithOneMore, TakesBack, is_record_of, last_record_of, numbers}
use Rattle.recovery_theory.proofs.OpenUpdates.{left_of-append}
use Rattle.std.specs.Prelude.{⊤}

-- ---- fronts

-- the front of a log keeps the rules
ruled_front : (first : ℕ) (before a b : List LogRecord) → IsRuled first before (a ++ b) → IsRuled first before a
ruled_front first before [] b h = tt
ruled_front first before (rec ∷ a) b h = (h.0, ruled_front first (before ++ rec ∷ []) a b h.1)

pub ruled_fronts : FrontsAreRuled
ruled_fronts first a b h = ruled_front first [] a b h

-- one more record that keeps its rule
ruled_push : (first : ℕ) (before l : List LogRecord) (rec : LogRecord) → IsRuled first before l → RuleOf first (before ++ l) rec (effect_of rec) → IsRuled first before (l ++ rec ∷ [])
ruled_push first before [] rec h r = (subst (λ z. RuleOf first z rec (effect_of rec)) (append-nil before) r, tt)
ruled_push first before (e ∷ l) rec h r = (h.0, ruled_push first (before ++ e ∷ []) l rec h.1 (subst (λ z. RuleOf first z rec (effect_of rec)) (sym (append_assoc before (e ∷ []) l)) r))

pub ruled_more : RuledWithOneMore
ruled_more first l rec h r = ruled_push first [] l rec h r

-- ---- what a record is to a transaction, in the words of compensation

-- what the words of compensations say of a record, by its effect
abbrev KindOf : ℕ → LogRecord → Effect → Type 0
KindOf t rec Begun = (is_update_of t rec ≡ false) × (next_after t rec ≡ None)
KindOf t rec (Updated txn page bsi op back) = (is_update_of t rec ≡ eqb txn t) × (next_after t rec ≡ None)
KindOf t rec (Ended txn) = (is_update_of t rec ≡ false) × (next_after t rec ≡ None)
KindOf t rec (Compensated txn next page bsi op) = (is_update_of t rec ≡ false) × (next_after t rec ≡ cond (eqb txn t) (Some next) None)
KindOf t rec (Mapped page bsi op) = (is_update_of t rec ≡ false) × (next_after t rec ≡ None)

-- each record is of that kind
kind_of : (t : ℕ) (rec : LogRecord) → KindOf t rec (effect_of rec)
kind_of t Begin = (refl, refl)
kind_of t (Set txn prev page bsi slot before after) = (refl, refl)
kind_of t (Append txn prev page bsi slot present len bytes) = (refl, refl)
kind_of t (Commit txn prev) = (refl, refl)
kind_of t (Abort txn prev) = (refl, refl)
kind_of t (Restore txn prev next page bsi slot after) = (refl, refl)
kind_of t (Cut txn prev next page bsi slot present len) = (refl, refl)
kind_of t (MapUse page bsi place group) = (refl, refl)
kind_of t (MapFree page bsi place group ident) = (refl, refl)

-- a transaction's last record, with one more record
last_record_of-append : (t r : ℕ) (l : List LogRecord) (rec : LogRecord) (last : ℕ) → last_record_of t r (l ++ rec ∷ []) last ≡ cond (is_record_of t (effect_of rec)) (r + length l) (last_record_of t r l last)
last_record_of-append t r [] rec last = ap (λ k. cond (is_record_of t (effect_of rec)) k last) (omega arith)
last_record_of-append t r (e ∷ l) rec last =
    last_record_of-append t (suc r) l rec (cond (is_record_of t (effect_of e)) r last)
    ∙ ap (λ k. cond (is_record_of t (effect_of rec)) k (last_record_of t (suc r) l (cond (is_record_of t (effect_of e)) r last))) (omega arith)

-- ---- what is known of transaction t

-- what the records tell of a transaction that has begun
pub record Late (first : ℕ) (recs : List LogRecord) (t : ℕ) (us : List OpenUpdate) : Type 0 where
  pub named : numbers us ≡ uncompensated t first recs
  pub tells : TellsLeft t first recs
  pub low : first ≤ last_record_of t first recs t
  pub high : last_record_of t first recs t < first + length recs
  pub at_last : left_at t first recs (last_record_of t first recs t) ≡ uncompensated t first recs

-- of one that has not
pub record Early (first : ℕ) (recs : List LogRecord) (t : ℕ) : Type 0 where
  pub none : uncompensated t first recs ≡ []
  pub tells : TellsLeft t first recs
  pub last : last_record_of t first recs t ≡ t

-- of either
pub record Told (first : ℕ) (recs : List LogRecord) (t : ℕ) : Type 0 where
  pub early : first + length recs ≤ t → Early first recs t
  pub late : (us : List OpenUpdate) → left_of t first recs None ≡ Some us → Late first recs t us

-- the updates down to a number that leaves all but the newest
numbers-down : (next : ℕ) (us : List OpenUpdate) → numbers (down_to next us) ≡ filter (λ u. nat_le u next) (numbers us)
numbers-down next [] = refl
numbers-down next (u ∷ us) = go (ltb next u.number) refl (nat_le u.number next) refl (numbers-down next us)
  where
    go : (a : Bool) → ltb next u.number ≡ a → (b : Bool) → nat_le u.number next ≡ b → numbers (down_to next us) ≡ filter (λ u. nat_le u next) (numbers us)
        → numbers (cond a (down_to next us) (u ∷ down_to next us)) ≡ cond b (u.number ∷ filter (λ u. nat_le u next) (numbers us)) (filter (λ u. nat_le u next) (numbers us))
    go true x true y h = absurd (grind (arith, nat_tests))
    go true x false y h = h
    go false x true y h = ap (λ l. u.number ∷ l) h
    go false x false y h = absurd (grind (arith, nat_tests))

-- what is taken back leaves less, and the same where it leaves as many numbers
length-down : (next : ℕ) (us : List OpenUpdate) → length (numbers (down_to next us)) ≤ length (numbers us)
length-down next [] = omega arith
length-down next (u ∷ us) = go (ltb next u.number) (length-down next us)
  where
    go : (a : Bool) → length (numbers (down_to next us)) ≤ length (numbers us) → length (numbers (cond a (down_to next us) (u ∷ down_to next us))) ≤ suc (length (numbers us))
    go true h = omega arith
    go false h = omega arith

all_down : (next : ℕ) (us : List OpenUpdate) → numbers (down_to next us) ≡ numbers us → down_to next us ≡ us
all_down next [] e = refl
all_down next (u ∷ us) e = go (ltb next u.number) e (all_down next us) (length-down next us)
  where
    go : (a : Bool) → numbers (cond a (down_to next us) (u ∷ down_to next us)) ≡ u.number ∷ numbers us → (numbers (down_to next us) ≡ numbers us → down_to next us ≡ us) → length (numbers (down_to next us)) ≤ length (numbers us)
        → cond a (down_to next us) (u ∷ down_to next us) ≡ u ∷ us
    go true e rest le = let l = ap (λ (z : List ℕ). length z) e in absurd (omega arith)
    go false e rest le = ap (λ z. u ∷ z) (rest cc)

-- these numbers fall
abbrev Falling : List ℕ → Type 0
Falling [] = ⊤
Falling (u ∷ us) = All (λ v. v < u) us × Falling us

-- a compensation that keeps its rule takes the newest update back
module _ (first : ℕ) (recs : List LogRecord) (t next page : ℕ) (op : PageOp) (us : List OpenUpdate) (late : Late first recs t us) (is : left_of t first recs None ≡ Some us) (b : TakesBack first recs t next page op) where
  same : us ≡ b.undo ∷ b.rest
  same = let e : Some us ≡ Some (b.undo ∷ b.rest) = sym is ∙ b.newest in cc

  named : uncompensated t first recs ≡ b.undo.number ∷ numbers b.rest
  named = sym late.named ∙ ap numbers same

  pub left_then : (rec : LogRecord) → next_after t rec ≡ Some next → uncompensated t first (recs ++ rec ∷ []) ≡ numbers b.rest
  left_then rec e = left-taken_back t first recs b.undo.number (numbers b.rest) b.update rec late.tells named b.there (e ∙ ap Some b.next_is)

  pub told_then : (rec : LogRecord) → next_after t rec ≡ Some next → TellsLeft t first (recs ++ rec ∷ [])
  told_then rec e = TellsLeft-taken_back t first recs b.undo.number (numbers b.rest) b.update rec late.tells named b.there (e ∙ ap Some b.next_is)

  pub takes_newest : down_to next (b.undo ∷ b.rest) ≡ b.rest
  takes_newest = go (ltb next b.undo.number) refl
    where
      some : LogRecord
      some = Restore t 0 next (record { 0 = page }) 0 0 None

      e : next_after t (Restore t 0 next (record { 0 = page }) 0 0 None) ≡ Some next
      e = rw (eq-eqb t t refl) refl

      less : numbers (down_to next (b.undo ∷ b.rest)) ≡ numbers b.rest
      less = numbers-down next (b.undo ∷ b.rest) ∙ (ap (filter (λ u. nat_le u next)) (sym named) ∙ (sym (left-compensation t first next recs (Restore t 0 next (record { 0 = page }) 0 0 None) e) ∙ left_then (Restore t 0 next (record { 0 = page }) 0 0 None) e))

      go : (c : Bool) → ltb next b.undo.number ≡ c → down_to next (b.undo ∷ b.rest) ≡ b.rest
      go true z = rw z (all_down next b.rest (rw z at less))
      go false z = absurd (clash b.rest (rw z at less) (subst (λ l. Falling l) named (Falls-uncompensated t first recs)))
        where
          clash : (rest : List OpenUpdate) → b.undo.number ∷ numbers (down_to next rest) ≡ numbers rest → Falling (b.undo.number ∷ numbers rest) → ⊥
          clash [] q f = absurd cc
          clash (w ∷ ws) q f =
              let h : b.undo.number ≡ w.number = cc in
              let lt = f.0 0 w.number (omega arith) in
              absurd (omega arith)

-- ---- one record more

-- a record that isn't of the transaction
told_other : (first : ℕ) (recs : List LogRecord) (t : ℕ) (rec : LogRecord) → is_update_of t rec ≡ false → next_after t rec ≡ None → is_record_of t (effect_of rec) ≡ false
    → left_of t first (recs ++ rec ∷ []) None ≡ left_of t first recs None → Told first recs t → Told first (recs ++ rec ∷ []) t
told_other first recs t rec not_up none off alike told = record {
  early = λ le. let e = told.early (omega (arith, length-append recs (rec ∷ []))) in record {
    none = left-other t first recs rec not_up none ∙ e.none;
    tells = TellsLeft-other t first recs rec e.tells not_up none;
    last = last_same ∙ e.last;
  };
  late = λ us is. let l = told.late us (sym alike ∙ is) in record {
    named = l.named ∙ sym (left-other t first recs rec not_up none);
    tells = TellsLeft-other t first recs rec l.tells not_up none;
    low = rw last_same l.low;
    high = rw last_same (omega (arith, l.high, length-append recs (rec ∷ [])));
    at_last = rw last_same (left_at-push t first recs rec (last_record_of t first recs t) l.high ∙ (l.at_last ∙ sym (left-other t first recs rec not_up none)));
  };
}
  where
    last_same : last_record_of t first (recs ++ rec ∷ []) t ≡ last_record_of t first recs t
    last_same = last_record_of-append t first recs rec t ∙ rw off refl

-- one more record that keeps its rule leaves it told
told_step : (first : ℕ) (recs : List LogRecord) (t : ℕ) (rec : LogRecord) → first ≤ t → RuleOf first recs rec (effect_of rec) → Told first recs t → Told first (recs ++ rec ∷ []) t
told_step first recs t rec ge rule told = by (effect_of rec) refl
  where
    after : left_of t first (recs ++ rec ∷ []) None ≡ left_by_effect t (first + length recs) (effect_of rec) (left_of t first recs None)
    after = left_of-append t first recs rec None

    long : length (recs ++ rec ∷ []) ≡ suc (length recs)
    long = omega (arith, length-append recs (rec ∷ []))

    -- the record is the transaction's last one
    last_now : is_record_of t (effect_of rec) ≡ true → last_record_of t first (recs ++ rec ∷ []) t ≡ first + length recs
    last_now e = last_record_of-append t first recs rec t ∙ rw e refl

    at_now : is_record_of t (effect_of rec) ≡ true → left_at t first (recs ++ rec ∷ []) (last_record_of t first (recs ++ rec ∷ []) t) ≡ uncompensated t first (recs ++ rec ∷ [])
    at_now e = ap (left_at t first (recs ++ rec ∷ [])) (last_now e) ∙ left_at-last t first recs rec

    by : (e : Effect) → effect_of rec ≡ e → Told first (recs ++ rec ∷ []) t
    by Begun is = go (cases_eq (first + length recs) t)
      where
        k : (is_update_of t rec ≡ false) × (next_after t rec ≡ None)
        k = subst (KindOf t rec) is (kind_of t rec)

        go : (first + length recs ≡ t) ⊎ (first + length recs ≢ t) → Told first (recs ++ rec ∷ []) t
        go (inr d) = told_other first recs t rec k.0 k.1 (rw is refl) (after ∙ rw (is, ne_eqb (first + length recs) t d) refl) told
        go (inl z) = record {
          early = λ le. absurd (omega (arith, long));
          late = λ us e.
              let was = told.early (omega arith) in
              let last : last_record_of t first (recs ++ rec ∷ []) t ≡ t = last_record_of-append t first recs rec t ∙ rw is was.last in
              let empty : Some [] ≡ Some us = sym (after ∙ rw (is, eq-eqb (first + length recs) t z) refl) ∙ e in
              let u : us ≡ [] = cc in record {
                named = ap numbers u ∙ sym (left-other t first recs rec k.0 k.1 ∙ was.none);
                tells = TellsLeft-other t first recs rec was.tells k.0 k.1;
                low = rw last ge;
                high = rw last (omega (arith, long));
                at_last = rw last (ap (left_at t first (recs ++ rec ∷ [])) (sym z) ∙ left_at-last t first recs rec);
              };
        }
    by (Mapped page bsi op) is =
        let k = subst (KindOf t rec) is (kind_of t rec) in
        told_other first recs t rec k.0 k.1 (rw is refl) (after ∙ rw is refl) told
    by (Ended txn) is = go (cases_eq txn t)
      where
        k : (is_update_of t rec ≡ false) × (next_after t rec ≡ None)
        k = subst (KindOf t rec) is (kind_of t rec)

        f : Follows first recs txn rec
        f = rw is at rule

        go : (txn ≡ t) ⊎ (txn ≢ t) → Told first (recs ++ rec ∷ []) t
        go (inr d) = told_other first recs t rec k.0 k.1 (rw (is, ne_eqb txn t d) refl) (after ∙ rw (is, ne_eqb txn t d) refl) told
        go (inl z) = record {
          early = λ le. let b = f.below in absurd (omega (arith, long));
          late = λ us e. let none : None ≡ Some us = sym (after ∙ rw (is, eq-eqb txn t z) refl) ∙ e in absurd cc;
        }
    by (Updated txn page bsi op back) is = go (cases_eq txn t)
      where
        k : (is_update_of t rec ≡ eqb txn t) × (next_after t rec ≡ None)
        k = subst (KindOf t rec) is (kind_of t rec)

        f : Follows first recs txn rec
        f = rw is at rule

        go : (txn ≡ t) ⊎ (txn ≢ t) → Told first (recs ++ rec ∷ []) t
        go (inr d) = told_other first recs t rec (k.0 ∙ ne_eqb txn t d) k.1 (rw (is, ne_eqb txn t d) refl) (after ∙ rw (is, ne_eqb txn t d) refl) told
        go (inl z) = record {
          early = λ le. let b = f.below in absurd (omega (arith, long));
          late = λ us e. late us (left_of t first recs None) refl (sym (after ∙ rw (is, eq-eqb txn t z) refl) ∙ e);
        }
          where
            own : is_record_of t (effect_of rec) ≡ true
            own = rw (is, eq-eqb txn t z) refl

            late : (us : List OpenUpdate) (s : Option (List OpenUpdate)) → left_of t first recs None ≡ s → with_update (record { number = first + length recs; page = page; update = op; back = back }) s ≡ Some us → Late first (recs ++ rec ∷ []) t us
            late us None was e = absurd cc
            late us (Some old) was e =
                let l = told.late old was in
                let u : us ≡ record { number = first + length recs; page = page; update = op; back = back } ∷ old = cc in
                let prev : record_before rec ≡ last_record_of t first recs t = f.prev (rw z ge) ∙ ap (λ v. last_record_of v first recs v) z in
                record {
                  named = ap numbers u ∙ (ap (λ z. (first + length recs) ∷ z) l.named ∙ sym (left-update t first recs rec (k.0 ∙ eq-eqb txn t z)));
                  tells = TellsLeft-update t first recs rec l.tells (k.0 ∙ eq-eqb txn t z) (rw prev l.low) (rw prev l.high) (rw prev l.at_last);
                  low = rw (last_now own) (omega arith);
                  high = rw (last_now own) (omega (arith, long));
                  at_last = at_now own;
                }
    by (Compensated txn next page bsi op) is = go (cases_eq txn t)
      where
        k : (is_update_of t rec ≡ false) × (next_after t rec ≡ cond (eqb txn t) (Some next) None)
        k = subst (KindOf t rec) is (kind_of t rec)

        f : Follows first recs txn rec × (first ≤ txn → TakesBack first recs txn next page op)
        f = rw is at rule

        go : (txn ≡ t) ⊎ (txn ≢ t) → Told first (recs ++ rec ∷ []) t
        go (inr d) = told_other first recs t rec k.0 (k.1 ∙ rw (ne_eqb txn t d) refl) (rw (is, ne_eqb txn t d) refl) (after ∙ rw (is, ne_eqb txn t d) refl) told
        go (inl z) = record {
          early = λ le. let b = f.0.below in absurd (omega (arith, long));
          late = late;
        }
          where
            own : is_record_of t (effect_of rec) ≡ true
            own = rw (is, eq-eqb txn t z) refl

            b : TakesBack first recs t next page op
            b = subst (λ v. TakesBack first recs v next page op) z (f.1 (rw z ge))

            says : next_after t rec ≡ Some next
            says = k.1 ∙ rw (eq-eqb txn t z) refl

            late : (us : List OpenUpdate) → left_of t first (recs ++ rec ∷ []) None ≡ Some us → Late first (recs ++ rec ∷ []) t us
            late us e =
                let l = told.late (b.undo ∷ b.rest) b.newest in
                let took = takes_newest first recs t next page op (b.undo ∷ b.rest) l b.newest b in
                let now : Some b.rest ≡ Some us = sym (after ∙ rw (is, eq-eqb txn t z, b.newest) (ap (λ v. Some v) took)) ∙ e in
                let u : us ≡ b.rest = cc in
                record {
                  named = ap numbers u ∙ sym (left_then first recs t next page op (b.undo ∷ b.rest) l b.newest b rec says);
                  tells = told_then first recs t next page op (b.undo ∷ b.rest) l b.newest b rec says;
                  low = rw (last_now own) (omega arith);
                  high = rw (last_now own) (omega (arith, long));
                  at_last = at_now own;
                }

told_all : (first : ℕ) (before l : List LogRecord) (t : ℕ) → first ≤ t → IsRuled first before l → Told first before t → Told first (before ++ l) t
told_all first before [] t ge h told = subst (λ z. Told first z t) (sym (append-nil before)) told
told_all first before (rec ∷ l) t ge h told = subst (λ z. Told first z t) (append_assoc before (rec ∷ []) l) (told_all first (before ++ rec ∷ []) l t ge h.1 (told_step first before t rec ge h.0 told))

pub told_of : (first : ℕ) (recs : List LogRecord) (t : ℕ) → IsRuled first [] recs → first ≤ t → Told first recs t
told_of first recs t h ge = told_all first [] recs t ge h (record {
  early = λ le. record { none = refl; tells = TellsLeft-empty t first; last = refl };
  late = λ us e. absurd cc;
})

pub both_ways : LeftBothWays
both_ways first recs t us h ge is =
    let l = (told_of first recs t h ge).late us is in record {
      uncompensated = l.named;
      tells = l.tells;
      takes_back = λ next page op b. takes_newest first recs t next page op us l is b;
    }
