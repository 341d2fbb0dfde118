-- A log that begins later keeps its rules and its room.
use Rattle.std.proofs.Common.{◌≡◌, ◌⊎◌, inl, inr, ℕ, zero, suc, ◌+◌, ◌-◌, ◌<◌, ◌≤◌, Bool, true, false, cond, nat_le, ◌||◌, List, [], ◌∷◌, ◌++◌, length, refl, ap, sym, subst, ◌∙◌, arith, Some, None, IsSome, option_and_then, unwrap_or, append_assoc, append-nil, length-append}
use Rattle.std.specs.List.{slice_get}
use Rattle.std.proofs.lemmas.Bool.{cases_lt}
use Rattle.std.proofs.lemmas.Bool.Decides.{nat_tests}
use Rattle.sd_base.specs.declared.page_op.PageOp.{PageOp}
use Rattle.log_record.specs.declared.record.LogRecord.{LogRecord}
use Rattle.compensation.specs.Left.{next_after}
use Rattle.compensation.specs.Finding.{record_at, record_before}
use Rattle.compensation.proofs.LogRecords.{at_place}
use Rattle.recovery_theory.specs.Effect.{Effect, effect_of, left_of}
use Rattle.recovery_theory.specs.Effect.Effect.{Begun, Updated, Ended, Compensated, Mapped}
use Rattle.recovery_theory.specs.Rules.{Follows, IsRuled, RuleOf, RuledFromLater, TakesBack, debts, ends, has_ended, is_record_of, last_record_of, owed_by}
use Rattle.recovery_theory.proofs.BeginsAndLocks.{left_of-new}
use Rattle.recovery_theory.proofs.LogMoves.{left_of-old, left_of-split}
use Rattle.recovery_theory.proofs.OwedRecords.{left_is_logged}
use Rattle.recovery_theory.proofs.RuledLogs.{ruled_fronts, ruled_more, told_of}

-- ---- places

-- a comparison that holds
le_true : (a b : ℕ) → a ≤ b → nat_le a b ≡ true
le_true a b le = go (nat_le a b) refl
  where
    go : (c : Bool) → nat_le a b ≡ c → c ≡ true
    go true e = refl
    go false e = absurd (grind (arith, nat_tests))

-- a record has its number wherever its log begins
place_next : (first : ℕ) (rec : LogRecord) (l : List LogRecord) (r : ℕ) → first < r → record_at first (rec ∷ l) r ≡ record_at (suc first) l r
place_next first rec l r lt =
    let e : r - first ≡ suc (r - suc first) = omega arith in
    rw (le_true first r (omega arith), le_true (suc first) r lt, e) refl

place_later : (first : ℕ) (a b : List LogRecord) (r : ℕ) → first + length a ≤ r → record_at first (a ++ b) r ≡ record_at (first + length a) b r
place_later first [] b r le = ap (λ f. record_at f b r) (omega arith)
place_later first (rec ∷ a) b r le = place_next first rec (a ++ b) r (omega arith) ∙ (place_later (suc first) a b r (omega arith) ∙ ap (λ f. record_at f b r) (omega arith))

-- a transaction's last record, in two parts of a log
last_split : (t r : ℕ) (a b : List LogRecord) (last : ℕ) → last_record_of t r (a ++ b) last ≡ last_record_of t (r + length a) b (last_record_of t r a last)
last_split t r [] b last = ap (λ z. last_record_of t z b last) (omega arith)
last_split t r (rec ∷ a) b last =
    last_split t (suc r) a b (cond (is_record_of t (effect_of rec)) r last)
    ∙ ap (λ z. last_record_of t z b (last_record_of t (suc r) a (cond (is_record_of t (effect_of rec)) r last))) (omega arith)

last_low : (t f r : ℕ) (l : List LogRecord) (last : ℕ) → f ≤ r → f ≤ last → f ≤ last_record_of t r l last
last_low t f r [] last a b = b
last_low t f r (rec ∷ l) last a b = last_low t f (suc r) l (cond (is_record_of t (effect_of rec)) r last) (omega arith) (go (is_record_of t (effect_of rec)))
  where
    go : (c : Bool) → f ≤ cond c r last
    go true = a
    go false = b

-- a transaction that hasn't ended in a log hasn't in its rest
ended_rest : (t : ℕ) (a b : List LogRecord) → has_ended t (a ++ b) ≡ false → has_ended t b ≡ false
ended_rest t [] b h = h
ended_rest t (rec ∷ a) b h = ended_rest t a b (go (ends t (effect_of rec)) (has_ended t (a ++ b)) h)
  where
    go : (c d : Bool) → (c || d) ≡ false → d ≡ false
    go true d e = absurd cc
    go false d e = e

-- an update names a record of the log, if its transaction began in it
names_late : (first i t page bsi : ℕ) (op back : PageOp) (rec : LogRecord) (before l : List LogRecord) → IsRuled first before l → slice_get l i ≡ Some rec → effect_of rec ≡ Updated t page bsi op back → first ≤ t
    → first ≤ record_before rec
names_late first i t page bsi op back rec before [] h at is low = absurd cc
names_late first zero t page bsi op back rec before (e ∷ l) h at is low =
    let same : e ≡ rec = cc in
    let rule : Follows first before t rec = subst (RuleOf first before rec) is (subst (λ z. RuleOf first before z (effect_of z)) same h.0) in
    rw (rule.prev low) (last_low t first first before t (omega arith) low)
names_late first (suc i) t page bsi op back rec before (e ∷ l) h at is low = names_late first i t page bsi op back rec (before ++ e ∷ []) l h.1 at is low

-- ---- the rules

module _ (first : ℕ) (a : List LogRecord) (front : IsRuled first [] a) where
  abbrev later : ℕ
  later = first + length a

  left_same : (t : ℕ) (b : List LogRecord) → later ≤ t → left_of t first (a ++ b) None ≡ left_of t later b None
  left_same t b low = left_of-split t first a b None ∙ ap (left_of t later b) (left_of-new t first a low)

  last_same : (t : ℕ) (b : List LogRecord) → later ≤ t → last_record_of t first (a ++ b) t ≡ last_record_of t later b t
  last_same t b low = last_split t first a b t ∙ ap (last_record_of t later b) ((told_of first a t front (omega arith)).early low).last

  follows : (b : List LogRecord) (t : ℕ) (rec : LogRecord) → Follows first (a ++ b) t rec → Follows later b t rec
  follows b t rec f = record {
    below = (let z = f.below in omega (arith, length-append a b));
    going = ended_rest t a b f.going;
    begun = λ low. subst IsSome (left_same t b low) (f.begun (omega arith));
    prev = λ low. f.prev (omega arith) ∙ last_same t b low;
  }

  takes_back : (b : List LogRecord) (t next page : ℕ) (op : PageOp) → IsRuled later [] b → later ≤ t → TakesBack first (a ++ b) t next page op → TakesBack later b t next page op
  takes_back b t next page op ruled low k = record {
    undo = k.undo;
    rest = k.rest;
    newest = newest;
    page_is = k.page_is;
    op_is = k.op_is;
    update = k.update;
    there = there;
    next_is = k.next_is ∙ ap (λ o. unwrap_or (option_and_then (next_after t) o) (record_before k.update)) (place_later first a b (record_before k.update) prev_low);
  }
    where
      newest : left_of t later b None ≡ Some (k.undo ∷ k.rest)
      newest = sym (left_same t b low) ∙ k.newest

      there_is : (rec : LogRecord) × (bsi : ℕ) × (record_at later b k.undo.number ≡ Some rec) × (effect_of rec ≡ Updated t k.undo.page bsi k.undo.update k.undo.back)
      there_is = (left_is_logged later b t (k.undo ∷ k.rest) newest).0

      number_low : later ≤ k.undo.number
      number_low = (at_place later b k.undo.number there_is.0 there_is.2).0

      there : record_at later b k.undo.number ≡ Some k.update
      there = sym (place_later first a b k.undo.number number_low) ∙ k.there

      same : there_is.0 ≡ k.update
      same = let e : Some there_is.0 ≡ Some k.update = sym there_is.2 ∙ there in cc

      prev_low : later ≤ record_before k.update
      prev_low = names_late later (k.undo.number - later) t k.undo.page there_is.1 k.undo.update k.undo.back k.update [] b ruled (at_place later b k.undo.number k.update there).1 (ap effect_of (sym same) ∙ there_is.3) low

  rule : (b : List LogRecord) (rec : LogRecord) (e : Effect) → IsRuled later [] b → RuleOf first (a ++ b) rec e → RuleOf later b rec e
  rule b rec Begun ruled h = tt
  rule b rec (Updated t page bsi op back) ruled h = follows b t rec h
  rule b rec (Ended t) ruled h = follows b t rec h
  rule b rec (Compensated t next page bsi op) ruled h = (follows b t rec h.0, λ low. takes_back b t next page op ruled low (h.1 (omega arith)))
  rule b rec (Mapped page bsi op) ruled h = tt

  rest_ruled : (b l : List LogRecord) → IsRuled later [] b → IsRuled first (a ++ b) l → IsRuled later b l
  rest_ruled b [] ruled h = tt
  rest_ruled b (rec ∷ l) ruled h =
      let r = rule b rec (effect_of rec) ruled h.0 in
      (r, rest_ruled (b ++ rec ∷ []) l (ruled_more later b rec ruled r) (subst (λ z. IsRuled first z l) (append_assoc a b (rec ∷ [])) h.1))

-- the rest of a log keeps the rules behind its front
ruled_behind : (first : ℕ) (before a b : List LogRecord) → IsRuled first before (a ++ b) → IsRuled first (before ++ a) b
ruled_behind first before [] b h = subst (λ z. IsRuled first z b) (sym (append-nil before)) h
ruled_behind first before (rec ∷ a) b h = subst (λ z. IsRuled first z b) (append_assoc before (rec ∷ []) a) (ruled_behind first (before ++ rec ∷ []) a b h.1)

pub ruled_later : RuledFromLater
ruled_later first a b h = rest_ruled first a (ruled_fronts first a b h) [] b tt (subst (λ z. IsRuled first z b) (sym (append-nil a)) (ruled_behind first [] a b h))

-- ---- the room

-- a log that begins later owes no more
debts_later : (k first : ℕ) (a b : List LogRecord) → debts k (first + length a) b ≤ debts k first (a ++ b)
debts_later zero first a b = omega arith
debts_later (suc t) first a b = go (cases_lt t (first + length a)) (debts_later t first a b)
  where
    go : (t < first + length a) ⊎ (first + length a ≤ t) → debts t (first + length a) b ≤ debts t first (a ++ b) → debts (suc t) (first + length a) b ≤ debts (suc t) first (a ++ b)
    go (inl lt) rest = rw (left_of-old t (first + length a) b lt) (omega (arith, rest))
    go (inr ge) rest = rw (left_of-split t first a b None, left_of-new t first a ge) (omega (arith, rest))

pub owes_later : (first : ℕ) (a b : List LogRecord) → owed_by (first + length a) b ≤ owed_by first (a ++ b)
owes_later first a b =
    let e : first + length a + length b ≡ first + length (a ++ b) = omega (arith, length-append a b) in
    subst (λ k. debts k (first + length a) b ≤ owed_by first (a ++ b)) (sym e) (debts_later (first + length (a ++ b)) first a b)
