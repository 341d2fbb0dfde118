-- What is held after locks are dropped, and which transaction is the least.
use Rattle.std.proofs.Common.{◌≡◌, ◌≢◌, ◌+◌, ◌<◌, ◌&&◌, ◌++◌, ℕ, zero, suc, Bool, true, false, cond, List, [], ◌∷◌, Option, Some, None, filter, map, fold, length, get_or, set, is_some, T, IsSome, ◌⊎◌, inl, inr, refl, sym, ◌∙◌, ap, subst, arith, add-one}
use Rattle.std.specs.Ordering.{is_eq, is_lt, is_gt, eq_by_cmp, ordering_reverse}
use Rattle.std.specs.FinMap as finite
use Rattle.std.specs.FinMap.Entries.{below_all, find-append}
use Rattle.std.specs.Cmp.{tied_itself, upto}
use Rattle.std.specs.declared.cmp.Ordering.{Ordering}
use Rattle.std.specs.declared.cmp.Ordering.TheVariants.{Less, Equal, Greater}
use Rattle.sd_base.specs.declared.names.Key.{Key}
use Rattle.sd_base.specs.declared.names.TxnId.{TxnId}
use Rattle.record_locks.specs.declared.mode.Mode.{Mode}
use Rattle.record_locks.specs.Order.{Lock, lock, txn_cmp, lock_cmp}
use Rattle.record_locks.specs.Held.{Held, lesser, least_of, least_where, locks_where, mode_of, raised, taken, passing, Passes, IsLeast}
use Rattle.record_locks.specs.Table.{IsDistinct}
use Rattle.record_locks.proofs.OrderLaws.{txn_cmp_total, lock_cmp_total, txn_cmp_antisymmetric, lock_cmp_antisymmetric, lock_ties-sym}

abbrev Locks : Type 0
Locks = List (Lock × Mode)

abbrev find : Lock → Locks → Option Mode
find = finite.find lock_cmp

passing-none : (test : Lock → Mode → Bool) (l : Lock) (o : Option Mode) → o ≡ None → passing test l o ≡ None
passing-none test l None e = refl
passing-none test l (Some mode) e = cc

-- a lock that ties with the first one is it
pub tied : (l k : Lock) → eq_by_cmp lock_cmp l k ≡ true → l ≡ k
tied l k e = lock_cmp_antisymmetric l k (equal (lock_cmp l k) e)
  where
    equal : (r : Ordering) → is_eq r ≡ true → r ≡ Equal
    equal Less h = cc
    equal Equal h = refl
    equal Greater h = cc

-- a filter keeps what passes
pub find-filter : (test : Lock → Mode → Bool) (l : Lock) (ls : Locks) → IsDistinct ls → find l (filter (λ e. test e.0 e.1) ls) ≡ passing test l (find l ls)
find-filter test l [] d = refl
find-filter test l (e ∷ es) d =
    let rest : find l (filter (λ e. test e.0 e.1) es) ≡ passing test l (find l es) = find-filter test l es d.1 in
    at (eq_by_cmp lock_cmp l e.0) (test e.0 e.1) refl refl rest
  where
    at : (b p : Bool) → eq_by_cmp lock_cmp l e.0 ≡ b → test e.0 e.1 ≡ p → find l (filter (λ e. test e.0 e.1) es) ≡ passing test l (find l es) → find l (cond p (e ∷ filter (λ e. test e.0 e.1) es) (filter (λ e. test e.0 e.1) es)) ≡ passing test l (cond b (Some e.1) (find l es))
    at true true same passes rest =
        ap (λ b. cond b (Some e.1) (find l (filter (λ e. test e.0 e.1) es))) same
        ∙ sym (ap (λ p. cond p (Some e.1) None) (ap (λ k. test k e.1) (tied l e.0 same) ∙ passes))
    at true false same passes rest =
        rest
        ∙ passing-none test l (find l es) (ap (λ k. find k es) (tied l e.0 same) ∙ d.0)
        ∙ sym (ap (λ p. cond p (Some e.1) None) (ap (λ k. test k e.1) (tied l e.0 same) ∙ passes))
    at false true other passes rest = ap (λ b. cond b (Some e.1) (find l (filter (λ e. test e.0 e.1) es))) other ∙ rest
    at false false other passes rest = rest

-- a filter keeps the locks distinct
pub IsDistinct-filter : (test : Lock → Mode → Bool) (ls : Locks) → IsDistinct ls → IsDistinct (filter (λ e. test e.0 e.1) ls)
IsDistinct-filter test [] d = tt
IsDistinct-filter test (e ∷ es) d =
    elim (test e.0 e.1) as (λ p. IsDistinct (cond p (e ∷ filter (λ e. test e.0 e.1) es) (filter (λ e. test e.0 e.1) es))) [
      | true ↦ (find-filter test e.0 es d.1 ∙ passing-none test e.0 (find e.0 es) d.0, IsDistinct-filter test es d.1)
      | false ↦ IsDistinct-filter test es d.1
    ]

below_none : (l : Lock) (ls : Locks) → T (below_all lock_cmp l ls) → find l ls ≡ None
below_none l [] h = refl
below_none l (e ∷ es) h = here (lock_cmp l e.0) (below_none l es) h
  where
    here : (r : Ordering) → (T (below_all lock_cmp l es) → find l es ≡ None) → T (is_lt r && below_all lock_cmp l es) → cond (is_eq r) (Some e.1) (find l es) ≡ None
    here Less rest h = rest h
    here Equal rest h = absurd h
    here Greater rest h = absurd h

sorted_distinct : (ls : Locks) → T (finite.is_sorted lock_cmp ls) → IsDistinct ls
sorted_distinct [] h = tt
sorted_distinct (e ∷ es) h = parts (below_all lock_cmp e.0 es) (finite.is_sorted lock_cmp es) h (below_none e.0 es) (sorted_distinct es)
  where
    parts : (a b : Bool) → T (a && b) → (T a → find e.0 es ≡ None) → (T b → IsDistinct es) → (find e.0 es ≡ None) × IsDistinct es
    parts true b h here rest = (here tt, rest h)
    parts false b h here rest = absurd h

-- a finite map has each lock once
pub IsDistinct-entries : (m : Held) → IsDistinct (finite.entries m)
IsDistinct-entries m = sorted_distinct (finite.entries m) (finite.entries_sorted m)

-- which locks are held after some were dropped
pub get-locks_where : (test : Lock → Mode → Bool) (m : Held) (l : Lock) → finite.get (locks_where test m) l ≡ passing test l (finite.get m l)
unfolding locks_where
get-locks_where test m l =
    finite.get-from_entries lock_cmp_total (filter (λ e. test e.0 e.1) (finite.entries m)) l
    ∙ find-filter test l (finite.entries m) (IsDistinct-entries m)
    ∙ ap (passing test l) (sym (finite.get-entries m l))

-- to drop entries from a list of locks is to drop these locks
pub from_entries-filter : (test : Lock → Mode → Bool) (ls : Locks) → IsDistinct ls → finite.from_entries {R = lock_cmp} (filter (λ e. test e.0 e.1) ls) ≡ locks_where test (finite.from_entries ls)
from_entries-filter test ls d =
    finite.same_map lock_cmp_total lock_cmp_antisymmetric _ _ (λ l.
    finite.get-from_entries lock_cmp_total (filter (λ e. test e.0 e.1) ls) l
    ∙ find-filter test l ls d
    ∙ ap (passing test l) (sym (finite.get-from_entries lock_cmp_total ls l))
    ∙ sym (get-locks_where test (finite.from_entries ls) l))

-- distinct locks are as many as they are
pub len-from_entries : (ls : Locks) → IsDistinct ls → finite.len (finite.from_entries {R = lock_cmp} ls) ≡ length ls
len-from_entries [] d = finite.len-empty lock_cmp Mode
len-from_entries (e ∷ es) d =
    let m : Held = finite.from_entries es in
    let new : is_some (finite.get m e.0) ≡ false = ap is_some (finite.get-from_entries lock_cmp_total es e.0 ∙ d.0) in
    finite.len-insert lock_cmp_total m e.0 e.1
    ∙ ap (λ b. cond b (finite.len m) (finite.len m + 1)) new
    ∙ ap (λ n. n + 1) (len-from_entries es d.1)
    ∙ add-one (length es)

-- a lock at a place is found
not_found : (ls : Locks) (i : ℕ) (d : Lock × Mode) (k : Lock) → i < length ls → (get_or ls i d).0 ≡ k → ¬ (find k ls ≡ None)
not_found [] i d k lt at = absurd (omega arith)
not_found (e ∷ es) zero d k lt at = λ none.
    let found : find k (e ∷ es) ≡ Some e.1 = ap (λ r. cond (is_eq r) (Some e.1) (find k es)) (ap (lock_cmp k) at ∙ tied_itself lock_cmp_total k) in
    let no : Some e.1 ≡ None = sym found ∙ none in cc
not_found (e ∷ es) (suc i) d k lt at = λ none.
    by (eq_by_cmp lock_cmp k e.0) (not_found es i d k (omega arith) at) none
  where
    by : (b : Bool) → ¬ (find k es ≡ None) → cond b (Some e.1) (find k es) ≡ None → ⊥
    by true later none = cc
    by false later none = later none

-- a lock in front of a distinct list isn't one at a place of it
apart : (l : Lock) (ls : Locks) (i : ℕ) (d : Lock × Mode) (k : Lock) → find l ls ≡ None → i < length ls → (get_or ls i d).0 ≡ k → eq_by_cmp lock_cmp l k ≡ false
apart l ls i d k none lt at = by (eq_by_cmp lock_cmp l k) refl
  where
    by : (b : Bool) → eq_by_cmp lock_cmp l k ≡ b → b ≡ false
    by true same = absurd (not_found ls i d k lt at (ap (λ j. find j ls) (sym (tied l k same)) ∙ none))
    by false other = refl

shadowed : (b : Bool) (x y z : Option Mode) → cond b x z ≡ cond b x (cond b y z)
shadowed true x y z = refl
shadowed false x y z = refl

crossed : (a b : Bool) (x y z : Option Mode) → (a ≡ true → b ≡ false) → cond a x (cond b y z) ≡ cond b y (cond a x z)
crossed true true x y z other = let no : true ≡ false = other refl in cc
crossed true false x y z other = refl
crossed false b x y z other = refl

-- a lock in another mode
pub find-set : (ls : Locks) (i : ℕ) (d : Lock × Mode) (k : Lock) (v : Mode) (q : Lock) → IsDistinct ls → i < length ls → (get_or ls i d).0 ≡ k → find q (set ls i (k, v)) ≡ cond (eq_by_cmp lock_cmp q k) (Some v) (find q ls)
find-set [] i d k v q dis lt at = absurd (omega arith)
find-set (e ∷ es) zero d k v q dis lt at =
    shadowed (eq_by_cmp lock_cmp q k) (Some v) (Some e.1) (find q es)
    ∙ ap (λ j. cond (eq_by_cmp lock_cmp q k) (Some v) (cond (eq_by_cmp lock_cmp q j) (Some e.1) (find q es))) (sym at)
find-set (e ∷ es) (suc i) d k v q dis lt at =
    let before : i < length es = omega arith in
    ap (cond (eq_by_cmp lock_cmp q e.0) (Some e.1)) (find-set es i d k v q dis.1 before at)
    ∙ crossed (eq_by_cmp lock_cmp q e.0) (eq_by_cmp lock_cmp q k) (Some e.1) (Some v) (find q es)
    (λ same. ap (λ j. eq_by_cmp lock_cmp j k) (tied q e.0 same) ∙ apart e.0 es i d k dis.0 before at)

pub IsDistinct-set : (ls : Locks) (i : ℕ) (d : Lock × Mode) (k : Lock) (v : Mode) → IsDistinct ls → i < length ls → (get_or ls i d).0 ≡ k → IsDistinct (set ls i (k, v))
IsDistinct-set [] i d k v dis lt at = absurd (omega arith)
IsDistinct-set (e ∷ es) zero d k v dis lt at = (ap (λ j. find j es) (sym at) ∙ dis.0, dis.1)
IsDistinct-set (e ∷ es) (suc i) d k v dis lt at =
    let before : i < length es = omega arith in
    (find-set es i d k v e.0 dis.1 before at ∙ ap (λ b. cond b (Some v) (find e.0 es)) (apart e.0 es i d k dis.0 before at) ∙ dis.0, IsDistinct-set es i d k v dis.1 before at)

-- to change the mode at a place is to insert the lock in that mode
pub from_entries-set : (ls : Locks) (i : ℕ) (d : Lock × Mode) (k : Lock) (v : Mode) → IsDistinct ls → i < length ls → (get_or ls i d).0 ≡ k → finite.from_entries {R = lock_cmp} (set ls i (k, v)) ≡ finite.insert (finite.from_entries ls) k v
from_entries-set ls i d k v dis lt at =
    finite.same_map lock_cmp_total lock_cmp_antisymmetric _ _ (λ q.
    finite.get-from_entries lock_cmp_total (set ls i (k, v)) q
    ∙ find-set ls i d k v q dis lt at
    ∙ ap (cond (eq_by_cmp lock_cmp q k) (Some v)) (sym (finite.get-from_entries lock_cmp_total ls q))
    ∙ sym (finite.get-insert lock_cmp_total (finite.from_entries ls) k v q))

-- to put a new lock behind the others is to insert it
pub from_entries-push : (ls : Locks) (k : Lock) (v : Mode) → find k ls ≡ None → finite.from_entries {R = lock_cmp} (ls ++ (k, v) ∷ []) ≡ finite.insert (finite.from_entries ls) k v
from_entries-push ls k v none = finite.from_entries_push lock_cmp_total lock_cmp_antisymmetric ls k v none

pub IsDistinct-push : (ls : Locks) (k : Lock) (v : Mode) → find k ls ≡ None → IsDistinct ls → IsDistinct (ls ++ (k, v) ∷ [])
IsDistinct-push [] k v none d = (refl, tt)
IsDistinct-push (e ∷ es) k v none d = by (eq_by_cmp lock_cmp k e.0) refl none (λ later. IsDistinct-push es k v later d.1)
  where
    by : (b : Bool) → eq_by_cmp lock_cmp k e.0 ≡ b → cond b (Some e.1) (find k es) ≡ None → (find k es ≡ None → IsDistinct (es ++ (k, v) ∷ [])) → (find e.0 (es ++ (k, v) ∷ []) ≡ None) × IsDistinct (es ++ (k, v) ∷ [])
    by true same never rest = cc
    by false other later rest = (
      find-append lock_cmp lock_cmp_total es k v e.0 later ∙ ap (λ b. cond b (Some v) (find e.0 es)) (lock_ties-sym e.0 k ∙ other) ∙ d.0,
      rest later,
    )

-- a lock that is inserted in the mode in which it is held
pub insert_same : (m : Held) (k : Lock) (v : Mode) → finite.get m k ≡ Some v → finite.insert m k v ≡ m
insert_same m k v had =
    finite.same_map lock_cmp_total lock_cmp_antisymmetric _ _ (λ q. finite.get-insert lock_cmp_total m k v q ∙ by q (eq_by_cmp lock_cmp q k) refl)
  where
    by : (q : Lock) (b : Bool) → eq_by_cmp lock_cmp q k ≡ b → cond b (Some v) (finite.get m q) ≡ finite.get m q
    by q true same = sym had ∙ ap (finite.get m) (sym (tied q k same))
    by q false other = refl

-- a lock that was taken has its new mode, and the others have theirs
pub get-taken : (m : Held) (key : Key) (t : TxnId) (mode : Mode) (l : Lock) → ((l ≡ lock key t) × (finite.get (taken m key t mode) l ≡ Some (raised (mode_of m key t) mode))) ⊎ (finite.get (taken m key t mode) l ≡ finite.get m l)
get-taken m key t mode l = by (eq_by_cmp lock_cmp l (lock key t)) refl (finite.get-insert lock_cmp_total m (lock key t) (raised (mode_of m key t) mode) l)
  where
    by : (b : Bool) → eq_by_cmp lock_cmp l (lock key t) ≡ b → finite.get (taken m key t mode) l ≡ cond (eq_by_cmp lock_cmp l (lock key t)) (Some (raised (mode_of m key t) mode)) (finite.get m l) → ((l ≡ lock key t) × (finite.get (taken m key t mode) l ≡ Some (raised (mode_of m key t) mode))) ⊎ (finite.get (taken m key t mode) l ≡ finite.get m l)
    by true same e = inl (tied l (lock key t) same, e ∙ ap (λ b. cond b (Some (raised (mode_of m key t) mode)) (finite.get m l)) same)
    by false other e = inr (e ∙ ap (λ b. cond b (Some (raised (mode_of m key t) mode)) (finite.get m l)) other)

pub mode_of-taken : (m : Held) (key : Key) (t : TxnId) (mode : Mode) → mode_of (taken m key t mode) key t ≡ Some (raised (mode_of m key t) mode)
mode_of-taken m key t mode =
    finite.get-insert lock_cmp_total m (lock key t) (raised (mode_of m key t) mode) (lock key t)
    ∙ ap (λ r. cond (is_eq r) (Some (raised (mode_of m key t) mode)) (mode_of m key t)) (tied_itself lock_cmp_total (lock key t))

pub get-taken_other : (m : Held) (key : Key) (t : TxnId) (mode : Mode) (l : Lock) → l ≢ lock key t → finite.get (taken m key t mode) l ≡ finite.get m l
get-taken_other m key t mode l ne = elim (get-taken m key t mode l) as (λ _. finite.get (taken m key t mode) l ≡ finite.get m l) [ inl here ↦ absurd (ne here.0) | inr other ↦ other ]

-- ---- the least transaction

-- what folding over locks from acc on gives, where `find` looks locks up
record IsLeastFrom (test : Lock → Mode → Bool) (acc : Option TxnId) (find : Lock → Option Mode) (t : TxnId) : Type 0 where
  among : (acc ≡ Some t) ⊎ ((l : Lock) × IsSome (passing test l (find l)) × (l.txn ≡ t))
  start : (u : TxnId) → acc ≡ Some u → is_gt (txn_cmp t u) ≡ false
  below : (l : Lock) → IsSome (passing test l (find l)) → is_gt (txn_cmp t l.txn) ≡ false

record IsNoneFrom (test : Lock → Mode → Bool) (acc : Option TxnId) (find : Lock → Option Mode) : Type 0 where
  start : acc ≡ None
  below : (l : Lock) → ¬ IsSome (passing test l (find l))

abbrev LeastFrom : (Lock → Mode → Bool) → Option TxnId → (Lock → Option Mode) → Option TxnId → Type 0
LeastFrom test acc find None = IsNoneFrom test acc find
LeastFrom test acc find (Some t) = IsLeastFrom test acc find t

-- a lock is the first one, or is looked up behind it
first_or_rest : (l : Lock) (e : Lock × Mode) (es : Locks) → ((l ≡ e.0) × (find l (e ∷ es) ≡ Some e.1)) ⊎ (find l (e ∷ es) ≡ find l es)
first_or_rest l e es = by (eq_by_cmp lock_cmp l e.0) refl
  where
    by : (b : Bool) → eq_by_cmp lock_cmp l e.0 ≡ b → ((l ≡ e.0) × (find l (e ∷ es) ≡ Some e.1)) ⊎ (find l (e ∷ es) ≡ find l es)
    by true same = inl (tied l e.0 same, ap (λ b. cond b (Some e.1) (find l es)) same)
    by false other = inr (ap (λ b. cond b (Some e.1) (find l es)) other)

abbrev NotAbove : TxnId → TxnId → Type 0
NotAbove t u = is_gt (txn_cmp t u) ≡ false

itself : (t u : TxnId) → t ≡ u → NotAbove t u
itself t u e = subst (NotAbove t) e (ap is_gt (tied_itself txn_cmp_total t))

other_way : (t u : TxnId) → is_gt (txn_cmp t u) ≡ true → NotAbove u t
other_way t u h = ap is_gt (txn_cmp_total.antisymm u t) ∙ by (txn_cmp t u) h
  where
    by : (r : Ordering) → is_gt r ≡ true → is_gt (ordering_reverse r) ≡ false
    by Less h = cc
    by Equal h = cc
    by Greater h = refl

-- the lesser of what was found before and a transaction
record IsLesser (acc : Option TxnId) (x w : TxnId) : Type 0 where
  is : lesser acc x ≡ Some w
  among : (acc ≡ Some w) ⊎ (w ≡ x)
  start : (u : TxnId) → acc ≡ Some u → NotAbove w u
  here : NotAbove w x

lesser_is : (acc : Option TxnId) (x : TxnId) → (w : TxnId) × IsLesser acc x w
lesser_is None x = (x, record { is = refl; among = inr refl; start = λ u e. cc; here = itself x x refl })
lesser_is (Some v) x = by (is_gt (txn_cmp v x)) refl
  where
    by : (b : Bool) → is_gt (txn_cmp v x) ≡ b → (w : TxnId) × IsLesser (Some v) x w
    by true above = (
      x,
      record {
        is = ap (λ b. Some (cond b x v)) above;
        among = inr refl;
        start = λ u e. let same : v ≡ u = cc in subst (NotAbove x) same (other_way v x above);
        here = itself x x refl;
      },
    )
    by false below = (
      v,
      record {
        is = ap (λ b. Some (cond b x v)) below;
        among = inl refl;
        start = λ u e. let same : v ≡ u = cc in itself v u same;
        here = below;
      },
    )

none_passes : (test : Lock → Mode → Bool) (l : Lock) (o : Option Mode) → o ≡ None → ¬ IsSome (passing test l o)
none_passes test l o e = λ some. let no : IsSome (passing test l o) → ⊥ = subst (λ p. ¬ IsSome p) (sym (passing-none test l o e)) (λ none. cc) in no some

-- one more lock in front, which passes
least_passed : (test : Lock → Mode → Bool) (acc : Option TxnId) (e : Lock × Mode) (es : Locks) (r : Option TxnId) → test e.0 e.1 ≡ true → find e.0 es ≡ None → LeastFrom test (lesser acc e.0.txn) (λ l. find l es) r → LeastFrom test acc (λ l. find l (e ∷ es)) r
least_passed test acc e es None passes new h =
    let w = lesser_is acc e.0.txn in
    let no : None ≡ Some w.0 = sym h.start ∙ w.1.is in cc
least_passed test acc e es (Some t) passes new h = record {
  among = elim h.among as (λ _. (acc ≡ Some t) ⊎ ((l : Lock) × IsSome (passing test l (find l (e ∷ es))) × (l.txn ≡ t))) [
    | inl same ↦
        let is_w : w.0 ≡ t = some_same (sym w.1.is ∙ same) in
        elim w.1.among as (λ _. (acc ≡ Some t) ⊎ ((l : Lock) × IsSome (passing test l (find l (e ∷ es))) × (l.txn ≡ t))) [
          | inl before ↦ inl (before ∙ ap Some is_w)
          | inr here ↦ inr (e.0, here_passes, sym here ∙ is_w)
        ]
    | inr later ↦ inr (later.0, later_passes later.0 later.1, later.2)
  ];
  start = λ u same. upto txn_cmp_total t w.0 u (h.start w.0 w.1.is) (w.1.start u same);
  below = λ l some. elim (first_or_rest l e es) as (λ _. NotAbove t l.txn) [
    | inl first ↦ subst (λ (k : Lock). NotAbove t k.txn) (sym first.0) (upto txn_cmp_total t w.0 e.0.txn (h.start w.0 w.1.is) w.1.here)
    | inr rest ↦ h.below l (subst (λ o. IsSome (passing test l o)) rest some)
  ];
}
  where
    w : (w : TxnId) × IsLesser acc e.0.txn w
    w = lesser_is acc e.0.txn

    some_same : {A : Type 0} {x y : A} → Some x ≡ Some y → x ≡ y
    some_same p = cc

    here_passes : IsSome (passing test e.0 (find e.0 (e ∷ es)))
    here_passes =
        let found : find e.0 (e ∷ es) ≡ Some e.1 = ap (λ r. cond (is_eq r) (Some e.1) (find e.0 es)) (tied_itself lock_cmp_total e.0) in
        subst (λ o. IsSome (passing test e.0 o)) (sym found) (subst (λ b. IsSome (cond b (Some e.1) None)) (sym passes) refl)

    later_passes : (l : Lock) → IsSome (passing test l (find l es)) → IsSome (passing test l (find l (e ∷ es)))
    later_passes l some = elim (first_or_rest l e es) as (λ _. IsSome (passing test l (find l (e ∷ es)))) [
      | inl first ↦ absurd (none_passes test l (find l es) (ap (λ k. find k es) first.0 ∙ new) some)
      | inr rest ↦ subst (λ o. IsSome (passing test l o)) (sym rest) some
    ]

-- one more lock in front, which doesn't pass
skipped : (test : Lock → Mode → Bool) (e : Lock × Mode) (es : Locks) → test e.0 e.1 ≡ false → find e.0 es ≡ None → (l : Lock) → passing test l (find l (e ∷ es)) ≡ passing test l (find l es)
skipped test e es fails new l = elim (first_or_rest l e es) as (λ _. passing test l (find l (e ∷ es)) ≡ passing test l (find l es)) [
  | inl first ↦
      ap (passing test l) first.1
      ∙ ap (λ k. passing test k (Some e.1)) first.0
      ∙ ap (λ b. cond b (Some e.1) None) fails
      ∙ sym (passing-none test l (find l es) (ap (λ k. find k es) first.0 ∙ new))
  | inr rest ↦ ap (passing test l) rest
]

least_skipped : (test : Lock → Mode → Bool) (acc : Option TxnId) (e : Lock × Mode) (es : Locks) (r : Option TxnId) → test e.0 e.1 ≡ false → find e.0 es ≡ None → LeastFrom test acc (λ l. find l es) r → LeastFrom test acc (λ l. find l (e ∷ es)) r
least_skipped test acc e es None fails new h = record {
  start = h.start;
  below = λ l some. h.below l (subst (λ o. IsSome o) (skipped test e es fails new l) some);
}
least_skipped test acc e es (Some t) fails new h = record {
  among = elim h.among as (λ _. (acc ≡ Some t) ⊎ ((l : Lock) × IsSome (passing test l (find l (e ∷ es))) × (l.txn ≡ t))) [
    | inl same ↦ inl same
    | inr later ↦ inr (later.0, subst (λ o. IsSome o) (sym (skipped test e es fails new later.0)) later.1, later.2)
  ];
  start = h.start;
  below = λ l some. h.below l (subst (λ o. IsSome o) (skipped test e es fails new l) some);
}

abbrev txns_where : (Lock → Mode → Bool) → Locks → List TxnId
txns_where test ls = map (λ e. e.0.txn) (filter (λ e. test e.0 e.1) ls)

none_held : (test : Lock → Mode → Bool) (acc : Option TxnId) → LeastFrom test acc (λ l. None) acc
none_held test None = record { start = refl; below = λ l some. cc }
none_held test (Some t) = record {
  among = inl refl;
  start = λ u e. let same : t ≡ u = cc in itself t u same;
  below = λ l some. let no : IsSome {T = Mode} None → ⊥ = λ none. cc in absurd (no some);
}

least_from : (test : Lock → Mode → Bool) (acc : Option TxnId) (ls : Locks) → IsDistinct ls → LeastFrom test acc (λ l. find l ls) (fold lesser acc (txns_where test ls))
least_from test acc [] d = none_held test acc
least_from test acc (e ∷ es) d = by (test e.0 e.1) refl (least_from test acc es d.1) (least_from test (lesser acc e.0.txn) es d.1)
  where
    by : (b : Bool) → test e.0 e.1 ≡ b → LeastFrom test acc (λ l. find l es) (fold lesser acc (txns_where test es)) → LeastFrom test (lesser acc e.0.txn) (λ l. find l es) (fold lesser (lesser acc e.0.txn) (txns_where test es)) → LeastFrom test acc (λ l. find l (e ∷ es)) (fold lesser acc (map (λ e. e.0.txn) (cond b (e ∷ filter (λ e. test e.0 e.1) es) (filter (λ e. test e.0 e.1) es))))
    by true passes without with = least_passed test acc e es (fold lesser (lesser acc e.0.txn) (txns_where test es)) passes d.0 with
    by false fails without with = least_skipped test acc e es (fold lesser acc (txns_where test es)) fails d.0 without

not_below : (t u : TxnId) → NotAbove t u → NotAbove u t → t ≡ u
not_below t u h k = txn_cmp_antisymmetric t u (by (txn_cmp t u) h (sym (ap is_gt (txn_cmp_total.antisymm u t)) ∙ k))
  where
    by : (r : Ordering) → is_gt r ≡ false → is_gt (ordering_reverse r) ≡ false → r ≡ Equal
    by Less a b = cc
    by Equal a b = refl
    by Greater a b = cc

above_least : (test : Lock → Mode → Bool) (f : Lock → Option Mode) (t u : TxnId) → IsLeastFrom test None f t → IsLeastFrom test None f u → NotAbove t u
above_least test f t u h k = elim k.among as (λ _. NotAbove t u) [
  | inl never ↦ cc
  | inr here ↦ subst (NotAbove t) here.2 (h.below here.0 here.1)
]

-- there is one least transaction
least_same : (test : Lock → Mode → Bool) (f : Lock → Option Mode) (r s : Option TxnId) → LeastFrom test None f r → LeastFrom test None f s → r ≡ s
least_same test f None None h k = refl
least_same test f None (Some t) h k = elim k.among as (λ _. None ≡ Some t) [ inl never ↦ never | inr here ↦ absurd (h.below here.0 here.1) ]
least_same test f (Some t) None h k = elim h.among as (λ _. Some t ≡ None) [ inl never ↦ sym never | inr here ↦ absurd (k.below here.0 here.1) ]
least_same test f (Some t) (Some u) h k = ap Some (not_below t u (above_least test f t u h k) (above_least test f u t k h))

-- the least transaction of a list of locks is that of the finite map
pub least_where-from_entries : (test : Lock → Mode → Bool) (ls : Locks) → IsDistinct ls → least_where test (finite.from_entries ls) ≡ least_of (txns_where test ls)
unfolding least_where
least_where-from_entries test ls d =
    let m : Held = finite.from_entries ls in
    let same : (λ l. find l (finite.entries m)) ≡ (λ l. find l ls) = λ i l. (sym (finite.get-entries m l) ∙ finite.get-from_entries lock_cmp_total ls l) i in
    least_same test (λ l. find l ls) (least_where test m) (least_of (txns_where test ls))
    (subst (λ f. LeastFrom test None f (least_where test m)) same (least_from test None (finite.entries m) (IsDistinct-entries m)))
    (least_from test None ls d)

-- what `least_where` names is the least
pub IsLeast-least_where : (test : Lock → Mode → Bool) (m : Held) → IsLeast test m (least_where test m)
unfolding least_where
IsLeast-least_where test m =
    let same : (λ l. find l (finite.entries m)) ≡ (λ l. finite.get m l) = λ i l. sym (finite.get-entries m l) i in
    told (least_where test m) (subst (λ f. LeastFrom test None f (least_where test m)) same (least_from test None (finite.entries m) (IsDistinct-entries m)))
  where
    told : (r : Option TxnId) → LeastFrom test None (λ l. finite.get m l) r → IsLeast test m r
    told None h = h.below
    told (Some t) h = (
      elim h.among as (λ _. (key : Key) × Passes test m (lock key t)) [
        | inl never ↦ cc
        | inr here ↦ (here.0.key, subst (λ u. Passes test m (lock here.0.key u)) here.2 here.1)
      ],
      h.below,
    )
