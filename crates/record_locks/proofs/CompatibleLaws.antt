-- Where one transaction may write, no other has the lock on the key.
use Rattle.std.proofs.Common.{◌≡◌, ◌==◌, ◌&&◌, is_none, Bool, true, false, cond, not, Option, Some, None, IsTrue, IsSome, ◌⊎◌, inl, inr, refl, sym, ◌∙◌, ap, subst}
use borrow.Author.Tests.{eq-eqb}
use Rattle.std.specs.Ordering.{is_eq}
use Rattle.std.specs.FinMap as finite
use Rattle.std.specs.declared.cmp.Ordering.{Ordering}
use Rattle.std.specs.declared.cmp.Ordering.TheVariants.{Less, Equal, Greater}
use Rattle.sd_base.specs.declared.names.Key.{Key}
use Rattle.sd_base.specs.declared.names.TxnId.{TxnId}
use Rattle.record_locks.specs.declared.mode.Mode.{Mode}
use Rattle.record_locks.specs.declared.mode.Mode.TheVariants.{Read, Write}
use Rattle.record_locks.specs.declared.mode.LockAnswer.TheVariants.{Free, Mine, Full}
use Rattle.record_locks.specs.Order.{Lock, lock, lock_cmp, txn_cmp, same_txn}
use Rattle.record_locks.specs.Held.{Held, IsCompatible, IsLeast, conflicts, covers, excludes, least_where, locks_where, mode_of, passing, raised, taken}
use Rattle.record_locks.specs.Answer.{lock_answer, conflict_or, may_take}
use Rattle.record_locks.proofs.OrderLaws.{txn_ties, txn_cmp_antisymmetric}
use Rattle.record_locks.proofs.HeldLaws.{get-locks_where, get-taken, IsLeast-least_where}

pub IsCompatible-empty : IsCompatible finite.empty
IsCompatible-empty key t u a b had other ex = let none : None ≡ Some a = sym (finite.get-empty lock_cmp (lock key t)) ∙ had in cc

held_before : (test : Lock → Mode → Bool) (l : Lock) (o : Option Mode) (a : Mode) → passing test l o ≡ Some a → o ≡ Some a
held_before test l None a e = e
held_before test l (Some b) a e = by (test l b) e
  where
    by : (p : Bool) → cond p (Some b) None ≡ Some a → Some b ≡ Some a
    by true e = e
    by false e = cc

pub IsCompatible-locks_where : (test : Lock → Mode → Bool) (m : Held) → IsCompatible m → IsCompatible (locks_where test m)
IsCompatible-locks_where test m h key t u a b had other ex =
    h key t u a b
    (held_before test (lock key t) (mode_of m key t) a (sym (get-locks_where test m (lock key t)) ∙ had))
    (held_before test (lock key u) (mode_of m key u) b (sym (get-locks_where test m (lock key u)) ∙ other))
    ex

-- what a lock that may be taken tells: it is held already, or no other transaction is in the way
may_be_taken : (m : Held) (key : Key) (t : TxnId) (mode : Mode) → IsTrue (may_take (lock_answer m key t mode)) → (covers (mode_of m key t) mode ≡ true) ⊎ ((covers (mode_of m key t) mode ≡ false) × (least_where (conflicts key t mode) m ≡ None))
may_be_taken m key t mode may = by (covers (mode_of m key t) mode) (least_where (conflicts key t mode) m) refl refl may
  where
    by : (b : Bool) (o : Option TxnId) → covers (mode_of m key t) mode ≡ b → least_where (conflicts key t mode) m ≡ o → IsTrue (may_take (cond b Mine (conflict_or o (cond (is_none (mode_of m key t) && finite.len m == 4096) Full Free)))) → (covers (mode_of m key t) mode ≡ true) ⊎ ((covers (mode_of m key t) mode ≡ false) × (least_where (conflicts key t mode) m ≡ None))
    by true o covered alone may = inl covered
    by false None uncovered alone may = inr (uncovered, alone)
    by false (Some u) uncovered alone may = cc

-- where a transaction may take a lock that it hasn't, the lock gets the mode asked for
new_mode : (had : Option Mode) (mode : Mode) → covers had mode ≡ false → raised had mode ≡ mode
new_mode None mode e = refl
new_mode (Some Read) mode e = refl
new_mode (Some Write) mode e = cc

-- and else it keeps its own
same_mode : (had : Option Mode) (mode : Mode) → covers had mode ≡ true → had ≡ Some (raised had mode)
same_mode None mode e = cc
same_mode (Some Write) mode e = refl
same_mode (Some Read) Read e = refl
same_mode (Some Read) Write e = cc

excludes-sym : (a b : Mode) → excludes a b ≡ excludes b a
excludes-sym Read Read = refl
excludes-sym Read Write = refl
excludes-sym Write Read = refl
excludes-sym Write Write = refl

same_transaction : (t u : TxnId) → same_txn t u ≡ true → t ≡ u
same_transaction t u e = txn_cmp_antisymmetric t u (equal (txn_cmp t u) (txn_ties t u ∙ e))
  where
    equal : (r : Ordering) → is_eq r ≡ true → r ≡ Equal
    equal Less h = cc
    equal Equal h = refl
    equal Greater h = cc

-- another transaction that has the key in a mode which excludes this one is in the way
no_conflict : (m : Held) (key : Key) (t u : TxnId) (mode b : Mode) → least_where (conflicts key t mode) m ≡ None → mode_of m key u ≡ Some b → excludes b mode ≡ true → u ≡ t
no_conflict m key t u mode b alone other ex =
    by (same_txn u t) refl (λ passes. none (lock key u) (subst (λ o. IsSome (passing (conflicts key t mode) (lock key u) o)) (sym other) passes))
  where
    none : IsLeast (conflicts key t mode) m None
    none = subst (IsLeast (conflicts key t mode) m) alone (IsLeast-least_where (conflicts key t mode) m)

    by : (same : Bool) → same_txn u t ≡ same → ¬ IsSome (passing (conflicts key t mode) (lock key u) (Some b)) → u ≡ t
    by true same h = same_transaction u t same
    by false other h =
        let test : conflicts key t mode (lock key u) b ≡ true = (λ i. key.0 == key.0 && not (other i) && ex i) ∙ (λ i. eq-eqb key.0 key.0 refl i && true && true) in
        absurd (h (subst (λ p. IsSome (cond p (Some b) None)) (sym test) refl))

one_side : (m : Held) (key : Key) (t w : TxnId) (mode b : Mode) → IsCompatible m → IsTrue (may_take (lock_answer m key t mode)) → mode_of m key w ≡ Some b → excludes (raised (mode_of m key t) mode) b ≡ true → t ≡ w
one_side m key t w mode b h may other ex = elim (may_be_taken m key t mode may) as (λ _. t ≡ w) [
  | inl covered ↦ h key t w (raised (mode_of m key t) mode) b (same_mode (mode_of m key t) mode covered) other ex
  | inr free ↦ sym (no_conflict m key t w mode b free.1 other (excludes-sym b mode ∙ ap (λ a. excludes a b) (sym (new_mode (mode_of m key t) mode free.0)) ∙ ex))
]

pub IsCompatible-taken : (m : Held) (key : Key) (t : TxnId) (mode : Mode) → IsCompatible m → IsTrue (may_take (lock_answer m key t mode)) → IsCompatible (taken m key t mode)
IsCompatible-taken m key t mode h may k u w a b had other ex =
    elim (looked (lock k u)) as (λ _. u ≡ w) [
      | inl here ↦
          let made : raised (mode_of m key t) mode ≡ a = some_same (sym here.1 ∙ had) in
          elim (looked (lock k w)) as (λ _. u ≡ w) [
            | inl too ↦ ap (λ l. l.txn) (here.0 ∙ sym too.0)
            | inr before ↦
                ap (λ l. l.txn) here.0
                ∙ one_side m key t w mode b h may (ap (λ j. mode_of m j w) (sym (ap (λ l. l.key) here.0)) ∙ sym before ∙ other) (ap (λ v. excludes v b) made ∙ ex)
          ]
      | inr before ↦
          elim (looked (lock k w)) as (λ _. u ≡ w) [
            | inl here ↦
                let made : raised (mode_of m key t) mode ≡ b = some_same (sym here.1 ∙ other) in
                sym (ap (λ l. l.txn) here.0
                ∙ one_side m key t u mode a h may (ap (λ j. mode_of m j u) (sym (ap (λ l. l.key) here.0)) ∙ sym before ∙ had) (ap (λ v. excludes v a) made ∙ excludes-sym b a ∙ ex))
            | inr too ↦ h k u w a b (sym before ∙ had) (sym too ∙ other) ex
          ]
    ]
  where
    some_same : {x y : Mode} → Some x ≡ Some y → x ≡ y
    some_same p = cc

    looked : (q : Lock) → ((q ≡ lock key t) × (finite.get (taken m key t mode) q ≡ Some (raised (mode_of m key t) mode))) ⊎ (finite.get (taken m key t mode) q ≡ finite.get m q)
    looked q = get-taken m key t mode q
