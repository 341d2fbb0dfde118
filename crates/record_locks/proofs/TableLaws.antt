-- The table of locks: what its entries hold after each change.
use Rattle.std.proofs.Common.{◌≡◌, ◌==◌, ◌&&◌, ◌≤◌, ◌<◌, ◌++◌, ℕ, get_or, set, IsTrue, Bool, true, false, cond, List, [], ◌∷◌, Option, Some, None, filter, find, position, zero, suc, map, length, is_none, refl, sym, ◌∙◌, ap, subst, arith}
use Rattle.std.proofs.lemmas.List.{length-map, length-set, length-append, get_or-map, map-set, map-append}
use Rattle.std.proofs.lemmas.Bool.Decides.{nat_tests}
use Rattle.std.specs.FinMap as finite
use Rattle.std.proofs.lemmas.List.Quantifiers.{position-Some}
use Rattle.std.specs.Option.{option_map}
use Rattle.std.specs.Ordering.{eq_by_cmp}
use Rattle.sd_base.proofs.Positions.{not_placed}
use Rattle.record_locks.specs.declared.entry.Entry.{Entry}
use Rattle.record_locks.specs.declared.mode.Mode.{Mode}
use Rattle.record_locks.specs.declared.mode.Mode.TheVariants.{Read, Write}
use Rattle.record_locks.specs.declared.mode.LockAnswer.TheVariants.{Free, Mine, Conflict, Full}
use Rattle.sd_base.specs.declared.names.Key.{Key}
use Rattle.sd_base.specs.declared.names.TxnId.{TxnId}
use Rattle.record_locks.specs.Order.{Lock, lock, lock_cmp}
use Rattle.record_locks.specs.Held.{Held, mode_of, covers, raised, taken, conflicts, least_of, least_where, locks_where}
use Rattle.record_locks.specs.Answer.{lock_answer, conflict_or, may_take}
use Rattle.record_locks.specs.Table.{lock_of, locks_of, held, is_of, IsDistinct, IsTable}
use Rattle.record_locks.proofs.HeldLaws.{IsDistinct-filter, from_entries-filter, len-from_entries, least_where-from_entries, tied, from_entries-set, IsDistinct-set, insert_same, from_entries-push, IsDistinct-push}
use Rattle.record_locks.proofs.OrderLaws.{lock_cmp_total, lock_ties, lock_ties-sym}

-- the test of a lock, as one of its entry
abbrev pub entry_test : (Lock → Mode → Bool) → Entry → Bool
entry_test test e = test (lock_of e).0 e.mode

pub locks_of-filter : (test : Lock → Mode → Bool) (es : List Entry) → locks_of (filter (entry_test test) es) ≡ filter (λ l. test l.0 l.1) (locks_of es)
locks_of-filter test [] = refl
locks_of-filter test (e ∷ es) =
    elim (entry_test test e) as (λ b. locks_of (cond b (e ∷ filter (entry_test test) es) (filter (entry_test test) es)) ≡ cond b (lock_of e ∷ filter (λ l. test l.0 l.1) (locks_of es)) (filter (λ l. test l.0 l.1) (locks_of es))) [
      | true ↦ ap (λ ls. lock_of e ∷ ls) (locks_of-filter test es)
      | false ↦ locks_of-filter test es
    ]

length-filter : (p : Entry → Bool) (es : List Entry) → length (filter p es) ≤ length es
length-filter p [] = omega arith
length-filter p (e ∷ es) =
    let rest : length (filter p es) ≤ length es = length-filter p es in
    elim (p e) as (λ b. length (cond b (e ∷ filter p es) (filter p es)) ≤ length (e ∷ es)) [ true ↦ omega arith | false ↦ omega arith ]

-- what is held after entries are dropped
pub held-filter : (test : Lock → Mode → Bool) (es kept : List Entry) → kept ≡ filter (entry_test test) es → IsTable es → held kept ≡ locks_where test (held es)
held-filter test es kept e t =
    ap held e ∙ ap finite.from_entries (locks_of-filter test es) ∙ from_entries-filter test (locks_of es) t.distinct

pub IsTable-filter : (test : Lock → Mode → Bool) (es kept : List Entry) → kept ≡ filter (entry_test test) es → IsTable es → IsTable kept
IsTable-filter test es kept e t = record {
  distinct = subst IsDistinct (sym (ap locks_of e ∙ locks_of-filter test es)) (IsDistinct-filter test (locks_of es) t.distinct);
  bounded = let short = length-filter (entry_test test) es in subst (λ ks. length ks ≤ 4096) (sym e) (omega (arith, short, t.bounded));
}

-- as many locks are held as there are entries
pub len-held : (es : List Entry) → IsTable es → finite.len (held es) ≡ length es
len-held es t = len-from_entries (locks_of es) t.distinct ∙ length-map es lock_of

-- the mode in which a lock is held is that of its entry
pub mode_of-held : (key : Key) (t : TxnId) (es : List Entry) → mode_of (held es) key t ≡ option_map (λ e. e.mode) (find (is_of key t) es)
mode_of-held key t es = finite.get-from_entries lock_cmp_total (locks_of es) (lock key t) ∙ found es
  where
    found : (es : List Entry) → finite.find lock_cmp (lock key t) (locks_of es) ≡ option_map (λ e. e.mode) (find (is_of key t) es)
    found [] = refl
    found (e ∷ es) =
        let same : eq_by_cmp lock_cmp (lock key t) (lock_of e).0 ≡ is_of key t e = lock_ties-sym (lock key t) (lock_of e).0 ∙ lock_ties (lock_of e).0 (lock key t) in
        ap (λ b. cond b (Some e.mode) (finite.find lock_cmp (lock key t) (locks_of es))) same
        ∙ elim (is_of key t e) as (λ b. cond b (Some e.mode) (finite.find lock_cmp (lock key t) (locks_of es)) ≡ option_map (λ e. e.mode) (cond b (Some e) (find (is_of key t) es))) [
          | true ↦ refl
          | false ↦ found es
        ]

-- the least transaction of the table is that of its entries
pub least_where-held : (test : Lock → Mode → Bool) (es : List Entry) → IsTable es → least_where test (held es) ≡ least_of (map (λ e. e.txn) (filter (entry_test test) es))
least_where-held test es t =
    least_where-from_entries test (locks_of es) t.distinct
    ∙ ap (λ ls. least_of (map (λ l. l.0.txn) ls)) (sym (locks_of-filter test es))
    ∙ ap least_of (txns (filter (entry_test test) es))
  where
    txns : (es : List Entry) → map (λ l. l.0.txn) (locks_of es) ≡ map (λ e. e.txn) es
    txns [] = refl
    txns (e ∷ es) = ap (λ ts. e.txn ∷ ts) (txns es)

-- the answer to a transaction, from what is looked up in the entries
pub lock_answer-held : (key : Key) (t : TxnId) (mode : Mode) (es : List Entry) (had : Option Mode) (other : Option TxnId) → IsTable es → had ≡ option_map (λ e. e.mode) (find (is_of key t) es) → other ≡ least_of (map (λ e. e.txn) (filter (entry_test (conflicts key t mode)) es)) → lock_answer (held es) key t mode ≡ cond (covers had mode) Mine (conflict_or other (cond (is_none had && length es == 4096) Full Free))
lock_answer-held key t mode es had other table e f =
    let had' : mode_of (held es) key t ≡ had = mode_of-held key t es ∙ sym e in
    let other' : least_where (conflicts key t mode) (held es) ≡ other = least_where-held (conflicts key t mode) es table ∙ sym f in
    λ i. cond (covers (had' i) mode) Mine (conflict_or (other' i) (cond (is_none (had' i) && len-held es table i == 4096) Full Free))

-- the lock of an entry that is of it
lock_at : (key : Key) (t : TxnId) (es : List Entry) (i : ℕ) (d : Entry) → i < length es → is_of key t (get_or es i d) ≡ true → (get_or (locks_of es) i (lock_of d)).0 ≡ lock key t
lock_at key t es i d lt same =
    ap (λ l. l.0) (get_or-map lock_of es i d (lock_of d) lt)
    ∙ tied (lock_of (get_or es i d)).0 (lock key t) (lock_ties (lock_of (get_or es i d)).0 (lock key t) ∙ same)

-- what is held after a transaction may write what it had
pub held-write : (key : Key) (t : TxnId) (es : List Entry) (i : ℕ) (d : Entry) → IsTable es → i < length es → is_of key t (get_or es i d) ≡ true → held (set es i (record (get_or es i d) { mode = Write })) ≡ taken (held es) key t Write
held-write key t es i d table lt same =
    let at : (get_or (locks_of es) i (lock_of d)).0 ≡ lock key t = lock_at key t es i d lt same in
    let changed : lock_of (record (get_or es i d) { mode = Write }) ≡ (lock key t, Write) = λ j. (tied (lock_of (get_or es i d)).0 (lock key t) (lock_ties (lock_of (get_or es i d)).0 (lock key t) ∙ same) j, Write) in
    ap finite.from_entries (map-set lock_of es i (record (get_or es i d) { mode = Write }) ∙ ap (set (locks_of es) i) changed)
    ∙ from_entries-set (locks_of es) i (lock_of d) (lock key t) Write table.distinct (omega (arith, length-map es lock_of)) at
    ∙ ap (finite.insert (held es) (lock key t)) (sym (to_write (mode_of (held es) key t)))
  where
    to_write : (had : Option Mode) → raised had Write ≡ Write
    to_write None = refl
    to_write (Some Read) = refl
    to_write (Some Write) = refl

pub IsTable-write : (key : Key) (t : TxnId) (es : List Entry) (i : ℕ) (d : Entry) → IsTable es → i < length es → is_of key t (get_or es i d) ≡ true → IsTable (set es i (record (get_or es i d) { mode = Write }))
IsTable-write key t es i d table lt same = record {
  distinct =
      let at : (get_or (locks_of es) i (lock_of d)).0 ≡ (lock_of (get_or es i d)).0 = ap (λ l. l.0) (get_or-map lock_of es i d (lock_of d) lt) in
      subst IsDistinct (sym (map-set lock_of es i (record (get_or es i d) { mode = Write }))) (IsDistinct-set (locks_of es) i (lock_of d) (lock_of (get_or es i d)).0 Write table.distinct (omega (arith, length-map es lock_of)) at);
  bounded = omega (arith, length-set es i (record (get_or es i d) { mode = Write }), table.bounded);
}

-- a transaction that may read or write may read
pub held-read : (key : Key) (t : TxnId) (es : List Entry) (had : Mode) → mode_of (held es) key t ≡ Some had → held es ≡ taken (held es) key t Read
held-read key t es had is =
    sym (ap (λ o. finite.insert (held es) (lock key t) (raised o Read)) is
    ∙ ap (finite.insert (held es) (lock key t)) (to_read had)
    ∙ insert_same (held es) (lock key t) had is)
  where
    to_read : (had : Mode) → raised (Some had) Read ≡ had
    to_read Read = refl
    to_read Write = refl

-- what is held after a new entry is put behind the others
pub held-push : (key : Key) (t : TxnId) (mode : Mode) (es : List Entry) → mode_of (held es) key t ≡ None → held (es ++ record { key = key; txn = t; mode = mode } ∷ []) ≡ taken (held es) key t mode
held-push key t mode es none =
    ap finite.from_entries (map-append lock_of es (record { key = key; txn = t; mode = mode } ∷ []))
    ∙ from_entries-push (locks_of es) (lock key t) mode (sym (finite.get-from_entries lock_cmp_total (locks_of es) (lock key t)) ∙ none)
    ∙ ap (λ o. finite.insert (held es) (lock key t) (raised o mode)) (sym none)

pub IsTable-push : (key : Key) (t : TxnId) (mode : Mode) (es : List Entry) → mode_of (held es) key t ≡ None → length es < 4096 → IsTable es → IsTable (es ++ record { key = key; txn = t; mode = mode } ∷ [])
IsTable-push key t mode es none lt table = record {
  distinct = subst IsDistinct (sym (map-append lock_of es (record { key = key; txn = t; mode = mode } ∷ [])))
      (IsDistinct-push (locks_of es) (lock key t) mode (sym (finite.get-from_entries lock_cmp_total (locks_of es) (lock key t)) ∙ none) table.distinct);
  bounded = omega (arith, length-append es (record { key = key; txn = t; mode = mode } ∷ []));
}

-- there is room for a lock that a transaction may take and has not
pub room_to_take : (key : Key) (t : TxnId) (mode : Mode) (es : List Entry) → IsTable es → mode_of (held es) key t ≡ None → IsTrue (may_take (lock_answer (held es) key t mode)) → length es < 4096
room_to_take key t mode es table none may =
    by (least_where (conflicts key t mode) (held es)) (length es == 4096) refl (subst (λ a. IsTrue (may_take a)) answer may)
  where
    answer : lock_answer (held es) key t mode ≡ conflict_or (least_where (conflicts key t mode) (held es)) (cond (length es == 4096) Full Free)
    answer = λ i. cond (covers (none i) mode) Mine (conflict_or (least_where (conflicts key t mode) (held es)) (cond (is_none (none i) && len-held es table i == 4096) Full Free))

    by : (other : Option TxnId) (full : Bool) → (length es == 4096) ≡ full → IsTrue (may_take (conflict_or other (cond full Full Free))) → length es < 4096
    by (Some u) full e may = cc
    by None true e may = cc
    by None false e may = let short = table.bounded in grind (arith, nat_tests)

found_at : {X : Type 0} (test : X → Bool) (xs : List X) (i : ℕ) (d : X) → i < length xs → test (get_or xs i d) ≡ true → ¬ (find test xs ≡ None)
found_at test [] i d lt passes = absurd (omega arith)
found_at test (x ∷ xs) zero d lt passes = λ none. let found : find test (x ∷ xs) ≡ Some x = ap (λ b. cond b (Some x) (find test xs)) passes in cc
found_at test (x ∷ xs) (suc i) d lt passes = by (test x) (found_at test xs i d (omega arith) passes)
  where
    by : (b : Bool) → ¬ (find test xs ≡ None) → ¬ (cond b (Some x) (find test xs) ≡ None)
    by true later = λ none. cc
    by false later = later

-- a lock without an entry isn't held
pub not_held : (key : Key) (t : TxnId) (es : List Entry) → position (is_of key t) es ≡ None → mode_of (held es) key t ≡ None
not_held key t es none = mode_of-held key t es ∙ ap (option_map (λ e. e.mode)) (not_placed (is_of key t) es none)

-- a lock with an entry is held
pub held_somehow : (key : Key) (t : TxnId) (es : List Entry) (i : ℕ) → position (is_of key t) es ≡ Some i → (had : Mode) × (mode_of (held es) key t ≡ Some had)
held_somehow key t [] i at = cc
held_somehow key t (e ∷ es) i at =
    let placed = position-Some (is_of key t) (e ∷ es) i e at in
    by (find (is_of key t) (e ∷ es)) refl (found_at (is_of key t) (e ∷ es) i e placed.0 placed.1)
  where
    by : (o : Option Entry) → find (is_of key t) (e ∷ es) ≡ o → ¬ (find (is_of key t) (e ∷ es) ≡ None) → (had : Mode) × (mode_of (held (e ∷ es)) key t ≡ Some had)
    by None is found = absurd (found is)
    by (Some f) is found = (f.mode, mode_of-held key t (e ∷ es) ∙ ap (option_map (λ e. e.mode)) is)

-- ---- the answers of `can`, from what is looked up in the entries

module _ (key : Key) (t : TxnId) (mode : Mode) (es : List Entry) (m : Held) (had : Option Mode) (table : IsTable es) (view : held es ≡ m) (looked_up : had ≡ option_map (λ e. e.mode) (find (is_of key t) es)) where
  others : List TxnId
  others = map (λ e. e.txn) (filter (entry_test (conflicts key t mode)) es)

  by_cases : (other : Option TxnId) → other ≡ least_of others → cond (covers had mode) Mine (conflict_or other (cond (is_none had && length es == 4096) Full Free)) ≡ lock_answer m key t mode
  unfolding others
  by_cases other least = sym (lock_answer-held key t mode es had other table looked_up least) ∙ ap (λ h. lock_answer h key t mode) view

  pub answer_mine : covers had mode ≡ true → Mine ≡ lock_answer m key t mode
  answer_mine covered =
      ap (λ b. cond b Mine (conflict_or (least_of others) (cond (is_none had && length es == 4096) Full Free))) (sym covered) ∙ by_cases (least_of others) refl

  module _ (other : Option TxnId) (least : other ≡ least_of (map (λ e. e.txn) (filter (entry_test (conflicts key t mode)) es))) (uncovered : covers had mode ≡ false) where
    uncovered_case : conflict_or other (cond (is_none had && length es == 4096) Full Free) ≡ lock_answer m key t mode
    unfolding others
    uncovered_case = ap (λ b. cond b Mine (conflict_or other (cond (is_none had && length es == 4096) Full Free))) (sym uncovered) ∙ by_cases other least

    pub answer_conflict : (u : TxnId) → other ≡ Some u → Conflict u ≡ lock_answer m key t mode
    answer_conflict u is = ap (λ o. conflict_or o (cond (is_none had && length es == 4096) Full Free)) (sym is) ∙ uncovered_case

    pub answer_full : other ≡ None → is_none had ≡ true → length es ≡ 4096 → Full ≡ lock_answer m key t mode
    answer_full alone new full =
        let test : (is_none had && length es == 4096) ≡ true = ap (λ b. b && length es == 4096) new ∙ ap (λ n. n == 4096) full in
        ap (λ b. cond b Full Free) (sym test) ∙ ap (λ o. conflict_or o (cond (is_none had && length es == 4096) Full Free)) (sym alone) ∙ uncovered_case

    pub answer_free : other ≡ None → (is_none had && length es == 4096) ≡ false → Free ≡ lock_answer m key t mode
    answer_free alone room =
        ap (λ b. cond b Full Free) (sym room) ∙ ap (λ o. conflict_or o (cond (is_none had && length es == 4096) Full Free)) (sym alone) ∙ uncovered_case

-- at most 4,096 locks are held
pub len_bounded : (es : List Entry) (m : Held) → IsTable es → held es ≡ m → finite.len m ≤ 4096
len_bounded es m table view = subst (λ h. finite.len h ≤ 4096) view (let count = len-held es table in omega (arith, count, table.bounded))

pub all_pass : (es : List Entry) → filter (λ e. true) es ≡ es
all_pass [] = refl
all_pass (e ∷ es) = ap (λ rest. e ∷ rest) (all_pass es)

-- an option that is no value is none
pub is_None : {X : Type 0} (o : Option X) → ((x : X) → o ≡ Some x → ⊥) → o ≡ None
is_None None never = refl
is_None (Some x) never = absurd (never x refl)

pub not_full : (new : Bool) (n : ℕ) → ¬ (n ≡ 4096) → (new && n == 4096) ≡ false
not_full true n ne = grind (arith, nat_tests)
not_full false n ne = refl
