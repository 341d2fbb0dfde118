-- The machine after one deed more.
use Rattle.std.specs.Prelude.{◌≡◌, ◌==◌, ◌||◌, ◌+◌, ◌<◌, ◌++◌, ◌∷◌, [], ℕ, Bool, true, false, List, Option, Some, None, All, IfSome, length, refl}
use Rattle.std.specs.List.{list_any}
use Rattle.std.proofs.Common.{arith, ap, subst, sym, ◌∙◌}
use Rattle.std.proofs.lemmas.Bool.{eq-eqb, eqb-true}
use Rattle.std.proofs.lemmas.List.{length-append}
use Rattle.std.proofs.lemmas.List.Elements.{All-push}
use Rattle.std.proofs.lemmas.List.Quantifiers.{all_pairs_push}
use Rattle.sd_base.specs.declared.names.Key.{Key}
use Rattle.sd_base.specs.declared.names.TxnId.{TxnId}
use Rattle.log_record.specs.declared.record.LogRecord.{LogRecord}
use Rattle.log_record.specs.declared.record.LogRecord.TheVariants.{Begin}
use Rattle.compensation.specs.Finding.{record_at}
use Rattle.compensation.proofs.LogRecords.{record_at-last}
use Rattle.record_locks.specs.declared.mode.Mode.TheVariants as locks
use Rattle.record_locks.specs.Held.{mode_of}
use Rattle.record_machine.specs.Machine.{Deed, Machine, Write, home, overlaid, put, seen}
use Rattle.record_machine.specs.Parts.{done_by}
use Rattle.record_machine.specs.Meaning.{AreInOrder, AreLocked, AreLogged, AreLogs, IsLogged, IsPresent, Plain, Tells, first_record, has_written, logged, writes_key}
use Rattle.record_machine.proofs.Deeds.{logged-below, logged-longer, logged-push, overlaid-push, written-push, written_is, written_not, writes_none}
use Rattle.record_machine.proofs.Put.{at_or_off, put_same}

-- a transaction is its node and its seat
pub one_txn : (t u : TxnId) → t.node.0 ≡ u.node.0 → t.seat ≡ u.seat → t ≡ u
one_txn t u node seat =
    let first : t ≡ record { node = u.node; seat = t.seat } = ap (λ n. record { node = record { 0 = n }; seat = t.seat }) node in
    first ∙ ap (λ s. record { node = u.node; seat = s }) seat

-- the deed
abbrev pub deed : TxnId → Option Write → Machine → Deed
deed t w m = record { number = m.tail t.node.0; seat = t.seat; write = w }

either_left : (a b : Bool) → a ≡ true → (a || b) ≡ true
either_left a b is = rw is refl

either : (a b : Bool) → (a || b) ≡ true → a ≡ false → b ≡ true
either true b is not = cc
either false b is not = is

-- what has been written stays written
pub still_written : (t u : TxnId) (w : Option Write) (m : Machine) (key : ℕ) → has_written m u key ≡ true → has_written (done_by t w m) u key ≡ true
still_written t u w m key was =
    at_or_off (λ ds. list_any (writes_key u.seat key) ds ≡ true) t.node.0 (m.pending t.node.0 ++ deed t w m ∷ []) m.pending u.node.0
    (λ same. written-push u.seat key (m.pending t.node.0) (deed t w m) ∙ either_left _ _ (ap (λ n. list_any (writes_key u.seat key) (m.pending n)) (sym same) ∙ was))
    (λ other. was)

-- a key that isn't written is seen as before
pub seen_kept : (t u : TxnId) (w : Option Write) (m : Machine) (key : ℕ) → writes_key u.seat key (deed t w m) ≡ false → seen (done_by t w m) u key ≡ seen m u key
seen_kept t u w m key not =
    at_or_off (λ ds. overlaid u.seat key (m.records key) ds ≡ seen m u key) t.node.0 (m.pending t.node.0 ++ deed t w m ∷ []) m.pending u.node.0
    (λ same. overlaid-push u.seat key (m.records key) (m.pending t.node.0) (deed t w m) ∙ written_not u.seat key (overlaid u.seat key (m.records key) (m.pending t.node.0)) (deed t w m) not ∙ ap (λ n. overlaid u.seat key (m.records key) (m.pending n)) (sym same))
    (λ other. refl)

pub present_kept : (t : TxnId) (w : Option Write) (m : Machine) (key : ℕ) (v : Option (List ℕ)) → ((seat : ℕ) → writes_key seat key (deed t w m) ≡ false) → IsPresent m key v → IsPresent (done_by t w m) key v
present_kept t w m key v not present = λ u alone. present u (λ o was. alone o (still_written t o w m key was)) ∙ sym (seen_kept t u w m key (not u.seat))

-- and one that is written is what was written
own_write : (t : TxnId) (w : Write) (m : Machine) → writes_key t.seat w.key (deed t (Some w) m) ≡ true
own_write t w m = rw (eq-eqb t.seat t.seat refl) (eq-eqb w.key w.key refl)

pub present_now : (t : TxnId) (w : Write) (m : Machine) → IsPresent (done_by t (Some w) m) w.key w.value
present_now t w m = λ u alone.
    let ours : has_written (done_by t (Some w) m) t w.key ≡ true =
    ap (list_any (writes_key t.seat w.key)) (put_same t.node.0 (m.pending t.node.0 ++ deed t (Some w) m ∷ []) m.pending t.node.0 refl)
    ∙ written-push t.seat w.key (m.pending t.node.0) (deed t (Some w) m) ∙ last (list_any (writes_key t.seat w.key) (m.pending t.node.0)) (own_write t w m) in
    let same : t ≡ u = alone t ours in
    subst (λ o. w.value ≡ seen (done_by t (Some w) m) o w.key) same
    (sym (ap (overlaid t.seat w.key (m.records w.key)) (put_same t.node.0 (m.pending t.node.0 ++ deed t (Some w) m ∷ []) m.pending t.node.0 refl)
    ∙ overlaid-push t.seat w.key (m.records w.key) (m.pending t.node.0) (deed t (Some w) m)
    ∙ written_is t.seat w.key (overlaid t.seat w.key (m.records w.key) (m.pending t.node.0)) (deed t (Some w) m) w refl refl refl))
  where
    last : (a : Bool) {b : Bool} → b ≡ true → (a || (b || false)) ≡ true
    last true is = refl
    last false is = rw is refl

-- the locks are on all that is written
pub locked_done : (t : TxnId) (w : Option Write) (m : Machine) → IfSome w (λ x. (key : Key) → key.0 ≡ x.key → mode_of m.locks key t ≡ Some locks.Write) → AreLocked m → AreLocked (done_by t w m)
locked_done t w m lock was = record {
  apart = was.apart;
  written = λ u key is. by u key (has_written m u key.0) refl is;
}
  where
    new : (o : Option Write) → w ≡ o → (u : TxnId) (key : Key) → u.node.0 ≡ t.node.0 → writes_key u.seat key.0 (deed t w m) ≡ true → IfSome o (λ x. (key : Key) → key.0 ≡ x.key → mode_of m.locks key t ≡ Some locks.Write) → mode_of m.locks key u ≡ Some locks.Write
    new None is u key node it lock = let never : true ≡ false = sym it ∙ writes_none u.seat key.0 (deed t w m) is in cc
    new (Some x) is u key node it lock = pair (t.seat == u.seat) (x.key == key.0) refl refl (subst (λ o. writes_key u.seat key.0 (deed t o m) ≡ true) is it)
      where
        pair : (a b : Bool) → (t.seat == u.seat) ≡ a → (x.key == key.0) ≡ b → writes_key u.seat key.0 (deed t (Some x) m) ≡ true → mode_of m.locks key u ≡ Some locks.Write
        pair true true seat of it = let same = one_txn t u (sym node) (eqb-true t.seat u.seat seat) in subst (λ o. mode_of m.locks key o ≡ Some locks.Write) same (lock key (sym (eqb-true x.key key.0 of)))
        pair true false seat of it = cc
        pair false b seat of it = cc

    by : (u : TxnId) (key : Key) (b : Bool) → has_written m u key.0 ≡ b → has_written (done_by t w m) u key.0 ≡ true → mode_of m.locks key u ≡ Some locks.Write
    by u key true before is = was.written u key before
    by u key false before is = at_or_off (λ ds. list_any (writes_key u.seat key.0) ds ≡ true → mode_of m.locks key u ≡ Some locks.Write) t.node.0 (m.pending t.node.0 ++ deed t w m ∷ []) m.pending u.node.0
        (λ same any. new w refl u key same (or_false _ (either _ _ (sym (written-push u.seat key.0 (m.pending t.node.0) (deed t w m)) ∙ any) (ap (λ n. list_any (writes_key u.seat key.0) (m.pending n)) (sym same) ∙ before))) lock)
        (λ other any. let never : true ≡ false = sym any ∙ before in cc) is
      where
        or_false : (b : Bool) → (b || false) ≡ true → b ≡ true
        or_false true is = refl
        or_false false is = is

-- the tail of a log with one record more
pub tail_longer : (n : ℕ) (p : Plain) (m : Machine) (rec : LogRecord) (k : ℕ) → m.tail k ≡ first_record m k + length (p.live k) → put n (m.tail n + 1) m.tail k ≡ first_record m k + length (put n (p.live n ++ rec ∷ []) p.live k)
tail_longer n p m rec k old = by (k == n) refl
  where
    by : (b : Bool) → (k == n) ≡ b → put n (m.tail n + 1) m.tail k ≡ first_record m k + length (put n (p.live n ++ rec ∷ []) p.live k)
    by true is = let same = eqb-true k n is in let more = length-append (p.live k) (rec ∷ []) in rw is (subst (λ i. m.tail i + 1 ≡ first_record m k + length (p.live i ++ rec ∷ [])) same (omega (arith, old, more)))
    by false is = rw is old

-- the deed stands in the log with its record
logged_deed : (t : TxnId) (w : Option Write) (m : Machine) (recs : List LogRecord) (rec : LogRecord) (value : ℕ → ℕ → Option (List ℕ)) → m.tail t.node.0 ≡ first_record m t.node.0 + length recs → (w ≡ None → rec ≡ Begin) → IfSome w (λ x. Tells rec x (value t.seat x.key))
    → IsLogged (first_record m t.node.0) (recs ++ rec ∷ []) value (deed t w m)
logged_deed t w m recs rec value tail began tells = record {
  rec = rec;
  there = ap (record_at (first_record m t.node.0) (recs ++ rec ∷ [])) tail ∙ record_at-last (first_record m t.node.0) recs rec;
  began = began;
  wrote = tells;
}

pub logs_done : (t : TxnId) (w : Option Write) (m : Machine) (p : Plain) (rec : LogRecord) → (w ≡ None → rec ≡ Begin) → IfSome w (λ x. Tells rec x (seen m t x.key)) → IfSome w (λ x. home m x.key ≡ Some x.page) → AreLogs p m → AreLogs (logged t.node.0 rec p) (done_by t w m)
logs_done t w m p rec began tells here was = record {
  tail = λ n. tail_longer t.node.0 p m rec n (was.tail n);
  deeds = λ n. by_deeds n;
  rising = λ n. at_or_off AreInOrder t.node.0 (m.pending t.node.0 ++ deed t w m ∷ []) m.pending n
      (λ same. all_pairs_push (λ d e. d.number < e.number) (m.pending t.node.0) (deed t w m) (was.rising t.node.0)
      (λ k d low. (let below = logged-below (first_record m t.node.0) (p.live t.node.0) (λ seat. m.records) (m.pending t.node.0) (was.deeds t.node.0) k d low in let end = was.tail t.node.0 in omega (arith, below, end))))
      (λ other. was.rising n);
  homes = λ u. at_or_off (λ ds. All (λ d. IfSome d.write (λ x. home m x.key ≡ Some x.page)) ds) t.node.0 (m.pending t.node.0 ++ deed t w m ∷ []) m.pending u.node.0
      (λ same. All-push (λ d. IfSome d.write (λ x. home m x.key ≡ Some x.page)) (m.pending t.node.0) (deed t w m) (was.homes t) here)
      (λ other. was.homes u);
}
  where
    by_deeds : (n : ℕ) → AreLogged (first_record m n) (put t.node.0 (p.live t.node.0 ++ rec ∷ []) p.live n) (λ seat. m.records) (put t.node.0 (m.pending t.node.0 ++ deed t w m ∷ []) m.pending n)
    by_deeds n = by (n == t.node.0) refl
      where
        here_it : AreLogged (first_record m t.node.0) (p.live t.node.0 ++ rec ∷ []) (λ seat. m.records) (m.pending t.node.0 ++ deed t w m ∷ [])
        here_it = logged-push (first_record m t.node.0) (p.live t.node.0 ++ rec ∷ []) (λ seat. m.records) (m.pending t.node.0) (deed t w m)
            (logged-longer (first_record m t.node.0) (p.live t.node.0) rec (λ seat. m.records) (m.pending t.node.0) (was.deeds t.node.0))
            (logged_deed t w m (p.live t.node.0) rec (λ seat key. overlaid seat key (m.records key) (m.pending t.node.0)) (was.tail t.node.0) began tells)

        by : (b : Bool) → (n == t.node.0) ≡ b → AreLogged (first_record m n) (put t.node.0 (p.live t.node.0 ++ rec ∷ []) p.live n) (λ seat. m.records) (put t.node.0 (m.pending t.node.0 ++ deed t w m ∷ []) m.pending n)
        by true is = let same = eqb-true n t.node.0 is in subst (λ k. AreLogged (first_record m k) (put t.node.0 (p.live t.node.0 ++ rec ∷ []) p.live k) (λ seat. m.records) (put t.node.0 (m.pending t.node.0 ++ deed t w m ∷ []) m.pending k)) (sym same) (rw (eq-eqb t.node.0 t.node.0 refl) here_it)
        by false is = rw is (was.deeds n)
