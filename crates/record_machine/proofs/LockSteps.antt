-- The locks after a step, and what they keep from changing.
use Rattle.std.specs.Prelude.{◌≡◌, ◌≢◌, ◌==◌, ◌⊎◌, ℕ, Bool, true, false, cond, not, Option, Some, None, IsSome, IsTrue, refl}
use Rattle.std.specs.FinMap as finite
use Rattle.std.proofs.Common.{inl, inr, ap, subst, sym, ◌∙◌}
use Rattle.std.proofs.lemmas.Bool.{eqb-true}
use Rattle.sd_base.specs.declared.names.Key.{Key}
use Rattle.sd_base.specs.declared.names.TxnId.{TxnId}
use Rattle.sd_base.specs.Places.{slot_of_key}
use Rattle.compensation.specs.Inverse.{content}
use Rattle.record_locks.specs.declared.mode.Mode.{Mode}
use Rattle.record_locks.specs.declared.mode.Mode.TheVariants as locks
use Rattle.record_locks.specs.Answer.{lock_answer, may_take}
use Rattle.record_locks.specs.Held.{Held, IsLeast, excludes, least_where, mode_of, passing, raised, taken}
use Rattle.record_locks.specs.Order.{lock, same_txn}
use Rattle.record_locks.proofs.CompatibleLaws.{IsCompatible-locks_where, IsCompatible-taken}
use Rattle.record_locks.proofs.HeldLaws.{IsLeast-least_where, get-locks_where, get-taken}
use Rattle.record_machine.specs.Machine.{Machine, home, seen}
use Rattle.record_machine.specs.Parts.{Start, Lock, Take, Unlock, one}
use Rattle.record_machine.specs.Meaning.{AreLocked, AreLogs, ArePages, Means, Plain, has_written}
use Rattle.record_machine.proofs.DeedSteps.{one_txn}
use Rattle.record_machine.proofs.SealSteps.{seen_nothing}
use Rattle.record_machine.proofs.UseSteps.{never_written}

-- a lock more
pub locked_taken : (key : Key) (t : TxnId) (mode : Mode) (m : Machine) → IsTrue (may_take (lock_answer m.locks key t mode)) → AreLocked m → AreLocked (one (Lock key t mode) m)
locked_taken key t mode m free was = record {
  apart = IsCompatible-taken m.locks key t mode was.apart free;
  written = λ u other is. by u other (was.written u other is) (get-taken m.locks key t mode (lock other u));
}
  where
    still : (o : Option Mode) → o ≡ Some locks.Write → Some (raised o mode) ≡ Some locks.Write
    still o is = ap (λ x. Some (raised x mode)) is

    by : (u : TxnId) (other : Key) → mode_of m.locks other u ≡ Some locks.Write → ((lock other u ≡ lock key t) × (finite.get (taken m.locks key t mode) (lock other u) ≡ Some (raised (mode_of m.locks key t) mode))) ⊎ (finite.get (taken m.locks key t mode) (lock other u) ≡ finite.get m.locks (lock other u))
        → mode_of (taken m.locks key t mode) other u ≡ Some locks.Write
    by u other had (inl here) = here.1 ∙ still (mode_of m.locks key t) (ap (finite.get m.locks) (sym here.0) ∙ had)
    by u other had (inr same) = same ∙ had

-- the locks of a transaction that has written nothing are released
pub locked_dropped : (t : TxnId) (m : Machine) → ((key : ℕ) → has_written m t key ≡ false) → AreLocked m → AreLocked (one (Unlock t) m)
locked_dropped t m nothing was = record {
  apart = IsCompatible-locks_where (λ l mode. not (same_txn l.txn t)) m.locks was.apart;
  written = λ u key is. get-locks_where (λ l mode. not (same_txn l.txn t)) m.locks (lock key u) ∙ ap (passing (λ l mode. not (same_txn l.txn t)) (lock key u)) (was.written u key is)
      ∙ ap (λ b. cond (not b) (Some locks.Write) None) (other u (λ same. let never : true ≡ false = sym is ∙ ap (λ o. has_written m o key.0) same ∙ nothing key.0 in cc));
}
  where
    other : (u : TxnId) → u ≢ t → same_txn u t ≡ false
    other u apart = by (u.node.0 == t.node.0) (u.seat == t.seat) refl refl
      where
        by : (a b : Bool) → (u.node.0 == t.node.0) ≡ a → (u.seat == t.seat) ≡ b → same_txn u t ≡ false
        by true true node seat = absurd (apart (one_txn u t (eqb-true u.node.0 t.node.0 node) (eqb-true u.seat t.seat seat)))
        by true false node seat = rw node seat
        by false b node seat = rw node refl

-- ---- what is read

either_mode : (mode : Mode) → excludes mode locks.Write ≡ true
either_mode locks.Read = refl
either_mode locks.Write = refl

-- a transaction that has a lock on a key sees its present record
pub seen_locked : (p : Plain) (m : Machine) (key : Key) (x : ℕ) (t : TxnId) (mode : Mode) → AreLocked m → ArePages p m → home m key.0 ≡ Some x → mode_of m.locks key t ≡ Some mode → content (p.pages x) (slot_of_key key.0) ≡ seen m t key.0
seen_locked p m key x t mode locked pages is had = pages.present key.0 x is t (λ u theirs. sym (locked.apart key t u mode locks.Write had (locked.written u key theirs) (either_mode mode)))

-- where nobody has a lock, nothing is written that isn't committed
unwritten : (m : Machine) (u : TxnId) (key : Key) → AreLocked m → least_where (λ l mode. true) m.locks ≡ None → has_written m u key.0 ≡ false
unwritten m u key locked none = by (has_written m u key.0) refl
  where
    by : (b : Bool) → has_written m u key.0 ≡ b → has_written m u key.0 ≡ false
    by false is = is
    by true is =
        let free : IsLeast (λ l mode. true) m.locks None = subst (IsLeast (λ l mode. true) m.locks) none (IsLeast-least_where (λ l mode. true) m.locks) in
        absurd (free (lock key u) (subst (λ o. IsSome (passing (λ l mode. true) (lock key u) o)) (sym (locked.written u key is)) refl))

-- and the slot of a record has the committed one
pub committed_there : (p : Plain) (m : Machine) (key : Key) (x : ℕ) → AreLocked m → ArePages p m → least_where (λ l mode. true) m.locks ≡ None → home m key.0 ≡ Some x → content (p.pages x) (slot_of_key key.0) ≡ m.records key.0
committed_there p m key x locked pages none is =
    let t : TxnId = record { node = record { 0 = 1 }; seat = 0 } in
    pages.present key.0 x is t (λ u theirs. let never : true ≡ false = sym theirs ∙ unwritten m u key locked none in cc)
    ∙ seen_nothing t t m key.0 (m.records key.0) (unwritten m t key locked none)

-- and where its group has no page, there is none
pub seen_absent : (p : Plain) (m : Machine) (key : ℕ) (t : TxnId) → AreLogs p m → ArePages p m → home m key ≡ None → seen m t key ≡ None
seen_absent p m key t logs pages none = seen_nothing t t m key (m.records key) (never_written p m key t logs none) ∙ pages.absent key none

-- ---- what doesn't hang on the locks

pub pages_still : (p : Plain) (m : Machine) (held : Held) → ArePages p m → ArePages p (record m { locks = held })
pages_still p m held was = record {
  shape = was.shape;
  count = was.count;
  map_number = was.map_number;
  number = was.number;
  entries = was.entries;
  map_ident = was.map_ident;
  ident = was.ident;
  alive = was.alive;
  unused = was.unused;
  present = was.present;
  absent = was.absent;
}

pub logs_still : (p : Plain) (m : Machine) (held : Held) → AreLogs p m → AreLogs p (record m { locks = held })
logs_still p m held was = record { tail = was.tail; deeds = was.deeds; rising = was.rising; homes = was.homes }

-- nor on who holds the pages
pub means_taken : (p : Plain) (m : Machine) (x n : ℕ) → Means p m → Means p (one (Take x n) m)
means_taken p m x n was = record {
  pages = record {
    shape = was.pages.shape;
    count = was.pages.count;
    map_number = was.pages.map_number;
    number = was.pages.number;
    entries = was.pages.entries;
    map_ident = was.pages.map_ident;
    ident = was.pages.ident;
    alive = was.pages.alive;
    unused = was.pages.unused;
    present = was.pages.present;
    absent = was.pages.absent;
  };
  logs = record { tail = was.logs.tail; deeds = was.logs.deeds; rising = was.logs.rising; homes = was.logs.homes };
  locked = record { apart = was.locked.apart; written = was.locked.written };
  tops = was.tops;
}

-- a node that starts changes nothing that the logs, the pages and the locks mean
pub means_started : (p : Plain) (m : Machine) (n : ℕ) → Means p m → Means p (one (Start n) m)
means_started p m n was = record {
  pages = record {
    shape = was.pages.shape;
    count = was.pages.count;
    map_number = was.pages.map_number;
    number = was.pages.number;
    entries = was.pages.entries;
    map_ident = was.pages.map_ident;
    ident = was.pages.ident;
    alive = was.pages.alive;
    unused = was.pages.unused;
    present = was.pages.present;
    absent = was.pages.absent;
  };
  logs = record { tail = was.logs.tail; deeds = was.logs.deeds; rising = was.logs.rising; homes = was.logs.homes };
  locked = record { apart = was.locked.apart; written = was.locked.written };
  tops = was.tops;
}
