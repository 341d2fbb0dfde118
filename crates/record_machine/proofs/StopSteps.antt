-- What a stop leaves: the other nodes, the pages that its changes haven't changed, and the locks.
use Rattle.std.specs.Prelude.{◌≡◌, ◌≢◌, ◌==◌, ◌||◌, ◌∷◌, [], ℕ, Bool, true, false, not, List, Option, Some, None, drop, if◌then◌else◌, refl}
use Rattle.std.specs.FinMap as finite
use Rattle.std.specs.List.{list_any}
use Rattle.std.proofs.Common.{ap, sym, ◌∙◌, eq-eqb, ne_eqb}
use Rattle.sd_base.specs.declared.names.Key.{Key}
use Rattle.sd_base.specs.declared.names.TxnId.{TxnId}
use Rattle.record_locks.specs.declared.mode.Mode.{Mode}
use Rattle.record_locks.specs.declared.mode.Mode.TheVariants as locks
use Rattle.record_locks.specs.Held.{Held, is_write, locks_where, mode_of, passing, without_reads_of}
use Rattle.record_locks.specs.Order.{Lock, lock, lock_cmp}
use Rattle.record_locks.proofs.HeldLaws.{get-locks_where}
use Rattle.record_locks.proofs.OrderLaws.{lock_cmp_antisymmetric, lock_cmp_total}
use Rattle.record_machine.specs.Machine.{Deed, Down, IdentBefore, LooseChange, Machine, put}
use Rattle.record_machine.specs.Parts.{is_of_page}
use Rattle.record_machine.specs.Stops.{any_up, ident_before, pending_before, stop, stop_in_undo, tail_before, with_idents}
use Rattle.record_machine.proofs.Put.{at_or_off, put_other, put_same}

-- ---- other nodes

pub pending_others : (h n : ℕ) (cs : List LooseChange) (pending : ℕ → List Deed) → n ≢ h → pending_before h cs pending n ≡ pending n
pending_others h n [] pending other = refl
pending_others h n (c ∷ cs) pending other = put_other h c.pending (pending_before h cs pending) n other ∙ pending_others h n cs pending other

pub tail_others : (h n : ℕ) (cs : List LooseChange) (tail : ℕ → ℕ) → n ≢ h → tail_before h cs tail n ≡ tail n
tail_others h n [] tail other = refl
tail_others h n (c ∷ cs) tail other = put_other h c.number (tail_before h cs tail) n other ∙ tail_others h n cs tail other

-- ---- other pages

-- neither this test nor that one holds
neither : (a b : Bool) → (a || b) ≡ false → (a ≡ false) × (b ≡ false)
neither true b is = cc
neither false b is = (refl, is)

pub idents_off : (x : ℕ) (is : List IdentBefore) (ident : ℕ → ℕ) → list_any (λ i. i.page == x) is ≡ false → with_idents is ident x ≡ ident x
idents_off x [] ident off = refl
idents_off x (i ∷ is) ident off =
    let two = neither (i.page == x) (list_any (λ j. j.page == x) is) off in
    put_other i.page i.ident (with_idents is ident) x (λ same. let never : false ≡ true = sym two.0 ∙ eq-eqb i.page x (sym same) in cc) ∙ idents_off x is ident two.1

pub idents_left : (x : ℕ) (cs : List LooseChange) (ident : ℕ → ℕ) → list_any (is_of_page x) cs ≡ false → ident_before cs ident x ≡ ident x
idents_left x [] ident off = refl
idents_left x (c ∷ cs) ident off =
    let two = neither (is_of_page x c) (list_any (is_of_page x) cs) off in
    idents_off x c.idents (ident_before cs ident) two.0 ∙ idents_left x cs ident two.1

-- ---- locks

-- what stays of a node's locks
abbrev pub reads_of : ℕ → Lock → Mode → Bool
reads_of h l mode = not (l.txn.node.0 == h) || is_write mode

pub mode_without : (m : Held) (h : ℕ) (key : Key) (t : TxnId) → mode_of (without_reads_of (record { 0 = h }) m) key t ≡ passing (reads_of h) (lock key t) (mode_of m key t)
mode_without m h key t = get-locks_where (reads_of h) m (lock key t)

-- the locks after a stop, whether or not the tables are lost
abbrev pub locks_after : Bool → ℕ → Held → Held
locks_after up h held = if up then without_reads_of (record { 0 = h }) held else finite.empty

or_true : (a : Bool) → (a || true) ≡ true
or_true true = refl
or_true false = refl

pub write_stays : (m : Held) (h : ℕ) (key : Key) (t : TxnId) (up : Bool) → up ≡ true → mode_of m key t ≡ Some locks.Write → mode_of (locks_after up h m) key t ≡ Some locks.Write
write_stays m h key t true is had = mode_without m h key t ∙ (ap (passing (reads_of h) (lock key t)) had ∙ ap (λ b. if b then Some locks.Write else None) (or_true (not (t.node.0 == h))))
write_stays m h key t false is had = cc

read_goes : (m : Held) (h : ℕ) (key : Key) (t : TxnId) (up : Bool) → t.node.0 ≡ h → mode_of m key t ≡ Some locks.Read → mode_of (locks_after up h m) key t ≡ None
read_goes m h key t false own had = finite.get-empty lock_cmp (lock key t)
read_goes m h key t true own had = mode_without m h key t ∙ (ap (passing (reads_of h) (lock key t)) had ∙ rw (eq-eqb t.node.0 h own) refl)

other_stays : (m : Held) (h : ℕ) (key : Key) (t : TxnId) (up : Bool) → up ≡ true → t.node.0 ≢ h → mode_of (locks_after up h m) key t ≡ mode_of m key t
other_stays m h key t false is other = cc
other_stays m h key t true is other = mode_without m h key t ∙ by (mode_of m key t)
  where
    by : (o : Option Mode) → passing (reads_of h) (lock key t) o ≡ o
    by None = refl
    by (Some mode) = rw (ne_eqb t.node.0 h other) refl

-- a lock that isn't dropped was there
pub lock_was : (test : Lock → Mode → Bool) (m : Held) (key : Key) (t : TxnId) (mode : Mode) → mode_of (locks_where test m) key t ≡ Some mode → mode_of m key t ≡ Some mode
lock_was test m key t mode has = by (mode_of m key t) (sym (get-locks_where test m (lock key t)) ∙ has)
  where
    when : (b : Bool) (old : Mode) → (if b then Some old else None) ≡ Some mode → Some old ≡ Some mode
    when true old is = is
    when false old is = cc

    by : (o : Option Mode) → passing test (lock key t) o ≡ Some mode → o ≡ Some mode
    by None is = cc
    by (Some old) is = when (test (lock key t) old) old is

pub none_new : (m : Held) (h : ℕ) (key : Key) (t : TxnId) (mode : Mode) (up : Bool) → mode_of (locks_after up h m) key t ≡ Some mode → mode_of m key t ≡ Some mode
none_new m h key t mode false has = let never : None ≡ Some mode = sym (finite.get-empty lock_cmp (lock key t)) ∙ has in cc
none_new m h key t mode true has = lock_was (reads_of h) m key t mode has

-- of no locks none is left
pub nothing_left : (test : Lock → Mode → Bool) → locks_where test finite.empty ≡ finite.empty
nothing_left test = finite.same_map lock_cmp_total lock_cmp_antisymmetric _ _ (λ l. get-locks_where test finite.empty l ∙ (ap (passing test l) (finite.get-empty lock_cmp l) ∙ sym (finite.get-empty lock_cmp l)))

module _ (m : Machine) (h kept : ℕ) where
  pub stop_others : (n : ℕ) → n ≢ h → ((stop h kept m).mode n ≡ m.mode n) × ((stop h kept m).pending n ≡ m.pending n) × ((stop h kept m).tail n ≡ m.tail n) × ((stop h kept m).loose n ≡ m.loose n)
  stop_others n other = (put_other h Down m.mode n other, pending_others h n (drop kept (m.loose h)) m.pending other, tail_others h n (drop kept (m.loose h)) m.tail other, put_other h [] m.loose n other)

  pub stop_writes : (key : Key) (t : TxnId) → any_up (stop h kept m) ≡ true → mode_of m.locks key t ≡ Some locks.Write → mode_of (stop h kept m).locks key t ≡ Some locks.Write
  stop_writes key t up had = write_stays m.locks h key t (any_up (stop h kept m)) up had

  pub stop_reads : (key : Key) (t : TxnId) → t.node.0 ≡ h → mode_of m.locks key t ≡ Some locks.Read → mode_of (stop h kept m).locks key t ≡ None
  stop_reads key t own had = read_goes m.locks h key t (any_up (stop h kept m)) own had

  pub stop_other_locks : (key : Key) (t : TxnId) → any_up (stop h kept m) ≡ true → t.node.0 ≢ h → mode_of (stop h kept m).locks key t ≡ mode_of m.locks key t
  stop_other_locks key t up other = other_stays m.locks h key t (any_up (stop h kept m)) up other

  pub stop_none_new : (key : Key) (t : TxnId) (mode : Mode) → mode_of (stop h kept m).locks key t ≡ Some mode → mode_of m.locks key t ≡ Some mode
  stop_none_new key t mode has = none_new m.locks h key t mode (any_up (stop h kept m)) has

-- in an undo two nodes go down
pub stop_both : (m : Machine) (u h kept : ℕ) → ((stop_in_undo u h kept m).mode u ≡ Down) × ((stop_in_undo u h kept m).mode h ≡ Down)
stop_both m u h kept = (put_same u Down (put h Down m.mode) u refl, at_or_off (λ mode. mode ≡ Down) u Down (put h Down m.mode) h (λ e. refl) (λ d. put_same h Down m.mode h refl))
