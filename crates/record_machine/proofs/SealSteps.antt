-- The machine after a transaction has ended.
use Rattle.std.specs.Prelude.{◌≡◌, ◌≢◌, ◌==◌, ◌⊎◌, ◌<◌, ◌++◌, ◌∷◌, [], ℕ, Bool, true, false, not, List, Option, Some, All, IfSome, refl}
use Rattle.std.specs.List.{list_any}
use Rattle.std.proofs.Common.{inl, inr, ap, subst, sym, ◌∙◌}
use Rattle.std.proofs.lemmas.Bool.{cases_eq, eq-eqb, eqb-true}
use Rattle.std.proofs.lemmas.List.Elements.{All-filter}
use Rattle.std.proofs.lemmas.List.Kept.{AllPairs-filter}
use Rattle.sd_base.specs.declared.names.Key.{Key}
use Rattle.sd_base.specs.declared.names.TxnId.{TxnId}
use Rattle.sd_base.specs.Places.{slot_of_key}
use Rattle.compensation.specs.Inverse.{content}
use Rattle.log_record.specs.declared.record.LogRecord.{LogRecord}
use Rattle.record_locks.specs.declared.mode.Mode.TheVariants as locks
use Rattle.record_locks.specs.Held.{mode_of}
use Rattle.record_machine.specs.Machine.{Machine, home, overlaid, put, seen}
use Rattle.record_machine.specs.Parts.{Seal, one}
use Rattle.record_machine.specs.Meaning.{AreInOrder, AreLocked, AreLogged, AreLogs, ArePages, IsPresent, Plain, first_record, has_written, logged, writes_key}
use Rattle.record_machine.proofs.Deeds.{logged-longer, logged-same, logged-without, overlaid_not, overlaid_others, without, written_none, written_others}
use Rattle.record_machine.proofs.DeedSteps.{one_txn, tail_longer}
use Rattle.record_machine.proofs.UseSteps.{never_written}
use Rattle.record_machine.proofs.Put.{at_or_off, put_same}

-- of two transactions that have written a key, each is the other
pub one_writer : (m : Machine) (t u : TxnId) (key : ℕ) → AreLocked m → has_written m t key ≡ true → has_written m u key ≡ true → t ≡ u
one_writer m t u key locked one two = locked.apart (record { 0 = key }) t u locks.Write locks.Write (locked.written t (record { 0 = key }) one) (locked.written u (record { 0 = key }) two) refl

-- a seat of another transaction
pub other_seat : (t u : TxnId) → u ≢ t → u.node.0 ≡ t.node.0 → u.seat ≢ t.seat
other_seat t u apart node seat = apart (one_txn u t node seat)

-- the others have written what they had
pub sealed_others : (t u : TxnId) (m : Machine) (key : ℕ) → u ≢ t → has_written (one (Seal t) m) u key ≡ has_written m u key
sealed_others t u m key apart =
    at_or_off (λ ds. list_any (writes_key u.seat key) ds ≡ has_written m u key) t.node.0 (without t.seat (m.pending t.node.0)) m.pending u.node.0
    (λ node. written_others t.seat u.seat key (m.pending t.node.0) (other_seat t u apart node) ∙ ap (λ n. list_any (writes_key u.seat key) (m.pending n)) (sym node))
    (λ other. refl)

-- and it has written nothing
pub sealed_own : (t : TxnId) (m : Machine) (key : ℕ) → has_written (one (Seal t) m) t key ≡ false
sealed_own t m key = ap (list_any (writes_key t.seat key)) (put_same t.node.0 (without t.seat (m.pending t.node.0)) m.pending t.node.0 refl) ∙ written_none t.seat key (m.pending t.node.0)

-- what another one sees of a key, over what the sealed one has made of it
seen_others : (t u : TxnId) (m : Machine) (key : ℕ) → u ≢ t → seen (one (Seal t) m) u key ≡ overlaid u.seat key (seen m t key) (m.pending u.node.0)
seen_others t u m key apart =
    at_or_off (λ ds. overlaid u.seat key (seen m t key) ds ≡ overlaid u.seat key (seen m t key) (m.pending u.node.0)) t.node.0 (without t.seat (m.pending t.node.0)) m.pending u.node.0
    (λ node. overlaid_others t.seat u.seat key (seen m t key) (m.pending t.node.0) (other_seat t u apart node) ∙ ap (λ n. overlaid u.seat key (seen m t key) (m.pending n)) (sym node))
    (λ other. refl)

seen_own : (t : TxnId) (m : Machine) (key : ℕ) → seen (one (Seal t) m) t key ≡ seen m t key
seen_own t m key = ap (overlaid t.seat key (seen m t key)) (put_same t.node.0 (without t.seat (m.pending t.node.0)) m.pending t.node.0 refl) ∙ overlaid_not t.seat key (seen m t key) (without t.seat (m.pending t.node.0)) (written_none t.seat key (m.pending t.node.0))

pub seen_nothing : (t u : TxnId) (m : Machine) (key : ℕ) (v : Option (List ℕ)) → has_written m u key ≡ false → overlaid u.seat key v (m.pending u.node.0) ≡ v
seen_nothing t u m key v not = overlaid_not u.seat key v (m.pending u.node.0) not

pub same_or_not : (t u : TxnId) → (u ≡ t) ⊎ (u ≢ t)
same_or_not t u = elim (cases_eq u.node.0 t.node.0) [
  | inl node ↦ elim (cases_eq u.seat t.seat) [
    | inl seat ↦ inl (one_txn u t node seat)
    | inr seat ↦ inr (λ e. seat (ap (λ o. o.seat) e))
  ]
  | inr node ↦ inr (λ e. node (ap (λ o. o.node.0) e))
]

pub not_written : (b : Bool) → (b ≡ true → ⊥) → b ≡ false
not_written true never = absurd (never refl)
not_written false never = refl

-- what is present stays so
pub present_sealed : (t : TxnId) (m : Machine) (key : ℕ) (v : Option (List ℕ)) → AreLocked m → IsPresent m key v → IsPresent (one (Seal t) m) key v
present_sealed t m key v locked present = by (has_written m t key) refl
  where
    -- it has written the key: then no other has
    by_own : has_written m t key ≡ true → (u : TxnId) → (u ≡ t) ⊎ (u ≢ t) → v ≡ seen (one (Seal t) m) u key
    by_own ours u (inl same) = present t (λ o theirs. sym (one_writer m t o key locked ours theirs)) ∙ sym (ap (λ o. seen (one (Seal t) m) o key) same ∙ seen_own t m key)
    by_own ours u (inr apart) =
        let not : has_written m u key ≡ false = not_written (has_written m u key) (λ theirs. apart (sym (one_writer m t u key locked ours theirs))) in
        present t (λ o theirs. sym (one_writer m t o key locked ours theirs)) ∙ sym (seen_others t u m key apart ∙ seen_nothing t u m key (seen m t key) not)

    -- it hasn't: then nothing of the key changes
    others : has_written m t key ≡ false → (u : TxnId) → ((o : TxnId) → has_written (one (Seal t) m) o key ≡ true → o ≡ u) → (o : TxnId) → has_written m o key ≡ true → o ≡ u
    others not u alone o theirs = alone o (sealed_others t o m key (λ same. let never : true ≡ false = sym theirs ∙ ap (λ x. has_written m x key) same ∙ not in cc) ∙ theirs)

    by_other : has_written m t key ≡ false → (u : TxnId) → ((o : TxnId) → has_written (one (Seal t) m) o key ≡ true → o ≡ u) → (u ≡ t) ⊎ (u ≢ t) → v ≡ seen (one (Seal t) m) u key
    by_other not u alone (inl same) = present t (λ o theirs. others not u alone o theirs ∙ same) ∙ sym (ap (λ o. seen (one (Seal t) m) o key) same ∙ seen_own t m key)
    by_other not u alone (inr apart) = present u (others not u alone) ∙ sym (seen_others t u m key apart ∙ ap (λ o. overlaid u.seat key o (m.pending u.node.0)) (seen_nothing t t m key (m.records key) not))

    by : (b : Bool) → has_written m t key ≡ b → IsPresent (one (Seal t) m) key v
    by true is = λ u alone. by_own is u (same_or_not t u)
    by false is = λ u alone. by_other is u alone (same_or_not t u)

pub pages_sealed : (t : TxnId) (p : Plain) (m : Machine) (rec : LogRecord) → AreLogs p m → AreLocked m → ArePages p m → ArePages (logged t.node.0 rec p) (one (Seal t) m)
pages_sealed t p m rec logs locked was = record {
  shape = was.shape;
  count = was.count;
  map_number = was.map_number;
  number = was.number;
  entries = was.entries;
  map_ident = was.map_ident;
  ident = was.ident;
  alive = was.alive;
  unused = was.unused;
  present = λ key x is. present_sealed t m key (content (p.pages x) (slot_of_key key)) locked (was.present key x is);
  absent = λ key none. seen_nothing t t m key (m.records key) (never_written p m key t logs none) ∙ was.absent key none;
}

-- the locks are still on all that is written
pub locked_sealed : (t : TxnId) (m : Machine) → AreLocked m → AreLocked (one (Seal t) m)
locked_sealed t m was = record { apart = was.apart; written = λ u key is. by u key (same_or_not t u) is }
  where
    by : (u : TxnId) (key : Key) → (u ≡ t) ⊎ (u ≢ t) → has_written (one (Seal t) m) u key.0 ≡ true → mode_of m.locks key u ≡ Some locks.Write
    by u key (inl same) is = let never : true ≡ false = sym is ∙ ap (λ o. has_written (one (Seal t) m) o key.0) same ∙ sealed_own t m key.0 in cc
    by u key (inr apart) is = was.written u key (sym (sealed_others t u m key.0 apart) ∙ is)

-- and the others' deeds still stand in the log
pub logs_sealed : (t : TxnId) (p : Plain) (m : Machine) (rec : LogRecord) → AreLocked m → AreLogs p m → AreLogs (logged t.node.0 rec p) (one (Seal t) m)
logs_sealed t p m rec locked was = record {
  tail = λ n. tail_longer t.node.0 p m rec n (was.tail n);
  deeds = λ n. by_deeds n;
  rising = λ n. at_or_off AreInOrder t.node.0 (without t.seat (m.pending t.node.0)) m.pending n
      (λ node. AllPairs-filter (λ d e. d.number < e.number) (λ d. not (d.seat == t.seat)) (m.pending t.node.0) (was.rising t.node.0))
      (λ other. was.rising n);
  homes = λ u. at_or_off (λ ds. All (λ d. IfSome d.write (λ w. home m w.key ≡ Some w.page)) ds) t.node.0 (without t.seat (m.pending t.node.0)) m.pending u.node.0
      (λ node. All-filter (λ d. not (d.seat == t.seat)) (λ d. IfSome d.write (λ w. home m w.key ≡ Some w.page)) (m.pending t.node.0) (was.homes t))
      (λ other. was.homes u);
}
  where
    -- what another seat of the node has written, the sealed one hasn't
    same_value : (seat key : ℕ) → seat ≢ t.seat → list_any (writes_key seat key) (m.pending t.node.0) ≡ true → seen m t key ≡ m.records key
    same_value seat key apart theirs =
        let u : TxnId = record { node = t.node; seat = seat } in
        seen_nothing t t m key (m.records key) (not_written (has_written m t key) (λ ours. apart (sym (ap (λ o. o.seat) (one_writer m t u key locked ours theirs)))))

    by_deeds : (n : ℕ) → AreLogged (first_record m n) (put t.node.0 (p.live t.node.0 ++ rec ∷ []) p.live n) (λ seat key. seen m t key) (put t.node.0 (without t.seat (m.pending t.node.0)) m.pending n)
    by_deeds n = by (n == t.node.0) refl
      where
        here : AreLogged (first_record m t.node.0) (p.live t.node.0 ++ rec ∷ []) (λ seat key. seen m t key) (without t.seat (m.pending t.node.0))
        here = logged-without (first_record m t.node.0) (p.live t.node.0 ++ rec ∷ []) t.seat (λ seat. m.records) (λ seat key. seen m t key) (m.pending t.node.0)
            (logged-longer (first_record m t.node.0) (p.live t.node.0) rec (λ seat. m.records) (m.pending t.node.0) (was.deeds t.node.0))
            (λ other key apart any. same_value other key apart any)

        by : (b : Bool) → (n == t.node.0) ≡ b → AreLogged (first_record m n) (put t.node.0 (p.live t.node.0 ++ rec ∷ []) p.live n) (λ seat key. seen m t key) (put t.node.0 (without t.seat (m.pending t.node.0)) m.pending n)
        by true is = let same = eqb-true n t.node.0 is in rw is (subst (λ i. AreLogged (first_record m i) (p.live t.node.0 ++ rec ∷ []) (λ seat key. seen m t key) (without t.seat (m.pending t.node.0))) (sym same) here)
        by false is = rw is (logged-same (first_record m n) (p.live n) (λ seat. m.records) (λ seat key. seen m t key) (m.pending n) (was.deeds n) (λ seat key any.
            let u : TxnId = record { node = record { 0 = n }; seat = seat } in
            seen_nothing t t m key (m.records key) (not_written (has_written m t key) (λ ours. let same : n ≡ t.node.0 = sym (ap (λ o. o.node.0) (one_writer m t u key locked ours any)) in let never : true ≡ false = sym (eq-eqb n t.node.0 same) ∙ is in cc))))
