-- The machine after the newest write of a transaction is taken back.
use Rattle.std.specs.Prelude.{◌≡◌, ◌≢◌, ◌==◌, ◌⊎◌, ◌+◌, ◌++◌, ◌∷◌, [], ℕ, zero, suc, Bool, true, false, List, Option, Some, None, All, IfSome, filter, is_some, length, option_and_then, refl, replicate}
use Rattle.std.specs.List.{list_any}
use Rattle.std.proofs.Common.{arith, inl, inr, ap, subst, sym, ◌∙◌}
use Rattle.std.proofs.lemmas.Bool.{eqb-true}
use Rattle.std.proofs.lemmas.Bool.Decides.{nat_tests}
use Rattle.std.proofs.lemmas.List.{length-append}
use Rattle.sd_base.specs.declared.names.TxnId.{TxnId}
use Rattle.sd_base.specs.Places.{slot_of_key}
use Rattle.page_image.specs.declared.page_view.PageView.{PageView}
use Rattle.log_record.specs.declared.record.LogRecord.{LogRecord}
use Rattle.compensation.specs.Finding.{record_at}
use Rattle.record_machine.specs.Machine.{Deed, Machine, Write, deeds_of, home, newest_of, overlaid, owed, put, seen, without_newest, writes_of}
use Rattle.record_machine.specs.Parts.{Back, Seal, dos, one, taken_back}
use Rattle.record_machine.specs.Meaning.{AreInOrder, AreLocked, AreLogged, AreLogs, ArePages, IsChangedAt, IsLogged, IsPresent, Plain, Tells, first_record, has_written, logged, with_page, writes_key}
use Rattle.record_machine.proofs.Deeds.{logged-longer, writes_other}
use Rattle.record_machine.proofs.DeedSteps.{tail_longer}
use Rattle.record_machine.proofs.Newest.{IsNewest, all_rest, at_newest, filter_rest, length_rest, logged_newest, logged_rest, newest_is, no_keys, no_writes, none_newest, ordered_rest, own_seat, seen_before, seen_rest, some_write, written_it, written_less, written_rest, writes_rest}
use Rattle.record_machine.proofs.PageSteps.{pages_written}
use Rattle.record_machine.proofs.Put.{at_or_off, put_same}
use Rattle.record_machine.proofs.RestSteps.{pages_rest}
use Rattle.record_machine.proofs.SealSteps.{not_written, one_writer, other_seat, same_or_not, seen_nothing}

-- the part, where there is such a write
pub back_is : (m : Machine) (t : TxnId) (d : Deed) (w : Write) → newest_of m t ≡ Some d → d.write ≡ Some w → one (Back t) m ≡ taken_back t (Some w) m
back_is m t d w is write = ap (λ o. taken_back t (option_and_then (λ x. x.write) o) m) is ∙ ap (λ o. taken_back t o m) write

stands : (m : Machine) (t : TxnId) (d : Deed) → newest_of m t ≡ Some d → IsNewest t.seat (m.pending t.node.0) d
stands m t d is = newest_is t.seat (m.pending t.node.0) d is

-- the newest write is one
pub newest_writes : (m : Machine) (t : TxnId) (d : Deed) → newest_of m t ≡ Some d → (w : Write) × (d.write ≡ Some w)
newest_writes m t d is = by d.write refl (some_write t.seat d (stands m t d is).write)
  where
    by : (o : Option Write) → d.write ≡ o → is_some d.write ≡ true → (w : Write) × (d.write ≡ Some w)
    by None it some = let never : false ≡ true = sym (ap is_some it) ∙ some in cc
    by (Some w) it some = (w, it)

-- what holds of that holds of the part
pub at_back : (P : Machine → Type 0) (m : Machine) (t : TxnId) (d : Deed) → newest_of m t ≡ Some d → ((w : Write) → d.write ≡ Some w → P (taken_back t (Some w) m)) → P (one (Back t) m)
at_back P m t d is all = let w = newest_writes m t d is in subst P (sym (back_is m t d w.0 is w.1)) (all w.0 w.1)

-- ---- what each has written, and sees

-- nobody has written what it hadn't
back_less : (m : Machine) (t u : TxnId) (d : Deed) (w : Write) (key : ℕ) → newest_of m t ≡ Some d → has_written (taken_back t (Some w) m) u key ≡ true → has_written m u key ≡ true
back_less m t u d w key is any =
    at_or_off (λ ds. list_any (writes_key u.seat key) ds ≡ true → has_written m u key ≡ true) t.node.0 (without_newest t.seat (m.pending t.node.0)) m.pending u.node.0
    (λ node was. ap (λ n. list_any (writes_key u.seat key) (m.pending n)) node ∙ written_less t.seat u.seat key (m.pending t.node.0) d (stands m t d is) was)
    (λ other was. was) any

-- of a key that isn't the write's, each has written and sees what it had
back_same : (m : Machine) (t u : TxnId) (d : Deed) (w : Write) (key : ℕ) → newest_of m t ≡ Some d → writes_key u.seat key d ≡ false → has_written (taken_back t (Some w) m) u key ≡ has_written m u key
back_same m t u d w key is not =
    at_or_off (λ ds. list_any (writes_key u.seat key) ds ≡ has_written m u key) t.node.0 (without_newest t.seat (m.pending t.node.0)) m.pending u.node.0
    (λ node. written_rest t.seat u.seat key (m.pending t.node.0) d (stands m t d is) not ∙ ap (λ n. list_any (writes_key u.seat key) (m.pending n)) (sym node))
    (λ other. refl)

seen_back : (m : Machine) (t u : TxnId) (d : Deed) (w : Write) (key : ℕ) → newest_of m t ≡ Some d → writes_key u.seat key d ≡ false → seen (taken_back t (Some w) m) u key ≡ seen m u key
seen_back m t u d w key is not =
    at_or_off (λ ds. overlaid u.seat key (m.records key) ds ≡ seen m u key) t.node.0 (without_newest t.seat (m.pending t.node.0)) m.pending u.node.0
    (λ node. seen_rest t.seat u.seat key (m.records key) (m.pending t.node.0) d (stands m t d is) not ∙ ap (λ n. overlaid u.seat key (m.records key) (m.pending n)) (sym node))
    (λ other. refl)

present_others : (m : Machine) (t : TxnId) (d : Deed) (w : Write) (key : ℕ) (v : Option (List ℕ)) → newest_of m t ≡ Some d → d.write ≡ Some w → w.key ≢ key → IsPresent m key v → IsPresent (taken_back t (Some w) m) key v
present_others m t d w key v is write apart present = λ u alone.
    present u (λ o was. alone o (back_same m t o d w key is (writes_other o.seat key d w write apart) ∙ was))
    ∙ sym (seen_back m t u d w key is (writes_other u.seat key d w write apart))

-- and of the write's own key, what the transaction sees without the write is present
present_own : (m : Machine) (t : TxnId) (d : Deed) (w : Write) → newest_of m t ≡ Some d → d.write ≡ Some w → AreLocked m → IsPresent (taken_back t (Some w) m) w.key (seen (taken_back t (Some w) m) t w.key)
present_own m t d w is write locked = λ u alone. by u alone (same_or_not t u)
  where
    after : Machine
    after = taken_back t (Some w) m

    wrote : has_written m t w.key ≡ true
    wrote = written_it t.seat (m.pending t.node.0) d w (stands m t d is) write

    by : (u : TxnId) → ((o : TxnId) → has_written after o w.key ≡ true → o ≡ u) → (u ≡ t) ⊎ (u ≢ t) → seen after t w.key ≡ seen after u w.key
    by u alone (inl same) = ap (λ o. seen after o w.key) (sym same)
    by u alone (inr apart) =
        let ours : has_written after t w.key ≡ false = not_written (has_written after t w.key) (λ any. apart (sym (alone t any))) in
        let theirs : has_written after u w.key ≡ false = not_written (has_written after u w.key) (λ any. apart (sym (one_writer m t u w.key locked wrote (back_less m t u d w w.key is any)))) in
        seen_nothing t t after w.key (m.records w.key) ours ∙ sym (seen_nothing t u after w.key (m.records w.key) theirs)

-- ---- what the store means after it

pub pages_back : (p : Plain) (m : Machine) (t : TxnId) (d : Deed) (w : Write) (rec : LogRecord) (v : PageView) → newest_of m t ≡ Some d → d.write ≡ Some w → home m w.key ≡ Some w.page → IsChangedAt (slot_of_key w.key) (seen (taken_back t (Some w) m) t w.key) (p.pages w.page) v
    → AreLocked m → ArePages p m → ArePages (logged t.node.0 rec (with_page w.page v p)) (taken_back t (Some w) m)
pages_back p m t d w rec v is write here changed locked was =
    pages_rest (logged t.node.0 rec (with_page w.page v p)) (record m { pending = (taken_back t (Some w) m).pending; ident = (taken_back t (Some w) m).ident; tail = (taken_back t (Some w) m).tail }) m.mode m.reopening m.hold m.first (taken_back t (Some w) m).loose m.gone
    (pages_written w.key w.page t.node.0 (seen (taken_back t (Some w) m) t w.key) (taken_back t (Some w) m).pending (taken_back t (Some w) m).tail p m rec v here changed
    (present_own m t d w is write locked)
    (λ other u apart. present_others m t d w other u is write apart)
    was)

pub locked_back : (m : Machine) (t : TxnId) (d : Deed) (w : Write) → newest_of m t ≡ Some d → AreLocked m → AreLocked (taken_back t (Some w) m)
locked_back m t d w is was = record { apart = was.apart; written = λ u key any. was.written u key (back_less m t u d w key.0 is any) }

pub logs_back : (p : Plain) (m : Machine) (t : TxnId) (d : Deed) (w : Write) (rec : LogRecord) (v : PageView) → newest_of m t ≡ Some d → AreLogs p m → AreLogs (logged t.node.0 rec (with_page w.page v p)) (taken_back t (Some w) m)
logs_back p m t d w rec v is was = record {
  tail = λ n. tail_longer t.node.0 p m rec n (was.tail n);
  deeds = λ n. by (n == t.node.0) n refl;
  rising = λ n. at_or_off AreInOrder t.node.0 (without_newest t.seat (m.pending t.node.0)) m.pending n
      (λ node. ordered_rest t.seat (m.pending t.node.0) d (stands m t d is) (was.rising t.node.0))
      (λ other. was.rising n);
  homes = λ u. at_or_off (λ ds. All (λ e. IfSome e.write (λ x. home m x.key ≡ Some x.page)) ds) t.node.0 (without_newest t.seat (m.pending t.node.0)) m.pending u.node.0
      (λ node. all_rest t.seat (λ e. IfSome e.write (λ x. home m x.key ≡ Some x.page)) (m.pending t.node.0) d (stands m t d is) (was.homes t))
      (λ other. was.homes u);
}
  where
    here : AreLogged (first_record m t.node.0) (p.live t.node.0 ++ rec ∷ []) (λ seat. m.records) (without_newest t.seat (m.pending t.node.0))
    here = logged_rest t.seat (first_record m t.node.0) (p.live t.node.0 ++ rec ∷ []) (λ seat. m.records) (m.pending t.node.0) d (stands m t d is)
        (logged-longer (first_record m t.node.0) (p.live t.node.0) rec (λ seat. m.records) (m.pending t.node.0) (was.deeds t.node.0))

    by : (b : Bool) (n : ℕ) → (n == t.node.0) ≡ b → AreLogged (first_record m n) (put t.node.0 (p.live t.node.0 ++ rec ∷ []) p.live n) (λ seat. m.records) (put t.node.0 (without_newest t.seat (m.pending t.node.0)) m.pending n)
    by true n is = let same = eqb-true n t.node.0 is in rw is (subst (λ i. AreLogged (first_record m i) (p.live t.node.0 ++ rec ∷ []) (λ seat. m.records) (without_newest t.seat (m.pending t.node.0))) (sym same) here)
    by false n is = rw is (was.deeds n)

-- ---- the write itself

-- it stands in its group's page
pub back_home : (p : Plain) (m : Machine) (t : TxnId) (d : Deed) (w : Write) → newest_of m t ≡ Some d → d.write ≡ Some w → AreLogs p m → home m w.key ≡ Some w.page
back_home p m t d w is write logs = subst (λ o. IfSome o (λ x. home m x.key ≡ Some x.page)) write (at_newest t.seat (λ e. IfSome e.write (λ x. home m x.key ≡ Some x.page)) (m.pending t.node.0) d (stands m t d is) (logs.homes t))

-- and its log record tells what the transaction sees without it
pub back_told : (p : Plain) (m : Machine) (t : TxnId) (d : Deed) (w : Write) → newest_of m t ≡ Some d → d.write ≡ Some w → AreLogs p m → (rec : LogRecord) × (record_at (first_record m t.node.0) (p.live t.node.0) d.number ≡ Some rec) × Tells rec w (seen (taken_back t (Some w) m) t w.key)
back_told p m t d w is write logs = (it.rec, it.there, tells)
  where
    place : IsNewest t.seat (m.pending t.node.0) d
    place = stands m t d is

    it : IsLogged (first_record m t.node.0) (p.live t.node.0) (λ seat key. overlaid seat key (m.records key) place.before) d
    it = logged_newest t.seat (first_record m t.node.0) (p.live t.node.0) (λ seat. m.records) (m.pending t.node.0) d place (logs.deeds t.node.0)

    value : seen (taken_back t (Some w) m) t w.key ≡ overlaid d.seat w.key (m.records w.key) place.before
    value = ap (overlaid t.seat w.key (m.records w.key)) (put_same t.node.0 (without_newest t.seat (m.pending t.node.0)) m.pending t.node.0 refl)
        ∙ seen_before t.seat w.key (m.records w.key) (m.pending t.node.0) d place
        ∙ ap (λ s. overlaid s w.key (m.records w.key) place.before) (sym (own_seat t.seat d place.write))

    tells : Tells it.rec w (seen (taken_back t (Some w) m) t w.key)
    tells = subst (Tells it.rec w) (sym value) (subst (λ o. IfSome o (λ x. Tells it.rec x (overlaid d.seat x.key (m.records x.key) place.before))) write it.wrote)

-- ---- what is left

-- the deeds of the node are one less, and those of the transaction that write are those before but for it
pub back_owed : (m : Machine) (t : TxnId) (d : Deed) (w : Write) → newest_of m t ≡ Some d → owed m t.node.0 ≡ owed (taken_back t (Some w) m) t.node.0 + 1
back_owed m t d w is = rw (put_same t.node.0 (without_newest t.seat (m.pending t.node.0)) m.pending t.node.0 refl) (length_rest t.seat (m.pending t.node.0) d (stands m t d is))

pub back_writes : (m : Machine) (t : TxnId) (d : Deed) (w : Write) → newest_of m t ≡ Some d → writes_of m t ≡ writes_of (taken_back t (Some w) m) t ++ d ∷ []
back_writes m t d w is = rw (put_same t.node.0 (without_newest t.seat (m.pending t.node.0)) m.pending t.node.0 refl) (writes_rest t.seat (m.pending t.node.0) d (stands m t d is))

-- and nothing changes of the others
pub back_others : (m : Machine) (t u : TxnId) → u ≢ t → deeds_of (one (Back t) m) u ≡ deeds_of m u
back_others m t u apart = by (newest_of m t) refl
  where
    kept : (d : Deed) (w : Write) → newest_of m t ≡ Some d → deeds_of (taken_back t (Some w) m) u ≡ deeds_of m u
    kept d w is = at_or_off (λ ds. filter (λ e. e.seat == u.seat) ds ≡ deeds_of m u) t.node.0 (without_newest t.seat (m.pending t.node.0)) m.pending u.node.0
        (λ node.
        let seat = other_seat t u apart node in
        let own = own_seat t.seat d (stands m t d is).write in
        let off : (d.seat == u.seat) ≡ false = grind (arith, nat_tests) in
        filter_rest t.seat (λ e. e.seat == u.seat) (m.pending t.node.0) d (stands m t d is) off ∙ ap (λ n. filter (λ e. e.seat == u.seat) (m.pending n)) (sym node))
        (λ other. refl)

    by : (o : Option Deed) → newest_of m t ≡ o → deeds_of (one (Back t) m) u ≡ deeds_of m u
    by None is = ap (λ o. deeds_of (taken_back t (option_and_then (λ d. d.write) o) m) u) is
    by (Some d) is = at_back (λ o. deeds_of o u ≡ deeds_of m u) m t d is (λ w _. kept d w is)

-- where there is none, it has written nothing
pub none_written : (m : Machine) (t : TxnId) (key : ℕ) → newest_of m t ≡ None → has_written m t key ≡ false
none_written m t key none = no_keys t.seat key (m.pending t.node.0) (none_newest t.seat (m.pending t.node.0) none)

-- ---- all its writes are taken back

one_less : (m : Machine) (t : TxnId) (d : Deed) → newest_of m t ≡ Some d → length (writes_of m t) ≡ length (writes_of (one (Back t) m) t) + 1
one_less m t d is = at_back (λ o. length (writes_of m t) ≡ length (writes_of o t) + 1) m t d is (λ w _. ap length (back_writes m t d w is) ∙ length-append (writes_of (taken_back t (Some w) m) t) (d ∷ []))

-- then it has written nothing
pub all_written : (k : ℕ) (m : Machine) (t : TxnId) → length (writes_of m t) ≡ k → (key : ℕ) → has_written (dos (replicate k (Back t)) m) t key ≡ false
all_written zero m t count key = by (newest_of m t) refl
  where
    by : (o : Option Deed) → newest_of m t ≡ o → has_written m t key ≡ false
    by None is = none_written m t key is
    by (Some d) is = let less = one_less m t d is in absurd (omega (arith, less, count))
all_written (suc k) m t count key = by (newest_of m t) refl (all_written k (one (Back t) m) t)
  where
    by : (o : Option Deed) → newest_of m t ≡ o → (length (writes_of (one (Back t) m) t) ≡ k → (other : ℕ) → has_written (dos (replicate k (Back t)) (one (Back t) m)) t other ≡ false) → has_written (dos (replicate k (Back t)) (one (Back t) m)) t key ≡ false
    by None is ih = let none : length (writes_of m t) ≡ 0 = ap length (no_writes t.seat (m.pending t.node.0) (none_newest t.seat (m.pending t.node.0) is)) in absurd (omega (arith, none, count))
    by (Some d) is ih = let less = one_less m t d is in ih (omega (arith, less, count)) key

-- and each record is as it was committed
kept_records : (k : ℕ) (m : Machine) (t : TxnId) (key : ℕ) → (dos (replicate k (Back t)) m).records key ≡ m.records key
kept_records zero m t key = refl
kept_records (suc k) m t key = kept_records k (one (Back t) m) t key ∙ by (option_and_then (λ d. d.write) (newest_of m t))
  where
    by : (o : Option Write) → (taken_back t o m).records key ≡ m.records key
    by None = refl
    by (Some w) = refl

pub all_undone : (m : Machine) (t : TxnId) (key : ℕ) → (one (Seal t) (dos (replicate (length (writes_of m t)) (Back t)) m)).records key ≡ m.records key
all_undone m t key =
    let after : Machine = dos (replicate (length (writes_of m t)) (Back t)) m in
    seen_nothing t t after key (after.records key) (all_written (length (writes_of m t)) m t refl key) ∙ kept_records (length (writes_of m t)) m t key
